-- Carries: spell_match, read_line. On: the texts of a line's first and last token, and
-- the last token of a source.
use Rattle.std.proofs.Common.{◌≡◌, ℕ, Bool, true, false, List, [], ◌∷◌, ◌++◌, length, refl, sym, ap, ◌∙◌, append_assoc, ◌<◌}
use Rattle.std.proofs.Common.{arith, Some, None}
use Rattle.std.specs.Prelude.{◌&&◌}
use Rattle.std.specs.Str.{bytes_eq, IsAscii}
use Rattle.std.proofs.lemmas.Str.Ascii.{IsAscii-nil, IsAscii-cons}
use Rattle.pylex_listing.specs.declared.kind.Kind.TheVariants as kinds
use Rattle.pylex_listing.specs.declared.entries.Entry.{Entry}
use Rattle.pylex_listing.specs.declared.entries.Step.{Step}
use Rattle.pylex_listing.specs.declared.entries.Step.TheVariants as steps
use Rattle.pylex_listing.specs.Listing.{Source, listing}
use Rattle.pylex_listing.specs.Steps.{entries_of, fault_of, IsNoEntry}
use Rattle.pylex_listing.specs.Laws.{AreWhole}
use Rattle.pytoken.specs.Inner.Following.{following}
use Rattle.pytoken.specs.Tokens.{Token, token_of, supplied, is_open, tokens_of_entry, tokens_from, tokens}
use Rattle.pytoken.proofs.Callers.OnePass.{tokens_on}
use Rattle.pytoken.specs.MatchHeaders.{ends_in_colon, is_match}
use Rattle.pyparse_tokens.specs.LineReadings.{EndsAt}
use Rattle.pyparse_tokens.specs.Inner.OpenLines.{first_text, last_text, spell_match}
use Rattle.pyparse_tokens.proofs.ListingLemmas.{fault_last}

-- ---- Texts.

pub match_is_ascii : IsAscii (109 ∷ 97 ∷ 116 ∷ 99 ∷ 104 ∷ [])
match_is_ascii =
    IsAscii-cons 109 (97 ∷ 116 ∷ 99 ∷ 104 ∷ []) (omega arith)
    (IsAscii-cons 97 (116 ∷ 99 ∷ 104 ∷ []) (omega arith)
    (IsAscii-cons 116 (99 ∷ 104 ∷ []) (omega arith)
    (IsAscii-cons 99 (104 ∷ []) (omega arith) (IsAscii-cons 104 [] (omega arith) IsAscii-nil))))

pub colon_is_ascii : IsAscii (58 ∷ [])
colon_is_ascii = IsAscii-cons 58 [] (omega arith) IsAscii-nil

-- ---- The ends of a line.

-- one token more
pub last_on : (line : List Token) (t : Token) → last_text (line ++ t ∷ []) ≡ Some t.text
last_on [] t = refl
last_on (u ∷ []) t = refl
last_on (u ∷ v ∷ line) t = last_on (v ∷ line) t

colon_last : (t : Token) (line : List Token) (last : List ℕ) → last_text (t ∷ line) ≡ Some last
    → ends_in_colon (t ∷ line) ≡ bytes_eq last (58 ∷ [])
colon_last t [] last is = let same : t.text ≡ last = cc in ap (λ (w : List ℕ). bytes_eq w (58 ∷ [])) same
colon_last t (u ∷ line) last is = colon_last u line last is

has_last : (t : Token) (line : List Token) → (w : List ℕ) × (last_text (t ∷ line) ≡ Some w)
has_last t [] = (t.text, refl)
has_last t (u ∷ line) = has_last u line

-- a line that has tokens looks like a `match` statement where its ends do
pub match_is : (line : List Token) (first last : List ℕ) → ((t : List ℕ) → first_text line ≡ Some t → first ≡ t)
    → ((t : List ℕ) → last_text line ≡ Some t → last ≡ t) →
    0 < length line → spell_match first last ≡ is_match line
match_is [] first last f l some = absurd (omega (arith, some))
match_is (t ∷ line) first last f l some =
    let one : first ≡ t.text = f t.text refl in
    let end = has_last t line in
    let other : ends_in_colon (t ∷ line) ≡ bytes_eq last (58 ∷ []) = colon_last t line end.0 end.1
    ∙ ap (λ (w : List ℕ). bytes_eq w (58 ∷ [])) (sym (l end.0 end.1)) in
    ap (λ (w : List ℕ). bytes_eq w (109 ∷ 97 ∷ 116 ∷ 99 ∷ 104 ∷ []) && bytes_eq last (58 ∷ [])) one
    ∙ ap (λ (b : Bool). bytes_eq t.text (109 ∷ 97 ∷ 116 ∷ 99 ∷ 104 ∷ []) && b) (sym other)

-- ---- The end of a source.

parts : {A : Type 0} (a b : A) (xs ys : List A) → a ∷ xs ≡ b ∷ ys → (a ≡ b) × (xs ≡ ys)
parts a b xs ys e = (cc, cc)

nil_or_more : {A : Type 0} (xs : List A) (b : A) (a : A) → [] ≡ xs ++ b ∷ [] → ⊥
nil_or_more [] b a e = cc
nil_or_more (x ∷ xs) b a e = cc

-- the last of a list
pub same_last : {A : Type 0} (xs ys : List A) (a b : A) → xs ++ a ∷ [] ≡ ys ++ b ∷ [] → a ≡ b
same_last [] [] a b e = (parts a b [] [] e).0
same_last [] (y ∷ ys) a b e = absurd (nil_or_more ys b a (parts a y [] (ys ++ b ∷ []) e).1)
same_last (x ∷ xs) [] a b e = absurd (nil_or_more xs a b (sym (parts x b (xs ++ a ∷ []) [] e).1))
same_last (x ∷ xs) (y ∷ ys) a b e = same_last xs ys a b (parts x y (xs ++ a ∷ []) (ys ++ b ∷ []) e).1

ends_whole : (ss : List Step) (w : AreWhole ss) → fault_of ss ≡ None → w.last ≡ steps.End
ends_whole ss w none = by w.last w.stops (sym (fault_last (entries_of ss) w.last) ∙ ap fault_of (sym w.whole) ∙ none)
  where
    by : (s : Step) → IsNoEntry s → fault_of (s ∷ []) ≡ None → s ≡ steps.End
    by (steps.Entry e) stops is = absurd stops
    by steps.End stops is = refl
    by (steps.Fault f) stops is = absurd (cc)

abbrev LastOf : Entry → List Token → Type 0
LastOf e ts = (front : List Token) × (t : Token) × (ts ≡ front ++ t ∷ []) × (t.start ≡ e.start)

marker_last : (text : List ℕ) (begun : Bool) (e : Entry) → e.kind ≡ kinds.EndMarker → LastOf e (tokens_of_entry text begun e)
marker_last text begun e is = by begun
  where
    by : (b : Bool) → LastOf e (tokens_of_entry text b e)
    by true = (supplied text ∷ [], token_of text e, rw is refl, refl)
    by false = ([], token_of text e, rw is refl, refl)

-- where the listing comes to its end, ENDMARKER is the last token
pub ends_at : (s : Source) → AreWhole (listing s) → fault_of (listing s) ≡ None
    → (front : List Entry) × (e : Entry) × (entries_of (listing s) ≡ front ++ e ∷ [])
    × (e.kind ≡ kinds.EndMarker) × EndsAt s e.start
unfolding tokens
ends_at s w none =
    let m = w.marker (ends_whole (listing s) w none) in
    let front = m.0 in
    let e = m.1 in
    let l = marker_last s.text (is_open (following [] front)) e m.3 in
    let before = tokens_from s.text [] front in (
      front,
      e,
      m.2,
      m.3,
      record {
        before = before ++ l.0;
        last = l.1;
        tokens =
            ap (tokens_from s.text []) m.2 ∙ tokens_on s.text [] front e ∙ ap (λ (ts : List Token). before ++ ts) l.2
            ∙ sym (append_assoc before l.0 (l.1 ∷ []));
        start = l.3;
      },
    )
