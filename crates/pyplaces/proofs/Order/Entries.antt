-- The entries of a listing that are tokens of a line stand one after another, each with its own text.
--
-- Carries: Follow, entries_follow, for TokenLines.
use Rattle.std.proofs.Common.{◌≡◌, ℕ, zero, suc, ◌+◌, ◌≤◌, Bool, true, false, not, ◌&&◌, ◌||◌, ◌==◌, cond, List, [], ◌∷◌, ◌++◌, length}
use Rattle.std.proofs.Common.{replicate, refl, sym, ap, subst, ◌∙◌, arith, append_assoc, length-append, Option, Some, None}
use Rattle.std.specs.Prelude.{nat_lt, option_map}
use Rattle.std.specs.List.{list_all, list_any}
use Rattle.std.specs.Str.{encode_utf8_all, all_scalars}
use Rattle.std.proofs.Math.Utf8.{scalar}
use Rattle.std.proofs.lemmas.Bool.{and_parts}
use Rattle.std.proofs.lemmas.Str.{encodes-append}
use Rattle.pysource.specs.declared.places.Place.{Place}
use Rattle.pysource.specs.Places.{place_after}
use Rattle.pylex_lexeme.specs.declared.lexeme.Class.{Class}
use Rattle.pylex_lexeme.specs.declared.lexeme.Class.TheVariants.{Name, Number, String, Operator, Comment, Blanks, LineEnd, Join}
use Rattle.pylex_lexeme.specs.Chars.{bytes_in}
use Rattle.pylex_lexeme.specs.declared.kinds.Exact.{Exact}
use Rattle.pylex_lexeme.specs.Numbers.{is_number}
use Rattle.pylex_lexeme.specs.Strings.{opens_string, counts_as_string, is_string}
use Rattle.pylex_lexeme.specs.Operators.{is_closer, is_operator, exact_of}
use Rattle.pylex_lexeme.specs.Lexemes.{Lexeme, is_name, is_comment, are_blanks, is_line_end, is_join, plain_class, class_in, cut}
use Rattle.pylex_lexeme.specs.Lexemes.{left_by_cut, is_open_string}
use Rattle.pylex_listing.specs.declared.kind.Kind.{Kind}
use Rattle.pylex_listing.specs.declared.kind.Kind.TheVariants as kinds
use Rattle.pylex_listing.specs.declared.entries.Entry.{Entry}
use Rattle.pylex_listing.specs.declared.entries.ListingFault.{ListingFault}
use Rattle.pylex_listing.specs.declared.entries.ListingError.TheVariants as errors
use Rattle.pylex_listing.specs.declared.entries.Step.{Step}
use Rattle.pylex_listing.specs.declared.entries.Step.TheVariants as steps
use Rattle.pylex_listing.specs.Lines.{text_before, depth, is_significant, is_at_margin, is_logical}
use Rattle.pylex_listing.specs.Indentation.{width_at, widths, open_levels, dedents, layout_by, layout}
use Rattle.pylex_listing.specs.Listing.{Source, listing, origin, entry_of, steps_of, stop_fault, last_line, begins_comment}
use Rattle.pylex_listing.specs.Listing.{line_end_of_last, end_place, ends_in_join, tail, stop, steps_from, up_to_end}
use Rattle.pylex_listing.specs.Steps.{entries_of, mark, fault_at}
use Rattle.pylex_listing.specs.Laws.{AreLexemes}
use Rattle.pylex_listing.proofs.Callers.{cut_lexed, longest_wins, scalars_of}
use Rattle.pyfstring_tokens.specs.FieldTokens.{is_token_kind}
use Rattle.pytoken.specs.Tokens.{text_of}
use Rattle.pytoken.proofs.Callers.TextLemmas.{own_text, counted}

-- ---- Bytes of texts.

pub bytes_both : (a b : List ℕ) → bytes_in (a ++ b) ≡ bytes_in a + bytes_in b
bytes_both a b = ap length (encodes-append a b) ∙ length-append (encode_utf8_all a) (encode_utf8_all b)

pub scalars_back : (a b : List ℕ) → all_scalars (a ++ b) ≡ true → all_scalars b ≡ true
scalars_back [] b h = h
scalars_back (c ∷ a) b h = scalars_back a b (and_parts (scalar c) (all_scalars (a ++ b)) h).1

-- ---- Strings.

-- what a STRING says of its text
abbrev pub IsString : Kind → List ℕ → Type 0
IsString kinds.String t = is_string t ≡ true
IsString k t = Unit {0}

not_plain : (t : List ℕ) → plain_class t ≡ Some String → ⊥
unfolding plain_class
not_plain t = by (is_name t) (is_number t) (is_operator t) (is_comment t) (are_blanks t) (is_line_end t) (is_join t) (exact_of t)
  where
    by : (n u o c b l j : Bool) (e : Option Exact) → cond n (Some Name) (cond u (Some Number) (cond o (option_map Operator e)
        (cond c (Some Comment) (cond b (Some Blanks) (cond l (Some LineEnd) (cond j (Some Join) None)))))) ≡ Some String → ⊥
    by true u o c b l j e h = absurd cc
    by false true o c b l j e h = absurd cc
    by false false true c b l j (Some e) h = absurd cc
    by false false true c b l j None h = absurd cc
    by false false false true b l j e h = absurd cc
    by false false false false true l j e h = absurd cc
    by false false false false false true j e h = absurd cc
    by false false false false false false true e h = absurd cc
    by false false false false false false false e h = absurd cc

-- what a class says of a text
abbrev Said : Class → List ℕ → Type 0
Said String t = is_string t ≡ true
Said k t = Unit {0}

class_said : (cs t : List ℕ) (k : Class) → class_in cs t ≡ Some k → Said k t
unfolding class_in
class_said cs t Name e = tt
class_said cs t Number e = tt
class_said cs t (Operator o) e = tt
class_said cs t Comment e = tt
class_said cs t Blanks e = tt
class_said cs t LineEnd e = tt
class_said cs t Join e = tt
class_said cs t String e = by (opens_string cs) (counts_as_string cs t) (counted cs t) e
  where
    by : (o c : Bool) → (c ≡ true → is_string t ≡ true) → cond o (cond c (Some String) None) (plain_class t) ≡ Some String
        → is_string t ≡ true
    by true true counts h = counts refl
    by true false counts h = absurd cc
    by false c counts h = absurd (not_plain t h)

-- ---- Entries between bytes.

-- a token of a line, with its own text
pub record IsOwn (text : List ℕ) (lo : ℕ) (e : Entry) (hi : ℕ) : Type 0 where
  pub begins : lo ≤ e.«from»
  pub ends : e.«from» + bytes_in (text_of text e) ≤ hi
  pub scalars : all_scalars (text_of text e) ≡ true
  pub string : IsString e.kind (text_of text e)

pub record Link (text : List ℕ) (lo : ℕ) (e : Entry) (hi : ℕ) : Type 0 where
  pub forward : lo ≤ hi
  pub own : is_token_kind e.kind ≡ true → IsOwn text lo e hi

-- the tokens of lines among some entries stand one after another
abbrev pub Follow : List ℕ → ℕ → List Entry → ℕ → Type 0
Follow text lo [] hi = lo ≤ hi
Follow text lo (e ∷ es) hi = (mid : ℕ) × Link text lo e mid × Follow text mid es hi

-- and among some steps, up to an end
abbrev StepsFollow : List ℕ → ℕ → List Step → ℕ → Type 0
StepsFollow text lo [] hi = lo ≤ hi
StepsFollow text lo (steps.Entry e ∷ ss) hi = (mid : ℕ) × Link text lo e mid × StepsFollow text mid ss hi
StepsFollow text lo (steps.End ∷ ss) hi = lo ≤ hi
StepsFollow text lo (steps.Fault f ∷ ss) hi = lo ≤ hi

lower : (text : List ℕ) (low lo : ℕ) (ss : List Step) (hi : ℕ) → low ≤ lo → StepsFollow text lo ss hi → StepsFollow text low ss hi
lower text low lo [] hi a h = omega (arith, a, h)
lower text low lo (steps.Entry e ∷ ss) hi a h =
    let l = h.1 in (
      h.0,
      record {
        forward = omega (arith, a, l.forward);
        own = λ is. let o = l.own is in
            record { begins = omega (arith, a, o.begins); ends = o.ends; scalars = o.scalars; string = o.string };
      },
      h.2,
    )
lower text low lo (steps.End ∷ ss) hi a h = omega (arith, a, h)
lower text low lo (steps.Fault f ∷ ss) hi a h = omega (arith, a, h)

reach : (text : List ℕ) (lo : ℕ) (ss : List Step) (hi : ℕ) → StepsFollow text lo ss hi → lo ≤ hi
reach text lo [] hi h = h
reach text lo (steps.Entry e ∷ ss) hi h = let k = reach text h.0 ss hi h.2 in omega (arith, h.1.forward, k)
reach text lo (steps.End ∷ ss) hi h = h
reach text lo (steps.Fault f ∷ ss) hi h = h

joined : (text : List ℕ) (lo mid hi : ℕ) (ss ts : List Step) → StepsFollow text lo ss mid → StepsFollow text mid ts hi
    → StepsFollow text lo (ss ++ ts) hi
joined text lo mid hi [] ts h k = lower text lo mid ts hi h k
joined text lo mid hi (steps.Entry e ∷ ss) ts h k = (h.0, h.1, joined text h.0 mid hi ss ts h.2 k)
joined text lo mid hi (steps.End ∷ ss) ts h k = let r = reach text mid ts hi k in omega (arith, h, r)
joined text lo mid hi (steps.Fault f ∷ ss) ts h k = let r = reach text mid ts hi k in omega (arith, h, r)

chained : (text : List ℕ) (lo : ℕ) (ss : List Step) (hi : ℕ) → StepsFollow text lo ss hi → Follow text lo (entries_of (up_to_end ss)) hi
chained text lo [] hi h = h
chained text lo (steps.Entry e ∷ ss) hi h = (h.0, h.1, chained text h.0 ss hi h.2)
chained text lo (steps.End ∷ ss) hi h = h
chained text lo (steps.Fault f ∷ ss) hi h = h

-- ---- Entries that are no tokens of a line.

abbrev Beside : List Step → Type 0
Beside [] = Unit {0}
Beside (steps.Entry e ∷ ss) = (is_token_kind e.kind ≡ false) × Beside ss
Beside (steps.End ∷ ss) = Beside ss
Beside (steps.Fault f ∷ ss) = Beside ss

beside_both : (ss ts : List Step) → Beside ss → Beside ts → Beside (ss ++ ts)
beside_both [] ts h k = k
beside_both (steps.Entry e ∷ ss) ts h k = (h.0, beside_both ss ts h.1 k)
beside_both (steps.End ∷ ss) ts h k = beside_both ss ts h k
beside_both (steps.Fault f ∷ ss) ts h k = beside_both ss ts h k

beside_if : (b : Bool) (ss ts : List Step) → Beside ss → Beside ts → Beside (cond b ss ts)
beside_if true ss ts h k = h
beside_if false ss ts h k = k

follow_beside : (text : List ℕ) (lo : ℕ) (ss : List Step) (hi : ℕ) → Beside ss → lo ≤ hi → StepsFollow text lo ss hi
follow_beside text lo [] hi b h = h
follow_beside text lo (steps.Entry e ∷ ss) hi b h =
    (lo, record { forward = omega arith; own = λ is. absurd (no (is_token_kind e.kind) is b.0) }, follow_beside text lo ss hi b.1 h)
  where
    no : (b : Bool) → b ≡ true → b ≡ false → ⊥
    no true is h = absurd cc
    no false is h = absurd cc
follow_beside text lo (steps.End ∷ ss) hi b h = h
follow_beside text lo (steps.Fault f ∷ ss) hi b h = h

dedents_beside : (n : ℕ) (cs : List ℕ) (p : Place) → Beside (replicate n (mark kinds.Dedent cs p p))
dedents_beside zero cs p = tt
dedents_beside (suc n) cs p = (refl, dedents_beside n cs p)

module _ (before : List Lexeme) where
  layout_beside : Beside (layout before)
  unfolding layout layout_by
  layout_beside =
      beside_if (is_at_margin before) _ []
      (beside_if (list_all (λ v. nat_lt v (width_at before)) (open_levels (widths before))) _ _ (refl, tt)
      (beside_if (list_any (λ v. v == width_at before) (open_levels (widths before))) _ _
      (dedents_beside _ (text_before before) (place_after (text_before before))) tt)) tt

  last_beside : (p : Place) → Beside (line_end_of_last before p)
  unfolding line_end_of_last
  last_beside p =
      beside_if (is_logical before) _ _
      (beside_if (begins_comment (last_line (text_before before))) [] _ tt (refl, tt))
      (beside_if (is_at_margin before) [] _ tt (refl, tt))

  tail_beside : (p : Place) → Beside (tail before p)
  unfolding tail
  tail_beside p =
      let marks = dedents 0 (open_levels (widths before)) (text_before before) (end_place before p) in
      beside_if (not (depth before == 0) || ends_in_join before) _ _ tt
      (beside_both (line_end_of_last before p ++ marks) _
      (beside_both (line_end_of_last before p) marks (last_beside p) (dedents_beside _ (text_before before) (end_place before p)))
      (refl, tt))

  stop_beside : (fault : Option ListingFault) (left : List ℕ) → Beside (stop fault before left)
  unfolding stop stop_fault
  stop_beside fault left =
      beside_if (not (length left == 0)) _ _
      (beside_both (layout before) _ layout_beside (by (opens_string left) (is_open_string left) fault))
      (by_fault fault)
    where
      by : (a b : Bool) (o : Option ListingFault) → Beside ((cond (not a) (fault_at errors.BadCharacter (place_after (text_before before)))
          (cond (not b) (fault_at errors.UnterminatedString (place_after (text_before before)))
          (elim o [ Some f ↦ steps.Fault f | None ↦ fault_at errors.EofInString (place_after (text_before before)) ]))) ∷ [])
      by true true (Some f) = tt
      by true true None = tt
      by true false o = tt
      by false b o = tt

      by_fault : (fault : Option ListingFault)
          → Beside (elim fault [ Some f ↦ steps.Fault f ∷ [] | None ↦ tail before (place_after (text_before before)) ])
      by_fault (Some f) = tt
      by_fault None = tail_beside (place_after (text_before before))

-- ---- The entries of lexemes.

-- an entry of a text's own bytes
link : (cs a t b : List ℕ) (e : Entry) → all_scalars cs ≡ true → cs ≡ a ++ (t ++ b) → e.«from» ≡ bytes_in a
    → e.to ≡ bytes_in a + bytes_in t → IsString e.kind t → Link cs (bytes_in a) e (bytes_in a + bytes_in t)
link cs a t b e good h first last string =
    let own : text_of cs e ≡ t = ap (λ (u : List ℕ). text_of u e) h ∙ own_text a t b e (sym (ap all_scalars h) ∙ good) first last in
    let size : bytes_in (text_of cs e) ≡ bytes_in t = ap bytes_in own in
    record {
      forward = omega arith;
      own = λ is. record {
        begins = omega (arith, first);
        ends = omega (arith, first, size);
        scalars = ap all_scalars own ∙ scalars_of t b (scalars_back a (t ++ b) (sym (ap all_scalars h) ∙ good));
        string = subst (IsString e.kind) (sym own) string;
      };
    }

module _ (cs : List ℕ) (good : all_scalars cs ≡ true) (before : List Lexeme) where
  entry_follows : (x : Lexeme) (rest : List ℕ) → cs ≡ text_before before ++ (x.text ++ rest) → Said x.«class» x.text
      → StepsFollow cs (bytes_in (text_before before)) (entry_of before x) (bytes_in (text_before before) + bytes_in x.text)
  unfolding entry_of
  entry_follows x rest h said = by x.«class» x.text h said
    where
      from : ℕ
      from = bytes_in (text_before before)

      one : (t : List ℕ) (e : Entry) → cs ≡ text_before before ++ (t ++ rest) → e.«from» ≡ from → e.to ≡ from + bytes_in t
          → IsString e.kind t → StepsFollow cs from (steps.Entry e ∷ []) (from + bytes_in t)
      one t e h first last string = (from + bytes_in t, link cs (text_before before) t rest e good h first last string, omega arith)

      by : (k : Class) (t : List ℕ) → cs ≡ text_before before ++ (t ++ rest) → Said k t
          → StepsFollow cs from (entry_of before (record { «class» = k; text = t })) (from + bytes_in t)
      by Name t h said = one t _ h refl refl tt
      by Number t h said = one t _ h refl refl tt
      by String t h said = one t _ h refl refl said
      by (Operator o) t h said = choice (is_closer o && (depth before == 0))
        where
          choice : (b : Bool) → StepsFollow cs from (cond b (fault_at errors.UnmatchedCloser (place_after (text_before before)) ∷ [])
              (steps.Entry (record {
                kind = kinds.Op;
                exact = Some o;
                start = place_after (text_before before);
                «end» = place_after (text_before before ++ t);
                «from» = from;
                to = from + bytes_in t;
              }) ∷ [])) (from + bytes_in t)
          choice true = omega arith
          choice false = one t _ h refl refl tt
      by Comment t h said = one t _ h refl refl tt
      by Blanks t h said = omega arith
      by LineEnd t h said = one t _ h refl refl (end_free (is_logical before && (depth before == 0)))
        where
          end_free : (b : Bool) → IsString (cond b kinds.Newline kinds.Nl) t
          end_free true = tt
          end_free false = tt
      by Join t h said = omega arith

  steps_follow : (x : Lexeme) (rest : List ℕ) → cs ≡ text_before before ++ (x.text ++ rest) → Said x.«class» x.text
      → StepsFollow cs (bytes_in (text_before before)) (steps_of before x) (bytes_in (text_before before) + bytes_in x.text)
  unfolding steps_of
  steps_follow x rest h said =
      let from = bytes_in (text_before before) in
      joined cs from from (from + bytes_in x.text) (cond (is_significant x) (layout before) []) (entry_of before x)
      (follow_beside cs from _ from (beside_if (is_significant x) (layout before) [] (layout_beside before) tt) (omega arith))
      (entry_follows x rest h said)

all_follow : (cs : List ℕ) (good : all_scalars cs ≡ true) (fault : Option ListingFault) (left : List ℕ) (xs before : List Lexeme)
    (text : List ℕ) → cs ≡ text_before before ++ text → AreLexemes text xs left
    → StepsFollow cs (bytes_in (text_before before)) (steps_from fault left before xs) (bytes_in cs)
all_follow cs good fault left [] before text h l =
    let size : bytes_in cs ≡ bytes_in (text_before before) + bytes_in text = ap bytes_in h ∙ bytes_both (text_before before) text in
    follow_beside cs (bytes_in (text_before before)) (stop fault before left) (bytes_in cs) (stop_beside before fault left)
    (omega (arith, size))
all_follow cs good fault left (x ∷ xs) before text h l =
    let on : cs ≡ text_before before ++ (x.text ++ l.0) = h ∙ ap (λ (t : List ℕ). text_before before ++ t) l.2 in
    let said = class_said text x.text x.«class» ((longest_wins text).longest x l.1).in_class in
    let from = bytes_in (text_before before) in
    let next : bytes_in (text_before before ++ x.text) ≡ from + bytes_in x.text = bytes_both (text_before before) x.text in
    let more = all_follow cs good fault left xs (x ∷ before) l.0 (on ∙ sym (append_assoc (text_before before) x.text l.0)) l.3 in
    joined cs from (from + bytes_in x.text) (bytes_in cs) (steps_of before x) (steps_from fault left (x ∷ before) xs)
    (steps_follow cs good before x l.0 on said)
    (subst (λ (n : ℕ). StepsFollow cs n (steps_from fault left (x ∷ before) xs) (bytes_in cs)) next more)

pub entries_follow : (s : Source) → all_scalars s.text ≡ true → Follow s.text 0 (entries_of (listing s)) (bytes_in s.text)
unfolding listing
entries_follow s good =
    let start = mark kinds.Encoding [] origin origin in
    let later = steps_from s.fault (left_by_cut s.text) [] (cut s.text) in
    let rest : StepsFollow s.text 0 later (bytes_in s.text) =
    all_follow s.text good s.fault (left_by_cut s.text) (cut s.text) [] s.text refl (cut_lexed s.text) in
    chained s.text 0 (start ∷ later) (bytes_in s.text)
    (joined s.text 0 0 (bytes_in s.text) (start ∷ []) later (follow_beside s.text 0 (start ∷ []) 0 (refl, tt) (omega arith)) rest)
