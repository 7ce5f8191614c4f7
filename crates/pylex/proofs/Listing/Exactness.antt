-- The exact type of an operator is that of its text, and no other entry has one.
--
-- Carries: Lister::new. On: Lexed, Lying.
use Rattle.std.proofs.Common.{◌≡◌, ℕ, ◌+◌, ◌-◌, Bool, true, false, not, ◌&&◌, ◌||◌, ◌==◌, zero, suc, List, [], ◌∷◌, ◌++◌, length, take}
use Rattle.std.proofs.Common.{drop, refl, ap, ◌∙◌, sym}
use Rattle.std.proofs.Common.{subst, arith, cond, replicate, Option, Some, None, append_assoc, IsUtf8}
use Rattle.std.specs.Str.{chars, encode_utf8_all, all_scalars}
use Rattle.std.specs.List.{list_all, list_any}
use Rattle.std.specs.Prelude.{nat_lt, option_map, slice_range, All}
use Rattle.std.proofs.lemmas.List.Elements.{All-nil, All-cons}
use Rattle.std.proofs.lemmas.Str.{encodes-append, chars_from_encodes, scalars-chars}
use Rattle.pysource.specs.Places.{place_after}
use Rattle.pysource.specs.Parts.{Parts}
use Rattle.pysource.specs.declared.places.Place.{Place}
use Rattle.pylex_lexeme.specs.declared.kinds.Exact.{Exact}
use Rattle.pylex_lexeme.specs.declared.lexeme.Class.{Class}
use Rattle.pylex_lexeme.specs.declared.lexeme.Class.TheVariants.{Name, Number, String, Operator, Comment, Blanks, LineEnd, Join}
use Rattle.pylex_lexeme.specs.Chars.{bytes_in}
use Rattle.pylex_lexeme.specs.Numbers.{is_number}
use Rattle.pylex_lexeme.specs.Strings.{opens_string, counts_as_string}
use Rattle.pylex_lexeme.specs.Operators.{is_closer, is_operator, exact_of}
use Rattle.pylex_lexeme.specs.Lexemes.{Lexeme, cut, left_by_cut, is_open_string, is_name, is_comment, are_blanks, is_line_end, is_join}
use Rattle.pylex_lexeme.specs.Lexemes.{plain_class, class_in}
use Rattle.pylex_listing.specs.declared.entries.ListingFault.{ListingFault}
use Rattle.pylex_listing.specs.declared.entries.ListingError.TheVariants as errors
use Rattle.pylex_listing.specs.declared.entries.Step.{Step}
use Rattle.pylex_listing.specs.declared.entries.Step.TheVariants as steps
use Rattle.pylex_listing.specs.declared.kind.Kind.{Kind}
use Rattle.pylex_listing.specs.declared.kind.Kind.TheVariants as kinds
use Rattle.pylex_listing.specs.Lines.{text_before, depth, is_significant, is_at_margin, is_logical}
use Rattle.pylex_listing.specs.Indentation.{width_at, widths, open_levels, dedents, layout_by, layout}
use Rattle.pylex_listing.specs.Listing.{listing, in_characters, origin, entry_of, steps_of, stop_fault, last_line, begins_comment}
use Rattle.pylex_listing.specs.Listing.{line_end_of_last, end_place, ends_in_join, tail, stop, steps_from, up_to_end}
use Rattle.pylex_listing.specs.Steps.{entries_of, mark, fault_at}
use Rattle.pylex_listing.specs.Laws.{AreLexemes, HasExact, HaveExact}
use Rattle.pylex_listing.proofs.Callers.{cut_lexed, lexeme_class, drop_of, scalars_of}
use Rattle.pylex.proofs.Listing.Lying.{scalars_after}

-- what stands between the offsets of a piece is its text
take_whole : (a b : List ℕ) → take (length a) (a ++ b) ≡ a
take_whole [] b = refl
take_whole (c ∷ a) b = ap (λ (t : List ℕ). c ∷ t) (take_whole a b)

pub own_text : (a t b : List ℕ) (first last : ℕ) → all_scalars (a ++ (t ++ b)) ≡ true → first ≡ bytes_in a → last ≡ bytes_in a + bytes_in t
    → chars (slice_range (encode_utf8_all (a ++ (t ++ b))) first last) ≡ t
own_text a t b first last good begins ends =
    let front = encode_utf8_all a in
    let own = encode_utf8_all t in
    let rest = encode_utf8_all b in
    let whole : encode_utf8_all (a ++ (t ++ b)) ≡ front ++ (own ++ rest) =
    encodes-append a (t ++ b) ∙ ap (λ (bs : List ℕ). front ++ bs) (encodes-append t b) in
    let size : last - first ≡ length own = omega (arith, begins, ends) in
    let between : take (last - first) (drop first (encode_utf8_all (a ++ (t ++ b)))) ≡ own =
    ap (λ (bs : List ℕ). take (last - first) (drop first bs)) whole
    ∙ ap (λ (n : ℕ). take (last - first) (drop n (front ++ (own ++ rest)))) begins
    ∙ ap (take (last - first)) (drop_of front (own ++ rest))
    ∙ ap (λ (n : ℕ). take n (own ++ rest)) size
    ∙ take_whole own rest in
    let scalars = scalars_of t b (scalars_after a (t ++ b) good) in
    ap chars between ∙ sym (chars_from_encodes t own (t, (scalars, refl)) refl)

-- the class of an operator is by the exact type of its text
abbrev Typed : Class → Option Exact → Type 0
Typed (Operator o) e = e ≡ Some o
Typed _ e = Unit {0}

typed : (n u o c b l j : Bool) (e : Option Exact) (k : Class)
    → cond n (Some Name) (cond u (Some Number) (cond o (option_map Operator e) (cond c (Some Comment) (cond b (Some Blanks)
    (cond l (Some LineEnd) (cond j (Some Join) None)))))) ≡ Some k
    → Typed k e
typed true u o c b l j e k h = let f : Name ≡ k = cc in subst (λ (m : Class). Typed m e) f tt
typed false true o c b l j e k h = let f : Number ≡ k = cc in subst (λ (m : Class). Typed m e) f tt
typed false false true c b l j (Some e) k h = let f : Operator e ≡ k = cc in subst (λ (m : Class). Typed m (Some e)) f refl
typed false false true c b l j None k h = absurd cc
typed false false false true b l j e k h = let f : Comment ≡ k = cc in subst (λ (m : Class). Typed m e) f tt
typed false false false false true l j e k h = let f : Blanks ≡ k = cc in subst (λ (m : Class). Typed m e) f tt
typed false false false false false true j e k h = let f : LineEnd ≡ k = cc in subst (λ (m : Class). Typed m e) f tt
typed false false false false false false true e k h = let f : Join ≡ k = cc in subst (λ (m : Class). Typed m e) f tt
typed false false false false false false false e k h = absurd cc

plain_typed : (t : List ℕ) (k : Class) → plain_class t ≡ Some k → Typed k (exact_of t)
unfolding plain_class
plain_typed t k e = typed (is_name t) (is_number t) (is_operator t) (is_comment t) (are_blanks t) (is_line_end t)
    (is_join t) (exact_of t) k e

class_typed : (cs t : List ℕ) (k : Class) → class_in cs t ≡ Some k → Typed k (exact_of t)
unfolding class_in
class_typed cs t k e = by (opens_string cs) (counts_as_string cs t) e
  where
    by : (o c : Bool) → cond o (cond c (Some String) None) (plain_class t) ≡ Some k → Typed k (exact_of t)
    by true true h = let f : String ≡ k = cc in subst (λ (m : Class). Typed m (exact_of t)) f tt
    by true false h = absurd cc
    by false c h = plain_typed t k h

-- so it is with each entry among some steps
abbrev StepHas : List ℕ → Step → Type 0
StepHas text (steps.Entry e) = HasExact text e
StepHas text steps.End = Unit {0}
StepHas text (steps.Fault f) = Unit {0}

abbrev AllHave : List ℕ → List Step → Type 0
AllHave text [] = Unit {0}
AllHave text (s ∷ ss) = StepHas text s × AllHave text ss

AllHave-append : (text : List ℕ) (ss ts : List Step) → AllHave text ss → AllHave text ts → AllHave text (ss ++ ts)
AllHave-append text [] ts h k = k
AllHave-append text (s ∷ ss) ts h k = (h.0, AllHave-append text ss ts h.1 k)

up_to_end_have : (text : List ℕ) (ss : List Step) → AllHave text ss → AllHave text (up_to_end ss)
up_to_end_have text [] h = h
up_to_end_have text (steps.Entry e ∷ ss) h = (h.0, up_to_end_have text ss h.1)
up_to_end_have text (steps.End ∷ ss) h = (tt, tt)
up_to_end_have text (steps.Fault f ∷ ss) h = (tt, tt)

replicate_have : (text : List ℕ) (n : ℕ) (s : Step) → StepHas text s → AllHave text (replicate n s)
replicate_have text zero s h = tt
replicate_have text (suc n) s h = (h, replicate_have text n s h)

cond_have : (text : List ℕ) (b : Bool) (ss ts : List Step) → AllHave text ss → AllHave text ts → AllHave text (cond b ss ts)
cond_have text true ss ts h k = h
cond_have text false ss ts h k = k

cond_step : (text : List ℕ) (b : Bool) (s t : Step) → StepHas text s → StepHas text t → StepHas text (cond b s t)
cond_step text true s t h k = h
cond_step text false s t h k = k

abbrev exact_by : Option Exact → Kind → Option Exact
exact_by x k = elim k [ kinds.Op ↦ x | _ ↦ None ]

line_end_has : (b : Bool) (x : Option Exact) → None ≡ exact_by x (cond b kinds.Newline kinds.Nl)
line_end_has true x = refl
line_end_has false x = refl

-- the steps before and after a place
module _ (cs : List ℕ) (before : List Lexeme) where
  layout_have : AllHave cs (layout before)
  unfolding layout layout_by
  layout_have =
      cond_have cs (is_at_margin before) _ []
      (cond_have cs (list_all (λ v. nat_lt v (width_at before)) (open_levels (widths before))) _ _
      (refl, tt)
      (cond_have cs (list_any (λ v. v == width_at before) (open_levels (widths before))) _ _
      (replicate_have cs _ _ refl)
      (tt, tt)))
      tt

  entry_has : (x : Lexeme) (rest : List ℕ) → all_scalars cs ≡ true → cs ≡ text_before before ++ (x.text ++ rest)
      → Typed x.«class» (exact_of x.text)
      → AllHave cs (entry_of before x)
  unfolding entry_of
  entry_has x rest good h typed = by_class x.«class» x.text h typed
    where
      by_class : (k : Class) (t : List ℕ) → cs ≡ text_before before ++ (t ++ rest) → Typed k (exact_of t)
          → AllHave cs (entry_of before (record { «class» = k; text = t }))
      by_class Name t h typed = (refl, tt)
      by_class Number t h typed = (refl, tt)
      by_class String t h typed = (refl, tt)
      by_class (Operator o) t h typed =
          let first = bytes_in (text_before before) in
          let last = bytes_in (text_before before) + bytes_in t in
          let own = ap (λ (u : List ℕ). chars (slice_range (encode_utf8_all u) first last)) h
          ∙ own_text (text_before before) t rest first last (sym (ap all_scalars h) ∙ good) refl refl in
          let exact : Some o ≡ exact_of (chars (slice_range (encode_utf8_all cs) first last)) = sym typed ∙ ap exact_of (sym own) in
          cond_have cs (is_closer o && (depth before == 0)) _ _ (tt, tt) (exact, tt)
      by_class Comment t h typed = (refl, tt)
      by_class Blanks t h typed = tt
      by_class LineEnd t h typed = (line_end_has (is_logical before && (depth before == 0)) _, tt)
      by_class Join t h typed = tt

  steps_have : (x : Lexeme) (rest : List ℕ) → all_scalars cs ≡ true → cs ≡ text_before before ++ (x.text ++ rest)
      → Typed x.«class» (exact_of x.text)
      → AllHave cs (steps_of before x)
  unfolding steps_of
  steps_have x rest good h typed =
      AllHave-append cs _ (entry_of before x) (cond_have cs (is_significant x) (layout before) [] layout_have tt)
      (entry_has x rest good h typed)

  last_has : (p : Place) → AllHave cs (line_end_of_last before p)
  unfolding line_end_of_last
  last_has p =
      cond_have cs (is_logical before) _ _
      (cond_have cs (begins_comment (last_line (text_before before))) [] _ tt (refl, tt))
      (cond_have cs (is_at_margin before) [] _ tt (refl, tt))

  tail_has : (p : Place) → AllHave cs (tail before p)
  unfolding tail
  tail_has p =
      cond_have cs (not (depth before == 0) || ends_in_join before) _ _ (tt, tt)
      (AllHave-append cs (line_end_of_last before p ++ dedents 0 (open_levels (widths before)) (text_before before) (end_place before p)) _
      (AllHave-append cs (line_end_of_last before p) _ (last_has p) (replicate_have cs _ _ refl))
      (refl, (tt, tt)))

  stop_has : (fault : Option ListingFault) (left : List ℕ) → AllHave cs (stop fault before left)
  unfolding stop stop_fault
  stop_has fault left =
      cond_have cs (not (length left == 0)) _ _
      (AllHave-append cs (layout before) _ layout_have (fault_has fault (place_after (text_before before)), tt))
      (by_fault fault)
    where
      in_string : (fault : Option ListingFault) (p : Place)
          → StepHas cs (elim fault [ Some f ↦ steps.Fault f | None ↦ fault_at errors.EofInString p ])
      in_string (Some f) p = tt
      in_string None p = tt

      fault_has : (fault : Option ListingFault) (p : Place) → StepHas cs (stop_fault fault p left)
      fault_has fault p = cond_step cs (not (opens_string left)) _ _ tt
          (cond_step cs (not (is_open_string left)) _ _ tt (in_string fault p))

      by_fault : (fault : Option ListingFault)
          → AllHave cs (elim fault [ Some f ↦ steps.Fault f ∷ [] | None ↦ tail before (place_after (text_before before)) ])
      by_fault (Some f) = (tt, tt)
      by_fault None = tail_has (place_after (text_before before))

all_have : (cs : List ℕ) (fault : Option ListingFault) (left : List ℕ) → all_scalars cs ≡ true → (xs before : List Lexeme) (text : List ℕ)
    → cs ≡ text_before before ++ text → AreLexemes text xs left → AllHave cs (steps_from fault left before xs)
all_have cs fault left good [] before text h l = stop_has cs before fault left
all_have cs fault left good (x ∷ xs) before text h l =
    let on : cs ≡ text_before before ++ (x.text ++ l.0) = h ∙ ap (λ (t : List ℕ). text_before before ++ t) l.2 in
    let typed = class_typed text x.text x.«class» (lexeme_class text x l.1) in
    AllHave-append cs (steps_of before x) _ (steps_have cs before x l.0 good on typed)
    (all_have cs fault left good xs (x ∷ before) l.0 (on ∙ sym (append_assoc (text_before before) x.text l.0)) l.3)

entries_have : (text : List ℕ) (ss : List Step) → AllHave text ss → All (HasExact text) (entries_of ss)
entries_have text [] h = All-nil (HasExact text)
entries_have text (steps.Entry e ∷ ss) h = All-cons (HasExact text) e (entries_of ss) h.0 (entries_have text ss h.1)
entries_have text (steps.End ∷ ss) h = entries_have text ss h.1
entries_have text (steps.Fault f ∷ ss) h = entries_have text ss h.1

pub have_exact : (p : Parts) → IsUtf8 p.text → HaveExact (in_characters p)
unfolding listing
have_exact p u =
    let s = in_characters p in
    entries_have s.text (listing s)
    (up_to_end_have s.text (mark kinds.Encoding [] origin origin ∷ steps_from s.fault (left_by_cut s.text) [] (cut s.text))
    (refl, all_have s.text s.fault (left_by_cut s.text) (scalars-chars p.text u) (cut s.text) [] s.text refl (cut_lexed s.text)))
