-- Each entry of a listing lies in the text.
--
-- Carries: Lister::new. On: Law, Run, Lexed.
use Rattle.std.proofs.Common.{◌≡◌, ℕ, ◌+◌, Bool, true, false, not, ◌&&◌, ◌||◌, ◌==◌, zero, suc, List, [], ◌∷◌, ◌++◌, length, refl, ap, ◌∙◌}
use Rattle.std.proofs.Common.{sym, subst, arith, cond, replicate, Option, Some, None, append_assoc, IsUtf8, slice_get}
use Rattle.std.specs.Str.{encode_utf8_all, all_scalars, IsCharBoundary}
use Rattle.std.proofs.Math.Utf8.{scalar}
use Rattle.std.specs.List.{list_all, list_any}
use Rattle.std.specs.Prelude.{nat_lt}
use Rattle.std.proofs.lemmas.Str.{encodes-append, encodes-chars, scalars-chars, IsCharBoundary-at_seam}
use Rattle.pysource.specs.Places.{place_after}
use Rattle.pysource.specs.Parts.{Parts}
use Rattle.pylex_lexeme.specs.declared.lexeme.Class.{Class}
use Rattle.pylex_lexeme.specs.declared.lexeme.Class.TheVariants.{Name, Number, String, Operator, Comment, Blanks, LineEnd, Join}
use Rattle.pylex_listing.specs.declared.entries.Entry.{Entry}
use Rattle.pylex_listing.specs.declared.entries.Step.{Step}
use Rattle.pylex_listing.specs.declared.entries.Step.TheVariants as steps
use Rattle.pysource.specs.declared.places.Place.{Place}
use Rattle.pylex_listing.specs.declared.kind.Kind.TheVariants as kinds
use Rattle.pylex_listing.specs.declared.entries.ListingFault.{ListingFault}
use Rattle.pylex_listing.specs.declared.entries.ListingError.TheVariants as errors
use Rattle.pylex_lexeme.specs.Strings.{opens_string}
use Rattle.pylex_lexeme.specs.Operators.{is_closer}
use Rattle.pylex_lexeme.specs.Lexemes.{Lexeme, cut, left_by_cut, is_open_string}
use Rattle.pylex_listing.specs.Lines.{text_before, depth, is_significant, line_so_far, before_line, is_at_margin, is_logical}
use Rattle.pylex_lexeme.specs.Chars.{bytes_in}
use Rattle.pylex_listing.specs.Indentation.{width_at, widths, open_levels, dedents, layout_by, layout}
use Rattle.pylex_listing.specs.Listing.{Source, listing, in_characters, origin, entry_of, steps_of, stop_fault, last_line, begins_comment}
use Rattle.pylex_listing.specs.Listing.{line_end_of_last, end_place, ends_in_join, tail, stop, steps_from, up_to_end}
use Rattle.pylex_listing.specs.Steps.{mark, fault_at}
use Rattle.pylex_listing.specs.Laws.{LiesIn, StepLies, AllLie, AreLexemes}
use Rattle.pylex_listing.proofs.Callers.{bytes_in-append, line_split, cut_lexed}

-- what is after a place is text, and so the place may be cut at
pub scalars_after : (a b : List ℕ) → all_scalars (a ++ b) ≡ true → all_scalars b ≡ true
scalars_after [] b h = h
scalars_after (c ∷ a) b h = scalars_after a b (later (scalar c) (all_scalars (a ++ b)) h)
  where
    later : (s t : Bool) → (s && t) ≡ true → t ≡ true
    later true t e = e
    later false t e = cc

-- an entry whose text stands between others
piece_lies : (cs a t b : List ℕ) (e : Entry) → all_scalars cs ≡ true → cs ≡ a ++ (t ++ b) → e.«from» ≡ bytes_in a
    → e.to ≡ bytes_in a + bytes_in t → LiesIn (encode_utf8_all cs) e
piece_lies cs a t b e u h f l =
    let u0 : all_scalars (a ++ (t ++ b)) ≡ true = sym (ap all_scalars h) ∙ u in
    let u1 : all_scalars (t ++ b) ≡ true = scalars_after a (t ++ b) u0 in
    let u2 : all_scalars b ≡ true = scalars_after t b u1 in
    let e1 : encode_utf8_all cs ≡ encode_utf8_all a ++ encode_utf8_all (t ++ b) = ap encode_utf8_all h ∙ encodes-append a (t ++ b) in
    let g : cs ≡ (a ++ t) ++ b = h ∙ sym (append_assoc a t b) in
    let e2 : encode_utf8_all cs ≡ encode_utf8_all (a ++ t) ++ encode_utf8_all b = ap encode_utf8_all g ∙ encodes-append (a ++ t) b in
    let b1 = IsCharBoundary-at_seam (encode_utf8_all cs) (encode_utf8_all a) (encode_utf8_all (t ++ b)) e1 (t ++ b, (u1, refl)) in
    let b2 = IsCharBoundary-at_seam (encode_utf8_all cs) (encode_utf8_all (a ++ t)) (encode_utf8_all b) e2 (b, (u2, refl)) in
    let n : e.to ≡ bytes_in (a ++ t) = l ∙ sym (bytes_in-append a t) in
    let first : IsCharBoundary (encode_utf8_all cs) e.«from» = subst (IsCharBoundary (encode_utf8_all cs)) (sym f) b1 in
    let last : IsCharBoundary (encode_utf8_all cs) e.to = subst (IsCharBoundary (encode_utf8_all cs)) (sym n) b2 in
    record { order = omega arith; within = last.0; first = first; last = last }

pub AllLie-append : (text : List ℕ) (ss ts : List Step) → AllLie text ss → AllLie text ts → AllLie text (ss ++ ts)
AllLie-append text [] ts h k = k
AllLie-append text (s ∷ ss) ts h k = (h.0, AllLie-append text ss ts h.1 k)

pub up_to_end_lies : (text : List ℕ) (ss : List Step) → AllLie text ss → AllLie text (up_to_end ss)
up_to_end_lies text [] h = h
up_to_end_lies text (steps.Entry e ∷ ss) h = (h.0, up_to_end_lies text ss h.1)
up_to_end_lies text (steps.End ∷ ss) h = (tt, tt)
up_to_end_lies text (steps.Fault f ∷ ss) h = (tt, tt)

replicate_lies : (text : List ℕ) (n : ℕ) (s : Step) → StepLies text s → AllLie text (replicate n s)
replicate_lies text zero s h = tt
replicate_lies text (suc n) s h = (h, replicate_lies text n s h)

cond_lies : (text : List ℕ) (b : Bool) (ss ts : List Step) → AllLie text ss → AllLie text ts → AllLie text (cond b ss ts)
cond_lies text true ss ts h k = h
cond_lies text false ss ts h k = k

cond_step : (text : List ℕ) (b : Bool) (s t : Step) → StepLies text s → StepLies text t → StepLies text (cond b s t)
cond_step text true s t h k = h
cond_step text false s t h k = k

-- the steps before a place, where a text goes on after it
module _ (cs : List ℕ) (good : all_scalars cs ≡ true) (before : List Lexeme) where
  mark_lies : (rest : List ℕ) (e : Entry) → cs ≡ text_before before ++ rest → e.«from» ≡ bytes_in (text_before before)
      → e.to ≡ bytes_in (text_before before) → LiesIn (encode_utf8_all cs) e
  mark_lies rest e h f l = piece_lies cs (text_before before) [] rest e good h f (l ∙ omega arith)

  dedents_lie : (rest : List ℕ) (w : ℕ) (levels : List ℕ) (p : Place) → cs ≡ text_before before ++ rest
      → AllLie (encode_utf8_all cs) (dedents w levels (text_before before) p)
  dedents_lie rest w levels p h = replicate_lies (encode_utf8_all cs) _ _ (mark_lies rest _ h refl refl)

  layout_lies : (rest : List ℕ) → cs ≡ text_before before ++ rest → AllLie (encode_utf8_all cs) (layout before)
  unfolding layout layout_by
  layout_lies rest h =
      let s : cs ≡ text_before (before_line before) ++ (text_before (line_so_far before) ++ rest) = h
      ∙ ap (λ t. t ++ rest) (sym (line_split before)) ∙ append_assoc (text_before (before_line before))
      (text_before (line_so_far before)) rest in
      cond_lies (encode_utf8_all cs) (is_at_margin before) _ []
      (cond_lies (encode_utf8_all cs) (list_all (λ v. nat_lt v (width_at before)) (open_levels (widths before))) _ _
      (piece_lies cs (text_before (before_line before)) (text_before (line_so_far before)) rest _ good s refl refl, tt)
      (cond_lies (encode_utf8_all cs) (list_any (λ v. v == width_at before) (open_levels (widths before))) _ _
      (dedents_lie rest (width_at before) (open_levels (widths before)) (place_after (text_before before)) h)
      (tt, tt)))
      tt

  entry_lies : (x : Lexeme) (rest : List ℕ) → cs ≡ text_before before ++ (x.text ++ rest) → AllLie (encode_utf8_all cs) (entry_of before x)
  unfolding entry_of
  entry_lies x rest h = by_class x.«class» x.text h
    where
      by_class : (k : Class) (t : List ℕ) → cs ≡ text_before before ++ (t ++ rest)
          → AllLie (encode_utf8_all cs) (entry_of before (record { «class» = k; text = t }))
      by_class Name t h = (piece_lies cs (text_before before) t rest _ good h refl refl, tt)
      by_class Number t h = (piece_lies cs (text_before before) t rest _ good h refl refl, tt)
      by_class String t h = (piece_lies cs (text_before before) t rest _ good h refl refl, tt)
      by_class (Operator o) t h = cond_lies (encode_utf8_all cs) (is_closer o && (depth before == 0)) _ _ (tt, tt)
          (piece_lies cs (text_before before) t rest _ good h refl refl, tt)
      by_class Comment t h = (piece_lies cs (text_before before) t rest _ good h refl refl, tt)
      by_class Blanks t h = tt
      by_class LineEnd t h = (piece_lies cs (text_before before) t rest _ good h refl refl, tt)
      by_class Join t h = tt

  steps_lie : (x : Lexeme) (rest : List ℕ) → cs ≡ text_before before ++ (x.text ++ rest) → AllLie (encode_utf8_all cs) (steps_of before x)
  unfolding steps_of
  steps_lie x rest h = AllLie-append (encode_utf8_all cs) _ (entry_of before x) (cond_lies (encode_utf8_all cs) (is_significant x)
      (layout before) [] (layout_lies (x.text ++ rest) h) tt) (entry_lies x rest h)

  last_lies : (rest : List ℕ) (p : Place) → cs ≡ text_before before ++ rest → AllLie (encode_utf8_all cs) (line_end_of_last before p)
  unfolding line_end_of_last
  last_lies rest p h =
      cond_lies (encode_utf8_all cs) (is_logical before) _ _
      (cond_lies (encode_utf8_all cs) (begins_comment (last_line (text_before before))) [] _ tt (mark_lies rest _ h refl refl, tt))
      (cond_lies (encode_utf8_all cs) (is_at_margin before) [] _ tt (mark_lies rest _ h refl refl, tt))

  tail_lies : (rest : List ℕ) (p : Place) → cs ≡ text_before before ++ rest → AllLie (encode_utf8_all cs) (tail before p)
  unfolding tail
  tail_lies rest p h =
      cond_lies (encode_utf8_all cs) (not (depth before == 0) || ends_in_join before) _ _ (tt, tt)
      (AllLie-append (encode_utf8_all cs) (line_end_of_last before p ++ dedents 0 (open_levels (widths before))
      (text_before before) (end_place before p)) _
      (AllLie-append (encode_utf8_all cs) (line_end_of_last before p) _ (last_lies rest p h)
      (dedents_lie rest 0 (open_levels (widths before)) (end_place before p) h))
      (mark_lies rest _ h refl refl, (tt, tt)))

  stop_lies : (fault : Option ListingFault) (left : List ℕ) → cs ≡ text_before before ++ left
      → AllLie (encode_utf8_all cs) (stop fault before left)
  unfolding stop stop_fault
  stop_lies fault left h =
      cond_lies (encode_utf8_all cs) (not (length left == 0)) _ _
      (AllLie-append (encode_utf8_all cs) (layout before) _ (layout_lies left h) (fault_lies fault (place_after (text_before before)), tt))
      (by_fault fault)
    where
      in_string : (fault : Option ListingFault) (p : Place)
          → StepLies (encode_utf8_all cs) (elim fault [ Some f ↦ steps.Fault f | None ↦ fault_at errors.EofInString p ])
      in_string (Some f) p = tt
      in_string None p = tt

      fault_lies : (fault : Option ListingFault) (p : Place) → StepLies (encode_utf8_all cs) (stop_fault fault p left)
      fault_lies fault p = cond_step (encode_utf8_all cs) (not (opens_string left)) _ _ tt
          (cond_step (encode_utf8_all cs) (not (is_open_string left)) _ _ tt (in_string fault p))

      by_fault : (fault : Option ListingFault)
          → AllLie (encode_utf8_all cs) (elim fault [ Some f ↦ steps.Fault f ∷ [] | None ↦ tail before (place_after (text_before before)) ])
      by_fault (Some f) = (tt, tt)
      by_fault None = tail_lies left (place_after (text_before before)) h

all_lie : (cs : List ℕ) (fault : Option ListingFault) (left : List ℕ) → all_scalars cs ≡ true → (xs before : List Lexeme) (text : List ℕ)
    → cs ≡ text_before before ++ text → AreLexemes text xs left → AllLie (encode_utf8_all cs) (steps_from fault left before xs)
all_lie cs fault left good [] before text h l = stop_lies cs good before fault left (h ∙ ap (λ t. text_before before ++ t) (sym l.0))
all_lie cs fault left good (x ∷ xs) before text h l =
    let g : cs ≡ text_before before ++ (x.text ++ l.0) = h ∙ ap (λ t. text_before before ++ t) l.2 in
    AllLie-append (encode_utf8_all cs) (steps_of before x) _ (steps_lie cs good before x l.0 g)
    (all_lie cs fault left good xs (x ∷ before) l.0 (g ∙ sym (append_assoc (text_before before) x.text l.0)) l.3)

listing_lies : (s : Source) → all_scalars s.text ≡ true → AllLie (encode_utf8_all s.text) (listing s)
unfolding listing
listing_lies s good =
    up_to_end_lies (encode_utf8_all s.text)
    (mark kinds.Encoding [] origin origin ∷ steps_from s.fault (left_by_cut s.text) [] (cut s.text)) (
      mark_lies s.text good [] s.text _ refl refl refl,
      all_lie s.text s.fault (left_by_cut s.text) good (cut s.text) [] s.text
          refl (cut_lexed s.text),
    )

-- each entry of a listing lies in its source's text
pub entries_lie : (p : Parts) → IsUtf8 p.text → AllLie p.text (listing (in_characters p))
entries_lie p u = subst (λ (t : List ℕ). AllLie t (listing (in_characters p))) (encodes-chars p.text u)
    (listing_lies (in_characters p) (scalars-chars p.text u))

-- and so does each
pub step_lies : (text : List ℕ) (ss : List Step) (k : ℕ) (s : Step) → AllLie text ss → slice_get ss k ≡ Some s → StepLies text s
step_lies text [] k s h e = cc
step_lies text (r ∷ ss) zero s h e = let same : r ≡ s = cc in subst (StepLies text) same h.0
step_lies text (r ∷ ss) (suc k) s h e = step_lies text ss k s h.1 e
