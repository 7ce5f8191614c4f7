-- No entry of a listing but the first is that of the encoding.
--
-- Carries: not_encoding, for Stepping.
use Rattle.std.proofs.Common.{◌≡◌, ◌≢◌, ℕ, ◌<◌, Bool, true, false, not, ◌&&◌, ◌||◌, ◌==◌, zero, suc, List, [], ◌∷◌, ◌++◌, length, subst}
use Rattle.std.proofs.Common.{arith, cond, replicate, Option, Some, None, slice_get}
use Rattle.std.specs.List.{list_all, list_any}
use Rattle.std.specs.Prelude.{nat_lt}
use Rattle.pysource.specs.Places.{place_after}
use Rattle.pysource.specs.declared.places.Place.{Place}
use Rattle.pylex_lexeme.specs.declared.lexeme.Class.{Class}
use Rattle.pylex_lexeme.specs.declared.lexeme.Class.TheVariants.{Name, Number, String, Operator, Comment, Blanks, LineEnd, Join}
use Rattle.pylex_listing.specs.declared.entries.Entry.{Entry}
use Rattle.pylex_listing.specs.declared.entries.ListingFault.{ListingFault}
use Rattle.pylex_listing.specs.declared.entries.ListingError.TheVariants as errors
use Rattle.pylex_listing.specs.declared.entries.Step.{Step}
use Rattle.pylex_listing.specs.declared.entries.Step.TheVariants as steps
use Rattle.pylex_listing.specs.declared.kind.Kind.TheVariants as kinds
use Rattle.pylex_lexeme.specs.Strings.{opens_string}
use Rattle.pylex_lexeme.specs.Operators.{is_closer}
use Rattle.pylex_listing.specs.Indentation.{open_levels, width_at, widths, layout_by, layout}
use Rattle.pylex_listing.specs.Steps.{fault_at}
use Rattle.pylex_lexeme.specs.Lexemes.{Lexeme, cut, left_by_cut, is_open_string}
use Rattle.pylex_listing.specs.Lines.{text_before, depth, is_significant, is_at_margin, is_logical}
use Rattle.pylex_listing.specs.Listing.{Source, listing, line_end_kind, entry_of, steps_of, stop_fault, last_line, begins_comment}
use Rattle.pylex_listing.specs.Listing.{line_end_of_last, ends_in_join, tail, stop, steps_from, up_to_end}

-- if a step gives an entry, that is none of the encoding
abbrev pub GivesText : Step → Type 0
GivesText (steps.Entry e) = e.kind ≢ kinds.Encoding
GivesText steps.End = Unit {0}
GivesText (steps.Fault f) = Unit {0}

abbrev AllGive : List Step → Type 0
AllGive [] = Unit {0}
AllGive (s ∷ ss) = GivesText s × AllGive ss

give_append : (ss ts : List Step) → AllGive ss → AllGive ts → AllGive (ss ++ ts)
give_append [] ts h k = k
give_append (s ∷ ss) ts h k = (h.0, give_append ss ts h.1 k)

give_up_to_end : (ss : List Step) → AllGive ss → AllGive (up_to_end ss)
give_up_to_end [] h = h
give_up_to_end (steps.Entry e ∷ ss) h = (h.0, give_up_to_end ss h.1)
give_up_to_end (steps.End ∷ ss) h = (tt, tt)
give_up_to_end (steps.Fault f ∷ ss) h = (tt, tt)

give_replicate : (n : ℕ) (s : Step) → GivesText s → AllGive (replicate n s)
give_replicate zero s h = tt
give_replicate (suc n) s h = (h, give_replicate n s h)

give_cond : (b : Bool) (ss ts : List Step) → AllGive ss → AllGive ts → AllGive (cond b ss ts)
give_cond true ss ts h k = h
give_cond false ss ts h k = k

give_step : (b : Bool) (s t : Step) → GivesText s → GivesText t → GivesText (cond b s t)
give_step true s t h k = h
give_step false s t h k = k

module _ (before : List Lexeme) where
  give_layout : AllGive (layout before)
  unfolding layout layout_by
  give_layout =
      give_cond (is_at_margin before) _ []
      (give_cond (list_all (λ v. nat_lt v (width_at before)) (open_levels (widths before))) _ _
      (λ e. cc, tt)
      (give_cond (list_any (λ v. v == width_at before) (open_levels (widths before))) _ _ (give_replicate _ _ (λ e. cc)) (tt, tt)))
      tt

  line_end : line_end_kind before ≢ kinds.Encoding
  line_end = by (is_logical before && (depth before == 0))
    where
      by : (b : Bool) → cond b kinds.Newline kinds.Nl ≢ kinds.Encoding
      by true e = cc
      by false e = cc

  give_entry : (x : Lexeme) → AllGive (entry_of before x)
  unfolding entry_of
  give_entry x = by_class x.«class» x.text
    where
      by_class : (k : Class) (t : List ℕ) → AllGive (entry_of before (record { «class» = k; text = t }))
      by_class Name t = (λ e. cc, tt)
      by_class Number t = (λ e. cc, tt)
      by_class String t = (λ e. cc, tt)
      by_class (Operator o) t = give_cond (is_closer o && (depth before == 0)) _ _ (tt, tt) (λ e. cc, tt)
      by_class Comment t = (λ e. cc, tt)
      by_class Blanks t = tt
      by_class LineEnd t = (line_end, tt)
      by_class Join t = tt

  give_steps : (x : Lexeme) → AllGive (steps_of before x)
  unfolding steps_of
  give_steps x = give_append _ (entry_of before x) (give_cond (is_significant x) (layout before) [] give_layout tt) (give_entry x)

  give_last : (p : Place) → AllGive (line_end_of_last before p)
  unfolding line_end_of_last
  give_last p =
      give_cond (is_logical before) _ _
      (give_cond (begins_comment (last_line (text_before before))) [] _ tt (λ e. cc, tt))
      (give_cond (is_at_margin before) [] _ tt (λ e. cc, tt))

  give_tail : (p : Place) → AllGive (tail before p)
  unfolding tail
  give_tail p =
      give_cond (not (depth before == 0) || ends_in_join before) _ _ (tt, tt)
      (give_append _ _ (give_append (line_end_of_last before p) _ (give_last p) (give_replicate _ _ (λ e. cc))) (λ e. cc, (tt, tt)))

  give_stop : (fault : Option ListingFault) (left : List ℕ) → AllGive (stop fault before left)
  unfolding stop stop_fault
  give_stop fault left =
      give_cond (not (length left == 0)) _ _
      (give_append (layout before) _ give_layout (by_place fault (place_after (text_before before)), tt)) (by_fault fault)
    where
      in_string : (fault : Option ListingFault) (p : Place)
          → GivesText (elim fault [ Some f ↦ steps.Fault f | None ↦ fault_at errors.EofInString p ])
      in_string (Some f) p = tt
      in_string None p = tt

      by_place : (fault : Option ListingFault) (p : Place) → GivesText (stop_fault fault p left)
      by_place fault p = give_step (not (opens_string left)) _ _ tt (give_step (not (is_open_string left)) _ _ tt (in_string fault p))

      by_fault : (fault : Option ListingFault)
          → AllGive (elim fault [ Some f ↦ steps.Fault f ∷ [] | None ↦ tail before (place_after (text_before before)) ])
      by_fault (Some f) = (tt, tt)
      by_fault None = give_tail (place_after (text_before before))

give_all : (fault : Option ListingFault) (left : List ℕ) (xs before : List Lexeme) → AllGive (steps_from fault left before xs)
give_all fault left [] before = give_stop before fault left
give_all fault left (x ∷ xs) before = give_append (steps_of before x) _ (give_steps before x) (give_all fault left xs (x ∷ before))

among : (ss : List Step) (k : ℕ) (s : Step) → AllGive ss → slice_get ss k ≡ Some s → GivesText s
among [] k s h e = cc
among (r ∷ ss) zero s h e = let same : r ≡ s = cc in subst GivesText same h.0
among (r ∷ ss) (suc k) s h e = among ss k s h.1 e

pub not_encoding : (s : Source) (k : ℕ) (e : Entry) → 0 < k → slice_get (listing s) k ≡ Some (steps.Entry e) → e.kind ≢ kinds.Encoding
unfolding listing
not_encoding s zero e some h = absurd (omega arith)
not_encoding s (suc k) e some h = among (up_to_end (steps_from s.fault (left_by_cut s.text) [] (cut s.text))) k (steps.Entry e)
    (give_up_to_end _ (give_all s.fault (left_by_cut s.text) (cut s.text) [])) h
