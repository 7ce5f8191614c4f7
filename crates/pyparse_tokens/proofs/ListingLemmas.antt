-- Carries: tokens_of. On: a listing step by step, its entries and then its one end.
use Rattle.std.proofs.Common.{◌≡◌, ℕ, zero, suc, ◌+◌, ◌<◌, ◌≤◌, List, [], ◌∷◌, ◌++◌, length, take, map, refl, sym, subst, ap, ◌∙◌, arith}
use Rattle.std.proofs.Common.{Some}
use Rattle.std.proofs.Common.{slice_get, take_all}
use Rattle.std.specs.Prelude.{slice_index_or}
use Rattle.std.specs.Str.{IsCharBoundary}
use Rattle.pylex_listing.specs.declared.entries.Entry.{Entry}
use Rattle.pylex_listing.specs.declared.entries.Step.{Step}
use Rattle.pylex_listing.specs.declared.entries.Step.TheVariants as steps
use Rattle.pylex_listing.specs.Steps.{entries_of, fault_of, entries_in, IsNoEntry}
use Rattle.pylex_listing.specs.Listing.{Source, listing}
use Rattle.pylex.specs.Listers.{Listed, StandsIn, NextStep}
use Rattle.pylex_listing.specs.Laws.{AreWhole, AllLie}

walk_entry : (es : List Entry) (last : Step) → IsNoEntry last → (k : ℕ) (e : Entry) →
    slice_get (map steps.Entry es ++ last ∷ []) k ≡ Some (steps.Entry e) →
    (k < length es) × (take (suc k) es ≡ take k es ++ e ∷ []) × (slice_index_or es k e ≡ e)
walk_entry [] last stops zero e h =
    let is : last ≡ steps.Entry e = cc in
    absurd (subst IsNoEntry is stops)
walk_entry [] last stops (suc k) e h = absurd (cc)
walk_entry (x ∷ es) last stops zero e h =
    let is : x ≡ e = cc in
    (omega arith, ap (λ (y : Entry). y ∷ []) is, is)
walk_entry (x ∷ es) last stops (suc k) e h =
    let rest = walk_entry es last stops k e h in
    (omega (arith, rest.0), ap (λ (t : List Entry). x ∷ t) rest.1, rest.2)

walk_stop : (es : List Entry) (last : Step) (k : ℕ) (s : Step) → k ≤ length es → IsNoEntry s
    → slice_get (map steps.Entry es ++ last ∷ []) k ≡ Some s →
    (k ≡ length es) × (last ≡ s)
walk_stop [] last zero s within stops h = let is : last ≡ s = cc in (refl, is)
walk_stop [] last (suc k) s within stops h = absurd (cc)
walk_stop (x ∷ es) last zero s within stops h =
    let is : steps.Entry x ≡ s = cc in
    absurd (subst IsNoEntry (sym is) stops)
walk_stop (x ∷ es) last (suc k) s within stops h =
    let rest = walk_stop es last k s (omega arith) stops h in
    (omega (arith, rest.0), rest.1)

pub fault_last : (es : List Entry) (last : Step) → fault_of (map steps.Entry es ++ last ∷ []) ≡ fault_of (last ∷ [])
fault_last [] last = refl
fault_last (x ∷ es) last = fault_last es last

-- the next entry
pub at_entry : (ss : List Step) (k : ℕ) (e : Entry) → AreWhole ss → slice_get ss k ≡ Some (steps.Entry e) →
    (k < length (entries_of ss)) × (take (k + 1) (entries_of ss) ≡ take k (entries_of ss) ++ e ∷ []) ×
    (slice_index_or (entries_of ss) k e ≡ e)
at_entry ss k e whole h =
    let next = walk_entry (entries_of ss) whole.last whole.stops k e (ap (λ (t : List Step). slice_get t k) (sym whole.whole) ∙ h) in
    let one : k + 1 ≡ suc k = omega arith in
    (next.0, ap (λ (n : ℕ). take n (entries_of ss)) one ∙ next.1, next.2)

-- the end, or the fault
pub at_stop : (ss : List Step) (k : ℕ) (s : Step) → AreWhole ss → k ≤ length (entries_of ss) → IsNoEntry s → slice_get ss k ≡ Some s →
    (take k (entries_of ss) ≡ entries_of ss) × (fault_of ss ≡ fault_of (s ∷ []))
at_stop ss k s whole within stops h =
    let last = walk_stop (entries_of ss) whole.last k s within stops (ap (λ (t : List Step). slice_get t k) (sym whole.whole) ∙ h) in (
      take_all k (entries_of ss) (omega (arith, last.0)),
      ap fault_of whole.whole ∙ fault_last (entries_of ss) whole.last
          ∙ ap (λ (x : Step). fault_of (x ∷ [])) last.1,
    )

-- a move of a lister, by the step that came
pub moved : (old new : Listed) (step came : Step) (s : Source) (k : ℕ) → NextStep old step new → step ≡ came → StandsIn old s k →
    (slice_get (listing s) k ≡ Some came) × StandsIn new s (k + entries_in came)
moved old new step came s k stepped is stands =
    let m = stepped s k stands in
    (m.0 ∙ ap Some is, subst (λ (x : Step). StandsIn new s (k + entries_in x)) is m.1)

-- a text's start is a place of it
pub starts_at : (s : Source) (bs : List ℕ) → AllLie bs (listing s) → IsCharBoundary bs 0
unfolding listing
starts_at s bs lies = lies.0.first
