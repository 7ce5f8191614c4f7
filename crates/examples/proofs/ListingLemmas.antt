-- Carries: count_names. On: how a lister moves in a source.
use Rattle.std.proofs.Common.{◌≡◌, ℕ, ◌+◌, Bool, true, false, List, ◌∷◌, cond, Some, slice_get, refl, ap, subst, ◌∙◌, zero-add, arith}
use Rattle.std.proofs.lemmas.Grind.{common_steps}
use Rattle.std.specs.Prelude.{count_by}
use Rattle.pylex_listing.specs.declared.entries.Entry.{Entry}
use Rattle.pylex_listing.specs.declared.entries.Step.{Step}
use Rattle.pylex_listing.specs.declared.entries.Step.TheVariants as steps
use Rattle.pylex_listing.specs.Listing.{Source, listing, rest}
use Rattle.pylex.specs.Listers.{Listed, StandsIn, NextStep}
use Rattle.pylex_listing.specs.Steps.{entries_of, entries_in, IsNoEntry}
use Rattle.pylex.proofs.Callers.{next_is, end_last, fault_last}
use Rattle.examples.specs.Listings.{is_name}

-- a move of a lister, by the step that came
pub moved : (old new : Listed) (step came : Step) (s : Source) (k : ℕ) → NextStep old step new → step ≡ came → StandsIn old s k →
    (slice_get (listing s) k ≡ Some came) × StandsIn new s (k + entries_in came)
moved old new step came s k stepped is stands =
    let m = stepped s k stands in
    (m.0 ∙ ap Some is, subst (λ (x : Step). StandsIn new s (k + entries_in x)) is m.1)

-- the names that are still to come
abbrev pub names_left : Source → ℕ → ℕ
names_left s k = count_by is_name (entries_of (rest s k))

counted : (e : Entry) (es : List Entry) → count_by is_name (e ∷ es) ≡ cond (is_name e) 1 0 + count_by is_name es
counted e es = grind (arith, common_steps)

left_after : (s : Source) (k : ℕ) (e : Entry) → slice_get (listing s) k ≡ Some (steps.Entry e)
    → names_left s k ≡ cond (is_name e) 1 0 + names_left s (k + 1)
left_after s k e h = ap (λ ss. count_by is_name (entries_of ss)) (next_is s k (steps.Entry e) h) ∙ counted e (entries_of (rest s (k + 1)))

-- one less after a name
pub following_name : (s : Source) (k : ℕ) (e : Entry) → slice_get (listing s) k ≡ Some (steps.Entry e) → is_name e ≡ true
    → names_left s k ≡ 1 + names_left s (k + 1)
following_name s k e h is = left_after s k e h ∙ ap (λ (b : Bool). cond b 1 0 + names_left s (k + 1)) is

-- as many after another entry
pub after_other : (s : Source) (k : ℕ) (e : Entry) → slice_get (listing s) k ≡ Some (steps.Entry e) → is_name e ≡ false
    → names_left s k ≡ names_left s (k + 1)
after_other s k e h is = left_after s k e h ∙ ap (λ (b : Bool). cond b 1 0 + names_left s (k + 1)) is ∙ zero-add (names_left s (k + 1))

-- a step that is no entry
pub no_entry : (step : Step) → ((e : Entry) → step ≡ steps.Entry e → ⊥) → IsNoEntry step
no_entry (steps.Entry e) h = h e refl
no_entry steps.End h = tt
no_entry (steps.Fault f) h = tt

-- none where no entry is next
pub none_left : (s : Source) (k : ℕ) (step : Step) → slice_get (listing s) k ≡ Some step → IsNoEntry step → names_left s k ≡ 0
none_left s k (steps.Entry e) h n = absurd n
none_left s k steps.End h n = ap (λ es. count_by is_name es) (end_last s k h).0
none_left s k (steps.Fault f) h n = ap (λ es. count_by is_name es) (fault_last s k f h).0
