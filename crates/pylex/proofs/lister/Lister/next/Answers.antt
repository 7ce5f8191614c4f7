use Rattle.std.proofs.Common.{◌≡◌, ◌<◌, ap, ◌∙◌, refl, sym, subst, arith, take, None, List, ℕ}
use Rattle.std.proofs.lemmas.Result.{IfOk-weaker}
use Rattle.std.specs.Prelude.{Result, Ok, Err, OnErr}
use Rattle.std.specs.declared.alloc.AllocError.{AllocError}
use Rattle.pysource.specs.Parts.{Parts}
use Rattle.pylex_listing.specs.declared.entries.Entry.{Entry}
use Rattle.pylex_listing.specs.declared.entries.Step.{Step}
use Rattle.pylex_listing.specs.declared.entries.Step.TheVariants as steps
use Rattle.pylex.specs.declared.peeked.Peeked.TheVariants as peeked
use Rattle.pylex.specs.declared.machine.Machine.{Machine}
use Rattle.pylex.specs.Listers.{Listed, NextStep, AwaitsIndent}
use Rattle.pylex.specs.Inner.MachineSteps.{shown_from, Holds, LooksOn, StepsOn}
use Rattle.pylex.proofs.Listers.LookingOn.{listed, keeps_look, laid_out, level_awaited, same_held}
use Rattle.pylex.proofs.Listers.Moving.{moves_from, goes_first}
use Rattle.pylex.proofs.Listers.Placing.{has_place}
use Rattle.pylex.proofs.lister.Lister.next.Goals as goal

-- a step is one of the lister that is seen
seen : (old same : Listed) (step : Step) (new : Listed) → old ≡ same → NextStep old step new → NextStep same step new
seen old same step new e m = rw (← e) m

no_stop : (e : Entry) → peeked.Entry e ≡ peeked.Stop → ⊥
no_stop e k = cc

-- past an entry the lister stands after it
entry_passed : (source : Parts) (p r : Machine) (from to : List ℕ) (e : Entry) → Holds source p from → StepsOn p from e r to
    → NextStep (listed source p) (steps.Entry e) (listed source r) × Holds source r to
entry_passed source p r from to e keeps s = (s.went None).goes source from to keeps (s.reaches.entry (take p.nested p.levels.items))
    s.reaches.stands (λ i. absurd (no_stop e i))

pub invariant_of-self : goal.invariant_of-self
invariant_of-self c =
    let p = c.self.inside.machine in
    rw c.begin.ensures.given (goes_first (record { source = c.self.inside.source.now; shown = shown_from p }) p.now c.self.inside.left.now
    p.levels.items p.nested p.tail c.begin.result c.self.invariant (c.is_at_start.ensures.start c.if-is_at_start.true)
    c.begin.ensures.entry).keeps

pub returns-then-is_at_start-clause-steps : goal.returns-then-is_at_start-clause-steps
returns-then-is_at_start-clause-steps c =
    let p = c.self.inside.machine in
    rw c.begin.ensures.given
    (moves_from _ _ _ _ c.self.view_is (goes_first (record { source = c.self.inside.source.now; shown = shown_from p }) p.now
    c.self.inside.left.now p.levels.items p.nested p.tail c.begin.result c.self.invariant
    (c.is_at_start.ensures.start c.if-is_at_start.true) c.begin.ensures.entry).leads)

pub look_on-self-inside-requires-clause-place : goal.look_on-self-inside-requires-clause-place
look_on-self-inside-requires-clause-place c = has_place c.self.inside.source.now c.self.inside.machine
    c.self.inside.left.now c.self.invariant

-- the lister stands where it stood, and has looked on
looked : (source : Parts) (p q r : Machine) (from to : List ℕ) → Holds source p from → 0 < p.given → LooksOn p from q to → r ≡ q
    → Holds source r to
looked source p q r from to keeps some x same =
    subst (λ (m : Machine). Holds source m to) (sym same) (keeps_look source p q from to keeps some x)

pub step_on-requires-clause-some : goal.step_on-requires-clause-some
step_on-requires-clause-some c =
    let same = ap (λ (m : Machine). m.given) c.look_on-self-inside.ensures.rest in
    let some = c.is_at_start.ensures.following c.if-is_at_start.false in
    omega (arith, same, some)

pub step_on-requires-clause-place : goal.step_on-requires-clause-place
step_on-requires-clause-place c = has_place c.self.inside.source.now c.look_on-self-inside.new.self c.look_on-self-inside.result.now
    (keeps_look c.self.inside.source.now c.self.inside.machine c.look_on-self-inside.new.self c.self.inside.left.now
    c.look_on-self-inside.result.now
    c.self.invariant (c.is_at_start.ensures.following c.if-is_at_start.false) c.look_on-self-inside.ensures)

pub step_on-requires-clause-stands : goal.step_on-requires-clause-stands
step_on-requires-clause-stands c = c.look_on-self-inside.ensures.stands

pub invariant_of-self-in-Some : goal.invariant_of-self-in-Some
invariant_of-self-in-Some c =
    let source = c.self.inside.source.now in
    let from = c.self.inside.left.now in
    let some = c.is_at_start.ensures.following c.if-is_at_start.false in
    let keeps = keeps_look source c.self.inside.machine c.look_on-self-inside.new.self from c.look_on-self-inside.result.now
    c.self.invariant some c.look_on-self-inside.ensures in
    (entry_passed source c.look_on-self-inside.new.self c.step_on.new.self c.look_on-self-inside.result.now
    c.in-Some.left.now c.in-Some.entry keeps
    c.in-Some.ensures.some).1

pub returns-in-Some-clause-steps : goal.returns-in-Some-clause-steps
returns-in-Some-clause-steps c =
    let source = c.self.inside.source.now in
    let from = c.self.inside.left.now in
    let some = c.is_at_start.ensures.following c.if-is_at_start.false in
    let keeps = keeps_look source c.self.inside.machine c.look_on-self-inside.new.self from c.look_on-self-inside.result.now
    c.self.invariant some c.look_on-self-inside.ensures in
    seen _ _ _ _ (ap (listed source) c.look_on-self-inside.ensures.rest ∙ c.self.view_is)
    (entry_passed source c.look_on-self-inside.new.self c.step_on.new.self c.look_on-self-inside.result.now
    c.in-Some.left.now c.in-Some.entry keeps
    c.in-Some.ensures.some).0

pub returns-in-Some-clause-given : goal.returns-in-Some-clause-given
returns-in-Some-clause-given c =
    let source = c.self.inside.source.now in
    let from = c.self.inside.left.now in
    let some = c.is_at_start.ensures.following c.if-is_at_start.false in
    let keeps = keeps_look source c.self.inside.machine c.look_on-self-inside.new.self from c.look_on-self-inside.result.now
    c.self.invariant some c.look_on-self-inside.ensures in
    (has_place source c.step_on.new.self c.in-Some.left.now (entry_passed source c.look_on-self-inside.new.self c.step_on.new.self
    c.look_on-self-inside.result.now
    c.in-Some.left.now c.in-Some.entry keeps c.in-Some.ensures.some).1).given

-- how the lister stands that has looked on, where no entry came
on_looked : (source : Parts) (p q r : Machine) (from to : List ℕ) → LooksOn p from q to → r ≡ q → 0 < p.given → 0 < r.given
on_looked source p q r from to x same some =
    let on = ap (λ (m : Machine). m.given) same ∙ ap (λ (m : Machine). m.given) x.rest in
    omega arith

on_err : {A : Type 0} (r : Result A AllocError) (P : Type 0) → P → OnErr r P
on_err (Ok s) P p = tt
on_err (Err e) P p = p

pub layout_on-requires : goal.layout_on-requires
layout_on-requires c =
    let source = c.self.inside.source.now in
    let to = c.look_on-self-inside.result.now in
    let some = c.is_at_start.ensures.following c.if-is_at_start.false in
    let none = c.in_default.ensures.none refl in
    let keeps = looked source c.self.inside.machine c.look_on-self-inside.new.self c.step_on.new.self c.self.inside.left.now to
    c.self.invariant some c.look_on-self-inside.ensures none in
    record {
      some = on_looked source c.self.inside.machine c.look_on-self-inside.new.self c.step_on.new.self c.self.inside.left.now to
          c.look_on-self-inside.ensures none some;
      place = has_place source c.step_on.new.self to keeps;
      stands = keeps.stands;
    }

pub invariant_of-self-in_err-step : goal.invariant_of-self-in_err-step
invariant_of-self-in_err-step c =
    let source = c.self.inside.source.now in
    let to = c.look_on-self-inside.result.now in
    let some = c.is_at_start.ensures.following c.if-is_at_start.false in
    let none = c.in_default.ensures.none refl in
    let keeps = looked source c.self.inside.machine c.look_on-self-inside.new.self c.step_on.new.self c.self.inside.left.now to
    c.self.invariant some c.look_on-self-inside.ensures none in
    same_held source c.step_on.new.self c.layout_on.new.self to c.in_err-step.ensures.same keeps

pub returns-in_err-step-clause-indent : goal.returns-in_err-step-clause-indent
returns-in_err-step-clause-indent c =
    let source = c.self.inside.source.now in
    let to = c.look_on-self-inside.result.now in
    let some = c.is_at_start.ensures.following c.if-is_at_start.false in
    let none = c.in_default.ensures.none refl in
    let keeps = looked source c.self.inside.machine c.look_on-self-inside.new.self c.step_on.new.self c.self.inside.left.now to
    c.self.invariant some c.look_on-self-inside.ensures none in
    let same = ap (listed source) none ∙ ap (listed source) c.look_on-self-inside.ensures.rest ∙ c.self.view_is in
    let more = on_looked source c.self.inside.machine c.look_on-self-inside.new.self c.step_on.new.self c.self.inside.left.now to
    c.look_on-self-inside.ensures none some in
    on_err c.from_residual.result (AwaitsIndent c.args.self.now)
    (subst AwaitsIndent same (level_awaited source c.step_on.new.self to keeps more c.in_err-step.ensures.indent))

pub returns-in_err-step-clause-given : goal.returns-in_err-step-clause-given
returns-in_err-step-clause-given c =
    let source = c.self.inside.source.now in
    let to = c.look_on-self-inside.result.now in
    let some = c.is_at_start.ensures.following c.if-is_at_start.false in
    let none = c.in_default.ensures.none refl in
    let keeps = looked source c.self.inside.machine c.look_on-self-inside.new.self c.step_on.new.self c.self.inside.left.now to
    c.self.invariant some c.look_on-self-inside.ensures none in
    (has_place source c.layout_on.new.self to
    (same_held source c.step_on.new.self c.layout_on.new.self to c.in_err-step.ensures.same keeps)).given

pub invariant_of-self-in-Some-2 : goal.invariant_of-self-in-Some-2
invariant_of-self-in-Some-2 c =
    let source = c.self.inside.source.now in
    let to = c.look_on-self-inside.result.now in
    let some = c.is_at_start.ensures.following c.if-is_at_start.false in
    let none = c.in_default.ensures.none refl in
    let keeps = looked source c.self.inside.machine c.look_on-self-inside.new.self c.step_on.new.self c.self.inside.left.now to
    c.self.invariant some c.look_on-self-inside.ensures none in
    (laid_out source c.step_on.new.self c.layout_on.new.self to c.in-Some-2.step keeps
    (rw c.in-Some-2.is at c.in_ok-step.ensures.some)).1

pub returns-in-Some-2-clause-steps : goal.returns-in-Some-2-clause-steps
returns-in-Some-2-clause-steps c =
    let source = c.self.inside.source.now in
    let to = c.look_on-self-inside.result.now in
    let some = c.is_at_start.ensures.following c.if-is_at_start.false in
    let none = c.in_default.ensures.none refl in
    let keeps = looked source c.self.inside.machine c.look_on-self-inside.new.self c.step_on.new.self c.self.inside.left.now to
    c.self.invariant some c.look_on-self-inside.ensures none in
    let same = ap (listed source) none ∙ ap (listed source) c.look_on-self-inside.ensures.rest ∙ c.self.view_is in
    seen _ _ _ _ same (laid_out source c.step_on.new.self c.layout_on.new.self to c.in-Some-2.step keeps
    (rw c.in-Some-2.is at c.in_ok-step.ensures.some)).0

pub returns-in-Some-2-clause-given : goal.returns-in-Some-2-clause-given
returns-in-Some-2-clause-given c =
    let source = c.self.inside.source.now in
    let to = c.look_on-self-inside.result.now in
    let some = c.is_at_start.ensures.following c.if-is_at_start.false in
    let none = c.in_default.ensures.none refl in
    let keeps = looked source c.self.inside.machine c.look_on-self-inside.new.self c.step_on.new.self c.self.inside.left.now to
    c.self.invariant some c.look_on-self-inside.ensures none in
    (has_place source c.layout_on.new.self to
    (laid_out source c.step_on.new.self c.layout_on.new.self to c.in-Some-2.step keeps
    (rw c.in-Some-2.is at c.in_ok-step.ensures.some)).1).given

pub invariant_of-self-2 : goal.invariant_of-self-2
invariant_of-self-2 c =
    let source = c.self.inside.source.now in
    let to = c.look_on-self-inside.result.now in
    let some = c.is_at_start.ensures.following c.if-is_at_start.false in
    let none = c.in_default.ensures.none refl in
    let keeps = looked source c.self.inside.machine c.look_on-self-inside.new.self c.step_on.new.self c.self.inside.left.now to
    c.self.invariant some c.look_on-self-inside.ensures none in
    subst (λ (m : Machine). Holds source m to) (sym (c.in_ok-step.ensures.none c.in_default-2.is)) keeps

pub returns-clause-steps : goal.returns-clause-steps
returns-clause-steps c =
    let source = c.self.inside.source.now in
    let same = ap (listed source) (c.in_ok-step.ensures.none c.in_default-2.is) ∙ ap (listed source) (c.in_default.ensures.none refl)
    ∙ ap (listed source) c.look_on-self-inside.ensures.rest ∙ c.self.view_is in
    IfOk-weaker c.next_met.result _ _ (λ step m. seen _ _ _ _ same m) c.next_met.ensures.steps
