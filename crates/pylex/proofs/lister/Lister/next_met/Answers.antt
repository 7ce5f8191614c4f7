use Rattle.std.proofs.Common.{◌≡◌, ℕ, zero, suc, ◌<◌, List, refl, ap, sym, subst, arith, Option}
use Rattle.std.specs.Prelude.{Result, Ok, Err, OnErr, option_map}
use Rattle.std.specs.declared.alloc.AllocError.{AllocError}
use Rattle.std.specs.Str.{chars}
use Rattle.pysource.specs.declared.faults.LineFault.{LineFault}
use Rattle.pylex.specs.declared.line_state.LineState.{LineState}
use Rattle.pylex_listing.specs.declared.entries.Entry.{Entry}
use Rattle.pylex_listing.specs.declared.entries.Step.{Step}
use Rattle.pylex_listing.specs.declared.entries.Step.TheVariants as steps
use Rattle.pylex.specs.declared.peeked.Peeked.{Peeked}
use Rattle.pylex.specs.declared.machine.Machine.{Machine}
use Rattle.pylex.specs.declared.peeked.Peeked.TheVariants as peeked
use Rattle.pylex_listing.specs.Listing.{of_line}
use Rattle.pylex.specs.Listers.{Listed, NextStep, AwaitsIndent}
use Rattle.pylex_listing.specs.Machine.{remaining}
use Rattle.pylex.specs.Inner.MachineSteps.{shown_from, left_by, Holds}
use Rattle.pylex.specs.LineState.{with_levels}
use Rattle.pylex.proofs.Listers.Moving.{awaits_indent}
use Rattle.pylex.proofs.Listers.Placing.{has_place}
use Rattle.pylex.proofs.lister.Lister.next_met.Goals as goal

not_stopped : (n : ℕ) (m : Peeked) → (0 < n → m ≡ peeked.Stop) → m ≡ peeked.Indent → n ≡ 0
not_stopped zero m h i = refl
not_stopped (suc n) m h i = absurd (never m (h (omega arith)) i)
  where
    never : (m : Peeked) → m ≡ peeked.Stop → m ≡ peeked.Indent → ⊥
    never m h k = cc

on_err : (r : Result Step AllocError) (P : Type 0) → P → OnErr r P
on_err (Ok s) P p = tt
on_err (Err e) P p = p

left_same : (s : Step) (from to : List ℕ) → ((e : Entry) → s ≡ steps.Entry e → ⊥) → left_by s from to ≡ from
left_same (steps.Entry e) from to h = absurd (h e refl)
left_same steps.End from to h = refl
left_same (steps.Fault f) from to h = refl

-- the fault of the source makes the same end
alike : (f g : Option LineFault) (now : LineState) (cs : List ℕ) (m : Peeked) → g ≡ f → m ≡ peeked.Stop → (levels : List ℕ)
    → remaining (option_map of_line f) (with_levels now levels) cs ≡ remaining (option_map of_line g) (with_levels now levels) cs
alike f g now cs m e stop levels = ap (λ h. remaining (option_map of_line h) (with_levels now levels) cs) (sym e)

-- a step is one of the lister that is seen
seen : (old same : Listed) (step : Step) (new : Listed) → old ≡ same → NextStep old step new → NextStep same step new
seen old same step new e m = rw (← e) m

pub advance-requires-clause-place : goal.advance-requires-clause-place
advance-requires-clause-place c = has_place c.self.inside.source.now c.self.inside.machine c.self.inside.left.now c.self.invariant

pub returns-in_err-step-clause-indent : goal.returns-in_err-step-clause-indent
returns-in_err-step-clause-indent c =
    let p = c.self.inside.machine in
    let some : 0 < p.given = rw (← ap (λ (l : Listed). l.shown.given) c.self.view_is) at c.requires in
    let indent = c.in_err-step.ensures.indent in
    let none : p.tail ≡ 0 = not_stopped p.tail c.peek-peeked.result.0 c.peek-peeked.ensures.stop indent in
    let found = rw indent at c.peek-peeked.ensures.finds in
    let awaits : AwaitsIndent c.args.self.now =
    rw (← c.self.view_is) (awaits_indent (record { source = c.self.inside.source.now; shown = shown_from p }) p.now
    c.self.inside.left.now p.levels.items p.nested p.tail c.self.invariant refl some none c.peek-peeked.result.1
    (chars c.peek-peeked.result.2.now) found.0 found.1) in
    on_err c.from_residual.result (AwaitsIndent c.args.self.now) awaits

pub invariant_of-self-in-Entry : goal.invariant_of-self-in-Entry
invariant_of-self-in-Entry c =
    let g = c.in_ok-step.ensures.went.goes c.self.inside.source.now c.self.inside.left.now c.peek-peeked.result.2.now c.self.invariant
    c.peek-peeked.ensures.finds c.peek-peeked.ensures.stands (alike c.self.inside.source.now.fault c.line_fault-fault.result
    c.peek-peeked.result.1 (chars c.peek-peeked.result.2.now) c.peek-peeked.result.0 c.line_fault-fault.ensures) in
    rw c.in-Entry.is at g.1

pub invariant_of-self-in_default : goal.invariant_of-self-in_default
invariant_of-self-in_default c =
    let g = c.in_ok-step.ensures.went.goes c.self.inside.source.now c.self.inside.left.now c.peek-peeked.result.2.now c.self.invariant
    c.peek-peeked.ensures.finds c.peek-peeked.ensures.stands (alike c.self.inside.source.now.fault c.line_fault-fault.result
    c.peek-peeked.result.1 (chars c.peek-peeked.result.2.now) c.peek-peeked.result.0 c.line_fault-fault.ensures) in
    subst (Holds c.self.inside.source.now c.advance.new.self) (left_same c.in_ok-step.step c.self.inside.left.now c.peek-peeked.result.2.now
    c.in_default.not-Entry) g.1

pub returns-in-Entry-clause-steps : goal.returns-in-Entry-clause-steps
returns-in-Entry-clause-steps c =
    let g = c.in_ok-step.ensures.went.goes c.self.inside.source.now c.self.inside.left.now c.peek-peeked.result.2.now c.self.invariant
    c.peek-peeked.ensures.finds c.peek-peeked.ensures.stands (alike c.self.inside.source.now.fault c.line_fault-fault.result
    c.peek-peeked.result.1 (chars c.peek-peeked.result.2.now) c.peek-peeked.result.0 c.line_fault-fault.ensures) in
    seen _ _ _ _ c.self.view_is g.0

pub returns-in-Entry-clause-given : goal.returns-in-Entry-clause-given
returns-in-Entry-clause-given c =
    let g = c.in_ok-step.ensures.went.goes c.self.inside.source.now c.self.inside.left.now c.peek-peeked.result.2.now c.self.invariant
    c.peek-peeked.ensures.finds c.peek-peeked.ensures.stands (alike c.self.inside.source.now.fault c.line_fault-fault.result
    c.peek-peeked.result.1 (chars c.peek-peeked.result.2.now) c.peek-peeked.result.0 c.line_fault-fault.ensures) in
    (has_place c.self.inside.source.now c.advance.new.self _ g.1).given

pub returns-in_err-step-clause-given : goal.returns-in_err-step-clause-given
returns-in_err-step-clause-given c =
    let few = (has_place c.self.inside.source.now c.self.inside.machine c.self.inside.left.now c.self.invariant).given in
    let same = ap (λ (p : Machine). p.given) c.in_err-step.ensures.same.0 in
    omega arith

pub returns-in_default : goal.returns-in_default
returns-in_default c =
    let g = c.in_ok-step.ensures.went.goes c.self.inside.source.now c.self.inside.left.now c.peek-peeked.result.2.now c.self.invariant
    c.peek-peeked.ensures.finds c.peek-peeked.ensures.stands (alike c.self.inside.source.now.fault c.line_fault-fault.result
    c.peek-peeked.result.1 (chars c.peek-peeked.result.2.now) c.peek-peeked.result.0 c.line_fault-fault.ensures) in
    record {
      steps = seen _ _ _ _ c.self.view_is g.0;
      source = ap (λ (l : Listed). l.source) c.self.view_is;
      same = tt;
      indent = tt;
      given =
          (has_place c.self.inside.source.now c.advance.new.self _ g.1).given;
    }
