use Rattle.std.proofs.Common.{ap, ◌∙◌, subst, arith}
use Rattle.std.proofs.lemmas.Option.{IfSome_then}
use Rattle.pylex.specs.declared.machine.Machine.{Machine}
use Rattle.pylex.specs.Listers.{Listed}
use Rattle.pylex.specs.LineStarts.{BeginsLine}
use Rattle.pylex.proofs.Listers.LookingOn.{listed, keeps_look}
use Rattle.pylex.proofs.Listers.Placing.{has_place}
use Rattle.pylex.proofs.SpotSteps.Beginning.{line_begins}
use Rattle.pylex.proofs.lister.Lister.begin_line.Goals as goal

pub look_on-self-inside-requires-clause-place : goal.look_on-self-inside-requires-clause-place
look_on-self-inside-requires-clause-place c = has_place c.self.inside.source.now c.self.inside.machine
    c.self.inside.left.now c.self.invariant

pub line_start-requires-clause-place : goal.line_start-requires-clause-place
line_start-requires-clause-place c = has_place c.self.inside.source.now c.look_on-self-inside.new.self c.look_on-self-inside.result.now
    (keeps_look c.self.inside.source.now c.self.inside.machine c.look_on-self-inside.new.self c.self.inside.left.now
    c.look_on-self-inside.result.now
    c.self.invariant (c.is_at_start.ensures.following c.if-is_at_start.false) c.look_on-self-inside.ensures)

pub invariant_of-self : goal.invariant_of-self
invariant_of-self c = keeps_look c.self.inside.source.now c.self.inside.machine c.look_on-self-inside.new.self c.self.inside.left.now
    c.look_on-self-inside.result.now
    c.self.invariant (c.is_at_start.ensures.following c.if-is_at_start.false) c.look_on-self-inside.ensures

pub returns-clause-begins : goal.returns-clause-begins
returns-clause-begins c =
    let source = c.self.inside.source.now in
    let old = c.self.inside.machine in
    let new = c.look_on-self-inside.new.self in
    let left = c.look_on-self-inside.result.now in
    let some = c.is_at_start.ensures.following c.if-is_at_start.false in
    let keeps = keeps_look source old new c.self.inside.left.now left c.self.invariant some c.look_on-self-inside.ensures in
    let count = ap (λ (m : Machine). m.given) c.look_on-self-inside.ensures.rest in
    let same = ap (listed source) c.look_on-self-inside.ensures.rest ∙ c.self.view_is in
    IfSome_then c.line_start.result c.line_start.ensures
    (λ r starts. subst (λ (l : Listed). BeginsLine l r.0 r.1.now r.2 r.3) same
    (line_begins source new left keeps (omega (arith, some, count)) r.0 r.1.now r.2 r.3 starts))
