use Rattle.std.proofs.Common.{inr, refl}
use Rattle.pylex.proofs.LineByLine.AheadOn.{ahead_none}
use Rattle.pylex.proofs.LineByLine.Searching.{searches_none}
use Rattle.pylex.proofs.LineByLine.Steppings.{drop_last, place_held, streaming_first, steps_first, steps_last}
use Rattle.pylex.proofs.line_lister.LineLister.next.Goals as goal

pub invariant_of-self : goal.invariant_of-self
invariant_of-self g c = rw c.begin-entry.ensures.given (streaming_first c.self.inside.machine c.self.inside.chunk c.self.inside.last
    c.begin-entry.result (c.is_at_start.ensures.start c.if-is_at_start.true) c.begin-entry.ensures.entry c.self.invariant)

pub returns-then-is_at_start-clause-steps : goal.returns-then-is_at_start-clause-steps
returns-then-is_at_start-clause-steps g c = rw (c.begin-entry.ensures.given, ← c.self.view_is)
    (steps_first c.self.inside.machine c.self.inside.chunk c.self.inside.last c.begin-entry.result
    (c.is_at_start.ensures.start c.if-is_at_start.true) c.begin-entry.ensures.entry c.self.invariant (g.R.ByteIn.seen c.args.reader.now))

pub pass_on-requires-clause-streaming : goal.pass_on-requires-clause-streaming
pass_on-requires-clause-streaming g c = drop_last c.self.inside.machine c.self.inside.chunk c.self.inside.last c.self.invariant

pub returns-then-self-len-clause-steps : goal.returns-then-self-len-clause-steps
returns-then-self-len-clause-steps g c =
    rw (← c.self.view_is) (steps_last _ _ c.self.inside.machine c.self.inside.chunk c.self.inside.last _ _ c.next_after-step.ensures.steps)

pub returns-in_default-clause-steps : goal.returns-in_default-clause-steps
returns-in_default-clause-steps g c =
    let same = c.in_default.ensures.none refl in
    rw (← c.self.view_is) (steps_last _ _ c.self.inside.machine c.self.inside.chunk c.self.inside.last _ _
    (rw (same.0, same.1, same.2) at c.next_after-step-in_default.ensures.steps))

pub returns-clause-steps : goal.returns-clause-steps
returns-clause-steps g c =
    rw (← c.self.view_is) (c.in-Some.ensures.some.passes _ _ c.self.inside.machine c.self.inside.chunk c.self.inside.last
    (searches_none _ _ _ (drop_last c.self.inside.machine c.self.inside.chunk c.self.inside.last c.self.invariant))
    (c.is_at_start.ensures.following c.if-is_at_start.false) (inr (ahead_none c.self.inside.chunk.lines)))

pub returns-clause-given : goal.returns-clause-given
returns-clause-given g c = (place_held _ _ _ c.in-Some.ensures.some.streaming).given
