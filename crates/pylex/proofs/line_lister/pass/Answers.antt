use Rattle.std.proofs.Common.{None}
use Rattle.std.proofs.lemmas.Str.{IsCharBoundary-from_drop}
use Rattle.std.proofs.lemmas.Result.{err_from_is_err_and}
use Rattle.pylex.proofs.LineByLine.Searching.{not_read, searches_none}
use Rattle.pylex.proofs.LineByLine.Steppings.{entry_ahead, place_held, steps_unopened, streaming_unopened, steps_entry, streaming_entry}
use Rattle.pylex.proofs.LineByLine.Steppings.{steps_other, streaming_other}
use Rattle.pylex.proofs.line_lister.pass.Goals as goal

pub range_from-left-requires : goal.range_from-left-requires
range_from-left-requires c = λ _.
    let l = c.requires.peeked.looks in
    rw c.deref.ensures (IsCharBoundary-from_drop _ c.args.found.at l.at l.left)

pub advance-requires-clause-place : goal.advance-requires-clause-place
advance-requires-clause-place c = place_held c.args.machine.now c.args.chunk.now None c.requires.streaming

pub returns-in_err-step-clause-streaming : goal.returns-in_err-step-clause-streaming
returns-in_err-step-clause-streaming c =
    rw c.requires.last (streaming_unopened not_read not_read c.args.machine.now c.args.machine.now c.args.chunk.now c.args.chunk.now None
    (searches_none not_read _ _ c.requires.streaming) c.advance.new.self c.in_err-step.ensures.same)

pub returns-in_err-step-clause-passes : goal.returns-in_err-step-clause-passes
returns-in_err-step-clause-passes c = λ seen_old seen_new p d last so some ahead.
    let e = err_from_is_err_and c.from_residual.result c.from_residual.ensures.1 in
    rw (e.1, e.2, c.requires.last) (steps_unopened _ _ p c.args.machine.now d c.args.chunk.now last so c.advance.new.self
    c.in_err-step.ensures.same _ c.args.found c.requires.peeked c.in_err-step.ensures.indent some)

pub returns-in-Entry-clause-streaming : goal.returns-in-Entry-clause-streaming
returns-in-Entry-clause-streaming c = streaming_entry not_read not_read c.args.machine.now c.args.machine.now c.args.chunk.now
    c.args.chunk.now None (searches_none not_read _ _ c.requires.streaming) c.advance.new.self c.args.found c.in_ok-step.step
    c.requires.peeked (rw (c.range_from-left.ensures.value, c.deref.ensures) at c.in_ok-step.ensures.went) c.in-Entry.entry c.in-Entry.is
    c.requires.given c.in_ok-step.ensures.fault

pub returns-in-Entry-clause-passes : goal.returns-in-Entry-clause-passes
returns-in-Entry-clause-passes c = λ seen_old seen_new p d last so some ahead. rw (← c.in-Entry.is)
    (steps_entry _ _ p c.args.machine.now d c.args.chunk.now last so c.advance.new.self c.args.found c.in_ok-step.step c.requires.peeked
    (rw (c.range_from-left.ensures.value, c.deref.ensures) at c.in_ok-step.ensures.went) c.in-Entry.entry c.in-Entry.is some
    (entry_ahead c.args.found c.in_ok-step.step c.in-Entry.entry d.lines c.args.chunk.now.lines c.in-Entry.is
    c.in_ok-step.ensures.fault ahead))

pub returns-in_default : goal.returns-in_default
returns-in_default c = record {
  streaming = rw c.requires.last (streaming_other not_read not_read c.args.machine.now c.args.machine.now c.args.chunk.now c.args.chunk.now
      None (searches_none not_read _ _ c.requires.streaming) c.advance.new.self c.args.found c.in_ok-step.step c.requires.peeked
      (rw (c.range_from-left.ensures.value, c.deref.ensures) at c.in_ok-step.ensures.went) c.in_default.not-Entry);
  passes = λ seen_old seen_new p d last so some ahead. rw c.requires.last (steps_other _ _ p c.args.machine.now d c.args.chunk.now last so
      c.advance.new.self c.args.found c.in_ok-step.step c.requires.peeked (rw (c.range_from-left.ensures.value, c.deref.ensures) at
      c.in_ok-step.ensures.went) c.in_default.not-Entry c.in_ok-step.ensures.stays);
}
