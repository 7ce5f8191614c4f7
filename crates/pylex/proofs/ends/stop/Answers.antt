use Rattle.std.proofs.Common.{[], sym}
use Rattle.std.specs.Prelude.{option_map}
use Rattle.pylex_listing.specs.Listing.{of_line}
use Rattle.pylex.specs.LineState.{with_levels}
use Rattle.pylex.proofs.Listers.Ending.{stop_in, line_in, open_in, tail_in, given_empty}
use Rattle.pylex.proofs.Listers.Ranges.{given_at}
use Rattle.pylex.proofs.ends.stop.Goals as goal

pub returns-then-not-is_empty-clause-steps : goal.returns-then-not-is_empty-clause-steps
returns-then-not-is_empty-clause-steps c levels = stop_in (option_map of_line c.args.fault) c.args.now levels c.args.left.now
    c.stop_fault_at.result c.utf8.left (sym c.if-not-is_empty.ensures) c.requires.stop c.stop_fault_at.ensures

pub returns-in-Some-clause-steps : goal.returns-in-Some-clause-steps
returns-in-Some-clause-steps c levels =
    rw c.in-Some.is (line_in c.line_fault.result (of_line c.in-Some.fault) (with_levels c.args.now levels) c.args.left.now
    (sym c.if-not-is_empty.ensures) c.requires.stop.none c.line_fault.ensures)

pub returns-then-is_open-clause-steps : goal.returns-then-is_open-clause-steps
returns-then-is_open-clause-steps c levels =
    rw c.in_default.is (open_in (with_levels c.args.now levels) c.args.left.now c.row_after.result (sym c.if-not-is_empty.ensures)
    c.requires.stop.none (sym c.if-is_open.ensures) c.row_after.ensures)

pub returns-clause-steps : goal.returns-clause-steps
returns-clause-steps c levels =
    rw c.in_default.is (tail_in (with_levels c.args.now levels) c.args.left.now _ (sym c.if-not-is_empty.ensures) c.requires.stop.none
    (sym c.if-is_open.ensures) (c.last_line_end.ensures levels))

pub returns-clause-empty : goal.returns-clause-empty
returns-clause-empty c = given_empty (with_levels c.args.now []) _ (c.last_line_end.ensures [])

pub returns-clause-at : goal.returns-clause-at
returns-clause-at c = given_at (with_levels c.args.now []) _ (c.last_line_end.ensures [])
