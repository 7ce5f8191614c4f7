use Rattle.std.proofs.Common.{[], arith}
use Rattle.pylex.proofs.Listers.Ending.{closing_dedent, closing_marker, closing_end}
use Rattle.pylex_listing.specs.declared.kind.Kind.TheVariants as kinds
use Rattle.pylex.proofs.Listers.Ranges.{mark_range}
use Rattle.pylex.proofs.ends.closing_step.Goals as goal

pub returns-then-closed-nested-clause-step : goal.returns-then-closed-nested-clause-step
returns-then-closed-nested-clause-step c levels h e = closing_dedent c.args.now levels c.args.nested c.args.closed c.mark.result h e
    c.if-closed-nested.true (rw (← c.last_place-place.ensures []) c.mark.ensures)

pub returns-then-closed-nested-2-clause-step : goal.returns-then-closed-nested-2-clause-step
returns-then-closed-nested-2-clause-step c levels h e = closing_marker c.args.now levels c.args.nested c.args.closed
    c.mark-then-closed-nested-2.result h e (omega arith) (rw (← c.last_place-place.ensures []) c.mark-then-closed-nested-2.ensures)

pub returns-else-closed-nested-2-clause-step : goal.returns-else-closed-nested-2-clause-step
returns-else-closed-nested-2-clause-step c levels h e = closing_end c.args.now levels c.args.nested c.args.closed h e (omega arith)

pub returns-then-closed-nested-clause-at : goal.returns-then-closed-nested-clause-at
returns-then-closed-nested-clause-at c = mark_range kinds.Dedent c.args.now.now.offset _ _ c.mark.result c.mark.ensures

pub returns-then-closed-nested-2-clause-at : goal.returns-then-closed-nested-2-clause-at
returns-then-closed-nested-2-clause-at c = mark_range kinds.EndMarker c.args.now.now.offset _ _ c.mark-then-closed-nested-2.result
    c.mark-then-closed-nested-2.ensures
