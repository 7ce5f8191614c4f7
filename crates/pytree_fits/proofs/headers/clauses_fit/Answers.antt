use Rattle.std.proofs.Common.{ap, ◌∙◌}
use Rattle.std.specs.Prelude.{not}
use Rattle.pytree_node.specs.TreeOf.{handler_of, stmt_of}
use Rattle.pytree_fits.proofs.Counts.{with_handler, with_orelse, with_neither}
use Rattle.pytree_fits.proofs.headers.clauses_fit.Goals as goal

pub returns-then-not-is_empty : goal.returns-then-not-is_empty
returns-then-not-is_empty c = with_handler c.args.star handler_of c.args.caught.now _ _ c.if-not-is_empty.ensures

pub returns-then-not-is_empty-2 : goal.returns-then-not-is_empty-2
returns-then-not-is_empty-2 c = with_orelse c.args.star handler_of stmt_of c.args.caught.now c.args.orelse.now _ c.if-not-is_empty.ensures
    c.if-not-is_empty-2.ensures

pub returns : goal.returns
returns c = ap not c.is_empty-3.ensures ∙ with_neither c.args.star handler_of stmt_of c.args.caught.now c.args.orelse.now
    c.args.finalbody.now c.if-star.false c.if-not-is_empty.ensures c.if-not-is_empty-2.ensures
