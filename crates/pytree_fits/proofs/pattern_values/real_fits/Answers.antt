use Rattle.std.proofs.Common.{◌≡◌, sym, subst, false}
use Rattle.pytree_node.specs.Trees as plain
use Rattle.pytree_node.specs.TreeOf.{tree_of}
use Rattle.pytree_node.proofs.Callers.ExprShapes.{unary_op_tree}
use Rattle.pytree_fits.specs.Tests.{tests_at}
use Rattle.pytree_fits.specs.PatternSlots.{real_fits}
use Rattle.pytree_fits.proofs.ValueShapes.{not_minus, not_real}
use Rattle.pytree_fits.proofs.pattern_values.real_fits.Goals as goal

pub returns-in_default-deref : goal.returns-in_default-deref
returns-in_default-deref c = rw (c.in-UnaryOp.is, unary_op_tree)
    (sym (subst (λ e. real_fits (tests_at c.args.asked.extent c.args.asked.fields) (plain.UnaryOp c.in-UnaryOp.op (tree_of e)) ≡ false)
    c.deref.ensures (not_minus c.deref.result.now c.in_default-deref.not-Constant
    (tests_at c.args.asked.extent c.args.asked.fields) c.in-UnaryOp.op)))

pub returns-in_default : goal.returns-in_default
returns-in_default c =
    sym (not_real c.args.expr.now c.in_default.not-Constant c.in_default.not-UnaryOp (tests_at c.args.asked.extent c.args.asked.fields))
