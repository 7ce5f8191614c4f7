use Rattle.std.proofs.Common.{refl, sym}
use Rattle.pytree_node.proofs.Callers.StmtShapes.{if_tree}
use Rattle.pyunparse.proofs.Shapes.StatementLemmas.{not_if}
use Rattle.pyunparse.proofs.blocks.is_if.Goals as goal

pub returns-in-If : goal.returns-in-If
returns-in-If c = rw (c.in-If.is, if_tree) refl

pub returns-in_default : goal.returns-in_default
returns-in_default c = sym (not_if c.args.s.now c.in_default.not-If)
