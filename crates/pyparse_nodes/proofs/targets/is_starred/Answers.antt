use Rattle.std.proofs.Common.{refl, sym}
use Rattle.pytree_node.proofs.Callers.ExprShapes.{starred_tree}
use Rattle.pyparse_nodes.proofs.Stores.TargetShapes.{not_starred}
use Rattle.pyparse_nodes.proofs.targets.is_starred.Goals as goal

pub returns-in-Starred : goal.returns-in-Starred
returns-in-Starred c = rw (c.in-Starred.is, starred_tree) refl

pub returns-in_default : goal.returns-in_default
returns-in_default c = sym (not_starred c.args.e.now c.in_default.not-Starred)
