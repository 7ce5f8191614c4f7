use Rattle.std.proofs.Common.{sym}
use Rattle.pytree_node.proofs.Callers.ExprShapes.{constant_tree}
use Rattle.pyunparse.proofs.Shapes.ValueLemmas.{not_text}
use Rattle.pyunparse.proofs.string_texts.text_of.Goals as goal

pub returns-in-Constant : goal.returns-in-Constant
returns-in-Constant c = rw (c.in-Constant.is, constant_tree) c.constant_text.ensures

pub returns-in_default : goal.returns-in_default
returns-in_default c = sym (not_text c.args.value.now c.in_default.not-Constant)
