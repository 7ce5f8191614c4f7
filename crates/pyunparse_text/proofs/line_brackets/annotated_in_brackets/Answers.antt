use Rattle.std.proofs.Common.{refl, sym}
use Rattle.pytree_node.proofs.Callers.ExprShapes.{name_tree}
use Rattle.pyunparse_text.proofs.Texts.ShapeLemmas.{not_in_brackets}
use Rattle.pyunparse_text.proofs.line_brackets.annotated_in_brackets.Goals as goal

pub returns-in-Name : goal.returns-in-Name
returns-in-Name c = rw (c.in-Name.is, name_tree) refl

pub returns-in_default : goal.returns-in_default
returns-in_default c = sym (not_in_brackets c.args.target.now c.in_default.not-Name c.args.simple)
