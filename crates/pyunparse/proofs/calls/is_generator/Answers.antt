use Rattle.std.proofs.Common.{refl, sym}
use Rattle.pytree_node.proofs.Callers.ExprShapes.{generator_exp_tree}
use Rattle.pyunparse_text.proofs.Callers.Writing.{not_generator}
use Rattle.pyunparse.proofs.calls.is_generator.Goals as goal

pub returns-in-GeneratorExp : goal.returns-in-GeneratorExp
returns-in-GeneratorExp c = rw (c.in-GeneratorExp.is, generator_exp_tree) refl

pub returns-in_default : goal.returns-in_default
returns-in_default c = sym (not_generator c.args.e.now c.in_default.not-GeneratorExp)
