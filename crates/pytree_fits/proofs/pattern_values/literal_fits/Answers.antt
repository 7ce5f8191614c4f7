use Rattle.std.proofs.Common.{sym}
use Rattle.pytree_fits.specs.Tests.{tests_at}
use Rattle.pytree_fits.proofs.ValueShapes.{not_literal}
use Rattle.pytree_fits.proofs.pattern_values.literal_fits.Goals as goal

pub returns-in_default : goal.returns-in_default
returns-in_default c = sym (not_literal c.args.expr.now c.in_default.not-Constant c.in_default.not-UnaryOp c.in_default.not-BinOp
    c.in_default.not-JoinedStr (tests_at c.args.asked.extent c.args.asked.fields))
