use Rattle.std.proofs.Common.{rules, sym}
use Rattle.pynumber.proofs.Callers.Decimals.{small_below_limit}
use Rattle.pytree_node.proofs.integers.Integer.is_below_limit.Goals as goal

pub returns-in-Small : goal.returns-in-Small
returns-in-Small c = sym (small_below_limit c.args.self.now (search rules))
