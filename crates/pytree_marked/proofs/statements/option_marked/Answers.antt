use Rattle.std.proofs.Common.{arith}
use Rattle.pytree_marked.proofs.CountLemmas.{capped_none}
use Rattle.pytree_marked.proofs.statements.option_marked.Goals as goal

pub returns-in-None : goal.returns-in-None
returns-in-None c = rw c.in-None.is (capped_none c.args.before (omega arith))
