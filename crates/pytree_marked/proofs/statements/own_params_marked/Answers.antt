use Rattle.std.proofs.Common.{arith}
use Rattle.pytree_marked.proofs.CountLemmas.{capped_none}
use Rattle.pytree_marked.proofs.statements.own_params_marked.Goals as goal

pub returns-in-Py311 : goal.returns-in-Py311
returns-in-Py311 c = rw c.in-Py311.is (capped_none c.args.before (omega arith))
