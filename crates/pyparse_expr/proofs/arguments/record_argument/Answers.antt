use Rattle.pyparse_expr.proofs.Recorders.Calls.{single_kept, spread_kept}
use Rattle.pyparse_expr.proofs.arguments.record_argument.Goals as goal

pub returns-in-Single : goal.returns-in-Single
returns-in-Single g c = rw c.in-Single.is (λ w ps r e. single_kept r)

pub returns-in_ok-node-in-Spread : goal.returns-in_ok-node-in-Spread
returns-in_ok-node-in-Spread g c = rw c.in-Spread.is (λ w ps r e. spread_kept _ r c.in_ok-node-in-Spread.ensures)

pub returns-in-Doubled : goal.returns-in-Doubled
returns-in-Doubled g c = rw c.in-Doubled.is c.record_keyword.ensures

pub returns-in-Keyed : goal.returns-in-Keyed
returns-in-Keyed g c = rw c.in-Keyed.is c.record_keyword-in-Keyed.ensures
