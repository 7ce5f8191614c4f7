use Rattle.std.proofs.Common.{refl}
use Rattle.pyparse_line.proofs.Recorders.Fronts.{simple_placed}
use Rattle.pyparse_line.proofs.fronts.read_simple.Goals as goal

pub returns-clause-placed : goal.returns-clause-placed
returns-clause-placed g c = simple_placed c.in_ok-read.ensures.placed refl refl c.recorded-recorded.ensures c.recorded-recorded.ensures
