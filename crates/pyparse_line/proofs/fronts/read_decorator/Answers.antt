use Rattle.std.proofs.Common.{refl}
use Rattle.pyparse_line.proofs.Recorders.Fronts.{decorator_placed}
use Rattle.pyparse_line.proofs.fronts.read_decorator.Goals as goal

pub returns-clause-placed : goal.returns-clause-placed
returns-clause-placed g c = λ prof s. let h = c.in_ok-e.ensures.placed in
    decorator_placed c.in_ok-e.e h.1 h.2 refl refl c.recorded-recorded.ensures c.recorded-recorded.ensures s
