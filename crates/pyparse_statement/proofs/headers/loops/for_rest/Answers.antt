use Rattle.std.proofs.Common.{refl}
use Rattle.pyparse_statement.proofs.Recorders.Headers.{for_placed}
use Rattle.pyparse_statement.proofs.headers.loops.for_rest.Goals as goal

pub returns-clause-placed : goal.returns-clause-placed
returns-clause-placed g c = let h = c.in_ok-target.ensures.placed in
    let k = c.in_ok-iter.ensures.placed in
    for_placed c.in_ok-target.target c.in_ok-target-2.target c.in_ok-iter.iter h.1 h.2 c.if-not-is_word.ensures k.1 k.2
    c.in_ok-target-2.ensures refl refl c.recorded.ensures
