use Rattle.std.proofs.Common.{arith}
use Rattle.pytree_node.specs.TreeOf.{pattern_of}
use Rattle.pyparse_pattern.proofs.Wholes.{whole_high}
use Rattle.pyparse_pattern.proofs.Recorders.Levels.{whole_placed}
use Rattle.pyparse_pattern.proofs.patterns.read_whole_pattern.Goals as goal

pub returns-then-read-gt-MOST_HEIGHT-clause-answered : goal.returns-then-read-gt-MOST_HEIGHT-clause-answered
returns-then-read-gt-MOST_HEIGHT-clause-answered g c =
    whole_high c.args.tokens.now c.args.level _ _ (pattern_of c.in_ok-read.read.pattern.value) _
    (omega arith) (omega arith) c.in_ok-read.ensures.answered.is (omega (arith, c.in_ok-read.read.is_height))

pub returns-clause-placed : goal.returns-clause-placed
returns-clause-placed g c =
    let h = c.in_ok-read.ensures.placed in (
      h.0,
      whole_placed c.args.tokens.now c.args.level (pattern_of c.in_ok-read.read.pattern.value) c.in_ok-read.read.next h.0 (omega arith) h.1,
      h.2,
    )
