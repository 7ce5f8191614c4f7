use Rattle.std.proofs.Common.{◌-◌}
use Rattle.pyparse.proofs.PlacedLemmas.{told_part}
use Rattle.pyparse.proofs.placed.run_of.Goals as goal

pub returns-in-Some : goal.returns-in-Some
returns-in-Some c low high =
    told_part c.args.spans.now c.in-Some.run'.now (c.args.to - c.args.«from») c.args.«from» c.in-Some.ensures.lookup.0.2
