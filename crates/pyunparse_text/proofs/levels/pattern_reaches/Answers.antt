use Rattle.std.proofs.Common.{◌≤◌, ◌<◌, arith}
use Rattle.pygrammar.specs.PatternOperators.{pattern_rank}
use Rattle.pyunparse_text.proofs.Texts.LevelLemmas.{inner_pattern, outer_pattern}
use Rattle.pyunparse_text.proofs.levels.pattern_reaches.Goals as goal

pub returns-then-rank-ge3 : goal.returns-then-rank-ge3
returns-then-rank-ge3 c =
    let inner : 3 ≤ pattern_rank c.args.own = omega arith in
    rw (c.rank-rank.ensures, c.rank.ensures) (inner_pattern c.args.place c.args.own inner)

pub returns : goal.returns
returns c =
    let outer : pattern_rank c.args.own < 3 = omega arith in
    rw (c.rank-rank.ensures, c.rank-2.ensures) (outer_pattern c.args.place c.args.own outer)
