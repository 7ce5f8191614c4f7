use Rattle.std.proofs.Common.{◌≡◌, ◌≤◌, ◌-◌, ◌+◌, ◌∙◌, suc, arith, sym}
use Rattle.std.proofs.lemmas.Bool.Decides.{nat_tests}
use Rattle.pygrammar.specs.Operators.{rank}
use Rattle.pyunparse_text.proofs.Texts.LevelLemmas.{all_levels, by_rank, leads_none, leads_on}
use Rattle.pyunparse_text.proofs.levels.reaches.Goals as goal

pub returns-then-rank-ge9 : goal.returns-then-rank-ge9
returns-then-rank-ge9 c =
    let far : 9 ≤ rank c.args.own = omega arith in
    rw (c.rank-then-rank-ge9.ensures, c.rank-then-rank-ge9-2.ensures) (by_rank c.args.place c.args.own far)

pub loop-init : goal.loop-init
loop-init c = all_levels c.args.place c.args.own

pub loop-preserved : goal.loop-preserved
loop-preserved c =
    let e : 19 - c.loop.counter ≡ suc (19 - (c.loop.counter + 1)) = omega arith in
    let s = leads_on _ _ c.loop.level c.args.own e in
    grind (arith, nat_tests)

pub returns-then-rank : goal.returns-then-rank
returns-then-rank c =
    let e : 19 - c.loop.counter ≡ suc (19 - (c.loop.counter + 1)) = omega arith in
    let s = leads_on _ _ c.loop.level c.args.own e in
    grind (arith, nat_tests)

pub returns : goal.returns
returns c =
    let e : 19 - c.loop.counter ≡ 0 = omega arith in
    sym (leads_none _ c.loop.level c.args.own e) ∙ c.loop.invariant
