use Rattle.std.proofs.Common.{◌≡◌, ◌∷◌, length, take, sym, subst, arith, ap, ◌∙◌}
use Rattle.std.proofs.Math.Seq.{take-length}
use Rattle.pylex.specs.CursorTexts.{AreLevels}
use Rattle.pylex.proofs.Levels.GroundLevels.{ground_levels}
use Rattle.pylex.proofs.cursor.from_ground.Goals as goal

pub returns-clause-levels : goal.returns-clause-levels
returns-clause-levels c =
    let all : c.loop-level.level-index ≡ length c.args.levels.now =
    omega (arith, c.loop-level.auto.level-index-end, c.loop-level-test.false) in
    subst AreLevels (sym (c.loop-level.invariant ∙ ap (λ n. 0 ∷ take n c.args.levels.now) all
    ∙ ap (λ ls. 0 ∷ ls) (take-length c.args.levels.now))) (ground_levels c.args.levels.now c.requires c.type_inv.levels)
