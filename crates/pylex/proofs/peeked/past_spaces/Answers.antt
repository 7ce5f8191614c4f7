use Rattle.std.proofs.Common.{ℕ, length, subst}
use Rattle.std.specs.Str.{chars}
use Rattle.pylex_lexeme.specs.declared.lexeme.Class.TheVariants.{Blanks}
use Rattle.pylex.specs.LineState.{with_levels, HasRoom}
use Rattle.pylex.proofs.Listers.Finding.{nothing_found, settles_same, stands_after, stays_there}
use Rattle.pylex.proofs.MachineLaws.Told.{blanks_give, fewer}
use Rattle.pylex.proofs.Texts.Spaces.{blanks_due}
use Rattle.pylex.proofs.peeked.past_spaces.Goals as goal

pub returns-in_default-clause-comes : goal.returns-in_default-clause-comes
returns-in_default-clause-comes c = λ levels. stays_there levels c.args.now.now (chars c.args.text.now)

pub pass_spaces-requires-clause-room : goal.pass_spaces-requires-clause-room
pass_spaces-requires-clause-room c =
    let p = c.args.now.now in
    let front = c.in-Some.spaces.now in
    let back = c.in-Some.left.now in
    fewer p (length front) (length back) (subst (λ (n : ℕ). HasRoom p n) c.in-Some.ensures.cuts.sizes c.requires.stands.room)

pub returns-clause-comes : goal.returns-clause-comes
returns-clause-comes c = λ levels.
    let p = c.args.now.now in
    let text = c.args.text.now in
    let front = c.in-Some.spaces.now in
    let back = c.in-Some.left.now in
    let cuts = c.in-Some.ensures.cuts in
    nothing_found levels p (chars text) p p c.pass_spaces.new.self text front back Blanks (stays_there levels p (chars text))
    (settles_same levels p (chars text) (blanks_due text front back p.margin cuts)) cuts
    (λ ls. blanks_give (with_levels p ls) (chars front))
    c.pass_spaces.ensures.passed

pub returns-clause-stands : goal.returns-clause-stands
returns-clause-stands c =
    stands_after c.args.now.now c.pass_spaces.new.self c.args.text.now c.in-Some.spaces.now c.in-Some.left.now Blanks c.in-Some.ensures.cuts
    c.requires.stands c.pass_spaces.ensures.room
