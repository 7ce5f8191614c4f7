use Rattle.std.proofs.Common.{refl, subst, false}
use Rattle.pygrammar.specs.Lines.{line}
use Rattle.pygrammar.specs.FormOf.{form_of}
use Rattle.pyparse_block.specs.Known.{AwaitsBlocks}
use Rattle.pyparse_block.proofs.Callers.ProgressLemmas.{sound_on, sound_misplaced}
use Rattle.pyparse_block.proofs.known.Known.grow.Goals as goal

pub returns-in-Ok : goal.returns-in-Ok
returns-in-Ok c profile s k forms met comes =
    let half = subst (AwaitsBlocks profile s k forms (line c.args.level (form_of c.args.form))) c.in-Sound.is met in
    sound_on forms comes c.in-Sound.outline c.step.new.self half.sound false refl half.follows c.in-Ok.ensures.read

pub returns-in_ok-fail-in-Err : goal.returns-in_ok-fail-in-Err
returns-in_ok-fail-in-Err c profile s k forms met comes =
    let half = subst (AwaitsBlocks profile s k forms (line c.args.level (form_of c.args.form))) c.in-Sound.is met in
    sound_misplaced forms comes c.in-Err.stop c.fail.new.self half.sound c.in_ok-fail-in-Err.ensures c.in-Err.ensures.blamed
