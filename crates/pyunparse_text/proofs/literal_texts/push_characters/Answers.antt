use Rattle.std.proofs.Common.{arith}
use Rattle.pyunparse_text.specs.Pieces.{character_text}
use Rattle.pyunparse_text.proofs.Texts.EncodedLemmas.{pushed_all}
use Rattle.pyunparse_text.proofs.literal_texts.push_characters.Goals as goal

pub returns : goal.returns
returns c =
    pushed_all (character_text c.args.in_field c.args.in_spec) c.args.points.now c.loop-point.point-index _ _
    (omega arith) c.loop-point.invariant
