use Rattle.std.proofs.Common.{arith}
use Rattle.pyunparse_text.specs.Pieces.{field_character}
use Rattle.pyunparse_text.proofs.Texts.EncodedLemmas.{pushed_all}
use Rattle.pyunparse_text.proofs.literal_texts.push_field_points.Goals as goal

pub returns : goal.returns
returns c = pushed_all field_character c.args.points.now c.loop-point.point-index _ _ (omega arith) c.loop-point.invariant
