use Rattle.std.specs.List.{flat_map}
use Rattle.pyunparse_text.specs.Pieces.{field_character}
use Rattle.pyunparse_text.proofs.Texts.EncodedLemmas.{quoted_from}
use Rattle.pyunparse_text.proofs.literal_texts.push_quoted_points.Goals as goal

pub returns : goal.returns
returns c =
    quoted_from _
    (flat_map field_character c.args.points.now) _ _ _ c.in_ok-push.ensures.bytes c.in_ok-push_field_points.ensures
    c.in_ok-push-2.ensures.bytes
