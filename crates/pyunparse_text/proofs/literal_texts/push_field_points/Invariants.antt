use Rattle.std.proofs.Common.{◌≡◌, ◌++◌, take}
use Rattle.std.specs.List.{flat_map}
use Rattle.std.specs.Str.{encode_utf8_all}
use Rattle.std.specs.String.{string_bytes}
use Rattle.pyunparse_text.specs.Pieces.{field_character}
use Rattle.pyunparse_text.proofs.literal_texts.push_field_points.Given as goal

abbrev pub invariant-loop-point : goal.invariant-loop-point
invariant-loop-point l =
    string_bytes l.out ≡ string_bytes l.fn.out ++ flat_map (λ x. encode_utf8_all (field_character x)) (take l.point-index l.points)
