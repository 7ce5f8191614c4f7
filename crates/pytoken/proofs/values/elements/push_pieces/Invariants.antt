use Rattle.std.proofs.Common.{true, map, drop}
use Rattle.pyfstring.specs.Parts.{part_of, spec_parts}
use Rattle.pytoken.specs.FormattedStrings.{part_elements, spec_part_elements}
use Rattle.pytoken.specs.Inner.Pushing.{element_of}
use Rattle.pytoken.proofs.values.PushLemmas.{Leaves}
use Rattle.pytoken.proofs.values.elements.push_pieces.Given as goal

abbrev pub invariant-pieces : goal.invariant-pieces
invariant-pieces l =
    Leaves element_of (part_elements l.is_raw true (spec_part_elements l.is_raw))
    l.initial.out.items l.out.items (map (part_of spec_parts) l.pieces) (map (part_of spec_parts) (drop l.piece-index l.pieces))
