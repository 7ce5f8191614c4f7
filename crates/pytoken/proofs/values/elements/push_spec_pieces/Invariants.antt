use Rattle.std.proofs.Common.{false, map, drop}
use Rattle.pyfstring.specs.Parts.{part_of, text_of}
use Rattle.pytoken.specs.FormattedStrings.{part_elements, inner_elements}
use Rattle.pytoken.specs.Inner.Pushing.{element_of}
use Rattle.pytoken.proofs.values.PushLemmas.{Leaves}
use Rattle.pytoken.proofs.values.elements.push_spec_pieces.Given as goal

abbrev pub invariant-pieces : goal.invariant-pieces
invariant-pieces l =
    Leaves element_of (part_elements l.is_raw false (inner_elements l.is_raw))
    l.initial.out.items l.out.items (map (part_of text_of) l.pieces) (map (part_of text_of) (drop l.piece-index l.pieces))
