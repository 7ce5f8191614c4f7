use Rattle.std.proofs.Common.{◌≡◌, length}
use Rattle.std.specs.Prelude.{map}
use Rattle.pyfstring.specs.Parts.{part_of, text_of}
use Rattle.pyfstring.specs.Cutting.{put_before, spec_pieces_at}
use Rattle.pyfstring.proofs.scanner.Scanner.spec_pieces.Given as goal

abbrev pub invariant-loop-pieces : goal.invariant-loop-pieces
invariant-loop-pieces l = spec_pieces_at l.manner l.initial.self ≡ put_before (map (part_of text_of) l.pieces.items)
    (spec_pieces_at l.manner l.self)

abbrev pub decreases-loop-pieces : goal.decreases-loop-pieces
decreases-loop-pieces l = length l.self
