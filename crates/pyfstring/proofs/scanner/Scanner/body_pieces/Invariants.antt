use Rattle.std.proofs.Common.{◌≡◌, length}
use Rattle.std.specs.Prelude.{map}
use Rattle.pyfstring.specs.Parts.{part_of, spec_parts}
use Rattle.pyfstring.specs.Cutting.{put_before, body_pieces_at}
use Rattle.pyfstring.proofs.scanner.Scanner.body_pieces.Given as goal

abbrev pub invariant-loop-pieces : goal.invariant-loop-pieces
invariant-loop-pieces l = body_pieces_at l.manner l.initial.self ≡ put_before (map (part_of spec_parts) l.pieces.items)
    (body_pieces_at l.manner l.self)

abbrev pub decreases-loop-pieces : goal.decreases-loop-pieces
decreases-loop-pieces l = length l.self
