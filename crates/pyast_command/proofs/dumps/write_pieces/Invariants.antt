use Rattle.std.proofs.Common.{◌≡◌, ◌++◌, codes, length, string_bytes}
use Rattle.std.specs.List.{concat}
use Rattle.pyast_command.specs.Runs.{TakesAllBut}
use Rattle.pyast_command.proofs.dumps.write_pieces.Given as goal

abbrev pub invariant-pieces : goal.invariant-pieces
invariant-pieces g l = record {
  came : TakesAllBut (g.W.ByteOut.sent l.fn.writer).taken (g.W.ByteOut.sent l.writer).taken (concat l.fn.pieces ++ codes "\n")
      (string_bytes l.held) (concat l.pieces ++ codes "\n");
  counted : (g.W.ByteOut.sent l.writer).failures ≡ (g.W.ByteOut.sent l.fn.writer).failures;
}

abbrev pub decreases-pieces : goal.decreases-pieces
decreases-pieces g l = length l.pieces
