use Rattle.std.proofs.Common.{refl}
use Rattle.pyfstring.specs.Parts.{part_of, text_of}
use Rattle.pytoken.proofs.Callers.Bodies.{read_again}
use Rattle.pyparse_marks.specs.TokenSpans.{past_part, past_text, past_expression}
use Rattle.pyparse_marks.specs.Inner.Walking.{around_of}
use Rattle.pyparse_marks.proofs.PassLemmas.{leads_one, leads_none}
use Rattle.pyparse_marks.proofs.parts.pass_spec_pieces.Goals as goal

pub pieces-init : goal.pieces-init
pieces-init g c = refl

pub pieces-preserved : goal.pieces-preserved
pieces-preserved g c =
    let a = around_of c.args.around.now in
    leads_one (past_part (past_expression g.T.Tokens.past) (past_text a) a) (part_of text_of) _ c.pieces.walker _ c.args.pieces.now
    c.pieces.piece-index _ c.pieces-test.true (read_again c.args.pieces.now c.pieces.piece-index _ c.pieces-test.true)
    c.pieces.invariant c.in_ok-pass_spec_piece.ensures

pub returns : goal.returns
returns g c =
    let a = around_of c.args.around.now in
    leads_none (past_part (past_expression g.T.Tokens.past) (past_text a) a) (part_of text_of) _ c.pieces.walker c.args.pieces.now
    c.pieces.piece-index c.pieces-test.false c.pieces.invariant
