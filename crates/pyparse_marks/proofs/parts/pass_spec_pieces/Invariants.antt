use Rattle.pyfstring.specs.Parts.{part_of, text_of}
use Rattle.pyparse_marks.specs.TokenSpans.{past_part, past_text, past_expression}
use Rattle.pyparse_marks.specs.Inner.Walking.{around_of}
use Rattle.pyparse_marks.proofs.PassLemmas.{Leads}
use Rattle.pyparse_marks.proofs.parts.pass_spec_pieces.Given as goal

abbrev pub invariant-pieces : goal.invariant-pieces
invariant-pieces g l =
    Leads (past_part (past_expression g.T.Tokens.past) (past_text (around_of l.around)) (around_of l.around)) (part_of text_of) l.fn.walker
    l.walker l.pieces l.piece-index
