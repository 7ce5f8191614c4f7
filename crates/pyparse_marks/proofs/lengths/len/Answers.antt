use Rattle.pylex_lexeme.proofs.Callers.Fronts.{length-text}
use Rattle.pyparse_marks.proofs.lengths.len.Goals as goal

pub returns : goal.returns
returns c = length-text c.args.text.now c.utf8.text
