use Rattle.pylex_lexeme.proofs.Lexemes.Delimiters.{delimiter_takes}
use Rattle.pylex_lexeme.proofs.lexeme.delimiter.Goals as goal

pub returns : goal.returns
returns c = rw c.bump.ensures.rest (delimiter_takes c.args.text.now c.args.which c.requires)
