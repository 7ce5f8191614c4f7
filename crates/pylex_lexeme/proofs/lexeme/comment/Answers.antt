use Rattle.pylex_lexeme.proofs.Lexemes.Union.{comment_takes}
use Rattle.pylex_lexeme.proofs.lexeme.comment.Goals as goal

pub returns : goal.returns
returns c = rw c.bump_while.ensures (comment_takes c.args.text.now c.requires)
