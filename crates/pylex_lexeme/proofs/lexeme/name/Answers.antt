use Rattle.pylex_lexeme.proofs.Lexemes.Union.{name_takes}
use Rattle.pylex_lexeme.proofs.lexeme.name.Goals as goal

pub returns : goal.returns
returns c = rw c.bump_while.ensures (name_takes c.args.text.now c.requires.no_string c.requires.start)
