use Rattle.pylex_lexeme.proofs.Lexemes.Union.{prefix_starts}
use Rattle.pylex_lexeme.proofs.lexeme.literal_or_name.Goals as goal

pub name-requires-clause-start : goal.name-requires-clause-start
name-requires-clause-start c = prefix_starts c.args.text.now c.requires
