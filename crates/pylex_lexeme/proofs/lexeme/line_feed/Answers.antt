use Rattle.pylex_lexeme.proofs.Lexemes.Union.{feed_takes}
use Rattle.pylex_lexeme.proofs.lexeme.line_feed.Goals as goal

pub returns : goal.returns
returns c = rw c.bump_count.ensures (feed_takes c.args.text.now c.requires)
