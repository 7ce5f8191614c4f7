use Rattle.pyparse_statement.proofs.headers.WordSteps.{word_stands}
use Rattle.pyparse_statement.proofs.headers.words.word_at.Goals as goal

pub returns-in-Some : goal.returns-in-Some
returns-in-Some c = word_stands c.args.tokens.now c.args.at _ c.word_of.result c.in-Some.ensures.within
    c.in-Some.ensures.is c.word_of.ensures
