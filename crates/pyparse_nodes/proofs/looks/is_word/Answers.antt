use Rattle.pyparse_nodes.proofs.Places.Stands.{word_stands}
use Rattle.pyparse_nodes.proofs.looks.is_word.Goals as goal

pub returns-in-Some : goal.returns-in-Some
returns-in-Some c = word_stands c.args.tokens.now c.args.at c.args.word _ c.word_is.result c.in-Some.ensures.within
    c.in-Some.ensures.is c.word_is.ensures
