use Rattle.pyparse_statement.proofs.statements.NameSteps.{as_found}
use Rattle.pyparse_statement.proofs.statements.names.read_as.Goals as goal

pub returns-in_ok-name-in-Some : goal.returns-in_ok-name-in-Some
returns-in_ok-name-in-Some c = as_found c.args.tokens.now c.args.at c.if-not-is_word.ensures _ _ c.in-Some.ensures.is
    c.in_ok-name-in-Some.ensures c.in-Some.ensures.within
