use Rattle.pyparse_statement.proofs.statements.NameSteps.{name_found}
use Rattle.pyparse_statement.proofs.statements.names.read_name.Goals as goal

pub returns-in_ok-name-in-Some : goal.returns-in_ok-name-in-Some
returns-in_ok-name-in-Some c = name_found c.args.tokens.now c.args.at _ _ c.in-Some.ensures.is c.in_ok-name-in-Some.ensures
    c.in-Some.ensures.within
