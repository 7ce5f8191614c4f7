use Rattle.pyast_command.proofs.runs.perform.Goals as goal

pub returns-in-Tokens-clause-does : goal.returns-in-Tokens-clause-does
returns-in-Tokens-clause-does g c = rw c.in-Tokens.is c.write_listing.ensures.performs
