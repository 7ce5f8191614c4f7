use Rattle.pyast_command.proofs.dumps.write_dump.Goals as goal

pub returns-then-asked-clause-performs : goal.returns-then-asked-clause-performs
returns-then-asked-clause-performs g c = rw (c.if-asked.true) c.write_placed.ensures.performs

pub returns-else-asked-clause-performs : goal.returns-else-asked-clause-performs
returns-else-asked-clause-performs g c = rw (c.if-asked.false) c.write_bare.ensures.performs
