use Rattle.pylex.proofs.ends.end_step.Goals as goal

pub returns-in-Entry-clause-empty : goal.returns-in-Entry-clause-empty
returns-in-Entry-clause-empty c = c.in-Entry.ensures.empty

pub returns-in-Entry-clause-at : goal.returns-in-Entry-clause-at
returns-in-Entry-clause-at c = c.in-Entry.ensures.at
