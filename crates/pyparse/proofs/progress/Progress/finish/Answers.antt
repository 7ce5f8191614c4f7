use Rattle.pyparse.proofs.progress.Progress.finish.Goals as goal

pub returns-clause-accepted : goal.returns-clause-accepted
returns-clause-accepted c profile s k was closes = c.finish.ensures.accepted profile s k was.forms was.known closes

pub returns-clause-refused : goal.returns-clause-refused
returns-clause-refused c profile s k was closes = c.finish.ensures.refused profile s k was.forms was.known closes

pub returns-clause-block : goal.returns-clause-block
returns-clause-block c profile s k forms was = c.finish.ensures.block profile s k forms was.known
