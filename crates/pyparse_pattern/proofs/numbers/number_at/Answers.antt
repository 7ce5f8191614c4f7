use Rattle.pyplaces.proofs.Answers.{records_node}
use Rattle.pyparse_pattern.proofs.numbers.number_at.Goals as goal

pub returns-clause-placed : goal.returns-clause-placed
returns-clause-placed g c = records_node c.in_ok-node.ensures
