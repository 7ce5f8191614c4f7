use Rattle.pyparse_pattern.proofs.numbers.read_number.Goals as goal

pub returns-clause-placed : goal.returns-clause-placed
returns-clause-placed g c = c.in_ok-read.ensures.placed
