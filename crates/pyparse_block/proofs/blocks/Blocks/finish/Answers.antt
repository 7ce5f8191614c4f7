use Rattle.pyparse_block.proofs.AnswerLemmas.{end_read, end_told}
use Rattle.pyparse_block.specs.StateOf.{state_of}
use Rattle.pyparse_block.proofs.blocks.Blocks.finish.Goals as goal

pub returns-clause-block : goal.returns-clause-block
returns-clause-block c = λ xs o h. end_read xs (state_of c.args.self) c.finish.result o h c.finish.ensures.tree

pub returns-clause-blamed : goal.returns-clause-blamed
returns-clause-blamed c = λ xs h. end_told xs (state_of c.args.self) c.finish.result h c.finish.ensures.refused
