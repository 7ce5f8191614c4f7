use Rattle.pygrammar.specs.Lines.{line}
use Rattle.pygrammar.proofs.Callers.Blocks.{step_on}
use Rattle.pygrammar.specs.FormOf.{form_of}
use Rattle.pyparse_block.specs.StateOf.{state_of}
use Rattle.pyparse_block.specs.Values as value
use Rattle.pyparse_block.proofs.AnswerLemmas.{line_blamed}
use Rattle.pyparse_block.proofs.blocks.Blocks.step.Goals as goal

pub returns-in-Err-clause-blamed : goal.returns-in-Err-clause-blamed
returns-in-Err-clause-blamed c = λ xs more h.
    line_blamed xs more (line c.args.level (form_of c.args.form)) (state_of c.args.self.now) c.in-Err.stop h c.in-Err.ensures.refused

pub returns-in-Ok-clause-read : goal.returns-in-Ok-clause-read
returns-in-Ok-clause-read c = λ xs h.
    step_on xs (line c.args.level (form_of c.args.form)) (state_of c.args.self.now) (value.state_of c.step.new.self) h c.in-Ok.ensures.goes
