-- What is kept of lines, as the reading has it.
use Rattle.pygrammar.specs.Reading.{State}
use Rattle.pyparse_block.specs.declared.blocks.Blocks.{Blocks}
use Rattle.pyparse_block.specs.Values as value

-- the state of the reading after the lines so far
abbrev pub state_of : Blocks → State
state_of b = value.state_of b.stack
