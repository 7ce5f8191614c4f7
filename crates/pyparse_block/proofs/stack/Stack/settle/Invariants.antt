use Rattle.std.proofs.Common.{◌≡◌, length}
use Rattle.pygrammar.specs.Reading.{settle}
use Rattle.pyparse_block.specs.Values.{state_of}
use Rattle.pyparse_block.proofs.stack.Stack.settle.Given as goal

abbrev pub invariant-loop-alloc : goal.invariant-loop-alloc
invariant-loop-alloc l = settle l.level (state_of l.self) ≡ settle l.level (state_of l.initial.self)

abbrev pub decreases-loop-alloc : goal.decreases-loop-alloc
decreases-loop-alloc l = length l.self.below.items
