use Rattle.std.proofs.Common.{◌≡◌, length}
use Rattle.pyplaces.specs.StateOf.{state_of}
use Rattle.pyplaces.specs.Steps.{settle}
use Rattle.pyplaces.proofs.place_stack.PlaceStack.settle.Given as goal

abbrev pub invariant-loop-last : goal.invariant-loop-last
invariant-loop-last l = settle l.level l.is_clause (state_of l.self) ≡ settle l.level l.is_clause (state_of l.initial.self)

abbrev pub decreases-loop-last : goal.decreases-loop-last
decreases-loop-last l = length l.self.nodes.items
