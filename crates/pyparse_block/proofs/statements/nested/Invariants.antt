use Rattle.std.proofs.Common.{◌≡◌, map, length}
use Rattle.pytree_node.specs.TreeOf.{stmt_of}
use Rattle.pygrammar.specs.Reading.{choice}
use Rattle.pyparse_block.specs.Values.{arm_of}
use Rattle.pyparse_block.proofs.statements.nested.Given as goal

abbrev pub invariant-loop-arm : goal.invariant-loop-arm
invariant-loop-arm l = choice (map arm_of l.elifs.items) (map stmt_of l.inner.items) ≡ choice (map arm_of l.fn.elifs.items)
    (map stmt_of l.fn.orelse.items)

abbrev pub decreases-loop-arm : goal.decreases-loop-arm
decreases-loop-arm l = length l.elifs.items
