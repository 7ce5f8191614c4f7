-- The values of what is kept of lines, with no addresses.
use Rattle.std.specs.Prelude.{List, ◌∷◌, map, reverse}
use Rattle.pytree_node.specs.TreeOf.{tree_of, stmt_of, case_of, handler_of}
use Rattle.pygrammar.specs.Reading.{Arm, arm, Group, PartialBlock, part, Waiting, waiting, State, state}
use Rattle.pygrammar.specs.Reading as group
use Rattle.pygrammar.specs.FormOf.{loop_head_of, header_of}
use Rattle.pyparse_block.specs.declared.groups.Arm as given_arm
use Rattle.pyparse_block.specs.declared.groups.Group as given_group
use Rattle.pyparse_block.specs.declared.groups.Group.TheVariants as variant
use Rattle.pyparse_block.specs.declared.groups.PartialBlock as given_part
use Rattle.pyparse_block.specs.declared.stack.Waiting as given_waiting
use Rattle.pyparse_block.specs.declared.stack.Stack as given_stack

abbrev pub arm_of : given_arm.Arm → Arm
arm_of a = arm (tree_of a.test.value) (map stmt_of a.body.items)

abbrev pub group_of : given_group.Group → Group
group_of variant.Idle = group.Idle
group_of (variant.Marked decorators) = group.Marked (map tree_of decorators.items)
group_of (variant.Choice first elifs) = group.Choice (arm_of first ∷ map arm_of elifs.items)
group_of (variant.Loop head body) = group.Loop (loop_head_of head) (map stmt_of body.items)
group_of (variant.Trial body) = group.Trial (map stmt_of body.items)
group_of (variant.Caught star body handlers) = group.Caught star (map stmt_of body.items) (map handler_of handlers.items)
group_of (variant.Settled star body handlers orelse) =
    group.Settled star (map stmt_of body.items) (map handler_of handlers.items) (map stmt_of orelse.items)
group_of (variant.Matching cases) = group.Matching (map case_of cases.items)

abbrev pub part_of : given_part.PartialBlock → PartialBlock
part_of p = part (map stmt_of p.done.items) (group_of p.group)

abbrev pub waiting_of : given_waiting.Waiting → Waiting
waiting_of w = waiting (map stmt_of w.part.done.items) (group_of w.part.group) (header_of w.header)

-- the deepest level first, which stands last in the program
abbrev pub below_of : List given_waiting.Waiting → List Waiting
below_of ws = reverse (map waiting_of ws)

abbrev pub state_of : given_stack.Stack → State
state_of s = state (map stmt_of s.part.done.items) (group_of s.part.group) s.fresh (below_of s.below.items)
