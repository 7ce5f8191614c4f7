-- What the descriptions of statements, of their fields and of their lists show.
use Rattle.std.specs.Prelude.{ℕ, Bool, List, map, length, take}
use Rattle.pytree_node.specs.declared.profiles.Profile.{Profile}
use Rattle.pytree_node.specs.TreeOf.{case_of, handler_of, stmt_of}
use Rattle.pytree_dump_text.specs.declared.styles.Style.{Style}
use Rattle.pytree_dump_text.specs.Blocks.{shown_case, shown_handler}
use Rattle.pytree_dump_text.specs.Names.{field_name}
use Rattle.pytree_dump_text.specs.Shows.{Shown, Fields, Row, showns, shown_stmt}
use Rattle.pytree_dump_text.specs.Slots.{Slot, field}
use Rattle.pytree_dump.specs.declared.branches.Branch.{Branch}
use Rattle.pytree_dump.specs.declared.branches.Branch.TheVariants as branch
use Rattle.pytree_dump.specs.declared.branches.Branches as given_branches
use Rattle.pytree_dump.specs.declared.branches.Branches.TheVariants as branches
use Rattle.pytree_dump.specs.declared.branches.BranchPart.{BranchPart}
use Rattle.pytree_dump.specs.declared.branches.BranchPart.TheVariants as part
use Rattle.pytree_dump.specs.declared.branches.BranchNode as given
use Rattle.pytree_dump.specs.Inner.Nodes.{LaidSketch, Sketch, Sketched, SketchedShown, any_slot, slotted}

-- a statement, a handler or a case
abbrev pub branch_shown : Profile → Branch → Shown
branch_shown p (branch.Stmt s) = shown_stmt p (stmt_of s.now)
branch_shown p (branch.Handler h) = shown_handler p (handler_of h.now)
branch_shown p (branch.Case c) = shown_case p (case_of c.now)

-- a list of them
abbrev pub branches_shown : Profile → given_branches.Branches → List Shown
branches_shown p (branches.Stmts xs) = map (λ s. shown_stmt p (stmt_of s)) xs.now
branches_shown p (branches.Handlers xs) = map (λ h. shown_handler p (handler_of h)) xs.now
branches_shown p (branches.Cases xs) = map (λ c. shown_case p (case_of c)) xs.now

abbrev pub branches_len : given_branches.Branches → ℕ
branches_len (branches.Stmts xs) = length xs.now
branches_len (branches.Handlers xs) = length xs.now
branches_len (branches.Cases xs) = length xs.now

-- a field
abbrev pub branch_slot : Profile → BranchPart → Slot
branch_slot p (part.Any x) = any_slot x
branch_slot p (part.Branches name xs) = field (field_name name) (Row (showns (branches_shown p xs)))

-- the fields of a node: those of its parts that count
abbrev pub branch_fields : Profile → given.BranchNode → Fields
branch_fields p n = slotted (branch_slot p) (take n.len n.parts)

abbrev pub branch_sketch : Profile → given.BranchNode → Sketch
branch_sketch p n = record {
  room = 7;
  len = n.len;
  is_marked = n.is_marked;
  class = n.class.now;
  fields = branch_fields p n;
  is_short = n.is_short;
}

abbrev pub DescribesBranch : Bool → Style → given.BranchNode → List ℕ → Fields → Type 0
DescribesBranch m s n start fs = Sketched m s (branch_sketch s.profile n) start fs

abbrev pub BranchShows : Style → given.BranchNode → Shown → Type 0
BranchShows s n x = SketchedShown s (branch_sketch s.profile n) x

abbrev pub LaidBranch : Style → given.BranchNode → Type 0
LaidBranch s n = LaidSketch s (branch_sketch s.profile n)
