use Rattle.std.proofs.Common.{◌≡◌, ◌+◌, ◌*◌, ◌++◌, true, drop}
use Rattle.std.specs.String.{string_bytes}
use Rattle.pytree_node.specs.TreeOf.{stmt_of}
use Rattle.pytree_dump_text.specs.Layout.{members}
use Rattle.pytree_dump_text.specs.Shows.{Row, shown_stmt, showns}
use Rattle.pytree_marked.specs.Appends.{coming_with}
use Rattle.pytree_marked.specs.MarkedNodes.{fields_with, rows_with}
use Rattle.pytree_dump.specs.Inner.Branches.{branch_fields, branch_shown, branch_slot, branches_shown}
use Rattle.pytree_dump.specs.Inner.Nodes.{slotted}
use Rattle.pytree_dump.specs.Inner.Weights.{weight, field_weights, slot_weight}
use Rattle.pytree_dump.proofs.blocks.+blocks.Given as goal

abbrev pub decreases-show_branch : goal.decreases-show_branch
decreases-show_branch g l = 4 * weight (branch_shown l.style.profile l.branch) + 1

abbrev pub decreases-show_stmt : goal.decreases-show_stmt
decreases-show_stmt g l = 4 * weight (shown_stmt l.style.profile (stmt_of l.s.now))

abbrev pub decreases-show_branch_node : goal.decreases-show_branch_node
decreases-show_branch_node g l = 4 * field_weights (branch_fields l.style.profile l.node.now) + 2

abbrev pub invariant-show_branch_node-loop-part : goal.invariant-show_branch_node-loop-part
invariant-show_branch_node-loop-part g l = record {
  text : string_bytes l.out ++ coming_with l.node.is_marked l.style (string_bytes l.initial.indentation)
      (g.P.PlaceSource.left l.places) l.told (slotted (branch_slot l.style.profile) (drop l.part-index l.part-items))
      ≡ string_bytes l.initial.out ++ coming_with l.node.is_marked l.style (string_bytes l.initial.indentation)
      (g.P.PlaceSource.left l.initial.places) l.initial.told (slotted (branch_slot l.style.profile) l.part-items);
  left : (fields_with (g.P.PlaceSource.left l.places) (slotted (branch_slot l.style.profile) (drop l.part-index l.part-items))).left
      ≡ (fields_with (g.P.PlaceSource.left l.initial.places) (slotted (branch_slot l.style.profile) l.part-items)).left;
  indentation : string_bytes l.indentation ≡ string_bytes l.initial.indentation;
}

abbrev pub decreases-show_branch_field : goal.decreases-show_branch_field
decreases-show_branch_field g l = 4 * slot_weight (branch_slot l.style.profile l.part) + 1

abbrev pub decreases-show_branches : goal.decreases-show_branches
decreases-show_branches g l = 4 * weight (Row (showns (branches_shown l.style.profile l.branches)))

abbrev pub invariant-show_branches-loop-i : goal.invariant-show_branches-loop-i
invariant-show_branches-loop-i g l = record {
  text : string_bytes l.out ++ members l.style (string_bytes l.initial.indentation) l.first
      (rows_with (g.P.PlaceSource.left l.places) (showns (drop l.i (branches_shown l.style.profile l.branches)))).shown
      ≡ string_bytes l.initial.out ++ members l.style (string_bytes l.initial.indentation) true
      (rows_with (g.P.PlaceSource.left l.initial.places) (showns (branches_shown l.style.profile l.branches))).shown;
  left : (rows_with (g.P.PlaceSource.left l.places) (showns (drop l.i (branches_shown l.style.profile l.branches)))).left
      ≡ (rows_with (g.P.PlaceSource.left l.initial.places) (showns (branches_shown l.style.profile l.branches))).left;
  indentation : string_bytes l.indentation ≡ string_bytes l.initial.indentation;
}
