use Rattle.std.proofs.Common.{◌≡◌, ◌+◌, map, take}
use Rattle.pytree_node.specs.TreeOf.{type_param_of}
use Rattle.pytree_dump_text.specs.Shows.{shown_type_params}
use Rattle.pytree_marked.specs.MarkedNodes.{marked_rows}
use Rattle.pytree_marked.specs.Counts.{capped}
use Rattle.pytree_marked.proofs.statements.type_params_marked.Given as goal

abbrev pub invariant-loop-p : goal.invariant-loop-p
invariant-loop-p l = l.count ≡ capped (l.before + marked_rows (shown_type_params (map type_param_of (take l.p-index l.fn.all))))
