-- How many nodes with a place there are in what may be absent.
use Rattle.std.specs.Prelude.{ℕ, Option, Some, None}
use Rattle.pytree_node.specs.Trees
use Rattle.pytree_dump_text.specs.Shows.{shown, shown_arg, shown_pattern}
use Rattle.pytree_marked.specs.MarkedNodes.{marked}

abbrev pub marked_optional : Trees.OptionalExpr → ℕ
marked_optional Trees.absent = 0
marked_optional (Trees.present e) = marked (shown e)

abbrev pub marked_option : Option Trees.Expr → ℕ
marked_option None = 0
marked_option (Some e) = marked (shown e)

abbrev pub marked_optional_arg : Trees.OptionalArg → ℕ
marked_optional_arg Trees.absent_arg = 0
marked_optional_arg (Trees.present_arg a) = marked (shown_arg a)

abbrev pub marked_optional_pattern : Trees.OptionalPattern → ℕ
marked_optional_pattern Trees.absent_pattern = 0
marked_optional_pattern (Trees.present_pattern p) = marked (shown_pattern p)
