-- The height of a form of a logical line: that of its highest expression or pattern, or 0 where it has none.
use Rattle.std.specs.Prelude.{ℕ, max, Some, None}
use Rattle.pytree_node.specs.Trees.{stmts}
use Rattle.pytree_height.specs.Heights.{height, pattern_height, option_height, list_height, item_heights, keyword_heights, arguments_height}
use Rattle.pytree_height.specs.Heights.{type_param_heights, highest_in_all}
use Rattle.pygrammar.specs.Lines.{Form, simple_form, decorator_form, header_form, Header, if_header, elif_header, else_header, loop_header}
use Rattle.pygrammar.specs.Lines.{with_header, try_header, except_header, finally_header, def_header, match_header, case_header, while_head}
use Rattle.pygrammar.specs.Lines.{for_head, function_head, class_head}

abbrev pub header_height : Header → ℕ
header_height (if_header test) = height test
header_height (elif_header test) = height test
header_height else_header = 0
header_height (loop_header (while_head test)) = height test
header_height (loop_header (for_head is_async target iter)) = max (height target) (height iter)
header_height (with_header is_async items) = item_heights items
header_height try_header = 0
header_height (except_header star matched name) = option_height matched
header_height finally_header = 0
header_height (def_header (function_head is_async name parameters args returns)) =
    max (type_param_heights parameters) (max (arguments_height args) (option_height returns))
header_height (def_header (class_head name parameters bases keywords)) =
    max (type_param_heights parameters) (max (list_height bases) (keyword_heights keywords))
header_height (match_header subject) = height subject
header_height (case_header pattern guard) = max (pattern_height pattern) (option_height guard)

abbrev pub form_height : Form → ℕ
form_height (simple_form ss) = highest_in_all (stmts ss)
form_height (decorator_form e) = height e
form_height (header_form h None) = header_height h
form_height (header_form h (Some suite)) = max (header_height h) (highest_in_all (stmts suite))
