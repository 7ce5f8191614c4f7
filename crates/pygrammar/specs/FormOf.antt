-- The value of a line's form in the program, with no addresses.
use Rattle.std.specs.Prelude.{List, map, Option, Some, None}
use Rattle.std.specs.declared.alloc.Global.{Global}
use Rattle.std.specs.declared.vec.Vec.{Vec}
use Rattle.pytree_node.specs.Trees as plain
use Rattle.pytree_node.specs.declared.statements.Stmt.{Stmt}
use Rattle.pytree_node.specs.TreeOf.{tree_of, boxed_of, arguments_of, keyword_of, item_of, type_param_of, pattern_of, stmt_of}
use Rattle.pygrammar.specs.Lines.{LoopHead, while_head, for_head, DefHead, function_head, class_head, Header, if_header, elif_header}
use Rattle.pygrammar.specs.Lines.{else_header, loop_header, with_header, try_header, except_header, finally_header, def_header}
use Rattle.pygrammar.specs.Lines.{match_header, case_header, Form, simple_form, decorator_form, header_form}
use Rattle.pygrammar.specs.declared.headers.LoopHead as given_loop
use Rattle.pygrammar.specs.declared.headers.LoopHead.TheVariants as loop_variant
use Rattle.pygrammar.specs.declared.headers.DefHead as given_def
use Rattle.pygrammar.specs.declared.headers.DefHead.TheVariants as def_variant
use Rattle.pygrammar.specs.declared.headers.Header as given_header
use Rattle.pygrammar.specs.declared.headers.Header.TheVariants as header_variant
use Rattle.pygrammar.specs.declared.forms.Form as given_form
use Rattle.pygrammar.specs.declared.forms.Form.TheVariants as form_variant

-- the value of the head of a loop
abbrev pub loop_head_of : given_loop.LoopHead → LoopHead
loop_head_of (loop_variant.While test) = while_head (tree_of test.value)
loop_head_of (loop_variant.For is_async target iter) = for_head is_async (tree_of target.value) (tree_of iter.value)

-- the value of the head of a definition
abbrev pub def_head_of : given_def.DefHead → DefHead
def_head_of (def_variant.Function is_async name parameters args returns) =
    function_head is_async name (map type_param_of parameters.items) (arguments_of args.value) (boxed_of returns)
def_head_of (def_variant.Class name parameters bases words) =
    class_head name (map type_param_of parameters.items) (map tree_of bases.items) (plain.keywords (map keyword_of words.items))

-- the value of a header
abbrev pub header_of : given_header.Header → Header
header_of (header_variant.If test) = if_header (tree_of test.value)
header_of (header_variant.Elif test) = elif_header (tree_of test.value)
header_of header_variant.Else = else_header
header_of (header_variant.Loop head) = loop_header (loop_head_of head)
header_of (header_variant.With is_async items) = with_header is_async (map item_of items.items)
header_of header_variant.Try = try_header
header_of (header_variant.Except star class name) = except_header star (boxed_of class) name
header_of header_variant.Finally = finally_header
header_of (header_variant.Def head) = def_header (def_head_of head)
header_of (header_variant.Match subject) = match_header (tree_of subject.value)
header_of (header_variant.Case pattern guard) = case_header (pattern_of pattern.value) (boxed_of guard)

-- the value of the statements after a colon, if there are any
abbrev pub suite_of : Option (Vec Stmt Global) → Option (List plain.Stmt)
suite_of None = None
suite_of (Some statements) = Some (map stmt_of statements.items)

-- the value of the form of a line
abbrev pub form_of : given_form.Form → Form
form_of (form_variant.Simple statements) = simple_form (map stmt_of statements.items)
form_of (form_variant.Decorator value) = decorator_form (tree_of value.value)
form_of (form_variant.Headed header suite) = header_form (header_of header) (suite_of suite)
