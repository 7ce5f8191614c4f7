-- The value of a tree of the program, with no addresses. A layer is one node whose children are values already: each value is made
-- of its node's by a step.
use Rattle.std.specs.Prelude.{map, false, true, Option, Some, None}
use Rattle.std.specs.declared.alloc.Global.{Global}
use Rattle.std.specs.declared.boxed.Box.{Box}
use Rattle.pytree_node.specs.declared.constants.Constant as given_constant
use Rattle.pytree_node.specs.declared.constants.Constant.TheVariants as constant
use Rattle.pytree_node.specs.declared.expressions.Expr as given
use Rattle.pytree_node.specs.declared.expressions.Expr.TheOpen as layer
use Rattle.pytree_node.specs.declared.expressions.Keyword as given_keyword
use Rattle.pytree_node.specs.declared.expressions.Comprehension as given_comprehension
use Rattle.pytree_node.specs.declared.expressions.Arg as given_arg
use Rattle.pytree_node.specs.declared.expressions.Arguments as given_arguments
use Rattle.pytree_node.specs.declared.expressions.Call as given_call
use Rattle.pytree_node.specs.declared.expressions.Compare as given_compare
use Rattle.pytree_node.specs.declared.expressions.Dict as given_dict
use Rattle.pytree_node.specs.declared.expressions.DictComp as given_dict_comp
use Rattle.pytree_node.specs.declared.expressions.Slice as given_slice
use Rattle.pytree_node.specs.declared.patterns.Pattern as given_pattern
use Rattle.pytree_node.specs.declared.patterns.Pattern.TheOpen as pattern_layer
use Rattle.pytree_node.specs.declared.statements.Alias as given_alias
use Rattle.pytree_node.specs.declared.statements.Item as given_item
use Rattle.pytree_node.specs.declared.statements.Stmt as given_stmt
use Rattle.pytree_node.specs.declared.statements.Stmt.TheOpen as stmt_layer
use Rattle.pytree_node.specs.declared.statements.Case as given_case
use Rattle.pytree_node.specs.declared.statements.Handler as given_handler
use Rattle.pytree_node.specs.declared.statements.FunctionDef as given_function_def
use Rattle.pytree_node.specs.declared.statements.ClassDef as given_class_def
use Rattle.pytree_node.specs.declared.statements.Try as given_try
use Rattle.pytree_node.specs.declared.statements.TypeParam as given_type_param
use Rattle.pytree_node.specs.declared.statements.TypeParam.TheVariants as type_param
use Rattle.pytree_node.specs.declared.modules.Module as given_module
use Rattle.pytree_node.specs.Trees as plain
use Rattle.pytree_node.specs.Values as value
use Rattle.pytree_node.specs.Values.{Value}
use Rattle.pytree_node.specs.Trees.{exprs, optional, optionals, comprehensions, keywords, args, optional_arg, patterns, optional_pattern}
use Rattle.pytree_node.specs.Trees.{stmts, cases, handlers}

-- the value of a constant
abbrev pub constant_of : given_constant.Constant → Value
constant_of constant.None = value.None
constant_of constant.Ellipsis = value.Ellipsis
constant_of (constant.Bool b) = value.Bool b
constant_of (constant.Int n) = value.Int n
constant_of (constant.Float x) = value.Float x
constant_of (constant.Imaginary x) = value.Imaginary x
constant_of (constant.Str points) = value.Str points false
constant_of (constant.UnicodeStr points) = value.Str points true
constant_of (constant.Bytes bytes) = value.Bytes bytes.items

-- what is in the box, if there is one
abbrev pub boxed : {A : Type 0} → Option (Box A Global) → Option A
boxed None = None
boxed (Some b) = Some b.value

-- the value of a node whose children are values
abbrev pub expr_step : layer.Expr-F plain.Expr plain.Arg plain.Arguments plain.Expr plain.Expr plain.Comprehension plain.Expr plain.Expr
    plain.Keyword plain.Expr → plain.Expr
expr_step (layer.BoolOp op values) = plain.BoolOp op (exprs values.items)
expr_step (layer.NamedExpr target value) = plain.NamedExpr target.value value.value
expr_step (layer.BinOp left op right) = plain.BinOp left.value op right.value
expr_step (layer.UnaryOp op operand) = plain.UnaryOp op operand.value
expr_step (layer.Lambda args body) = plain.Lambda args.value body.value
expr_step (layer.IfExp test body orelse) = plain.IfExp test.value body.value orelse.value
expr_step (layer.Dict dict) = dict.value
expr_step (layer.Set elts) = plain.Set (exprs elts.items)
expr_step (layer.ListComp elt generators) = plain.ListComp elt.value (comprehensions generators.items)
expr_step (layer.SetComp elt generators) = plain.SetComp elt.value (comprehensions generators.items)
expr_step (layer.DictComp comp) = comp.value
expr_step (layer.GeneratorExp elt generators) = plain.GeneratorExp elt.value (comprehensions generators.items)
expr_step (layer.Await value) = plain.Await value.value
expr_step (layer.Yield value) = plain.Yield (optional (boxed value))
expr_step (layer.YieldFrom value) = plain.YieldFrom value.value
expr_step (layer.Compare compare) = compare.value
expr_step (layer.Call call) = call.value
expr_step (layer.FormattedValue value conversion spec) = plain.FormattedValue value.value conversion (optional (boxed spec))
expr_step (layer.JoinedStr values) = plain.JoinedStr (exprs values.items)
expr_step (layer.Constant value) = plain.Constant (constant_of value)
expr_step (layer.Attribute value attr ctx) = plain.Attribute value.value attr ctx
expr_step (layer.Subscript value slice ctx) = plain.Subscript value.value slice.value ctx
expr_step (layer.Starred value ctx) = plain.Starred value.value ctx
expr_step (layer.Name id ctx) = plain.Name id ctx
expr_step (layer.List elts ctx) = plain.ListOf (exprs elts.items) ctx
expr_step (layer.Tuple elts ctx) = plain.Tuple (exprs elts.items) ctx
expr_step (layer.Slice slice) = slice.value

-- the value of the fields of a class in a box: that of the expression
abbrev pub dict_step : layer.Dict-F plain.Expr plain.Arg plain.Arguments plain.Expr plain.Expr plain.Comprehension plain.Expr plain.Expr
    plain.Keyword plain.Expr → plain.Expr
dict_step d = plain.Dict (optionals d.keys.items) (exprs d.values.items)

abbrev pub dict_comp_step : layer.DictComp-F plain.Expr plain.Arg plain.Arguments plain.Expr plain.Expr plain.Comprehension plain.Expr
    plain.Expr plain.Keyword plain.Expr → plain.Expr
dict_comp_step d = plain.DictComp d.key d.value (comprehensions d.generators.items)

abbrev pub compare_step : layer.Compare-F plain.Expr plain.Arg plain.Arguments plain.Expr plain.Expr plain.Comprehension plain.Expr
    plain.Expr plain.Keyword plain.Expr → plain.Expr
compare_step c = plain.Compare c.left c.ops.items (exprs c.comparators.items)

abbrev pub call_step : layer.Call-F plain.Expr plain.Arg plain.Arguments plain.Expr plain.Expr plain.Comprehension plain.Expr plain.Expr
    plain.Keyword plain.Expr → plain.Expr
call_step c = plain.Call c.func (exprs c.args.items) (keywords c.keywords.items)

abbrev pub slice_step : layer.Slice-F plain.Expr plain.Arg plain.Arguments plain.Expr plain.Expr plain.Comprehension plain.Expr plain.Expr
    plain.Keyword plain.Expr → plain.Expr
slice_step s = plain.Slice (optional (boxed s.lower)) (optional (boxed s.upper)) (optional (boxed s.step))

abbrev pub arg_step : layer.Arg-F plain.Expr plain.Arg plain.Arguments plain.Expr plain.Expr plain.Comprehension plain.Expr plain.Expr
    plain.Keyword plain.Expr → plain.Arg
arg_step a = plain.arg a.arg (optional (boxed a.annotation))

abbrev pub arguments_step : layer.Arguments-F plain.Expr plain.Arg plain.Arguments plain.Expr plain.Expr plain.Comprehension plain.Expr
    plain.Expr plain.Keyword plain.Expr → plain.Arguments
arguments_step a = plain.arguments (args a.posonlyargs.items) (args a.args.items) (optional_arg a.vararg)
    (args a.kwonlyargs.items) (optionals a.kw_defaults.items) (optional_arg a.kwarg) (exprs a.defaults.items)

abbrev pub comprehension_step : layer.Comprehension-F plain.Expr plain.Arg plain.Arguments plain.Expr plain.Expr plain.Comprehension
    plain.Expr plain.Expr plain.Keyword plain.Expr → plain.Comprehension
comprehension_step c = record { target = c.target; iter = c.iter; ifs = c.ifs.items; is_async = c.is_async }

abbrev pub keyword_step : layer.Keyword-F plain.Expr plain.Arg plain.Arguments plain.Expr plain.Expr plain.Comprehension plain.Expr
    plain.Expr plain.Keyword plain.Expr → plain.Keyword
keyword_step k = record { arg = k.arg; value = k.value }

-- the value of an expression, and of the parts that hold expressions
unfoldable pub tree_of : given.Expr → plain.Expr
tree_of = given.fold-Expr plain.Expr plain.Arg plain.Arguments plain.Expr plain.Expr plain.Comprehension plain.Expr plain.Expr
    plain.Keyword plain.Expr
    expr_step arg_step arguments_step call_step compare_step comprehension_step dict_step dict_comp_step keyword_step slice_step

unfoldable pub keyword_of : given_keyword.Keyword → plain.Keyword
keyword_of = given_keyword.fold-Keyword plain.Expr plain.Arg plain.Arguments plain.Expr plain.Expr plain.Comprehension plain.Expr plain.Expr
    plain.Keyword plain.Expr
    expr_step arg_step arguments_step call_step compare_step comprehension_step dict_step dict_comp_step keyword_step slice_step

unfoldable pub comprehension_of : given_comprehension.Comprehension → plain.Comprehension
comprehension_of = given_comprehension.fold-Comprehension plain.Expr plain.Arg plain.Arguments plain.Expr plain.Expr plain.Comprehension
    plain.Expr plain.Expr plain.Keyword plain.Expr
    expr_step arg_step arguments_step call_step compare_step comprehension_step dict_step dict_comp_step keyword_step slice_step

unfoldable pub arg_of : given_arg.Arg → plain.Arg
arg_of = given_arg.fold-Arg plain.Expr plain.Arg plain.Arguments plain.Expr plain.Expr plain.Comprehension plain.Expr plain.Expr
    plain.Keyword plain.Expr
    expr_step arg_step arguments_step call_step compare_step comprehension_step dict_step dict_comp_step keyword_step slice_step

unfoldable pub arguments_of : given_arguments.Arguments → plain.Arguments
arguments_of = given_arguments.fold-Arguments plain.Expr plain.Arg plain.Arguments plain.Expr plain.Expr plain.Comprehension plain.Expr
    plain.Expr plain.Keyword plain.Expr
    expr_step arg_step arguments_step call_step compare_step comprehension_step dict_step dict_comp_step keyword_step slice_step

unfoldable pub call_of : given_call.Call → plain.Expr
call_of = given_call.fold-Call plain.Expr plain.Arg plain.Arguments plain.Expr plain.Expr plain.Comprehension plain.Expr plain.Expr
    plain.Keyword plain.Expr
    expr_step arg_step arguments_step call_step compare_step comprehension_step dict_step dict_comp_step keyword_step slice_step

unfoldable pub compare_of : given_compare.Compare → plain.Expr
compare_of = given_compare.fold-Compare plain.Expr plain.Arg plain.Arguments plain.Expr plain.Expr plain.Comprehension plain.Expr plain.Expr
    plain.Keyword plain.Expr
    expr_step arg_step arguments_step call_step compare_step comprehension_step dict_step dict_comp_step keyword_step slice_step

unfoldable pub dict_of : given_dict.Dict → plain.Expr
dict_of = given_dict.fold-Dict plain.Expr plain.Arg plain.Arguments plain.Expr plain.Expr plain.Comprehension plain.Expr plain.Expr
    plain.Keyword plain.Expr
    expr_step arg_step arguments_step call_step compare_step comprehension_step dict_step dict_comp_step keyword_step slice_step

unfoldable pub dict_comp_of : given_dict_comp.DictComp → plain.Expr
dict_comp_of = given_dict_comp.fold-DictComp plain.Expr plain.Arg plain.Arguments plain.Expr plain.Expr plain.Comprehension plain.Expr
    plain.Expr plain.Keyword plain.Expr
    expr_step arg_step arguments_step call_step compare_step comprehension_step dict_step dict_comp_step keyword_step slice_step

unfoldable pub slice_of : given_slice.Slice → plain.Expr
slice_of = given_slice.fold-Slice plain.Expr plain.Arg plain.Arguments plain.Expr plain.Expr plain.Comprehension plain.Expr plain.Expr
    plain.Keyword plain.Expr
    expr_step arg_step arguments_step call_step compare_step comprehension_step dict_step dict_comp_step keyword_step slice_step

-- the value of an expression that may be absent
abbrev pub option_of : Option given.Expr → Option plain.Expr
option_of None = None
option_of (Some e) = Some (tree_of e)

abbrev pub boxed_of : Option (Box given.Expr Global) → Option plain.Expr
boxed_of None = None
boxed_of (Some b) = Some (tree_of b.value)

abbrev pub arg_option_of : Option given_arg.Arg → Option plain.Arg
arg_option_of None = None
arg_option_of (Some a) = Some (arg_of a)

-- the value of one name of an import, and of one item of a `with`
abbrev pub alias_of : given_alias.Alias → plain.Alias
alias_of a = record { name = a.name; asname = a.asname }

abbrev pub item_of : given_item.Item → plain.Item
item_of i = record { context_expr = tree_of i.context_expr; optional_vars = option_of i.optional_vars }

-- the value of a parameter of a type
abbrev pub type_param_of : given_type_param.TypeParam → plain.TypeParam
type_param_of (type_param.TypeVar name bound) = plain.TypeVar name (option_of bound)
type_param_of (type_param.ParamSpec name) = plain.ParamSpec name
type_param_of (type_param.TypeVarTuple name) = plain.TypeVarTuple name

-- the value of a pattern whose inner patterns are values
abbrev pub pattern_step : pattern_layer.Pattern-F plain.Pattern → plain.Pattern
pattern_step (pattern_layer.MatchValue value) = plain.MatchValue (tree_of value)
pattern_step (pattern_layer.MatchSingleton value) = plain.MatchSingleton (constant_of value)
pattern_step (pattern_layer.MatchSequence inner) = plain.MatchSequence (patterns inner.items)
pattern_step (pattern_layer.MatchMapping keys inner rest) = plain.MatchMapping (map tree_of keys.items) (patterns inner.items) rest
pattern_step (pattern_layer.MatchClass cls inner names named) =
    plain.MatchClass (tree_of cls.value) (patterns inner.items) names.items (patterns named.items)
pattern_step (pattern_layer.MatchStar name) = plain.MatchStar name
pattern_step (pattern_layer.MatchAs inner name) = plain.MatchAs (optional_pattern (boxed inner)) name
pattern_step (pattern_layer.MatchOr inner) = plain.MatchOr (patterns inner.items)

-- the value of a pattern
unfoldable pub pattern_of : given_pattern.Pattern → plain.Pattern
pattern_of = given_pattern.fold-Pattern plain.Pattern pattern_step

-- the value of a pattern that may be absent
abbrev pub boxed_pattern_of : Option (Box given_pattern.Pattern Global) → Option plain.Pattern
boxed_pattern_of None = None
boxed_pattern_of (Some b) = Some (pattern_of b.value)

-- the value of a statement whose inner statements are values
abbrev pub stmt_step : stmt_layer.Stmt-F plain.Stmt plain.Case plain.Stmt plain.FunctionDefFields plain.Handler plain.TryFields → plain.Stmt
stmt_step (stmt_layer.FunctionDef def) = plain.function_def def.value
stmt_step (stmt_layer.AsyncFunctionDef def) = plain.async_function_def def.value
stmt_step (stmt_layer.ClassDef class) = class.value
stmt_step (stmt_layer.Return value) = plain.Return (option_of value)
stmt_step (stmt_layer.Delete targets) = plain.Delete (map tree_of targets.items)
stmt_step (stmt_layer.Assign targets value) = plain.Assign (map tree_of targets.items) (tree_of value)
stmt_step (stmt_layer.TypeAlias name parameters value) = plain.TypeAlias (tree_of name.value) (map type_param_of parameters.items)
    (tree_of value.value)
stmt_step (stmt_layer.AugAssign target op value) = plain.AugAssign (tree_of target.value) op (tree_of value)
stmt_step (stmt_layer.AnnAssign target annotation value simple) =
    plain.AnnAssign (tree_of target.value) (tree_of annotation.value) (boxed_of value) simple
stmt_step (stmt_layer.For target iter body orelse) = plain.For (tree_of target.value) (tree_of iter.value)
    (stmts body.items) (stmts orelse.items)
stmt_step (stmt_layer.AsyncFor target iter body orelse) = plain.AsyncFor (tree_of target.value) (tree_of iter.value)
    (stmts body.items) (stmts orelse.items)
stmt_step (stmt_layer.While test body orelse) = plain.While (tree_of test.value) (stmts body.items) (stmts orelse.items)
stmt_step (stmt_layer.If test body orelse) = plain.If (tree_of test.value) (stmts body.items) (stmts orelse.items)
stmt_step (stmt_layer.With items body) = plain.With (map item_of items.items) (stmts body.items)
stmt_step (stmt_layer.AsyncWith items body) = plain.AsyncWith (map item_of items.items) (stmts body.items)
stmt_step (stmt_layer.Match subject clauses) = plain.Match (tree_of subject) (cases clauses.items)
stmt_step (stmt_layer.Raise exc cause) = plain.Raise (boxed_of exc) (boxed_of cause)
stmt_step (stmt_layer.Try t) = plain.try_block t.value
stmt_step (stmt_layer.TryStar t) = plain.try_star_block t.value
stmt_step (stmt_layer.Assert test msg) = plain.Assert (tree_of test) (boxed_of msg)
stmt_step (stmt_layer.Import names) = plain.Import (map alias_of names.items)
stmt_step (stmt_layer.ImportFrom source names level) = plain.ImportFrom source (map alias_of names.items) level
stmt_step (stmt_layer.Global names) = plain.Global names.items
stmt_step (stmt_layer.Nonlocal names) = plain.Nonlocal names.items
stmt_step (stmt_layer.Expr value) = plain.ExprOf (tree_of value)
stmt_step stmt_layer.Pass = plain.Pass
stmt_step stmt_layer.Break = plain.Break
stmt_step stmt_layer.Continue = plain.Continue

abbrev pub case_step : stmt_layer.Case-F plain.Stmt plain.Case plain.Stmt plain.FunctionDefFields plain.Handler plain.TryFields → plain.Case
case_step c = record { pattern = pattern_of c.pattern; guard = option_of c.guard; body = c.body.items }

abbrev pub handler_step : stmt_layer.Handler-F plain.Stmt plain.Case plain.Stmt plain.FunctionDefFields plain.Handler
    plain.TryFields → plain.Handler
handler_step h = record { class = option_of h.class; name = h.name; body = h.body.items }

abbrev pub function_def_step : stmt_layer.FunctionDef-F plain.Stmt plain.Case plain.Stmt plain.FunctionDefFields plain.Handler
    plain.TryFields → plain.FunctionDefFields
function_def_step d = record {
  name = d.name;
  args = arguments_of d.args.value;
  body = d.body.items;
  decorator_list = map tree_of d.decorator_list.items;
  returns = boxed_of d.returns;
  type_params = map type_param_of d.type_params.items;
}

abbrev pub class_def_step : stmt_layer.ClassDef-F plain.Stmt plain.Case plain.Stmt plain.FunctionDefFields plain.Handler
    plain.TryFields → plain.Stmt
class_def_step c = plain.ClassDef c.name (map tree_of c.bases.items) (keywords (map keyword_of c.keywords.items)) (stmts c.body.items)
    (map tree_of c.decorator_list.items) (map type_param_of c.type_params.items)

abbrev pub try_step : stmt_layer.Try-F plain.Stmt plain.Case plain.Stmt plain.FunctionDefFields plain.Handler
    plain.TryFields → plain.TryFields
try_step t = record { body = t.body.items; handlers = t.handlers.items; orelse = t.orelse.items; finalbody = t.finalbody.items }

-- the value of a statement, of a case, of a handler, and of a module
unfoldable pub stmt_of : given_stmt.Stmt → plain.Stmt
stmt_of = given_stmt.fold-Stmt plain.Stmt plain.Case plain.Stmt plain.FunctionDefFields plain.Handler plain.TryFields stmt_step case_step
    class_def_step function_def_step handler_step try_step

unfoldable pub case_of : given_case.Case → plain.Case
case_of = given_case.fold-Case plain.Stmt plain.Case plain.Stmt plain.FunctionDefFields plain.Handler plain.TryFields stmt_step case_step
    class_def_step function_def_step handler_step try_step

unfoldable pub handler_of : given_handler.Handler → plain.Handler
handler_of = given_handler.fold-Handler plain.Stmt plain.Case plain.Stmt plain.FunctionDefFields plain.Handler plain.TryFields stmt_step
    case_step class_def_step function_def_step handler_step try_step

unfoldable pub function_def_of : given_function_def.FunctionDef → plain.FunctionDefFields
function_def_of = given_function_def.fold-FunctionDef plain.Stmt plain.Case plain.Stmt plain.FunctionDefFields plain.Handler plain.TryFields
    stmt_step case_step class_def_step function_def_step handler_step try_step

unfoldable pub class_def_of : given_class_def.ClassDef → plain.Stmt
class_def_of = given_class_def.fold-ClassDef plain.Stmt plain.Case plain.Stmt plain.FunctionDefFields plain.Handler plain.TryFields
    stmt_step case_step class_def_step function_def_step handler_step try_step

unfoldable pub try_of : given_try.Try → plain.TryFields
try_of = given_try.fold-Try plain.Stmt plain.Case plain.Stmt plain.FunctionDefFields plain.Handler plain.TryFields stmt_step case_step
    class_def_step function_def_step handler_step try_step

abbrev pub module_of : given_module.Module → plain.Module
module_of m = record { body = map stmt_of m.body.items }
