-- Which modules have nothing of the whole language alone: no float, no imaginary number, no whole number of 2 to the 128 or more, no
-- f-string, and no `match`.
use Rattle.std.specs.Prelude.{◌^◌, Bool, true, false, ◌&&◌, nat_lt, List, Option}
use Rattle.std.specs.List.{list_all}
use Rattle.pytree_node.specs.Values as values
use Rattle.pytree_node.specs.Values.{Value}
use Rattle.pytree_node.specs.Trees
use Rattle.pytree_node.specs.Trees.{Expr, Exprs, exprs, optional, stmts}

abbrev pub is_plain_value : Value → Bool
is_plain_value (values.Int n) = nat_lt n (2 ^ 128)
is_plain_value (values.Float x) = false
is_plain_value (values.Imaginary x) = false
is_plain_value _ = true

abbrev mutual
  pub is_plain : Expr → Bool
  is_plain (Trees.BoolOp op values) = are_plain values
  is_plain (Trees.NamedExpr target value) = is_plain target && is_plain value
  is_plain (Trees.BinOp left op right) = is_plain left && is_plain right
  is_plain (Trees.UnaryOp op operand) = is_plain operand
  is_plain (Trees.Lambda args body) = are_arguments_plain args && is_plain body
  is_plain (Trees.IfExp test body orelse) = is_plain test && (is_plain body && is_plain orelse)
  is_plain (Trees.Dict keys values) = are_optionals_plain keys && are_plain values
  is_plain (Trees.Set elts) = are_plain elts
  is_plain (Trees.ListComp elt generators) = is_plain elt && are_comprehensions_plain generators
  is_plain (Trees.SetComp elt generators) = is_plain elt && are_comprehensions_plain generators
  is_plain (Trees.DictComp key value generators) = is_plain key && (is_plain value && are_comprehensions_plain generators)
  is_plain (Trees.GeneratorExp elt generators) = is_plain elt && are_comprehensions_plain generators
  is_plain (Trees.Await value) = is_plain value
  is_plain (Trees.Yield value) = is_optional_plain value
  is_plain (Trees.YieldFrom value) = is_plain value
  is_plain (Trees.Compare left ops comparators) = is_plain left && are_plain comparators
  is_plain (Trees.Call func args keywords) = is_plain func && (are_plain args && are_keywords_plain keywords)
  is_plain (Trees.FormattedValue value conversion spec) = false
  is_plain (Trees.JoinedStr values) = false
  is_plain (Trees.Constant value) = is_plain_value value
  is_plain (Trees.Attribute value attr ctx) = is_plain value
  is_plain (Trees.Subscript value slice ctx) = is_plain value && is_plain slice
  is_plain (Trees.Starred value ctx) = is_plain value
  is_plain (Trees.Name id ctx) = true
  is_plain (Trees.ListOf elts ctx) = are_plain elts
  is_plain (Trees.Tuple elts ctx) = are_plain elts
  is_plain (Trees.Slice lower upper step) = is_optional_plain lower && (is_optional_plain upper && is_optional_plain step)

  pub are_plain : Exprs → Bool
  are_plain Trees.no_exprs = true
  are_plain (Trees.an_expr e es) = is_plain e && are_plain es

  pub is_optional_plain : Trees.OptionalExpr → Bool
  is_optional_plain Trees.absent = true
  is_optional_plain (Trees.present e) = is_plain e

  pub are_optionals_plain : Trees.OptionalExprs → Bool
  are_optionals_plain Trees.no_optional = true
  are_optionals_plain (Trees.an_optional e es) = is_optional_plain e && are_optionals_plain es

  pub are_comprehensions_plain : Trees.Comprehensions → Bool
  are_comprehensions_plain Trees.no_comprehension = true
  are_comprehensions_plain (Trees.a_comprehension target iter ifs is_async cs) =
      is_plain target && (is_plain iter && (are_plain ifs && are_comprehensions_plain cs))

  pub are_keywords_plain : Trees.Keywords → Bool
  are_keywords_plain Trees.no_keyword = true
  are_keywords_plain (Trees.a_keyword arg value ks) = is_plain value && are_keywords_plain ks

  pub is_arg_plain : Trees.Arg → Bool
  is_arg_plain (Trees.arg name annotation) = is_optional_plain annotation

  pub are_args_plain : Trees.Args → Bool
  are_args_plain Trees.no_arg = true
  are_args_plain (Trees.an_arg a rest) = is_arg_plain a && are_args_plain rest

  pub is_optional_arg_plain : Trees.OptionalArg → Bool
  is_optional_arg_plain Trees.absent_arg = true
  is_optional_arg_plain (Trees.present_arg a) = is_arg_plain a

  pub are_arguments_plain : Trees.Arguments → Bool
  are_arguments_plain (Trees.arguments posonlyargs args vararg kwonlyargs kw_defaults kwarg defaults) =
      are_args_plain posonlyargs && (are_args_plain args && (is_optional_arg_plain vararg && (are_args_plain kwonlyargs
      && (are_optionals_plain kw_defaults && (is_optional_arg_plain kwarg && are_plain defaults)))))

-- the parts of statements
abbrev pub all_plain : List Expr → Bool
all_plain es = are_plain (exprs es)

abbrev pub is_perhaps_plain : Option Expr → Bool
is_perhaps_plain e = is_optional_plain (optional e)

abbrev pub is_item_plain : Trees.Item → Bool
is_item_plain i = is_plain i.context_expr && is_perhaps_plain i.optional_vars

abbrev pub is_type_param_plain : Trees.TypeParam → Bool
is_type_param_plain (Trees.TypeVar name bound) = is_perhaps_plain bound
is_type_param_plain _ = true

abbrev mutual
  pub is_statement_plain : Trees.Stmt → Bool
  is_statement_plain (Trees.FunctionDef name args body decorators returns parameters) =
      are_arguments_plain args &&
      (are_statements_plain body && (all_plain decorators && (is_perhaps_plain returns && list_all is_type_param_plain parameters)))
  is_statement_plain (Trees.AsyncFunctionDef name args body decorators returns parameters) =
      are_arguments_plain args &&
      (are_statements_plain body && (all_plain decorators && (is_perhaps_plain returns && list_all is_type_param_plain parameters)))
  is_statement_plain (Trees.ClassDef name bases keywords body decorators parameters) =
      all_plain bases && (are_keywords_plain keywords &&
      (are_statements_plain body && (all_plain decorators && list_all is_type_param_plain parameters)))
  is_statement_plain (Trees.Return value) = is_perhaps_plain value
  is_statement_plain (Trees.Delete targets) = all_plain targets
  is_statement_plain (Trees.Assign targets value) = all_plain targets && is_plain value
  is_statement_plain (Trees.TypeAlias name parameters value) = is_plain name && (list_all is_type_param_plain parameters && is_plain value)
  is_statement_plain (Trees.AugAssign target op value) = is_plain target && is_plain value
  is_statement_plain (Trees.AnnAssign target annotation value simple) = is_plain target && (is_plain annotation && is_perhaps_plain value)
  is_statement_plain (Trees.For target iter body orelse) =
      is_plain target && (is_plain iter && (are_statements_plain body && are_statements_plain orelse))
  is_statement_plain (Trees.AsyncFor target iter body orelse) =
      is_plain target && (is_plain iter && (are_statements_plain body && are_statements_plain orelse))
  is_statement_plain (Trees.While test body orelse) = is_plain test && (are_statements_plain body && are_statements_plain orelse)
  is_statement_plain (Trees.If test body orelse) = is_plain test && (are_statements_plain body && are_statements_plain orelse)
  is_statement_plain (Trees.With items body) = list_all is_item_plain items && are_statements_plain body
  is_statement_plain (Trees.AsyncWith items body) = list_all is_item_plain items && are_statements_plain body
  is_statement_plain (Trees.Match subject cases) = false
  is_statement_plain (Trees.Raise exc cause) = is_perhaps_plain exc && is_perhaps_plain cause
  is_statement_plain (Trees.Try body handlers orelse finalbody) =
      are_statements_plain body && (are_handlers_plain handlers && (are_statements_plain orelse && are_statements_plain finalbody))
  is_statement_plain (Trees.TryStar body handlers orelse finalbody) =
      are_statements_plain body && (are_handlers_plain handlers && (are_statements_plain orelse && are_statements_plain finalbody))
  is_statement_plain (Trees.Assert test msg) = is_plain test && is_perhaps_plain msg
  is_statement_plain (Trees.ExprOf value) = is_plain value
  is_statement_plain _ = true

  pub are_statements_plain : Trees.Stmts → Bool
  are_statements_plain Trees.no_stmt = true
  are_statements_plain (Trees.a_stmt s ss) = is_statement_plain s && are_statements_plain ss

  pub are_handlers_plain : Trees.Handlers → Bool
  are_handlers_plain Trees.no_handler = true
  are_handlers_plain (Trees.a_handler class name body hs) = is_perhaps_plain class && (are_statements_plain body && are_handlers_plain hs)

abbrev pub is_module_plain : Trees.Module → Bool
is_module_plain m = are_statements_plain (stmts m.body)
