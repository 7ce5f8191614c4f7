-- Heights. An expression with no expression directly below it has height 1, any other 1 more than the highest of these; those of its
-- comprehensions, keywords, parameters and their annotations stand directly below it. A pattern counts as an expression: the patterns and
-- expressions in its fields stand directly below it. A statement with no statement inside has height 1, any other 1 more than the highest
-- inside; a handler's body is inside its `try`, a case's inside its `match`.
use Rattle.std.specs.Prelude.{ℕ, ◌+◌, ◌-◌, ◌^◌, max, min, List, [], ◌∷◌, Option}
use Rattle.pytree_node.specs.Trees
use Rattle.pytree_node.specs.Trees.{exprs, optional, stmts}

-- a height, or the largest number of 64 bits where it is higher
unfoldable pub capped : ℕ → ℕ
capped n = min n (2 ^ 64 - 1)

-- the height of an expression
abbrev mutual
  pub height : Trees.Expr → ℕ
  height (Trees.BoolOp op values) = heights values + 1
  height (Trees.NamedExpr target value) = max (height target) (height value) + 1
  height (Trees.BinOp left op right) = max (height left) (height right) + 1
  height (Trees.UnaryOp op operand) = height operand + 1
  height (Trees.Lambda args body) = max (arguments_height args) (height body) + 1
  height (Trees.IfExp test body orelse) = max (height test) (max (height body) (height orelse)) + 1
  height (Trees.Dict keys values) = max (optional_heights keys) (heights values) + 1
  height (Trees.Set elts) = heights elts + 1
  height (Trees.ListComp elt generators) = max (height elt) (comprehension_heights generators) + 1
  height (Trees.SetComp elt generators) = max (height elt) (comprehension_heights generators) + 1
  height (Trees.DictComp key value generators) = max (height key) (max (height value) (comprehension_heights generators)) + 1
  height (Trees.GeneratorExp elt generators) = max (height elt) (comprehension_heights generators) + 1
  height (Trees.Await value) = height value + 1
  height (Trees.Yield value) = optional_height value + 1
  height (Trees.YieldFrom value) = height value + 1
  height (Trees.Compare left ops comparators) = max (height left) (heights comparators) + 1
  height (Trees.Call func args keywords) = max (height func) (max (heights args) (keyword_heights keywords)) + 1
  height (Trees.FormattedValue value conversion spec) = max (height value) (optional_height spec) + 1
  height (Trees.JoinedStr values) = heights values + 1
  height (Trees.Constant value) = 1
  height (Trees.Attribute value attr ctx) = height value + 1
  height (Trees.Subscript value slice ctx) = max (height value) (height slice) + 1
  height (Trees.Starred value ctx) = height value + 1
  height (Trees.Name id ctx) = 1
  height (Trees.ListOf elts ctx) = heights elts + 1
  height (Trees.Tuple elts ctx) = heights elts + 1
  height (Trees.Slice lower upper step) = max (optional_height lower) (max (optional_height upper) (optional_height step)) + 1

  pub heights : Trees.Exprs → ℕ
  heights Trees.no_exprs = 0
  heights (Trees.an_expr e es) = max (height e) (heights es)

  pub optional_height : Trees.OptionalExpr → ℕ
  optional_height Trees.absent = 0
  optional_height (Trees.present e) = height e

  pub optional_heights : Trees.OptionalExprs → ℕ
  optional_heights Trees.no_optional = 0
  optional_heights (Trees.an_optional e es) = max (optional_height e) (optional_heights es)

  pub comprehension_heights : Trees.Comprehensions → ℕ
  comprehension_heights Trees.no_comprehension = 0
  comprehension_heights (Trees.a_comprehension target iter ifs is_async cs) =
      max (max (height target) (max (height iter) (heights ifs))) (comprehension_heights cs)

  pub keyword_heights : Trees.Keywords → ℕ
  keyword_heights Trees.no_keyword = 0
  keyword_heights (Trees.a_keyword arg value ks) = max (height value) (keyword_heights ks)

  pub arg_height : Trees.Arg → ℕ
  arg_height (Trees.arg name annotation) = optional_height annotation

  pub arg_heights : Trees.Args → ℕ
  arg_heights Trees.no_arg = 0
  arg_heights (Trees.an_arg a rest) = max (arg_height a) (arg_heights rest)

  pub optional_arg_height : Trees.OptionalArg → ℕ
  optional_arg_height Trees.absent_arg = 0
  optional_arg_height (Trees.present_arg a) = arg_height a

  pub arguments_height : Trees.Arguments → ℕ
  arguments_height (Trees.arguments posonlyargs args vararg kwonlyargs kw_defaults kwarg defaults) =
      max (arg_heights posonlyargs) (max (arg_heights args) (max (optional_arg_height vararg)
      (max (arg_heights kwonlyargs) (max (optional_heights kw_defaults) (max (optional_arg_height kwarg) (heights defaults))))))

-- of an expression that may be absent, and of the highest of some
abbrev pub option_height : Option Trees.Expr → ℕ
option_height e = optional_height (optional e)

abbrev pub list_height : List Trees.Expr → ℕ
list_height es = heights (exprs es)

abbrev pub item_heights : List Trees.Item → ℕ
item_heights [] = 0
item_heights (i ∷ rest) = max (max (height i.context_expr) (option_height i.optional_vars)) (item_heights rest)

-- of the bound of a parameter of a type, and of the highest of some
abbrev pub type_param_height : Trees.TypeParam → ℕ
type_param_height (Trees.TypeVar name bound) = option_height bound
type_param_height (Trees.ParamSpec name) = 0
type_param_height (Trees.TypeVarTuple name) = 0

abbrev pub type_param_heights : List Trees.TypeParam → ℕ
type_param_heights [] = 0
type_param_heights (p ∷ rest) = max (type_param_height p) (type_param_heights rest)

-- the height of a pattern
abbrev mutual
  pub pattern_height : Trees.Pattern → ℕ
  pattern_height (Trees.MatchValue value) = height value + 1
  pattern_height (Trees.MatchSingleton value) = 1
  pattern_height (Trees.MatchSequence inner) = pattern_heights inner + 1
  pattern_height (Trees.MatchMapping keys inner rest) = max (list_height keys) (pattern_heights inner) + 1
  pattern_height (Trees.MatchClass cls inner names named) = max (height cls) (max (pattern_heights inner) (pattern_heights named)) + 1
  pattern_height (Trees.MatchStar name) = 1
  pattern_height (Trees.MatchAs inner name) = optional_pattern_height inner + 1
  pattern_height (Trees.MatchOr inner) = pattern_heights inner + 1

  pub pattern_heights : Trees.Patterns → ℕ
  pattern_heights Trees.no_pattern = 0
  pattern_heights (Trees.a_pattern p ps) = max (pattern_height p) (pattern_heights ps)

  pub optional_pattern_height : Trees.OptionalPattern → ℕ
  optional_pattern_height Trees.absent_pattern = 0
  optional_pattern_height (Trees.present_pattern p) = pattern_height p

-- the height of a statement
abbrev mutual
  pub stmt_height : Trees.Stmt → ℕ
  stmt_height (Trees.FunctionDef name args body decorators returns parameters) = stmt_heights body + 1
  stmt_height (Trees.AsyncFunctionDef name args body decorators returns parameters) = stmt_heights body + 1
  stmt_height (Trees.ClassDef name bases keywords body decorators parameters) = stmt_heights body + 1
  stmt_height (Trees.For target iter body orelse) = max (stmt_heights body) (stmt_heights orelse) + 1
  stmt_height (Trees.AsyncFor target iter body orelse) = max (stmt_heights body) (stmt_heights orelse) + 1
  stmt_height (Trees.While test body orelse) = max (stmt_heights body) (stmt_heights orelse) + 1
  stmt_height (Trees.If test body orelse) = max (stmt_heights body) (stmt_heights orelse) + 1
  stmt_height (Trees.With items body) = stmt_heights body + 1
  stmt_height (Trees.AsyncWith items body) = stmt_heights body + 1
  stmt_height (Trees.Match subject cases) = case_heights cases + 1
  stmt_height (Trees.Try body handlers orelse finalbody) =
      max (stmt_heights body) (max (handler_heights handlers) (max (stmt_heights orelse) (stmt_heights finalbody))) + 1
  stmt_height (Trees.TryStar body handlers orelse finalbody) =
      max (stmt_heights body) (max (handler_heights handlers) (max (stmt_heights orelse) (stmt_heights finalbody))) + 1
  stmt_height _ = 1

  pub stmt_heights : Trees.Stmts → ℕ
  stmt_heights Trees.no_stmt = 0
  stmt_heights (Trees.a_stmt s ss) = max (stmt_height s) (stmt_heights ss)

  pub case_heights : Trees.Cases → ℕ
  case_heights Trees.no_case = 0
  case_heights (Trees.a_case pattern guard body cs) = max (stmt_heights body) (case_heights cs)

  pub handler_heights : Trees.Handlers → ℕ
  handler_heights Trees.no_handler = 0
  handler_heights (Trees.a_handler class name body hs) = max (stmt_heights body) (handler_heights hs)

-- the height of the highest expression or pattern in a statement, or 0
abbrev mutual
  pub highest_in : Trees.Stmt → ℕ
  highest_in (Trees.FunctionDef name args body decorators returns parameters) =
      max (arguments_height args)
      (max (highest_in_all body) (max (list_height decorators) (max (option_height returns) (type_param_heights parameters))))
  highest_in (Trees.AsyncFunctionDef name args body decorators returns parameters) =
      max (arguments_height args)
      (max (highest_in_all body) (max (list_height decorators) (max (option_height returns) (type_param_heights parameters))))
  highest_in (Trees.ClassDef name bases keywords body decorators parameters) =
      max (list_height bases)
      (max (keyword_heights keywords) (max (highest_in_all body) (max (list_height decorators) (type_param_heights parameters))))
  highest_in (Trees.Return value) = option_height value
  highest_in (Trees.Delete targets) = list_height targets
  highest_in (Trees.Assign targets value) = max (list_height targets) (height value)
  highest_in (Trees.TypeAlias name parameters value) = max (height name) (max (type_param_heights parameters) (height value))
  highest_in (Trees.AugAssign target op value) = max (height target) (height value)
  highest_in (Trees.AnnAssign target annotation value simple) = max (height target) (max (height annotation) (option_height value))
  highest_in (Trees.For target iter body orelse) =
      max (height target) (max (height iter) (max (highest_in_all body) (highest_in_all orelse)))
  highest_in (Trees.AsyncFor target iter body orelse) =
      max (height target) (max (height iter) (max (highest_in_all body) (highest_in_all orelse)))
  highest_in (Trees.While test body orelse) = max (height test) (max (highest_in_all body) (highest_in_all orelse))
  highest_in (Trees.If test body orelse) = max (height test) (max (highest_in_all body) (highest_in_all orelse))
  highest_in (Trees.With items body) = max (item_heights items) (highest_in_all body)
  highest_in (Trees.AsyncWith items body) = max (item_heights items) (highest_in_all body)
  highest_in (Trees.Match subject cases) = max (height subject) (highest_in_cases cases)
  highest_in (Trees.Raise exc cause) = max (option_height exc) (option_height cause)
  highest_in (Trees.Assert test msg) = max (height test) (option_height msg)
  highest_in (Trees.Try body handlers orelse finalbody) =
      max (highest_in_all body) (max (highest_in_handlers handlers) (max (highest_in_all orelse) (highest_in_all finalbody)))
  highest_in (Trees.TryStar body handlers orelse finalbody) =
      max (highest_in_all body) (max (highest_in_handlers handlers) (max (highest_in_all orelse) (highest_in_all finalbody)))
  highest_in (Trees.ExprOf value) = height value
  highest_in _ = 0

  pub highest_in_all : Trees.Stmts → ℕ
  highest_in_all Trees.no_stmt = 0
  highest_in_all (Trees.a_stmt s ss) = max (highest_in s) (highest_in_all ss)

  pub highest_in_cases : Trees.Cases → ℕ
  highest_in_cases Trees.no_case = 0
  highest_in_cases (Trees.a_case pattern guard body cs) =
      max (max (pattern_height pattern) (max (option_height guard) (highest_in_all body))) (highest_in_cases cs)

  pub highest_in_handlers : Trees.Handlers → ℕ
  highest_in_handlers Trees.no_handler = 0
  highest_in_handlers (Trees.a_handler class name body hs) = max (max (option_height class) (highest_in_all body)) (highest_in_handlers hs)

-- the heights of a module: of its highest expression or pattern and of its highest statement, 0 where it has none
abbrev pub expression_height : Trees.Module → ℕ
expression_height m = highest_in_all (stmts m.body)

abbrev pub statement_height : Trees.Module → ℕ
statement_height m = stmt_heights (stmts m.body)
