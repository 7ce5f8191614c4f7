-- What a tree holds, as things: a leaf, a list, or a node with its class and what its fields hold, in order. A field that is None is left
-- out; so are the fields `type_comment`, which are None in every tree.
use Rattle.std.specs.Prelude.{ℕ, zero, suc, ◌+◌, Bool, true, false, List, [], ◌∷◌, Option, Some, None, if◌then◌else◌}
use Rattle.pyfstring.specs.declared.parts.Conversion.{Conversion}
use Rattle.pytree_node.specs.declared.operators.Operator.{Operator}
use Rattle.pytree_node.specs.declared.operators.UnaryOperator.{UnaryOperator}
use Rattle.pytree_node.specs.declared.operators.BoolOperator.{BoolOperator}
use Rattle.pytree_node.specs.declared.operators.Comparison.{Comparison}
use Rattle.pytree_node.specs.declared.operators.Context.{Context}
use Rattle.pytree_node.specs.declared.profiles.Version.{Version}
use Rattle.pytree_node.specs.Profiles.{version_has_types}
use Rattle.pytree_node.specs.Trees
use Rattle.pytree_node.specs.Trees.{Identifier, exprs, stmts}
use Rattle.pytree_node.specs.Values as value
use Rattle.pytree_node.specs.Values.{Value}
use Rattle.pytree_fields.specs.declared.classes.Class.{Class}
use Rattle.pytree_fields.specs.declared.classes.Class.TheVariants as class
use Rattle.pytree_fields.specs.Leaves as leaf

mutual
  pub data Thing : Type 0 where
    Leaf : leaf.Leaf → Thing
    Row : Things → Thing
    Node : Class → Things → Thing

  -- the elements of a list, or what the fields of a node hold
  pub data Things : Type 0 where
    no_thing : Things
    a_thing : Thing → Things → Things
    left_out : Things → Things

-- what may be nothing, before others
abbrev pub with_option : Option Thing → Things → Things
with_option None rest = left_out rest
with_option (Some x) rest = a_thing x rest

-- the element at an index, or what a field holds, if that is something
abbrev pub thing_at : Things → ℕ → Option Thing
thing_at no_thing n = None
thing_at (a_thing x xs) zero = Some x
thing_at (a_thing x xs) (suc n) = thing_at xs n
thing_at (left_out xs) zero = None
thing_at (left_out xs) (suc n) = thing_at xs n

-- how many there are, those that are left out too
abbrev pub count : Things → ℕ
count no_thing = 0
count (a_thing x xs) = count xs + 1
count (left_out xs) = count xs + 1

abbrev pub NotRow : Option Thing → Type 0
NotRow None = Unit {0}
NotRow (Some (Leaf x)) = Unit {0}
NotRow (Some (Row xs)) = ⊥
NotRow (Some (Node c xs)) = Unit {0}

abbrev pub IsRowOrNothing : Option Thing → Type 0
IsRowOrNothing None = Unit {0}
IsRowOrNothing (Some (Leaf x)) = ⊥
IsRowOrNothing (Some (Row xs)) = Unit {0}
IsRowOrNothing (Some (Node c xs)) = ⊥

abbrev pub comparison_things : List Comparison → Things
comparison_things [] = no_thing
comparison_things (c ∷ cs) = a_thing (Leaf (leaf.Comparison c)) (comparison_things cs)

-- the value of a Constant, whose kind is a field of its own
abbrev pub without_kind : Value → Value
without_kind (value.Str points unicode) = value.Str points false
without_kind v = v

-- the field `kind` of a Constant
abbrev pub kind_field : Value → Things → Things
kind_field (value.Str points true) rest = a_thing (Leaf leaf.Kind) rest
kind_field _ rest = left_out rest

-- a name that may be absent
abbrev pub name_field : Option Identifier → Things → Things
name_field None rest = left_out rest
name_field (Some name) rest = a_thing (Leaf (leaf.Name name)) rest

abbrev mutual
  pub expr_thing : Trees.Expr → Thing
  expr_thing (Trees.BoolOp op values) =
      Node class.BoolOp (a_thing (Leaf (leaf.Bool op)) (a_thing (Row (expr_things values)) no_thing))
  expr_thing (Trees.NamedExpr target value) =
      Node class.NamedExpr (a_thing (expr_thing target) (a_thing (expr_thing value) no_thing))
  expr_thing (Trees.BinOp left op right) = Node class.BinOp
      (a_thing (expr_thing left)
      (a_thing (Leaf (leaf.Operator op)) (a_thing (expr_thing right) no_thing)))
  expr_thing (Trees.UnaryOp op operand) =
      Node class.UnaryOp (a_thing (Leaf (leaf.Unary op)) (a_thing (expr_thing operand) no_thing))
  expr_thing (Trees.Lambda args body) =
      Node class.Lambda (a_thing (arguments_thing args) (a_thing (expr_thing body) no_thing))
  expr_thing (Trees.IfExp test body orelse) = Node class.IfExp
      (a_thing (expr_thing test) (a_thing (expr_thing body) (a_thing (expr_thing orelse) no_thing)))
  expr_thing (Trees.Dict keys values) =
      Node class.Dict (a_thing (Row (optional_things keys))
      (a_thing (Row (expr_things values)) no_thing))
  expr_thing (Trees.Set elts) = Node class.Set (a_thing (Row (expr_things elts)) no_thing)
  expr_thing (Trees.ListComp elt generators) =
      Node class.ListComp
      (a_thing (expr_thing elt) (a_thing (Row (comprehension_things generators)) no_thing))
  expr_thing (Trees.SetComp elt generators) =
      Node class.SetComp
      (a_thing (expr_thing elt) (a_thing (Row (comprehension_things generators)) no_thing))
  expr_thing (Trees.DictComp key value generators) = Node class.DictComp
      (a_thing (expr_thing key)
      (a_thing (expr_thing value) (a_thing (Row (comprehension_things generators)) no_thing)))
  expr_thing (Trees.GeneratorExp elt generators) =
      Node class.GeneratorExp
      (a_thing (expr_thing elt) (a_thing (Row (comprehension_things generators)) no_thing))
  expr_thing (Trees.Await value) = Node class.Await (a_thing (expr_thing value) no_thing)
  expr_thing (Trees.Yield value) = Node class.Yield (optional_field value no_thing)
  expr_thing (Trees.YieldFrom value) = Node class.YieldFrom (a_thing (expr_thing value) no_thing)
  expr_thing (Trees.Compare left ops comparators) = Node class.Compare
      (a_thing (expr_thing left) (a_thing (Row (comparison_things ops))
      (a_thing (Row (expr_things comparators)) no_thing)))
  expr_thing (Trees.Call func args keywords) = Node class.Call
      (a_thing (expr_thing func)
      (a_thing (Row (expr_things args)) (a_thing (Row (keyword_things keywords)) no_thing)))
  expr_thing (Trees.FormattedValue value conversion spec) = Node class.FormattedValue
      (a_thing (expr_thing value) (a_thing (Leaf (leaf.Conversion conversion))
      (optional_field spec no_thing)))
  expr_thing (Trees.JoinedStr values) = Node class.JoinedStr (a_thing (Row (expr_things values)) no_thing)
  expr_thing (Trees.Constant value) = Node class.Constant (a_thing (Leaf (leaf.Value (without_kind value))) (kind_field value no_thing))
  expr_thing (Trees.Attribute value attr ctx) = Node class.Attribute
      (a_thing (expr_thing value)
      (a_thing (Leaf (leaf.Name attr)) (a_thing (Leaf (leaf.Context ctx)) no_thing)))
  expr_thing (Trees.Subscript value slice ctx) = Node class.Subscript
      (a_thing (expr_thing value)
      (a_thing (expr_thing slice) (a_thing (Leaf (leaf.Context ctx)) no_thing)))
  expr_thing (Trees.Starred value ctx) =
      Node class.Starred (a_thing (expr_thing value) (a_thing (Leaf (leaf.Context ctx)) no_thing))
  expr_thing (Trees.Name id ctx) =
      Node class.Name (a_thing (Leaf (leaf.Name id)) (a_thing (Leaf (leaf.Context ctx)) no_thing))
  expr_thing (Trees.ListOf elts ctx) =
      Node class.List (a_thing (Row (expr_things elts)) (a_thing (Leaf (leaf.Context ctx)) no_thing))
  expr_thing (Trees.Tuple elts ctx) =
      Node class.Tuple (a_thing (Row (expr_things elts)) (a_thing (Leaf (leaf.Context ctx)) no_thing))
  expr_thing (Trees.Slice lower upper step) = Node class.Slice
      (optional_field lower (optional_field upper (optional_field step no_thing)))

  pub expr_things : Trees.Exprs → Things
  expr_things Trees.no_exprs = no_thing
  expr_things (Trees.an_expr e es) = a_thing (expr_thing e) (expr_things es)

  pub optional_field : Trees.OptionalExpr → Things → Things
  optional_field Trees.absent rest = left_out rest
  optional_field (Trees.present e) rest = a_thing (expr_thing e) rest

  -- within a list, one that is absent is None
  pub optional_thing : Trees.OptionalExpr → Thing
  optional_thing Trees.absent = Leaf leaf.None
  optional_thing (Trees.present e) = expr_thing e

  pub optional_things : Trees.OptionalExprs → Things
  optional_things Trees.no_optional = no_thing
  optional_things (Trees.an_optional e es) = a_thing (optional_thing e) (optional_things es)

  pub comprehension_things : Trees.Comprehensions → Things
  comprehension_things Trees.no_comprehension = no_thing
  comprehension_things (Trees.a_comprehension target iter ifs is_async cs) = a_thing (Node class.Comprehension
      (a_thing (expr_thing target) (a_thing (expr_thing iter) (a_thing (Row (expr_things ifs))
      (a_thing (Leaf (leaf.Flag is_async)) no_thing))))) (comprehension_things cs)

  pub keyword_things : Trees.Keywords → Things
  keyword_things Trees.no_keyword = no_thing
  keyword_things (Trees.a_keyword arg value ks) =
      a_thing (Node class.Keyword (name_field arg (a_thing (expr_thing value) no_thing))) (keyword_things ks)

  -- a parameter has no type comment
  pub arg_thing : Trees.Arg → Thing
  arg_thing (Trees.arg name annotation) =
      Node class.Arg (a_thing (Leaf (leaf.Name name)) (optional_field annotation (left_out no_thing)))

  pub arg_things : Trees.Args → Things
  arg_things Trees.no_arg = no_thing
  arg_things (Trees.an_arg a rest) = a_thing (arg_thing a) (arg_things rest)

  pub arg_field : Trees.OptionalArg → Things → Things
  arg_field Trees.absent_arg rest = left_out rest
  arg_field (Trees.present_arg a) rest = a_thing (arg_thing a) rest

  pub arguments_thing : Trees.Arguments → Thing
  arguments_thing (Trees.arguments posonlyargs args vararg kwonlyargs kw_defaults kwarg defaults) = Node class.Arguments
      (a_thing (Row (arg_things posonlyargs))
      (a_thing (Row (arg_things args)) (arg_field vararg
      (a_thing (Row (arg_things kwonlyargs)) (a_thing (Row (optional_things kw_defaults))
      (arg_field kwarg (a_thing (Row (expr_things defaults)) no_thing)))))))

-- a comprehension's clause and a keyword outside of a list
abbrev pub comprehension_thing : Trees.Comprehension → Thing
comprehension_thing c = Node class.Comprehension (a_thing (expr_thing c.target) (a_thing (expr_thing c.iter)
    (a_thing (Row (expr_things (exprs c.ifs))) (a_thing (Leaf (leaf.Flag c.is_async)) no_thing))))

abbrev pub keyword_thing : Trees.Keyword → Thing
keyword_thing k = Node class.Keyword (name_field k.arg (a_thing (expr_thing k.value) no_thing))

-- an expression that may be absent
abbrev pub expr_field : Option Trees.Expr → Things → Things
expr_field None rest = left_out rest
expr_field (Some e) rest = a_thing (expr_thing e) rest

abbrev pub expr_row : List Trees.Expr → Thing
expr_row es = Row (expr_things (exprs es))

abbrev pub name_things : List Identifier → Things
name_things [] = no_thing
name_things (name ∷ rest) = a_thing (Leaf (leaf.Name name)) (name_things rest)

abbrev pub alias_thing : Trees.Alias → Thing
alias_thing a = Node class.Alias (a_thing (Leaf (leaf.Name a.name)) (name_field a.asname no_thing))

abbrev pub alias_things : List Trees.Alias → Things
alias_things [] = no_thing
alias_things (a ∷ rest) = a_thing (alias_thing a) (alias_things rest)

abbrev pub item_thing : Trees.Item → Thing
item_thing i = Node class.WithItem (a_thing (expr_thing i.context_expr)
    (expr_field i.optional_vars no_thing))

abbrev pub item_things : List Trees.Item → Things
item_things [] = no_thing
item_things (i ∷ rest) = a_thing (item_thing i) (item_things rest)

-- a parameter of a type
abbrev pub type_param_thing : Trees.TypeParam → Thing
type_param_thing (Trees.TypeVar name bound) =
    Node class.TypeVar (a_thing (Leaf (leaf.Name name)) (expr_field bound no_thing))
type_param_thing (Trees.ParamSpec name) = Node class.ParamSpec (a_thing (Leaf (leaf.Name name)) no_thing)
type_param_thing (Trees.TypeVarTuple name) = Node class.TypeVarTuple (a_thing (Leaf (leaf.Name name)) no_thing)

abbrev pub type_param_things : List Trees.TypeParam → Things
type_param_things [] = no_thing
type_param_things (p ∷ ps) = a_thing (type_param_thing p) (type_param_things ps)

-- a pattern of a `match`
abbrev mutual
  pub pattern_thing : Trees.Pattern → Thing
  pattern_thing (Trees.MatchValue value) = Node class.MatchValue (a_thing (expr_thing value) no_thing)
  pattern_thing (Trees.MatchSingleton value) = Node class.MatchSingleton (a_thing (Leaf (leaf.Singleton value)) no_thing)
  pattern_thing (Trees.MatchSequence inner) =
      Node class.MatchSequence (a_thing (Row (pattern_things inner)) no_thing)
  pattern_thing (Trees.MatchMapping keys inner rest) = Node class.MatchMapping
      (a_thing (expr_row keys) (a_thing (Row (pattern_things inner))
      (name_field rest no_thing)))
  pattern_thing (Trees.MatchClass cls inner names named) = Node class.MatchClass
      (a_thing (expr_thing cls) (a_thing (Row (pattern_things inner))
      (a_thing (Row (name_things names))
      (a_thing (Row (pattern_things named)) no_thing))))
  pattern_thing (Trees.MatchStar name) = Node class.MatchStar (name_field name no_thing)
  pattern_thing (Trees.MatchAs inner name) =
      Node class.MatchAs (pattern_field inner (name_field name no_thing))
  pattern_thing (Trees.MatchOr inner) = Node class.MatchOr (a_thing (Row (pattern_things inner)) no_thing)

  pub pattern_things : Trees.Patterns → Things
  pattern_things Trees.no_pattern = no_thing
  pattern_things (Trees.a_pattern p ps) = a_thing (pattern_thing p) (pattern_things ps)

  pub pattern_field : Trees.OptionalPattern → Things → Things
  pattern_field Trees.absent_pattern rest = left_out rest
  pattern_field (Trees.present_pattern p) rest = a_thing (pattern_thing p) rest

-- the last field of a definition, which is left out in 3.11, as its classes don't have it
abbrev pub type_params_field : Version → List Trees.TypeParam → Things
type_params_field v ps = if version_has_types v then a_thing (Row (type_param_things ps)) no_thing else left_out no_thing

abbrev mutual
  pub stmt_thing : Version → Trees.Stmt → Thing
  stmt_thing v (Trees.FunctionDef name args body decorators returns parameters) = Node class.FunctionDef
      (a_thing (Leaf (leaf.Name name))
      (a_thing (arguments_thing args) (a_thing (Row (stmt_things v body))
      (a_thing (expr_row decorators)
      (expr_field returns (left_out (type_params_field v parameters)))))))
  stmt_thing v (Trees.AsyncFunctionDef name args body decorators returns parameters) = Node class.AsyncFunctionDef
      (a_thing (Leaf (leaf.Name name))
      (a_thing (arguments_thing args) (a_thing (Row (stmt_things v body))
      (a_thing (expr_row decorators)
      (expr_field returns (left_out (type_params_field v parameters)))))))
  stmt_thing v (Trees.ClassDef name bases keywords body decorators parameters) = Node class.ClassDef
      (a_thing (Leaf (leaf.Name name))
      (a_thing (expr_row bases) (a_thing (Row (keyword_things keywords))
      (a_thing (Row (stmt_things v body)) (a_thing (expr_row decorators)
      (type_params_field v parameters))))))
  stmt_thing v (Trees.Return value) = Node class.Return (expr_field value no_thing)
  stmt_thing v (Trees.Delete targets) = Node class.Delete (a_thing (expr_row targets) no_thing)
  stmt_thing v (Trees.Assign targets value) =
      Node class.Assign (a_thing (expr_row targets) (a_thing (expr_thing value) (left_out no_thing)))
  stmt_thing v (Trees.TypeAlias name parameters value) = Node class.TypeAlias
      (a_thing (expr_thing name) (a_thing (Row (type_param_things parameters))
      (a_thing (expr_thing value) no_thing)))
  stmt_thing v (Trees.AugAssign target op value) = Node class.AugAssign
      (a_thing (expr_thing target)
      (a_thing (Leaf (leaf.Operator op)) (a_thing (expr_thing value) no_thing)))
  stmt_thing v (Trees.AnnAssign target annotation value simple) = Node class.AnnAssign
      (a_thing (expr_thing target)
      (a_thing (expr_thing annotation)
      (expr_field value (a_thing (Leaf (leaf.Flag simple)) no_thing))))
  stmt_thing v (Trees.For target iter body orelse) = Node class.For
      (a_thing (expr_thing target) (a_thing (expr_thing iter) (a_thing (Row (stmt_things v body))
      (a_thing (Row (stmt_things v orelse)) (left_out no_thing)))))
  stmt_thing v (Trees.AsyncFor target iter body orelse) = Node class.AsyncFor
      (a_thing (expr_thing target) (a_thing (expr_thing iter) (a_thing (Row (stmt_things v body))
      (a_thing (Row (stmt_things v orelse)) (left_out no_thing)))))
  stmt_thing v (Trees.While test body orelse) = Node class.While
      (a_thing (expr_thing test) (a_thing (Row (stmt_things v body))
      (a_thing (Row (stmt_things v orelse)) no_thing)))
  stmt_thing v (Trees.If test body orelse) = Node class.If
      (a_thing (expr_thing test) (a_thing (Row (stmt_things v body))
      (a_thing (Row (stmt_things v orelse)) no_thing)))
  stmt_thing v (Trees.With items body) = Node class.With
      (a_thing (Row (item_things items)) (a_thing (Row (stmt_things v body)) (left_out no_thing)))
  stmt_thing v (Trees.AsyncWith items body) = Node class.AsyncWith
      (a_thing (Row (item_things items)) (a_thing (Row (stmt_things v body)) (left_out no_thing)))
  stmt_thing v (Trees.Match subject cases) =
      Node class.Match (a_thing (expr_thing subject) (a_thing (Row (case_things v cases)) no_thing))
  stmt_thing v (Trees.Raise exc cause) = Node class.Raise (expr_field exc (expr_field cause no_thing))
  stmt_thing v (Trees.Assert test msg) = Node class.Assert (a_thing (expr_thing test) (expr_field msg no_thing))
  stmt_thing v (Trees.Try body handlers orelse finalbody) = Node class.Try
      (a_thing (Row (stmt_things v body)) (a_thing (Row (handler_things v handlers))
      (a_thing (Row (stmt_things v orelse)) (a_thing (Row (stmt_things v finalbody)) no_thing))))
  stmt_thing v (Trees.TryStar body handlers orelse finalbody) = Node class.TryStar
      (a_thing (Row (stmt_things v body)) (a_thing (Row (handler_things v handlers))
      (a_thing (Row (stmt_things v orelse)) (a_thing (Row (stmt_things v finalbody)) no_thing))))
  stmt_thing v (Trees.Import names) = Node class.Import (a_thing (Row (alias_things names)) no_thing)
  stmt_thing v (Trees.ImportFrom source names level) = Node class.ImportFrom
      (name_field source (a_thing (Row (alias_things names))
      (a_thing (Leaf (leaf.Number level)) no_thing)))
  stmt_thing v (Trees.Global names) = Node class.Global (a_thing (Row (name_things names)) no_thing)
  stmt_thing v (Trees.Nonlocal names) = Node class.Nonlocal (a_thing (Row (name_things names)) no_thing)
  stmt_thing v (Trees.ExprOf value) = Node class.Expr (a_thing (expr_thing value) no_thing)
  stmt_thing v Trees.Pass = Node class.Pass no_thing
  stmt_thing v Trees.Break = Node class.Break no_thing
  stmt_thing v Trees.Continue = Node class.Continue no_thing

  pub stmt_things : Version → Trees.Stmts → Things
  stmt_things v Trees.no_stmt = no_thing
  stmt_things v (Trees.a_stmt s ss) = a_thing (stmt_thing v s) (stmt_things v ss)

  pub case_things : Version → Trees.Cases → Things
  case_things v Trees.no_case = no_thing
  case_things v (Trees.a_case pattern guard body cs) = a_thing (Node class.MatchCase
      (a_thing (pattern_thing pattern)
      (expr_field guard (a_thing (Row (stmt_things v body)) no_thing)))) (case_things v cs)

  pub handler_things : Version → Trees.Handlers → Things
  handler_things v Trees.no_handler = no_thing
  handler_things v (Trees.a_handler caught name body hs) = a_thing (Node class.ExceptHandler
      (expr_field caught (name_field name (a_thing (Row (stmt_things v body)) no_thing))))
      (handler_things v hs)

-- a handler and a case outside of a list
abbrev pub handler_thing : Version → Trees.Handler → Thing
handler_thing v h = Node class.ExceptHandler (expr_field h.class (name_field h.name (a_thing (Row (stmt_things v (stmts h.body)))
    no_thing)))

abbrev pub case_thing : Version → Trees.Case → Thing
case_thing v c = Node class.MatchCase (a_thing (pattern_thing c.pattern)
    (expr_field c.guard (a_thing (Row (stmt_things v (stmts c.body))) no_thing)))

abbrev pub module_thing : Version → Trees.Module → Thing
module_thing v m = Node class.Module (a_thing (Row (stmt_things v (stmts m.body)))
    (a_thing (Row no_thing) no_thing))
