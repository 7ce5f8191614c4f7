-- A tree is told by its things: what leads from these back to it.
--
-- Carries: that trees are equal where their things are.
use Rattle.std.proofs.Common.{◌≡◌, ℕ, zero, suc, Bool, true, false, List, [], ◌∷◌, Option, None, Some, refl, ap, sym, ◌∙◌}
use Rattle.pyfstring.specs.declared.parts.Conversion.{Conversion}
use Rattle.pyfstring.specs.declared.parts.Conversion.TheVariants as conversion
use Rattle.pytree_node.specs.declared.operators.Operator.{Operator}
use Rattle.pytree_node.specs.declared.operators.Operator.TheVariants as operator
use Rattle.pytree_node.specs.declared.operators.UnaryOperator.{UnaryOperator}
use Rattle.pytree_node.specs.declared.operators.UnaryOperator.TheVariants as unary
use Rattle.pytree_node.specs.declared.operators.BoolOperator.{BoolOperator}
use Rattle.pytree_node.specs.declared.operators.BoolOperator.TheVariants as bool_operator
use Rattle.pytree_node.specs.declared.operators.Comparison.{Comparison}
use Rattle.pytree_node.specs.declared.operators.Comparison.TheVariants as comparison
use Rattle.pytree_node.specs.declared.operators.Context.{Context}
use Rattle.pytree_node.specs.declared.operators.Context.TheVariants as context
use Rattle.pytree_node.specs.declared.profiles.Version.TheVariants.{Py312}
use Rattle.pytree_node.specs.Trees
use Rattle.pytree_node.specs.Trees.{Identifier, exprs, stmts}
use Rattle.pytree_node.specs.Values as value
use Rattle.pytree_node.specs.Values.{Value}
use Rattle.pytree_fields.specs.declared.classes.Class.{Class}
use Rattle.pytree_fields.specs.declared.classes.Class.TheVariants as class
use Rattle.pytree_fields.specs.Leaves as leaf
use Rattle.pytree_fields.specs.Things.{Thing, Things, Leaf, Row, Node, no_thing, a_thing, left_out, expr_thing, expr_things}
use Rattle.pytree_fields.specs.Things.{optional_things, comprehension_things, keyword_things, arg_thing, arg_things, arguments_thing}
use Rattle.pytree_fields.specs.Things.{
  name_things,
  alias_thing,
  alias_things,
  item_thing,
  item_things,
  type_param_thing,
  type_param_things,
}
use Rattle.pytree_fields.specs.Things.{
  pattern_thing,
  pattern_things,
  stmt_thing,
  stmt_things,
  case_things,
  handler_things,
  comparison_things,
}
use Rattle.pytree_fields.specs.Things.{module_thing}

-- a part of a tree of any kind; a part that is none of those is a leaf
mutual
  data Any : Type 0 where
    A_leaf : leaf.Leaf → Any
    A_row : Anys → Any
    An_expr : Trees.Expr → Any
    A_comprehension : Trees.Expr → Trees.Expr → Trees.Exprs → Bool → Any
    A_keyword : Option Identifier → Trees.Expr → Any
    An_arg : Trees.Arg → Any
    Some_arguments : Trees.Arguments → Any
    An_alias : Trees.Alias → Any
    An_item : Trees.Item → Any
    A_type_param : Trees.TypeParam → Any
    A_pattern : Trees.Pattern → Any
    A_stmt : Trees.Stmt → Any
    A_handler : Option Trees.Expr → Option Identifier → Trees.Stmts → Any
    A_case : Trees.Pattern → Option Trees.Expr → Trees.Stmts → Any
    A_module : Trees.Stmts → Any

  data Anys : Type 0 where
    no_any : Anys
    some_any : Any → Anys → Anys

abbrev at : Anys → ℕ → Any
at no_any i = A_leaf leaf.None
at (some_any x xs) zero = x
at (some_any x xs) (suc i) = at xs i

-- what stands where nothing fits
abbrev any_expr : Trees.Expr
any_expr = Trees.Yield Trees.absent

abbrev as_expr : Any → Trees.Expr
as_expr (An_expr x) = x
as_expr _ = any_expr

abbrev as_optional : Any → Trees.OptionalExpr
as_optional (An_expr x) = Trees.present x
as_optional _ = Trees.absent

abbrev as_option : Any → Option Trees.Expr
as_option (An_expr x) = Some x
as_option _ = None

abbrev as_arg : Any → Trees.Arg
as_arg (An_arg x) = x
as_arg _ = Trees.arg [] Trees.absent

abbrev as_optional_arg : Any → Trees.OptionalArg
as_optional_arg (An_arg x) = Trees.present_arg x
as_optional_arg _ = Trees.absent_arg

abbrev as_arguments : Any → Trees.Arguments
as_arguments (Some_arguments x) = x
as_arguments _ = Trees.arguments Trees.no_arg Trees.no_arg Trees.absent_arg Trees.no_arg Trees.no_optional Trees.absent_arg Trees.no_exprs

abbrev as_alias : Any → Trees.Alias
as_alias (An_alias x) = x
as_alias _ = record { name = []; asname = None }

abbrev as_item : Any → Trees.Item
as_item (An_item x) = x
as_item _ = record { context_expr = any_expr; optional_vars = None }

abbrev as_type_param : Any → Trees.TypeParam
as_type_param (A_type_param x) = x
as_type_param _ = Trees.ParamSpec []

abbrev as_pattern : Any → Trees.Pattern
as_pattern (A_pattern x) = x
as_pattern _ = Trees.MatchStar None

abbrev as_optional_pattern : Any → Trees.OptionalPattern
as_optional_pattern (A_pattern x) = Trees.present_pattern x
as_optional_pattern _ = Trees.absent_pattern

abbrev as_stmt : Any → Trees.Stmt
as_stmt (A_stmt x) = x
as_stmt _ = Trees.Pass

abbrev as_operator : Any → Operator
as_operator (A_leaf (leaf.Operator x)) = x
as_operator _ = operator.Add

abbrev as_unary : Any → UnaryOperator
as_unary (A_leaf (leaf.Unary x)) = x
as_unary _ = unary.Not

abbrev as_bool : Any → BoolOperator
as_bool (A_leaf (leaf.Bool x)) = x
as_bool _ = bool_operator.And

abbrev as_comparison : Any → Comparison
as_comparison (A_leaf (leaf.Comparison x)) = x
as_comparison _ = comparison.Eq

abbrev as_context : Any → Context
as_context (A_leaf (leaf.Context x)) = x
as_context _ = context.Load

abbrev as_conversion : Any → Conversion
as_conversion (A_leaf (leaf.Conversion x)) = x
as_conversion _ = conversion.None

abbrev as_name : Any → Identifier
as_name (A_leaf (leaf.Name x)) = x
as_name _ = []

abbrev as_value : Any → Value
as_value (A_leaf (leaf.Value x)) = x
as_value _ = value.None

abbrev as_singleton : Any → Value
as_singleton (A_leaf (leaf.Singleton x)) = x
as_singleton _ = value.None

abbrev as_number : Any → ℕ
as_number (A_leaf (leaf.Number x)) = x
as_number _ = 0

abbrev as_flag : Any → Bool
as_flag (A_leaf (leaf.Flag x)) = x
as_flag _ = false

abbrev as_name_option : Any → Option Identifier
as_name_option (A_leaf (leaf.Name x)) = Some x
as_name_option _ = None

abbrev with_kind : Value → Any → Value
with_kind (value.Str points unicode) (A_leaf leaf.Kind) = value.Str points true
with_kind v _ = v

abbrev exprs_of : Anys → Trees.Exprs
exprs_of no_any = Trees.no_exprs
exprs_of (some_any x xs) = Trees.an_expr (as_expr x) (exprs_of xs)

abbrev as_exprs : Any → Trees.Exprs
as_exprs (A_row xs) = exprs_of xs
as_exprs _ = Trees.no_exprs

abbrev optionals_of : Anys → Trees.OptionalExprs
optionals_of no_any = Trees.no_optional
optionals_of (some_any x xs) = Trees.an_optional (as_optional x) (optionals_of xs)

abbrev as_optionals : Any → Trees.OptionalExprs
as_optionals (A_row xs) = optionals_of xs
as_optionals _ = Trees.no_optional

abbrev with_comprehension : Any → Trees.Comprehensions → Trees.Comprehensions
with_comprehension (A_comprehension target iter ifs is_async) cs = Trees.a_comprehension target iter ifs is_async cs
with_comprehension _ cs = cs

abbrev comprehensions_of : Anys → Trees.Comprehensions
comprehensions_of no_any = Trees.no_comprehension
comprehensions_of (some_any x xs) = with_comprehension x (comprehensions_of xs)

abbrev as_comprehensions : Any → Trees.Comprehensions
as_comprehensions (A_row xs) = comprehensions_of xs
as_comprehensions _ = Trees.no_comprehension

abbrev with_keyword : Any → Trees.Keywords → Trees.Keywords
with_keyword (A_keyword arg value) ks = Trees.a_keyword arg value ks
with_keyword _ ks = ks

abbrev keywords_of : Anys → Trees.Keywords
keywords_of no_any = Trees.no_keyword
keywords_of (some_any x xs) = with_keyword x (keywords_of xs)

abbrev as_keywords : Any → Trees.Keywords
as_keywords (A_row xs) = keywords_of xs
as_keywords _ = Trees.no_keyword

abbrev args_of : Anys → Trees.Args
args_of no_any = Trees.no_arg
args_of (some_any x xs) = Trees.an_arg (as_arg x) (args_of xs)

abbrev as_args : Any → Trees.Args
as_args (A_row xs) = args_of xs
as_args _ = Trees.no_arg

abbrev names_of : Anys → List Identifier
names_of no_any = []
names_of (some_any x xs) = as_name x ∷ names_of xs

abbrev as_names : Any → List Identifier
as_names (A_row xs) = names_of xs
as_names _ = []

abbrev comparisons_of : Anys → List Comparison
comparisons_of no_any = []
comparisons_of (some_any x xs) = as_comparison x ∷ comparisons_of xs

abbrev as_comparisons : Any → List Comparison
as_comparisons (A_row xs) = comparisons_of xs
as_comparisons _ = []

abbrev aliases_of : Anys → List Trees.Alias
aliases_of no_any = []
aliases_of (some_any x xs) = as_alias x ∷ (aliases_of xs)

abbrev as_aliases : Any → List Trees.Alias
as_aliases (A_row xs) = aliases_of xs
as_aliases _ = []

abbrev items_of : Anys → List Trees.Item
items_of no_any = []
items_of (some_any x xs) = as_item x ∷ (items_of xs)

abbrev as_items : Any → List Trees.Item
as_items (A_row xs) = items_of xs
as_items _ = []

abbrev type_params_of : Anys → List Trees.TypeParam
type_params_of no_any = []
type_params_of (some_any x xs) = as_type_param x ∷ (type_params_of xs)

abbrev as_type_params : Any → List Trees.TypeParam
as_type_params (A_row xs) = type_params_of xs
as_type_params _ = []

abbrev patterns_of : Anys → Trees.Patterns
patterns_of no_any = Trees.no_pattern
patterns_of (some_any x xs) = Trees.a_pattern (as_pattern x) (patterns_of xs)

abbrev as_patterns : Any → Trees.Patterns
as_patterns (A_row xs) = patterns_of xs
as_patterns _ = Trees.no_pattern

abbrev stmts_of : Anys → Trees.Stmts
stmts_of no_any = Trees.no_stmt
stmts_of (some_any x xs) = Trees.a_stmt (as_stmt x) (stmts_of xs)

abbrev as_stmts : Any → Trees.Stmts
as_stmts (A_row xs) = stmts_of xs
as_stmts _ = Trees.no_stmt

abbrev with_case : Any → Trees.Cases → Trees.Cases
with_case (A_case pattern guard body) cs = Trees.a_case pattern guard body cs
with_case _ cs = cs

abbrev cases_of : Anys → Trees.Cases
cases_of no_any = Trees.no_case
cases_of (some_any x xs) = with_case x (cases_of xs)

abbrev as_cases : Any → Trees.Cases
as_cases (A_row xs) = cases_of xs
as_cases _ = Trees.no_case

abbrev with_handler : Any → Trees.Handlers → Trees.Handlers
with_handler (A_handler caught name body) hs = Trees.a_handler caught name body hs
with_handler _ hs = hs

abbrev handlers_of : Anys → Trees.Handlers
handlers_of no_any = Trees.no_handler
handlers_of (some_any x xs) = with_handler x (handlers_of xs)

abbrev as_handlers : Any → Trees.Handlers
as_handlers (A_row xs) = handlers_of xs
as_handlers _ = Trees.no_handler

-- a list of a statement's expressions
abbrev expr_list : Trees.Exprs → List Trees.Expr
expr_list Trees.no_exprs = []
expr_list (Trees.an_expr e es) = e ∷ expr_list es

abbrev as_row : Any → List Trees.Expr
as_row x = expr_list (as_exprs x)

abbrev stmt_list : Trees.Stmts → List Trees.Stmt
stmt_list Trees.no_stmt = []
stmt_list (Trees.a_stmt s ss) = s ∷ stmt_list ss

-- a node of a class, whose fields hold these
abbrev build : Class → Anys → Any
build class.Module xs = A_module (as_stmts (at xs 0))
build class.BoolOp xs = An_expr (Trees.BoolOp (as_bool (at xs 0)) (as_exprs (at xs 1)))
build class.NamedExpr xs = An_expr (Trees.NamedExpr (as_expr (at xs 0)) (as_expr (at xs 1)))
build class.BinOp xs = An_expr (Trees.BinOp (as_expr (at xs 0)) (as_operator (at xs 1)) (as_expr (at xs 2)))
build class.UnaryOp xs = An_expr (Trees.UnaryOp (as_unary (at xs 0)) (as_expr (at xs 1)))
build class.Lambda xs = An_expr (Trees.Lambda (as_arguments (at xs 0)) (as_expr (at xs 1)))
build class.IfExp xs = An_expr (Trees.IfExp (as_expr (at xs 0)) (as_expr (at xs 1)) (as_expr (at xs 2)))
build class.Dict xs = An_expr (Trees.Dict (as_optionals (at xs 0)) (as_exprs (at xs 1)))
build class.Set xs = An_expr (Trees.Set (as_exprs (at xs 0)))
build class.ListComp xs = An_expr (Trees.ListComp (as_expr (at xs 0)) (as_comprehensions (at xs 1)))
build class.SetComp xs = An_expr (Trees.SetComp (as_expr (at xs 0)) (as_comprehensions (at xs 1)))
build class.DictComp xs = An_expr (Trees.DictComp (as_expr (at xs 0)) (as_expr (at xs 1)) (as_comprehensions (at xs 2)))
build class.GeneratorExp xs = An_expr (Trees.GeneratorExp (as_expr (at xs 0)) (as_comprehensions (at xs 1)))
build class.Await xs = An_expr (Trees.Await (as_expr (at xs 0)))
build class.Yield xs = An_expr (Trees.Yield (as_optional (at xs 0)))
build class.YieldFrom xs = An_expr (Trees.YieldFrom (as_expr (at xs 0)))
build class.Compare xs = An_expr (Trees.Compare (as_expr (at xs 0)) (as_comparisons (at xs 1)) (as_exprs (at xs 2)))
build class.Call xs = An_expr (Trees.Call (as_expr (at xs 0)) (as_exprs (at xs 1)) (as_keywords (at xs 2)))
build class.FormattedValue xs = An_expr (Trees.FormattedValue (as_expr (at xs 0)) (as_conversion (at xs 1)) (as_optional (at xs 2)))
build class.JoinedStr xs = An_expr (Trees.JoinedStr (as_exprs (at xs 0)))
build class.Constant xs = An_expr (Trees.Constant (with_kind (as_value (at xs 0)) (at xs 1)))
build class.Attribute xs = An_expr (Trees.Attribute (as_expr (at xs 0)) (as_name (at xs 1)) (as_context (at xs 2)))
build class.Subscript xs = An_expr (Trees.Subscript (as_expr (at xs 0)) (as_expr (at xs 1)) (as_context (at xs 2)))
build class.Starred xs = An_expr (Trees.Starred (as_expr (at xs 0)) (as_context (at xs 1)))
build class.Name xs = An_expr (Trees.Name (as_name (at xs 0)) (as_context (at xs 1)))
build class.List xs = An_expr (Trees.ListOf (as_exprs (at xs 0)) (as_context (at xs 1)))
build class.Tuple xs = An_expr (Trees.Tuple (as_exprs (at xs 0)) (as_context (at xs 1)))
build class.Slice xs = An_expr (Trees.Slice (as_optional (at xs 0)) (as_optional (at xs 1)) (as_optional (at xs 2)))
build class.MatchValue xs = A_pattern (Trees.MatchValue (as_expr (at xs 0)))
build class.MatchSingleton xs = A_pattern (Trees.MatchSingleton (as_singleton (at xs 0)))
build class.MatchSequence xs = A_pattern (Trees.MatchSequence (as_patterns (at xs 0)))
build class.MatchMapping xs = A_pattern (Trees.MatchMapping (as_row (at xs 0)) (as_patterns (at xs 1)) (as_name_option (at xs 2)))
build class.MatchClass xs = A_pattern (Trees.MatchClass (as_expr (at xs 0)) (as_patterns (at xs 1)) (as_names (at xs 2)) (as_patterns (at
    xs 3)))
build class.MatchStar xs = A_pattern (Trees.MatchStar (as_name_option (at xs 0)))
build class.MatchAs xs = A_pattern (Trees.MatchAs (as_optional_pattern (at xs 0)) (as_name_option (at xs 1)))
build class.MatchOr xs = A_pattern (Trees.MatchOr (as_patterns (at xs 0)))
build class.FunctionDef xs = A_stmt (Trees.FunctionDef (as_name (at xs 0)) (as_arguments (at xs 1)) (as_stmts (at xs 2)) (as_row (at xs
    3)) (as_option (at xs 4)) (as_type_params (at xs 6)))
build class.AsyncFunctionDef xs = A_stmt (Trees.AsyncFunctionDef (as_name (at xs 0)) (as_arguments (at xs 1)) (as_stmts (at xs 2)) (as_row
    (at xs 3)) (as_option (at xs 4)) (as_type_params (at xs 6)))
build class.ClassDef xs = A_stmt (Trees.ClassDef (as_name (at xs 0)) (as_row (at xs 1)) (as_keywords (at xs 2)) (as_stmts (at xs 3))
    (as_row (at xs 4)) (as_type_params (at xs 5)))
build class.Return xs = A_stmt (Trees.Return (as_option (at xs 0)))
build class.Delete xs = A_stmt (Trees.Delete (as_row (at xs 0)))
build class.Assign xs = A_stmt (Trees.Assign (as_row (at xs 0)) (as_expr (at xs 1)))
build class.TypeAlias xs = A_stmt (Trees.TypeAlias (as_expr (at xs 0)) (as_type_params (at xs 1)) (as_expr (at xs 2)))
build class.AugAssign xs = A_stmt (Trees.AugAssign (as_expr (at xs 0)) (as_operator (at xs 1)) (as_expr (at xs 2)))
build class.AnnAssign xs = A_stmt (Trees.AnnAssign (as_expr (at xs 0)) (as_expr (at xs 1)) (as_option (at xs 2)) (as_flag (at xs 3)))
build class.For xs = A_stmt (Trees.For (as_expr (at xs 0)) (as_expr (at xs 1)) (as_stmts (at xs 2)) (as_stmts (at xs 3)))
build class.AsyncFor xs = A_stmt (Trees.AsyncFor (as_expr (at xs 0)) (as_expr (at xs 1)) (as_stmts (at xs 2)) (as_stmts (at xs 3)))
build class.While xs = A_stmt (Trees.While (as_expr (at xs 0)) (as_stmts (at xs 1)) (as_stmts (at xs 2)))
build class.If xs = A_stmt (Trees.If (as_expr (at xs 0)) (as_stmts (at xs 1)) (as_stmts (at xs 2)))
build class.With xs = A_stmt (Trees.With (as_items (at xs 0)) (as_stmts (at xs 1)))
build class.AsyncWith xs = A_stmt (Trees.AsyncWith (as_items (at xs 0)) (as_stmts (at xs 1)))
build class.Match xs = A_stmt (Trees.Match (as_expr (at xs 0)) (as_cases (at xs 1)))
build class.Raise xs = A_stmt (Trees.Raise (as_option (at xs 0)) (as_option (at xs 1)))
build class.Try xs = A_stmt (Trees.Try (as_stmts (at xs 0)) (as_handlers (at xs 1)) (as_stmts (at xs 2)) (as_stmts (at xs 3)))
build class.TryStar xs = A_stmt (Trees.TryStar (as_stmts (at xs 0)) (as_handlers (at xs 1)) (as_stmts (at xs 2)) (as_stmts (at xs 3)))
build class.Assert xs = A_stmt (Trees.Assert (as_expr (at xs 0)) (as_option (at xs 1)))
build class.Import xs = A_stmt (Trees.Import (as_aliases (at xs 0)))
build class.ImportFrom xs = A_stmt (Trees.ImportFrom (as_name_option (at xs 0)) (as_aliases (at xs 1)) (as_number (at xs 2)))
build class.Global xs = A_stmt (Trees.Global (as_names (at xs 0)))
build class.Nonlocal xs = A_stmt (Trees.Nonlocal (as_names (at xs 0)))
build class.Expr xs = A_stmt (Trees.ExprOf (as_expr (at xs 0)))
build class.Pass xs = A_stmt Trees.Pass
build class.Break xs = A_stmt Trees.Break
build class.Continue xs = A_stmt Trees.Continue
build class.Comprehension xs = A_comprehension (as_expr (at xs 0)) (as_expr (at xs 1)) (as_exprs (at xs 2)) (as_flag (at xs 3))
build class.ExceptHandler xs = A_handler (as_option (at xs 0)) (as_name_option (at xs 1)) (as_stmts (at xs 2))
build class.Arguments xs = Some_arguments (Trees.arguments (as_args (at xs 0)) (as_args (at xs 1)) (as_optional_arg (at xs 2)) (as_args
    (at xs 3))
    (as_optionals (at xs 4)) (as_optional_arg (at xs 5)) (as_exprs (at xs 6)))
build class.Arg xs = An_arg (Trees.arg (as_name (at xs 0)) (as_optional (at xs 1)))
build class.Keyword xs = A_keyword (as_name_option (at xs 0)) (as_expr (at xs 1))
build class.Alias xs = An_alias (record { name = as_name (at xs 0); asname = as_name_option (at xs 1) })
build class.WithItem xs = An_item (record { context_expr = as_expr (at xs 0); optional_vars = as_option (at xs 1) })
build class.MatchCase xs = A_case (as_pattern (at xs 0)) (as_option (at xs 1)) (as_stmts (at xs 2))
build class.TypeVar xs = A_type_param (Trees.TypeVar (as_name (at xs 0)) (as_option (at xs 1)))
build class.ParamSpec xs = A_type_param (Trees.ParamSpec (as_name (at xs 0)))
build class.TypeVarTuple xs = A_type_param (Trees.TypeVarTuple (as_name (at xs 0)))

abbrev mutual
  of_thing : Thing → Any
  of_thing (Leaf x) = A_leaf x
  of_thing (Row xs) = A_row (of_things xs)
  of_thing (Node c xs) = build c (of_things xs)

  of_things : Things → Anys
  of_things no_thing = no_any
  of_things (a_thing x xs) = some_any (of_thing x) (of_things xs)
  of_things (left_out xs) = some_any (A_leaf leaf.None) (of_things xs)

constant_back : (v : Value) → of_thing (expr_thing (Trees.Constant v)) ≡ An_expr (Trees.Constant v)
constant_back value.None = refl
constant_back value.Ellipsis = refl
constant_back (value.Bool b) = refl
constant_back (value.Int n) = refl
constant_back (value.Float x) = refl
constant_back (value.Imaginary x) = refl
constant_back (value.Str points true) = refl
constant_back (value.Str points false) = refl
constant_back (value.Bytes bytes) = refl

comparisons_back : (cs : List Comparison) → comparisons_of (of_things (comparison_things cs)) ≡ cs
comparisons_back [] = refl
comparisons_back (c ∷ cs) = λ i. c ∷ comparisons_back cs i

names_back : (names : List Identifier) → names_of (of_things (name_things names)) ≡ names
names_back [] = refl
names_back (name ∷ names) = λ i. name ∷ names_back names i

mutual
  expr_back : (e : Trees.Expr) → of_thing (expr_thing e) ≡ An_expr e
  expr_back (Trees.BoolOp op values) = λ i. An_expr (Trees.BoolOp op (exprs_back values i))
  expr_back (Trees.NamedExpr target value) = λ i. An_expr (Trees.NamedExpr (as_expr (expr_back target i)) (as_expr (expr_back value i)))
  expr_back (Trees.BinOp left op right) = λ i. An_expr (Trees.BinOp (as_expr (expr_back left i)) op (as_expr (expr_back right i)))
  expr_back (Trees.UnaryOp op operand) = λ i. An_expr (Trees.UnaryOp op (as_expr (expr_back operand i)))
  expr_back (Trees.Lambda args body) = λ i. An_expr (Trees.Lambda (as_arguments (arguments_back args i)) (as_expr (expr_back body i)))
  expr_back (Trees.IfExp test body orelse) = λ i. An_expr (Trees.IfExp (as_expr (expr_back test i)) (as_expr (expr_back body i)) (as_expr
      (expr_back orelse i)))
  expr_back (Trees.Dict keys values) = λ i. An_expr (Trees.Dict (optionals_back keys i) (exprs_back values i))
  expr_back (Trees.Set elts) = λ i. An_expr (Trees.Set (exprs_back elts i))
  expr_back (Trees.ListComp elt generators) = λ i. An_expr (Trees.ListComp (as_expr (expr_back elt i)) (comprehensions_back generators i))
  expr_back (Trees.SetComp elt generators) = λ i. An_expr (Trees.SetComp (as_expr (expr_back elt i)) (comprehensions_back generators i))
  expr_back (Trees.DictComp key value generators) = λ i. An_expr (Trees.DictComp (as_expr (expr_back key i)) (as_expr (expr_back value i))
      (comprehensions_back generators i))
  expr_back (Trees.GeneratorExp elt generators) = λ i. An_expr (Trees.GeneratorExp (as_expr (expr_back elt i)) (comprehensions_back
      generators i))
  expr_back (Trees.Await value) = λ i. An_expr (Trees.Await (as_expr (expr_back value i)))
  expr_back (Trees.Yield Trees.absent) = refl
  expr_back (Trees.Yield (Trees.present value)) = λ i. An_expr (Trees.Yield (as_optional (expr_back value i)))
  expr_back (Trees.YieldFrom value) = λ i. An_expr (Trees.YieldFrom (as_expr (expr_back value i)))
  expr_back (Trees.Compare left ops comparators) = λ i. An_expr (Trees.Compare (as_expr (expr_back left i)) (comparisons_back ops i)
      (exprs_back comparators i))
  expr_back (Trees.Call func args keywords) = λ i. An_expr (Trees.Call (as_expr (expr_back func i)) (exprs_back args i) (keywords_back
      keywords i))
  expr_back (Trees.FormattedValue value conversion Trees.absent) = λ i. An_expr (Trees.FormattedValue (as_expr (expr_back value i))
      conversion Trees.absent)
  expr_back (Trees.FormattedValue value conversion (Trees.present format_spec)) = λ i. An_expr (Trees.FormattedValue (as_expr (expr_back
      value i)) conversion (as_optional (expr_back format_spec i)))
  expr_back (Trees.JoinedStr values) = λ i. An_expr (Trees.JoinedStr (exprs_back values i))
  expr_back (Trees.Constant v) = constant_back v
  expr_back (Trees.Attribute value attr ctx) = λ i. An_expr (Trees.Attribute (as_expr (expr_back value i)) attr ctx)
  expr_back (Trees.Subscript value slice ctx) = λ i. An_expr (Trees.Subscript (as_expr (expr_back value i)) (as_expr (expr_back slice i))
      ctx)
  expr_back (Trees.Starred value ctx) = λ i. An_expr (Trees.Starred (as_expr (expr_back value i)) ctx)
  expr_back (Trees.Name id ctx) = refl
  expr_back (Trees.ListOf elts ctx) = λ i. An_expr (Trees.ListOf (exprs_back elts i) ctx)
  expr_back (Trees.Tuple elts ctx) = λ i. An_expr (Trees.Tuple (exprs_back elts i) ctx)
  expr_back (Trees.Slice Trees.absent Trees.absent Trees.absent) = refl
  expr_back (Trees.Slice Trees.absent Trees.absent (Trees.present step)) = λ i. An_expr (Trees.Slice Trees.absent Trees.absent
      (as_optional (expr_back step i)))
  expr_back (Trees.Slice Trees.absent (Trees.present upper) Trees.absent) = λ i. An_expr (Trees.Slice Trees.absent (as_optional (expr_back
      upper i)) Trees.absent)
  expr_back (Trees.Slice Trees.absent (Trees.present upper) (Trees.present step)) = λ i. An_expr (Trees.Slice Trees.absent (as_optional
      (expr_back upper i)) (as_optional (expr_back step i)))
  expr_back (Trees.Slice (Trees.present lower) Trees.absent Trees.absent) = λ i. An_expr (Trees.Slice (as_optional (expr_back lower i))
      Trees.absent Trees.absent)
  expr_back (Trees.Slice (Trees.present lower) Trees.absent (Trees.present step)) = λ i. An_expr (Trees.Slice (as_optional (expr_back
      lower i)) Trees.absent (as_optional (expr_back step i)))
  expr_back (Trees.Slice (Trees.present lower) (Trees.present upper) Trees.absent) = λ i. An_expr (Trees.Slice (as_optional (expr_back
      lower i)) (as_optional (expr_back upper i)) Trees.absent)
  expr_back (Trees.Slice (Trees.present lower) (Trees.present upper) (Trees.present step)) = λ i. An_expr (Trees.Slice (as_optional
      (expr_back lower i)) (as_optional (expr_back upper i)) (as_optional (expr_back step i)))

  exprs_back : (es : Trees.Exprs) → exprs_of (of_things (expr_things es)) ≡ es
  exprs_back Trees.no_exprs = refl
  exprs_back (Trees.an_expr e es) = λ i. Trees.an_expr (as_expr (expr_back e i)) (exprs_back es i)

  optionals_back : (es : Trees.OptionalExprs) → optionals_of (of_things (optional_things es)) ≡ es
  optionals_back Trees.no_optional = refl
  optionals_back (Trees.an_optional Trees.absent es) = λ i. Trees.an_optional Trees.absent (optionals_back es i)
  optionals_back (Trees.an_optional (Trees.present e) es) = λ i. Trees.an_optional (as_optional (expr_back e i)) (optionals_back es i)

  comprehensions_back : (cs : Trees.Comprehensions) → comprehensions_of (of_things (comprehension_things cs)) ≡ cs
  comprehensions_back Trees.no_comprehension = refl
  comprehensions_back (Trees.a_comprehension target iter ifs is_async cs) =
      λ i. Trees.a_comprehension (as_expr (expr_back target i)) (as_expr (expr_back iter i)) (exprs_back ifs i) is_async
      (comprehensions_back cs i)

  keywords_back : (ks : Trees.Keywords) → keywords_of (of_things (keyword_things ks)) ≡ ks
  keywords_back Trees.no_keyword = refl
  keywords_back (Trees.a_keyword None value ks) = λ i. Trees.a_keyword None (as_expr (expr_back value i)) (keywords_back ks i)
  keywords_back (Trees.a_keyword (Some name) value ks) = λ i. Trees.a_keyword (Some name) (as_expr (expr_back value i)) (keywords_back ks
      i)

  arg_back : (a : Trees.Arg) → of_thing (arg_thing a) ≡ An_arg a
  arg_back (Trees.arg name Trees.absent) = refl
  arg_back (Trees.arg name (Trees.present e)) = λ i. An_arg (Trees.arg name (as_optional (expr_back e i)))

  args_back : (all : Trees.Args) → args_of (of_things (arg_things all)) ≡ all
  args_back Trees.no_arg = refl
  args_back (Trees.an_arg a all) = λ i. Trees.an_arg (as_arg (arg_back a i)) (args_back all i)

  arguments_back : (a : Trees.Arguments) → of_thing (arguments_thing a) ≡ Some_arguments a
  arguments_back (Trees.arguments p a Trees.absent_arg o d Trees.absent_arg f) = λ i. Some_arguments (Trees.arguments (args_back p i)
      (args_back a i) Trees.absent_arg
      (args_back o i) (optionals_back d i) Trees.absent_arg (exprs_back f i))
  arguments_back (Trees.arguments p a Trees.absent_arg o d (Trees.present_arg k) f) = λ i. Some_arguments (Trees.arguments (args_back p i)
      (args_back a i) Trees.absent_arg
      (args_back o i) (optionals_back d i) (as_optional_arg (arg_back k i)) (exprs_back f i))
  arguments_back (Trees.arguments p a (Trees.present_arg v) o d Trees.absent_arg f) = λ i. Some_arguments (Trees.arguments (args_back p i)
      (args_back a i) (as_optional_arg (arg_back v i))
      (args_back o i) (optionals_back d i) Trees.absent_arg (exprs_back f i))
  arguments_back (Trees.arguments p a (Trees.present_arg v) o d (Trees.present_arg k) f) = λ i. Some_arguments (Trees.arguments (args_back
      p i) (args_back a i) (as_optional_arg (arg_back v i))
      (args_back o i) (optionals_back d i) (as_optional_arg (arg_back k i)) (exprs_back f i))

list_back : (es : List Trees.Expr) → expr_list (exprs es) ≡ es
list_back [] = refl
list_back (e ∷ es) = λ i. e ∷ list_back es i

row_back : (es : List Trees.Expr) → expr_list (exprs_of (of_things (expr_things (exprs es)))) ≡ es
row_back es = ap expr_list (exprs_back (exprs es)) ∙ list_back es

alias_held : (name : Identifier) (asname : Option Identifier) →
    of_thing (alias_thing (record { name = name; asname = asname })) ≡ An_alias (record { name = name; asname = asname })
alias_held name None = refl
alias_held name (Some other) = refl

aliases_back : (names : List Trees.Alias) → aliases_of (of_things (alias_things names)) ≡ names
aliases_back [] = refl
aliases_back (a ∷ names) = λ i. as_alias (alias_held a.name a.asname i) ∷ aliases_back names i

item_held : (e : Trees.Expr) (vars : Option Trees.Expr) → of_thing (item_thing (record { context_expr = e; optional_vars = vars })) ≡
    An_item (record { context_expr = e; optional_vars = vars })
item_held e None = λ i. An_item (record { context_expr = as_expr (expr_back e i); optional_vars = None })
item_held e (Some vars) = λ i. An_item (record { context_expr = as_expr (expr_back e i); optional_vars = as_option (expr_back vars i) })

items_back : (items : List Trees.Item) → items_of (of_things (item_things items)) ≡ items
items_back [] = refl
items_back (item ∷ items) = λ i. as_item (item_held item.context_expr item.optional_vars i) ∷ items_back items i

type_param_back : (p : Trees.TypeParam) → of_thing (type_param_thing p) ≡ A_type_param p
type_param_back (Trees.TypeVar name None) = refl
type_param_back (Trees.TypeVar name (Some bound)) = λ i. A_type_param (Trees.TypeVar name (as_option (expr_back bound i)))
type_param_back (Trees.ParamSpec name) = refl
type_param_back (Trees.TypeVarTuple name) = refl

type_params_back : (all : List Trees.TypeParam) → type_params_of (of_things (type_param_things all)) ≡ all
type_params_back [] = refl
type_params_back (p ∷ all) = λ i. as_type_param (type_param_back p i) ∷ type_params_back all i

mutual
  pattern_back : (p : Trees.Pattern) → of_thing (pattern_thing p) ≡ A_pattern p
  pattern_back (Trees.MatchValue value) = λ i. A_pattern (Trees.MatchValue (as_expr (expr_back value i)))
  pattern_back (Trees.MatchSingleton value) = refl
  pattern_back (Trees.MatchSequence patterns) = λ i. A_pattern (Trees.MatchSequence (patterns_back patterns i))
  pattern_back (Trees.MatchMapping keys patterns None) = λ i. A_pattern (Trees.MatchMapping (row_back keys i) (patterns_back patterns i)
      None)
  pattern_back (Trees.MatchMapping keys patterns (Some rest)) = λ i. A_pattern (Trees.MatchMapping (row_back keys i) (patterns_back
      patterns i) (Some rest))
  pattern_back (Trees.MatchClass cls patterns kwd_attrs kwd_patterns) = λ i. A_pattern (Trees.MatchClass (as_expr (expr_back cls i))
      (patterns_back patterns i) (names_back kwd_attrs i) (patterns_back kwd_patterns i))
  pattern_back (Trees.MatchStar None) = refl
  pattern_back (Trees.MatchStar (Some name)) = refl
  pattern_back (Trees.MatchAs Trees.absent_pattern None) = refl
  pattern_back (Trees.MatchAs Trees.absent_pattern (Some name)) = refl
  pattern_back (Trees.MatchAs (Trees.present_pattern pattern) None) = λ i. A_pattern (Trees.MatchAs (as_optional_pattern (pattern_back
      pattern i)) None)
  pattern_back (Trees.MatchAs (Trees.present_pattern pattern) (Some name)) = λ i. A_pattern (Trees.MatchAs (as_optional_pattern
      (pattern_back pattern i)) (Some name))
  pattern_back (Trees.MatchOr patterns) = λ i. A_pattern (Trees.MatchOr (patterns_back patterns i))

  patterns_back : (ps : Trees.Patterns) → patterns_of (of_things (pattern_things ps)) ≡ ps
  patterns_back Trees.no_pattern = refl
  patterns_back (Trees.a_pattern p ps) = λ i. Trees.a_pattern (as_pattern (pattern_back p i)) (patterns_back ps i)

mutual
  stmt_back : (s : Trees.Stmt) → of_thing (stmt_thing Py312 s) ≡ A_stmt s
  stmt_back (Trees.FunctionDef name args body decorator_list None type_params) = λ i. A_stmt (Trees.FunctionDef name (as_arguments
      (arguments_back args i)) (stmts_back body i) (row_back decorator_list i) None (type_params_back type_params i))
  stmt_back (Trees.FunctionDef name args body decorator_list (Some returns) type_params) = λ i. A_stmt (Trees.FunctionDef name
      (as_arguments (arguments_back args i)) (stmts_back body i) (row_back decorator_list i) (as_option (expr_back returns i))
      (type_params_back type_params i))
  stmt_back (Trees.AsyncFunctionDef name args body decorator_list None type_params) = λ i. A_stmt (Trees.AsyncFunctionDef name
      (as_arguments (arguments_back args i)) (stmts_back body i) (row_back decorator_list i) None (type_params_back type_params i))
  stmt_back (Trees.AsyncFunctionDef name args body decorator_list (Some returns) type_params) = λ i. A_stmt (Trees.AsyncFunctionDef name
      (as_arguments (arguments_back args i)) (stmts_back body i) (row_back decorator_list i) (as_option (expr_back returns i))
      (type_params_back type_params i))
  stmt_back (Trees.ClassDef name bases keywords body decorator_list type_params) = λ i. A_stmt (Trees.ClassDef name (row_back bases i)
      (keywords_back keywords i) (stmts_back body i) (row_back decorator_list i) (type_params_back type_params i))
  stmt_back (Trees.Return None) = refl
  stmt_back (Trees.Return (Some value)) = λ i. A_stmt (Trees.Return (as_option (expr_back value i)))
  stmt_back (Trees.Delete targets) = λ i. A_stmt (Trees.Delete (row_back targets i))
  stmt_back (Trees.Assign targets value) = λ i. A_stmt (Trees.Assign (row_back targets i) (as_expr (expr_back value i)))
  stmt_back (Trees.TypeAlias name type_params value) = λ i. A_stmt (Trees.TypeAlias (as_expr (expr_back name i)) (type_params_back
      type_params i) (as_expr (expr_back value i)))
  stmt_back (Trees.AugAssign target op value) = λ i. A_stmt (Trees.AugAssign (as_expr (expr_back target i)) op (as_expr (expr_back value
      i)))
  stmt_back (Trees.AnnAssign target annotation None simple) = λ i. A_stmt (Trees.AnnAssign (as_expr (expr_back target i)) (as_expr
      (expr_back annotation i)) None simple)
  stmt_back (Trees.AnnAssign target annotation (Some value) simple) = λ i. A_stmt (Trees.AnnAssign (as_expr (expr_back target i)) (as_expr
      (expr_back annotation i)) (as_option (expr_back value i)) simple)
  stmt_back (Trees.For target iter body orelse) = λ i. A_stmt (Trees.For (as_expr (expr_back target i)) (as_expr (expr_back iter i))
      (stmts_back body i) (stmts_back orelse i))
  stmt_back (Trees.AsyncFor target iter body orelse) = λ i. A_stmt (Trees.AsyncFor (as_expr (expr_back target i)) (as_expr (expr_back iter
      i)) (stmts_back body i) (stmts_back orelse i))
  stmt_back (Trees.While test body orelse) = λ i. A_stmt (Trees.While (as_expr (expr_back test i)) (stmts_back body i) (stmts_back orelse
      i))
  stmt_back (Trees.If test body orelse) = λ i. A_stmt (Trees.If (as_expr (expr_back test i)) (stmts_back body i) (stmts_back orelse i))
  stmt_back (Trees.With items body) = λ i. A_stmt (Trees.With (items_back items i) (stmts_back body i))
  stmt_back (Trees.AsyncWith items body) = λ i. A_stmt (Trees.AsyncWith (items_back items i) (stmts_back body i))
  stmt_back (Trees.Match subject cases) = λ i. A_stmt (Trees.Match (as_expr (expr_back subject i)) (cases_back cases i))
  stmt_back (Trees.Raise None None) = refl
  stmt_back (Trees.Raise None (Some cause)) = λ i. A_stmt (Trees.Raise None (as_option (expr_back cause i)))
  stmt_back (Trees.Raise (Some exc) None) = λ i. A_stmt (Trees.Raise (as_option (expr_back exc i)) None)
  stmt_back (Trees.Raise (Some exc) (Some cause)) = λ i. A_stmt (Trees.Raise (as_option (expr_back exc i)) (as_option (expr_back cause
      i)))
  stmt_back (Trees.Try body handlers orelse finalbody) = λ i. A_stmt (Trees.Try (stmts_back body i) (handlers_back handlers i) (stmts_back
      orelse i) (stmts_back finalbody i))
  stmt_back (Trees.TryStar body handlers orelse finalbody) = λ i. A_stmt (Trees.TryStar (stmts_back body i) (handlers_back handlers i)
      (stmts_back orelse i) (stmts_back finalbody i))
  stmt_back (Trees.Assert test None) = λ i. A_stmt (Trees.Assert (as_expr (expr_back test i)) None)
  stmt_back (Trees.Assert test (Some msg)) = λ i. A_stmt (Trees.Assert (as_expr (expr_back test i)) (as_option (expr_back msg i)))
  stmt_back (Trees.Import names) = λ i. A_stmt (Trees.Import (aliases_back names i))
  stmt_back (Trees.ImportFrom None names level) = λ i. A_stmt (Trees.ImportFrom None (aliases_back names i) level)
  stmt_back (Trees.ImportFrom (Some source) names level) = λ i. A_stmt (Trees.ImportFrom (Some source) (aliases_back names i) level)
  stmt_back (Trees.Global names) = λ i. A_stmt (Trees.Global (names_back names i))
  stmt_back (Trees.Nonlocal names) = λ i. A_stmt (Trees.Nonlocal (names_back names i))
  stmt_back (Trees.ExprOf value) = λ i. A_stmt (Trees.ExprOf (as_expr (expr_back value i)))
  stmt_back Trees.Pass = refl
  stmt_back Trees.Break = refl
  stmt_back Trees.Continue = refl

  stmts_back : (ss : Trees.Stmts) → stmts_of (of_things (stmt_things Py312 ss)) ≡ ss
  stmts_back Trees.no_stmt = refl
  stmts_back (Trees.a_stmt s ss) = λ i. Trees.a_stmt (as_stmt (stmt_back s i)) (stmts_back ss i)

  cases_back : (cs : Trees.Cases) → cases_of (of_things (case_things Py312 cs)) ≡ cs
  cases_back Trees.no_case = refl
  cases_back (Trees.a_case pattern None body cs) = λ i. Trees.a_case (as_pattern (pattern_back pattern i)) None (stmts_back body i)
      (cases_back cs i)
  cases_back (Trees.a_case pattern (Some guard) body cs) = λ i. Trees.a_case (as_pattern (pattern_back pattern i))
      (as_option (expr_back guard i)) (stmts_back body i) (cases_back cs i)

  handlers_back : (hs : Trees.Handlers) → handlers_of (of_things (handler_things Py312 hs)) ≡ hs
  handlers_back Trees.no_handler = refl
  handlers_back (Trees.a_handler None None body hs) = λ i. Trees.a_handler None None (stmts_back body i) (handlers_back hs i)
  handlers_back (Trees.a_handler None (Some name) body hs) = λ i. Trees.a_handler None (Some name) (stmts_back body i) (handlers_back hs
      i)
  handlers_back (Trees.a_handler (Some caught) None body hs) = λ i. Trees.a_handler (as_option (expr_back caught i)) None
      (stmts_back body i) (handlers_back hs i)
  handlers_back (Trees.a_handler (Some caught) (Some name) body hs) = λ i. Trees.a_handler (as_option (expr_back caught i)) (Some name)
      (stmts_back body i) (handlers_back hs i)

stmt_list_back : (ss : List Trees.Stmt) → stmt_list (stmts ss) ≡ ss
stmt_list_back [] = refl
stmt_list_back (s ∷ ss) = λ i. s ∷ stmt_list_back ss i

abbrev as_module : Any → List Trees.Stmt
as_module (A_module body) = stmt_list body
as_module _ = []

module_back : (body : List Trees.Stmt) → as_module (of_thing (module_thing Py312 (record { body = body }))) ≡ body
module_back body = ap stmt_list (stmts_back (stmts body)) ∙ stmt_list_back body

-- two modules with the same things are one module
pub module_is : (a b : Trees.Module) → module_thing Py312 a ≡ module_thing Py312 b → a ≡ b
module_is a b e =
    let f : a.body ≡ b.body = sym (module_back a.body) ∙ ap (λ x. as_module (of_thing x)) e ∙ module_back b.body in
    λ i. record { body = f i }
