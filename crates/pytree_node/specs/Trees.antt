-- Trees as values, with no addresses: the classes of Python's module `ast`, in its own names and order of fields.
--
-- Above each class stands its line of the abstract grammar of Python 3.11: `*` is a list, `?` what may be None. `type_params`, and the
-- classes
-- TypeAlias, TypeVar, ParamSpec and TypeVarTuple, are of Python 3.12. Left out are `type_comment`, which is None without comments on types,
-- and
-- `type_ignores`, which is empty. `int simple` and `int is_async` are 0 or 1, so truth values here.
--
-- The classes List and Expr (of a statement) are ListOf and ExprOf here. The lists and the options of nodes within a node are data of
-- their own, since antt's data can't be nested in std's lists; outside of the nodes all speaks of std's lists and options, and
-- `exprs`, `optional` and the like lead from these to those.
use Rattle.std.specs.Prelude.{ℕ, Bool, List, [], ◌∷◌, Option, Some, None}
use Rattle.pyfstring.specs.declared.parts.Conversion.{Conversion}
use Rattle.pytree_node.specs.declared.operators.Operator.{Operator}
use Rattle.pytree_node.specs.declared.operators.UnaryOperator.{UnaryOperator}
use Rattle.pytree_node.specs.declared.operators.BoolOperator.{BoolOperator}
use Rattle.pytree_node.specs.declared.operators.Comparison.{Comparison}
use Rattle.pytree_node.specs.declared.operators.Context.{Context}
use Rattle.pytree_node.specs.Values.{Value}

-- an identifier is the list of its characters, as Python's texts are
abbrev pub Identifier : Type 0
Identifier = List ℕ

mutual
  pub data Expr : Type 0 where
    -- BoolOp(boolop op, expr* values)
    BoolOp : BoolOperator → Exprs → Expr
    -- NamedExpr(expr target, expr value)
    NamedExpr : Expr → Expr → Expr
    -- BinOp(expr left, operator op, expr right)
    BinOp : Expr → Operator → Expr → Expr
    -- UnaryOp(unaryop op, expr operand)
    UnaryOp : UnaryOperator → Expr → Expr
    -- Lambda(arguments args, expr body)
    Lambda : Arguments → Expr → Expr
    -- IfExp(expr test, expr body, expr orelse)
    IfExp : Expr → Expr → Expr → Expr
    -- Dict(expr* keys, expr* values); the key of a `**` is None
    Dict : OptionalExprs → Exprs → Expr
    -- Set(expr* elts)
    Set : Exprs → Expr
    -- ListComp(expr elt, comprehension* generators)
    ListComp : Expr → Comprehensions → Expr
    -- SetComp(expr elt, comprehension* generators)
    SetComp : Expr → Comprehensions → Expr
    -- DictComp(expr key, expr value, comprehension* generators)
    DictComp : Expr → Expr → Comprehensions → Expr
    -- GeneratorExp(expr elt, comprehension* generators)
    GeneratorExp : Expr → Comprehensions → Expr
    -- Await(expr value)
    Await : Expr → Expr
    -- Yield(expr? value)
    Yield : OptionalExpr → Expr
    -- YieldFrom(expr value)
    YieldFrom : Expr → Expr
    -- Compare(expr left, cmpop* ops, expr* comparators)
    Compare : Expr → List Comparison → Exprs → Expr
    -- Call(expr func, expr* args, keyword* keywords)
    Call : Expr → Exprs → Keywords → Expr
    -- FormattedValue(expr value, int conversion, expr? format_spec)
    FormattedValue : Expr → Conversion → OptionalExpr → Expr
    -- JoinedStr(expr* values)
    JoinedStr : Exprs → Expr
    -- Constant(constant value, string? kind)
    Constant : Value → Expr
    -- Attribute(expr value, identifier attr, expr_context ctx)
    Attribute : Expr → Identifier → Context → Expr
    -- Subscript(expr value, expr slice, expr_context ctx)
    Subscript : Expr → Expr → Context → Expr
    -- Starred(expr value, expr_context ctx)
    Starred : Expr → Context → Expr
    -- Name(identifier id, expr_context ctx)
    Name : Identifier → Context → Expr
    -- List(expr* elts, expr_context ctx)
    ListOf : Exprs → Context → Expr  -- the class List
    -- Tuple(expr* elts, expr_context ctx)
    Tuple : Exprs → Context → Expr
    -- Slice(expr? lower, expr? upper, expr? step)
    Slice : OptionalExpr → OptionalExpr → OptionalExpr → Expr

  pub data Exprs : Type 0 where
    no_exprs : Exprs
    an_expr : Expr → Exprs → Exprs

  pub data OptionalExpr : Type 0 where
    absent : OptionalExpr
    present : Expr → OptionalExpr

  pub data OptionalExprs : Type 0 where
    no_optional : OptionalExprs
    an_optional : OptionalExpr → OptionalExprs → OptionalExprs

  pub data Comprehensions : Type 0 where
    no_comprehension : Comprehensions
    -- comprehension(expr target, expr iter, expr* ifs, int is_async)
    a_comprehension : Expr → Expr → Exprs → Bool → Comprehensions → Comprehensions

  pub data Keywords : Type 0 where
    no_keyword : Keywords
    -- keyword(identifier? arg, expr value); the name of a `**` is None
    a_keyword : Option Identifier → Expr → Keywords → Keywords

  pub data Arg : Type 0 where
    -- arg(identifier arg, expr? annotation, string? type_comment)
    arg : Identifier → OptionalExpr → Arg

  pub data Args : Type 0 where
    no_arg : Args
    an_arg : Arg → Args → Args

  pub data OptionalArg : Type 0 where
    absent_arg : OptionalArg
    present_arg : Arg → OptionalArg

  pub data Arguments : Type 0 where
    -- arguments(arg* posonlyargs, arg* args, arg? vararg, arg* kwonlyargs, expr* kw_defaults, arg? kwarg, expr* defaults)
    arguments : Args → Args → OptionalArg → Args → OptionalExprs → OptionalArg → Exprs → Arguments

-- the list of the nodes of a list, and the like
abbrev pub exprs : List Expr → Exprs
exprs [] = no_exprs
exprs (e ∷ es) = an_expr e (exprs es)

abbrev pub optional : Option Expr → OptionalExpr
optional None = absent
optional (Some e) = present e

abbrev pub optionals : List (Option Expr) → OptionalExprs
optionals [] = no_optional
optionals (e ∷ es) = an_optional (optional e) (optionals es)

abbrev pub args : List Arg → Args
args [] = no_arg
args (a ∷ rest) = an_arg a (args rest)

abbrev pub optional_arg : Option Arg → OptionalArg
optional_arg None = absent_arg
optional_arg (Some a) = present_arg a

-- a `for` clause of a comprehension
pub record Comprehension : Type 0 where
  pub target : Expr
  pub iter : Expr
  pub ifs : List Expr
  pub is_async : Bool

abbrev pub comprehensions : List Comprehension → Comprehensions
comprehensions [] = no_comprehension
comprehensions (c ∷ cs) = a_comprehension c.target c.iter (exprs c.ifs) c.is_async (comprehensions cs)

-- an argument by name, or one of `**`
pub record Keyword : Type 0 where
  pub arg : Option Identifier
  pub value : Expr

abbrev pub keywords : List Keyword → Keywords
keywords [] = no_keyword
keywords (k ∷ ks) = a_keyword k.arg k.value (keywords ks)

-- one name of an import: alias(identifier name, identifier? asname)
pub record Alias : Type 0 where
  pub name : Identifier
  pub asname : Option Identifier

-- one item of a `with`: withitem(expr context_expr, expr? optional_vars)
pub record Item : Type 0 where
  pub context_expr : Expr
  pub optional_vars : Option Expr

-- a parameter of a type: type_param
pub data TypeParam : Type 0 where
  -- TypeVar(identifier name, expr? bound)
  TypeVar : Identifier → Option Expr → TypeParam
  -- ParamSpec(identifier name)
  ParamSpec : Identifier → TypeParam
  -- TypeVarTuple(identifier name)
  TypeVarTuple : Identifier → TypeParam

mutual
  -- a pattern of a `match` statement: pattern
  pub data Pattern : Type 0 where
    -- MatchValue(expr value)
    MatchValue : Expr → Pattern
    -- MatchSingleton(constant value)
    MatchSingleton : Value → Pattern
    -- MatchSequence(pattern* patterns)
    MatchSequence : Patterns → Pattern
    -- MatchMapping(expr* keys, pattern* patterns, identifier? rest)
    MatchMapping : List Expr → Patterns → Option Identifier → Pattern
    -- MatchClass(expr cls, pattern* patterns, identifier* kwd_attrs, pattern* kwd_patterns)
    MatchClass : Expr → Patterns → List Identifier → Patterns → Pattern
    -- MatchStar(identifier? name)
    MatchStar : Option Identifier → Pattern
    -- MatchAs(pattern? pattern, identifier? name)
    MatchAs : OptionalPattern → Option Identifier → Pattern
    -- MatchOr(pattern* patterns)
    MatchOr : Patterns → Pattern

  pub data Patterns : Type 0 where
    no_pattern : Patterns
    a_pattern : Pattern → Patterns → Patterns

  pub data OptionalPattern : Type 0 where
    absent_pattern : OptionalPattern
    present_pattern : Pattern → OptionalPattern

abbrev pub patterns : List Pattern → Patterns
patterns [] = no_pattern
patterns (p ∷ ps) = a_pattern p (patterns ps)

abbrev pub optional_pattern : Option Pattern → OptionalPattern
optional_pattern None = absent_pattern
optional_pattern (Some p) = present_pattern p

mutual
  pub data Stmt : Type 0 where
    -- FunctionDef(identifier name, arguments args, stmt* body, expr* decorator_list, expr? returns, string? type_comment, type_param*
    -- type_params)
    FunctionDef : Identifier → Arguments → Stmts → List Expr → Option Expr → List TypeParam → Stmt
    -- AsyncFunctionDef(identifier name, arguments args, stmt* body, expr* decorator_list, expr? returns, string? type_comment, type_param*
    -- type_params)
    AsyncFunctionDef : Identifier → Arguments → Stmts → List Expr → Option Expr → List TypeParam → Stmt
    -- ClassDef(identifier name, expr* bases, keyword* keywords, stmt* body, expr* decorator_list, type_param* type_params)
    ClassDef : Identifier → List Expr → Keywords → Stmts → List Expr → List TypeParam → Stmt
    -- Return(expr? value)
    Return : Option Expr → Stmt
    -- Delete(expr* targets)
    Delete : List Expr → Stmt
    -- Assign(expr* targets, expr value, string? type_comment)
    Assign : List Expr → Expr → Stmt
    -- TypeAlias(expr name, type_param* type_params, expr value)
    TypeAlias : Expr → List TypeParam → Expr → Stmt
    -- AugAssign(expr target, operator op, expr value)
    AugAssign : Expr → Operator → Expr → Stmt
    -- AnnAssign(expr target, expr annotation, expr? value, int simple)
    AnnAssign : Expr → Expr → Option Expr → Bool → Stmt
    -- For(expr target, expr iter, stmt* body, stmt* orelse, string? type_comment)
    For : Expr → Expr → Stmts → Stmts → Stmt
    -- AsyncFor(expr target, expr iter, stmt* body, stmt* orelse, string? type_comment)
    AsyncFor : Expr → Expr → Stmts → Stmts → Stmt
    -- While(expr test, stmt* body, stmt* orelse)
    While : Expr → Stmts → Stmts → Stmt
    -- If(expr test, stmt* body, stmt* orelse)
    If : Expr → Stmts → Stmts → Stmt
    -- With(withitem* items, stmt* body, string? type_comment)
    With : List Item → Stmts → Stmt
    -- AsyncWith(withitem* items, stmt* body, string? type_comment)
    AsyncWith : List Item → Stmts → Stmt
    -- Match(expr subject, match_case* cases)
    Match : Expr → Cases → Stmt
    -- Raise(expr? exc, expr? cause)
    Raise : Option Expr → Option Expr → Stmt
    -- Try(stmt* body, excepthandler* handlers, stmt* orelse, stmt* finalbody)
    Try : Stmts → Handlers → Stmts → Stmts → Stmt
    -- TryStar(stmt* body, excepthandler* handlers, stmt* orelse, stmt* finalbody)
    TryStar : Stmts → Handlers → Stmts → Stmts → Stmt
    -- Assert(expr test, expr? msg)
    Assert : Expr → Option Expr → Stmt
    -- Import(alias* names)
    Import : List Alias → Stmt
    -- ImportFrom(identifier? module, alias* names, int? level)
    ImportFrom : Option Identifier → List Alias → ℕ → Stmt
    -- Global(identifier* names)
    Global : List Identifier → Stmt
    -- Nonlocal(identifier* names)
    Nonlocal : List Identifier → Stmt
    -- Expr(expr value)
    ExprOf : Expr → Stmt  -- the class Expr
    -- Pass
    Pass : Stmt
    -- Break
    Break : Stmt
    -- Continue
    Continue : Stmt

  pub data Stmts : Type 0 where
    no_stmt : Stmts
    a_stmt : Stmt → Stmts → Stmts

  pub data Cases : Type 0 where
    no_case : Cases
    -- match_case(pattern pattern, expr? guard, stmt* body)
    a_case : Pattern → Option Expr → Stmts → Cases → Cases

  pub data Handlers : Type 0 where
    no_handler : Handlers
    -- ExceptHandler(expr? type, identifier? name, stmt* body)
    a_handler : Option Expr → Option Identifier → Stmts → Handlers → Handlers

abbrev pub stmts : List Stmt → Stmts
stmts [] = no_stmt
stmts (s ∷ ss) = a_stmt s (stmts ss)

-- a `case` of a `match`
pub record Case : Type 0 where
  pub pattern : Pattern
  pub guard : Option Expr
  pub body : List Stmt

abbrev pub cases : List Case → Cases
cases [] = no_case
cases (c ∷ cs) = a_case c.pattern c.guard (stmts c.body) (cases cs)

-- an `except` clause of a `try`
pub record Handler : Type 0 where
  pub class : Option Expr
  pub name : Option Identifier
  pub body : List Stmt

abbrev pub handlers : List Handler → Handlers
handlers [] = no_handler
handlers (h ∷ hs) = a_handler h.class h.name (stmts h.body) (handlers hs)

-- the fields of a FunctionDef or an AsyncFunctionDef
pub record FunctionDefFields : Type 0 where
  pub name : Identifier
  pub args : Arguments
  pub body : List Stmt
  pub decorator_list : List Expr
  pub returns : Option Expr
  pub type_params : List TypeParam

abbrev pub function_def : FunctionDefFields → Stmt
function_def f = FunctionDef f.name f.args (stmts f.body) f.decorator_list f.returns f.type_params

abbrev pub async_function_def : FunctionDefFields → Stmt
async_function_def f = AsyncFunctionDef f.name f.args (stmts f.body) f.decorator_list f.returns f.type_params

-- the fields of a Try or a TryStar
pub record TryFields : Type 0 where
  pub body : List Stmt
  pub handlers : List Handler
  pub orelse : List Stmt
  pub finalbody : List Stmt

abbrev pub try_block : TryFields → Stmt
try_block f = Try (stmts f.body) (handlers f.handlers) (stmts f.orelse) (stmts f.finalbody)

abbrev pub try_star_block : TryFields → Stmt
try_star_block f = TryStar (stmts f.body) (handlers f.handlers) (stmts f.orelse) (stmts f.finalbody)

-- a module: Module(stmt* body, type_ignore* type_ignores)
pub record Module : Type 0 where
  pub body : List Stmt
