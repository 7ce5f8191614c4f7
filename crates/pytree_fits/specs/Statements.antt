-- Which statements and modules the grammar gives in a version of Python to some lines, with no regard to heights (reference 7 and 8).
-- Each function takes the tests, or that of names alone, and the version if it depends on that.
use Rattle.std.specs.Prelude.{ℕ, ◌==◌, nat_lt, Bool, true, false, ◌&&◌, ◌||◌, not, List, [], ◌∷◌, Option, Some, None, is_none}
use Rattle.std.specs.List.{list_all}
use Rattle.pytree_node.specs.declared.operators.Context.TheVariants.{Store, Del}
use Rattle.pytree_node.specs.declared.profiles.Profile.{Profile}
use Rattle.pytree_node.specs.Trees
use Rattle.pytree_node.specs.Trees.{Identifier, Expr, exprs, optional, Stmt, Stmts, no_stmt, a_stmt, stmts, Cases, no_case, a_case}
use Rattle.pytree_node.specs.Trees.{Handlers, no_handler, a_handler, handlers, Alias, Item, TypeParam, TryFields, Module}
use Rattle.pygrammar.specs.declared.levels.Level.TheVariants.{Value, Stars, Expression, Elem}
use Rattle.pygrammar.specs.declared.pattern_levels.PatternLevel.TheVariants.{AsPattern}
use Rattle.pygrammar.specs.Forms.{is_whole}
use Rattle.pygrammar.specs.Lines.{no_types}
use Rattle.pygrammar.specs.DottedNames.{names_in}
use Rattle.pytree_node.specs.Profiles.{has_types}
use Rattle.pytree_fits.specs.Tests.{Tests}
use Rattle.pytree_fits.specs.PatternSlots.{pattern_fits_at}
use Rattle.pytree_fits.specs.Slots.{is_a_name, is_single, perhaps_name, fits_at, fits_target, each_target_fits, each_fits, perhaps_fits}
use Rattle.pytree_fits.specs.Slots.{each_keyword_fits, fits_arguments}

abbrev pub has_one : {A : Type 0} → List A → Bool
has_one [] = false
has_one (a ∷ rest) = true

abbrev pub has_stmt : Stmts → Bool
has_stmt no_stmt = false
has_stmt (a_stmt s ss) = true

abbrev pub has_case : Cases → Bool
has_case no_case = false
has_case (a_case pattern guard body cs) = true

-- ---- Names.

-- the name of a module: names with dots between them
abbrev pub dotted : (Identifier → Bool) → Identifier → Bool
dotted n x = list_all n (names_in x)

-- what `import` imports
abbrev pub import_fits : (Identifier → Bool) → Alias → Bool
import_fits n a = dotted n a.name && perhaps_name n a.asname

-- one of the names that are imported from a module
abbrev pub alias_fits : (Identifier → Bool) → Alias → Bool
alias_fits n a = n a.name && perhaps_name n a.asname

-- the name `*`
abbrev pub is_star : Identifier → Bool
is_star (c ∷ []) = c == 42
is_star _ = false

abbrev pub is_all : List Alias → Bool
is_all (a ∷ []) = is_star a.name && is_none a.asname
is_all _ = false

-- what is imported from a module: names, or all of them
abbrev pub imports_fit : (Identifier → Bool) → List Alias → Bool
imports_fit n names = is_all names || (has_one names && list_all (alias_fits n) names)

-- the module that names are imported from; without one a dot is needed
abbrev pub source_fits : (Identifier → Bool) → Option Identifier → (level : ℕ) → Bool
source_fits n None level = nat_lt 0 level
source_fits n (Some m) level = dotted n m

-- ---- Parts.

abbrev pub perhaps_target_fits : Tests → Option Expr → Bool
perhaps_target_fits n None = true
perhaps_target_fits n (Some e) = fits_target n Store e

-- what `with` opens, and the target of that
abbrev pub item_fits : Tests → Item → Bool
item_fits n i = fits_at n Expression i.context_expr && perhaps_target_fits n i.optional_vars

abbrev pub type_param_fits : Tests → TypeParam → Bool
type_param_fits n (Trees.TypeVar name bound) = n.name name && perhaps_fits n Expression (optional bound)
type_param_fits n (Trees.ParamSpec name) = n.name name
type_param_fits n (Trees.TypeVarTuple name) = n.name name

-- parameters of types, in a version that has these
abbrev pub types_fit : Profile → Tests → List TypeParam → Bool
types_fit profile n ps = (no_types ps || has_types profile) && list_all (type_param_fits n) ps

-- what `raise` raises, and from what
abbrev pub raised_fits : Tests → Option Expr → Option Expr → Bool
raised_fits n exc None = perhaps_fits n Expression (optional exc)
raised_fits n None (Some cause) = false
raised_fits n (Some exc) (Some cause) = fits_at n Expression exc && fits_at n Expression cause

-- what an `except` catches, and its name there; only one without a star catches all
abbrev pub caught_fits : Tests → (star : Bool) → Option Expr → Option Identifier → Bool
caught_fits n star None name = not star && is_none name
caught_fits n star (Some class) name = fits_at n Expression class && perhaps_name n.name name

-- without an `except` there is no `else`, but a `finally`, and no star
abbrev pub clauses_fit : (star : Bool) → Handlers → (orelse finalbody : Stmts) → Bool
clauses_fit star no_handler orelse finalbody = not star && not (has_stmt orelse) && has_stmt finalbody
clauses_fit star (a_handler class name body hs) orelse finalbody = true

-- ---- Statements.

abbrev mutual
  pub statement_fits : Profile → Tests → Stmt → Bool
  statement_fits p n (Trees.FunctionDef name args body decorators returns parameters) =
      n.name name && fits_arguments n true args && each_fits n Expression (exprs decorators) && perhaps_fits n Expression (optional returns)
      && types_fit p n parameters && suite_fits p n body
  statement_fits p n (Trees.AsyncFunctionDef name args body decorators returns parameters) =
      n.name name && fits_arguments n true args && each_fits n Expression (exprs decorators) && perhaps_fits n Expression (optional returns)
      && types_fit p n parameters && suite_fits p n body
  statement_fits p n (Trees.ClassDef name bases keywords body decorators parameters) =
      n.name name && each_fits n Elem (exprs bases) && each_keyword_fits n keywords && each_fits n Expression (exprs decorators)
      && types_fit p n parameters && suite_fits p n body
  statement_fits p n (Trees.Return value) = perhaps_fits n Stars (optional value)
  statement_fits p n (Trees.Delete targets) = has_one targets && each_target_fits n Del (exprs targets)
  statement_fits p n (Trees.Assign targets value) = has_one targets && each_target_fits n Store (exprs targets) && fits_at n Value value
  statement_fits p n (Trees.TypeAlias name parameters value) =
      has_types p && is_a_name name && fits_target n Store name && list_all (type_param_fits n) parameters && fits_at n Expression value
  statement_fits p n (Trees.AugAssign target op value) = is_single target && fits_target n Store target && fits_at n Value value
  statement_fits p n (Trees.AnnAssign target annotation value simple) =
      is_single target && (not simple || is_a_name target) && fits_target n Store target && fits_at n Expression annotation
      && perhaps_fits n Value (optional value)
  statement_fits p n (Trees.For target iter body orelse) =
      fits_target n Store target && fits_at n Stars iter && suite_fits p n body && statements_fit p n orelse
  statement_fits p n (Trees.AsyncFor target iter body orelse) =
      fits_target n Store target && fits_at n Stars iter && suite_fits p n body && statements_fit p n orelse
  statement_fits p n (Trees.While test body orelse) = fits_at n Expression test && suite_fits p n body && statements_fit p n orelse
  statement_fits p n (Trees.If test body orelse) = fits_at n Expression test && suite_fits p n body && statements_fit p n orelse
  statement_fits p n (Trees.With items body) = has_one items && list_all (item_fits n) items && suite_fits p n body
  statement_fits p n (Trees.AsyncWith items body) = has_one items && list_all (item_fits n) items && suite_fits p n body
  statement_fits p n (Trees.Match subject cases) = is_whole p.extent && has_case cases && fits_at n Expression
      subject && cases_fit p n cases
  statement_fits p n (Trees.Raise exc cause) = raised_fits n exc cause
  statement_fits p n (Trees.Try body handlers orelse finalbody) =
      clauses_fit false handlers orelse finalbody && suite_fits p n body && handlers_fit p n false handlers
      && statements_fit p n orelse && statements_fit p n finalbody
  statement_fits p n (Trees.TryStar body handlers orelse finalbody) =
      clauses_fit true handlers orelse finalbody && suite_fits p n body && handlers_fit p n true handlers
      && statements_fit p n orelse && statements_fit p n finalbody
  statement_fits p n (Trees.Assert test msg) = fits_at n Expression test && perhaps_fits n Expression (optional msg)
  statement_fits p n (Trees.Import names) = has_one names && list_all (import_fits n.name) names
  statement_fits p n (Trees.ImportFrom source names level) = source_fits n.name source level && imports_fit n.name names
  statement_fits p n (Trees.Global names) = has_one names && list_all n.name names
  statement_fits p n (Trees.Nonlocal names) = has_one names && list_all n.name names
  statement_fits p n (Trees.ExprOf value) = fits_at n Value value
  statement_fits p n Trees.Pass = true
  statement_fits p n Trees.Break = true
  statement_fits p n Trees.Continue = true

  pub statements_fit : Profile → Tests → Stmts → Bool
  statements_fit p n no_stmt = true
  statements_fit p n (a_stmt s ss) = statement_fits p n s && statements_fit p n ss

  -- the block of a header: there is a statement
  pub suite_fits : Profile → Tests → Stmts → Bool
  suite_fits p n no_stmt = false
  suite_fits p n (a_stmt s ss) = statement_fits p n s && statements_fit p n ss

  pub cases_fit : Profile → Tests → Cases → Bool
  cases_fit p n no_case = true
  cases_fit p n (a_case pattern guard body cs) =
      pattern_fits_at n AsPattern pattern && perhaps_fits n Expression (optional guard) && suite_fits p n body && cases_fit p n cs

  pub handlers_fit : Profile → Tests → (star : Bool) → Handlers → Bool
  handlers_fit p n star no_handler = true
  handlers_fit p n star (a_handler class name body hs) =
      caught_fits n star class name && suite_fits p n body && handlers_fit p n star hs

-- a `try` by its fields, with `except*` or with `except`
abbrev pub try_fits : Profile → Tests → (star : Bool) → TryFields → Bool
try_fits p n star f = clauses_fit star (handlers f.handlers) (stmts f.orelse) (stmts f.finalbody) && suite_fits p n (stmts f.body)
    && handlers_fit p n star (handlers f.handlers) && statements_fit p n (stmts f.orelse) && statements_fit p n (stmts f.finalbody)

-- the statements of a module
abbrev pub module_fits : Profile → Tests → Module → Bool
module_fits p n m = statements_fit p n (stmts m.body)
