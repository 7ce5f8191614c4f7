-- The element of a list at an index.
--
-- Carries: Row::get.
use Rattle.std.proofs.Common.{◌≡◌, ℕ, zero, suc, ◌<◌, List, [], ◌∷◌, map, length, get_or, arith, refl, ap, sym, ◌∙◌, Option, None, Some}
use Rattle.pytree_node.specs.declared.profiles.Version.{Version}
use Rattle.pytree_node.specs.declared.expressions.Expr.{Expr}
use Rattle.pytree_node.specs.declared.patterns.Pattern.{Pattern}
use Rattle.pytree_node.specs.declared.statements.Stmt.{Stmt}
use Rattle.pytree_node.specs.declared.statements.Handler.{Handler}
use Rattle.pytree_node.specs.declared.statements.Case.{Case}
use Rattle.pytree_node.specs.declared.expressions.Comprehension.{Comprehension}
use Rattle.pytree_node.specs.declared.expressions.Arg.{Arg}
use Rattle.pytree_node.specs.declared.expressions.Keyword.{Keyword}
use Rattle.pytree_node.specs.declared.statements.Alias.{Alias}
use Rattle.pytree_node.specs.declared.statements.Item.{Item}
use Rattle.pytree_node.specs.declared.statements.TypeParam.{TypeParam}
use Rattle.pytree_node.specs.declared.operators.Comparison.{Comparison}
use Rattle.pytree_node.specs.Trees.{
  Identifier,
  exprs,
  optional,
  optionals,
  patterns,
  stmts,
  handlers,
  cases,
  comprehensions,
  args,
  keywords,
}
use Rattle.pytree_node.specs.TreeOf.{tree_of, option_of, pattern_of, stmt_of, handler_of, case_of, comprehension_of, arg_of, keyword_of}
use Rattle.pytree_node.specs.TreeOf.{alias_of, item_of, type_param_of}
use Rattle.pytree_fields.specs.Leaves as leaf
use Rattle.pytree_fields.specs.Things.{Thing, Things, Leaf, no_thing, a_thing, thing_at, expr_thing, expr_things, optional_thing}
use Rattle.pytree_fields.specs.Things.{
  optional_things,
  pattern_thing,
  pattern_things,
  stmt_thing,
  stmt_things,
  handler_thing,
  handler_things,
}
use Rattle.pytree_fields.specs.Things.{case_thing, case_things, comprehension_thing, comprehension_things, arg_thing, arg_things}
use Rattle.pytree_fields.specs.Things.{keyword_thing, keyword_things, alias_thing, alias_things, item_thing, item_things, type_param_thing}
use Rattle.pytree_fields.specs.Things.{type_param_things, comparison_things, name_things}

-- the things of a list
abbrev pub listed : {A : Type 0} → (A → Thing) → List A → Things
listed f [] = no_thing
listed f (x ∷ xs) = a_thing (f x) (listed f xs)

at_listed : {A : Type 0} (f : A → Thing) (xs : List A) (i : ℕ) (x : A) → i < length xs → x ≡ get_or xs i x → Some (f x) ≡
    thing_at (listed f xs) i
at_listed f [] i x lt read = absurd (omega (arith, lt))
at_listed f (y ∷ ys) zero x lt read = ap (λ z. Some (f z)) read
at_listed f (y ∷ ys) (suc i) x lt read = let l : i < length ys = omega (arith, lt) in at_listed f ys i x l read

pub exprs_listed : (xs : List Expr) → expr_things (exprs (map tree_of xs)) ≡ listed (λ (x : Expr). expr_thing (tree_of x)) xs
exprs_listed [] = refl
exprs_listed (y ∷ ys) = ap (a_thing (expr_thing (tree_of y))) (exprs_listed ys)

pub expr_at : (xs : List Expr) (i : ℕ) (x : Expr) → i < length xs → x ≡ get_or xs i x → Some (expr_thing (tree_of x)) ≡
    thing_at (expr_things (exprs (map tree_of xs))) i
expr_at xs i x lt read = at_listed (λ (z : Expr). expr_thing (tree_of z)) xs i x lt read ∙ ap (λ z. thing_at z i) (sym (exprs_listed xs))

pub options_listed : (xs : List (Option Expr)) → optional_things (optionals (map option_of xs)) ≡ listed (λ (x : Option Expr).
    optional_thing (optional (option_of x))) xs
options_listed [] = refl
options_listed (y ∷ ys) = ap (a_thing (optional_thing (optional (option_of y)))) (options_listed ys)

pub option_at : (xs : List (Option Expr)) (i : ℕ) (x : Option Expr) → i < length xs → x ≡ get_or xs i x → Some (optional_thing (optional
    (option_of x))) ≡
    thing_at (optional_things (optionals (map option_of xs))) i
option_at xs i x lt read = at_listed (λ (z : Option Expr). optional_thing (optional (option_of z))) xs i x lt read ∙ ap (λ z. thing_at z i)
    (sym (options_listed xs))

pub patterns_listed : (xs : List Pattern) → pattern_things (patterns (map pattern_of xs)) ≡ listed (λ (x : Pattern). pattern_thing
    (pattern_of x)) xs
patterns_listed [] = refl
patterns_listed (y ∷ ys) = ap (a_thing (pattern_thing (pattern_of y))) (patterns_listed ys)

pub pattern_at : (xs : List Pattern) (i : ℕ) (x : Pattern) → i < length xs → x ≡ get_or xs i x → Some (pattern_thing (pattern_of x)) ≡
    thing_at (pattern_things (patterns (map pattern_of xs))) i
pattern_at xs i x lt read = at_listed (λ (z : Pattern). pattern_thing (pattern_of z)) xs i x lt read ∙ ap (λ z. thing_at z i) (sym
    (patterns_listed xs))

pub stmts_listed : (v : Version) (xs : List Stmt) → stmt_things v (stmts (map stmt_of xs)) ≡ listed (λ (x : Stmt). stmt_thing v (stmt_of
    x)) xs
stmts_listed v [] = refl
stmts_listed v (y ∷ ys) = ap (a_thing (stmt_thing v (stmt_of y))) (stmts_listed v ys)

pub stmt_at : (v : Version) (xs : List Stmt) (i : ℕ) (x : Stmt) → i < length xs → x ≡ get_or xs i x → Some (stmt_thing v (stmt_of x)) ≡
    thing_at (stmt_things v (stmts (map stmt_of xs))) i
stmt_at v xs i x lt read = at_listed (λ (z : Stmt). stmt_thing v (stmt_of z)) xs i x lt read ∙ ap (λ z. thing_at z i) (sym (stmts_listed v
    xs))

pub handlers_listed : (v : Version) (xs : List Handler) → handler_things v (handlers (map handler_of xs)) ≡ listed (λ (x : Handler).
    handler_thing v (handler_of x)) xs
handlers_listed v [] = refl
handlers_listed v (y ∷ ys) = ap (a_thing (handler_thing v (handler_of y))) (handlers_listed v ys)

pub handler_at : (v : Version) (xs : List Handler) (i : ℕ) (x : Handler) → i < length xs → x ≡ get_or xs i x → Some (handler_thing v
    (handler_of x)) ≡
    thing_at (handler_things v (handlers (map handler_of xs))) i
handler_at v xs i x lt read = at_listed (λ (z : Handler). handler_thing v (handler_of z)) xs i x lt read ∙ ap (λ z. thing_at z i) (sym
    (handlers_listed v xs))

pub cases_listed : (v : Version) (xs : List Case) → case_things v (cases (map case_of xs)) ≡ listed (λ (x : Case). case_thing v (case_of
    x)) xs
cases_listed v [] = refl
cases_listed v (y ∷ ys) = ap (a_thing (case_thing v (case_of y))) (cases_listed v ys)

pub case_at : (v : Version) (xs : List Case) (i : ℕ) (x : Case) → i < length xs → x ≡ get_or xs i x → Some (case_thing v (case_of x)) ≡
    thing_at (case_things v (cases (map case_of xs))) i
case_at v xs i x lt read = at_listed (λ (z : Case). case_thing v (case_of z)) xs i x lt read ∙ ap (λ z. thing_at z i) (sym (cases_listed v
    xs))

pub comprehensions_listed : (xs : List Comprehension) → comprehension_things (comprehensions (map comprehension_of xs)) ≡ listed (λ (x :
    Comprehension). comprehension_thing (comprehension_of x)) xs
comprehensions_listed [] = refl
comprehensions_listed (y ∷ ys) = ap (a_thing (comprehension_thing (comprehension_of y))) (comprehensions_listed ys)

pub comprehension_at : (xs : List Comprehension) (i : ℕ) (x : Comprehension) → i < length xs → x ≡ get_or xs i x → Some
    (comprehension_thing (comprehension_of x)) ≡
    thing_at (comprehension_things (comprehensions (map comprehension_of xs))) i
comprehension_at xs i x lt read = at_listed (λ (z : Comprehension). comprehension_thing (comprehension_of z)) xs i x lt read ∙ ap (λ z.
    thing_at z i) (sym (comprehensions_listed xs))

pub args_listed : (xs : List Arg) → arg_things (args (map arg_of xs)) ≡ listed (λ (x : Arg). arg_thing (arg_of x)) xs
args_listed [] = refl
args_listed (y ∷ ys) = ap (a_thing (arg_thing (arg_of y))) (args_listed ys)

pub arg_at : (xs : List Arg) (i : ℕ) (x : Arg) → i < length xs → x ≡ get_or xs i x → Some (arg_thing (arg_of x)) ≡
    thing_at (arg_things (args (map arg_of xs))) i
arg_at xs i x lt read = at_listed (λ (z : Arg). arg_thing (arg_of z)) xs i x lt read ∙ ap (λ z. thing_at z i) (sym (args_listed xs))

pub keywords_listed : (xs : List Keyword) → keyword_things (keywords (map keyword_of xs)) ≡ listed (λ (x : Keyword). keyword_thing
    (keyword_of x)) xs
keywords_listed [] = refl
keywords_listed (y ∷ ys) = ap (a_thing (keyword_thing (keyword_of y))) (keywords_listed ys)

pub keyword_at : (xs : List Keyword) (i : ℕ) (x : Keyword) → i < length xs → x ≡ get_or xs i x → Some (keyword_thing (keyword_of x)) ≡
    thing_at (keyword_things (keywords (map keyword_of xs))) i
keyword_at xs i x lt read = at_listed (λ (z : Keyword). keyword_thing (keyword_of z)) xs i x lt read ∙ ap (λ z. thing_at z i) (sym
    (keywords_listed xs))

pub aliases_listed : (xs : List Alias) → alias_things (map alias_of xs) ≡ listed (λ (x : Alias). alias_thing (alias_of x)) xs
aliases_listed [] = refl
aliases_listed (y ∷ ys) = ap (a_thing (alias_thing (alias_of y))) (aliases_listed ys)

pub alias_at : (xs : List Alias) (i : ℕ) (x : Alias) → i < length xs → x ≡ get_or xs i x → Some (alias_thing (alias_of x)) ≡
    thing_at (alias_things (map alias_of xs)) i
alias_at xs i x lt read = at_listed (λ (z : Alias). alias_thing (alias_of z)) xs i x lt read ∙ ap (λ z. thing_at z i) (sym (aliases_listed
    xs))

pub items_listed : (xs : List Item) → item_things (map item_of xs) ≡ listed (λ (x : Item). item_thing (item_of x)) xs
items_listed [] = refl
items_listed (y ∷ ys) = ap (a_thing (item_thing (item_of y))) (items_listed ys)

pub item_at : (xs : List Item) (i : ℕ) (x : Item) → i < length xs → x ≡ get_or xs i x → Some (item_thing (item_of x)) ≡
    thing_at (item_things (map item_of xs)) i
item_at xs i x lt read = at_listed (λ (z : Item). item_thing (item_of z)) xs i x lt read ∙ ap (λ z. thing_at z i) (sym (items_listed xs))

pub type_params_listed : (xs : List TypeParam) → type_param_things (map type_param_of xs) ≡ listed (λ (x : TypeParam). type_param_thing
    (type_param_of x)) xs
type_params_listed [] = refl
type_params_listed (y ∷ ys) = ap (a_thing (type_param_thing (type_param_of y))) (type_params_listed ys)

pub type_param_at : (xs : List TypeParam) (i : ℕ) (x : TypeParam) → i < length xs → x ≡ get_or xs i x → Some (type_param_thing
    (type_param_of x)) ≡
    thing_at (type_param_things (map type_param_of xs)) i
type_param_at xs i x lt read = at_listed (λ (z : TypeParam). type_param_thing (type_param_of z)) xs i x lt read ∙ ap (λ z. thing_at z i)
    (sym (type_params_listed xs))

pub comparisons_listed : (xs : List Comparison) → comparison_things xs ≡ listed (λ (x : Comparison). Leaf (leaf.Comparison x)) xs
comparisons_listed [] = refl
comparisons_listed (y ∷ ys) = ap (a_thing (Leaf (leaf.Comparison y))) (comparisons_listed ys)

pub comparison_at : (xs : List Comparison) (i : ℕ) (x : Comparison) → i < length xs → x ≡ get_or xs i x → Some (Leaf (leaf.Comparison x)) ≡
    thing_at (comparison_things xs) i
comparison_at xs i x lt read = at_listed (λ (z : Comparison). Leaf (leaf.Comparison z)) xs i x lt read ∙ ap (λ z. thing_at z i) (sym
    (comparisons_listed xs))

pub names_listed : (xs : List Identifier) → name_things xs ≡ listed (λ (x : Identifier). Leaf (leaf.Name x)) xs
names_listed [] = refl
names_listed (y ∷ ys) = ap (a_thing (Leaf (leaf.Name y))) (names_listed ys)

pub name_at : (xs : List Identifier) (i : ℕ) (x : Identifier) → i < length xs → x ≡ get_or xs i x → Some (Leaf (leaf.Name x)) ≡
    thing_at (name_things xs) i
name_at xs i x lt read = at_listed (λ (z : Identifier). Leaf (leaf.Name z)) xs i x lt read ∙ ap (λ z. thing_at z i) (sym (names_listed xs))

-- the same of a comparison that is read by value
pub comparison_read : (xs : List Comparison) (i : ℕ) (d : Comparison) → i < length xs → Some (Leaf (leaf.Comparison (get_or xs i d))) ≡
    thing_at (comparison_things xs) i
comparison_read [] i d lt = absurd (omega (arith, lt))
comparison_read (x ∷ xs) zero d lt = refl
comparison_read (x ∷ xs) (suc i) d lt = let l : i < length xs = omega (arith, lt) in comparison_read xs i d l

pub ruleset rows = (
  expr_at,
  option_at,
  pattern_at,
  stmt_at,
  handler_at,
  case_at,
  comprehension_at,
  arg_at,
  keyword_at,
  alias_at,
  item_at,
  type_param_at,
  comparison_at,
  comparison_read,
  name_at,
)
