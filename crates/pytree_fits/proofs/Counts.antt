-- Carries: the tests of lengths. On: the nodes of a list are as many as the list has.
use Rattle.std.proofs.Common.{◌≡◌, refl, sym, ap, ◌∙◌, inl, inr, ℕ, suc, ◌+◌, ◌-◌, ◌≤◌, ◌<◌, arith, List, [], ◌∷◌, length, map, Option}
use Rattle.std.proofs.Common.{Bool, true, false}
use Rattle.std.specs.Prelude.{leb, not, ◌&&◌, ◌==◌}
use Rattle.std.proofs.lemmas.Bool.{both_ways, ne_eqb, le-leb, lt-leb, leb-true, leb-false, cases_Bool}
use Rattle.std.proofs.lemmas.List.{length-map}
use Rattle.pytree_node.specs.Trees.{Expr, Arg, Comprehension, Pattern, Stmt, Stmts, Case, Handler, exprs, optionals, args, comprehensions}
use Rattle.pytree_node.specs.Trees.{patterns, stmts, cases, handlers}
use Rattle.pytree_fits.specs.Statements.{has_stmt, has_case, clauses_fit}
use Rattle.pytree_fits.specs.PatternSlots.{count_patterns}
use Rattle.pytree_fits.specs.Slots.{count, count_optional, count_args, has_some}

exprs_count : (es : List Expr) → count (exprs es) ≡ length es
exprs_count [] = refl
exprs_count (e ∷ es) = omega (arith, exprs_count es)

optionals_count : (es : List (Option Expr)) → count_optional (optionals es) ≡ length es
optionals_count [] = refl
optionals_count (e ∷ es) = omega (arith, optionals_count es)

args_count : (all : List Arg) → count_args (args all) ≡ length all
args_count [] = refl
args_count (a ∷ rest) = omega (arith, args_count rest)

module _ {A : Type 0} where
  pub count_exprs : (f : A → Expr) (xs : List A) → count (exprs (map f xs)) ≡ length xs
  count_exprs f xs = exprs_count (map f xs) ∙ length-map xs f

  pub count_optionals : (f : A → Option Expr) (xs : List A) → count_optional (optionals (map f xs)) ≡ length xs
  count_optionals f xs = optionals_count (map f xs) ∙ length-map xs f

  pub count_arguments : (f : A → Arg) (xs : List A) → count_args (args (map f xs)) ≡ length xs
  count_arguments f xs = args_count (map f xs) ∙ length-map xs f

  pub some_clause : (f : A → Comprehension) (xs : List A) → has_some (comprehensions (map f xs)) ≡ not (length xs == 0)
  some_clause f [] = refl
  some_clause f (x ∷ xs) = sym (ap not (ne_eqb (suc (length xs)) 0 (λ e. omega (arith, e))))

patterns_count : (ps : List Pattern) → count_patterns (patterns ps) ≡ length ps
patterns_count [] = refl
patterns_count (p ∷ ps) = omega (arith, patterns_count ps)

pub count_of_patterns : {A : Type 0} (f : A → Pattern) (xs : List A) → count_patterns (patterns (map f xs)) ≡ length xs
count_of_patterns f xs = patterns_count (map f xs) ∙ length-map xs f

pub ruleset counts = (count_exprs, count_optionals, count_arguments, some_clause, count_of_patterns)

-- no more in all than a and b
pub fewer : (m a b : ℕ) → m ≤ a → leb m a ≡ leb m (a + b)
fewer m a b h = le-leb m a h ∙ sym (le-leb m (a + b) (omega (arith, h)))

pub fewer_after : (m a b : ℕ) → a < m → leb (m - a) b ≡ leb m (a + b)
fewer_after m a b h = elim (cases_Bool (leb (m - a) b)) [
  | inl fits ↦ fits ∙ sym (le-leb m (a + b) (omega (arith, h, leb-true (m - a) b fits)))
  | inr over ↦ over ∙ sym (lt-leb m (a + b) (omega (arith, h, leb-false (m - a) b over)))
]

-- ---- The clauses of a `try`, and the cases of a `match`. A list that is empty has length 0.

some_length : {A : Type 0} (x : A) (xs : List A) → true ≡ (length (x ∷ xs) == 0) → ⊥
some_length x xs h = both_ways (suc (length xs) == 0) (ne_eqb (suc (length xs)) 0 (λ e. omega (arith, e))) (sym h)

pub with_case : {A : Type 0} (f : A → Case) (xs : List A) → false ≡ (length xs == 0) → true ≡ has_case (cases (map f xs))
with_case f [] h = absurd (cc)
with_case f (x ∷ xs) h = refl

module _ {A : Type 0} (star : Bool) (f : A → Handler) where
  pub with_handler : (xs : List A) (o e : Stmts) → false ≡ (length xs == 0) → true ≡ clauses_fit star (handlers (map f xs)) o e
  with_handler [] o e h = absurd (cc)
  with_handler (x ∷ xs) o e h = refl

  module _ {B : Type 0} (g : B → Stmt) where
    pub with_orelse : (xs : List A) (os : List B) (e : Stmts) → true ≡ (length xs == 0) → false ≡ (length os == 0)
        → false ≡ clauses_fit star (handlers (map f xs)) (stmts (map g os)) e
    with_orelse [] [] e h q = absurd (cc)
    with_orelse [] (o ∷ os) e h q = by star
      where
        by : (b : Bool) → false ≡ (not b && false && has_stmt e)
        by true = refl
        by false = refl
    with_orelse (x ∷ xs) os e h q = absurd (some_length x xs h)

    pub with_neither : (xs : List A) (os es : List B) → star ≡ false → true ≡ (length xs == 0) → true ≡ (length os == 0)
        → not (length es == 0) ≡ clauses_fit star (handlers (map f xs)) (stmts (map g os)) (stmts (map g es))
    with_neither [] [] es s h q = final es ∙ sym (ap (λ b. not b && true && has_stmt (stmts (map g es))) s)
      where
        final : (es : List B) → not (length es == 0) ≡ has_stmt (stmts (map g es))
        final [] = refl
        final (x ∷ es) = ap not (ne_eqb (suc (length es)) 0 (λ e. omega (arith, e)))
    with_neither [] (o ∷ os) es s h q = absurd (some_length o os q)
    with_neither (x ∷ xs) os es s h q = absurd (some_length x xs h)
