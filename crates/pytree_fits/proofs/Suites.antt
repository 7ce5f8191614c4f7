-- Carries: suite_fits. On: a block with a statement fits where its statements do.
use Rattle.std.proofs.Common.{◌≡◌, refl, suc, arith, List, [], ◌∷◌, length, map, true, false}
use Rattle.std.specs.Prelude.{◌==◌}
use Rattle.std.proofs.lemmas.Bool.{both_ways, ne_eqb}
use Rattle.pytree_node.specs.declared.profiles.Profile.{Profile}
use Rattle.pytree_node.specs.Trees.{Stmt, stmts}
use Rattle.pytree_fits.specs.Tests.{Tests}
use Rattle.pytree_fits.specs.Statements.{statements_fit, suite_fits}

module _ {A : Type 0} (p : Profile) (n : Tests) (f : A → Stmt) where
  pub no_suite : (xs : List A) → (length xs == 0) ≡ true → suite_fits p n (stmts (map f xs)) ≡ false
  no_suite [] h = refl
  no_suite (x ∷ xs) h = absurd (both_ways (suc (length xs) == 0) (ne_eqb (suc (length xs)) 0 (λ e. omega (arith, e))) h)

  pub suite_is : (xs : List A) → (length xs == 0) ≡ false → suite_fits p n (stmts (map f xs)) ≡ statements_fit p n (stmts (map f xs))
  suite_is [] h = absurd (cc)
  suite_is (x ∷ xs) h = refl

pub ruleset suites = (no_suite, suite_is)
