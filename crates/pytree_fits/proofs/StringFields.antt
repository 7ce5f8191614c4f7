-- Carries: value_fits, spec_fits. On: the tests of a field of an f-string, one after another.
use Rattle.std.proofs.Common.{◌≡◌, sym, ap, ◌∙◌, ℕ, suc, ◌+◌, ◌<◌, ◌≤◌, arith, Bool, true, false}
use Rattle.std.specs.Prelude.{◌&&◌, leb}
use Rattle.std.proofs.lemmas.Bool.{le-leb, lt-leb}
use Rattle.pytree_node.specs.declared.profiles.Extent.{Extent}
use Rattle.pytree_node.specs.declared.expressions.Expr.{Expr}
use Rattle.pytree_node.specs.Trees.{OptionalExpr}
use Rattle.pytree_node.specs.TreeOf.{tree_of}
use Rattle.pygrammar.specs.declared.levels.Level.TheVariants.{Expression}
use Rattle.pytree_fits.specs.Tests.{tests_at, in_field}
use Rattle.pytree_fits.specs.Slots.{fits_at, spec_fits}

one_more : (n : ℕ) → n + 1 ≡ suc n
one_more n = omega arith

module _ (x : Extent) (f d : ℕ) where
  pub value_told : {y : Extent} {g : ℕ} {a b : Expr} {told value : Bool} → d ≤ 1 → value ≡ told
      → told ≡ fits_at (tests_at y g) Expression (tree_of a) → y ≡ x → g ≡ f + 1 → a ≡ b →
      value ≡ (leb d 1 && fits_at (in_field (tests_at x f)) Expression (tree_of b))
  value_told {b = b} low is h e q r =
      is ∙ h ∙ (λ i. fits_at (tests_at (e i) ((q ∙ one_more f) i)) Expression (tree_of (r i)))
      ∙ sym (ap (λ z. z && fits_at (in_field (tests_at x f)) Expression (tree_of b)) (le-leb d 1 low))

  pub too_deep : (b : Expr) {value : Bool} → 1 < d → value ≡ leb d 1
      → value ≡ (leb d 1 && fits_at (in_field (tests_at x f)) Expression (tree_of b))
  too_deep b deep is = is ∙ lt-leb d 1 deep
      ∙ sym (ap (λ z. z && fits_at (in_field (tests_at x f)) Expression (tree_of b)) (lt-leb d 1 deep))

  pub spec_told : (s : OptionalExpr) {told : Bool} → told ≡ spec_fits (tests_at x f) (d + 1) s → told ≡ spec_fits (tests_at x f) (suc d) s
  spec_told s h = h ∙ ap (λ k. spec_fits (tests_at x f) k s) (one_more d)

pub both_and : (x y z : Bool) {value told : Bool} → value ≡ (x && y) → value ≡ true → told ≡ z → told ≡ (x && y && z)
both_and true true z is h g = g
both_and true false z is h g = absurd (cc)
both_and false y z is h g = absurd (cc)

pub one_fails : (x y z : Bool) {value : Bool} → value ≡ (x && y) → value ≡ false → value ≡ (x && y && z)
one_fails true true z is h = absurd (cc)
one_fails true false z is h = is
one_fails false y z is h = is

pub then_rest : (x y : Bool) {told : Bool} → x ≡ true → told ≡ y → told ≡ (x && y)
then_rest true y h g = g
then_rest false y h g = absurd (cc)
