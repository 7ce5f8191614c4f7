-- The text of a module that the grammar gives.
--
-- Carries: assignment_text.
use Rattle.std.proofs.Common.{◌≡◌, ◌≤◌, Bool, true, List, ℕ, sym, subst}
use Rattle.std.specs.Prelude.{IsTrue}
use Rattle.pytree_height.specs.Heights.{expression_height, statement_height}
use Rattle.pytree_node.specs.Profiles.{plain_311}
use Rattle.pytree_node.specs.Trees.{Module}
use Rattle.pytree_fits.specs.Given.{Stated}
use Rattle.pytree_fits.specs.Low.{IsLowModule}
use Rattle.pyunparse.specs.RoundTrips.{RoundTrips, GivesBack}

pub some_text : (m n : Module) (told : Bool) (text : List ℕ) → m ≡ n → (IsLowModule m → IsTrue told → Stated plain_311 m)
    → told ≡ true → RoundTrips text m
    → expression_height n ≤ 500 → statement_height n ≤ 500 → GivesBack plain_311 text n
some_text m n told text is tokens asked trips expressions statements =
    let low : IsLowModule m = λ f. subst (λ (x : Module). expression_height x ≤ 500) (sym is) expressions in
    subst (λ (x : Module). RoundTrips text x) is trips plain_311 (subst (λ (x : Module). Stated plain_311 x) is (tokens low asked))
    expressions statements
