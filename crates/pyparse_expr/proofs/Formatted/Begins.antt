-- What is read after no other parts.
--
-- Carries: formatted_atom, read_spec. On: JoinedStates, Views.
use Rattle.std.proofs.Common.{◌≡◌, arith, ap, subst, ◌∙◌, ℕ, ◌≤◌, List, [], length, Bool, Result}
use Rattle.pytree_node.specs.TreeOf.{tree_of}
use Rattle.pytoken.specs.declared.values.terminals.Terminal as given
use Rattle.pygrammar.specs.FormattedStrings.{StringPart}
use Rattle.pygrammar.specs.Reader.{Reads, joined_step, parts_loop}
use Rattle.pyparse_nodes.specs.declared.found.JoinedValues.{JoinedValues}
use Rattle.pyparse_nodes.specs.declared.found.Read.{Read}
use Rattle.pyparse_nodes.specs.declared.stop.Stop.{Stop}
use Rattle.pyparse_nodes.specs.Answers.{Failed, PartAnswered, PartAt}
use Rattle.pyparse_nodes.specs.JoinedStates.{gathered, state, state_of}
use Rattle.pyparse_nodes.specs.Views.{seen}
use Rattle.pyparse_expr.specs.Inner.Strings.{PartsAt}
use Rattle.pyparse_expr.proofs.Reader.Reading.{seen_length}

module _ (ts : List given.Terminal) (self : Reads) (u : Bool) (at : ℕ) (b : JoinedValues) (t : List ℕ) (q : b.next ≡ at)
    (s : state_of b ≡ state [] t) (n : t ≡ []) where
  nothing : state_of b ≡ gathered u []
  nothing = s ∙ ap (λ x. state [] x) n

  pub begun_failed : (e : Stop) → ((acc : List StringPart) → state_of b ≡ gathered u acc
      → Failed e (joined_step self u acc (seen ts b.next))) → Failed e (joined_step self u [] (seen ts at))
  begun_failed e f = subst (λ k. Failed e (joined_step self u [] (seen ts k))) q (f [] nothing)

  pub begun_found : (r : Read) → ((acc : List StringPart) → state_of b ≡ gathered u acc
      → PartAt ts b.next (joined_step self u acc (seen ts b.next)) (tree_of r.expr.value) r.next)
      → PartAt ts at (joined_step self u [] (seen ts at)) (tree_of r.expr.value) r.next
  begun_found r f = subst (λ k. PartAt ts k (joined_step self u [] (seen ts k)) (tree_of r.expr.value) r.next) q (f [] nothing)

  pub begun_answered : (z : Result Read Stop) → ((acc : List StringPart) → state_of b ≡ gathered u acc
      → PartAnswered ts b.next (joined_step self u acc (seen ts b.next)) (λ r. tree_of r.expr.value) (λ r. r.next) z)
      → PartAnswered ts at (joined_step self u [] (seen ts at)) (λ r. tree_of r.expr.value) (λ r. r.next) z
  begun_answered z f = subst (λ k. PartAnswered ts k (joined_step self u [] (seen ts k)) (λ (r : Read). tree_of r.expr.value)
      (λ (r : Read). r.next) z) q (f [] nothing)

  module _ (most : ℕ) (le : length (seen ts at) ≤ most) where
    pub parts_failed : (e : Stop) → ((m : ℕ) (acc : List StringPart) → length (seen ts b.next) ≤ m → state_of b ≡ gathered u acc
        → Failed e (parts_loop self u m acc (seen ts b.next))) → Failed e (parts_loop self u most [] (seen ts at))
    parts_failed e f = subst (λ k. length (seen ts k) ≤ most → Failed e (parts_loop self u most [] (seen ts k))) q
        (λ w. f most [] w nothing) le

    pub parts_found : (j : JoinedValues) → ((m : ℕ) (acc : List StringPart) → length (seen ts b.next) ≤ m → state_of b ≡ gathered u acc
        → PartsAt u ts b.next (parts_loop self u m acc (seen ts b.next)) j) → PartsAt u ts at (parts_loop self u most [] (seen ts at)) j
    parts_found j f = subst (λ k. length (seen ts k) ≤ most → PartsAt u ts k (parts_loop self u most [] (seen ts k)) j) q
        (λ w. f most [] w nothing) le

-- after a place less is left
pub further : (ts : List given.Terminal) (at n most : ℕ) → length (seen ts at) ≤ most → at ≤ n → length (seen ts n) ≤ most
further ts at n most le w = omega (arith, le, w, seen_length ts at, seen_length ts n)
