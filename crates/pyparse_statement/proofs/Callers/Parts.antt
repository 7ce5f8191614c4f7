-- Parts that were read one after the other.
--
-- Carries: the readers of statements and headers. On: Answers.
use Rattle.std.proofs.Common.{◌≡◌, ap, ◌∙◌, arith, ℕ, ◌+◌, ◌≤◌, List, Result, Ok, Err, Some}
use Rattle.pytoken.specs.Terminals.{Terminal}
use Rattle.pytoken.specs.declared.values.terminals.Terminal as given
use Rattle.pygrammar.specs.Looks.{name_in}
use Rattle.pygrammar.specs.Reader.{Answer, and_then, on_first}
use Rattle.pyparse_nodes.specs.declared.stop.Stop.{Stop}
use Rattle.pyparse_nodes.specs.Answers.{Failed, PartAnswered, PartAt}
use Rattle.pyparse_nodes.specs.Views.{first_is, seen}
use Rattle.pyparse_reads.proofs.Callers.Looks.{first_hit, seen_next}

-- the same answer, of what is the same, from an earlier place on
pub answered_as : {A R : Type 0} (ts : List given.Terminal) (least low : ℕ) (x y : Answer A) (value : R → A) (next : R → ℕ)
    (z : Result R Stop) → x ≡ y → least ≤ low → PartAnswered ts low y value next z → PartAnswered ts least x value next z
answered_as ts least low x y value next (Ok r) q le h = record { ahead = omega (arith, le, h.ahead); within = h.within; is = q ∙ h.is }
answered_as ts least low x y value next (Err s) q le h = rw q h

-- what is read after a part
module _ {A B : Type 0} (ts : List given.Terminal) (least : ℕ) (x : Answer A) (k : A → List Terminal → Answer B) (a : A) (n : ℕ)
    (f : PartAt ts least x a n) where
  pub following : and_then x k ≡ k a (seen ts n)
  following = ap (λ y. and_then y k) f.is

  pub failed_after : (e : Stop) → Failed e (k a (seen ts n)) → Failed e (and_then x k)
  failed_after e h = rw following h

  pub found_after : (low : ℕ) (b : B) (m : ℕ) → PartAt ts low (k a (seen ts n)) b m → least ≤ m → PartAt ts least (and_then x k) b m
  found_after low b m h le = record { ahead = le; within = h.within; is = following ∙ h.is }

-- a name at a place
pub name_next : {B : Type 0} (ts : List given.Terminal) (at : ℕ) (x : List ℕ) (hit : List ℕ → List Terminal → B) (miss : B)
    → Some x ≡ first_is name_in (seen ts at) → on_first name_in (seen ts at) hit miss ≡ hit x (seen ts (at + 1))
name_next ts at x hit miss h = first_hit name_in (seen ts at) x hit miss h ∙ ap (λ r. hit x r) (seen_next ts at)
