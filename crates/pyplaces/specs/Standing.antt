-- How far the operators around an expression have been read: what climbing carries from turn to turn.
use Rattle.std.specs.Prelude.{ℕ, ◌≤◌, ◌<◌, List, [], ◌∷◌}
use Rattle.pytree_node.specs.Trees.{Expr}
use Rattle.pytoken.specs.Terminals.{Terminal}
use Rattle.pygrammar.specs.declared.levels.Level.{Level}
use Rattle.pygrammar.specs.declared.levels.Level.TheVariants.{Or, And, Not, Compare, Factor, Power, Await}
use Rattle.pygrammar.specs.Operators.{rank}
use Rattle.pygrammar.specs.Precedence.{following, infix_rank}
use Rattle.pygrammar.specs.Reader.{on_some}
use Rattle.pyplaces.specs.Stretches.{Stretch}
use Rattle.pyplaces.specs.Placed.{Placed}

-- the rank of the operator that stands first
abbrev pub turn : Terminal → ℕ
turn t = on_some (following t) infix_rank 0

abbrev pub turn_of : List Terminal → ℕ
turn_of [] = 0
turn_of (t ∷ r) = turn t

-- no operator of such a rank, or of a higher one, stands first
abbrev pub Ended : ℕ → List Terminal → Type 0
Ended k r = turn_of r < k

-- the highest rank of an operator that may follow an expression of a level, as further ones were read with it
abbrev pub follower : Level → ℕ
follower Or = 9
follower And = 10
follower Not = 11
follower Compare = 12
follower Factor = 19
follower Power = 19
follower Await = 21
follower l = rank l

-- an expression of a level of a rank of at least k, from i on, and its places
pub record Standing (k : ℕ) (i : List Terminal) (at : ℕ) (e : Expr) (r : List Terminal) (following : ℕ) (ps : List Stretch) : Type 0 where
  pub level : Level
  pub placed : Placed level i at e r following ps
  pub least : k ≤ rank level
  pub most : rank level ≤ 22
  pub follows : turn_of r ≤ follower level
