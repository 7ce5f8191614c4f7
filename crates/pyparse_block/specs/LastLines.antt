-- Which lines the next one may stand in, of all lines before it.
use Rattle.std.specs.Prelude.{◌≡◌, ℕ, Bool, false, nat_lt, cond, List, [], ◌∷◌, reverse}
use Rattle.pygrammar.specs.Lines.{Line}
use Rattle.pygrammar.specs.Blocks.{stands_in_match}
use Rattle.pyparse_block.specs.declared.last_lines.Last.{Last}
use Rattle.pyparse_block.specs.declared.last_lines.LastLines.{LastLines}

-- whether a line of this level stands in a `match` after these lines; the deepest comes first
abbrev pub stands_following : ℕ → List Last → Bool
stands_following l [] = false
stands_following l (x ∷ lower) = cond (nat_lt x.level l) x.is_match (stands_following l lower)

-- of these lines, the nearest first, it is what says where a further one stands
pub record HoldsLastLines (earlier : List Line) (p : LastLines) : Type 0 where
  pub stands : (l : ℕ) → stands_following l (reverse p.lasts.items) ≡ stands_in_match l earlier
