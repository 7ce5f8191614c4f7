-- The count of depths by the shapes of lines, no further than it counts.
use Rattle.std.specs.Prelude.{◌≡◌, ℕ, suc, ◌+◌, min, Bool, true, false, nat_le, ◌==◌, cond, List, [], ◌∷◌, Option, Some, None}
use Rattle.pygrammar.specs.Depths.{Depth, under}
use Rattle.pyparse_block.specs.declared.outline.shapes.Clause.{Clause}
use Rattle.pyparse_block.specs.declared.outline.shapes.Clause.TheVariants as clause
use Rattle.pyparse_block.specs.declared.outline.shapes.Shape.{Shape}
use Rattle.pyparse_block.specs.declared.outline.shapes.Shape.TheVariants as shape

-- what a header begins or goes on with, if the line is one
abbrev pub clause_in : Shape → Option Clause
clause_in (shape.Opening c) = Some c
clause_in (shape.Inline c) = Some c
clause_in _ = None

-- the `elif`s of the `if` that a line belongs to, up to it, where no deeper level is kept
abbrev pub arms_more : Option Clause → ℕ → ℕ
arms_more (Some clause.Elif) arms = 1 + arms
arms_more (Some clause.Else) arms = arms
arms_more _ arms = 0

abbrev pub arms_top : Shape → ℕ → List Depth → ℕ
arms_top x l [] = 0
arms_top x l (d ∷ ds) = cond (d.level == l) (arms_more (clause_in x) d.arms) 0

-- how many statements a line is itself
abbrev pub own_of : Option Clause → ℕ
own_of (Some clause.Case) = 0
own_of _ = 1

-- how many statements stand round a line of the level above those that are kept
abbrev pub round_top : List Depth → ℕ
round_top [] = 0
round_top (d ∷ ds) = d.round + (d.arms + d.own)

-- whether a clause begins no statement
abbrev pub is_later : Clause → Bool
is_later clause.Else = true
is_later (clause.Except _) = true
is_later clause.Finally = true
is_later clause.Case = true
is_later _ = false

-- whether a statement with 500 round it begins in a line, by what stands round the line, its `elif`s and its own statements
abbrev pub deep_in : Shape → ℕ → ℕ → ℕ → Bool
deep_in (shape.Opening c) round arms own = cond (is_later c) false (nat_le 500 (round + arms))
deep_in (shape.Inline c) round arms own = nat_le 500 (round + (arms + own))
deep_in _ round arms own = nat_le 500 round

-- a line as the last of its level
abbrev pub last_in : ℕ → Shape → List Depth → Depth
last_in l x ds = record {
  level = l;
  round = min 500 (round_top (under l ds));
  arms = min 500 (arms_top x l (under (suc l) ds));
  own = own_of (clause_in x);
}

-- one line more, and whether a statement with 500 round it begins in it
pub record Counts (l : ℕ) (x : Shape) (old new : List Depth) (deep : Bool) : Type 0 where
  pub lasts : new ≡ last_in l x old ∷ under l old
  pub is_deep : deep ≡ deep_in x (last_in l x old).round (last_in l x old).arms (last_in l x old).own
