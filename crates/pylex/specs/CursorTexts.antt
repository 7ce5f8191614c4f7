-- The parts that a cursor can have.
use Rattle.std.specs.Prelude.{◌≡◌, ℕ, ◌+◌, ◌^◌, ◌<◌, ◌≤◌, List, length, Some, slice_get, slice_index, All}
use Rattle.pylex.specs.Cursors.{CursorParts}

-- open levels: the first is 0, and each is above the one before it
pub record AreLevels (levels : List ℕ) : Type 0 where
  pub first : slice_get levels 0 ≡ Some 0
  pub ascending : (k : ℕ) → k + 1 < length levels → slice_index levels k < slice_index levels (k + 1)
  pub words : All (λ n. n < 2 ^ 64) levels

-- rows count from 1, and each number fits a word
pub record IsWellFormed (c : CursorParts) : Type 0 where
  pub given : c.given < 2 ^ 64
  pub offset : c.offset < 2 ^ 64
  pub from_one : 1 ≤ c.row
  pub row : c.row < 2 ^ 64
  pub depth : c.depth < 2 ^ 64
  pub skip : c.skip < 2 ^ 64
  pub levels : AreLevels c.levels
