-- Counts of nodes that have a place.
use Rattle.std.specs.Prelude.{ℕ, ◌-◌, ◌^◌, min}

-- a count, or the largest number of 64 bits where it is greater
unfoldable pub capped : ℕ → ℕ
capped n = min n (2 ^ 64 - 1)
