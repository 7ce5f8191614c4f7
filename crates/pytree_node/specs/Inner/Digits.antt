-- What lies under an integer.
use Rattle.std.specs.Prelude.{ℕ, ◌^◌, ◌<◌, ◌≤◌}
use Rattle.pytree_node.specs.declared.integers.Digits.{Digits}
use Rattle.pytree_node.specs.declared.integers.Digits.TheVariants.{Small, Large}

abbrev pub number_of : Digits → ℕ
number_of (Small value) = value
number_of (Large value) = value.value

-- only a number that has no room in 64 bits takes memory
abbrev pub IsInForm : Digits → Type 0
IsInForm (Small value) = value < 2 ^ 64
IsInForm (Large value) = 2 ^ 64 ≤ value.value
