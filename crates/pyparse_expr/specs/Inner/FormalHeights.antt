-- The height of the highest expression in parameters.
use Rattle.std.specs.Prelude.{ℕ, max, List, [], ◌∷◌}
use Rattle.pytree_height.specs.Heights.{arg_height, optional_height}
use Rattle.pygrammar.specs.Entries.{Entry, Plain, Gathered, Collected}

abbrev pub entry_height : Entry → ℕ
entry_height (Plain a d) = max (arg_height a) (optional_height d)
entry_height (Gathered a) = arg_height a
entry_height (Collected a) = arg_height a
entry_height _ = 0

abbrev pub entry_heights : List Entry → ℕ
entry_heights [] = 0
entry_heights (e ∷ es) = max (entry_height e) (entry_heights es)
