-- Heights of what stands between the commas of a list.
use Rattle.std.specs.Prelude.{ℕ, suc, max, List, [], ◌∷◌}
use Rattle.pytree_height.specs.Heights.{height, arg_height, optional_height}
use Rattle.pygrammar.specs.Entries.{Entry, Single, Paired, Spread, Doubled, Keyed, Plain, Slashed, Bare, Gathered, Collected}

-- of what stands between the commas of a list
abbrev pub entry_height : Entry → ℕ
entry_height (Single e) = height e
entry_height (Paired k v) = max (height k) (height v)
entry_height (Spread e) = suc (height e)
entry_height (Doubled e) = height e
entry_height (Keyed x e) = height e
entry_height (Plain a d) = max (arg_height a) (optional_height d)
entry_height Slashed = 0
entry_height Bare = 0
entry_height (Gathered a) = arg_height a
entry_height (Collected a) = arg_height a

abbrev pub entries_height : List Entry → ℕ
entries_height [] = 0
entries_height (a ∷ es) = max (entry_height a) (entries_height es)
