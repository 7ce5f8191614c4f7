-- Text that moves its place by one column for each byte.
use Rattle.std.specs.Prelude.{◌≡◌, ◌≢◌, ℕ, ◌<◌, ◌≤◌, List, EachIndex, length, replicate, slice_index, take}
use Rattle.pylex_lexeme.specs.Characters.{line_feed, space}

-- in ASCII, and without LF
abbrev pub IsPlain : List ℕ → Type 0
IsPlain bs = EachIndex bs (λ k. (slice_index bs k < 128) × (slice_index bs k ≢ line_feed))

-- spaces alone
abbrev pub AreSpaces : List ℕ → Type 0
AreSpaces bs = EachIndex bs (λ k. slice_index bs k ≡ space)

-- so many spaces stand at the front of these bytes
pub record SpacesAhead (bs : List ℕ) (count : ℕ) : Type 0 where
  pub within : count ≤ length bs
  pub spaces : take count bs ≡ replicate count space
