-- Spans between bytes of a source.
use Rattle.std.specs.Prelude.{ℕ, ◌≤◌, List, [], ◌∷◌}
use Rattle.pyparse_marks.specs.Spans.{Span}

-- it begins at one of these bytes or after it, and ends at one or before it
pub record LiesBetween (lo hi : ℕ) (s : Span) : Type 0 where
  pub begins : lo ≤ s.start
  pub forward : s.start ≤ s.stop
  pub ends : s.stop ≤ hi

abbrev pub AllLieBetween : ℕ → ℕ → List Span → Type 0
AllLieBetween lo hi [] = Unit {0}
AllLieBetween lo hi (s ∷ ss) = LiesBetween lo hi s × AllLieBetween lo hi ss
