-- The text of a span.
use Rattle.std.specs.Prelude.{ℕ, ◌≤◌, List, IsCharBoundary, slice_range}
use Rattle.pyplaces.specs.Stretches.{Span}

-- its ends stand at characters of a text, in order
pub record StandsIn (text : List ℕ) (s : Span) : Type 0 where
  pub ordered : s.start ≤ s.stop
  pub starts : IsCharBoundary text s.start
  pub stops : IsCharBoundary text s.stop

-- the bytes between them
abbrev pub text_between : List ℕ → Span → List ℕ
text_between text s = slice_range text s.start s.stop
