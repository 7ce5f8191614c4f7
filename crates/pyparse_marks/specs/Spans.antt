-- Bytes of a source, and what is kept of those of a line.
use Rattle.std.specs.Prelude.{◌≡◌, ℕ, List, [], ◌++◌, Option, Some, option_map}
use Rattle.pyparse_marks.specs.declared.spans.Span as given

-- bytes of the source before a place, and before its end
pub record Span : Type 0 where
  pub start : ℕ
  pub stop : ℕ

abbrev pub span : ℕ → ℕ → Span
span start stop = record { start = start; stop = stop }

-- the span that one in the program is
abbrev pub told : given.Span → Span
told s = span s.«from» s.to

-- What is kept of a line: nothing, or the spans of its terminals. With those of some terminals more, and with none.
unfoldable pub added : Option (List Span) → List Span → Option (List Span)
added kept spans = option_map (λ before. before ++ spans) kept

unfoldable pub emptied : Option (List Span) → Option (List Span)
emptied kept = option_map (λ before. []) kept

-- spans are kept
pub record HasKept (kept : Option (List Span)) : Type 0 where
  pub spans : List Span
  pub is : kept ≡ Some spans
