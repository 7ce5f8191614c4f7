-- Stretches of tokens. A node of an expression or of a simple statement stands where the tokens of its alternative stand: the definitions
-- give it as a stretch of the line's terminals, and the spans of these turn that into bytes.
use Rattle.std.specs.Prelude.{ℕ, ◌+◌, ◌-◌, List, [], ◌∷◌, map, slice_index_or}
pub use Rattle.pyparse_marks.specs.Spans.{Span, span}

-- the number of terminals of the line before a node's first, and before the first after it
pub record Stretch : Type 0 where
  pub first : ℕ
  pub following : ℕ

abbrev pub stretch : ℕ → ℕ → Stretch
stretch first following = record { first = first; following = following }

-- the place of a node of so many terminals from a place on
abbrev pub over : ℕ → ℕ → List Stretch
over at count = stretch at (at + count) ∷ []

-- Each terminal of a line has its span: of an f-string both ends have the bytes of the whole token; the terminals of a field have their
-- own,
-- its `(` those of the `{`, its `)` the byte after the expression.

-- the span of the terminal after so many, by the spans of a line's terminals, and an empty one at 0 where there is none
abbrev pub span_after : ℕ → List Span → Span
span_after n ss = slice_index_or ss n (span 0 0)

-- where a stretch of a line stands
abbrev pub span_of : List Span → Stretch → Span
span_of ss s = span (span_after s.first ss).start (span_after (s.following - 1) ss).stop

abbrev pub spans_of : List Span → List Stretch → List Span
spans_of ss = map (span_of ss)
