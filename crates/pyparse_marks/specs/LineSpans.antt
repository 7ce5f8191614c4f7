-- Where the terminals of a logical line stand in its source.
use Rattle.std.specs.Prelude.{ℕ, suc, ◌+◌, ◌==◌, cond, List, ◌∷◌, [], take}
use Rattle.std.specs.List.{flat_map}
use Rattle.pylex_lexeme.specs.Chars.{bytes_in}
use Rattle.pylex_lexeme.specs.Characters.{line_feed}
use Rattle.pytoken.specs.Tokens.{Token, Line}
use Rattle.pyparse_marks.specs.Spans.{Span}
use Rattle.pyparse_marks.specs.TokenSpans.{token_spans}

-- the bytes of a text before a row, the first being 1, and a column
abbrev pub offset : ℕ → ℕ → List ℕ → ℕ
offset (suc (suc r)) column (c ∷ cs) = bytes_in (c ∷ []) + cond (c == line_feed) (offset (suc r) column cs) (offset (suc (suc r)) column cs)
offset r column cs = bytes_in (take column cs)

-- the spans of the terminals of a token of a text, and of a line
abbrev pub spans_of : List ℕ → Token → List Span
spans_of text t = token_spans (offset t.start.row t.start.column text) t.kind t.text

abbrev pub line_spans : List ℕ → Line → List Span
line_spans text x = flat_map (spans_of text) x.tokens
