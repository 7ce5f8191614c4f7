-- Shown places by the offsets at which the lines of a source start.
use Rattle.std.specs.Prelude.{ℕ, suc, ◌-◌, ◌<◌, ◌≤◌, ◌==◌, nat_le, cond, List, [], ◌∷◌, length, count_by, slice_index}
use Rattle.pylex_lexeme.specs.Characters.{line_feed}
use Rattle.pyplaces.specs.Stretches.{Span}
use Rattle.pytree_marked.specs.MarkedNodes.{Attributes}

-- where lines start after the LFs of some bytes, with so many bytes in front
abbrev pub starts_after : ℕ → List ℕ → List ℕ
starts_after n [] = []
starts_after n (c ∷ cs) = cond (c == line_feed) (suc n ∷ starts_after (suc n) cs) (starts_after (suc n) cs)

abbrev pub line_starts : List ℕ → List ℕ
line_starts cs = 0 ∷ starts_after 0 cs

-- none is less than one before it
abbrev pub Rising : List ℕ → Type 0
Rising starts = (i j : ℕ) → i ≤ j → j < length starts → slice_index starts i ≤ slice_index starts j

-- the line of an offset, from 1: how many lines start there or before
abbrev pub line_by : List ℕ → ℕ → ℕ
line_by starts n = count_by (λ s. nat_le s n) starts

-- the bytes since the last of those starts
abbrev pub byte_by : List ℕ → ℕ → ℕ
byte_by starts n = n - slice_index starts (line_by starts n - 1)

abbrev pub attributes_by : List ℕ → Span → Attributes
attributes_by starts s = record {
  line = line_by starts s.start;
  byte = byte_by starts s.start;
  end_line = line_by starts s.stop;
  end_byte = byte_by starts s.stop;
}
