-- Where an offset of a text lies: its row and its column, as the module `tokenize` of the Python library reference counts them,
-- rows from 1 and columns from 0, in characters.
use Rattle.std.specs.Prelude.{ℕ, ◌+◌, Bool, not, List, take, reverse, ◌==◌, count_by}
use Rattle.std.specs.List.{prefix_len}
use Rattle.std.specs.Str.{chars}
use Rattle.pysource.specs.Characters.{line_feed}
use Rattle.pysource.specs.declared.places.Place.{Place}

-- a line feed
abbrev pub is_lf : ℕ → Bool
is_lf b = b == line_feed

-- the place after a text: 1 and its LFs, and the characters since the last LF
unfoldable pub place_after : List ℕ → Place
place_after cs = record { row = 1 + count_by (λ c. c == line_feed) cs; column = prefix_len (λ c. not (c == line_feed)) (reverse cs) }

-- the place of an offset of a text, which is given as its bytes
abbrev pub place_at : List ℕ → ℕ → Place
place_at text offset = place_after (chars (take offset text))
