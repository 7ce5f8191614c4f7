-- Characters that a reader of literals may take many at a time.
--
-- Internal: what the scanner passes over in one run. No public contract cites it.
use Rattle.std.specs.Prelude.{ℕ, Bool, ◌&&◌, ◌==◌, not, nat_lt}
use Rattle.pylex_lexeme.specs.Characters.{line_feed, carriage_return, double_quote, single_quote, backslash}

-- ASCII, and neither a quote, a backslash, LF nor CR
abbrev pub is_plain_char : ℕ → Bool
is_plain_char c = nat_lt c 128 &&
    (not (c == double_quote) && (not (c == single_quote) && (not (c == backslash) && (not (c == line_feed) && not (c == carriage_return)))))
