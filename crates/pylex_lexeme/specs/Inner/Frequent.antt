-- Frequent lexemes, told from others by the character after them.
--
-- Internal: how they are taken without a call. No public contract cites it.
use Rattle.std.specs.Prelude.{ℕ, Bool, false, ◌||◌, ◌==◌, nat_lt}
use Rattle.pylex_lexeme.specs.Characters.{double_quote, single_quote, full_stop, colon}
use Rattle.pylex_lexeme.specs.declared.kinds.Exact.{Exact}
use Rattle.pylex_lexeme.specs.declared.kinds.Exact.TheVariants.{Dot, Colon, Equal}

-- what may make another lexeme of a name of ASCII before it: a quote, or what is past ASCII
abbrev pub is_quote_or_wide : ℕ → Bool
is_quote_or_wide c = nat_lt 127 c || ((c == single_quote) || (c == double_quote))

abbrev pub equals_sign : ℕ
equals_sign = 61

-- a character alone is this operator, and may begin a longer one or a number
abbrev pub is_sign : Exact → ℕ → Bool
is_sign e c = elim e [
  | Dot ↦ c == full_stop
  | Colon ↦ c == colon
  | Equal ↦ c == equals_sign
  | _ ↦ false
]
