-- What a string is, as tests on whole texts (lists of code points).
use Rattle.std.specs.Prelude.{ℕ, ◌+◌, Bool, true, false, not, ◌&&◌, ◌||◌, ◌==◌, nat_le, List, [], ◌∷◌, map, take, drop, codes}
use Rattle.std.specs.Prelude.{if◌then◌else◌}
use Rattle.std.specs.List.{list_any}
use Rattle.std.specs.Str.{bytes_eq}
use Rattle.pylex_lexeme.specs.declared.string.Quote.{Quote}
use Rattle.pylex_lexeme.specs.declared.string.Quote.TheVariants.{Single, Double}
use Rattle.pylex_lexeme.specs.Numbers.{split_any, headed}
use Rattle.pylex_lexeme.specs.Characters.{line_feed, carriage_return, double_quote, single_quote, backslash}

-- A to Z as a to z
abbrev pub lower : ℕ → ℕ
lower c = if nat_le 65 c && nat_le c 90 then c + 32 else c

-- stringprefix ::= "r" | "u" | "R" | "U" | "f" | "F"
--                  | "fr" | "Fr" | "fR" | "FR" | "rf" | "rF" | "Rf" | "RF"
-- bytesprefix  ::= "b" | "B" | "br" | "Br" | "bR" | "BR" | "rb" | "rB" | "Rb" | "RB"
abbrev pub prefixes : List (List ℕ)
prefixes = [] ∷ codes "r" ∷ codes "u" ∷ codes "b" ∷ codes "f" ∷ codes "br" ∷ codes "rb" ∷ codes "fr" ∷ codes "rf" ∷ []

-- one of the prefixes, in any case
unfoldable pub is_prefix : List ℕ → Bool
is_prefix t = list_any (bytes_eq (map lower t)) prefixes

-- the units of a text: a backslash with the next character, or with the CR LF after it; any other character
-- stringescapeseq ::= "\" <any source character>
-- shortstringitem ::= shortstringchar | stringescapeseq
-- longstringitem  ::= longstringchar | stringescapeseq
abbrev pub units : List ℕ → List (List ℕ)
units [] = []
units (a ∷ []) = (a ∷ []) ∷ []
units (a ∷ b ∷ []) = if a == backslash then (a ∷ b ∷ []) ∷ [] else (a ∷ []) ∷ units (b ∷ [])
units (a ∷ b ∷ c ∷ t) =
    if not (a == backslash) then (a ∷ []) ∷ units (b ∷ c ∷ t)
    else (if (b == carriage_return) && (c == line_feed) then (a ∷ b ∷ c ∷ []) ∷ units t else (a ∷ b ∷ []) ∷ units (c ∷ t))

-- the unit is this character
abbrev pub is_unit : ℕ → List ℕ → Bool
is_unit q u = bytes_eq u (q ∷ [])

abbrev pub no_units : List (List ℕ) → Bool
no_units [] = true
no_units (u ∷ us) = false

-- the first unit that is the quote is the last one, and none before it is a CR or an LF
-- shortstringchar ::= <any source character except "\" or newline or the quote>
abbrev pub ends_by_one : ℕ → List (List ℕ) → Bool
ends_by_one q [] = false
ends_by_one q (u ∷ us) = if is_unit q u then no_units us else not (is_unit carriage_return u) && not
    (is_unit line_feed u) && ends_by_one q us

-- the first three units in a row that are the quote are the last ones
-- longstringchar ::= <any source character except "\">
abbrev pub ends_by_three : ℕ → List (List ℕ) → Bool
ends_by_three q [] = false
ends_by_three q (u ∷ []) = false
ends_by_three q (u ∷ v ∷ []) = false
ends_by_three q (u ∷ v ∷ w ∷ us) =
    if is_unit q u && is_unit q v && is_unit q w then no_units us else ends_by_three q (v ∷ w ∷ us)

-- a quote, and units up to a quote
-- shortstring ::= "'" shortstringitem* "'" | '"' shortstringitem* '"'
unfoldable pub is_single : ℕ → List ℕ → Bool
is_single q t = headed (λ a. a == q) (λ u. ends_by_one q (units u)) t

-- three quotes, and units up to three quotes
-- longstring ::= "'''" longstringitem* "'''" | '"""' longstringitem* '"""'
unfoldable pub is_triple : ℕ → List ℕ → Bool
is_triple q t = headed (λ a. a == q) (headed (λ a. a == q) (headed (λ a. a == q) (λ u. ends_by_three q (units u)))) t

-- a prefix, and a literal in three quotes
unfoldable pub is_triple_string : List ℕ → Bool
is_triple_string t = split_any is_prefix (λ u. is_triple single_quote u || is_triple double_quote u) t

-- a prefix, and a literal in one quote
unfoldable pub is_single_string : List ℕ → Bool
is_single_string t = split_any is_prefix (λ u. is_single single_quote u || is_single double_quote u) t

-- stringliteral ::= [stringprefix](shortstring | longstring)
-- bytesliteral  ::= bytesprefix(shortbytes | longbytes)
-- (That bytes hold ASCII alone is asked of the values, in StringValues of pytoken.)
unfoldable pub is_string : List ℕ → Bool
is_string t = is_triple_string t || is_single_string t

-- the quotes, as characters
abbrev pub quote_char : Quote → ℕ
quote_char Single = single_quote
quote_char Double = double_quote

abbrev pub begins_quote : List ℕ → Bool
begins_quote [] = false
begins_quote (a ∷ t) = (a == single_quote) || (a == double_quote)

abbrev pub begins_three : List ℕ → Bool
begins_three [] = false
begins_three (a ∷ []) = false
begins_three (a ∷ b ∷ []) = false
begins_three (a ∷ b ∷ c ∷ t) = ((a == single_quote) || (a == double_quote)) && (b == a) && (c == a)

-- after a prefix, perhaps empty, the rest of the text passes
abbrev pub after_prefix : (List ℕ → Bool) → List ℕ → Bool
after_prefix p cs = list_any (λ n. is_prefix (take n cs) && p (drop n cs)) (0 ∷ 1 ∷ 2 ∷ [])

-- a prefix and a quote stand at the front of a text
unfoldable pub opens_string : List ℕ → Bool
opens_string cs = after_prefix begins_quote cs

-- a prefix and three equal quotes stand at the front of a text
unfoldable pub opens_triple : List ℕ → Bool
opens_triple cs = after_prefix begins_three cs

-- the texts that count as strings at the front of a text
unfoldable pub counts_as_string : List ℕ → List ℕ → Bool
counts_as_string cs t = if opens_triple cs then is_triple_string t else is_single_string t
