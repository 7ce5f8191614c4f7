-- The `repr` of a text, given as its code points, and of bytes. Python library reference, `repr` of the built-in functions,
-- `str.isprintable` (which characters are escaped), and "Bytes Objects" of the built-in types.
use Rattle.std.specs.Prelude.{ℕ, zero, suc, ◌/◌, ◌%◌, Bool, not, ◌&&◌, ◌||◌, List, [], ◌∷◌, ◌++◌, codes, nat_lt, nat_le, ◌==◌}
use Rattle.std.specs.Prelude.{if◌then◌else◌}
use Rattle.std.specs.List.{list_any, flat_map}
use Rattle.std.specs.Char.{digit_char}
use Rattle.std.specs.Str.{encode_utf8_all}
use Rattle.pysource.specs.Characters.{tab, line_feed, carriage_return, space, double_quote, single_quote, backslash}
use Rattle.unicode.specs.GeneralCategory.{general_category}
use Rattle.unicode.specs.GeneralCategoryGroup.{in_group}
use Rattle.ucd_category.specs.declared.GeneralCategoryGroup.TheVariants.{Other, Separator}

-- a character of category "Other" or "Separator", but for the space
abbrev pub is_unprintable : ℕ → Bool
is_unprintable c = not (c == space) && (in_group Other (general_category c) || in_group Separator (general_category c))

-- a byte outside 20 to 7E
abbrev pub is_unprintable_byte : ℕ → Bool
is_unprintable_byte b = nat_lt b 0x20 || nat_lt 0x7E b

-- the last digits of n in base 16, as many as `width`
abbrev pub hex : ℕ → ℕ → List ℕ
hex zero n = []
hex (suc width) n = hex width (n / 16) ++ digit_char (n % 16) ∷ []

-- `\xhh`, `\uhhhh` or `\Uhhhhhhhh`
abbrev pub hex_escape : ℕ → List ℕ
hex_escape c = if nat_lt c 0x100 then codes "\\x" ++ hex 2 c
    else (if nat_lt c 0x1_0000 then codes "\\u" ++ hex 4 c else codes "\\U" ++ hex 8 c)

-- what stands for c between the quotes q, where a test says which other characters are escaped
abbrev pub escaped : (ℕ → Bool) → ℕ → ℕ → List ℕ
escaped test q c = if c == backslash || c == q then backslash ∷ c ∷ []
    else (if c == tab then codes "\\t"
    else (if c == line_feed then codes "\\n"
    else (if c == carriage_return then codes "\\r"
    else (if test c then hex_escape c else c ∷ []))))

-- a single quote, or a double quote where only single ones stand inside
abbrev pub quote_for : List ℕ → ℕ
quote_for cs = if list_any (λ c. c == single_quote) cs && not (list_any (λ c. c == double_quote) cs) then double_quote else single_quote

-- a quote, what stands for each character, and the quote again
abbrev pub quoted : (ℕ → Bool) → List ℕ → List ℕ
quoted test cs = let q = quote_for cs in q ∷ flat_map (escaped test q) cs ++ q ∷ []

-- the characters of a text's repr
abbrev pub repr_chars : List ℕ → List ℕ
repr_chars = quoted is_unprintable

-- the repr of a text, in UTF-8
abbrev pub repr_text : List ℕ → List ℕ
repr_text points = encode_utf8_all (repr_chars points)

-- the repr of bytes: a `b` before it
abbrev pub repr_bytes : List ℕ → List ℕ
repr_bytes bytes = 98 ∷ quoted is_unprintable_byte bytes

-- a byte that stands for itself between quotes of either kind: ASCII from the space to the tilde, but for the quotes and the backslash
abbrev pub is_plain : ℕ → Bool
is_plain b = (nat_le 0x20 b && nat_le b 0x7E) && (not (b == single_quote) && (not (b == double_quote) && not (b == backslash)))
