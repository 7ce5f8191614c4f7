-- Which constants the literals of a source stand for in an extent of the language (reference 2.4).
use Rattle.std.specs.Prelude.{ℕ, zero, suc, ◌^◌, ◌==◌, Bool, true, false, ◌&&◌, ◌||◌, not, nat_lt, nat_le, List}
use Rattle.std.specs.List.{list_all}
use Rattle.std.specs.Float.Ieee.{Float, binary64, fits}
use Rattle.pynumber.specs.Readings.{most_digits}
use Rattle.pynumber.specs.Laws.{is_unsigned}
use Rattle.pytree_node.specs.Values as values
use Rattle.pytree_node.specs.Values.{Value}
use Rattle.pytree_node.specs.declared.profiles.Extent.{Extent}
use Rattle.pytree_node.specs.declared.profiles.Extent.TheVariants.{Plain, Whole}
use Rattle.pylex_lexeme.specs.Characters.{line_feed, carriage_return, backslash, single_quote, double_quote, left_curly_bracket}
use Rattle.pylex_lexeme.specs.Characters.{right_curly_bracket}
use Rattle.pytoken.specs.Laws.{is_point, is_byte}
use Rattle.pytree_fits.specs.Tests.{Tests}

-- whole numbers: in the plain language those below 2 to the 128, in the whole one those that Python writes
abbrev pub has_integer : Extent → ℕ → Bool
has_integer Plain n = nat_lt n (2 ^ 128)
has_integer Whole n = nat_lt n (10 ^ most_digits)

-- floats, also of imaginary numbers: in the plain language none, in the whole one the doubles that a literal may have
abbrev pub has_float : Extent → Float → Bool
has_float Plain x = false
has_float Whole x = fits binary64 x && is_unsigned x

-- A character that stands for itself between quotes of either kind: none of NUL, the line ends, the backslash and the quotes, and no
-- surrogate.
abbrev pub is_bare : ℕ → Bool
is_bare c =
    is_point c && not (nat_le 0xD800 c && nat_le c 0xDFFF)
    && not (c == 0 || c == line_feed || c == carriage_return || c == backslash || c == single_quote || c == double_quote)

abbrev pub is_bare_byte : ℕ → Bool
is_bare_byte b = nat_lt b 0x80 && is_bare b

abbrev pub is_no_brace : ℕ → Bool
is_no_brace c = not (c == left_curly_bracket || c == right_curly_bracket)

-- a text of code points, and bytes, by the number of fields that they stand in: in a field of an f-string each character is bare, and an
-- f-string there
-- has no literal in its own fields
abbrev pub has_text : ℕ → List ℕ → Bool
has_text zero points = list_all is_point points
has_text (suc zero) points = list_all is_bare points
has_text (suc (suc k)) points = false

abbrev pub has_bytes : ℕ → List ℕ → Bool
has_bytes zero bytes = list_all is_byte bytes
has_bytes (suc zero) bytes = list_all is_bare_byte bytes
has_bytes (suc (suc k)) bytes = false

-- a text of an f-string in so many fields, by the number of format specs that it stands in: in a field, those have no brace
abbrev pub has_formatted_text : ℕ → ℕ → List ℕ → Bool
has_formatted_text zero d points = list_all is_point points
has_formatted_text (suc k) zero points = has_text (suc k) points
has_formatted_text (suc k) (suc d) points = has_text (suc k) points && list_all is_no_brace points

-- a number of the extent, a text, bytes, or one of the constants that are words or signs
abbrev pub is_value : Tests → Value → Bool
is_value n (values.Int i) = has_integer n.extent i
is_value n (values.Float x) = has_float n.extent x
is_value n (values.Imaginary x) = has_float n.extent x
is_value n (values.Str points unicode) = has_text n.fields points
is_value n (values.Bytes bytes) = has_bytes n.fields bytes
is_value n _ = true
