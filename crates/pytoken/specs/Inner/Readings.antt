-- What the code reads of a token's text from a place on.
use Rattle.std.specs.Prelude.{◌≡◌, ℕ, ◌+◌, ◌*◌, ◌/◌, ◌%◌, ◌^◌, ◌<◌, ◌≤◌, EachIndex, slice_index, ◌==◌, ◌&&◌, ◌||◌, not}
use Rattle.std.specs.Prelude.{Bool, true, false, List, [], ◌∷◌, drop, nat_lt, nat_le, Option, Some, None, if◌then◌else◌}
use Rattle.std.specs.Char.{digit_value, is_digit}
use Rattle.std.specs.List.{flat_map, list_all}
use Rattle.std.specs.Str.Parse.{digits_value}
use Rattle.pynumber.specs.Readings.{written, most_digits}
use Rattle.pylex_lexeme.specs.Numbers.{is_x, is_o, is_b}
use Rattle.pytree_node.specs.declared.profiles.Extent.{Extent}
use Rattle.pytree_node.specs.declared.profiles.Extent.TheVariants.{Plain, Whole}
use Rattle.pytoken.specs.declared.meanings.Meaning.{Meaning}
use Rattle.pytoken.specs.declared.faults.TokenError.{TokenError}
use Rattle.pytoken.specs.StringValues.{is_quote}
use Rattle.pytoken.specs.Escapes.{Reading, reading, meanings, points_in}

-- a reading was made of the front of a text: what it means, and what is left of the text
pub record ReadsEscape (r : Reading) (old : List ℕ) (m : Meaning) (new : List ℕ) : Type 0 where
  pub meaning : m ≡ r.meaning
  pub following : new ≡ drop r.more old

-- the value of a digit at the front
abbrev pub first_digit : ℕ → List ℕ → Option ℕ
first_digit radix [] = None
first_digit radix (c ∷ cs) = if nat_lt (digit_value c) radix then Some (digit_value c) else None

abbrev pub first_meaning : Bool → Bool → List ℕ → Option Meaning
first_meaning raw bytes [] = None
first_meaning raw bytes (c ∷ cs) = Some (reading raw bytes c cs).meaning

abbrev pub after_meaning : Bool → Bool → List ℕ → List ℕ
after_meaning raw bytes [] = []
after_meaning raw bytes (c ∷ cs) = drop (reading raw bytes c cs).more cs

-- the base of a number by the letter after its leading 0
abbrev pub radix_by : ℕ → ℕ
radix_by c = if is_x c then 16 else (if is_o c then 8 else (if is_b c then 2 else 10))

-- a value with one more digit, unless it is past 2^128-1
abbrev pub one_more : ℕ → ℕ → ℕ → Option ℕ
one_more radix value c =
    let n = if c == 95 then value else value * radix + digit_value c in
    if nat_le (2 ^ 128) n then None else Some n

-- the value of some digits, unless it is past 2^128-1
abbrev pub whole_below : ℕ → List ℕ → Option ℕ
whole_below radix ds = if nat_le (2 ^ 128) (written radix ds) then None else Some (written radix ds)

-- the least whole number that an extent of the language has none of
abbrev pub limit_of : Extent → ℕ
limit_of Plain = 2 ^ 128
limit_of Whole = 10 ^ most_digits

-- a fault that is one in the plain language alone
abbrev pub in_plain : Extent → TokenError → Option TokenError
in_plain Plain e = Some e
in_plain Whole e = None

abbrev pub is_decimal_digit : ℕ → Bool
is_decimal_digit c = nat_le 48 c && nat_le c 57

-- bytes are decimal digits, of this value, which has room in 64 bits
pub record IsShort (bs : List ℕ) (value : ℕ) : Type 0 where
  pub digits : list_all is_decimal_digit bs ≡ true
  pub worth : value ≡ digits_value 10 bs
  pub fits : value < 2 ^ 64

-- The letters that keywords of a length begin with: bit 97 % 64 is set for a, and so on.
abbrev pub first_letters : ℕ → ℕ
first_letters len =
    if len == 2 then 0x0000_8202_0000_0000
    else (if len == 3 then 0x0010_4052_0000_0000
    else (if len == 4 then 0x0081_0060_0010_4000
    else (if len == 5 then 0x0284_000E_0000_0040
    else (if len == 6 then 0x0004_12A2_0000_0000
    else (if len == 7 then 0x0000_0040_0000_0000
    else (if len == 8 then 0x0000_4008_0000_0000
    else 0))))))

-- some keyword may have so many characters, and this letter in front
abbrev pub leads : ℕ → ℕ → Bool
leads len c = (first_letters len / 2 ^ (c % 64)) % 2 == 1

-- bytes of ASCII alone
abbrev pub AreLow : List ℕ → Type 0
AreLow bs = EachIndex bs (λ k. slice_index bs k < 128)

-- a character of ASCII, but no carriage return
abbrev pub is_own : ℕ → Bool
is_own c = nat_le c 0x7F && not (c == 13)

-- such a character that stands for itself in a literal, raw or not
abbrev pub stands : Bool → ℕ → Bool
stands raw c = is_own c && (raw || not (c == 92))

-- a quote stands at the front of a text
abbrev pub is_bare : List ℕ → Bool
is_bare [] = false
is_bare (c ∷ cs) = is_quote c

-- a character of ASCII that is neither of two
abbrev pub is_clear : ℕ → ℕ → ℕ → Bool
is_clear one other c = nat_le c 0x7F && (not (c == one) && not (c == other))

-- the bytes from a place up to another are such characters
abbrev pub IsClearBetween : ℕ → ℕ → List ℕ → ℕ → ℕ → Type 0
IsClearBetween one other bs i j = (k : ℕ) → i ≤ k → k < j → is_clear one other (slice_index bs k) ≡ true

-- a character that stands for itself in each literal: ASCII, but no backslash and not U+0000
abbrev pub is_plain : ℕ → Bool
is_plain c = nat_le c 0x7F && (not (c == 92) && not (c == 0))

-- a character that may begin a wrong escape, after a backslash: of an octal or hexadecimal escape, or \N
abbrev pub asks : ℕ → Bool
asks c = is_digit c 8 || ((c == 120) || ((c == 117) || ((c == 85) || (c == 78))))

-- a character that may be wrong in a literal, by whether a backslash stands before it
abbrev pub is_doubtful : Bool → Bool → ℕ → Bool
is_doubtful bytes following c = (following && asks c) || ((bytes && nat_lt 0x7F c) || ((c == 0) || (c == 13)))

-- no character of a text may be wrong in a literal, by whether a backslash stands before the first
abbrev pub is_calm : Bool → Bool → List ℕ → Bool
is_calm bytes following [] = true
is_calm bytes following (c ∷ cs) = not (is_doubtful bytes following c) && is_calm bytes (c == 92) cs

-- the points of a literal's body
abbrev pub body_points : Bool → Bool → List ℕ → List ℕ
body_points raw bytes body = flat_map points_in (meanings raw bytes body)
