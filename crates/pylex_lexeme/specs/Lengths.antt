-- How long the parts of a literal are that stand at the front of a text: what a reader takes.
--
-- Internal: they say what each reader of numbers and strings does. What a number and a string are, is said in Numbers
-- and Strings.
use Rattle.std.specs.Prelude.{◌≡◌, ℕ, ◌+◌, zero, suc, Bool, true, ◌&&◌, ◌||◌, ◌==◌, not, nat_lt, List, [], ◌∷◌, drop, take, ◌≤◌, length}
use Rattle.std.specs.Prelude.{if◌then◌else◌, Option, Some, None, option_map}
use Rattle.pylex_lexeme.specs.Chars.{begins, is_r, is_b_or_f}
use Rattle.pylex_lexeme.specs.declared.kinds.Exact.{Exact}
use Rattle.pylex_lexeme.specs.Operators.{is_operator, exact_of}
use Rattle.pylex_lexeme.specs.Lexemes.{longest_within}
use Rattle.pylex_lexeme.specs.Strings.{units, is_unit, begins_quote, is_prefix}
use Rattle.pylex_lexeme.specs.Numbers.{is_decimal_digit, is_zero, is_hex_digit, is_octal_digit, is_binary_digit, is_point, is_e, is_j, is_x}
use Rattle.pylex_lexeme.specs.Numbers.{is_o, is_b, is_sign}
use Rattle.pylex_lexeme.specs.Characters.{line_feed, carriage_return, backslash, low_line}

-- the length of the longest front that passes; 0 where there is none
unfoldable pub longest : (List ℕ → Bool) → List ℕ → ℕ
longest p cs = longest_within p cs (length cs)

-- the operator that the longest front of a text is, and its length
unfoldable pub operator_at : List ℕ → Option (Exact × ℕ)
operator_at cs = option_map (λ e. (e, longest is_operator cs)) (exact_of (take (longest is_operator cs) cs))

-- the longest operator of at most two characters that begins with these, and its length
abbrev pub pair_at : ℕ → ℕ → Option (Exact × ℕ)
pair_at a b = elim (exact_of (a ∷ b ∷ [])) [ Some e ↦ Some (e, 2) | None ↦ option_map (λ e. (e, 1)) (exact_of (a ∷ [])) ]

-- n characters are taken from the front of old, and whether there are any is said
pub record Took (n : ℕ) (any : Bool) (old new : List ℕ) : Type 0 where
  pub taken : any ≡ nat_lt 0 n
  pub rest : new ≡ drop n old

-- (_?digit)*
abbrev pub joined_len : (ℕ → Bool) → List ℕ → ℕ
joined_len d [] = 0
joined_len d (a ∷ []) = if d a then 1 else 0
joined_len d (a ∷ b ∷ t) = if d a then suc (joined_len d (b ∷ t)) else (if (a == low_line) && d b then suc (suc (joined_len d t)) else 0)

-- a digit, or an underscore and a digit
abbrev pub begins_some : (ℕ → Bool) → List ℕ → Bool
begins_some d cs = begins d cs || (begins (λ c. c == low_line) cs && begins d (drop 1 cs))

-- (_?digit)+ after two characters
unfoldable pub based_len : (ℕ → Bool) → List ℕ → ℕ
based_len d cs = if begins_some d cs then 2 + joined_len d cs else 0

unfoldable pub radix_len : List ℕ → ℕ
radix_len cs =
    if begins is_zero cs then
    (if begins is_x (drop 1 cs) then based_len is_hex_digit (drop 2 cs)
    else (if begins is_o (drop 1 cs) then based_len is_octal_digit (drop 2 cs)
    else (if begins is_b (drop 1 cs) then based_len is_binary_digit (drop 2 cs) else 0)))
    else 0

unfoldable pub digit_part_len : List ℕ → ℕ
digit_part_len cs = if begins is_decimal_digit cs then joined_len is_decimal_digit cs else 0

unfoldable pub exponent_len : List ℕ → ℕ
exponent_len cs =
    if begins is_e cs then
    (if begins is_decimal_digit (drop 1 cs) then 1 + joined_len is_decimal_digit (drop 1 cs)
    else (if begins is_sign (drop 1 cs) && begins is_decimal_digit (drop 2 cs) then 2 + joined_len is_decimal_digit (drop 2 cs) else 0))
    else 0

-- a point, and perhaps a digitpart
unfoldable pub point_len : List ℕ → ℕ
point_len cs = if begins is_point cs then 1 + digit_part_len (drop 1 cs) else 0

unfoldable pub j_len : List ℕ → ℕ
j_len cs = if begins is_j cs then 1 else 0

-- what may stand after a digitpart
unfoldable pub fraction_len : List ℕ → ℕ
fraction_len cs = point_len cs + exponent_len (drop (point_len cs) cs)

unfoldable pub tail_len : List ℕ → ℕ
tail_len cs = fraction_len cs + j_len (drop (fraction_len cs) cs)

-- digits and a tail; without a tail a zero is followed by zeros alone
unfoldable pub plain_len : List ℕ → ℕ
plain_len cs =
    if not (nat_lt 0 (tail_len (drop (joined_len is_decimal_digit cs) cs))) && begins is_zero cs
    then joined_len is_zero cs
    else joined_len is_decimal_digit cs + tail_len (drop (joined_len is_decimal_digit cs) cs)

unfoldable pub number_len : List ℕ → ℕ
number_len cs = if nat_lt 0 (radix_len cs) then radix_len cs else plain_len cs

-- a digit, or a point and a digit
abbrev pub begins_number : List ℕ → Bool
begins_number cs = begins is_decimal_digit cs || (begins is_point cs && begins is_decimal_digit (drop 1 cs))

-- how long a unit is
unfoldable pub unit_len : List ℕ → ℕ
unit_len cs =
    if begins (λ c. c == backslash) cs then (if begins (λ c. c == carriage_return) (drop 1 cs) && begins (λ c. c == line_feed)
    (drop 2 cs) then 3 else 2)
    else 1

-- u more, but nothing stays nothing
abbrev pub shift : ℕ → ℕ → ℕ
shift u zero = zero
shift u (suc n) = u + suc n

-- the length of the units up to the first that is the quote, or 0
abbrev pub single_of : ℕ → List (List ℕ) → ℕ
single_of q [] = 0
single_of q (u ∷ us) =
    if is_unit q u then 1 else (if is_unit carriage_return u || is_unit line_feed u then 0 else shift (length u) (single_of q us))

-- the length of the units up to the first three that are the quote, or 0
abbrev pub triple_of : ℕ → List (List ℕ) → ℕ
triple_of q [] = 0
triple_of q (u ∷ []) = 0
triple_of q (u ∷ v ∷ []) = 0
triple_of q (u ∷ v ∷ w ∷ us) = if is_unit q u && is_unit q v && is_unit q w then 3 else shift (length u) (triple_of q (v ∷ w ∷ us))

unfoldable pub single_len : ℕ → List ℕ → ℕ
single_len q cs = single_of q (units cs)

unfoldable pub triple_len : ℕ → List ℕ → ℕ
triple_len q cs = triple_of q (units cs)

-- three quotes
abbrev pub begins_quotes : ℕ → List ℕ → Bool
begins_quotes q cs = begins (λ c. c == q) cs && begins (λ c. c == q) (drop 1 cs) && begins (λ c. c == q) (drop 2 cs)

-- the closer is found or not, and if so, n characters are taken
pub record Closed (n : ℕ) (any : Bool) (old new : List ℕ) : Type 0 where
  pub found : any ≡ nat_lt 0 n
  pub rest : any ≡ true → new ≡ drop n old

-- a prefix of n characters stands here, and a quote after it
pub record Opens (n : ℕ) (cs : List ℕ) : Type 0 where
  pub small : n ≤ 2
  pub «prefix» : is_prefix (take n cs) ≡ true
  pub quote : begins_quote (drop n cs) ≡ true

-- what is read from a quote on
unfoldable pub quoted_len : ℕ → List ℕ → ℕ
quoted_len q cs = if begins_quotes q cs then shift 3 (triple_len q (drop 3 cs)) else shift 1 (single_len q (drop 1 cs))

-- two letters of a prefix
abbrev pub begins_pair : List ℕ → Bool
begins_pair cs = (begins is_r cs && begins is_b_or_f (drop 1 cs)) || (begins is_b_or_f cs && begins is_r (drop 1 cs))

-- a backslash and a line end
abbrev pub begins_join : List ℕ → Bool
begins_join cs = begins (λ c. c == backslash) cs &&
    (begins (λ c. c == line_feed) (drop 1 cs) || (begins (λ c. c == carriage_return) (drop 1 cs) && begins
    (λ c. c == line_feed) (drop 1 (drop 1 cs))))
