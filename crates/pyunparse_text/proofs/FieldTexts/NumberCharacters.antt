-- A number consists of letters, digits, `_`, `.`, `+` and `-`.
--
-- Carries: number_plain, number_in_line, for PieceScans, FormattedBodies, Decoding. On: Characters.
use Rattle.std.proofs.Common.{◌≡◌, ℕ, Bool, true, not, ◌||◌, ◌==◌, List, [], ◌∷◌, refl, ⊎_elim, arith}
use Rattle.std.specs.List.{list_all}
use Rattle.std.proofs.lemmas.Bool.Decides.{nat_tests}
use Rattle.std.proofs.lemmas.Bool.{or_cases, and_parts}
use Rattle.pyfstring.specs.Characters.{backslash}
use Rattle.pyfstring.specs.Expressions.{is_quote}
use Rattle.pylex_lexeme.specs.Chars.{is_comment_part}
use Rattle.pylex_lexeme.specs.Numbers.{is_nil, split_any, optional, headed, are_some, is_digit_part, is_exponent, is_decimal_digit, is_zero}
use Rattle.pylex_lexeme.specs.Numbers.{is_hex_digit, is_octal_digit, is_point, is_e, is_radix, is_point_after, is_point_before, is_raised}
use Rattle.pylex_lexeme.specs.Numbers.{is_float}
use Rattle.pylex_lexeme.specs.Numbers.{is_imaginary, is_number}
use Rattle.pylex_lexeme.proofs.Callers.Fronts.{joined_all, split_all}
use Rattle.pylex_lexeme.proofs.Callers.Numbers.{digit_bounds, either, zero_digit, decimal_part, part_all}
use Rattle.pyunparse_text.proofs.FieldTexts.Conditions.{is_own, is_inner, is_calm, is_plain}
use Rattle.pyunparse_text.proofs.FieldTexts.Characters.{plain_but}

-- all that passes consists of such characters
abbrev IsPlain : (List ℕ → Bool) → Type 0
IsPlain p = (t : List ℕ) → p t ≡ true → list_all is_plain t ≡ true

-- all characters of a set are such
abbrev ArePlain : (ℕ → Bool) → Type 0
ArePlain f = (c : ℕ) → f c ≡ true → is_plain c ≡ true

two_plain : (a b : ℕ) → is_plain a ≡ true → is_plain b ≡ true → ArePlain (λ c. (c == a) || (c == b))
two_plain a b e f c h = either is_plain a b c h e f

hex_plain : ArePlain is_hex_digit
hex_plain c e = plain_but is_hex_digit refl c e

digit_plain : ArePlain is_decimal_digit
digit_plain c e = let b = digit_bounds c e in hex_plain c (grind (arith, nat_tests))

headed_plain : {f : ℕ → Bool} {p : List ℕ → Bool} → ArePlain f → IsPlain p → IsPlain (headed f p)
headed_plain a h [] e = refl
headed_plain {f = f} {p = p} a h (c ∷ t) e = let q = and_parts (f c) (p t) e in rw (a c q.0) (h t q.1)

optional_plain : {p : List ℕ → Bool} → IsPlain p → IsPlain (optional p)
optional_plain h [] e = refl
optional_plain h (c ∷ t) e = h (c ∷ t) e

then_plain : {p q : List ℕ → Bool} → IsPlain p → IsPlain q → IsPlain (split_any p q)
then_plain {p = p} {q = q} f g t e = split_all is_plain p q true t f g e

or_plain : {p q : List ℕ → Bool} → IsPlain p → IsPlain q → IsPlain (λ t. p t || q t)
or_plain {p = p} {q = q} f g t e = ⊎_elim (f t) (g t) (or_cases (p t) (q t) e)

nil_plain : IsPlain is_nil
nil_plain [] e = refl
nil_plain (c ∷ t) e = cc

some_plain : {d : ℕ → Bool} → ArePlain d → IsPlain (are_some d)
some_plain a [] e = refl
some_plain {d = d} a (c ∷ t) e = joined_all is_plain d (c ∷ t) a refl e

part_plain : IsPlain is_digit_part
part_plain = part_all is_plain digit_plain refl

exponent_plain : IsPlain is_exponent
unfolding is_exponent
exponent_plain = or_plain (headed_plain e part_plain) (headed_plain e (headed_plain (two_plain 43 45 refl refl) part_plain))
  where
    e : ArePlain is_e
    e = two_plain 101 69 refl refl

float_plain : IsPlain is_float
unfolding is_float is_point_after is_point_before is_raised
float_plain =
    or_plain
    (or_plain
    (then_plain part_plain (headed_plain point (then_plain (optional_plain part_plain) (optional_plain exponent_plain))))
    (headed_plain point (then_plain part_plain (optional_plain exponent_plain))))
    (then_plain part_plain exponent_plain)
  where
    point : ArePlain is_point
    point c e = either is_plain 46 46 c (rw e refl) refl refl

based_plain : {f d : ℕ → Bool} → ArePlain f → ArePlain d → IsPlain (headed is_zero (headed f (are_some d)))
based_plain a b = headed_plain (λ c e. digit_plain c (zero_digit c e)) (headed_plain a (some_plain b))

radix_plain : IsPlain is_radix
unfolding is_radix
radix_plain =
    or_plain
    (or_plain (based_plain (two_plain 120 88 refl refl) hex_plain) (based_plain (two_plain 111 79 refl refl) octal))
    (based_plain (two_plain 98 66 refl refl) (two_plain 48 49 refl refl))
  where
    octal : ArePlain is_octal_digit
    octal c e = digit_plain c (grind (arith, nat_tests))

pub number_plain : IsPlain is_number
unfolding is_number is_imaginary
number_plain =
    or_plain
    (or_plain (or_plain (λ t e. part_plain t (decimal_part t e)) radix_plain) float_plain)
    (then_plain (or_plain part_plain float_plain) (headed_plain (two_plain 106 74 refl refl) nil_plain))

plain_in_line : (t : List ℕ) → list_all is_plain t ≡ true → list_all is_comment_part t ≡ true
plain_in_line [] e = refl
plain_in_line (c ∷ t) e =
    let h = and_parts (is_plain c) (list_all is_plain t) e in
    let calm = and_parts (is_calm c) _ h.0 in
    let inner = and_parts (is_inner c) _ calm.0 in
    let own = and_parts (is_own c) _ inner.0 in
    let i = and_parts (is_comment_part c) _ (and_parts (not (c == backslash)) _ (and_parts (not (is_quote c)) _ own.0).1).1 in
    rw i.0 (plain_in_line t h.1)

-- No number holds a line's end.
pub number_in_line : (t : List ℕ) → is_number t ≡ true → list_all is_comment_part t ≡ true
number_in_line t e = plain_in_line t (number_plain t e)
