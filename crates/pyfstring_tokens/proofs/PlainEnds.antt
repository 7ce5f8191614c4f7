-- Of the lexemes other than strings and comments none but the operator itself ends with a right
-- parenthesis.
--
-- Carries: new, next, by After. On: LastChars.
use Rattle.std.proofs.Common.{◌≡◌, ℕ, Bool, true, false, not, ◌&&◌, ◌||◌, ◌==◌, List, [], ◌∷◌, ◌++◌, refl, sym, ap, ◌∙◌, arith, ⊎_elim}
use Rattle.std.proofs.Common.{None, leb}
use Rattle.std.specs.List.{list_all}
use Rattle.std.specs.Str.{bytes_eq}
use Rattle.std.proofs.lemmas.Bool.Decides.{nat_tests}
use Rattle.std.proofs.lemmas.Slice.Eq.{bytes_eq-Decides}
use Rattle.unicode_ident.specs.Ident.{is_xid_continue}
use Rattle.unicode_ident.proofs.IdentLemmas.{is_xid_continue-ascii}
use Rattle.std.proofs.lemmas.Bool.{false_from_ne_true, or_cases, and_parts, and_right}
use Rattle.pylex_lexeme.specs.Chars.{is_blank_char}
use Rattle.pylex_lexeme.specs.Numbers.{headed, optional, split_any, are_some, is_digit_part, is_exponent, is_decimal_digit, is_zero}
use Rattle.pylex_lexeme.specs.Numbers.{is_hex_digit, is_octal_digit, is_point, is_e, is_radix, is_point_after, is_point_before, is_raised}
use Rattle.pylex_lexeme.specs.Numbers.{is_float, is_imaginary, is_number, is_nil}
use Rattle.pylex_lexeme.specs.Operators.{is_operator}
use Rattle.pylex_lexeme.specs.Lexemes.{is_name, is_comment, are_blanks, is_line_end, is_join, plain_class}
use Rattle.pylex_lexeme.proofs.Callers.Fronts.{split_all, joined_all}
use Rattle.pylex_lexeme.proofs.Callers.Lexemes.{words, by_words}
use Rattle.pylex_lexeme.proofs.Callers.Numbers.{part_all, decimal_part, digit_bounds, either, zero_digit}
use Rattle.pylex_lexeme.proofs.Callers.WholeLines.{one_of}
use Rattle.pyfstring_tokens.proofs.LastChars.{last_of, last_end}

-- from `+` to `z`
abbrev plain : ℕ → Bool
plain c = leb 43 c && leb c 122

-- all that passes consists of such characters
abbrev IsPlain : (List ℕ → Bool) → Type 0
IsPlain p = (t : List ℕ) → p t ≡ true → list_all plain t ≡ true

-- all characters of a set are such
abbrev ArePlain : (ℕ → Bool) → Type 0
ArePlain f = (c : ℕ) → f c ≡ true → plain c ≡ true

two_plain : (a b : ℕ) → plain a ≡ true → plain b ≡ true → ArePlain (λ c. (c == a) || (c == b))
two_plain a b e f c h = either plain a b c h e f

digit_plain : ArePlain is_decimal_digit
digit_plain c e = let b = digit_bounds c e in grind (arith, nat_tests)

headed_plain : {f : ℕ → Bool} {p : List ℕ → Bool} → ArePlain f → IsPlain p → IsPlain (headed f p)
headed_plain a h [] e = refl
headed_plain {f = f} {p = p} a h (c ∷ t) e = let q = and_parts (f c) (p t) e in rw (a c q.0) (h t q.1)

optional_plain : {p : List ℕ → Bool} → IsPlain p → IsPlain (optional p)
optional_plain h [] e = refl
optional_plain h (c ∷ t) e = h (c ∷ t) e

then_plain : {p q : List ℕ → Bool} → IsPlain p → IsPlain q → IsPlain (split_any p q)
then_plain {p = p} {q = q} f g t e = split_all plain p q true t f g e

or_plain : {p q : List ℕ → Bool} → IsPlain p → IsPlain q → IsPlain (λ t. p t || q t)
or_plain {p = p} {q = q} f g t e = ⊎_elim (f t) (g t) (or_cases (p t) (q t) e)

nil_plain : IsPlain is_nil
nil_plain [] e = refl
nil_plain (c ∷ t) e = cc

some_plain : {d : ℕ → Bool} → ArePlain d → IsPlain (are_some d)
some_plain a [] e = refl
some_plain {d = d} a (c ∷ t) e = joined_all plain d (c ∷ t) a refl e

part_plain : IsPlain is_digit_part
part_plain = part_all plain digit_plain refl

exponent_plain : IsPlain is_exponent
unfolding is_exponent
exponent_plain = or_plain (headed_plain e part_plain) (headed_plain e (headed_plain (two_plain 43 45 refl refl) part_plain))
  where
    e : ArePlain is_e
    e = two_plain 101 69 refl refl

float_plain : IsPlain is_float
unfolding is_float is_point_after is_point_before is_raised
float_plain =
    or_plain
    (or_plain
    (then_plain part_plain (headed_plain point (then_plain (optional_plain part_plain) (optional_plain exponent_plain))))
    (headed_plain point (then_plain part_plain (optional_plain exponent_plain))))
    (then_plain part_plain exponent_plain)
  where
    point : ArePlain is_point
    point c e = either plain 46 46 c (rw e refl) refl refl

based_plain : {f d : ℕ → Bool} → ArePlain f → ArePlain d → IsPlain (headed is_zero (headed f (are_some d)))
based_plain a b = headed_plain (λ c e. digit_plain c (zero_digit c e)) (headed_plain a (some_plain b))

radix_plain : IsPlain is_radix
unfolding is_radix
radix_plain =
    or_plain
    (or_plain (based_plain (two_plain 120 88 refl refl) hex) (based_plain (two_plain 111 79 refl refl) octal))
    (based_plain (two_plain 98 66 refl refl) (two_plain 48 49 refl refl))
  where
    hex : ArePlain is_hex_digit
    hex c e = grind (arith, nat_tests)

    octal : ArePlain is_octal_digit
    octal c e = grind (arith, nat_tests)

number_plain : IsPlain is_number
unfolding is_number is_imaginary
number_plain =
    or_plain
    (or_plain (or_plain (λ t e. part_plain t (decimal_part t e)) radix_plain) float_plain)
    (then_plain (or_plain part_plain float_plain) (headed_plain (two_plain 106 74 refl refl) nil_plain))

-- what a right parenthesis isn't among holds not of all characters of a text that ends with one
all_end : (p : ℕ → Bool) (cs : List ℕ) → p 41 ≡ false → list_all p (cs ++ 41 ∷ []) ≡ false
all_end p [] e = rw e refl
all_end p (c ∷ cs) e = and_right (p c) (list_all p (cs ++ 41 ∷ [])) (all_end p cs e)

name_end : (a : ℕ) (cs : List ℕ) → is_name (a ∷ (cs ++ 41 ∷ [])) ≡ false
unfolding is_name
name_end a cs = and_right _ (list_all is_xid_continue (cs ++ 41 ∷ [])) (all_end is_xid_continue cs (is_xid_continue-ascii 41 (omega arith)))

number_end : (cs : List ℕ) → is_number (cs ++ 41 ∷ []) ≡ false
number_end cs = false_from_ne_true (is_number (cs ++ 41 ∷ [])) (λ e. let h = number_plain (cs ++ 41 ∷ []) e in let f =
    all_end plain cs refl in
    let z : false ≡ true = sym f ∙ h in cc)

blanks_end : (a : ℕ) (cs : List ℕ) → are_blanks (a ∷ (cs ++ 41 ∷ [])) ≡ false
unfolding are_blanks
blanks_end a cs = and_right _ (list_all is_blank_char (cs ++ 41 ∷ [])) (all_end is_blank_char cs refl)

-- a single character, or one that ends otherwise
abbrev stands_alone : List ℕ → Bool
stands_alone [] = true
stands_alone (c ∷ []) = true
stands_alone (c ∷ d ∷ t) = not (last_of d t == 41)

not_alone : (a : ℕ) (cs : List ℕ) → stands_alone (a ∷ (cs ++ 41 ∷ [])) ≡ false
not_alone a [] = refl
not_alone a (b ∷ cs) = rw (last_end b cs 41) refl

operator_end : (a : ℕ) (cs : List ℕ) → is_operator (a ∷ (cs ++ 41 ∷ [])) ≡ false
operator_end a cs = false_from_ne_true (is_operator (a ∷ (cs ++ 41 ∷ []))) (λ e.
    let h = one_of stands_alone (a ∷ (cs ++ 41 ∷ [])) words refl (sym (by_words (a ∷ (cs ++ 41 ∷ []))) ∙ e) in
    let f = not_alone a cs in
    let z : false ≡ true = sym f ∙ h in
    cc)

feed_last : (d : ℕ) (t : List ℕ) → is_line_end t ≡ true → last_of d t ≡ 10
unfolding is_line_end
feed_last d t e = ⊎_elim
    (λ (h : bytes_eq t (10 ∷ []) ≡ true). ap (last_of d) ((bytes_eq-Decides t (10 ∷ [])).0 h))
    (λ (h : bytes_eq t (13 ∷ 10 ∷ []) ≡ true). ap (last_of d) ((bytes_eq-Decides t (13 ∷ 10 ∷ [])).0 h))
    (or_cases (bytes_eq t (10 ∷ [])) (bytes_eq t (13 ∷ 10 ∷ [])) e)

line_end_end : (cs : List ℕ) → is_line_end (cs ++ 41 ∷ []) ≡ false
line_end_end cs = false_from_ne_true (is_line_end (cs ++ 41 ∷ [])) (λ e. let z : 41 ≡ 10 = sym (last_end 0 cs 41)
    ∙ feed_last 0 (cs ++ 41 ∷ []) e in omega arith)

join_end : (a : ℕ) (cs : List ℕ) → is_join (a ∷ (cs ++ 41 ∷ [])) ≡ false
unfolding is_join
join_end a cs = and_right (a == 92) (is_line_end (cs ++ 41 ∷ [])) (line_end_end cs)

comment_end : (a : ℕ) (cs : List ℕ) → (a == 35) ≡ false → is_comment (a ∷ (cs ++ 41 ∷ [])) ≡ false
unfolding is_comment
comment_end a cs e = rw e refl

-- a text of more characters that ends with a right parenthesis is in no class but String and Comment
pub plain_end : (a : ℕ) (cs : List ℕ) → (a == 35) ≡ false → plain_class (a ∷ (cs ++ 41 ∷ [])) ≡ None
unfolding plain_class
plain_end a cs e =
    let n = name_end a cs in
    let d = number_end (a ∷ cs) in
    let o = operator_end a cs in
    let h = comment_end a cs e in
    let b = blanks_end a cs in
    let l = line_end_end (a ∷ cs) in
    let j = join_end a cs in
    rw (n, d, o, h, b, l, j) refl
