-- No lexeme but a string goes on after a line feed.
--
-- Carries: plain_none, for Kept. On: Best, Parts, Classes and 2 more.
use Rattle.std.proofs.Common.{◌≡◌, ℕ, ◌<◌, Bool, true, false, ◌||◌, ◌==◌, not, List, [], ◌∷◌, ◌++◌, length, refl, sym, ◌∙◌, ap, arith}
use Rattle.std.proofs.Common.{⊎_elim, None, length-append}
use Rattle.std.specs.List.{list_all, list_any}
use Rattle.std.specs.Str.{bytes_eq}
use Rattle.std.proofs.lemmas.Bool.{eqb-true, cases_Bool, and_parts, and_right, or_cases}
use Rattle.std.proofs.lemmas.Slice.Eq.{bytes_eq-Decides}
use Rattle.unicode_ident.specs.Ident.{is_xid_continue}
use Rattle.unicode_ident.proofs.IdentLemmas.{is_xid_start-ascii, is_xid_continue-ascii}
use Rattle.pylex_lexeme.specs.Chars.{starts_name, is_comment_part, is_blank_char}
use Rattle.pylex_lexeme.specs.Numbers.{headed, optional, split_any, are_some, is_digit_part, is_exponent, is_decimal_digit, is_zero}
use Rattle.pylex_lexeme.specs.Numbers.{is_hex_digit, is_octal_digit, is_binary_digit, is_point, is_e, is_j, is_x, is_o, is_b, is_sign}
use Rattle.pylex_lexeme.specs.Numbers.{is_decimal, is_radix, is_point_after, is_point_before, is_raised, is_float, is_imaginary, is_number}
use Rattle.pylex_lexeme.specs.Numbers.{is_nil}
use Rattle.pylex_lexeme.specs.Operators.{is_operator}
use Rattle.pylex_lexeme.specs.Lexemes.{is_name, is_comment, are_blanks, is_line_end, is_join, plain_class}
use Rattle.pylex_lexeme.specs.Chunks.{EndsLine}
use Rattle.pylex_lexeme.proofs.Fronts.Best.{split_all}
use Rattle.pylex_lexeme.proofs.Fronts.Joined.{joined_all}
use Rattle.pylex_lexeme.proofs.Numbers.Parts.{part_all, decimal_part}
use Rattle.pylex_lexeme.proofs.Strings.StringLongest.{eq_short}
use Rattle.pylex_lexeme.proofs.Lexemes.Classes.{words, by_words}

-- any character but LF
abbrev pub not_feed : ℕ → Bool
not_feed c = not (c == 10)

-- a set that LF isn't in
off_feed : (f : ℕ → Bool) → f 10 ≡ false → (c : ℕ) → f c ≡ true → not_feed c ≡ true
off_feed f e c h =
    ⊎_elim
    (λ (g : (c == 10) ≡ true). let z : c ≡ 10 = eqb-true c 10 g in let i : f 10 ≡ true = rw z at h in cc)
    (λ (g : (c == 10) ≡ false). rw g refl)
    (cases_Bool (c == 10))

all_off : (f : ℕ → Bool) → f 10 ≡ false → (t : List ℕ) → list_all f t ≡ true → list_all not_feed t ≡ true
all_off f e [] h = refl
all_off f e (c ∷ t) h = let p = and_parts (f c) (list_all f t) h in let i = off_feed f e c p.0 in rw i (all_off f e t p.1)

-- Numbers
headed_off : (f : ℕ → Bool) (p : List ℕ → Bool) → f 10 ≡ false → ((t : List ℕ) → p t ≡ true → list_all not_feed t ≡ true) → (t : List ℕ)
    → headed f p t ≡ true → list_all not_feed t ≡ true
headed_off f p e h [] i = refl
headed_off f p e h (c ∷ t) i = let q = and_parts (f c) (p t) i in let k = off_feed f e c q.0 in rw k (h t q.1)

optional_off : (p : List ℕ → Bool) → ((t : List ℕ) → p t ≡ true → list_all not_feed t ≡ true) → (t : List ℕ) → optional p t ≡ true
    → list_all not_feed t ≡ true
optional_off p h [] e = refl
optional_off p h (c ∷ t) e = h (c ∷ t) e

then_off : (p q : List ℕ → Bool) → ((t : List ℕ) → p t ≡ true → list_all not_feed t ≡ true)
    → ((t : List ℕ) → q t ≡ true → list_all not_feed t ≡ true) → (t : List ℕ) → split_any p q t ≡ true → list_all not_feed t ≡ true
then_off p q f g t e = split_all not_feed p q true t f g e

some_off : (d : ℕ → Bool) → d 10 ≡ false → (t : List ℕ) → are_some d t ≡ true → list_all not_feed t ≡ true
some_off d e [] h = refl
some_off d e (c ∷ t) h = joined_all not_feed d (c ∷ t) (off_feed d e) refl h

part_off : (t : List ℕ) → is_digit_part t ≡ true → list_all not_feed t ≡ true
part_off t e = part_all not_feed (off_feed is_decimal_digit refl) refl t e

exponent_off : (t : List ℕ) → is_exponent t ≡ true → list_all not_feed t ≡ true
unfolding is_exponent
exponent_off t e =
    ⊎_elim
    (headed_off is_e is_digit_part refl part_off t)
    (headed_off is_e (headed is_sign is_digit_part) refl (headed_off is_sign is_digit_part refl part_off) t)
    (or_cases (headed is_e is_digit_part t) (headed is_e (headed is_sign is_digit_part) t) e)

fraction_off : (t : List ℕ) → split_any (optional is_digit_part) (optional is_exponent) t ≡ true → list_all not_feed t ≡ true
fraction_off t e = then_off (optional is_digit_part) (optional is_exponent) (optional_off is_digit_part part_off)
    (optional_off is_exponent exponent_off) t e

float_off : (t : List ℕ) → is_float t ≡ true → list_all not_feed t ≡ true
unfolding is_float is_point_after is_point_before is_raised
float_off t e =
    ⊎_elim
    (λ (h : (is_point_after t || is_point_before t) ≡ true).
    ⊎_elim
    (then_off is_digit_part (headed is_point (split_any (optional is_digit_part) (optional is_exponent))) part_off
    (headed_off is_point (split_any (optional is_digit_part) (optional is_exponent)) refl fraction_off) t)
    (headed_off is_point (split_any is_digit_part (optional is_exponent)) refl (then_off is_digit_part (optional is_exponent) part_off
    (optional_off is_exponent exponent_off)) t)
    (or_cases (is_point_after t) (is_point_before t) h))
    (then_off is_digit_part is_exponent part_off exponent_off t)
    (or_cases (is_point_after t || is_point_before t) (is_raised t) e)

j_off : (t : List ℕ) → headed is_j is_nil t ≡ true → list_all not_feed t ≡ true
j_off t e = headed_off is_j is_nil refl nil t e
  where
    nil : (t : List ℕ) → is_nil t ≡ true → list_all not_feed t ≡ true
    nil [] h = refl
    nil (c ∷ t) h = cc

imaginary_off : (t : List ℕ) → is_imaginary t ≡ true → list_all not_feed t ≡ true
unfolding is_imaginary
imaginary_off t e = then_off (λ u. is_digit_part u || is_float u) (headed is_j is_nil)
    (λ u h. ⊎_elim (part_off u) (float_off u) (or_cases (is_digit_part u) (is_float u) h)) j_off t e

based_off : (f d : ℕ → Bool) → f 10 ≡ false → d 10 ≡ false → (t : List ℕ) → headed is_zero (headed f (are_some d)) t ≡ true
    → list_all not_feed t ≡ true
based_off f d e g t h = headed_off is_zero (headed f (are_some d)) refl (headed_off f (are_some d) e (some_off d g)) t h

radix_off : (t : List ℕ) → is_radix t ≡ true → list_all not_feed t ≡ true
unfolding is_radix
radix_off t e =
    ⊎_elim
    (λ (h : (headed is_zero (headed is_x (are_some is_hex_digit)) t || headed is_zero (headed is_o (are_some is_octal_digit)) t) ≡ true).
    ⊎_elim
    (based_off is_x is_hex_digit refl refl t)
    (based_off is_o is_octal_digit refl refl t)
    (or_cases (headed is_zero (headed is_x (are_some is_hex_digit)) t) (headed is_zero (headed is_o (are_some is_octal_digit)) t) h))
    (based_off is_b is_binary_digit refl refl t)
    (or_cases (headed is_zero (headed is_x (are_some is_hex_digit)) t || headed is_zero (headed is_o (are_some is_octal_digit)) t)
    (headed is_zero (headed is_b (are_some is_binary_digit)) t) e)

pub number_off : (t : List ℕ) → is_number t ≡ true → list_all not_feed t ≡ true
unfolding is_number
number_off t e =
    ⊎_elim
    (λ (h : (is_decimal t || is_radix t || is_float t) ≡ true).
    ⊎_elim
    (λ (i : (is_decimal t || is_radix t) ≡ true). ⊎_elim (λ (k : is_decimal t ≡ true). part_off t (decimal_part t k)) (radix_off t)
    (or_cases (is_decimal t) (is_radix t) i))
    (float_off t)
    (or_cases (is_decimal t || is_radix t) (is_float t) h))
    (imaginary_off t)
    (or_cases (is_decimal t || is_radix t || is_float t) (is_imaginary t) e)

-- Operators
pub one_of : (p : List ℕ → Bool) (t : List ℕ) (os : List (List ℕ)) → list_all p os ≡ true → list_any (bytes_eq t) os ≡ true → p t ≡ true
one_of p t [] e h = cc
one_of p t (o ∷ os) e h =
    let q = and_parts (p o) (list_all p os) e in
    ⊎_elim
    (λ (i : bytes_eq t o ≡ true). ap p ((bytes_eq-Decides t o).0 i) ∙ q.0)
    (λ (i : list_any (bytes_eq t) os ≡ true). one_of p t os q.1 i)
    (or_cases (bytes_eq t o) (list_any (bytes_eq t) os) h)

pub operator_off : (t : List ℕ) → is_operator t ≡ true → list_all not_feed t ≡ true
operator_off t e = one_of (list_all not_feed) t words refl (sym (by_words t) ∙ e)

-- Names, comments, blanks
pub name_off : (t : List ℕ) → is_name t ≡ true → list_all not_feed t ≡ true
unfolding is_name
name_off t e = headed_off starts_name (list_all is_xid_continue) (rw (is_xid_start-ascii 10 (omega arith)) refl)
    (all_off is_xid_continue (is_xid_continue-ascii 10 (omega arith))) t (by t e)
  where
    by : (t : List ℕ) → is_name t ≡ true → headed starts_name (list_all is_xid_continue) t ≡ true
    by [] h = h
    by (c ∷ t) h = h

pub comment_off : (t : List ℕ) → is_comment t ≡ true → list_all not_feed t ≡ true
unfolding is_comment
comment_off t e = headed_off (λ c. c == 35) (list_all is_comment_part) refl (all_off is_comment_part refl) t (by t e)
  where
    by : (t : List ℕ) → is_comment t ≡ true → headed (λ c. c == 35) (list_all is_comment_part) t ≡ true
    by [] h = h
    by (c ∷ t) h = h

pub blanks_off : (t : List ℕ) → are_blanks t ≡ true → list_all not_feed t ≡ true
unfolding are_blanks
blanks_off t e = headed_off is_blank_char (list_all is_blank_char) refl (all_off is_blank_char refl) t (by t e)
  where
    by : (t : List ℕ) → are_blanks t ≡ true → headed is_blank_char (list_all is_blank_char) t ≡ true
    by [] h = h
    by (c ∷ t) h = h

-- Line ends
long_end : (t : List ℕ) → 2 < length t → is_line_end t ≡ false
unfolding is_line_end
long_end [] h = absurd (omega arith)
long_end (a ∷ []) h = absurd (omega arith)
long_end (a ∷ b ∷ []) h = absurd (omega arith)
long_end (a ∷ b ∷ c ∷ t) h =
    let s = eq_short a b 10 (c ∷ t) in
    ⊎_elim
    (λ (e : (a == 13) ≡ true). ⊎_elim (λ (f : (b == 10) ≡ true). rw (s, e, f) refl)
    (λ (f : (b == 10) ≡ false). rw (s, e, f) refl) (cases_Bool (b == 10)))
    (λ (e : (a == 13) ≡ false). rw (s, e) refl)
    (cases_Bool (a == 13))

end_off : (front : List ℕ) (c : ℕ) (u : List ℕ) → is_line_end ((front ++ 10 ∷ []) ++ c ∷ u) ≡ false
unfolding is_line_end
end_off [] c u = refl
end_off (a ∷ front) c u = long_end (a ∷ (front ++ 10 ∷ []) ++ c ∷ u) (omega (
  arith,
  length-append (front ++ 10 ∷ []) (c ∷ u),
  length-append front (10 ∷ []),
))

join_off : (front : List ℕ) (c : ℕ) (u : List ℕ) → is_join ((front ++ 10 ∷ []) ++ c ∷ u) ≡ false
unfolding is_join
join_off [] c u = refl
join_off (a ∷ front) c u = and_right (a == 92) (is_line_end ((front ++ 10 ∷ []) ++ c ∷ u)) (end_off front c u)

feed_in : (front : List ℕ) (v : List ℕ) → list_all not_feed ((front ++ 10 ∷ []) ++ v) ≡ false
feed_in [] v = refl
feed_in (a ∷ front) v = and_right (not_feed a) (list_all not_feed ((front ++ 10 ∷ []) ++ v)) (feed_in front v)

past_feed : (front : List ℕ) (c : ℕ) (u : List ℕ) → plain_class ((front ++ 10 ∷ []) ++ c ∷ u) ≡ None
unfolding plain_class
past_feed front c u =
    let t : List ℕ = (front ++ 10 ∷ []) ++ c ∷ u in
    let n = off (is_name t) (name_off t) in
    let d = off (is_number t) (number_off t) in
    let o = off (is_operator t) (operator_off t) in
    let h = off (is_comment t) (comment_off t) in
    let b = off (are_blanks t) (blanks_off t) in
    let e = end_off front c u in
    let j = join_off front c u in
    rw (n, d, o, h, b, e, j) refl
  where
    off : (b : Bool) → (b ≡ true → list_all not_feed ((front ++ 10 ∷ []) ++ c ∷ u) ≡ true) → b ≡ false
    off true f = let x = f refl in let y = feed_in front (c ∷ u) in cc
    off false f = refl

-- what is longer than a text of whole lines is in no class but String
pub plain_none : (cs : List ℕ) (c : ℕ) (u : List ℕ) → EndsLine cs → plain_class (cs ++ c ∷ u) ≡ None
plain_none cs c u l = ap (λ t. plain_class (t ++ c ∷ u)) l.1 ∙ past_feed l.0 c u
