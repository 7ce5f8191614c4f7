-- The class of a text, by its first characters.
--
-- Carries: words, by_words, heads, no_operator and 7 more, for Union, OperatorLengths, Seconds,
-- InLine. On: Best, Joined.
use Rattle.std.proofs.Common.{◌≡◌, ℕ, ◌≤◌, ◌<◌, Bool, true, false, ◌&&◌, ◌||◌, ◌==◌, List, [], ◌∷◌, map, refl, ◌∙◌, Some, None, arith, cond}
use Rattle.std.proofs.Common.{⊎_elim, eqb, leb, is_some}
use Rattle.std.specs.Prelude.{option_map, codes}
use Rattle.std.specs.List.{list_all, list_any, find}
use Rattle.std.specs.Str.{bytes_eq}
use Rattle.std.specs.Char.{is_ascii_alphabetic}
use Rattle.std.proofs.lemmas.Bool.Decides.{nat_tests}
use Rattle.std.proofs.lemmas.Bool.{leb-true, eqb-true, cases_lt, cases_Bool, and_parts, and_right, or_parts, or_cases}
use Rattle.unicode_ident.specs.Ident.{is_xid_start, is_xid_continue}
use Rattle.unicode_ident.proofs.IdentLemmas.{is_xid_start-ascii, is_xid_continue-ascii, is_xid_start-is_xid_continue}
use Rattle.pylex_lexeme.specs.Chars.{starts_name, is_comment_part, is_blank_char, begins}
use Rattle.pylex_lexeme.specs.Numbers.{is_nil, split_any, optional, headed, is_decimal_digit, is_zero, is_one_to_nine, is_point, is_j}
use Rattle.pylex_lexeme.specs.Numbers.{is_digit_part, is_exponent, is_number, is_decimal, is_radix, is_float, is_imaginary, is_point_after}
use Rattle.pylex_lexeme.specs.Numbers.{is_point_before, is_raised}
use Rattle.pylex_lexeme.specs.Operators.{Operator, operators, is_operator, exact_of}
use Rattle.pylex_lexeme.specs.Lexemes.{plain_class, is_name, is_comment, are_blanks, is_line_end, is_join}
use Rattle.pylex_lexeme.specs.declared.lexeme.Class.TheVariants.{Name, Comment, Blanks, LineEnd, Join}

-- Operators by their spellings
found : (t : List ℕ) (os : List Operator) → is_some (option_map (λ o. o.exact) (find (λ o. bytes_eq t o.spelling) os)) ≡ list_any
    (bytes_eq t) (map (λ o. o.spelling) os)
found t [] = refl
found t (o ∷ os) =
    ⊎_elim
    (λ (e : bytes_eq t o.spelling ≡ true). rw e refl)
    (λ (e : bytes_eq t o.spelling ≡ false). rw e (found t os))
    (cases_Bool (bytes_eq t o.spelling))

abbrev pub words : List (List ℕ)
words =
    codes "(" ∷ codes ")" ∷ codes "[" ∷ codes "]" ∷ codes "{" ∷ codes "}" ∷ codes ":" ∷ codes "," ∷ codes ";" ∷
    codes "+" ∷ codes "-" ∷ codes "*" ∷ codes "/" ∷ codes "|" ∷ codes "&" ∷ codes "<" ∷ codes ">" ∷ codes "=" ∷
    codes "." ∷ codes "%" ∷ codes "==" ∷ codes "!=" ∷ codes "<=" ∷ codes ">=" ∷ codes "~" ∷ codes "^" ∷ codes "<<" ∷
    codes ">>" ∷ codes "**" ∷ codes "+=" ∷ codes "-=" ∷ codes "*=" ∷ codes "/=" ∷ codes "%=" ∷ codes "&=" ∷ codes "|=" ∷
    codes "^=" ∷ codes "<<=" ∷ codes ">>=" ∷ codes "**=" ∷ codes "//" ∷ codes "//=" ∷ codes "@" ∷ codes "@=" ∷
    codes "->" ∷ codes "..." ∷ codes ":=" ∷ []

pub by_words : (t : List ℕ) → is_operator t ≡ list_any (bytes_eq t) words
unfolding is_operator exact_of operators
by_words t = found t operators

abbrev pub heads : List (List ℕ) → List ℕ
heads [] = []
heads ([] ∷ os) = heads os
heads ((x ∷ o) ∷ os) = x ∷ heads os

-- no text of a list begins with another character
pub no_head : (c : ℕ) (t : List ℕ) (os : List (List ℕ)) → list_any (eqb c) (heads os) ≡ false → list_any (bytes_eq (c ∷ t)) os ≡ false
no_head c t [] e = refl
no_head c t ([] ∷ os) e = no_head c t os e
no_head c t ((x ∷ o) ∷ os) e = let p = or_parts (eqb c x) (list_any (eqb c) (heads os)) e in rw p.0 (no_head c t os p.1)

pub no_operator : (c : ℕ) (t : List ℕ) → list_any (eqb c) (heads words) ≡ false → is_operator (c ∷ t) ≡ false
no_operator c t e = by_words (c ∷ t) ∙ no_head c t words e

-- Numbers by their first characters
split_off : (p q : List ℕ → Bool) (t : List ℕ) → ((u : List ℕ) → p u ≡ false) → split_any p q t ≡ false
split_off p q [] f = let e : p [] ≡ false = f [] in rw e refl
split_off p q (c ∷ t) f = let e : p [] ≡ false = f [] in rw e (split_off (λ u. p (c ∷ u)) q t (λ u. f (c ∷ u)))

part_off : (q : List ℕ → Bool) (t : List ℕ) → begins is_decimal_digit t ≡ false → split_any is_digit_part q t ≡ false
part_off q [] e = refl
part_off q (c ∷ t) e = split_off (λ u. is_digit_part (c ∷ u)) q t (λ u. rw e refl)

before_off : (c : ℕ) (t : List ℕ) → (is_point c && begins is_decimal_digit t) ≡ false → is_point_before (c ∷ t) ≡ false
unfolding is_point_before
before_off c t e =
    ⊎_elim
    (λ (h : is_point c ≡ true). let f : begins is_decimal_digit t ≡ false = simp h at e in let g =
    part_off (optional is_exponent) t f in rw (h, g) refl)
    (λ (h : is_point c ≡ false). rw h refl)
    (cases_Bool (is_point c))

float_off : (c : ℕ) (t : List ℕ) → is_decimal_digit c ≡ false → (is_point c && begins is_decimal_digit t) ≡ false → is_float (c ∷ t) ≡ false
unfolding is_float is_point_after is_raised
float_off c t d e =
    let f = part_off (headed is_point (split_any (optional is_digit_part) (optional is_exponent))) (c ∷ t) d in
    let g = part_off is_exponent (c ∷ t) d in
    let h = before_off c t e in
    rw (f, g, h) refl

real_off : (c : ℕ) (t : List ℕ) → is_decimal_digit c ≡ false → (is_point c && begins is_decimal_digit t) ≡ false
    → (is_digit_part (c ∷ t) || is_float (c ∷ t)) ≡ false
real_off c t d e = let f = float_off c t d e in rw (d, f) refl

float_none : is_float [] ≡ false
unfolding is_float is_point_after is_point_before is_raised
float_none = refl

imaginary_off : (c : ℕ) (t : List ℕ) → is_decimal_digit c ≡ false → (is_point c && begins is_decimal_digit t) ≡ false
    → is_imaginary (c ∷ t) ≡ false
unfolding is_imaginary
imaginary_off c [] d e = let f = real_off c [] d e in rw (float_none, f) refl
imaginary_off c (b ∷ t) d e =
    let f = real_off c [] d (and_right (is_point c) false refl) in
    let g = split_off (λ u. is_digit_part (c ∷ b ∷ u) || is_float (c ∷ b ∷ u)) (headed is_j is_nil) t (λ u. real_off c (b ∷ u) d e) in
    rw (float_none, f, g) refl

-- what begins with neither a digit nor a point and a digit is no number
pub no_number : (c : ℕ) (t : List ℕ) → is_decimal_digit c ≡ false → (is_point c && begins is_decimal_digit t) ≡ false
    → is_number (c ∷ t) ≡ false
unfolding is_number is_decimal is_radix
no_number c t d e =
    let z : is_zero c ≡ false = grind (arith, nat_tests, d) in
    let n : is_one_to_nine c ≡ false = grind (arith, nat_tests, d) in
    let f = float_off c t d e in
    let g = imaginary_off c t d e in
    rw (z, n, f, g) refl

-- What a name begins with: no other ASCII character than a letter or an underscore
data Start (c : ℕ) : Type 0 where
  past_ascii : 128 ≤ c → Start c
  upper : 65 ≤ c → c ≤ 90 → Start c
  lower : 97 ≤ c → c ≤ 122 → Start c
  underscore : c ≡ 95 → Start c

between : (a c b : ℕ) → (leb a c && leb c b) ≡ true → (a ≤ c) × (c ≤ b)
between a c b e = let p = and_parts (leb a c) (leb c b) e in (leb-true a c p.0, leb-true c b p.1)

ascii_start : (c : ℕ) → (is_ascii_alphabetic c || (c == 95)) ≡ true → Start c
ascii_start c e =
    ⊎_elim
    (λ (f : is_ascii_alphabetic c ≡ true).
    ⊎_elim
    (λ (g : (leb 65 c && leb c 90) ≡ true). let b = between 65 c 90 g in upper b.0 b.1)
    (λ (g : (leb 97 c && leb c 122) ≡ true). let b = between 97 c 122 g in lower b.0 b.1)
    (or_cases (leb 65 c && leb c 90) (leb 97 c && leb c 122) f))
    (λ (f : eqb c 95 ≡ true). underscore (eqb-true c 95 f))
    (or_cases (is_ascii_alphabetic c) (eqb c 95) e)

starts : (c : ℕ) → starts_name c ≡ true → Start c
starts c s =
    ⊎_elim
    (λ (h : c < 128). let a = is_xid_start-ascii c h in ascii_start c (rw (← a) s))
    (λ (h : 128 ≤ c). past_ascii h)
    (cases_lt c 128)

-- the characters that begin another lexeme than a name or a string
record Away (c : ℕ) : Type 0 where
  pub operator : list_any (eqb c) (heads words) ≡ false
  pub digit : is_decimal_digit c ≡ false
  pub point : is_point c ≡ false
  pub hash : eqb c 35 ≡ false
  pub blank : is_blank_char c ≡ false
  pub feed : eqb c 10 ≡ false
  pub return : eqb c 13 ≡ false
  pub slash : eqb c 92 ≡ false

name_away : (c : ℕ) → Start c → Away c
name_away c (past_ascii h) = record {
  operator = grind (arith, nat_tests);
  digit = grind (arith, nat_tests);
  point =
      grind (arith, nat_tests);
  hash = grind (arith, nat_tests);
  blank = grind (arith, nat_tests);
  feed = grind (arith, nat_tests);
  return =
      grind (arith, nat_tests);
  slash = grind (arith, nat_tests);
}
name_away c (upper h i) = record {
  operator = grind (arith, nat_tests);
  digit = grind (arith, nat_tests);
  point = grind (arith, nat_tests);
  hash = grind (arith, nat_tests);
  blank = grind (arith, nat_tests);
  feed = grind (arith, nat_tests);
  return = grind (arith, nat_tests);
  slash = grind (arith, nat_tests);
}
name_away c (lower h i) = record {
  operator = grind (arith, nat_tests);
  digit = grind (arith, nat_tests);
  point = grind (arith, nat_tests);
  hash = grind (arith, nat_tests);
  blank = grind (arith, nat_tests);
  feed = grind (arith, nat_tests);
  return = grind (arith, nat_tests);
  slash = grind (arith, nat_tests);
}
name_away c (underscore e) =
    rw e (record { operator = refl; digit = refl; point = refl; hash = refl; blank = refl; feed = refl; return = refl; slash = refl })

pub start_continues : (c : ℕ) → starts_name c ≡ true → is_xid_continue c ≡ true
start_continues c s =
    ⊎_elim
    (λ (e : is_xid_start c ≡ true). is_xid_start-is_xid_continue c e)
    (λ (e : eqb c 95 ≡ true). let f : c ≡ 95 = eqb-true c 95 e in rw f (is_xid_continue-ascii 95 (omega arith)))
    (or_cases (is_xid_start c) (eqb c 95) s)

-- What a text is that begins with a character
pub name_class : (c : ℕ) → starts_name c ≡ true → (t : List ℕ)
    → plain_class (c ∷ t) ≡ cond (headed starts_name (list_all is_xid_continue) (c ∷ t)) (Some Name) None
unfolding plain_class is_name is_comment are_blanks is_line_end is_join
name_class c s t =
    ⊎_elim
    (λ (e : list_all is_xid_continue t ≡ true). rw (s, e) refl)
    (λ (e : list_all is_xid_continue t ≡ false).
    let a = name_away c (starts c s) in
    let n = no_number c t a.digit (and_off (is_point c) (begins is_decimal_digit t) a.point) in
    let o = no_operator c t a.operator in
    rw (s, e, n, o, a.hash, a.blank, a.feed, a.return, a.slash) refl)
    (cases_Bool (list_all is_xid_continue t))
  where
    and_off : (x y : Bool) → x ≡ false → (x && y) ≡ false
    and_off x y e = rw e refl

no_start : (c : ℕ) → c < 128 → (is_ascii_alphabetic c || (c == 95)) ≡ false → starts_name c ≡ false
no_start c h e = rw (is_xid_start-ascii c h) e

hash_class : (t : List ℕ) → plain_class (35 ∷ t) ≡ cond (headed (λ c. c == 35) (list_all is_comment_part) (35 ∷ t)) (Some Comment) None
unfolding plain_class is_name is_comment are_blanks is_line_end is_join
hash_class t =
    let s = no_start 35 (omega arith) refl in
    let n = no_number 35 t refl refl in
    let o = no_operator 35 t refl in
    rw (s, n, o) refl

pub comment_class : (c : ℕ) → (c == 35) ≡ true → (t : List ℕ)
    → plain_class (c ∷ t) ≡ cond (headed (λ c. c == 35) (list_all is_comment_part) (c ∷ t)) (Some Comment) None
comment_class c e t = let f : c ≡ 35 = eqb-true c 35 e in rw f (hash_class t)

blank_at : (c : ℕ) → is_blank_char c ≡ true → starts_name c ≡ false → is_decimal_digit c ≡ false → is_point c ≡ false
    → list_any (eqb c) (heads words) ≡ false → (c == 35) ≡ false → (c == 10) ≡ false → (c == 13) ≡ false → (c == 92) ≡ false → (t : List ℕ)
    → plain_class (c ∷ t) ≡ cond (headed is_blank_char (list_all is_blank_char) (c ∷ t)) (Some Blanks) None
unfolding plain_class is_name is_comment are_blanks is_line_end is_join
blank_at c b s d p o h f r l t =
    let n = no_number c t d (rw p refl) in
    let q = no_operator c t o in
    ⊎_elim
    (λ (e : list_all is_blank_char t ≡ true). rw (s, n, q, h, b, e) refl)
    (λ (e : list_all is_blank_char t ≡ false). rw (s, n, q, h, b, e, f, r, l) refl)
    (cases_Bool (list_all is_blank_char t))

pub blank_class : (c : ℕ) → is_blank_char c ≡ true → (t : List ℕ)
    → plain_class (c ∷ t) ≡ cond (headed is_blank_char (list_all is_blank_char) (c ∷ t)) (Some Blanks) None
blank_class c s t =
    ⊎_elim
    (λ (g : (eqb c 32 || eqb c 9) ≡ true).
    ⊎_elim
    (λ (e : eqb c 32 ≡ true). let f : c ≡ 32 = eqb-true c 32 e in
    rw f (blank_at 32 refl (no_start 32 (omega arith) refl) refl refl refl refl refl refl refl t))
    (λ (e : eqb c 9 ≡ true). let f : c ≡ 9 = eqb-true c 9 e in
    rw f (blank_at 9 refl (no_start 9 (omega arith) refl) refl refl refl refl refl refl refl t))
    (or_cases (eqb c 32) (eqb c 9) g))
    (λ (e : eqb c 12 ≡ true). let f : c ≡ 12 = eqb-true c 12 e in
    rw f (blank_at 12 refl (no_start 12 (omega arith) refl) refl refl refl refl refl refl refl t))
    (or_cases (eqb c 32 || eqb c 9) (eqb c 12) s)

end_at : (c : ℕ) → starts_name c ≡ false → is_decimal_digit c ≡ false → is_point c ≡ false → list_any (eqb c) (heads words) ≡ false
    → (c == 35) ≡ false → is_blank_char c ≡ false → (c == 92) ≡ false → (t : List ℕ)
    → plain_class (c ∷ t) ≡ cond (is_line_end (c ∷ t)) (Some LineEnd) None
unfolding plain_class is_name is_comment are_blanks is_join
end_at c s d p o h b l t =
    let n = no_number c t d (rw p refl) in
    let q = no_operator c t o in
    rw (s, n, q, h, b, l) refl

pub end_class : (c : ℕ) → ((c == 10) || (c == 13)) ≡ true → (t : List ℕ)
    → plain_class (c ∷ t) ≡ cond (is_line_end (c ∷ t)) (Some LineEnd) None
end_class c s t =
    ⊎_elim
    (λ (e : eqb c 10 ≡ true). let f : c ≡ 10 = eqb-true c 10 e in
    rw f (end_at 10 (no_start 10 (omega arith) refl) refl refl refl refl refl refl t))
    (λ (e : eqb c 13 ≡ true). let f : c ≡ 13 = eqb-true c 13 e in
    rw f (end_at 13 (no_start 13 (omega arith) refl) refl refl refl refl refl refl t))
    (or_cases (eqb c 10) (eqb c 13) s)

no_end : (t : List ℕ) → is_line_end (92 ∷ t) ≡ false
unfolding is_line_end
no_end t = refl

slash_class : (t : List ℕ) → plain_class (92 ∷ t) ≡ cond (headed (λ c. c == 92) is_line_end (92 ∷ t)) (Some Join) None
unfolding plain_class is_name is_comment are_blanks is_join
slash_class t =
    let s = no_start 92 (omega arith) refl in
    let n = no_number 92 t refl refl in
    let o = no_operator 92 t refl in
    let e = no_end t in
    rw (s, n, o, e) refl

pub join_class : (c : ℕ) → (c == 92) ≡ true → (t : List ℕ)
    → plain_class (c ∷ t) ≡ cond (headed (λ c. c == 92) is_line_end (c ∷ t)) (Some Join) None
join_class c e t = let f : c ≡ 92 = eqb-true c 92 e in rw f (slash_class t)
