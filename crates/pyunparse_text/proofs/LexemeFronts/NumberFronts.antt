-- A number at the front of a text: what stands after it, where no name and no point goes on,
-- changes no length that a reader of numbers takes.
--
-- Carries: number_front, for PieceFronts. On: NumberParts, Fronts, Cases.
use Rattle.std.proofs.Common.{◌≡◌, ℕ, ◌+◌, Bool, true, false, not, ◌&&◌, ◌||◌, ◌==◌, List, [], ◌∷◌, ◌++◌, length, drop, refl, sym, ◌∙◌, ap}
use Rattle.std.proofs.Common.{arith}
use Rattle.std.proofs.Common.{suc, if◌then◌else◌, leb, ltb, ⊎_elim, Some, drop-drop, length-drop}
use Rattle.std.specs.Char.{is_ascii_alphanumeric}
use Rattle.std.proofs.Math.Seq.{take-length}
use Rattle.std.proofs.lemmas.Bool.{eqb-true, leb-true, cases_Bool, false_from_ne_true, and_parts}
use Rattle.std.proofs.lemmas.Bool.Decides.{nat_tests}
use Rattle.std.proofs.lemmas.List.{drop-append-le}
use Rattle.unicode_ident.specs.Ident.{is_xid_continue}
use Rattle.unicode_ident.proofs.IdentLemmas.{is_xid_continue-ascii}
use Rattle.pylex_lexeme.specs.declared.lexeme.Class.TheVariants.{Number}
use Rattle.pylex_lexeme.specs.Chars.{begins}
use Rattle.pylex_lexeme.specs.Numbers.{is_decimal_digit, is_zero, is_hex_digit, is_octal_digit, is_binary_digit, is_point, is_e, is_j, is_x}
use Rattle.pylex_lexeme.specs.Numbers.{is_o}
use Rattle.pylex_lexeme.specs.Numbers.{is_b, is_number}
use Rattle.pylex_lexeme.specs.Lengths.{longest, number_len, plain_len, radix_len, based_len, tail_len, fraction_len, point_len}
use Rattle.pylex_lexeme.specs.Lengths.{exponent_len, j_len}
use Rattle.pylex_lexeme.specs.Lengths.{digit_part_len, joined_len}
use Rattle.pylex_lexeme.specs.Lexemes.{lexeme_at}
use Rattle.pylex_lexeme.proofs.Callers.Fronts.{stop_first}
use Rattle.pylex_lexeme.proofs.Callers.Lexemes.{number_takes}
use Rattle.pylex_lexeme.proofs.Callers.Numbers.{either, either_not, zero_digit, exponent_none, longest_is, longest_number}
use Rattle.pyfstring_tokens.proofs.Callers.Lexemes.{is_lexeme}
use Rattle.pyunparse_text.proofs.LexemeFronts.Fronts.{leaves}
use Rattle.pyunparse_text.proofs.LexemeFronts.NumberParts.{number_begins, begins_more}

-- ---- What goes on in names.

-- all characters of a set go on in names
abbrev Continue : (ℕ → Bool) → Type 0
Continue f = (c : ℕ) → f c ≡ true → is_xid_continue c ≡ true

-- a letter, a digit or an underscore of ASCII
abbrev word : ℕ → Bool
word c = leb c 127 && (is_ascii_alphanumeric c || (c == 95))

word_continues : Continue word
word_continues c e =
    let h = and_parts (leb c 127) (is_ascii_alphanumeric c || (c == 95)) e in
    let b = leb-true c 127 h.0 in
    is_xid_continue-ascii c (omega arith) ∙ h.1

two_continue : (a b : ℕ) → word a ≡ true → word b ≡ true → Continue (λ c. (c == a) || (c == b))
two_continue a b e f c h = either is_xid_continue a b c h (word_continues a e) (word_continues b f)

digit_continues : Continue is_decimal_digit
digit_continues c e = word_continues c (grind (arith, nat_tests))

hex_continues : Continue is_hex_digit
hex_continues c e = word_continues c (grind (arith, nat_tests))

octal_continues : Continue is_octal_digit
octal_continues c e = word_continues c (grind (arith, nat_tests))

zero_continues : Continue is_zero
zero_continues c e = digit_continues c (zero_digit c e)

-- ---- After a text.

-- no name and no point goes on
record Ends (r : List ℕ) : Type 0 where
  pub continues : begins is_xid_continue r ≡ false
  pub point : begins is_point r ≡ false

-- What stands in names alone doesn't stand where no name goes on.
ends_there : (f : ℕ → Bool) (r : List ℕ) → Continue f → Ends r → begins f r ≡ false
ends_there f [] h n = refl
ends_there f (c ∷ r) h n = false_from_ne_true (f c) (λ g. let x = h c g in let e = n.continues in cc)

begins_front : (f : ℕ → Bool) (t r : List ℕ) → Continue f → Ends r → begins f (t ++ r) ≡ begins f t
begins_front f [] r h n = ends_there f r h n
begins_front f (c ∷ t) r h n = refl

joiner_off : (r : List ℕ) → Ends r → begins (λ c. c == 95) r ≡ false
joiner_off r n = ends_there (λ c. c == 95) r (λ c e. two_continue 95 95 refl refl c (rw e refl)) n

joined_front : (d : ℕ → Bool) (t r : List ℕ) → Continue d → Ends r → joined_len d (t ++ r) ≡ joined_len d t
joined_front d [] r h n = stop_first d r (ends_there d r h n) (joiner_off r n)
joined_front d (a ∷ []) [] h n = refl
joined_front d (a ∷ []) (b ∷ r) h n = rw (joined_front d [] (b ∷ r) h n, ends_there d (b ∷ r) h n) (last (d a) (a == 95))
  where
    last : (x y : Bool) → (if x then 1 else (if y && false then suc (suc (joined_len d r)) else 0)) ≡ (if x then 1 else 0)
    last true y = refl
    last false true = refl
    last false false = refl
joined_front d (a ∷ b ∷ t) r h n = rw (joined_front d (b ∷ t) r h n, joined_front d t r h n) refl

-- ---- The parts of a number.

based_front : (d : ℕ → Bool) (t r : List ℕ) → Continue d → Ends r → based_len d (t ++ r) ≡ based_len d t
unfolding based_len
based_front d [] r h n = rw (ends_there d r h n, joiner_off r n) refl
based_front d (c ∷ t) r h n = rw (begins_front d t r h n, joined_front d (c ∷ t) r h n) refl

radix_front : (t r : List ℕ) → Ends r → radix_len (t ++ r) ≡ radix_len t
unfolding radix_len
radix_front [] r n = rw (ends_there is_zero r zero_continues n) refl
radix_front (z ∷ []) r n =
    let x = ends_there is_x r (two_continue 120 88 refl refl) n in
    let o = ends_there is_o r (two_continue 111 79 refl refl) n in
    let b = ends_there is_b r (two_continue 98 66 refl refl) n in
    rw (x, o, b) refl
radix_front (z ∷ c ∷ t) r n =
    let x = based_front is_hex_digit t r hex_continues n in
    let o = based_front is_octal_digit t r octal_continues n in
    let b = based_front is_binary_digit t r (two_continue 48 49 refl refl) n in
    rw (x, o, b) refl

part_front : (t r : List ℕ) → Ends r → digit_part_len (t ++ r) ≡ digit_part_len t
unfolding digit_part_len
part_front t r n = rw (begins_front is_decimal_digit t r digit_continues n, joined_front is_decimal_digit t r digit_continues n) refl

point_front : (t r : List ℕ) → Ends r → point_len (t ++ r) ≡ point_len t
unfolding point_len
point_front [] r n = rw n.point refl
point_front (c ∷ t) r n = rw (part_front t r n) refl

j_front : (t r : List ℕ) → Ends r → j_len (t ++ r) ≡ j_len t
unfolding j_len
j_front t r n = rw (begins_front is_j t r (two_continue 106 74 refl refl) n) refl

-- An `e` at the end would take a sign after it, but isn't taken itself.
exponent_front : (t r : List ℕ) → Ends r → exponent_len t + j_len (drop (exponent_len t) t) ≡ length t
    → exponent_len (t ++ r) ≡ exponent_len t
unfolding exponent_len j_len
exponent_front [] r n h = exponent_none r (ends_there is_e r (two_continue 101 69 refl refl) n)
exponent_front (c ∷ []) r n h =
    ⊎_elim
    (λ (e : is_e c ≡ true). let j : is_j c ≡ false = either_not is_j 101 69 c e refl refl in let w : 0 + 0 ≡ 1 =
    simp (e, j) at h in absurd (omega arith))
    (λ (e : is_e c ≡ false). rw e refl)
    (cases_Bool (is_e c))
exponent_front (c ∷ s ∷ t) r n h =
    let a = joined_front is_decimal_digit (s ∷ t) r digit_continues n in
    let b = joined_front is_decimal_digit t r digit_continues n in
    rw (a, b, begins_front is_decimal_digit t r digit_continues n) refl

tail_front : (t r : List ℕ) → Ends r → tail_len t ≡ length t → tail_len (t ++ r) ≡ tail_len t
unfolding tail_len fraction_len
tail_front t r n h =
    let p = point_front t r n in
    let a = drop-append-le (point_len t) t r (omega arith) in
    let l = length-drop (point_len t) t in
    let x = exponent_front (drop (point_len t) t) r n
    (rw (drop-drop (exponent_len (drop (point_len t) t)) (point_len t) t) (omega arith)) in
    let b = drop-append-le (fraction_len t) t r (omega arith) in
    let j = j_front (drop (fraction_len t) t) r n in
    rw (p, a, x, b, j) refl

-- how many characters the digits at the front are
abbrev run : List ℕ → ℕ
run t = joined_len is_decimal_digit t

-- zeros alone are digits alone
zeros_run : (t : List ℕ) → joined_len is_zero t ≡ length t → run t ≡ length t
zeros_run [] h = refl
zeros_run (a ∷ []) h =
    ⊎_elim
    (λ (e : is_zero a ≡ true). rw (zero_digit a e) refl)
    (λ (e : is_zero a ≡ false). let w : 0 ≡ 1 = simp e at h in absurd (omega arith))
    (cases_Bool (is_zero a))
zeros_run (a ∷ b ∷ t) h =
    ⊎_elim
    (λ (e : is_zero a ≡ true). let w : suc (joined_len is_zero (b ∷ t)) ≡ suc (length (b ∷ t)) = simp e at h in
    rw (zero_digit a e) (ap suc (zeros_run (b ∷ t) (omega arith))))
    (λ (e : is_zero a ≡ false).
    ⊎_elim
    (λ (f : ((a == 95) && is_zero b) ≡ true).
    let g = and_parts (a == 95) (is_zero b) f in
    let w : suc (suc (joined_len is_zero t)) ≡ suc (suc (length t)) = simp (e, f) at h in
    let y : is_decimal_digit a ≡ false = (let z = eqb-true a 95 g.0 in rw z refl) in
    rw (y, g.0, zero_digit b g.1) (ap (λ k. suc (suc k)) (zeros_run t (omega arith))))
    (λ (f : ((a == 95) && is_zero b) ≡ false). let w : 0 ≡ length (a ∷ b ∷ t) = simp (e, f) at h in absurd (omega arith))
    (cases_Bool ((a == 95) && is_zero b)))
    (cases_Bool (is_zero a))

plain_front : (t r : List ℕ) → Ends r → plain_len t ≡ length t → plain_len (t ++ r) ≡ plain_len t
unfolding plain_len
plain_front t r n h =
    let k = all (not (ltb 0 (tail_len (drop (run t) t))) && begins is_zero t) refl h in
    let d = joined_front is_decimal_digit t r digit_continues n in
    let a = drop-append-le (run t) t r (omega arith) in
    let l = length-drop (run t) t in
    let u = tail_front (drop (run t) t) r n (omega arith) in
    rw (d, a, u, joined_front is_zero t r zero_continues n, begins_front is_zero t r zero_continues n) refl
  where
    all : (b : Bool) → (not (ltb 0 (tail_len (drop (run t) t))) && begins is_zero t) ≡ b →
        (if b then joined_len is_zero t else run t + tail_len (drop (run t) t)) ≡ length t → run t + tail_len (drop (run t) t) ≡ length t
    all false e h = h
    all true e h =
        let f = and_parts (not (ltb 0 (tail_len (drop (run t) t)))) (begins is_zero t) e in
        let z : tail_len (drop (run t) t) ≡ 0 = grind (arith, nat_tests) in
        let y = zeros_run t h in
        omega arith

number_kept : (t r : List ℕ) → Ends r → number_len t ≡ length t → number_len (t ++ r) ≡ length t
unfolding number_len
number_kept t r n h =
    let x = radix_front t r n in
    ⊎_elim
    (λ (e : ltb 0 (radix_len t) ≡ true). rw (x, e) (simp e at h))
    (λ (e : ltb 0 (radix_len t) ≡ false). let p : plain_len t ≡ length t = simp e at h in rw (x, e) (plain_front t r n p ∙ p))
    (cases_Bool (ltb 0 (radix_len t)))

-- ---- Numbers.

all_longest : (t : List ℕ) → is_number t ≡ true → longest is_number t ≡ length t
all_longest t e =
    longest_is is_number t (length t)
    (record { within = omega arith; passes = ap is_number (take-length t) ∙ e; longest = λ j h i. absurd (omega arith) })

pub number_front : (t r : List ℕ) → is_number t ≡ true → begins is_xid_continue r ≡ false → begins is_point r ≡ false
    → lexeme_at (t ++ r) ≡ Some (record { «class» = Number; text = t })
number_front t r i e p =
    let b = number_begins t i in
    let m = begins_more t r b in
    let l = number_kept t r (record { continues = e; point = p }) (sym (longest_number t b) ∙ all_longest t i) in
    is_lexeme t r Number (leaves t r Number (longest is_number (t ++ r)) (longest_number (t ++ r) m ∙ l) (number_takes (t ++ r) m))
