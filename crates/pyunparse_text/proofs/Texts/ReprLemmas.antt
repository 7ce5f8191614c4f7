-- Carries: put_bytes, put_str. The texts of literals: those of bytes are ASCII, and none is a sign.
use Rattle.std.proofs.Common.{◌≡◌, ◌∙◌, ℕ, zero, suc, ◌/◌, ◌%◌, ◌<◌, Bool, true, false, ◌&&◌, ◌||◌, ◌==◌, if◌then◌else◌, List, [], ◌∷◌}
use Rattle.std.proofs.Common.{◌++◌, refl}
use Rattle.std.proofs.Common.{arith, not}
use Rattle.std.specs.Prelude.{codes, nat_lt}
use Rattle.std.specs.List.{flat_map, list_any}
use Rattle.std.specs.Char.{digit_char}
use Rattle.std.specs.Str.{encode_utf8_all}
use Rattle.std.proofs.lemmas.Bool.{eqb-true}
use Rattle.std.proofs.lemmas.Bool.Decides.{nat_tests}
use Rattle.std.proofs.lemmas.Str.{encode_ascii, encodes-append}
use Rattle.pysource.specs.Reprs.{escaped, hex, hex_escape, is_unprintable_byte, quote_for, quoted, repr_bytes}

abbrev pub Plain : List ℕ → Type 0
Plain cs = encode_utf8_all cs ≡ cs

pub both : (a b : List ℕ) → Plain a → Plain b → Plain (a ++ b)
both a b p q = encodes-append a b ∙ (λ i. p i ++ q i)

pub one : (c : ℕ) → c < 128 → Plain (c ∷ [])
one c h = rw (encode_ascii c h) refl

pair : (c : ℕ) → c < 128 → Plain (92 ∷ c ∷ [])
pair c h = both (92 ∷ []) (c ∷ []) (one 92 (omega arith)) (one c h)

hex_plain : (width n : ℕ) → Plain (hex width n)
hex_plain zero n = refl
hex_plain (suc width) n =
    both (hex width (n / 16)) (digit_char (n % 16) ∷ []) (hex_plain width (n / 16))
    (one (digit_char (n % 16)) (small (n % 16) (omega arith)))
  where
    small : (d : ℕ) → d < 16 → digit_char d < 128
    small d h = grind (arith, nat_tests)

escape_plain : (c : ℕ) → Plain (hex_escape c)
escape_plain c = by (nat_lt c 0x100) (nat_lt c 0x1_0000)
  where
    by : (a b : Bool) → Plain (if a then codes "\\x" ++ hex 2 c else (if b then codes "\\u" ++ hex 4 c else codes "\\U" ++ hex 8 c))
    by true b = both (92 ∷ 120 ∷ []) (hex 2 c) (pair 120 (omega arith)) (hex_plain 2 c)
    by false true = both (92 ∷ 117 ∷ []) (hex 4 c) (pair 117 (omega arith)) (hex_plain 4 c)
    by false false = both (92 ∷ 85 ∷ []) (hex 8 c) (pair 85 (omega arith)) (hex_plain 8 c)

one_of : (b : Bool) (m n : ℕ) → m < 128 → n < 128 → (if b then m else n) < 128
one_of true m n h k = h
one_of false m n h k = k

quote_small : (cs : List ℕ) → quote_for cs < 128
quote_small cs = one_of (list_any (λ c. c == 39) cs && not (list_any (λ c. c == 34) cs)) 34 39 (omega arith) (omega arith)

escaped_plain : (q c : ℕ) → q < 128 → Plain (escaped is_unprintable_byte q c)
escaped_plain q c w = special (c == 92) (c == q) refl refl
  where
    own : (b : Bool) → is_unprintable_byte c ≡ b → Plain (if b then hex_escape c else c ∷ [])
    own true e = escape_plain c
    own false e = one c (grind (arith, nat_tests))

    others : (t n r : Bool)
        → Plain (if t then codes "\\t" else
        (if n then codes "\\n" else (if r then codes "\\r" else (if is_unprintable_byte c then hex_escape c else c ∷ []))))
    others true n r = pair 116 (omega arith)
    others false true r = pair 110 (omega arith)
    others false false true = pair 114 (omega arith)
    others false false false = own (is_unprintable_byte c) refl

    special : (a b : Bool) → (c == 92) ≡ a → (c == q) ≡ b →
        Plain
        (if a || b then 92 ∷ c ∷ [] else
        (if c == 9 then codes "\\t" else
        (if c == 10 then codes "\\n" else (if c == 13 then codes "\\r" else (if is_unprintable_byte c then hex_escape c else c ∷ [])))))
    special true b e f = let g : c ≡ 92 = eqb-true c 92 e in pair c (omega arith)
    special false true e f = let g : c ≡ q = eqb-true c q f in pair c (omega arith)
    special false false e f = others (c == 9) (c == 10) (c == 13)

each_plain : (q : ℕ) → q < 128 → (cs : List ℕ) → Plain (flat_map (escaped is_unprintable_byte q) cs)
each_plain q w [] = refl
each_plain q w (c ∷ cs) =
    both (escaped is_unprintable_byte q c) (flat_map (escaped is_unprintable_byte q) cs) (escaped_plain q c w) (each_plain q w cs)

pub bytes_plain : (bs : List ℕ) → encode_utf8_all (repr_bytes bs) ≡ repr_bytes bs
bytes_plain bs =
    let q : ℕ = quote_for bs in
    let w = quote_small bs in
    both (98 ∷ []) (quoted is_unprintable_byte bs) (one 98 (omega arith))
    (both (q ∷ []) (flat_map (escaped is_unprintable_byte q) bs ++ q ∷ []) (one q w)
    (both (flat_map (escaped is_unprintable_byte q) bs) (q ∷ []) (each_plain q w bs) (one q w)))
