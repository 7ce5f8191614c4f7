-- The characters of reprs are scalars.
--
-- Carries: what pyunparse_text cites. On: Bytes, Literals, Cases.
use Rattle.std.proofs.Common.{◌≡◌, ℕ, ◌/◌, ◌%◌, ◌≤◌, ◌<◌, Bool, true, false, ◌||◌, ◌==◌, List, [], ◌∷◌, ◌++◌, refl, sym, ◌∙◌, arith, zero}
use Rattle.std.proofs.Common.{suc, ◌⊎◌}
use Rattle.std.proofs.Common.{inl, ⊎_elim, if◌then◌else◌, leb}
use Rattle.std.specs.Prelude.{codes, nat_lt}
use Rattle.std.specs.List.{list_all, flat_map}
use Rattle.std.specs.Char.{digit_char}
use Rattle.std.specs.Str.{all_scalars}
use Rattle.std.proofs.Math.Utf8.{scalar, low_scalar}
use Rattle.std.proofs.lemmas.Bool.{eqb-true, cases_lt, leb-true, cases_Bool, or_cases, and_parts}
use Rattle.std.proofs.lemmas.Bool.Decides.{nat_tests}
use Rattle.pysource.specs.Reprs.{hex, hex_escape, escaped, quote_for, quoted, is_unprintable, is_unprintable_byte, repr_chars, repr_bytes}
use Rattle.pysource.proofs.Callers.Printing.{unprintable_no_character}
use Rattle.pyunparse_text.proofs.Sources.Bytes.{scalars_both}
use Rattle.pyunparse_text.proofs.SingleTokens.Literals.{which_quote}

one_scalar : (c : ℕ) → c < 128 → all_scalars (c ∷ []) ≡ true
one_scalar c h = let s = low_scalar c (omega arith) in rw s refl

pair_scalar : (b : ℕ) → b < 128 → all_scalars (92 ∷ b ∷ []) ≡ true
pair_scalar b h = let s = low_scalar b (omega arith) in rw s refl

hex_scalar : (width n : ℕ) → all_scalars (hex width n) ≡ true
hex_scalar zero n = refl
hex_scalar (suc width) n =
    scalars_both (hex width (n / 16)) (digit_char (n % 16) ∷ []) (hex_scalar width (n / 16))
    (one_scalar (digit_char (n % 16)) (small (n % 16) (omega arith)))
  where
    small : (d : ℕ) → d < 16 → digit_char d < 128
    small d h = grind (arith, nat_tests)

pub escape_scalar : (c : ℕ) → all_scalars (hex_escape c) ≡ true
escape_scalar c = by (nat_lt c 0x100) (nat_lt c 0x1_0000)
  where
    by : (a b : Bool) → all_scalars (if a then codes "\\x" ++ hex 2 c else (if b then codes "\\u" ++ hex 4 c else codes "\\U" ++ hex 8 c)) ≡
        true
    by true b = scalars_both (92 ∷ 120 ∷ []) (hex 2 c) refl (hex_scalar 2 c)
    by false true = scalars_both (92 ∷ 117 ∷ []) (hex 4 c) refl (hex_scalar 4 c)
    by false false = scalars_both (92 ∷ 85 ∷ []) (hex 8 c) refl (hex_scalar 8 c)

-- what stands for a character, where those that stand for themselves are scalars
pub escaped_scalar : (test : ℕ → Bool) (q c : ℕ) → (q ≡ 39) ⊎ (q ≡ 34) → (test c ≡ false → all_scalars (c ∷ []) ≡ true)
    → all_scalars (escaped test q c) ≡ true
escaped_scalar test q c w own =
    ⊎_elim
    (λ (h : (c == 92 || c == q) ≡ true). rw h (pair_scalar c (special h)))
    (λ (h : (c == 92 || c == q) ≡ false). rw h (others (c == 9) (c == 10) (c == 13)))
    (cases_Bool (c == 92 || c == q))
  where
    special : (c == 92 || c == q) ≡ true → c < 128
    special h = ⊎_elim
        (λ (e : (c == 92) ≡ true). let f : c ≡ 92 = eqb-true c 92 e in omega arith)
        (λ (e : (c == q) ≡ true). let f : c ≡ q = eqb-true c q e in ⊎_elim (λ (g : q ≡ 39). omega arith) (λ (g : q ≡ 34). omega arith) w)
        (or_cases (c == 92) (c == q) h)

    plain : (b : Bool) → test c ≡ b → all_scalars (if b then hex_escape c else c ∷ []) ≡ true
    plain true e = escape_scalar c
    plain false e = own e

    others : (t n r : Bool)
        → all_scalars (if t then codes "\\t" else
        (if n then codes "\\n" else (if r then codes "\\r" else (if test c then hex_escape c else c ∷ [])))) ≡ true
    others true n r = refl
    others false true r = refl
    others false false true = refl
    others false false false = plain (test c) refl

quoted_scalar : (test p : ℕ → Bool) → ((c : ℕ) → p c ≡ true → test c ≡ false → all_scalars (c ∷ []) ≡ true)
    → (cs : List ℕ) → list_all p cs ≡ true
    → all_scalars (quoted test cs) ≡ true
quoted_scalar test p f cs a =
    let q : ℕ = quote_for cs in
    let w = which_quote cs in
    let s : all_scalars (q ∷ []) ≡ true = ⊎_elim (λ (e : q ≡ 39). rw e refl) (λ (e : q ≡ 34). rw e refl) w in
    scalars_both (q ∷ []) (flat_map (escaped test q) cs ++ q ∷ []) s
    (scalars_both (flat_map (escaped test q) cs) (q ∷ []) (each cs q w a) s)
  where
    each : (cs : List ℕ) (q : ℕ) → (q ≡ 39) ⊎ (q ≡ 34) → list_all p cs ≡ true → all_scalars (flat_map (escaped test q) cs) ≡ true
    each [] q w a = refl
    each (c ∷ cs) q w a =
        let h = and_parts (p c) (list_all p cs) a in
        scalars_both (escaped test q c) (flat_map (escaped test q) cs) (escaped_scalar test q c w (f c h.0)) (each cs q w h.1)

own_byte : (b : ℕ) → is_unprintable_byte b ≡ false → all_scalars (b ∷ []) ≡ true
own_byte b e = one_scalar b (grind (arith, nat_tests))

pub bytes_scalars : (bs : List ℕ) → all_scalars (repr_bytes bs) ≡ true
bytes_scalars bs = quoted_scalar is_unprintable_byte (λ b. true) (λ b t e. own_byte b e) bs (all bs)
  where
    all : (bs : List ℕ) → list_all (λ b. true) bs ≡ true
    all [] = refl
    all (b ∷ bs) = all bs

pub high_scalar : (c : ℕ) → 57344 ≤ c → c ≤ 1114111 → scalar c ≡ true
high_scalar c h i = grind (arith, nat_tests)

pub own_char : (c : ℕ) → leb c 1114111 ≡ true → is_unprintable c ≡ false → all_scalars (c ∷ []) ≡ true
own_char c b e =
    let l = leb-true c 1114111 b in
    ⊎_elim
    (λ (h : c < 55296). let s = low_scalar c h in rw s refl)
    (λ (h : 55296 ≤ c).
    ⊎_elim
    (λ (i : c < 57344). absurd (let u = unprintable_no_character c (inl (h, omega arith)) in let z : true ≡ false = sym u ∙ e in cc))
    (λ (i : 57344 ≤ c). let s = high_scalar c i l in rw s refl)
    (cases_lt c 57344))
    (cases_lt c 55296)

-- of a text of code points
pub text_scalars : (cs : List ℕ) → list_all (λ c. leb c 1114111) cs ≡ true → all_scalars (repr_chars cs) ≡ true
text_scalars cs a = quoted_scalar is_unprintable (λ c. leb c 1114111) own_char cs a
