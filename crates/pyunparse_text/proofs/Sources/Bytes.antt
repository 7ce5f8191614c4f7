-- The bytes of characters.
--
-- Carries: scalars_both, bytes_pass, first_byte, for Decoding, Scalars.
use Rattle.std.proofs.Common.{◌≡◌, ℕ, ◌+◌, ◌/◌, ◌≤◌, ◌<◌, Bool, true, false, List, [], ◌∷◌, ◌++◌, length, refl, ◌∙◌, arith, leb, ltb, cond}
use Rattle.std.proofs.Common.{⊎_elim}
use Rattle.std.specs.List.{list_all}
use Rattle.std.specs.Str.{encode_utf8_all, all_scalars}
use Rattle.std.proofs.Math.Utf8.{encode, next, scalar}
use Rattle.std.proofs.lemmas.Bool.{cases_lt, leb-true, and_parts}
use Rattle.std.proofs.lemmas.Bool.Decides.{nat_tests}
use Rattle.std.proofs.lemmas.List.Folds.{list_all-append}
use Rattle.std.proofs.lemmas.Str.{encode_ascii, length-encode, len_utf8_bounds}
use Rattle.pylex_lexeme.specs.Chars.{begins}

least : (a b : ℕ) → 128 ≤ a → leb 128 (a + b) ≡ true
least a b h = grind (arith, nat_tests)

next_high : (c : ℕ) → leb 128 (next c) ≡ true
next_high c = grind (arith, nat_tests)

-- no byte of a character past ASCII is ASCII
high : (c : ℕ) → 128 ≤ c → list_all (leb 128) (encode c) ≡ true
unfolding encode
high c h =
    let e : ltb c 128 ≡ false = grind (arith, nat_tests) in
    rw e (two (ltb c 2048) (ltb c 65536))
  where
    two : (a b : Bool)
        → list_all (leb 128)
        (cond a ((192 + c / 64) ∷ next c ∷ []) (cond b ((224 + c / 4096) ∷ next (c / 64) ∷ next c ∷ [])
        ((240 + c / 262144) ∷ next (c / 4096) ∷ next (c / 64) ∷ next c ∷ []))) ≡ true
    two true b = rw (least 192 (c / 64) (omega arith), next_high c) refl
    two false true = rw (least 224 (c / 4096) (omega arith), next_high (c / 64), next_high c) refl
    two false false = rw (least 240 (c / 262144) (omega arith), next_high (c / 4096), next_high (c / 64), next_high c) refl

weaker : (p : ℕ → Bool) → ((b : ℕ) → 128 ≤ b → p b ≡ true) → (bs : List ℕ) → list_all (leb 128) bs ≡ true → list_all p bs ≡ true
weaker p f [] e = refl
weaker p f (b ∷ bs) e =
    let q = and_parts (leb 128 b) (list_all (leb 128) bs) e in
    rw (f b (leb-true 128 b q.0), weaker p f bs q.1) refl

-- What each character passes, and each byte past ASCII, each byte passes.
pub bytes_pass : (p : ℕ → Bool) → ((b : ℕ) → 128 ≤ b → p b ≡ true) → (cs : List ℕ) → list_all p cs ≡ true
    → list_all p (encode_utf8_all cs) ≡ true
bytes_pass p f [] e = refl
bytes_pass p f (c ∷ cs) e =
    let q = and_parts (p c) (list_all p cs) e in
    let r = bytes_pass p f cs q.1 in
    list_all-append p (encode c) (encode_utf8_all cs) ∙ ⊎_elim
    (λ (h : c < 128). rw (encode_ascii c h, q.0, r) refl)
    (λ (h : 128 ≤ c). rw (weaker p f (encode c) (high c h), r) refl)
    (cases_lt c 128)

begins_all : (p : ℕ → Bool) → ((b : ℕ) → 128 ≤ b → p b ≡ false) → (bs r : List ℕ) → list_all (leb 128) bs ≡ true → 0 < length bs
    → begins p (bs ++ r) ≡ false
begins_all p f [] r e h = absurd (omega arith)
begins_all p f (b ∷ bs) r e h = let q = and_parts (leb 128 b) (list_all (leb 128) bs) e in f b (leb-true 128 b q.0)

-- the first byte of a text
pub first_byte : (p : ℕ → Bool) → ((b : ℕ) → 128 ≤ b → p b ≡ false) → (cs : List ℕ) → begins p cs ≡ false
    → begins p (encode_utf8_all cs) ≡ false
first_byte p f [] e = refl
first_byte p f (c ∷ cs) e =
    ⊎_elim
    (λ (h : c < 128). rw (encode_ascii c h) e)
    (λ (h : 128 ≤ c). let l = length-encode c in let b = len_utf8_bounds c in
    begins_all p f (encode c) (encode_utf8_all cs) (high c h) (omega arith))
    (cases_lt c 128)

pub scalars_both : (a b : List ℕ) → all_scalars a ≡ true → all_scalars b ≡ true → all_scalars (a ++ b) ≡ true
scalars_both [] b e f = f
scalars_both (c ∷ a) b e f =
    let q = and_parts (scalar c) (all_scalars a) e in
    rw (q.0, scalars_both a b q.1 f) refl
