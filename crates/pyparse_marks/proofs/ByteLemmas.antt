-- Carries: byte_at. On: a byte of a text, and 0 where there is none.
use Rattle.std.proofs.Common.{◌≡◌, refl, sym, ℕ, zero, suc, ◌<◌, ◌≤◌, arith, List, [], ◌∷◌, length, slice_index_or, true, false, nat_lt}
use Rattle.std.proofs.lemmas.Bool.{ltb-true, ltb-false}

within : (xs : List ℕ) (n d : ℕ) → n < length xs → slice_index_or xs n d ≡ slice_index_or xs n 0
within [] n d h = absurd (omega (arith, h))
within (x ∷ xs) zero d h = refl
within (x ∷ xs) (suc n) d h = within xs n d (omega (arith, h))

past : (xs : List ℕ) (n : ℕ) → length xs ≤ n → 0 ≡ slice_index_or xs n 0
past [] n h = refl
past (x ∷ xs) zero h = absurd (omega (arith, h))
past (x ∷ xs) (suc n) h = past xs n (omega (arith, h))

pub byte_within : (xs : List ℕ) (n d : ℕ) → true ≡ nat_lt n (length xs) → slice_index_or xs n d ≡ slice_index_or xs n 0
byte_within xs n d h = within xs n d (ltb-true n (length xs) (sym h))

pub byte_past : (xs : List ℕ) (n : ℕ) → false ≡ nat_lt n (length xs) → 0 ≡ slice_index_or xs n 0
byte_past xs n h = past xs n (ltb-false n (length xs) (sym h))
