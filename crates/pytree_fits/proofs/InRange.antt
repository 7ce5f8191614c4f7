-- Carries: points_fit, bytes_fit. On: what each of a list is, as a test.
use Rattle.std.proofs.Common.{◌≡◌, refl, Fits, w8, get_or, arith, ℕ, ◌<◌, List, [], ◌∷◌, true}
use Rattle.std.specs.Prelude.{All}
use Rattle.std.specs.List.{list_all}
use Rattle.std.proofs.lemmas.Bool.{and_from, lt-ltb}
use Rattle.std.proofs.lemmas.List.Elements.{All-head, All-tail, All-from_get_or}
use Rattle.pytoken.specs.Laws.{is_byte}

pub small : (bs : List ℕ) → All (λ b. b < 0x100) bs → list_all is_byte bs ≡ true
small [] h = refl
small (b ∷ bs) h = and_from (is_byte b) (list_all is_byte bs) (lt-ltb b 0x100 (All-head (λ b. b < 0x100) b bs h))
    (small bs (All-tail (λ b. b < 0x100) b bs h))

pub all_bytes : (bs : List ℕ) → ((i : ℕ) → Fits w8 (get_or bs i 0)) → list_all is_byte bs ≡ true
all_bytes bs h = small bs (All-from_get_or (λ b. b < 0x100) bs 0 (λ i lt. omega (arith, h i)))
