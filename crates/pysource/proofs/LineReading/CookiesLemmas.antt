-- Steps of the search for a cookie, and what a spelled cookie is.
--
-- Carries: declared_first, encoding_of, named_by.
use Rattle.std.proofs.Common.{◌≡◌, ℕ, ◌+◌, ◌<◌, ◌≤◌, Bool, true, false, cond, List, [], ◌∷◌, length, drop, sym, ap, ◌∙◌, arith}
use Rattle.std.proofs.Common.{map, inl, inr}
use Rattle.std.specs.Prelude.{◌==◌, ◌&&◌, ◌⊎◌, nat_lt}
use Rattle.std.specs.List.{list_all}
use Rattle.std.proofs.Math.Bool.{and-false}
use Rattle.std.specs.Str.{IsAscii, bytes_eq}
use Rattle.std.proofs.lemmas.Str.Ascii.{IsAscii-nil, IsAscii-cons}
use Rattle.std.proofs.lemmas.Bool.Decides.{nat_tests}
use Rattle.std.proofs.lemmas.List.{drop-drop, length-drop, drop_all}
use Rattle.std.proofs.lemmas.Bool.{eq-eqb, ne_eqb, eqb-true, eqb-false, ltb-true, lt-ltb, and_parts}
use Rattle.pysource.specs.Cookies.{declared_here, declared_first, folded, is_spelled}

-- a place without a cookie is passed over
declared_first_step : (bs : List ℕ) → 0 < length bs → length (declared_here bs) ≡ 0 → declared_first bs ≡ declared_first (drop 1 bs)
unfolding declared_first
declared_first_step [] h e = absurd (omega arith)
declared_first_step (b ∷ bs) h e = rw (eq-eqb (length (declared_here (b ∷ bs))) 0 e)

-- a place with a cookie gives it
declared_first_found : (bs : List ℕ) → 0 < length bs → 0 < length (declared_here bs) → declared_first bs ≡ declared_here bs
unfolding declared_first
declared_first_found [] h e = absurd (omega arith)
declared_first_found (b ∷ bs) h e = rw (ne_eqb (length (declared_here (b ∷ bs))) 0 (λ z. absurd (omega arith)))

-- the two steps at a place of the whole
pub declared_first_more : (bs : List ℕ) (i : ℕ) → i < length bs → length (declared_here (drop i bs)) ≡ 0
    → declared_first (drop i bs) ≡ declared_first (drop (i + 1) bs)
declared_first_more bs i h e =
    let here : 0 < length (drop i bs) = simp length-drop (omega arith) in
    declared_first_step (drop i bs) here e ∙ ap declared_first (drop-drop 1 i bs)

pub declared_first_at : (bs : List ℕ) (i : ℕ) → i < length bs → 0 < length (declared_here (drop i bs))
    → declared_first (drop i bs) ≡ declared_here (drop i bs)
declared_first_at bs i h e =
    let here : 0 < length (drop i bs) = simp length-drop (omega arith) in
    declared_first_found (drop i bs) here e

-- past the end there is no cookie
pub declared_first_none : (bs : List ℕ) (i : ℕ) → length bs ≤ i → declared_first (drop i bs) ≡ []
unfolding declared_first
declared_first_none bs i h = rw (drop_all i bs h)

-- only ASCII folds to ASCII
folded_ascii : (b : ℕ) → folded b < 128 → b < 128
folded_ascii b h = grind (arith, nat_tests)

-- a cookie that spells an ASCII word is ASCII
pub spelled_ascii : (cookie word : List ℕ) → is_spelled cookie word ≡ true → list_all (λ w. nat_lt w 128) word ≡ true → IsAscii cookie
spelled_ascii [] word e h = IsAscii-nil
spelled_ascii (b ∷ bs) [] e h = cc
spelled_ascii (b ∷ bs) (w ∷ ws) e h =
    let parts = and_parts (folded b == w) (bytes_eq (map folded bs) ws) e in
    let words = and_parts (nat_lt w 128) (list_all (λ x. nat_lt x 128) ws) h in
    let same = eqb-true (folded b) w parts.0 in
    let low = ltb-true w 128 words.0 in
    IsAscii-cons b bs (folded_ascii b (omega arith)) (spelled_ascii bs ws parts.1 words.1)

-- which of the two lines counts
pub second_counts : {A : Type 0} (a b : ℕ) (l : Bool) (x y z : A) → a ≡ 0 → l ≡ true → 0 < b
    → cond (nat_lt 0 a) x (cond (l && nat_lt 0 b) y z) ≡ y
second_counts a b l x y z none leads some = rw (none, leads, lt-ltb 0 b some)

pub neither_counts : {A : Type 0} (a b : ℕ) (l : Bool) (x y z : A) → a ≡ 0 → (l ≡ false) ⊎ (b ≡ 0)
    → cond (nat_lt 0 a) x (cond (l && nat_lt 0 b) y z) ≡ z
neither_counts a b l x y z none out = elim out [ inl silent ↦ rw (none, silent) | inr empty ↦ rw (none, empty, and-false l) ]

-- what `is_empty` answered
pub not_empty : (xs : List ℕ) (b : Bool) → b ≡ (length xs == 0) → b ≡ false → 0 < length xs
not_empty xs b e f = let differ = eqb-false (length xs) 0 (sym e ∙ f) in omega (arith, differ)

pub empty : (xs : List ℕ) (b : Bool) → b ≡ (length xs == 0) → b ≡ true → length xs ≡ 0
empty xs b e t = eqb-true (length xs) 0 (sym e ∙ t)
