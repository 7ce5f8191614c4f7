-- Carries: block_is_clear, ends_are_clear, blocks_are_clear, is_ascii, are_plain, plain_len. On: bytes of ASCII that are none of two,
-- and the mask of a block of bytes.
use Rattle.std.proofs.Common.{◌≡◌, ℕ, ◌+◌, ◌%◌, ◌^◌, ◌≤◌, Bool, true, false, List, [], ◌∷◌, length, map, replicate, bit_or, cond, eqb, ltb}
use Rattle.std.proofs.Common.{get_or, refl, sym, ap, ◌∙◌, arith}
use Rattle.std.specs.Prelude.{◌==◌, ◌&&◌, ◌||◌, not, nat_le}
use Rattle.std.specs.List.{list_all, prefix_len}
use Rattle.std.specs.Simd.Lanes.{chunk, zip2, mask_l, top}
use Rattle.std.proofs.lemmas.Bool.{and_parts, or_parts, not_from_false, and_from, or_right, le-leb, leb-true, ltb-false, eqb-true}
use Rattle.std.proofs.lemmas.List.{length-map}
use Rattle.std.proofs.lemmas.List.Elements.{All-from_get_or}
use Rattle.std.proofs.lemmas.List.Sums.{list_all-from_AllPass}
use Rattle.std.proofs.lemmas.Simd.{length-chunk, map-map, mask_l-mod, none_from_empty_mask, zip2_of_maps, zip2_splat, zip2_splat_left}
use Rattle.pytoken.specs.Inner.Readings.{AreLow, is_own, stands, is_clear, IsClearBetween}

-- The lane of a byte: all its bits are set where the byte isn't clear.

abbrev lane : Bool → ℕ
lane b = cond b 255 0

abbrev lane_of : ℕ → ℕ → ℕ → ℕ
lane_of one other x = bit_or (bit_or (lane (ltb 127 x)) (lane (eqb x one))) (lane (eqb x other))

lanes_joined : (a b c : Bool) → top 7 (bit_or (bit_or (lane a) (lane b)) (lane c)) ≡ ((a || b) || c)
lanes_joined true true true = refl
lanes_joined true true false = refl
lanes_joined true false true = refl
lanes_joined true false false = refl
lanes_joined false true true = refl
lanes_joined false true false = refl
lanes_joined false false true = refl
lanes_joined false false false = refl

unmarked : (one other x : ℕ) → top 7 (lane_of one other x) ≡ false → is_clear one other x ≡ true
unmarked one other x none =
    let first = or_parts (ltb 127 x || eqb x one) (eqb x other) (sym (lanes_joined (ltb 127 x) (eqb x one) (eqb x other)) ∙ none) in
    let second = or_parts (ltb 127 x) (eqb x one) first.0 in
    and_from (nat_le x 0x7F) (not (x == one) && not (x == other)) (le-leb x 127 (ltb-false 127 x second.0))
    (and_from (not (x == one)) (not (x == other)) (not_from_false (x == one) second.1) (not_from_false (x == other) first.1))

-- a block of which no lane is marked, as the code makes them
pub block_clear : (bs : List ℕ) (at n one other : ℕ) → at + n ≤ length bs → n ≤ 64
    → (mask_l (map (top 7) (zip2 bit_or (zip2 bit_or (zip2 (λ a b. lane (ltb a b)) (replicate n 127) (chunk at n bs))
    (zip2 (λ a b. lane (eqb a b)) (chunk at n bs) (replicate n one)))
    (zip2 (λ a b. lane (eqb a b)) (chunk at n bs) (replicate n other)))) % 2 ^ 64 == 0) ≡ true
    → IsClearBetween one other bs at (at + n)
block_clear bs at n one other room few none =
    let v = chunk at n bs in
    let long = length-chunk at n bs room in
    let marks = λ (x : ℕ). top 7 (lane_of one other x) in
    let joined = zip2_of_maps bit_or _ _ v
    (zip2_of_maps bit_or _ _ v (zip2_splat_left (λ a b. lane (ltb a b)) 127 n v long) (zip2_splat (λ a b. lane (eqb a b)) v n one long))
    (zip2_splat (λ a b. lane (eqb a b)) v n other long) in
    let mask = ap (λ (l : List Bool). mask_l l % 2 ^ 64) (ap (map (top 7)) joined ∙ map-map (top 7) (lane_of one other) v)
    ∙ mask_l-mod (map marks v) 64 (omega (arith, length-map v marks, long)) in
    λ k from to. unmarked one other (get_or bs k 0) (none_from_empty_mask marks bs at n 0 room (sym mask ∙ eqb-true _ 0 none) k from to)

-- What clear bytes are.

pub all_clear : (one other : ℕ) (bs : List ℕ) → IsClearBetween one other bs 0 (length bs) → list_all (is_clear one other) bs ≡ true
all_clear one other bs clear =
    list_all-from_AllPass (is_clear one other) bs
    (All-from_get_or (λ x. is_clear one other x ≡ true) bs 0 (λ k within. clear k (omega arith) within))

pub clear_low : (one other : ℕ) (bs : List ℕ) → IsClearBetween one other bs 0 (length bs) → AreLow bs
clear_low one other bs clear = λ k within.
    let c = get_or bs k 0 in
    let parts = and_parts (nat_le c 0x7F) (not (c == one) && not (c == other)) (clear k (omega arith) within) in
    omega (arith, leb-true c 0x7F parts.0)

clear_stands : (raw : Bool) (c : ℕ) → is_clear 92 13 c ≡ true → stands raw c ≡ true
clear_stands raw c is =
    let first = and_parts (nat_le c 0x7F) (not (c == 92) && not (c == 13)) is in
    let second = and_parts (not (c == 92)) (not (c == 13)) first.1 in
    and_from (is_own c) (raw || not (c == 92)) (and_from (nat_le c 0x7F) (not (c == 13)) first.0 second.1)
    (or_right raw (not (c == 92)) second.0)

all_stand : (raw : Bool) (bs : List ℕ) → list_all (is_clear 92 13) bs ≡ true → length bs ≡ prefix_len (stands raw) bs
all_stand raw [] all = refl
all_stand raw (c ∷ cs) all =
    let parts = and_parts (is_clear 92 13 c) (list_all (is_clear 92 13) cs) all in
    let here = clear_stands raw c parts.0 in
    let rest = all_stand raw cs parts.1 in
    rw here (omega (arith, rest))

-- clear bytes stand for themselves to the last
pub clear_run : (raw : Bool) (bs : List ℕ) → IsClearBetween 92 13 bs 0 (length bs) → length bs ≡ prefix_len (stands raw) bs
clear_run raw bs clear = all_stand raw bs (all_clear 92 13 bs clear)
