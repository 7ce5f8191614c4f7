-- Laws of known bytes.
--
-- Carries: read_from, fill, line_end, read_all, write_all.
use Rattle.std.proofs.Common.{◌≡◌, ◌≢◌, ℕ, zero, suc, Ok, ◌+◌, true, List, [], ◌∷◌, ◌++◌, length, take, drop, Option, None}
use Rattle.std.proofs.Common.{Some, refl, sym, ◌∙◌, ap, append_assoc, append-nil, ◌-◌, length-drop}
use Rattle.std.specs.Io.KnownBytes.{Appends, Consumes, Keeps}
use Rattle.std.proofs.Math.Seq.{take-add, take-length}
use Rattle.std.proofs.lemmas.List.{take-append-drop}
use Rattle.pysource.specs.Bytes.{Seen, IsSteady, write_failures, TakesFront}

-- reads, and then others
pub Steady-append : (x y z : Seen) → IsSteady x y → IsSteady y z → IsSteady x z
Steady-append x y z p q = (q.0 ∙ p.0, λ never. q.1 (p.0 ∙ never) ∙ p.1 never)

-- a read that failed
pub Steady-failed : (x y : Seen) → y.may_fail ≡ x.may_fail → x.may_fail ≡ true → IsSteady x y
Steady-failed x y same able = (same, λ never. absurd (let e = sym able ∙ never in cc))

-- known bytes grow by a, and then by b
pub Appends-append : (x y z : Option (List ℕ)) (a b : List ℕ) → Appends x y a → Appends y z b → Appends x z (a ++ b)
Appends-append None y z a b p q = tt
Appends-append (Some x) None z a b p q = absurd p
Appends-append (Some x) (Some y) None a b p q = absurd q
Appends-append (Some x) (Some y) (Some z) a b p q = q ∙ (ap (λ t. t ++ b) p ∙ append_assoc x a b)

-- known bytes that stay grow by nothing
pub Keeps-Appends : (x y : Option (List ℕ)) → Keeps x y → Appends x y []
Keeps-Appends None y p = tt
Keeps-Appends (Some x) None p = absurd p
Keeps-Appends (Some x) (Some y) p = p ∙ sym (append-nil x)

-- known bytes to come lose a, and then b
pub Consumes-append : (x y z : Option (List ℕ)) (a b : List ℕ) → Consumes x y a → Consumes y z b → Consumes x z (a ++ b)
Consumes-append None y z a b p q = tt
Consumes-append (Some x) None z a b p q = absurd p
Consumes-append (Some x) (Some y) None a b p q = absurd q
Consumes-append (Some x) (Some y) (Some z) a b p q = p ∙ (ap (λ t. a ++ t) q ∙ sym (append_assoc a b z))

-- known bytes to come that stay lose nothing
pub Keeps-Consumes : (x y : Option (List ℕ)) → Keeps x y → Consumes x y []
Keeps-Consumes None y p = tt
Keeps-Consumes (Some x) None p = absurd p
Keeps-Consumes (Some x) (Some y) p = sym p

-- the same known bytes grew by nothing
pub Appends-refl : (x : Option (List ℕ)) → Appends x x []
Appends-refl None = tt
Appends-refl (Some x) = sym (append-nil x)

-- the same known bytes to come lost nothing
pub Consumes-refl : (x : Option (List ℕ)) → Consumes x x []
Consumes-refl None = tt
Consumes-refl (Some x) = refl

-- what was taken so far, and the next n bytes of the rest
pub Appends-more : (x y z : Option (List ℕ)) (at n : ℕ) (bytes : List ℕ) → Appends x y (take at bytes)
    → Appends y z (take n (drop at bytes))
    → Appends x z (take (at + n) bytes)
Appends-more x y z at n bytes p q = rw take-add (Appends-append x y z (take at bytes) (take n (drop at bytes)) p q)

-- a write that takes some bytes is no failure
pub write_failures-some : (E : Type 0) (n : ℕ) (bytes : List ℕ) → n ≢ 0 → write_failures {E = E} (Ok n) bytes ≡ 0
write_failures-some E n [] h = refl
write_failures-some E zero (b ∷ bytes) h = absurd (h refl)
write_failures-some E (suc n) (b ∷ bytes) h = refl

-- the slice from `at` on
pub slice_from : (at : ℕ) (bytes : List ℕ) → take (length bytes - at) (drop at bytes) ≡ drop at bytes
slice_from at bytes = rw (← length-drop at bytes) (take-length (drop at bytes))

-- a write of the rest that took nothing
pub TakesFront-at : (x y z : Option (List ℕ)) (at : ℕ) (bytes : List ℕ) → Appends x y (take at bytes)
    → Appends y z [] → TakesFront x z bytes
TakesFront-at x y z at bytes p q = (
  take at bytes,
  drop at bytes,
  sym (take-append-drop at bytes),
  rw (← append-nil (take at bytes)) (Appends-append x y z (take at bytes) [] p q),
)

-- a front of a part that stands after what was taken is a front of the whole
pub TakesFront-after : (x y z : Option (List ℕ)) (done part rest whole : List ℕ) → whole ≡ done ++ (part ++ rest)
    → Appends x y done → TakesFront y z part
    → TakesFront x z whole
TakesFront-after x y z done part rest whole is p (front, back, cut, q) =
    (done ++ front, back ++ rest, is ∙ (ap (λ t. done ++ (t ++ rest)) cut ∙ simp append_assoc), Appends-append x y z done front p q)

-- what was taken is a front of the whole
pub TakesFront-done : (x y : Option (List ℕ)) (done rest whole : List ℕ) → whole ≡ done ++ rest → Appends x y done → TakesFront x y whole
TakesFront-done x y done rest whole is p = (done, rest, is, p)
