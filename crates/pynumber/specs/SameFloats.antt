-- Whether two floats are one.
use Rattle.std.proofs.Common.{◌≡◌, Bool, true, false, ◌&&◌, ◌==◌, refl, sym, ap, ◌∙◌, true≢false}
use Rattle.std.proofs.lemmas.Bool.{and_parts, and_from}
use Rattle.std.specs.Bool.{Decides, beq}
use Rattle.std.specs.Ordering.{int_eq}
use Rattle.std.specs.Cmp.{IsEquivalence, decided, booleans_Decides, signed_Decides, unsigned_Decides}
use Rattle.std.specs.Float.Ieee.{Float, nan, inf, fin}

-- a NaN is itself, and 0 is not -0
abbrev pub float_same : Float → Float → Bool
float_same nan nan = true
float_same (inf s) (inf t) = beq s t
float_same (fin s m e) (fin t n f) = beq s t && (m == n) && int_eq e f
float_same _ _ = false

itself : (x : Float) → float_same x x ≡ true
itself nan = refl
itself (inf s) = (booleans_Decides s s).1 refl
itself (fin s m e) = and_from (beq s s && (m == m)) (int_eq e e) (and_from (beq s s) (m == m) ((booleans_Decides s s).1 refl)
    ((unsigned_Decides m m).1 refl)) ((signed_Decides e e).1 refl)

told : (x y : Float) → float_same x y ≡ true → x ≡ y
told nan nan h = refl
told nan (inf t) h = absurd (true≢false (sym h))
told nan (fin t n f) h = absurd (true≢false (sym h))
told (inf s) nan h = absurd (true≢false (sym h))
told (inf s) (inf t) h = ap inf ((booleans_Decides s t).0 h)
told (inf s) (fin t n f) h = absurd (true≢false (sym h))
told (fin s m e) nan h = absurd (true≢false (sym h))
told (fin s m e) (inf t) h = absurd (true≢false (sym h))
told (fin s m e) (fin t n f) h =
    let outer = and_parts (beq s t && (m == n)) (int_eq e f) h in
    let inner = and_parts (beq s t) (m == n) outer.0 in
    λ i. fin ((booleans_Decides s t).0 inner.0 i) ((unsigned_Decides m n).0 inner.1 i) ((signed_Decides e f).0 outer.1 i)

pub same_floats : (x y : Float) → Decides (float_same x y) (x ≡ y)
same_floats x y = (told x y, λ e. sym (ap (float_same x) e) ∙ itself x)

pub float_same_equiv : IsEquivalence float_same
float_same_equiv = decided float_same same_floats
