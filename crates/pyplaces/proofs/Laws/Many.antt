-- How many there are in lists that stand one after the other.
--
-- Carries: Count.
use Rattle.std.proofs.Common.{◌≡◌, refl, ◌∙◌, ℕ, ◌+◌, arith, List, [], ◌∷◌, ◌++◌, length, length-append}

infixr 50 ◌⊕◌
pub record Many {A : Type 0} (ps : List A) (n : ℕ) : Type 0 where
  pub is : length ps ≡ n

pub many : {A : Type 0} {ps : List A} {m n : ℕ} → Many ps m → m ≡ n → Many ps n
many p h = record { is = p.is ∙ h }

pub each : {A : Type 0} (ps : List A) → Many ps (length ps)
each ps = record { is = refl }

pub none : {A : Type 0} → Many {A = A} [] 0
none = record { is = refl }

pub one : {A : Type 0} {p : A} → Many (p ∷ []) 1
one = record { is = refl }

pub more : {A : Type 0} {p : A} {ps : List A} {n : ℕ} → Many ps n → Many (p ∷ ps) (1 + n)
more p = record { is = omega (arith, p.is) }

pub ◌⊕◌ : {A : Type 0} {ps qs : List A} {m n : ℕ} → Many ps m → Many qs n → Many (ps ++ qs) (m + n)
◌⊕◌ {ps = ps} {qs = qs} p q = record { is = omega (arith, length-append ps qs, p.is, q.is) }
