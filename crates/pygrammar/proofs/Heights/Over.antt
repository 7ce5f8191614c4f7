-- An answer within a height beside one without: the tools.
--
-- Carries: Over, Caps, CapsAt and what holds of their parts, for Caps, CapsTools, CapsBrackets and 4 more.
use Rattle.std.proofs.Common.{◌≡◌, ◌⊎◌, inl, inr, refl, ap, subst, ℕ, suc, ◌≤◌, List, [], ◌∷◌, Option, Some, None, Bool, true, false}
use Rattle.std.proofs.Common.{cond, leb}
use Rattle.std.proofs.lemmas.Bool.{leb-false}
use Rattle.pylex_lexeme.specs.declared.kinds.Exact.{Exact}
use Rattle.pygrammar.specs.declared.levels.Level.{Level}
use Rattle.pytree_node.specs.Trees.{Expr}
use Rattle.pytoken.specs.Terminals.{Terminal}
use Rattle.pytree_height.specs.Heights.{height}
use Rattle.pygrammar.specs.Looks.{is_op}
use Rattle.pygrammar.specs.Reader.{Answer, Found, NoForm, TooDeep, and_then, closed, on_some, on_first, Reads}
use Rattle.pygrammar.specs.Capped.{cap}

-- what is found has a size of at least n
pub data Over {A : Type 0} (s : A → ℕ) (n : ℕ) : Answer A → Type 0 where
  over : {a : A} {r : List Terminal} → n ≤ s a → Over s n (Found a r)
  none : Over s n NoForm
  sunk : Over s n TooDeep

pub over_then : {A B : Type 0} (s : B → ℕ) (n : ℕ) (x : Answer A) (k : A → List Terminal → Answer B)
    → ((a : A) (r : List Terminal) → Over s n (k a r)) → Over s n (and_then x k)
over_then s n (Found a r) k h = h a r
over_then s n NoForm k h = none
over_then s n TooDeep k h = sunk

pub over_on : {A B : Type 0} (t : A → ℕ) (s : B → ℕ) (m n : ℕ) (x : Answer A) (k : A → List Terminal → Answer B) → Over t m x
    → ((a : A) (r : List Terminal) → m ≤ t a → Over s n (k a r)) → Over s n (and_then x k)
over_on t s m n x k (over {a = a} {r = r} p) h = h a r p
over_on t s m n x k none h = none
over_on t s m n x k sunk h = sunk

pub over_first : {A B : Type 0} (s : B → ℕ) (n : ℕ) (f : Terminal → Option A) (r : List Terminal) (k : A → List Terminal → Answer B)
    (x : Answer B) → ((a : A) (u : List Terminal) → Over s n (k a u)) → Over s n x → Over s n (on_first f r k x)
over_first s n f [] k x h g = g
over_first {A} {B} s n f (t ∷ r) k x h g = go (f t)
  where
    go : (o : Option A) → Over {A = B} s n (on_some o (λ a. k a r) x)
    go (Some a) = h a r
    go None = g

pub over_cond : {B : Type 0} (s : B → ℕ) (n : ℕ) (b : Bool) (x y : Answer B) → Over s n x → Over s n y → Over s n (cond b x y)
over_cond s n true x y h k = h
over_cond s n false x y h k = k

pub over_closed : {B : Type 0} (s : B → ℕ) (n : ℕ) (x : Exact) (r : List Terminal) (a : B) → n ≤ s a → Over s n (closed x r a)
over_closed s n x r a h = over_first s n (is_op x) r _ _ (λ _ _. over h) none

-- the same answer, or too deep where what the other finds is higher than d
abbrev pub Caps : {A : Type 0} → (A → ℕ) → ℕ → Answer A → Answer A → Type 0
Caps s d x y = (x ≡ y) ⊎ ((x ≡ TooDeep) × Over s (suc d) y)

pub caps_cap : (d : ℕ) (x y : Answer Expr) → Caps height d x y → Caps height d (cap d x) y
caps_cap d x y (inr (e, w)) = inr (ap (cap d) e, w)
caps_cap d NoForm y (inl e) = inl e
caps_cap d TooDeep y (inl e) = inl e
caps_cap d (Found a r) y (inl e) = go (leb (height a) d) refl
  where
    go : (b : Bool) → leb (height a) d ≡ b → Caps height d (cond b (Found a r) TooDeep) y
    go true q = inl e
    go false q = inr (refl, subst (λ z. Over height (suc d) z) e (over (leb-false (height a) d q)))

-- a reader with room d beside a plain one
abbrev pub CapsAt : ℕ → Reads → Reads → Type 0
CapsAt d self other = (l : Level) (i : List Terminal) → Caps height d (self l i) (other l i)
