-- What a relation of two readings has to keep so that the whole reader keeps it.
--
-- It speaks of two answers, of how high what they find is (s), of how high that has to be (t), and of what is left, which counts less
-- than n. That more depth keeps an answer (Keeps) and that enough depth gives one (Enough) need n alone. That a limit refuses only what is
-- higher (Caps) needs t too: it is 0 until a part is higher than the limit; from there on it is what the limit doesn't reach, since all
-- that holds that part is at least as high.
--
-- Carries: Relation, Kept, To and the rules for each combinator, for Related/Expressions, Keeps, Enough, Caps and others.
use Rattle.std.proofs.Common.{◌≡◌, ◌⊎◌, inl, inr, refl, ℕ, suc, ◌≤◌, ◌<◌, arith, List, [], ◌∷◌, Option, Some, None, Bool, true, false, cond}
use Rattle.std.specs.Prelude.{max}
use Rattle.std.proofs.lemmas.Bool.{cases_lt}
use Rattle.pylex_lexeme.specs.declared.kinds.Exact.{Exact}
use Rattle.pylex_lexeme.specs.declared.kinds.Exact.TheVariants.{Star, ColonEqual}
use Rattle.pygrammar.specs.declared.levels.Level.{Level}
use Rattle.pytree_node.specs.Trees.{Expr, Identifier}
use Rattle.pytoken.specs.Terminals.{Terminal}
use Rattle.pytree_height.specs.Heights.{height}
use Rattle.pygrammar.specs.Lengths.{weight}
use Rattle.pygrammar.specs.Looks.{is_op, name_in}
use Rattle.pygrammar.specs.Reader.{Answer, Found, NoForm, and_then, on_some, on_first, on_name_with, closed, made, Reads, unstarred}
use Rattle.pygrammar.specs.Reader.{unnamed}
use Rattle.pygrammar.proofs.Depths.Weights.{Heavy, counted, weight_next, heavy_op, heavy_name}
use Rattle.pygrammar.proofs.Related.Sizes.{under}

-- R A s t n x y, of two answers: where both find something, it is at least t high by s, and what is left counts less than n
abbrev pub Relation : Type 1
Relation = (A : Type 0) → (A → ℕ) → ℕ → ℕ → Answer A → Answer A → Type 0

-- R is kept by what is found at once, by NoForm, and by one part after another
pub record Kept (R : Relation) : Type 1 where
  pub finds : (A : Type 0) (s : A → ℕ) (t n : ℕ) (a : A) (r : List Terminal) → t ≤ s a → weight r < n → R A s t n (Found a r) (Found a r)
  pub refuses : (A : Type 0) (s : A → ℕ) (t n : ℕ) → R A s t n NoForm NoForm
  -- the first part holds what was read before it
  pub goes : (A B : Type 0) (s : A → ℕ) (u : B → ℕ) (t m n : ℕ) (x y : Answer A) (k j : A → List Terminal → Answer B) → R A s t m x y
      → ((v : ℕ) (a : A) (r : List Terminal) → v ≤ s a → weight r < m → R B u v n (k a r) (j a r)) → R B u t n (and_then x k) (and_then y j)
  -- the first part stands beside what was read before it
  pub joins : (A B : Type 0) (s : A → ℕ) (u : B → ℕ) (t m n : ℕ) (x y : Answer A) (k j : A → List Terminal → Answer B) → R A s 0 m x y
      → ((v : ℕ) (a : A) (r : List Terminal) → v ≤ max t (s a) → weight r < m → R B u v n (k a r) (j a r))
      → R B u t n (and_then x k) (and_then y j)

-- two readers whose parts count less than b: of an expression further in, and of one at the front
abbrev pub To : Relation → ℕ → Reads → Reads → Type 0
To R b self other = (l : Level) (i : List Terminal) → weight i < b → R Expr (under height) 0 (weight i) (self l i) (other l i)

abbrev pub Own : Relation → ℕ → Reads → Reads → Type 0
Own R b self other = (l : Level) (i : List Terminal) → weight i < b → R Expr height 0 (weight i) (self l i) (other l i)

module _ {R : Relation} (K : Kept R) where
  pub found : {A : Type 0} {s : A → ℕ} {t n : ℕ} {a : A} {r : List Terminal} → t ≤ s a → weight r < n → R A s t n (Found a r) (Found a r)
  found {A} {s} {t} {n} {a} {r} f w = K.finds A s t n a r f w

  pub none : {A : Type 0} {s : A → ℕ} {t n : ℕ} → R A s t n NoForm NoForm
  none {A} {s} {t} {n} = K.refuses A s t n

  pub held : {A B : Type 0} {s : A → ℕ} {u : B → ℕ} {t m n : ℕ} {x y : Answer A} {k j : A → List Terminal → Answer B} → R A s t m x y
      → ((v : ℕ) (a : A) (r : List Terminal) → v ≤ s a → weight r < m → R B u v n (k a r) (j a r)) → R B u t n (and_then x k) (and_then y j)
  held {A} {B} {s} {u} {t} {m} {n} {x} {y} {k} {j} h f = K.goes A B s u t m n x y k j h f

  pub beside : {A B : Type 0} {s : A → ℕ} {u : B → ℕ} {t m n : ℕ} {x y : Answer A} {k j : A → List Terminal → Answer B} → R A s 0 m x y
      → ((v : ℕ) (a : A) (r : List Terminal) → v ≤ max t (s a) → weight r < m → R B u v n (k a r) (j a r))
      → R B u t n (and_then x k) (and_then y j)
  beside {A} {B} {s} {u} {t} {m} {n} {x} {y} {k} {j} h f = K.joins A B s u t m n x y k j h f

  pub choose : {B : Type 0} {s : B → ℕ} {t n : ℕ} (b : Bool) {x x' y y' : Answer B} → R B s t n x x' → R B s t n y y'
      → R B s t n (cond b x y) (cond b x' y')
  choose true h g = h
  choose false h g = g

  -- with what the test says
  pub tested : {B : Type 0} {s : B → ℕ} {t n : ℕ} (b : Bool) {x x' y y' : Answer B} → (b ≡ true → R B s t n x x') → R B s t n y y'
      → R B s t n (cond b x y) (cond b x' y')
  tested true h g = h refl
  tested false h g = g

  pub option : {A B : Type 0} {s : B → ℕ} {t n : ℕ} (o : Option A) {k j : A → Answer B} {x y : Answer B}
      → ((a : A) → o ≡ Some a → R B s t n (k a) (j a)) → R B s t n x y → R B s t n (on_some o k x) (on_some o j y)
  option (Some a) h g = h a refl
  option None h g = g

  -- a test that passes only on terminals that count
  pub first : {A B : Type 0} {s : B → ℕ} {t n : ℕ} (f : Terminal → Option A) → Heavy f → (r : List Terminal)
      {k j : A → List Terminal → Answer B} {x y : Answer B}
      → ((a : A) (u : List Terminal) → suc (weight u) ≤ weight r → R B s t n (k a u) (j a u)) → R B s t n x y
      → R B s t n (on_first f r k x) (on_first f r j y)
  first f c [] h g = g
  first {A} {B} {s} {t} {n} f c (z ∷ r) {k} {j} {x} {y} h g = go (f z) refl
    where
      go : (o : Option A) → f z ≡ o → R B s t n (on_some o (λ a. k a r) x) (on_some o (λ a. j a r) y)
      go (Some a) e = h a r (omega (arith, counted z r (c z a e)))
      go None e = g

  -- any test
  pub light : {A B : Type 0} {s : B → ℕ} {t n : ℕ} (f : Terminal → Option A) (r : List Terminal)
      {k j : A → List Terminal → Answer B} {x y : Answer B}
      → ((a : A) (u : List Terminal) → weight u ≤ weight r → R B s t n (k a u) (j a u)) → R B s t n x y
      → R B s t n (on_first f r k x) (on_first f r j y)
  light f [] h g = g
  light {A} {B} {s} {t} {n} f (z ∷ r) {k} {j} {x} {y} h g = go (f z)
    where
      go : (o : Option A) → R B s t n (on_some o (λ a. k a r) x) (on_some o (λ a. j a r) y)
      go (Some a) = h a r (weight_next z r)
      go None = g

  pub named_with : {B : Type 0} {s : B → ℕ} {t n : ℕ} (z : Exact) (r : List Terminal)
      {k j : Identifier → List Terminal → Answer B} {x y : Answer B}
      → ((a : Identifier) (u : List Terminal) → suc (weight u) ≤ weight r → R B s t n (k a u) (j a u)) → R B s t n x y
      → R B s t n (on_name_with z r k x) (on_name_with z r j y)
  named_with z r h g = first name_in heavy_name r (λ a u p. first (is_op z) (heavy_op z) u (λ _ v q. h a v (omega (arith, p, q))) g) g

  pub not_starred : {A : Type 0} {s : A → ℕ} {t n : ℕ} (r : List Terminal) {x y : Answer A} → R A s t n x y
      → R A s t n (unstarred r x) (unstarred r y)
  not_starred r g = first (is_op Star) (heavy_op Star) r (λ _ _ _. none) g

  pub not_named : {A : Type 0} {s : A → ℕ} {t n : ℕ} (r : List Terminal) {x y : Answer A} → R A s t n x y
      → R A s t n (unnamed r x) (unnamed r y)
  not_named r g = named_with ColonEqual r (λ _ _ _. none) g

  pub closing : {A : Type 0} {s : A → ℕ} {t n : ℕ} (z : Exact) (r : List Terminal) (a : A) → t ≤ s a → weight r < n
      → R A s t n (closed z r a) (closed z r a)
  closing z r a f w = first (is_op z) (heavy_op z) r (λ _ u q. found f (omega (arith, w, q))) none

  pub making : {A : Type 0} {s : A → ℕ} {t n : ℕ} (o : Option A) (r : List Terminal) → ((a : A) → o ≡ Some a → t ≤ s a) → weight r < n
      → R A s t n (made o r) (made o r)
  making (Some a) r f w = found (f a refl) w
  making None r f w = none

-- what is at most as high as one of two is so of one
pub either : (a b c : ℕ) → a ≤ max b c → (a ≤ b) ⊎ (a ≤ c)
either a b c h = elim (cases_lt b a) [ inl w ↦ inr (omega (arith, h, w)) | inr w ↦ inl w ]
