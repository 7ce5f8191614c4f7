-- On: `limit_line`. A line that is read within a height, beside the plain one: two readings, and
-- lists with commas.
--
-- Carries: Brackets, caps_else, over_commas, over_item, for CapsLines, CapsBrackets.
use Rattle.std.proofs.Common.{◌≡◌, inl, inr, ap, subst, ℕ, zero, suc, ◌≤◌, arith, List, [], ◌∷◌, Some, None, Bool, cond}
use Rattle.std.specs.Prelude.{max}
use Rattle.pylex_lexeme.specs.declared.kinds.Exact.TheVariants as Sign
use Rattle.pytoken.specs.declared.keywords.Keyword.TheVariants as Key
use Rattle.pygrammar.specs.declared.levels.Level.TheVariants.{Expression}
use Rattle.pytree_node.specs.Trees.{Expr}
use Rattle.pytoken.specs.Terminals.{Terminal}
use Rattle.pytree_height.specs.Heights.{height, item_heights}
use Rattle.pygrammar.specs.Looks.{is_op, is_word}
use Rattle.pygrammar.specs.Forms.{item}
use Rattle.pygrammar.specs.Reader.{Answer, Found, NoForm, TooDeep, and_then, on_first, Reads}
use Rattle.pygrammar.specs.LineReader.{or_else, always, commas, commas_of, item_target, read_item, bracketed}
use Rattle.pygrammar.proofs.Related.Lines.{item_height}
use Rattle.pygrammar.proofs.Heights.Over.{Over, over, none, sunk, over_then, over_on, over_first, over_cond, Caps}

-- what is found is made of what was found before it
pub over_found : {A B : Type 0} (t : B → ℕ) (n : ℕ) (x : Answer A) (f : A → B) → ((a : A) → n ≤ t (f a))
    → Over t n (and_then x (λ a r. Found (f a) r))
over_found t n x f h = over_then t n x (λ a r. Found (f a) r) (λ a r. over (h a))

-- a second reading, which has to be high too where the first one goes too deep
pub caps_else : {A : Type 0} (s : A → ℕ) (n : ℕ) (x y z w : Answer A) → Caps s n x y → Caps s n z w → (x ≡ TooDeep → Over s (suc n) w)
    → Caps s n (or_else x z) (or_else y w)
caps_else s n (Found a r) y z w (inl e) g o = inl (ap (λ v. or_else v w) e)
caps_else {A} s n NoForm y z w (inl e) g o = subst (λ v. Caps {A = A} s n z (or_else v w)) e g
caps_else s n TooDeep y z w (inl e) g o = inl (ap (λ v. or_else v w) e)
caps_else {A} s n x y z w (inr (e, h)) g o = inr (ap (λ v. or_else v z) e, go y h)
  where
    go : (y : Answer A) → Over s (suc n) y → Over s (suc n) (or_else y w)
    go (Found a r) (over p) = over p
    go NoForm h = o e
    go TooDeep h = sunk

-- lists with commas: as high as the highest of them
module _ {A : Type 0} (s : A → ℕ) (t : List A → ℕ) (join : (a : A) (as_ : List A) → t (a ∷ as_) ≡ max (s a) (t as_)) (n : ℕ)
    (more : List Terminal → Bool) where
  pub over_commas : (one : List Terminal → Answer A) (m : ℕ) (i : List Terminal) → Over s (suc n) (one i)
      → Over t (suc n) (commas one more m i)
  over_commas one zero i h = none
  over_commas one (suc m) i h = go (one i) h
    where
      go : (x : Answer A) → Over s (suc n) x
          → Over t (suc n) (and_then x
          (λ a r. on_first (is_op Sign.Comma) r (λ _ r1. cond (more r1) (and_then (commas one more m r1) (λ as_ r2. Found (a ∷ as_) r2))
          (Found (a ∷ []) r1)) (Found (a ∷ []) r)))
      go (Found a r) (over w) =
          over_first t (suc n) (is_op Sign.Comma) r _ _
          (λ _ r1. over_cond t (suc n) (more r1) _ _ (over_found t (suc n) (commas one more m r1) (λ as_. a ∷ as_)
          (λ as_. omega (arith, w, join a as_))) (over (omega (arith, w, join a [])))) (over (omega (arith, w, join a [])))
      go NoForm h = none
      go TooDeep h = sunk

-- an item whose expression is high
over_after : (n : ℕ) (other : Reads) (e : Expr) (r : List Terminal) → suc n ≤ height e
    → Over item_height (suc n) (on_first (is_word Key.As) r (λ _ s. and_then (item_target other s) (λ t r2. Found (item e (Some t)) r2))
    (Found (item e None) r))
over_after n other e r w = over_first item_height (suc n) (is_word Key.As) r _ _
    (λ _ s. over_found item_height (suc n) (item_target other s) (λ t. item e (Some t)) (λ t. omega (arith, w))) (over (omega (arith, w)))

pub over_item : (n : ℕ) (other : Reads) (i : List Terminal) → Over height (suc n) (other Expression i)
    → Over item_height (suc n) (read_item other i)
over_item n other i w = over_on height item_height (suc n) (suc n) (other Expression i) _ w (λ e r v. over_after n other e r v)

-- where items in brackets go too deep, the items without them are high
abbrev pub Brackets : ℕ → Reads → Reads → Type 0
Brackets n self other = (i : List Terminal) → bracketed self i ≡ TooDeep → Over item_heights (suc n) (commas_of (read_item other) always i)
