-- Heights up to the largest number of 64 bits.
--
-- Carries: expr_height, statement_height, highest_in. On: nothing.
use Rattle.std.proofs.Common.{◌≡◌, ℕ, ◌+◌, ◌<◌, List, [], ◌∷◌, ◌++◌, length, get_or, take, max, arith, refl, sym, ap, ◌∙◌}
use Rattle.std.proofs.lemmas.List.{take_more}
use Rattle.pytree_height.specs.Heights.{capped}

pub capped-zero : capped 0 ≡ 0
unfolding capped
capped-zero = refl

pub capped-one : capped 1 ≡ 1
unfolding capped
capped-one = refl

pub capped-max : (a b : ℕ) → capped (max a b) ≡ max (capped a) (capped b)
unfolding capped
capped-max a b = omega arith

pub capped-more : (a : ℕ) → capped (a + 1) ≡ capped (capped a + 1)
unfolding capped
capped-more a = omega arith

pub ruleset caps = (capped-zero, capped-one, capped-max, capped-more)

-- the higher of two
pub two : (a b : ℕ) {x y m : ℕ} → x ≡ capped a → y ≡ capped b → m ≡ max x y → m ≡ capped (max a b)
two a b ex ey em = em ∙ (λ i. max (ex i) (ey i)) ∙ sym (capped-max a b)

module _ {A : Type 0} (highest : List A → ℕ) (one : A → ℕ) (none : highest [] ≡ 0)
    (first : (y : A) (ys : List A) → highest (y ∷ ys) ≡ max (one y) (highest ys)) where
  -- the highest of a list that is longer by one
  longer : (ys : List A) (y : A) → highest (ys ++ y ∷ []) ≡ max (highest ys) (one y)
  longer [] y = let e : highest (y ∷ []) ≡ max (one y) (highest []) = first y [] in omega (arith, e, none)
  longer (z ∷ zs) y =
      let e : highest (zs ++ y ∷ []) ≡ max (highest zs) (one y) = longer zs y in
      let f : highest (z ∷ (zs ++ y ∷ [])) ≡ max (one z) (highest (zs ++ y ∷ [])) = first z (zs ++ y ∷ []) in
      let g : highest (z ∷ zs) ≡ max (one z) (highest zs) = first z zs in omega (arith, e, f, g)

  -- one step of a loop that looks for the highest
  pub higher : (xs : List A) {i : ℕ} {x : A} {most here next : ℕ} → i < length xs → x ≡ get_or xs i x →
      most ≡ capped (highest (take i xs)) → here ≡ capped (one x) → next ≡ max most here → next ≡ capped (highest (take (i + 1) xs))
  higher xs {i} {x} lt read most_is here_is next_is =
      let e : highest (take (i + 1) xs) ≡ max (highest (take i xs)) (one x) = rw (take_more xs i x lt, sym read) (longer (take i xs) x) in
      two (highest (take i xs)) (one x) most_is here_is next_is ∙ ap capped (sym e)
