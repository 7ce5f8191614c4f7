-- Carries: have_kind. On: the kinds of the values of an f-string, one by one from the first.
use Rattle.std.proofs.Common.{◌≡◌, refl, sym, ap, ◌∙◌, inl, inr, ℕ, zero, suc, ◌+◌, ◌<◌, arith, List, [], ◌∷◌, length, drop, get_or}
use Rattle.std.proofs.Common.{map, drop-cons, Bool, true, false, ◌&&◌}
use Rattle.std.specs.Prelude.{◌==◌}
use Rattle.std.proofs.lemmas.Bool.{cases_Bool, both_ways, eq-eqb, ne_eqb, eqb-true}
use Rattle.pytree_node.specs.Trees.{Expr, exprs}
use Rattle.pytree_fits.specs.Slots.{is_last, have_kind, has_kind}

suc_eq : (a b : ℕ) → (suc a == suc b) ≡ (a == b)
suc_eq a b = elim (cases_Bool (a == b)) [
  | inl e ↦ eq-eqb (suc a) (suc b) (ap suc (eqb-true a b e)) ∙ sym e
  | inr n ↦ ne_eqb (suc a) (suc b) (λ q. both_ways (a == b) n (eq-eqb a b (omega (arith, q)))) ∙ sym n
]

last_left : {A : Type 0} (f : A → Expr) (xs : List A) (i : ℕ) → i < length xs
    → is_last (exprs (map f (drop (suc i) xs))) ≡ (suc i == length xs)
last_left f [] i h = absurd (omega (arith, h))
last_left f (x ∷ []) zero h = refl
last_left f (x ∷ (y ∷ xs)) zero h = sym (ne_eqb 1 (suc (suc (length xs))) (λ e. omega (arith, e)))
last_left f (x ∷ xs) (suc i) h = last_left f xs i (omega (arith, h)) ∙ sym (suc_eq (suc i) (length xs))

module _ {A : Type 0} (f : A → Expr) (u s : Bool) (xs : List A) {i : ℕ} {x : A} (lt : i < length xs) (read : x ≡ get_or xs i x) where
  -- the values from here on
  kinds_from : have_kind u s (exprs (map f (drop i xs))) ≡ (has_kind u (s && (i + 1 == length xs)) (f x) && have_kind u s
      (exprs (map f (drop (i + 1) xs))))
  kinds_from =
      let e : i + 1 ≡ suc i = omega arith in
      rw e (ap (λ ys. have_kind u s (exprs (map f ys))) (drop-cons xs i x lt)
      ∙ (ap (λ y. has_kind u (s && is_last (exprs (map f (drop (suc i) xs)))) (f y) && have_kind u s (exprs (map f (drop (suc i) xs))))
      (sym read)
      ∙ ap (λ b. has_kind u (s && b) (f x) && have_kind u s (exprs (map f (drop (suc i) xs)))) (last_left f xs i lt)))

  -- one hasn't the kind
  pub kinds_stop : {e told : Bool} → e ≡ (s && (i + 1 == length xs)) → told ≡ has_kind u e (f x) → told ≡ false
      → have_kind u s (exprs (map f xs)) ≡ have_kind u s (exprs (map f (drop i xs))) → false ≡ have_kind u s (exprs (map f xs))
  kinds_stop is h q before =
      sym (before ∙ kinds_from ∙ ap (λ z. z && have_kind u s (exprs (map f (drop (i + 1) xs))))
      (ap (λ z. has_kind u z (f x)) (sym is) ∙ sym h ∙ q))

  -- the next one has it
  pub kinds_go_on : {e told : Bool} → e ≡ (s && (i + 1 == length xs)) → told ≡ has_kind u e (f x) → told ≡ true
      → have_kind u s (exprs (map f xs)) ≡ have_kind u s (exprs (map f (drop i xs))) →
      have_kind u s (exprs (map f xs)) ≡ have_kind u s (exprs (map f (drop (i + 1) xs)))
  kinds_go_on is h q before =
      before ∙ kinds_from ∙ ap (λ z. z && have_kind u s (exprs (map f (drop (i + 1) xs))))
      (ap (λ z. has_kind u z (f x)) (sym is) ∙ sym h ∙ q)
