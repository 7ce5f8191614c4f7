-- Carries: the loops over lists. On: each of a list passes a test, as far as the loop has come.
use Rattle.std.proofs.Common.{◌≡◌, refl, sym, ap, ◌∙◌, ℕ, ◌+◌, ◌<◌, ◌≤◌, List, [], ◌∷◌, length, take, get_or, map, Bool, true, false}
use Rattle.std.specs.Prelude.{◌&&◌}
use Rattle.std.specs.List.{list_all}
use Rattle.std.proofs.lemmas.Bool.{and_from}
use Rattle.std.proofs.lemmas.List.{take_all}
use Rattle.std.proofs.lemmas.List.Folds.{list_all_more, list_all_at}

module _ {A : Type 0} (all : List A → Bool) (one : A → Bool) (none : all [] ≡ true) (first : (y : A) (ys : List A)
    → all (y ∷ ys) ≡ (one y && all ys)) where
  each : (xs : List A) → all xs ≡ list_all one xs
  each [] = none
  each (x ∷ xs) = first x xs ∙ ap (λ z. one x && z) (each xs)

  -- the next one passes too
  pub goes_on : (xs : List A) {i : ℕ} {x : A} {told : Bool} → i < length xs → x ≡ get_or xs i x → all (take i xs) ≡ true → told ≡ one x
      → told ≡ true → all (take (i + 1) xs) ≡ true
  goes_on xs {i} {x} lt read before is passed =
      each (take (i + 1) xs) ∙ list_all_more one xs i x lt ∙ and_from (list_all one (take i xs)) (one (get_or xs i x))
      (sym (each (take i xs)) ∙ before) (ap one (sym read) ∙ sym is ∙ passed)

  -- one doesn't
  pub stops : (xs : List A) {i : ℕ} {x : A} {told : Bool} → i < length xs → x ≡ get_or xs i x → told ≡ one x → told ≡ false → false ≡ all xs
  stops xs {i} {x} lt read is failed = sym (each xs ∙ list_all_at one xs i x lt (ap one (sym read) ∙ sym is ∙ failed))

  -- all have
  pub ends : (xs : List A) {i : ℕ} → length xs ≤ i → all (take i xs) ≡ true → true ≡ all xs
  ends xs {i} le before = sym (ap all (sym (take_all i xs le)) ∙ before)

-- the same of what each of a list stands for
module _ {A B : Type 0} (test : B → Bool) (of : A → B) where
  pub mapped_on : (xs : List A) {i : ℕ} {x : A} {told : Bool} → i < length xs → x ≡ get_or xs i x
      → list_all test (map of (take i xs)) ≡ true → told ≡ test (of x) → told ≡ true → list_all test (map of (take (i + 1) xs)) ≡ true
  mapped_on xs lt read before is passed = goes_on (λ ys. list_all test (map of ys)) (λ y. test (of y)) refl (λ _ _. refl) xs
      lt read before is passed

  pub mapped_stops : (xs : List A) {i : ℕ} {x : A} {told : Bool} → i < length xs → x ≡ get_or xs i x → told ≡ test (of x) → told ≡ false
      → false ≡ list_all test (map of xs)
  mapped_stops xs lt read is failed = stops (λ ys. list_all test (map of ys)) (λ y. test (of y)) refl (λ _ _. refl) xs lt read is failed

  pub mapped_ends : (xs : List A) {i : ℕ} → length xs ≤ i → list_all test (map of (take i xs)) ≡ true → true ≡ list_all test (map of xs)
  mapped_ends xs le before = ends (λ ys. list_all test (map of ys)) (λ y. test (of y)) refl (λ _ _. refl) xs le before
