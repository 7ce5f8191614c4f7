-- Carries: elements, push_terminals. On: what is appended, one after another.
use Rattle.std.proofs.Common.{◌≡◌, ℕ, zero, suc, ◌+◌, ◌<◌, ◌≤◌, Bool, true, false, List, [], ◌∷◌, ◌++◌, length, drop, map, get_or, refl}
use Rattle.std.proofs.Common.{sym, ap, ◌∙◌, arith}
use Rattle.std.proofs.Common.{append-nil, append_assoc, Result, Ok, Err}
use Rattle.std.specs.Prelude.{OnOk}
use Rattle.std.specs.List.{flat_map, list_any}
use Rattle.pytoken.specs.Inner.Pushing.{Grows}

dropped_one : {A : Type 0} (xs : List A) (i : ℕ) (x : A) → i < length xs → x ≡ get_or xs i x → drop i xs ≡ x ∷ drop (suc i) xs
dropped_one [] i x lt read = absurd (omega (arith, lt))
dropped_one (y ∷ ys) zero x lt read = ap (λ z. z ∷ ys) (sym read)
dropped_one (y ∷ ys) (suc i) x lt read = dropped_one ys i x (omega (arith, lt)) read

-- what is left of a list, where an item is read
pub dropped : {A : Type 0} (xs : List A) (i : ℕ) (x : A) → i < length xs → x ≡ get_or xs i x → drop i xs ≡ x ∷ drop (i + 1) xs
dropped xs i x lt read =
    let next : suc i ≡ i + 1 = omega arith in
    dropped_one xs i x lt read ∙ ap (λ n. x ∷ drop n xs) next

-- what is read is the same by any default
pub read_again : {A : Type 0} (xs : List A) (i : ℕ) (d : A) → i < length xs → get_or xs i d ≡ get_or xs i (get_or xs i d)
read_again [] i d lt = absurd (omega (arith, lt))
read_again (x ∷ xs) zero d lt = refl
read_again (x ∷ xs) (suc i) d lt = read_again xs i d (omega (arith, lt))

-- nothing is left
pub none_left : {A : Type 0} (xs : List A) (i : ℕ) → length xs ≤ i → drop i xs ≡ []
none_left [] zero h = refl
none_left [] (suc i) h = refl
none_left (x ∷ xs) zero h = absurd (omega (arith, h))
none_left (x ∷ xs) (suc i) h = none_left xs i (omega (arith, h))

pub grows_none : {A B : Type 0} (f : A → B) (a : List A) → Grows f a a []
grows_none f a = sym (append-nil (map f a))

pub grows_both : {A B : Type 0} (f : A → B) (a b c : List A) (x y : List B) → Grows f a b x → Grows f b c y → Grows f a c (x ++ y)
grows_both f a b c x y one two = two ∙ ap (λ t. t ++ y) one ∙ append_assoc (map f a) x y

-- two pushes, of which the second may fail
pub then_grows : {A B X E : Type 0} (f : A → B) (a b c : List A) (x y : List B) (r : Result X E) → Grows f a b x → OnOk r (Grows f b c y) →
    OnOk r (Grows f a c (x ++ y))
then_grows f a b c x y (Ok v) one two = grows_both f a b c x y one two
then_grows f a b c x y (Err e) one two = tt

-- After what was appended for some items, what is still to come for the others makes all.
abbrev pub Leaves : {A B C : Type 0} → (A → B) → (C → List B) → List A → List A → List C → List C → Type 0
Leaves f g start now all left = map f now ++ flat_map g left ≡ map f start ++ flat_map g all

pub leaves_one : {A B C D : Type 0} (f : A → B) (g : C → List B) (h : D → C) (start now next : List A) (xs : List D) (i : ℕ) (x : D) →
    i < length xs → x ≡ get_or xs i x → Leaves f g start now (map h xs) (map h (drop i xs)) → Grows f now next (g (h x)) →
    Leaves f g start next (map h xs) (map h (drop (i + 1) xs))
leaves_one f g h start now next xs i x lt read so_far grows =
    ap (λ t. t ++ flat_map g (map h (drop (i + 1) xs))) grows ∙ append_assoc (map f now) (g (h x)) (flat_map g (map h (drop (i + 1) xs)))
    ∙ ap (λ t. map f now ++ flat_map g (map h t)) (sym (dropped xs i x lt read)) ∙ so_far

pub leaves_none : {A B C D : Type 0} (f : A → B) (g : C → List B) (h : D → C) (start now : List A) (xs : List D) (i : ℕ) → length xs ≤ i →
    Leaves f g start now (map h xs) (map h (drop i xs)) → Grows f start now (flat_map g (map h xs))
leaves_none f g h start now xs i end so_far =
    sym (append-nil (map f now)) ∙ ap (λ t. map f now ++ flat_map g (map h t)) (sym (none_left xs i end)) ∙ so_far

-- none of the items so far passes a test
pub passes_over : {C D : Type 0} (p : C → Bool) (h : D → C) (xs : List D) (i : ℕ) (x : D) → i < length xs
    → x ≡ get_or xs i x → p (h x) ≡ false →
    list_any p (map h (drop i xs)) ≡ list_any p (map h xs) → list_any p (map h (drop (i + 1) xs)) ≡ list_any p (map h xs)
passes_over p h xs i x lt read fails so_far =
    sym (ap (λ t. list_any p (map h t)) (dropped xs i x lt read) ∙ (rw fails refl)) ∙ so_far

pub one_passes : {C D : Type 0} (p : C → Bool) (h : D → C) (xs : List D) (i : ℕ) (x : D) → i < length xs
    → x ≡ get_or xs i x → p (h x) ≡ true →
    list_any p (map h (drop i xs)) ≡ list_any p (map h xs) → list_any p (map h xs) ≡ true
one_passes p h xs i x lt read passes so_far =
    sym so_far ∙ ap (λ t. list_any p (map h t)) (dropped xs i x lt read) ∙ (rw passes refl)

pub none_passes : {C D : Type 0} (p : C → Bool) (h : D → C) (xs : List D) (i : ℕ) → length xs ≤ i →
    list_any p (map h (drop i xs)) ≡ list_any p (map h xs) → list_any p (map h xs) ≡ false
none_passes p h xs i end so_far = sym so_far ∙ ap (λ t. list_any p (map h t)) (none_left xs i end)
