-- The open columns are a stack.
--
-- Carries: push, for Law, Ahead, Cursoring.
use Rattle.std.proofs.Common.{◌≡◌, ℕ, ◌+◌, ◌≤◌, ◌<◌, Bool, true, false, ◌&&◌, ◌||◌, ◌==◌, List, [], ◌∷◌, ◌++◌, refl, sym, ◌∙◌, ap, arith}
use Rattle.std.proofs.Common.{cond, ⊎_elim, ltb, leb, suc, zero, sum, filter, zero-add}
use Rattle.std.proofs.lemmas.Bool.Decides.{nat_tests}
use Rattle.std.proofs.lemmas.Bool.{cases_lt, cases_Bool}
use Rattle.std.proofs.lemmas.List.Sums.{take_while-cons}
use Rattle.std.proofs.lemmas.List.{append-nil}
use Rattle.std.proofs.lemmas.List.Elements.{filter-append}
use Rattle.std.proofs.lemmas.Grind.{common_steps}
use Rattle.pylex_listing.specs.Indentation.{below, is_open, open_levels}

open_push : (w v : ℕ) (ws : List ℕ) → is_open (w ∷ ws) v ≡ ((v == 0) || (leb v w && ((v == w) || is_open ws v)))
open_push w v ws =
    ⊎_elim
    (λ (z : (v == 0) ≡ true). rw z refl)
    (λ (z : (v == 0) ≡ false).
    ⊎_elim
    (λ (e : leb v w ≡ true). rw take_while-cons (rw (e, z) refl))
    (λ (e : leb v w ≡ false). rw take_while-cons (rw (e, z) refl))
    (cases_Bool (leb v w)))
    (cases_Bool (v == 0))

-- the stack after a line of width w above 0
abbrev pub stack_after : ℕ → List ℕ → List ℕ
stack_after w ls = filter (λ v. ltb v w) ls ++ w ∷ []

abbrev part : ℕ → ℕ → List ℕ
part w n = cond (ltb w n) (w ∷ []) []

data Order (n w : ℕ) : Type 0 where
  less : n < w → Order n w
  same : n ≡ w → Order n w
  more : w < n → Order n w

order : (n w : ℕ) → Order n w
order n w = ⊎_elim (λ (h : n < w). less h) (λ (h : w ≤ n). ⊎_elim (λ (i : w < n). more i) (λ (i : n ≤ w). same (omega arith))
    (cases_lt w n)) (cases_lt n w)

open_less : (w n : ℕ) (ws : List ℕ) → n < w → is_open (w ∷ ws) n ≡ is_open ws n
open_less w n ws i =
    let l : leb n w ≡ true = grind (arith, nat_tests) in
    let d : (n == w) ≡ false = grind (arith, nat_tests) in
    open_push w n ws ∙ rw (l, d) (⊎_elim (λ (z : (n == 0) ≡ true). rw z refl) (λ (z : (n == 0) ≡ false). rw z refl) (cases_Bool (n == 0)))

open_same : (w n : ℕ) (ws : List ℕ) → 0 < w → n ≡ w → is_open (w ∷ ws) n ≡ true
open_same w n ws h i =
    let l : leb n w ≡ true = grind (arith, nat_tests) in
    let d : (n == w) ≡ true = grind (arith, nat_tests) in
    let z : (n == 0) ≡ false = grind (arith, nat_tests) in
    open_push w n ws ∙ rw (z, l, d) refl

open_more : (w n : ℕ) (ws : List ℕ) → w < n → is_open (w ∷ ws) n ≡ false
open_more w n ws i =
    let l : leb n w ≡ false = grind (arith, nat_tests) in
    let z : (n == 0) ≡ false = grind (arith, nat_tests) in
    open_push w n ws ∙ rw (z, l) refl

keeps : (p : ℕ → Bool) (rest : List ℕ) (b : Bool) (n : ℕ) → p n ≡ true → filter p rest ++ [] ++ cond b (n ∷ []) [] ≡ filter p
    (rest ++ cond b (n ∷ []) []) ++ []
keeps p rest true n e = sym (append-nil (filter p (rest ++ n ∷ [])) ∙ filter-append p rest (n ∷ [])
    ∙ rw e (ap (λ xs. xs ++ n ∷ []) (sym (append-nil (filter p rest)))))
keeps p rest false n e = append-nil (filter p rest ++ []) ∙ append-nil (filter p rest)
    ∙ sym (append-nil (filter p (rest ++ [])) ∙ ap (filter p) (append-nil rest))

drops : (p : ℕ → Bool) (rest : List ℕ) (b : Bool) (n : ℕ) → p n ≡ false → filter p (rest ++ cond b (n ∷ []) []) ≡ filter p rest
drops p rest true n e = filter-append p rest (n ∷ []) ∙ rw e (append-nil (filter p rest))
drops p rest false n e = ap (filter p) (append-nil rest)

push_one : (w n : ℕ) (ws rest : List ℕ) → 0 < w → Order n w → filter (λ v. ltb v w) rest ++ part w n ++ filter (is_open (w ∷ ws)) (n ∷ []) ≡
    filter (λ v. ltb v w) (rest ++ filter (is_open ws) (n ∷ [])) ++ part w (suc n)
push_one w n ws rest h (less i) =
    let a : ltb w n ≡ false = grind (arith, nat_tests) in
    let b : ltb w (suc n) ≡ false = grind (arith, nat_tests) in
    let t : ltb n w ≡ true = grind (arith, nat_tests) in
    let o = open_less w n ws i in
    rw (o, a, b) (keeps (λ v. ltb v w) rest (is_open ws n) n t)
push_one w n ws rest h (same i) =
    let a : ltb w n ≡ false = grind (arith, nat_tests) in
    let b : ltb w (suc n) ≡ true = grind (arith, nat_tests) in
    let t : ltb n w ≡ false = grind (arith, nat_tests) in
    let o = open_same w n ws h i in
    let d = drops (λ v. ltb v w) rest (is_open ws n) n t in
    rw (o, a, b) (ap (λ xs. xs ++ n ∷ []) (append-nil (filter (λ v. ltb v w) rest) ∙ sym d)
    ∙ ap (λ (x : ℕ). filter (λ v. ltb v w) (rest ++ cond (is_open ws n) (n ∷ []) []) ++ x ∷ []) i)
push_one w n ws rest h (more i) =
    let a : ltb w n ≡ true = grind (arith, nat_tests) in
    let b : ltb w (suc n) ≡ true = grind (arith, nat_tests) in
    let t : ltb n w ≡ false = grind (arith, nat_tests) in
    let o = open_more w n ws i in
    let d = drops (λ v. ltb v w) rest (is_open ws n) n t in
    rw (o, a, b) (append-nil (filter (λ v. ltb v w) rest ++ w ∷ []) ∙ ap (λ xs. xs ++ w ∷ []) (sym d))

push_below : (w n : ℕ) (ws : List ℕ) → 0 < w → filter (is_open (w ∷ ws)) (below n) ≡ filter (λ v. ltb v w)
    (filter (is_open ws) (below n)) ++ part w n
push_below w zero ws h = let a : ltb w 0 ≡ false = grind (arith, nat_tests) in rw a refl
push_below w (suc n) ws h =
    filter-append (is_open (w ∷ ws)) (below n) (n ∷ [])
    ∙ ap (λ xs. xs ++ filter (is_open (w ∷ ws)) (n ∷ [])) (push_below w n ws h)
    ∙ push_one w n ws (filter (is_open ws) (below n)) h (order n w)
    ∙ ap (λ xs. filter (λ v. ltb v w) xs ++ part w (suc n)) (sym (filter-append (is_open ws) (below n) (n ∷ [])))

sum_push : (w : ℕ) (ws : List ℕ) → sum (w ∷ ws) ≡ w + sum ws
sum_push w ws = grind (arith, common_steps)

closed_above : (ws : List ℕ) (v : ℕ) → sum ws < v → is_open ws v ≡ false
closed_above [] v h = let z : (v == 0) ≡ false = grind (arith, nat_tests) in rw z refl
closed_above (w ∷ ws) v h =
    let s = sum_push w ws in
    let z : (v == 0) ≡ false = grind (arith, nat_tests) in
    let l : leb v w ≡ false = grind (arith, nat_tests) in
    open_push w v ws ∙ rw (z, l) refl

beyond : (ws : List ℕ) (k : ℕ) → filter (is_open ws) (below (k + (1 + sum ws))) ≡ open_levels ws
unfolding open_levels
beyond ws zero = rw zero-add refl
beyond ws (suc k) =
    let e : suc k + (1 + sum ws) ≡ suc (k + (1 + sum ws)) = omega arith in
    let c : is_open ws (k + (1 + sum ws)) ≡ false = closed_above ws (k + (1 + sum ws)) (omega arith) in
    rw e (filter-append (is_open ws) (below (k + (1 + sum ws))) ((k + (1 + sum ws)) ∷ [])
    ∙ rw c (append-nil (filter (is_open ws) (below (k + (1 + sum ws)))) ∙ beyond ws k))

push_above : (w : ℕ) (ws : List ℕ) → 0 < w → open_levels (w ∷ ws) ≡ stack_after w (open_levels ws)
unfolding open_levels
push_above w ws h =
    let e : 1 + sum (w ∷ ws) ≡ w + (1 + sum ws) = omega (arith, sum_push w ws) in
    let p : ltb w (w + (1 + sum ws)) ≡ true = grind (arith, nat_tests) in
    ap (λ n. filter (is_open (w ∷ ws)) (below n)) e
    ∙ push_below w (w + (1 + sum ws)) ws h
    ∙ rw p (ap (λ xs. filter (λ v. ltb v w) xs ++ w ∷ []) (beyond ws w))

-- a line of width 0 closes all levels but 0
none_below : (ls : List ℕ) → filter (λ v. ltb v 0) ls ≡ []
none_below [] = refl
none_below (v ∷ ls) = let e : ltb v 0 ≡ false = grind (arith, nat_tests) in rw e (none_below ls)

only_zero : (n : ℕ) (ws : List ℕ) → filter (is_open (0 ∷ ws)) (below (suc n)) ≡ 0 ∷ []
only_zero zero ws = refl
only_zero (suc n) ws =
    let z : (suc n == 0) ≡ false = grind (arith, nat_tests) in
    let l : leb (suc n) 0 ≡ false = grind (arith, nat_tests) in
    let c : is_open (0 ∷ ws) (suc n) ≡ false = open_push 0 (suc n) ws ∙ rw (z, l) refl in
    filter-append (is_open (0 ∷ ws)) (below (suc n)) (suc n ∷ [])
    ∙ rw c (append-nil (filter (is_open (0 ∷ ws)) (below (suc n))) ∙ only_zero n ws)

push_zero : (ws : List ℕ) → open_levels (0 ∷ ws) ≡ stack_after 0 (open_levels ws)
unfolding open_levels
push_zero ws =
    let e : 1 + sum (0 ∷ ws) ≡ suc (sum (0 ∷ ws)) = omega arith in
    let n = none_below (filter (is_open ws) (below (1 + sum ws))) in
    rw (n, e) (only_zero (sum (0 ∷ ws)) ws)

-- the open levels are a stack
pub push : (w : ℕ) (ws : List ℕ) → open_levels (w ∷ ws) ≡ stack_after w (open_levels ws)
push zero ws = push_zero ws
push (suc n) ws = push_above (suc n) ws (omega arith)

-- lines of the widths 0, 4 and 8, and a further one of 4
worked_deeper : open_levels (8 ∷ 4 ∷ 0 ∷ []) ≡ 0 ∷ 4 ∷ 8 ∷ []
unfolding open_levels
worked_deeper = refl

worked_back : open_levels (4 ∷ 8 ∷ 4 ∷ 0 ∷ []) ≡ 0 ∷ 4 ∷ []
unfolding open_levels
worked_back = refl
