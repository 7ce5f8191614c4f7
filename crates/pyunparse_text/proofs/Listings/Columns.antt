-- The open columns of written lines: 0, 4, 8 and so on.
--
-- Carries: columns, columns_above, deeper, not_deeper and 2 more, for Runs, Relisting.
use Rattle.std.proofs.Common.{◌≡◌, ℕ, ◌+◌, ◌-◌, ◌*◌, ◌≤◌, ◌<◌, Bool, true, false, ◌&&◌, ◌||◌, List, [], ◌∷◌, ◌++◌, refl, sym, ◌∙◌, ap}
use Rattle.std.proofs.Common.{arith, zero}
use Rattle.std.proofs.Common.{suc, ⊎_elim, cond, eqb, ltb, filter}
use Rattle.std.specs.Prelude.{count_by}
use Rattle.std.specs.List.{list_all, list_any}
use Rattle.std.proofs.lemmas.List.{append-nil}
use Rattle.std.proofs.lemmas.List.Elements.{filter-append}
use Rattle.std.proofs.lemmas.Grind.{common_steps}
use Rattle.std.proofs.lemmas.Bool.{cases_lt}
use Rattle.std.proofs.lemmas.Bool.Decides.{nat_tests}
use Rattle.pylex_listing.specs.Machine.{pushed}

-- the columns of the levels up to m
abbrev pub columns : ℕ → List ℕ
columns zero = 0 ∷ []
columns (suc m) = columns m ++ (4 * suc m) ∷ []

all_last : (p : ℕ → Bool) (xs : List ℕ) (x : ℕ) → list_all p (xs ++ x ∷ []) ≡ (list_all p xs && p x)
all_last p [] x = one (p x)
  where
    one : (b : Bool) → (b && true) ≡ b
    one true = refl
    one false = refl
all_last p (y ∷ xs) x = ap (λ b. p y && b) (all_last p xs x) ∙ assoc (p y) (list_all p xs) (p x)
  where
    assoc : (a b c : Bool) → (a && (b && c)) ≡ ((a && b) && c)
    assoc true b c = refl
    assoc false b c = refl

any_last : (p : ℕ → Bool) (xs : List ℕ) (x : ℕ) → list_any p (xs ++ x ∷ []) ≡ (list_any p xs || p x)
any_last p [] x = one (p x)
  where
    one : (b : Bool) → (b || false) ≡ b
    one true = refl
    one false = refl
any_last p (y ∷ xs) x = ap (λ b. p y || b) (any_last p xs x) ∙ assoc (p y) (list_any p xs) (p x)
  where
    assoc : (a b c : Bool) → (a || (b || c)) ≡ ((a || b) || c)
    assoc true b c = refl
    assoc false b c = refl

-- a line that stands deeper than all that are open
pub deeper : (m n : ℕ) → m < n → list_all (λ v. ltb v (4 * n)) (columns m) ≡ true
deeper zero n h = let e : ltb 0 (4 * n) ≡ true = grind (arith, nat_tests) in rw e refl
deeper (suc m) n h =
    let e : ltb (4 * suc m) (4 * n) ≡ true = grind (arith, nat_tests) in
    all_last (λ v. ltb v (4 * n)) (columns m) (4 * suc m) ∙ rw (deeper m n (omega arith), e) refl

pub not_deeper : (m n : ℕ) → n ≤ m → list_all (λ v. ltb v (4 * n)) (columns m) ≡ false
not_deeper zero n h = let e : ltb 0 (4 * n) ≡ false = grind (arith, nat_tests) in rw e refl
not_deeper (suc m) n h =
    let e : ltb (4 * suc m) (4 * n) ≡ false = grind (arith, nat_tests) in
    all_last (λ v. ltb v (4 * n)) (columns m) (4 * suc m) ∙ rw e (none (list_all (λ v. ltb v (4 * n)) (columns m)))
  where
    none : (b : Bool) → (b && false) ≡ false
    none true = refl
    none false = refl

pub is_column : (m n : ℕ) → n ≤ m → list_any (λ v. eqb v (4 * n)) (columns m) ≡ true
is_column zero n h = let e : eqb 0 (4 * n) ≡ true = grind (arith, nat_tests) in rw e refl
is_column (suc m) n h =
    any_last (λ v. eqb v (4 * n)) (columns m) (4 * suc m) ∙
    ⊎_elim
    (λ (i : n < suc m). rw (is_column m n (omega arith)) refl)
    (λ (i : suc m ≤ n). let e : eqb (4 * suc m) (4 * n) ≡ true = grind (arith, nat_tests) in
    rw e (last (list_any (λ v. eqb v (4 * n)) (columns m))))
    (cases_lt n (suc m))
  where
    last : (b : Bool) → (b || true) ≡ true
    last true = refl
    last false = refl

count_last : (p : ℕ → Bool) (xs : List ℕ) (x : ℕ) → count_by p (xs ++ x ∷ []) ≡ count_by p xs + cond (p x) 1 0
count_last p xs x = grind (arith, common_steps)

pub columns_above : (m n : ℕ) → count_by (ltb (4 * n)) (columns m) ≡ m - n
columns_above zero n = let e : ltb (4 * n) 0 ≡ false = grind (arith, nat_tests) in let z : zero - n ≡ 0 = omega arith in rw (e, z) refl
columns_above (suc m) n =
    count_last (ltb (4 * n)) (columns m) (4 * suc m) ∙
    ⊎_elim
    (λ (i : n < suc m). let e : ltb (4 * n) (4 * suc m) ≡ true = grind (arith, nat_tests) in let c =
    columns_above m n in rw e (omega arith))
    (λ (i : suc m ≤ n). let e : ltb (4 * n) (4 * suc m) ≡ false = grind (arith, nat_tests) in let c =
    columns_above m n in rw e (omega arith))
    (cases_lt n (suc m))

filter_last : (p : ℕ → Bool) (xs : List ℕ) (x : ℕ) → filter p (xs ++ x ∷ []) ≡ filter p xs ++ cond (p x) (x ∷ []) []
filter_last p xs x = filter-append p xs (x ∷ []) ∙ ap (λ l. filter p xs ++ l) (one (p x) refl)
  where
    one : (b : Bool) → p x ≡ b → filter p (x ∷ []) ≡ cond b (x ∷ []) []
    one true e = rw e refl
    one false e = rw e refl

-- the columns below a level's own
below_column : (m n : ℕ) → n ≤ m → filter (λ v. ltb v (4 * suc n)) (columns m) ≡ columns n
below_column zero zero h = refl
below_column zero (suc n) h = absurd (omega arith)
below_column (suc m) n h =
    filter_last (λ v. ltb v (4 * suc n)) (columns m) (4 * suc m) ∙
    ⊎_elim
    (λ (i : n < suc m). let e : ltb (4 * suc m) (4 * suc n) ≡ false = grind (arith, nat_tests) in
    rw e (append-nil (filter (λ v. ltb v (4 * suc n)) (columns m)) ∙ below_column m n (omega arith)))
    (λ (i : suc m ≤ n).
    let s : n ≡ suc m = omega arith in
    let e : ltb (4 * suc m) (4 * suc n) ≡ true = grind (arith, nat_tests) in
    rw e (ap (λ l. l ++ (4 * suc m) ∷ []) (all_below m n (omega arith)) ∙ ap columns (sym s)))
    (cases_lt n (suc m))
  where
    all_below : (m n : ℕ) → m ≤ n → filter (λ v. ltb v (4 * suc n)) (columns m) ≡ columns m
    all_below zero n h = let e : ltb 0 (4 * suc n) ≡ true = grind (arith, nat_tests) in rw e refl
    all_below (suc m) n h =
        let e : ltb (4 * suc m) (4 * suc n) ≡ true = grind (arith, nat_tests) in
        filter_last (λ v. ltb v (4 * suc n)) (columns m) (4 * suc m) ∙ rw e (ap (λ l. l ++ (4 * suc m) ∷ []) (all_below m n (omega arith)))

-- after a line that is at most one level deeper
pub columns_pushed : (m n : ℕ) → n ≤ m + 1 → pushed (4 * n) (columns m) ≡ columns n
columns_pushed m zero h = ap (λ l. l ++ 0 ∷ []) (none m)
  where
    none : (m : ℕ) → filter (λ v. ltb v 0) (columns m) ≡ []
    none zero = refl
    none (suc m) =
        filter_last (λ v. ltb v 0) (columns m) (4 * suc m)
        ∙ (let e : ltb (4 * suc m) 0 ≡ false = grind (arith, nat_tests) in rw (e, none m) refl)
columns_pushed m (suc n) h = ap (λ l. l ++ (4 * suc n) ∷ []) (below_column m n (omega arith))
