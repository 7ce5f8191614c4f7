-- Digits, each with perhaps an underscore before it.
--
-- Carries: bump_joined. On: Best, Longest.
use Rattle.std.proofs.Common.{◌≡◌, ℕ, ◌≤◌, ◌<◌, Bool, true, false, ◌&&◌, ◌==◌, List, [], ◌∷◌, length, drop, take, refl, ◌∙◌, arith}
use Rattle.std.proofs.Common.{zero, suc, ⊎_elim}
use Rattle.std.proofs.lemmas.Bool.{eqb-true, cases_Bool, and_parts, and_right, or_parts}
use Rattle.std.specs.List.{list_all}
use Rattle.pylex_lexeme.specs.Chars.{begins}
use Rattle.pylex_lexeme.specs.Numbers.{are_joined, are_some}
use Rattle.pylex_lexeme.specs.Lengths.{joined_len, begins_some}
use Rattle.pylex_lexeme.proofs.Fronts.Longest.{IsBest}
use Rattle.pylex_lexeme.proofs.Fronts.Best.{NoFront}

abbrev pub joins : (ℕ → Bool) → ℕ → ℕ → Bool
joins d a b = (a == 95) && d b

digit_more : (d : ℕ → Bool) (a : ℕ) (t : List ℕ) → d a ≡ true → are_joined d (a ∷ t) ≡ are_joined d t
digit_more d a [] e = e
digit_more d a (b ∷ t) e = rw e refl

both_more : (d : ℕ → Bool) (a b : ℕ) (t : List ℕ) → d a ≡ false → joins d a b ≡ true → are_joined d (a ∷ b ∷ t) ≡ are_joined d t
both_more d a b t e f = rw (e, f) refl

pub len_digit : (d : ℕ → Bool) (a : ℕ) (t : List ℕ) → d a ≡ true → joined_len d (a ∷ t) ≡ suc (joined_len d t)
len_digit d a [] e = rw e refl
len_digit d a (b ∷ t) e = rw e refl

-- for each way in which two characters begin
pub data Way (d : ℕ → Bool) (a b : ℕ) : Type 0 where
  digit : d a ≡ true → Way d a b
  both : d a ≡ false → joins d a b ≡ true → Way d a b
  neither : d a ≡ false → joins d a b ≡ false → Way d a b

pub way : (d : ℕ → Bool) (a b : ℕ) → Way d a b
way d a b =
    ⊎_elim (λ (e : d a ≡ true). digit e)
    (λ (e : d a ≡ false). ⊎_elim (λ (f : joins d a b ≡ true). both e f) (λ (f : joins d a b ≡ false). neither e f)
    (cases_Bool (joins d a b)))
    (cases_Bool (d a))

single : (d : ℕ → Bool) (a : ℕ) → IsBest (are_joined d) (a ∷ []) (joined_len d (a ∷ []))
single d a =
    ⊎_elim
    (λ (e : d a ≡ true). rw e (record { within = omega arith; passes = e; longest = λ j h i. absurd (omega arith) }))
    (λ (e : d a ≡ false). rw e (record { within = omega arith; passes = refl; longest = not_one d a e }))
    (cases_Bool (d a))
  where
    not_one : (d : ℕ → Bool) (a : ℕ) → d a ≡ false → (j : ℕ) → 0 < j → j ≤ length (a ∷ []) → are_joined d (take j (a ∷ [])) ≡ false
    not_one d a e zero h i = absurd (omega arith)
    not_one d a e (suc zero) h i = e
    not_one d a e (suc (suc j)) h i = absurd (omega arith)

pub joined_best : (d : ℕ → Bool) (cs : List ℕ) → IsBest (are_joined d) cs (joined_len d cs)
joined_best d [] = record { within = omega arith; passes = refl; longest = λ j h i. absurd (omega arith) }
joined_best d (a ∷ []) = single d a
joined_best d (a ∷ b ∷ cs) =
    elim (way d a b) as (λ (w : Way d a b). IsBest (are_joined d) (a ∷ b ∷ cs) (joined_len d (a ∷ b ∷ cs))) [
      | digit e ↦ rw (len_digit d a (b ∷ cs) e) (after_digit d a (b ∷ cs) (joined_len d (b ∷ cs)) e (joined_best d (b ∷ cs)))
      | both e f ↦ rw (e, f) (after_both d a b cs (joined_len d cs) e f (joined_best d cs))
      | neither e f ↦ rw (e, f) (after_neither d a b cs e f)
    ]
  where
    after_digit : (d : ℕ → Bool) (a : ℕ) (cs : List ℕ) (n : ℕ) → d a ≡ true → IsBest (are_joined d) cs n
        → IsBest (are_joined d) (a ∷ cs) (suc n)
    after_digit d a cs n e best = record {
      within = (let h = best.within in omega arith);
      passes = digit_more d a (take n cs) e ∙ best.passes;
      longest = longer;
    }
      where
        longer : (j : ℕ) → suc n < j → j ≤ length (a ∷ cs) → are_joined d (take j (a ∷ cs)) ≡ false
        longer zero h i = absurd (omega arith)
        longer (suc j) h i = digit_more d a (take j cs) e ∙ best.longest j (omega arith) (omega arith)

    after_both : (d : ℕ → Bool) (a b : ℕ) (cs : List ℕ) (n : ℕ) → d a ≡ false → joins d a b ≡ true → IsBest (are_joined d) cs n
        → IsBest (are_joined d) (a ∷ b ∷ cs) (suc (suc n))
    after_both d a b cs n e f best = record {
      within = (let h = best.within in omega arith);
      passes = both_more d a b (take n cs) e f ∙ best.passes;
      longest = longer;
    }
      where
        longer : (j : ℕ) → suc (suc n) < j → j ≤ length (a ∷ b ∷ cs) → are_joined d (take j (a ∷ b ∷ cs)) ≡ false
        longer zero h i = absurd (omega arith)
        longer (suc zero) h i = absurd (omega arith)
        longer (suc (suc j)) h i = both_more d a b (take j cs) e f ∙ best.longest j (omega arith) (omega arith)

    after_neither : (d : ℕ → Bool) (a b : ℕ) (cs : List ℕ) → d a ≡ false → joins d a b ≡ false → IsBest (are_joined d) (a ∷ b ∷ cs) 0
    after_neither d a b cs e f = record { within = omega arith; passes = refl; longest = longer }
      where
        longer : (j : ℕ) → 0 < j → j ≤ length (a ∷ b ∷ cs) → are_joined d (take j (a ∷ b ∷ cs)) ≡ false
        longer zero h i = absurd (omega arith)
        longer (suc zero) h i = e
        longer (suc (suc j)) h i = rw (e, f) refl

-- what a set of characters holds that a run consists of
pub joined_all : (a d : ℕ → Bool) (t : List ℕ) → ((c : ℕ) → d c ≡ true → a c ≡ true) → a 95 ≡ true
    → are_joined d t ≡ true → list_all a t ≡ true
joined_all a d [] f u e = refl
joined_all a d (x ∷ []) f u e = let h : a x ≡ true = f x e in rw h refl
joined_all a d (x ∷ y ∷ t) f u e =
    elim (way d x y) as (λ (w : Way d x y). list_all a (x ∷ y ∷ t) ≡ true) [
      | digit h ↦ (let i : are_joined d (y ∷ t) ≡ true = simp h at e in let k : a x ≡ true = f x h in rw k (joined_all a d (y ∷ t) f u i))
      | both h g ↦ (
          let i : are_joined d t ≡ true = simp (h, g) at e in
          let p = and_parts (x == 95) (d y) g in
          let z : x ≡ 95 = eqb-true x 95 p.0 in
          let k : a x ≡ true = rw z u in
          let l : a y ≡ true = f y p.1 in
          rw (k, l) (joined_all a d t f u i))
      | neither h g ↦ (let i : false ≡ true = simp (h, g) at e in cc)
    ]

-- a set of digits within another
pub joined_subset : (d e : ℕ → Bool) (t : List ℕ) → ((c : ℕ) → d c ≡ true → e c ≡ true) → (e 95 ≡ false)
    → are_joined d t ≡ true → are_joined e t ≡ true
joined_subset d e [] f u h = refl
joined_subset d e (x ∷ []) f u h = f x h
joined_subset d e (x ∷ y ∷ t) f u h =
    elim (way d x y) as (λ (w : Way d x y). are_joined e (x ∷ y ∷ t) ≡ true) [
      | digit g ↦ (let i : are_joined d (y ∷ t) ≡ true = simp g at h in digit_more e x (y ∷ t) (f x g) ∙ joined_subset d e (y ∷ t) f u i)
      | both g k ↦ (
          let i : are_joined d t ≡ true = simp (g, k) at h in
          let p = and_parts (x == 95) (d y) k in
          let z : x ≡ 95 = eqb-true x 95 p.0 in
          let l : e x ≡ false = rw z u in
          let m : e y ≡ true = f y p.1 in
          let n : joins e x y ≡ true = rw (p.0, m) refl in
          both_more e x y t l n ∙ joined_subset d e t f u i)
      | neither g k ↦ (let i : false ≡ true = simp (g, k) at h in cc)
    ]

-- Steps of a reader
pub step_digit : (d : ℕ → Bool) (cs : List ℕ) → begins d cs ≡ true → drop (joined_len d (drop 1 cs)) (drop 1 cs) ≡ drop (joined_len d cs) cs
step_digit d [] e = cc
step_digit d (a ∷ cs) e = rw (len_digit d a cs e) refl

pub step_both : (d : ℕ → Bool) (cs : List ℕ) → begins d cs ≡ false → begins (λ c. c == 95) cs ≡ true → begins d (drop 1 cs) ≡ true
    → drop (joined_len d (drop 2 cs)) (drop 2 cs) ≡ drop (joined_len d cs) cs
step_both d [] e f g = cc
step_both d (a ∷ []) e f g = cc
step_both d (a ∷ b ∷ cs) e f g = rw (e, f, g) refl

pub stop_first : (d : ℕ → Bool) (cs : List ℕ) → begins d cs ≡ false → begins (λ c. c == 95) cs ≡ false → joined_len d cs ≡ 0
stop_first d [] e f = refl
stop_first d (a ∷ []) e f = rw e refl
stop_first d (a ∷ b ∷ cs) e f = rw (e, f) refl

pub stop_second : (d : ℕ → Bool) (cs : List ℕ) → begins d cs ≡ false → begins d (drop 1 cs) ≡ false → joined_len d cs ≡ 0
stop_second d [] e f = refl
stop_second d (a ∷ []) e f = rw e refl
stop_second d (a ∷ b ∷ cs) e f = rw (e, f, and_right (a == 95) false refl) refl

pub shorter : (f : ℕ → Bool) (cs : List ℕ) → begins f cs ≡ true → length (drop 1 cs) < length cs
shorter f [] e = cc
shorter f (c ∷ cs) e = omega arith

pub shorter_two : (f g : ℕ → Bool) (cs : List ℕ) → begins f cs ≡ true → begins g (drop 1 cs) ≡ true → length (drop 2 cs) < length cs
shorter_two f g [] e h = cc
shorter_two f g (c ∷ []) e h = cc
shorter_two f g (c ∷ d ∷ cs) e h = omega arith

some_joined : (d : ℕ → Bool) (cs : List ℕ) → begins_some d cs ≡ true → 0 < joined_len d cs
some_joined d [] e = cc
some_joined d (a ∷ []) e =
    ⊎_elim
    (λ (h : d a ≡ true). rw h (omega arith))
    (λ (h : d a ≡ false). let i : ((a == 95) && false) ≡ true = simp h at e in let k = and_parts (a == 95) false i in
    absurd (let z : false ≡ true = k.1 in cc))
    (cases_Bool (d a))
some_joined d (a ∷ b ∷ cs) e =
    ⊎_elim
    (λ (h : d a ≡ true). rw h (omega arith))
    (λ (h : d a ≡ false). let i : joins d a b ≡ true = simp h at e in rw (h, i) (omega arith))
    (cases_Bool (d a))

-- (_?digit)+
pub some_best : (d : ℕ → Bool) (cs : List ℕ) → begins_some d cs ≡ true → IsBest (are_some d) cs (joined_len d cs)
some_best d cs e =
    let b = joined_best d cs in
    let n : 0 < joined_len d cs = some_joined d cs e in
    record {
      within = b.within;
      passes = same d cs (joined_len d cs) b.within n ∙ b.passes;
      longest =
          λ j h i. same d cs j i (omega arith) ∙ b.longest j h i;
    }
  where
    same : (d : ℕ → Bool) (cs : List ℕ) (j : ℕ) → j ≤ length cs → 0 < j → are_some d (take j cs) ≡ are_joined d (take j cs)
    same d cs zero i h = absurd (omega arith)
    same d [] (suc j) i h = absurd (omega arith)
    same d (c ∷ cs) (suc j) i h = refl

pub some_none : (d : ℕ → Bool) (cs : List ℕ) → begins_some d cs ≡ false → NoFront (are_some d) cs
some_none d cs e zero i = refl
some_none d [] e (suc j) i = refl
some_none d (a ∷ []) e (suc zero) i = (or_parts (d a) ((a == 95) && false) e).0
some_none d (a ∷ []) e (suc (suc j)) i = absurd (omega arith)
some_none d (a ∷ b ∷ cs) e (suc zero) i = (or_parts (d a) ((a == 95) && d b) e).0
some_none d (a ∷ b ∷ cs) e (suc (suc j)) i = let p = or_parts (d a) ((a == 95) && d b) e in rw (p.0, p.1) refl
