-- The longest fronts that pass, for tests made of parts.
--
-- Carries: Reads and 19 more, for NumberBest, Parts, StringBest,
-- Union and 14 more. On: Longest.
use Rattle.std.proofs.Common.{◌≡◌, ℕ, ◌+◌, ◌-◌, ◌≤◌, ◌<◌, Bool, true, false, ◌&&◌, ◌||◌, List, [], ◌∷◌, length, drop, take, refl, ◌∙◌}
use Rattle.std.proofs.Common.{arith, zero, suc, ⊎_elim, length-drop}
use Rattle.std.specs.List.{list_all}
use Rattle.std.proofs.lemmas.Bool.{cases_lt, and_parts, and_right, or_cases}
use Rattle.pylex_lexeme.specs.Numbers.{split_any, optional, headed}
use Rattle.pylex_lexeme.proofs.Fronts.Longest.{IsBest}

-- no front passes
abbrev pub NoFront : (List ℕ → Bool) → List ℕ → Type 0
NoFront p cs = (j : ℕ) → j ≤ length cs → p (take j cs) ≡ false

-- no front of more than n characters passes
abbrev pub Above : (List ℕ → Bool) → List ℕ → ℕ → Type 0
Above p cs n = (j : ℕ) → n < j → j ≤ length cs → p (take j cs) ≡ false

-- n is the length of the longest front that passes, or 0 where none does
abbrev pub Reads : (List ℕ → Bool) → List ℕ → ℕ → Type 0
Reads p cs zero = NoFront p cs
Reads p cs (suc n) = IsBest p cs (suc n)

-- what passes doesn't begin with a character of the set
abbrev pub Starts : (ℕ → Bool) → (List ℕ → Bool) → Type 0
Starts a q = (c : ℕ) (t : List ℕ) → a c ≡ true → q (c ∷ t) ≡ false

split_nothing : (p q : List ℕ → Bool) (cs : List ℕ) (i : ℕ) → NoFront p cs → split_any p q (take i cs) ≡ false
split_nothing p q cs zero f = let e : p [] ≡ false = f 0 (omega arith) in rw e refl
split_nothing p q [] (suc i) f = let e : p [] ≡ false = f 0 (omega arith) in rw e refl
split_nothing p q (c ∷ cs) (suc i) f =
    let e : p [] ≡ false = f 0 (omega arith) in
    rw e (split_nothing (λ t. p (c ∷ t)) q cs i (λ j h. f (suc j) (omega arith)))

best_tail : (p : List ℕ → Bool) (c : ℕ) (cs : List ℕ) (m : ℕ) → IsBest p (c ∷ cs) (suc m) → IsBest (λ t. p (c ∷ t)) cs m
best_tail p c cs m b = record {
  within = (let h = b.within in omega arith);
  passes = b.passes;
  longest = λ j h i. b.longest (suc j) (omega arith) (omega arith);
}

-- a split is forced to stand where the longest front ends
pub split_forced : (p q : List ℕ → Bool) (a : ℕ → Bool) (cs : List ℕ) (m i : ℕ) → IsBest p cs m → list_all a (take m cs) ≡ true → Starts a q
    → split_any p q (take (m + i) cs) ≡ q (take i (drop m cs))
split_forced p q a [] zero i b l s = at_end p q i b.passes
  where
    at_end : (p q : List ℕ → Bool) (i : ℕ) → p [] ≡ true → split_any p q (take (zero + i) []) ≡ q (take i [])
    at_end p q zero e = rw e refl
    at_end p q (suc i) e = let z : zero + suc i ≡ suc i = omega arith in rw z (rw e refl)
split_forced p q a [] (suc m) i b l s = absurd (let h = b.within in omega arith)
split_forced p q a (c ∷ cs) zero zero b l s = let e : p [] ≡ true = b.passes in rw e refl
split_forced p q a (c ∷ cs) zero (suc i) b l s =
    let e : p [] ≡ true = b.passes in
    let n : split_any (λ t. p (c ∷ t)) q (take i cs) ≡ false =
    split_nothing (λ t. p (c ∷ t)) q cs i (λ j h. b.longest (suc j) (omega arith) (omega arith)) in
    let z : zero + suc i ≡ suc i = omega arith in
    rw z (rw (e, n) (or_false (q (c ∷ take i cs))))
  where
    or_false : (b : Bool) → (b || false) ≡ b
    or_false true = refl
    or_false false = refl
split_forced p q a (c ∷ cs) (suc m) i b l s =
    let n : suc m + i ≡ suc (m + i) = omega arith in
    let h = and_parts (a c) (list_all a (take m cs)) l in
    let e : q (c ∷ take (m + i) cs) ≡ false = s c (take (m + i) cs) h.0 in
    rw n (rw (and_right (p []) (q (c ∷ take (m + i) cs)) e) (split_forced (λ t. p (c ∷ t)) q a cs m i (best_tail p c cs m b) h.1 s))

-- and nothing shorter than that front has one
pub split_short : (p q : List ℕ → Bool) (a : ℕ → Bool) (cs : List ℕ) (m j : ℕ) → list_all a (take m cs) ≡ true → Starts a q → q [] ≡ false
    → j < m → split_any p q (take j cs) ≡ false
split_short p q a cs zero j l s z h = absurd (omega arith)
split_short p q a cs (suc m) zero l s z h = and_right (p []) (q []) z
split_short p q a [] (suc m) (suc j) l s z h = and_right (p []) (q []) z
split_short p q a (c ∷ cs) (suc m) (suc j) l s z h =
    let g = and_parts (a c) (list_all a (take m cs)) l in
    let e : q (c ∷ take j cs) ≡ false = s c (take j cs) g.0 in
    rw (and_right (p []) (q (c ∷ take j cs)) e) (split_short (λ t. p (c ∷ t)) q a cs m j g.1 s z (omega arith))

-- one part after another
pub then_best : (p q : List ℕ → Bool) (a : ℕ → Bool) (cs : List ℕ) (m n : ℕ) → IsBest p cs m → list_all a (take m cs) ≡ true → Starts a q
    → IsBest q (drop m cs) n → IsBest (split_any p q) cs (m + n)
then_best p q a cs m n b l s r =
    let w : m ≤ length cs = b.within in
    let d : length (drop m cs) ≡ length cs - m = length-drop m cs in
    let v : n ≤ length (drop m cs) = r.within in
    record {
      within = omega arith;
      passes = split_forced p q a cs m n b l s ∙ r.passes;
      longest = λ j h i.
          let e : j ≡ m + (j - m) = omega arith in
          rw e (split_forced p q a cs m (j - m) b l s ∙ r.longest (j - m) (omega arith) (omega arith));
    }

pub then_none : (p q : List ℕ → Bool) (a : ℕ → Bool) (cs : List ℕ) (m : ℕ) → IsBest p cs m → list_all a (take m cs) ≡ true → Starts a q
    → NoFront q (drop m cs) → NoFront (split_any p q) cs
then_none p q a cs m b l s r j i =
    let w : m ≤ length cs = b.within in
    let d : length (drop m cs) ≡ length cs - m = length-drop m cs in
    ⊎_elim
    (λ (h : j < m). split_short p q a cs m j l s (r 0 (omega arith)) h)
    (λ (h : m ≤ j).
    let e : j ≡ m + (j - m) = omega arith in
    rw e (split_forced p q a cs m (j - m) b l s ∙ r (j - m) (omega arith)))
    (cases_lt j m)

-- nothing after a part that isn't there
pub first_none : (p q : List ℕ → Bool) (cs : List ℕ) → NoFront p cs → NoFront (split_any p q) cs
first_none p q cs f j i = split_nothing p q cs j f

pub optional_best : (q : List ℕ → Bool) (cs : List ℕ) (n : ℕ) → Reads q cs n → IsBest (optional q) cs n
optional_best q cs zero r = record { within = omega arith; passes = refl; longest = longer cs r }
  where
    longer : (cs : List ℕ) → NoFront q cs → (j : ℕ) → 0 < j → j ≤ length cs → optional q (take j cs) ≡ false
    longer cs r zero h i = absurd (omega arith)
    longer [] r (suc j) h i = absurd (omega arith)
    longer (c ∷ cs) r (suc j) h i = r (suc j) i
optional_best q cs (suc n) r = record { within = r.within; passes = there cs r; longest = longer cs r }
  where
    there : (cs : List ℕ) → IsBest q cs (suc n) → optional q (take (suc n) cs) ≡ true
    there [] r = absurd (let h = r.within in omega arith)
    there (c ∷ cs) r = r.passes

    longer : (cs : List ℕ) → IsBest q cs (suc n) → (j : ℕ) → suc n < j → j ≤ length cs → optional q (take j cs) ≡ false
    longer cs r zero h i = absurd (omega arith)
    longer [] r (suc j) h i = absurd (omega arith)
    longer (c ∷ cs) r (suc j) h i = r.longest (suc j) h i

pub headed_best : (f : ℕ → Bool) (p : List ℕ → Bool) (c : ℕ) (cs : List ℕ) (n : ℕ) → f c ≡ true → IsBest p cs n
    → IsBest (headed f p) (c ∷ cs) (suc n)
headed_best f p c cs n e b = record { within = (let h = b.within in omega arith); passes = rw e b.passes; longest = longer }
  where
    longer : (j : ℕ) → suc n < j → j ≤ length (c ∷ cs) → headed f p (take j (c ∷ cs)) ≡ false
    longer zero h i = absurd (omega arith)
    longer (suc j) h i = and_right (f c) (p (take j cs)) (b.longest j (omega arith) (omega arith))

pub headed_none : (f : ℕ → Bool) (p : List ℕ → Bool) (c : ℕ) (cs : List ℕ) → f c ≡ false → NoFront (headed f p) (c ∷ cs)
headed_none f p c cs e zero i = refl
headed_none f p c cs e (suc j) i = rw e refl

pub headed_rest : (f : ℕ → Bool) (p : List ℕ → Bool) (c : ℕ) (cs : List ℕ) → NoFront p cs → NoFront (headed f p) (c ∷ cs)
headed_rest f p c cs r zero i = refl
headed_rest f p c cs r (suc j) i = and_right (f c) (p (take j cs)) (r j (omega arith))

pub headed_nil : (f : ℕ → Bool) (p : List ℕ → Bool) → NoFront (headed f p) []
headed_nil f p zero i = refl
headed_nil f p (suc j) i = refl

pub headed_starts : (a f : ℕ → Bool) (p : List ℕ → Bool) → ((c : ℕ) → a c ≡ true → f c ≡ false) → Starts a (headed f p)
headed_starts a f p g c t e = let h : f c ≡ false = g c e in rw h refl

-- either of two
pub or_left : (p q : List ℕ → Bool) (cs : List ℕ) (n : ℕ) → IsBest p cs n → Above q cs n → IsBest (λ t. p t || q t) cs n
or_left p q cs n b f = record {
  within = b.within;
  passes = (let e = b.passes in rw e refl);
  longest = λ j h i. let e : p (take j cs) ≡ false = b.longest j h i in rw e (f j h i);
}

pub or_right : (p q : List ℕ → Bool) (cs : List ℕ) (n : ℕ) → Above p cs n → IsBest q cs n → IsBest (λ t. p t || q t) cs n
or_right p q cs n f b = record {
  within = b.within;
  passes = right (p (take n cs)) (q (take n cs)) b.passes;
  longest = λ j h i. let e : p (take j cs) ≡ false = f j h i in rw e (b.longest j h i);
}
  where
    right : (x y : Bool) → y ≡ true → (x || y) ≡ true
    right true y e = refl
    right false y e = e

pub or_none : (p q : List ℕ → Bool) (cs : List ℕ) → NoFront p cs → NoFront q cs → NoFront (λ t. p t || q t) cs
or_none p q cs f g j i = let e : p (take j cs) ≡ false = f j i in rw e (g j i)

pub or_above : (p q : List ℕ → Bool) (cs : List ℕ) (n : ℕ) → Above p cs n → Above q cs n → Above (λ t. p t || q t) cs n
or_above p q cs n f g j h i = let e : p (take j cs) ≡ false = f j h i in rw e (g j h i)

pub none_above : (p : List ℕ → Bool) (cs : List ℕ) (n : ℕ) → NoFront p cs → Above p cs n
none_above p cs n f j h i = f j i

pub best_above : (p : List ℕ → Bool) (cs : List ℕ) (m n : ℕ) → IsBest p cs m → m ≤ n → Above p cs n
best_above p cs m n b l j h i = b.longest j (omega arith) i

-- what all that passes consists of
pub split_all : (a : ℕ → Bool) (p q : List ℕ → Bool) (b : Bool) (t : List ℕ) → ((u : List ℕ) → p u ≡ true → (b && list_all a u) ≡ true)
    → ((u : List ℕ) → q u ≡ true → list_all a u ≡ true) → split_any p q t ≡ true → (b && list_all a t) ≡ true
split_all a p q b [] f g e = f [] (and_parts (p []) (q []) e).0
split_all a p q b (c ∷ t) f g e =
    ⊎_elim
    (λ (h : (p [] && q (c ∷ t)) ≡ true).
    let k = and_parts (p []) (q (c ∷ t)) h in
    let x = (and_parts b true (f [] k.0)).0 in
    let y : list_all a (c ∷ t) ≡ true = g (c ∷ t) k.1 in
    rw (x, y) refl)
    (λ (h : split_any (λ u. p (c ∷ u)) q t ≡ true).
    assoc b (a c) (list_all a t) (split_all a (λ u. p (c ∷ u)) q (b && a c) t (λ u i. back b (a c) (list_all a u) (f (c ∷ u) i)) g h))
    (or_cases (p [] && q (c ∷ t)) (split_any (λ u. p (c ∷ u)) q t) e)
  where
    assoc : (x y z : Bool) → ((x && y) && z) ≡ true → (x && (y && z)) ≡ true
    assoc true y z i = i
    assoc false y z i = i

    back : (x y z : Bool) → (x && (y && z)) ≡ true → ((x && y) && z) ≡ true
    back true y z i = i
    back false y z i = i
