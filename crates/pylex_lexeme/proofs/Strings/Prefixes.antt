-- Prefixes by their letters.
--
-- Carries: lexeme, opening. On: Best, StringLongest, StringBest.
use Rattle.std.proofs.Common.{◌≡◌, ℕ, ◌+◌, ◌≤◌, Bool, true, false, ◌&&◌, ◌||◌, ◌==◌, List, [], ◌∷◌, take, drop, refl, ◌∙◌, arith, ⊎_elim}
use Rattle.std.proofs.Common.{leb}
use Rattle.std.specs.Str.{bytes_eq}
use Rattle.std.proofs.lemmas.Bool.{leb-true, cases_Bool, and_parts, and_right}
use Rattle.std.proofs.lemmas.Bool.Decides.{nat_tests}
use Rattle.pylex_lexeme.specs.Chars.{begins, is_r, is_prefix_letter}
use Rattle.pylex_lexeme.specs.Strings.{lower, is_prefix, opens_string, begins_quote}
use Rattle.pylex_lexeme.specs.Lengths.{Opens, begins_pair}
use Rattle.pylex_lexeme.proofs.Strings.StringBest.{which}
use Rattle.pylex_lexeme.proofs.Strings.StringLongest.{eq_short, no_prefix_two}

lower_is : (c o u : ℕ) → o ≡ u + 32 → 65 ≤ u → u ≤ 90 → (lower c == o) ≡ ((c == o) || (c == u))
lower_is c o u e x y =
    ⊎_elim
    (λ (h : (leb 65 c && leb c 90) ≡ true). let p = and_parts (leb 65 c) (leb c 90) h in let l = leb-true 65 c p.0 in let r =
    leb-true c 90 p.1 in rw h (grind (arith, nat_tests)))
    (λ (h : (leb 65 c && leb c 90) ≡ false). rw h (grind (arith, nat_tests, h)))
    (cases_Bool (leb 65 c && leb c 90))

lower_r : (c : ℕ) → (lower c == 114) ≡ ((c == 114) || (c == 82))
lower_r c = lower_is c 114 82 refl (omega arith) (omega arith)

lower_u : (c : ℕ) → (lower c == 117) ≡ ((c == 117) || (c == 85))
lower_u c = lower_is c 117 85 refl (omega arith) (omega arith)

lower_b : (c : ℕ) → (lower c == 98) ≡ ((c == 98) || (c == 66))
lower_b c = lower_is c 98 66 refl (omega arith) (omega arith)

lower_f : (c : ℕ) → (lower c == 102) ≡ ((c == 102) || (c == 70))
lower_f c = lower_is c 102 70 refl (omega arith) (omega arith)

eq_one : (x o : ℕ) → bytes_eq (x ∷ []) (o ∷ []) ≡ (x == o)
eq_one x o = ⊎_elim (λ (h : (x == o) ≡ true). rw h refl) (λ (h : (x == o) ≡ false). rw h refl) (cases_Bool (x == o))

eq_long : (x o p : ℕ) → bytes_eq (x ∷ []) (o ∷ p ∷ []) ≡ false
eq_long x o p = ⊎_elim (λ (h : (x == o) ≡ true). rw h refl) (λ (h : (x == o) ≡ false). rw h refl) (cases_Bool (x == o))

eq_two : (x y o p : ℕ) → bytes_eq (x ∷ y ∷ []) (o ∷ p ∷ []) ≡ ((x == o) && (y == p))
eq_two x y o p =
    ⊎_elim (λ (h : (x == o) ≡ true). ⊎_elim (λ (g : (y == p) ≡ true). rw (h, g) refl) (λ (g : (y == p) ≡ false). rw (h, g) refl)
    (cases_Bool (y == p))) (λ (h : (x == o) ≡ false). rw h refl) (cases_Bool (x == o))

shuffle_one : (r u b f : Bool) → (r || (u || (b || (f || false)))) ≡ (r || (u || (b || f)))
shuffle_one true u b f = refl
shuffle_one false true b f = refl
shuffle_one false false true f = refl
shuffle_one false false false true = refl
shuffle_one false false false false = refl

shuffle_two : (ra rb ba bb fa fb : Bool) → ((ba && rb) || ((ra && bb) || ((fa && rb) || ((ra && fb) || false)))) ≡
    ((ra && (bb || fb)) || ((ba || fa) && rb))
shuffle_two false true true bb fa fb = refl
shuffle_two false true false bb true fb = refl
shuffle_two false true false bb false fb = refl
shuffle_two false false true bb true fb = refl
shuffle_two false false true bb false fb = refl
shuffle_two false false false bb true fb = refl
shuffle_two false false false bb false fb = refl
shuffle_two true true true true fa fb = refl
shuffle_two true true true false fa true = refl
shuffle_two true true true false true false = refl
shuffle_two true true true false false false = refl
shuffle_two true true false true fa fb = refl
shuffle_two true true false false true true = refl
shuffle_two true true false false true false = refl
shuffle_two true true false false false true = refl
shuffle_two true true false false false false = refl
shuffle_two true false true true fa fb = refl
shuffle_two true false true false true true = refl
shuffle_two true false true false true false = refl
shuffle_two true false true false false true = refl
shuffle_two true false true false false false = refl
shuffle_two true false false true fa fb = refl
shuffle_two true false false false true true = refl
shuffle_two true false false false true false = refl
shuffle_two true false false false false true = refl
shuffle_two true false false false false false = refl

pub one_prefix : (a : ℕ) → is_prefix (a ∷ []) ≡ is_prefix_letter a
unfolding is_prefix
one_prefix a =
    rw (
      eq_one (lower a) 114,
      eq_one (lower a) 117,
      eq_one (lower a) 98,
      eq_one (lower a) 102,
      eq_long (lower a) 98 114,
      eq_long (lower a) 114 98,
      eq_long (lower a) 102 114,
    )
    (rw (lower_r a, lower_u a, lower_b a, lower_f a) (shuffle_one ((a == 114) || (a == 82)) ((a == 117) || (a == 85))
    ((a == 98) || (a == 66)) ((a == 102) || (a == 70))))

pub two_prefix : (a b : ℕ) → is_prefix (a ∷ b ∷ []) ≡ begins_pair (a ∷ b ∷ [])
unfolding is_prefix
two_prefix a b =
    rw (
      eq_short (lower a) (lower b) 114 [],
      eq_short (lower a) (lower b) 117 [],
      eq_short (lower a) (lower b) 98 [],
      eq_short (lower a) (lower b) 102 [],
      eq_two (lower a) (lower b) 98 114,
      eq_two (lower a) (lower b) 114 98,
      eq_two (lower a) (lower b) 102 114,
      eq_two (lower a) (lower b) 114 102,
    )
    (rw (lower_r a, lower_b a, lower_f a, lower_r b, lower_b b, lower_f b) (shuffle_two (is_r a) (is_r b) ((a == 98) || (a == 66))
    ((b == 98) || (b == 66)) ((a == 102) || (a == 70)) ((b == 102) || (b == 70))))

abbrev is_quote : ℕ → Bool
is_quote c = (c == 39) || (c == 34)

same : (cs : List ℕ) (b : Bool) → begins is_quote cs ≡ b → begins_quote cs ≡ b
same [] b e = e
same (c ∷ t) b e = e

nothing : (x p y q z r : Bool) → (x && p) ≡ false → (y && q) ≡ false → (z && r) ≡ false
    → ((x && p) || ((y && q) || ((z && r) || false))) ≡ false
nothing x p y q z r e f g = rw (e, f, g) refl

pub opens_zero : (cs : List ℕ) → begins is_quote cs ≡ true → Opens 0 cs
unfolding is_prefix
opens_zero [] e = cc
opens_zero (c ∷ t) e = record { small = omega arith; «prefix» = refl; quote = e }

pub opens_one : (cs : List ℕ) → begins is_quote (drop 1 cs) ≡ true → begins is_prefix_letter cs ≡ true → Opens 1 cs
opens_one [] e f = cc
opens_one (a ∷ t) e f = record { small = omega arith; «prefix» = one_prefix a ∙ f; quote = same t true e }

pub opens_two : (cs : List ℕ) → begins is_quote (drop 2 cs) ≡ true → begins_pair cs ≡ true → Opens 2 cs
opens_two [] e f = cc
opens_two (a ∷ []) e f = cc
opens_two (a ∷ b ∷ t) e f = record { small = omega arith; «prefix» = two_prefix a b ∙ f; quote = same t true e }

pub none_one : (cs : List ℕ) → begins is_quote cs ≡ false → begins is_quote (drop 1 cs) ≡ true → begins is_prefix_letter cs ≡ false
    → opens_string cs ≡ false
unfolding opens_string
none_one [] e f g = cc
none_one (a ∷ []) e f g = cc
none_one (a ∷ q ∷ t) e f g =
    nothing (is_prefix []) (begins_quote (a ∷ q ∷ t)) (is_prefix (a ∷ [])) (begins_quote (q ∷ t)) (is_prefix (a ∷ q ∷ [])) (begins_quote t)
    (and_right (is_prefix []) (begins_quote (a ∷ q ∷ t)) e) (let x : is_prefix (a ∷ []) ≡ false = one_prefix a ∙ g in rw x refl) (let x =
    no_prefix_two a q [] (which q f) in rw x refl)

pub none_two : (cs : List ℕ) → begins is_quote cs ≡ false → begins is_quote (drop 1 cs) ≡ false → begins is_quote (drop 2 cs) ≡ false
    → opens_string cs ≡ false
unfolding opens_string
none_two cs e f g =
    nothing (is_prefix []) (begins_quote cs) (is_prefix (take 1 cs)) (begins_quote (drop 1 cs)) (is_prefix (take 2 cs))
    (begins_quote (drop 2 cs))
    (and_right (is_prefix []) (begins_quote cs) (same cs false e)) (and_right (is_prefix (take 1 cs)) (begins_quote (drop 1 cs))
    (same (drop 1 cs) false f)) (and_right (is_prefix (take 2 cs)) (begins_quote (drop 2 cs)) (same (drop 2 cs) false g))

pub none_pair : (cs : List ℕ) → begins is_quote cs ≡ false → begins is_quote (drop 1 cs) ≡ false → begins_pair cs ≡ false
    → opens_string cs ≡ false
unfolding opens_string is_prefix
none_pair [] e f g = refl
none_pair (a ∷ []) e f g = nothing (is_prefix []) (begins_quote (a ∷ [])) (is_prefix (a ∷ [])) false (is_prefix (a ∷ [])) false
    (and_right (is_prefix []) (begins_quote (a ∷ [])) e) (and_right (is_prefix (a ∷ [])) false refl)
    (and_right (is_prefix (a ∷ [])) false refl)
none_pair (a ∷ b ∷ t) e f g =
    nothing (is_prefix []) (begins_quote (a ∷ b ∷ t)) (is_prefix (a ∷ [])) (begins_quote (b ∷ t)) (is_prefix (a ∷ b ∷ [])) (begins_quote t)
    (and_right (is_prefix []) (begins_quote (a ∷ b ∷ t)) e) (and_right (is_prefix (a ∷ [])) (begins_quote (b ∷ t)) f)
    (let x : is_prefix (a ∷ b ∷ []) ≡ false = two_prefix a b ∙ g in rw x refl)
