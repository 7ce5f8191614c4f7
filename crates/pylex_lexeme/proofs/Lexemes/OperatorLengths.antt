-- The longest operator at a place, by its first three characters.
--
-- Carries: exact_of, longest_operator. On: Best, Classes, Longest and 1 more.
use Rattle.std.proofs.Common.{◌≡◌, ℕ, ◌≤◌, ◌<◌, Bool, true, false, ◌&&◌, List, [], ◌∷◌, length, drop, take, refl, sym, ◌∙◌, ap, subst}
use Rattle.std.proofs.Common.{Option, Some, None, arith, suc, zero, ⊎_elim, eqb, leb, is_some, slice_get, if◌then◌else◌}
use Rattle.std.specs.Prelude.{option_map}
use Rattle.std.specs.List.{list_all, list_any}
use Rattle.std.specs.Str.{bytes_eq}
use Rattle.std.proofs.lemmas.Bool.{leb-true, cases_lt, cases_Bool, and_parts}
use Rattle.pylex_lexeme.specs.declared.kinds.Exact.{Exact}
use Rattle.pylex_lexeme.specs.Operators.{operators, is_operator, exact_of}
use Rattle.pylex_lexeme.specs.Lengths.{longest, operator_at, pair_at}
use Rattle.std.proofs.lemmas.List.{length-take}
use Rattle.pylex_lexeme.proofs.Fronts.Longest.{IsBest}
use Rattle.pylex_lexeme.proofs.Fronts.Best.{Reads, NoFront}
use Rattle.pylex_lexeme.proofs.Strings.StringLongest.{longest_reads}
use Rattle.pylex_lexeme.proofs.Lexemes.Classes.{words, by_words}

other_length : (t o : List ℕ) (n : ℕ) → length o ≤ n → n < length t → bytes_eq t o ≡ false
other_length [] o n h l = absurd (omega arith)
other_length (x ∷ t) [] n h l = refl
other_length (x ∷ t) (y ∷ o) zero h l = absurd (omega arith)
other_length (x ∷ t) (y ∷ o) (suc n) h l = let e = other_length t o n (omega arith) (omega arith) in right (eqb x y) (bytes_eq t o) e
  where
    right : (a b : Bool) → b ≡ false → (a && b) ≡ false
    right true b e = e
    right false b e = refl

none_longer : (t : List ℕ) (n : ℕ) (os : List (List ℕ)) → list_all (λ o. leb (length o) n) os ≡ true → n < length t
    → list_any (bytes_eq t) os ≡ false
none_longer t n [] s h = refl
none_longer t n (o ∷ os) s h =
    let p = and_parts (leb (length o) n) (list_all (λ o. leb (length o) n) os) s in
    let d = other_length t o n (leb-true (length o) n p.0) h in
    rw d (none_longer t n os p.1 h)

-- no operator has four characters
pub long_off : (t : List ℕ) → 3 < length t → is_operator t ≡ false
long_off t h = by_words t ∙ none_longer t 3 words refl h

pub no_operator_none : is_operator [] ≡ false
no_operator_none = by_words []

-- the length by the first three characters
abbrev pub pair_of : ℕ → ℕ → ℕ
pair_of a b = if is_operator (a ∷ b ∷ []) then 2 else (if is_operator (a ∷ []) then 1 else 0)

abbrev pub len_of : List ℕ → ℕ
len_of [] = 0
len_of (a ∷ []) = if is_operator (a ∷ []) then 1 else 0
len_of (a ∷ b ∷ []) = pair_of a b
len_of (a ∷ b ∷ c ∷ t) = if is_operator (a ∷ b ∷ c ∷ []) then 3 else pair_of a b

-- no longer front of at most three characters passes
reads_by : (cs : List ℕ) (n : ℕ) → n ≤ length cs → (0 < n → is_operator (take n cs) ≡ true)
    → ((j : ℕ) → n < j → j ≤ 3 → j ≤ length cs → is_operator (take j cs) ≡ false) → Reads is_operator cs n
reads_by cs zero h p f = none
  where
    none : (j : ℕ) → j ≤ length cs → is_operator (take j cs) ≡ false
    none zero l = no_operator_none
    none (suc j) l = ⊎_elim (λ (s : suc j < 4). f (suc j) (omega arith) (omega arith) l) (λ (s : 4 ≤ suc j). let m =
        length-take (suc j) cs in long_off (take (suc j) cs) (omega arith)) (cases_lt (suc j) 4)
reads_by cs (suc n) h p f = record {
  within = h;
  passes = p (omega arith);
  longest = λ j a l. ⊎_elim (λ (s : j < 4). f j a (omega arith) l) (λ (s : 4 ≤ j). let m = length-take j cs in
      long_off (take j cs) (omega arith)) (cases_lt j 4);
}

three_by : (a b c : ℕ) (t : List ℕ) (n : ℕ) → n ≤ 3 → (0 < n → is_operator (take n (a ∷ b ∷ c ∷ t)) ≡ true)
    → (n < 1 → is_operator (a ∷ []) ≡ false) → (n < 2 → is_operator (a ∷ b ∷ []) ≡ false) → (n < 3 → is_operator (a ∷ b ∷ c ∷ []) ≡ false)
    → Reads is_operator (a ∷ b ∷ c ∷ t) n
three_by a b c t n h p f g k = reads_by (a ∷ b ∷ c ∷ t) n (omega arith) p above
  where
    above : (j : ℕ) → n < j → j ≤ 3 → j ≤ length (a ∷ b ∷ c ∷ t) → is_operator (take j (a ∷ b ∷ c ∷ t)) ≡ false
    above zero i m l = absurd (omega arith)
    above (suc zero) i m l = f i
    above (suc (suc zero)) i m l = g i
    above (suc (suc (suc zero))) i m l = k i
    above (suc (suc (suc (suc j)))) i m l = absurd (omega arith)

two_by : (a b : ℕ) (n : ℕ) → n ≤ 2 → (0 < n → is_operator (take n (a ∷ b ∷ [])) ≡ true) → (n < 1 → is_operator (a ∷ []) ≡ false)
    → (n < 2 → is_operator (a ∷ b ∷ []) ≡ false) → Reads is_operator (a ∷ b ∷ []) n
two_by a b n h p f g = reads_by (a ∷ b ∷ []) n (omega arith) p above
  where
    above : (j : ℕ) → n < j → j ≤ 3 → j ≤ length (a ∷ b ∷ []) → is_operator (take j (a ∷ b ∷ [])) ≡ false
    above zero i m l = absurd (omega arith)
    above (suc zero) i m l = f i
    above (suc (suc zero)) i m l = g i
    above (suc (suc (suc j))) i m l = absurd (omega arith)

one_by : (a : ℕ) (n : ℕ) → n ≤ 1 → (0 < n → is_operator (take n (a ∷ [])) ≡ true) → (n < 1 → is_operator (a ∷ []) ≡ false)
    → Reads is_operator (a ∷ []) n
one_by a n h p f = reads_by (a ∷ []) n (omega arith) p above
  where
    above : (j : ℕ) → n < j → j ≤ 3 → j ≤ length (a ∷ []) → is_operator (take j (a ∷ [])) ≡ false
    above zero i m l = absurd (omega arith)
    above (suc zero) i m l = f i
    above (suc (suc j)) i m l = absurd (omega arith)

len_reads : (cs : List ℕ) → Reads is_operator cs (len_of cs)
len_reads [] = reads_by [] 0 (omega arith) (λ h. absurd (omega arith)) (λ j h m l. absurd (omega arith))
len_reads (a ∷ []) =
    ⊎_elim
    (λ (e : is_operator (a ∷ []) ≡ true). rw e (one_by a 1 (omega arith) (λ h. e) (λ h. absurd (omega arith))))
    (λ (e : is_operator (a ∷ []) ≡ false). rw e (one_by a 0 (omega arith) (λ h. absurd (omega arith)) (λ h. e)))
    (cases_Bool (is_operator (a ∷ [])))
len_reads (a ∷ b ∷ []) =
    ⊎_elim
    (λ (e : is_operator (a ∷ b ∷ []) ≡ true). rw e (two_by a b 2 (omega arith) (λ h. e) (λ h. absurd (omega arith))
    (λ h. absurd (omega arith))))
    (λ (e : is_operator (a ∷ b ∷ []) ≡ false).
    ⊎_elim
    (λ (f : is_operator (a ∷ []) ≡ true). rw (e, f) (two_by a b 1 (omega arith) (λ h. f) (λ h. absurd (omega arith)) (λ h. e)))
    (λ (f : is_operator (a ∷ []) ≡ false). rw (e, f) (two_by a b 0 (omega arith) (λ h. absurd (omega arith)) (λ h. f) (λ h. e)))
    (cases_Bool (is_operator (a ∷ []))))
    (cases_Bool (is_operator (a ∷ b ∷ [])))
len_reads (a ∷ b ∷ c ∷ t) =
    ⊎_elim
    (λ (g : is_operator (a ∷ b ∷ c ∷ []) ≡ true). rw g (three_by a b c t 3 (omega arith) (λ h. g) (λ h. absurd (omega arith))
    (λ h. absurd (omega arith)) (λ h. absurd (omega arith))))
    (λ (g : is_operator (a ∷ b ∷ c ∷ []) ≡ false).
    ⊎_elim
    (λ (e : is_operator (a ∷ b ∷ []) ≡ true). rw (g, e) (three_by a b c t 2 (omega arith) (λ h. e) (λ h. absurd (omega arith))
    (λ h. absurd (omega arith)) (λ h. g)))
    (λ (e : is_operator (a ∷ b ∷ []) ≡ false).
    ⊎_elim
    (λ (f : is_operator (a ∷ []) ≡ true). rw (g, e, f)
    (three_by a b c t 1 (omega arith) (λ h. f) (λ h. absurd (omega arith)) (λ h. e) (λ h. g)))
    (λ (f : is_operator (a ∷ []) ≡ false). rw (g, e, f) (three_by a b c t 0 (omega arith) (λ h. absurd (omega arith))
    (λ h. f) (λ h. e) (λ h. g)))
    (cases_Bool (is_operator (a ∷ []))))
    (cases_Bool (is_operator (a ∷ b ∷ []))))
    (cases_Bool (is_operator (a ∷ b ∷ c ∷ [])))

pub len_longest : (cs : List ℕ) → longest is_operator cs ≡ len_of cs
len_longest cs = longest_reads is_operator cs (len_of cs) (len_reads cs)

-- where there is an operator, and where not
pub operator_best : (cs : List ℕ) → 0 < longest is_operator cs → IsBest is_operator cs (longest is_operator cs)
operator_best cs h = rw (len_longest cs) (best (len_of cs) (subst (λ (i : ℕ). 0 < i) (len_longest cs) h) (len_reads cs))
  where
    best : (n : ℕ) → 0 < n → Reads is_operator cs n → IsBest is_operator cs n
    best zero h r = absurd (omega arith)
    best (suc n) h r = r

pub operator_none_at : (cs : List ℕ) → longest is_operator cs ≡ 0 → NoFront is_operator cs
operator_none_at cs h = subst (Reads is_operator cs) (sym (len_longest cs) ∙ h) (len_reads cs)

-- A text by its first characters
pub at_none : (cs : List ℕ) → slice_get cs 0 ≡ None → cs ≡ []
at_none [] e = refl
at_none (a ∷ cs) e = cc

pub at_one : (cs : List ℕ) (a : ℕ) → slice_get cs 0 ≡ Some a → cs ≡ a ∷ drop 1 cs
at_one [] a e = cc
at_one (b ∷ cs) a e = let f : b ≡ a = cc in ap (λ c. c ∷ cs) f

pub only_one : (cs : List ℕ) (a : ℕ) → slice_get cs 0 ≡ Some a → slice_get (drop 1 cs) 0 ≡ None → cs ≡ a ∷ []
only_one cs a e f = at_one cs a e ∙ ap (λ t. a ∷ t) (at_none (drop 1 cs) f)

-- what the steps of a reader say
pub one_of : (cs l m : List ℕ) (x : ℕ) → l ≡ cs → Some x ≡ slice_get l 0 → m ≡ drop 1 l → None ≡ slice_get m 0 → cs ≡ x ∷ []
one_of cs l m x e f g h = sym e ∙ only_one l x (sym f) (ap (λ r. slice_get r 0) (sym g) ∙ sym h)

pub two_of : (cs l m n : List ℕ) (x y : ℕ) → l ≡ cs → Some x ≡ slice_get l 0 → m ≡ drop 1 l → Some y ≡ slice_get m 0 → n ≡ drop 1 m
    → None ≡ slice_get n 0 → cs ≡ x ∷ y ∷ []
two_of cs l m n x y e f g h i j = sym e ∙ at_one l x (sym f)
    ∙ ap (λ t. x ∷ t) (sym g ∙ only_one m y (sym h) (ap (λ r. slice_get r 0) (sym i) ∙ sym j))

pub three_of : (cs l m n : List ℕ) (x y z : ℕ) → l ≡ cs → Some x ≡ slice_get l 0 → m ≡ drop 1 l → Some y ≡ slice_get m 0 → n ≡ drop 1 m
    → Some z ≡ slice_get n 0 → cs ≡ x ∷ y ∷ z ∷ drop 1 n
three_of cs l m n x y z e f g h i j = sym e ∙ at_one l x (sym f)
    ∙ ap (λ t. x ∷ t) (sym g ∙ at_one m y (sym h) ∙ ap (λ t. y ∷ t) (sym i ∙ at_one n z (sym j)))

-- names
pub operator_some : (t : List ℕ) → is_some (exact_of t) ≡ is_operator t
unfolding is_operator
operator_some t = refl

pub exact_none : exact_of [] ≡ None
unfolding exact_of operators
exact_none = refl

pub exact_long : (t : List ℕ) → 3 < length t → exact_of t ≡ None
exact_long t h = none_by (exact_of t) (operator_some t ∙ long_off t h)
  where
    none_by : (o : Option Exact) → is_some o ≡ false → o ≡ None
    none_by None e = refl
    none_by (Some x) e = cc

pub exact_off : (t : List ℕ) → is_operator t ≡ false → exact_of t ≡ None
exact_off t h = none_by (exact_of t) (operator_some t ∙ h)
  where
    none_by : (o : Option Exact) → is_some o ≡ false → o ≡ None
    none_by None e = refl
    none_by (Some x) e = cc

is_by : (t : List ℕ) (o : Option Exact) → exact_of t ≡ o → is_operator t ≡ is_some o
is_by t o e = sym (operator_some t) ∙ ap is_some e

-- the longest operator by the first three characters
abbrev pub at_of : List ℕ → Option (Exact × ℕ)
at_of [] = None
at_of (a ∷ []) = option_map (λ e. (e, 1)) (exact_of (a ∷ []))
at_of (a ∷ b ∷ []) = pair_at a b
at_of (a ∷ b ∷ c ∷ t) = elim (exact_of (a ∷ b ∷ c ∷ [])) [ Some e ↦ Some (e, 3) | None ↦ pair_at a b ]

abbrev at_length : List ℕ → ℕ → Option (Exact × ℕ)
at_length cs n = option_map (λ e. (e, n)) (exact_of (take n cs))

pair_is : (a b : ℕ) (t : List ℕ) → at_length (a ∷ b ∷ t) (pair_of a b) ≡ pair_at a b
pair_is a b t = two (exact_of (a ∷ b ∷ [])) refl
  where
    one : (o : Option Exact) → exact_of (a ∷ []) ≡ o → at_length (a ∷ b ∷ t) (if is_operator (a ∷ []) then 1 else 0) ≡
        option_map (λ e. (e, 1)) o
    one None h = let i = is_by (a ∷ []) None h in rw (i, exact_none) refl
    one (Some e) h = let i = is_by (a ∷ []) (Some e) h in rw (i, h) refl

    two : (o : Option Exact) → exact_of (a ∷ b ∷ []) ≡ o → at_length (a ∷ b ∷ t) (pair_of a b) ≡ elim o [
      | Some e ↦ Some (e, 2)
      | None ↦ option_map (λ e. (e, 1)) (exact_of (a ∷ []))
    ]
    two None h = let i = is_by (a ∷ b ∷ []) None h in rw i (one (exact_of (a ∷ [])) refl)
    two (Some e) h = let i = is_by (a ∷ b ∷ []) (Some e) h in rw (i, h) refl

at_is : (cs : List ℕ) → at_length cs (len_of cs) ≡ at_of cs
at_is [] = rw exact_none refl
at_is (a ∷ []) = one (exact_of (a ∷ [])) refl
  where
    one : (o : Option Exact) → exact_of (a ∷ []) ≡ o → at_length (a ∷ []) (len_of (a ∷ [])) ≡ option_map (λ e. (e, 1)) o
    one None h = let i = is_by (a ∷ []) None h in rw (i, exact_none) refl
    one (Some e) h = let i = is_by (a ∷ []) (Some e) h in rw (i, h) refl
at_is (a ∷ b ∷ []) = pair_is a b []
at_is (a ∷ b ∷ c ∷ t) = three (exact_of (a ∷ b ∷ c ∷ [])) refl
  where
    three : (o : Option Exact) → exact_of (a ∷ b ∷ c ∷ []) ≡ o → at_length (a ∷ b ∷ c ∷ t) (len_of (a ∷ b ∷ c ∷ t)) ≡ elim o
        [ Some e ↦ Some (e, 3) | None ↦ pair_at a b ]
    three None h = let i = is_by (a ∷ b ∷ c ∷ []) None h in rw i (pair_is a b (c ∷ t))
    three (Some e) h = let i = is_by (a ∷ b ∷ c ∷ []) (Some e) h in rw (i, h) refl

pub operator_is : (cs ds : List ℕ) → cs ≡ ds → operator_at cs ≡ at_of ds
unfolding operator_at
operator_is cs ds e = ap (at_length cs) (len_longest cs) ∙ at_is cs ∙ ap at_of e

pub none_at : (cs : List ℕ) → cs ≡ [] → None ≡ operator_at cs
none_at cs e = sym (operator_is cs [] e)

pub one_at : (cs : List ℕ) (a : ℕ) (o : Option Exact) → cs ≡ a ∷ [] → o ≡ exact_of (a ∷ []) → option_map (λ e. (e, 1)) o ≡ operator_at cs
one_at cs a o e h = ap (option_map (λ e. (e, 1))) h ∙ sym (operator_is cs (a ∷ []) e)

pub two_at : (cs : List ℕ) (a b : ℕ) → cs ≡ a ∷ b ∷ [] → pair_at a b ≡ operator_at cs
two_at cs a b e = sym (operator_is cs (a ∷ b ∷ []) e)

pub three_at : (cs t : List ℕ) (a b c : ℕ) (x : Exact) → cs ≡ a ∷ b ∷ c ∷ t → Some x ≡ exact_of (a ∷ b ∷ c ∷ [])
    → Some (x, 3) ≡ operator_at cs
three_at cs t a b c x e h = let f = sym h in let g : at_of (a ∷ b ∷ c ∷ t) ≡ Some (x, 3) = rw (f, at_of) refl in
    sym (operator_is cs (a ∷ b ∷ c ∷ t) e ∙ g)

pub pair_at_three : (cs t : List ℕ) (a b c : ℕ) → cs ≡ a ∷ b ∷ c ∷ t → None ≡ exact_of (a ∷ b ∷ c ∷ []) → pair_at a b ≡ operator_at cs
pair_at_three cs t a b c e h = let f = sym h in let g : at_of (a ∷ b ∷ c ∷ t) ≡ pair_at a b = rw (f, at_of) refl in
    sym (operator_is cs (a ∷ b ∷ c ∷ t) e ∙ g)

pub none_of : (cs l : List ℕ) → l ≡ cs → None ≡ slice_get l 0 → cs ≡ []
none_of cs l e f = sym e ∙ at_none l (sym f)

-- where a fourth character stands
pub long_of : (cs l m n k : List ℕ) (x y z : ℕ) → l ≡ cs → Some x ≡ slice_get l 0 → m ≡ drop 1 l → Some y ≡ slice_get m 0 → n ≡ drop 1 m
    → Some z ≡ slice_get n 0 → k ≡ drop 1 n → (o : Option ℕ) → o ≡ slice_get k 0 → true ≡ is_some o → exact_of cs ≡ None
long_of cs l m n k x y z e f g h i j p o q r = ap exact_of w
    ∙ exact_long (x ∷ y ∷ z ∷ drop 1 n) (more (drop 1 n) (r ∙ ap is_some (q ∙ ap (λ u. slice_get u 0) p)))
  where
    w : cs ≡ x ∷ y ∷ z ∷ drop 1 n
    w = three_of cs l m n x y z e f g h i j

    more : (t : List ℕ) → true ≡ is_some (slice_get t 0) → 3 < length (x ∷ y ∷ z ∷ t)
    more [] s = cc
    more (b ∷ t) s = omega arith

pub exact_three : (cs l m n k : List ℕ) (x y z : ℕ) → l ≡ cs → Some x ≡ slice_get l 0 → m ≡ drop 1 l → Some y ≡ slice_get m 0 → n ≡ drop 1 m
    → Some z ≡ slice_get n 0 → k ≡ drop 1 n → (o : Option ℕ) → o ≡ slice_get k 0 → false ≡ is_some o → cs ≡ x ∷ y ∷ z ∷ []
exact_three cs l m n k x y z e f g h i j p o q r = three_of cs l m n x y z e f g h i j
    ∙ ap (λ t. x ∷ y ∷ z ∷ t) (none (drop 1 n) (r ∙ ap is_some (q ∙ ap (λ u. slice_get u 0) p)))
  where
    none : (t : List ℕ) → false ≡ is_some (slice_get t 0) → t ≡ []
    none [] s = refl
    none (b ∷ t) s = cc
