-- The last character of a string is a quote.
--
-- Carries: new, next, by After. On: no other file.
use Rattle.std.proofs.Common.{◌≡◌, ℕ, Bool, true, false, not, ◌&&◌, ◌||◌, ◌==◌, List, [], ◌∷◌, ◌++◌, refl, sym, ap, ◌∙◌, arith, ⊎_elim}
use Rattle.std.proofs.Common.{if◌then◌else◌}
use Rattle.std.proofs.lemmas.Slice.Eq.{bytes_eq-Decides}
use Rattle.std.proofs.lemmas.Bool.{false_from_ne_true, or_cases, and_parts, cases_Bool}
use Rattle.pylex_lexeme.specs.Numbers.{split_any}
use Rattle.pylex_lexeme.specs.Strings.{is_prefix, units, is_unit, no_units, ends_by_one, ends_by_three, is_single, is_triple}
use Rattle.pylex_lexeme.specs.Strings.{is_triple_string, is_single_string, counts_as_string, opens_triple}

-- the last character, or this one where there is none
abbrev pub last_of : ℕ → List ℕ → ℕ
last_of d [] = d
last_of d (c ∷ cs) = last_of c cs

pub last_end : (d : ℕ) (cs : List ℕ) (c : ℕ) → last_of d (cs ++ c ∷ []) ≡ c
last_end d [] c = refl
last_end d (a ∷ cs) c = last_end a cs c

last_join : (d : ℕ) (a b : List ℕ) → last_of d (a ++ b) ≡ last_of (last_of d a) b
last_join d [] b = refl
last_join d (c ∷ a) b = last_join c a b

-- Units joined are their text.
abbrev flat : List (List ℕ) → List ℕ
flat [] = []
flat (u ∷ us) = u ++ flat us

flat_units : (t : List ℕ) → flat (units t) ≡ t
flat_units [] = refl
flat_units (a ∷ []) = refl
flat_units (a ∷ b ∷ []) = ⊎_elim (λ (h : (a == 92) ≡ true). rw h refl) (λ (h : (a == 92) ≡ false). rw h refl) (cases_Bool (a == 92))
flat_units (a ∷ b ∷ c ∷ t) = ⊎_elim
    (λ (h : (a == 92) ≡ true). ⊎_elim
    (λ (i : ((b == 13) && (c == 10)) ≡ true). rw (h, i) (ap (λ u. a ∷ b ∷ c ∷ u) (flat_units t)))
    (λ (i : ((b == 13) && (c == 10)) ≡ false). rw (h, i) (ap (λ u. a ∷ b ∷ u) (flat_units (c ∷ t))))
    (cases_Bool ((b == 13) && (c == 10))))
    (λ (h : (a == 92) ≡ false). rw h (ap (λ u. a ∷ u) (flat_units (b ∷ c ∷ t))))
    (cases_Bool (a == 92))

unit_is : (q : ℕ) (u : List ℕ) → is_unit q u ≡ true → u ≡ q ∷ []
unit_is q u e = (bytes_eq-Decides u (q ∷ [])).0 e

none_left : (us : List (List ℕ)) → no_units us ≡ true → us ≡ []
none_left [] e = refl
none_left (u ∷ us) e = cc

one_last : (q d : ℕ) (us : List (List ℕ)) → ends_by_one q us ≡ true → last_of d (flat us) ≡ q
one_last q d [] e = cc
one_last q d (u ∷ us) e = ⊎_elim
    (λ (h : is_unit q u ≡ true). let n : no_units us ≡ true = rw h at e in rw (unit_is q u h, none_left us n) refl)
    (λ (h : is_unit q u ≡ false).
    let f : (not (is_unit 13 u) && not (is_unit 10 u) && ends_by_one q us) ≡ true = rw h at e in
    last_join d u (flat us) ∙ one_last q (last_of d u) us (and_parts (not (is_unit 13 u) && not (is_unit 10 u)) (ends_by_one q us) f).1)
    (cases_Bool (is_unit q u))

three_last : (q d : ℕ) (us : List (List ℕ)) → ends_by_three q us ≡ true → last_of d (flat us) ≡ q
three_last q d [] e = cc
three_last q d (u ∷ []) e = cc
three_last q d (u ∷ v ∷ []) e = cc
three_last q d (u ∷ v ∷ w ∷ us) e = ⊎_elim
    (λ (h : (is_unit q u && is_unit q v && is_unit q w) ≡ true).
    let n : no_units us ≡ true = rw h at e in
    let i = unit_is q w (and_parts (is_unit q u && is_unit q v) (is_unit q w) h).1 in
    last_join d u (v ++ (w ++ flat us)) ∙ last_join (last_of d u) v (w ++ flat us) ∙ rw (i, none_left us n) refl)
    (λ (h : (is_unit q u && is_unit q v && is_unit q w) ≡ false). last_join d u (v ++ (w ++ flat us))
    ∙ three_last q (last_of d u) (v ∷ w ∷ us) (rw h at e))
    (cases_Bool (is_unit q u && is_unit q v && is_unit q w))

single_last : (q d : ℕ) (t : List ℕ) → is_single q t ≡ true → last_of d t ≡ q
unfolding is_single
single_last q d [] e = cc
single_last q d (a ∷ u) e = let p = and_parts (a == q) (ends_by_one q (units u)) e in ap (last_of a) (sym (flat_units u))
    ∙ one_last q a (units u) p.1

triple_last : (q d : ℕ) (t : List ℕ) → is_triple q t ≡ true → last_of d t ≡ q
unfolding is_triple
triple_last q d [] e = cc
triple_last q d (a ∷ []) e = absurd (let p = and_parts (a == q) false e in let z : false ≡ true = p.1 in cc)
triple_last q d (a ∷ b ∷ []) e = absurd (let p = and_parts (a == q) ((b == q) && false) e in let r = and_parts (b == q) false p.1 in
    let z : false ≡ true = r.1 in cc)
triple_last q d (a ∷ b ∷ c ∷ u) e =
    let p = and_parts (a == q) ((b == q) && ((c == q) && ends_by_three q (units u))) e in
    let r = and_parts (b == q) ((c == q) && ends_by_three q (units u)) p.1 in
    let s = and_parts (c == q) (ends_by_three q (units u)) r.1 in
    ap (last_of c) (sym (flat_units u)) ∙ three_last q c (units u) s.1

-- A front and a rest that pass
record Split (p q : List ℕ → Bool) (t : List ℕ) : Type 0 where
  pub front : List ℕ
  pub rest : List ℕ
  pub whole : t ≡ front ++ rest
  pub passes : q rest ≡ true

split_of : (p q : List ℕ → Bool) (t : List ℕ) → split_any p q t ≡ true → Split p q t
split_of p q [] e = record { front = []; rest = []; whole = refl; passes = (and_parts (p []) (q []) e).1 }
split_of p q (c ∷ t) e = ⊎_elim
    (λ (h : (p [] && q (c ∷ t)) ≡ true). record { front = []; rest = c ∷ t; whole = refl; passes = (and_parts (p []) (q (c ∷ t)) h).1 })
    (λ (h : split_any (λ u. p (c ∷ u)) q t ≡ true). let s = split_of (λ u. p (c ∷ u)) q t h in
    record { front = c ∷ s.front; rest = s.rest; whole = ap (λ u. c ∷ u) s.whole; passes = s.passes })
    (or_cases (p [] && q (c ∷ t)) (split_any (λ u. p (c ∷ u)) q t) e)

-- no text that passes ends with a right parenthesis
abbrev EndsOff : (List ℕ → Bool) → Type 0
EndsOff p = (d : ℕ) (t : List ℕ) → p t ≡ true → last_of d t ≡ 41 → ⊥

either_off : (p : ℕ → List ℕ → Bool) → ((q d : ℕ) (t : List ℕ) → p q t ≡ true → last_of d t ≡ q) → EndsOff (λ t. p 39 t || p 34 t)
either_off p f d t e l = ⊎_elim
    (λ (h : p 39 t ≡ true). let z : 39 ≡ 41 = sym (f 39 d t h) ∙ l in omega arith)
    (λ (h : p 34 t ≡ true). let z : 34 ≡ 41 = sym (f 34 d t h) ∙ l in omega arith)
    (or_cases (p 39 t) (p 34 t) e)

after_off : (p : List ℕ → Bool) → EndsOff p → (t : List ℕ) → split_any is_prefix p t ≡ true → last_of 0 t ≡ 41 → ⊥
after_off p f t e l = let s = split_of is_prefix p t e in
    f (last_of 0 s.front) s.rest s.passes (sym (ap (last_of 0) s.whole ∙ last_join 0 s.front s.rest) ∙ l)

triples_off : (t : List ℕ) → is_triple_string t ≡ true → last_of 0 t ≡ 41 → ⊥
unfolding is_triple_string
triples_off t e l = after_off (λ u. is_triple 39 u || is_triple 34 u) (either_off is_triple triple_last) t e l

singles_off : (t : List ℕ) → is_single_string t ≡ true → last_of 0 t ≡ 41 → ⊥
unfolding is_single_string
singles_off t e l = after_off (λ u. is_single 39 u || is_single 34 u) (either_off is_single single_last) t e l

-- no string ends with a right parenthesis
pub no_string : (cs t : List ℕ) → counts_as_string cs (t ++ 41 ∷ []) ≡ false
unfolding counts_as_string
no_string cs t = by (opens_triple cs)
  where
    by : (b : Bool) → (if b then is_triple_string (t ++ 41 ∷ []) else is_single_string (t ++ 41 ∷ [])) ≡ false
    by true = false_from_ne_true (is_triple_string (t ++ 41 ∷ [])) (λ e. triples_off (t ++ 41 ∷ []) e (last_end 0 t 41))
    by false = false_from_ne_true (is_single_string (t ++ 41 ∷ [])) (λ e. singles_off (t ++ 41 ∷ []) e (last_end 0 t 41))
