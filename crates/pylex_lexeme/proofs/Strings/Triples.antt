-- Literals in three quotes, and the steps of the readers.
--
-- Carries: close_single, close_triple, ends_by_join, unit. On: Units, Best,
-- Longest and 1 more.
use Rattle.std.proofs.Common.{◌≡◌, ℕ, ◌+◌, ◌-◌, ◌≤◌, ◌<◌, Bool, true, false, ◌&&◌, ◌==◌, not, List, [], ◌∷◌, length, drop, take, refl, sym}
use Rattle.std.proofs.Common.{◌∙◌, ap, subst, arith, zero, suc, ⊎_elim, length-drop}
use Rattle.std.proofs.lemmas.Bool.{eqb-true, cases_Bool, and_parts, and_right}
use Rattle.pylex_lexeme.specs.Chars.{begins, is_comment_part}
use Rattle.pylex_lexeme.specs.Strings.{units, is_unit, no_units, ends_by_one, ends_by_three}
use Rattle.pylex_lexeme.specs.Lengths.{unit_len, shift, single_of, triple_of, single_len, triple_len, begins_quotes}
use Rattle.pylex_lexeme.proofs.Fronts.Longest.{IsBest}
use Rattle.pylex_lexeme.proofs.Fronts.Best.{Reads}
use Rattle.pylex_lexeme.proofs.Fronts.Taking.{drop_drop}
use Rattle.pylex_lexeme.proofs.Strings.Units.{left_of, left_shift, shift_reads, units_plain, some_units, unit_one, IsQuote, unit_slash}
use Rattle.pylex_lexeme.proofs.Strings.Units.{slash_not, Closer, single_closer}

first_of : ℕ → List (List ℕ) → Bool
first_of q [] = false
first_of q (u ∷ us) = is_unit q u

two : ℕ → List (List ℕ) → Bool
two q [] = false
two q (u ∷ us) = is_unit q u && first_of q us

first_units : (q : ℕ) → IsQuote q → (s : List ℕ) → first_of q (units s) ≡ begins (λ c. c == q) s
unfolding first_of
first_units q k [] = refl
first_units q k (a ∷ s) =
    ⊎_elim (at_slash a s)
    (λ (h : (a == 92) ≡ false). rw (units_plain a s h) (unit_one q a))
    (cases_Bool (a == 92))
  where
    at_slash : (a : ℕ) (s : List ℕ) → (a == 92) ≡ true → first_of q (units (a ∷ s)) ≡ (a == q)
    at_slash a [] h = unit_one q a
    at_slash a (b ∷ []) h = rw h (unit_slash q a (b ∷ []) k.slash h ∙ sym (slash_not q a k.slash h))
    at_slash a (b ∷ c ∷ t) h =
        ⊎_elim
        (λ (n : ((b == 13) && (c == 10)) ≡ true). rw (h, n) (unit_slash q a (b ∷ c ∷ []) k.slash h ∙ sym (slash_not q a k.slash h)))
        (λ (n : ((b == 13) && (c == 10)) ≡ false). rw (h, n) (unit_slash q a (b ∷ []) k.slash h ∙ sym (slash_not q a k.slash h)))
        (cases_Bool ((b == 13) && (c == 10)))

two_units : (q : ℕ) → IsQuote q → (s : List ℕ) → two q (units s) ≡ (begins (λ c. c == q) s && begins (λ c. c == q) (drop 1 s))
unfolding first_of two
two_units q k [] = refl
two_units q k (a ∷ s) =
    ⊎_elim (λ (h : (a == 92) ≡ true). let z = slash_not q a k.slash h in at_slash a s h ∙ rw z refl)
    (λ (h : (a == 92) ≡ false). rw (units_plain a s h) (rw (unit_one q a, first_units q k s) refl))
    (cases_Bool (a == 92))
  where
    at_slash : (a : ℕ) (s : List ℕ) → (a == 92) ≡ true → two q (units (a ∷ s)) ≡ false
    at_slash a [] h = let x = unit_slash q a [] k.slash h in rw x refl
    at_slash a (b ∷ []) h = let x = unit_slash q a (b ∷ []) k.slash h in rw (h, x) refl
    at_slash a (b ∷ c ∷ t) h =
        ⊎_elim
        (λ (n : ((b == 13) && (c == 10)) ≡ true). let x = unit_slash q a (b ∷ c ∷ []) k.slash h in rw (h, n, x) refl)
        (λ (n : ((b == 13) && (c == 10)) ≡ false). let x = unit_slash q a (b ∷ []) k.slash h in rw (h, n, x) refl)
        (cases_Bool ((b == 13) && (c == 10)))

assoc : (x y z : Bool) → (x && (y && z)) ≡ ((x && y) && z)
assoc true y z = refl
assoc false y z = refl

three_ends : (q : ℕ) (u : List ℕ) (us : List (List ℕ)) → (is_unit q u && two q us) ≡ false → ends_by_three q (u ∷ us) ≡ ends_by_three q us
unfolding first_of two
three_ends q u [] e = refl
three_ends q u (v ∷ []) e = refl
three_ends q u (v ∷ w ∷ us) e = let h : (is_unit q u && is_unit q v && is_unit q w) ≡ false =
    sym (assoc (is_unit q u) (is_unit q v) (is_unit q w)) ∙ e in rw h refl

three_counts : (q : ℕ) (u : List ℕ) (us : List (List ℕ)) → (is_unit q u && two q us) ≡ false
    → triple_of q (u ∷ us) ≡ shift (length u) (triple_of q us)
unfolding first_of two
three_counts q u [] e = refl
three_counts q u (v ∷ []) e = refl
three_counts q u (v ∷ w ∷ us) e = let h : (is_unit q u && is_unit q v && is_unit q w) ≡ false =
    sym (assoc (is_unit q u) (is_unit q v) (is_unit q w)) ∙ e in rw h refl

three_test : (q : ℕ) → IsQuote q → (a : ℕ) (s : List ℕ) → (is_unit q (a ∷ []) && two q (units s)) ≡ begins_quotes q (a ∷ s)
three_test q k a s = rw (unit_one q a, two_units q k s) (assoc (a == q) (begins (λ c. c == q) s) (begins (λ c. c == q) (drop 1 s)))

front_quotes : (q a : ℕ) (t : List ℕ) (i : ℕ) → begins_quotes q (a ∷ t) ≡ false → begins_quotes q (a ∷ take i t) ≡ false
front_quotes q a t zero e = and_right ((a == q) && false) false refl
front_quotes q a [] (suc i) e = e
front_quotes q a (b ∷ t) (suc zero) e = and_right ((a == q) && (b == q)) false refl
front_quotes q a (b ∷ []) (suc (suc i)) e = e
front_quotes q a (b ∷ c ∷ t) (suc (suc i)) e = e

three_units : (q : ℕ) → IsQuote q → (a b c : ℕ) (s : List ℕ) → (a == q) ≡ true → (b == q) ≡ true → (c == q) ≡ true
    → units (a ∷ b ∷ c ∷ s) ≡ (a ∷ []) ∷ (b ∷ []) ∷ (c ∷ []) ∷ units s
three_units q k a b c s e f g =
    let x : (a == 92) ≡ false = (let w : a ≡ q = eqb-true a q e in rw w k.other) in
    let y : (b == 92) ≡ false = (let w : b ≡ q = eqb-true b q f in rw w k.other) in
    let z : (c == 92) ≡ false = (let w : c ≡ q = eqb-true c q g in rw w k.other) in
    units_plain a (b ∷ c ∷ s) x ∙ ap (λ us. (a ∷ []) ∷ us) (units_plain b (c ∷ s) y ∙ ap (λ us. (b ∷ []) ∷ us) (units_plain c s z))

three_best : (q : ℕ) → IsQuote q → (a b c : ℕ) (s : List ℕ) → (a == q) ≡ true → (b == q) ≡ true → (c == q) ≡ true
    → IsBest (λ u. ends_by_three q (units u)) (a ∷ b ∷ c ∷ s) 3
three_best q k a b c s e f g = record { within = omega arith; passes = closed []; longest = past }
  where
    closed : (t : List ℕ) → ends_by_three q (units (a ∷ b ∷ c ∷ t)) ≡ no_units (units t)
    closed t = ap (ends_by_three q) (three_units q k a b c t e f g) ∙ rw (unit_one q a, unit_one q b, unit_one q c, e, f, g) refl

    past : (j : ℕ) → 3 < j → j ≤ length (a ∷ b ∷ c ∷ s) → ends_by_three q (units (take j (a ∷ b ∷ c ∷ s))) ≡ false
    past zero i l = absurd (omega arith)
    past (suc zero) i l = absurd (omega arith)
    past (suc (suc zero)) i l = absurd (omega arith)
    past (suc (suc (suc j))) i l = closed (take j s) ∙ some_units j s (omega arith) (omega arith)

triple_plain : (q : ℕ) → IsQuote q → (a : ℕ) (t : List ℕ) → (a == 92) ≡ false
    → Reads (λ u. ends_by_three q (units u)) t (triple_of q (units t))
    → Reads (λ u. ends_by_three q (units u)) (a ∷ t) (triple_of q (units (a ∷ t)))
triple_plain q k a t h r =
    ⊎_elim (at_three a t)
    (λ (e : begins_quotes q (a ∷ t) ≡ false).
    rw (units_plain a t h) (rw (three_counts q (a ∷ []) (units t) (three_test q k a t ∙ e))
    (shift_reads (λ u. ends_by_three q (units u)) (a ∷ t) 1 (triple_of q (units t)) (omega arith) short (goes_on e) r)))
    (cases_Bool (begins_quotes q (a ∷ t)))
  where
    short : (j : ℕ) → j < 1 → ends_by_three q (units (take j (a ∷ t))) ≡ false
    short zero i = refl
    short (suc j) i = absurd (omega arith)

    goes_on : begins_quotes q (a ∷ t) ≡ false → (i : ℕ) → ends_by_three q (units (take (1 + i) (a ∷ t))) ≡ ends_by_three q
        (units (take i (drop 1 (a ∷ t))))
    goes_on e i =
        let z : 1 + i ≡ suc i = omega arith in
        rw z (rw (units_plain a (take i t) h) (three_ends q (a ∷ []) (units (take i t)) (three_test q k a (take i t)
        ∙ front_quotes q a t i e)))

    at_three : (a : ℕ) (t : List ℕ) → begins_quotes q (a ∷ t) ≡ true
        → Reads (λ u. ends_by_three q (units u)) (a ∷ t) (triple_of q (units (a ∷ t)))
    at_three a [] e = absurd (let p = and_parts ((a == q) && false) false e in let z : false ≡ true = p.1 in cc)
    at_three a (b ∷ []) e = absurd (let p = and_parts ((a == q) && (b == q)) false e in let z : false ≡ true = p.1 in cc)
    at_three a (b ∷ c ∷ s) e =
        let p = and_parts ((a == q) && (b == q)) (c == q) e in
        let o = and_parts (a == q) (b == q) p.0 in
        let w : triple_of q (units (a ∷ b ∷ c ∷ s)) ≡ 3 = ap (triple_of q) (three_units q k a b c s o.0 o.1 p.1)
        ∙ rw (unit_one q a, unit_one q b, unit_one q c, o.0, o.1, p.1) refl in
        subst (λ (n : ℕ). Reads (λ u. ends_by_three q (units u)) (a ∷ b ∷ c ∷ s) n) (sym w) (three_best q k a b c s o.0 o.1 p.1)

pub triple_closer : (q : ℕ) → IsQuote q → Closer (ends_by_three q) (triple_of q)
unfolding first_of two
triple_closer q k = record {
  empty = refl;
  nothing = refl;
  skips = λ a t us h. (let x = unit_slash q a t k.slash h in three_ends q (a ∷ t) us (rw x refl));
  counts = λ a t us h. (let x = unit_slash q a t k.slash h in three_counts q (a ∷ t) us (rw x refl)
      ∙ ap (λ n. shift n (triple_of q us)) (length_suc a t));
  plain = triple_plain q k;
}
  where
    length_suc : (a : ℕ) (t : List ℕ) → length (a ∷ t) ≡ suc (length t)
    length_suc a t = omega arith

-- Steps of readers
pub unit_plain : (cs : List ℕ) → begins (λ c. c == 92) cs ≡ false → unit_len cs ≡ 1
unfolding unit_len
unit_plain cs e = rw e refl

pub unit_end : (cs : List ℕ) → begins (λ c. c == 92) cs ≡ true
    → (begins (λ c. c == 13) (drop 1 cs) && begins (λ c. c == 10) (drop 1 (drop 1 cs))) ≡ true → unit_len cs ≡ 3
unfolding unit_len
unit_end cs e f = let z = drop_drop 1 1 cs in let g : (begins (λ c. c == 13) (drop 1 cs) && begins (λ c. c == 10) (drop 2 cs)) ≡ true =
    ap (λ u. begins (λ c. c == 13) (drop 1 cs) && begins (λ c. c == 10) u) (sym z) ∙ f in rw (e, g) refl

pub unit_two : (cs : List ℕ) → begins (λ c. c == 92) cs ≡ true
    → (begins (λ c. c == 13) (drop 1 cs) && begins (λ c. c == 10) (drop 1 (drop 1 cs))) ≡ false → unit_len cs ≡ 2
unfolding unit_len
unit_two cs e f = let z = drop_drop 1 1 cs in let g : (begins (λ c. c == 13) (drop 1 cs) && begins (λ c. c == 10) (drop 2 cs)) ≡ false =
    ap (λ u. begins (λ c. c == 13) (drop 1 cs) && begins (λ c. c == 10) u) (sym z) ∙ f in rw (e, g) refl

pub unit_shorter : (f : ℕ → Bool) (cs : List ℕ) → begins f cs ≡ true → length (drop (unit_len cs) cs) < length cs
unfolding unit_len
unit_shorter f [] e = cc
unit_shorter f (a ∷ t) e =
    ⊎_elim
    (λ (h : (a == 92) ≡ true).
    ⊎_elim
    (λ (i : (begins (λ c. c == 13) t && begins (λ c. c == 10) (drop 1 t)) ≡ true). let d : length (drop 3 (a ∷ t)) ≡ length (a ∷ t) - 3 =
    length-drop 3 (a ∷ t) in rw (h, i) (omega arith))
    (λ (i : (begins (λ c. c == 13) t && begins (λ c. c == 10) (drop 1 t)) ≡ false). let d : length (drop 2 (a ∷ t)) ≡ length (a ∷ t) - 2 =
    length-drop 2 (a ∷ t) in rw (h, i) (omega arith))
    (cases_Bool (begins (λ c. c == 13) t && begins (λ c. c == 10) (drop 1 t))))
    (λ (h : (a == 92) ≡ false). rw h (omega arith))
    (cases_Bool (a == 92))

slash_step : (e : List (List ℕ) → Bool) (l : List (List ℕ) → ℕ) → Closer e l → (a : ℕ) (t : List ℕ) → (a == 92) ≡ true
    → l (units (a ∷ t)) ≡ shift (unit_len (a ∷ t)) (l (units (drop (unit_len (a ∷ t)) (a ∷ t))))
unfolding unit_len
slash_step e l k a [] h = rw h (k.counts a [] [] h ∙ rw k.nothing refl)
slash_step e l k a (b ∷ []) h = rw (h, and_right (b == 13) false refl) (k.counts a (b ∷ []) [] h ∙ rw k.nothing refl)
slash_step e l k a (b ∷ c ∷ t) h =
    ⊎_elim
    (λ (n : ((b == 13) && (c == 10)) ≡ true). rw (h, n) (k.counts a (b ∷ c ∷ []) (units t) h))
    (λ (n : ((b == 13) && (c == 10)) ≡ false). rw (h, n) (k.counts a (b ∷ []) (units (c ∷ t)) h))
    (cases_Bool ((b == 13) && (c == 10)))

comment_part : (a : ℕ) → is_comment_part a ≡ true → ((a == 13) ≡ false) × ((a == 10) ≡ false)
comment_part a e = let p = and_parts (not (a == 10)) (not (a == 13)) e in (flip (a == 13) p.1, flip (a == 10) p.0)
  where
    flip : (b : Bool) → not b ≡ true → b ≡ false
    flip true e = cc
    flip false e = refl

pub single_step : (q : ℕ) (cs : List ℕ) → IsQuote q → begins (λ c. c == q) cs ≡ false → begins is_comment_part cs ≡ true
    → left_of (single_len q (drop (unit_len cs) cs)) (drop (unit_len cs) cs) ≡ left_of (single_len q cs) cs
unfolding single_len
single_step q [] k e f = cc
single_step q (a ∷ t) k e f =
    let s : single_of q (units (a ∷ t)) ≡ shift (unit_len (a ∷ t)) (single_of q (units (drop (unit_len (a ∷ t)) (a ∷ t)))) =
    ⊎_elim (slash_step (ends_by_one q) (single_of q) (single_closer q k) a t) plain (cases_Bool (a == 92)) in
    rw s (sym (left_shift (unit_len (a ∷ t)) (single_of q (units (drop (unit_len (a ∷ t)) (a ∷ t)))) (a ∷ t)))
  where
    plain : (a == 92) ≡ false → single_of q (units (a ∷ t)) ≡ shift (unit_len (a ∷ t))
        (single_of q (units (drop (unit_len (a ∷ t)) (a ∷ t))))
    plain h =
        let p = comment_part a f in
        let u = unit_plain (a ∷ t) h in
        rw (u, units_plain a t h) (rw (unit_one q a, unit_one 13 a, unit_one 10 a) (rw (e, p.0, p.1) refl))

pub single_here : (q : ℕ) (cs : List ℕ) → IsQuote q → begins (λ c. c == q) cs ≡ true → single_len q cs ≡ 1
unfolding single_len
single_here q [] k e = cc
single_here q (a ∷ t) k e = let z : a ≡ q = eqb-true a q e in let h : (a == 92) ≡ false = rw z k.other in
    rw (units_plain a t h) (rw (unit_one q a, e) refl)

pub single_stop : (q : ℕ) (cs : List ℕ) → IsQuote q → begins (λ c. c == q) cs ≡ false
    → begins is_comment_part cs ≡ false → single_len q cs ≡ 0
unfolding single_len
single_stop q [] k e f = refl
single_stop q (a ∷ t) k e f =
    ⊎_elim
    (λ (h : (a == 13) ≡ true). let z : a ≡ 13 = eqb-true a 13 h in let y : (a == 92) ≡ false = rw z refl in
    rw (units_plain a t y) (rw (unit_one q a, unit_one 13 a, unit_one 10 a) (rw (e, h) refl)))
    (λ (h : (a == 13) ≡ false).
    let g : (a == 10) ≡ true = feed (a == 10) (a == 13) f h in
    let z : a ≡ 10 = eqb-true a 10 g in let y : (a == 92) ≡ false = rw z refl in
    rw (units_plain a t y) (rw (unit_one q a, unit_one 13 a, unit_one 10 a) (rw (e, h, g) refl)))
    (cases_Bool (a == 13))
  where
    feed : (x y : Bool) → (not x && not y) ≡ false → y ≡ false → x ≡ true
    feed true y i j = refl
    feed false true i j = cc
    feed false false i j = cc

pub triple_step : (q : ℕ) (cs : List ℕ) → IsQuote q → begins_quotes q cs ≡ false → begins (λ c. true) cs ≡ true
    → left_of (triple_len q (drop (unit_len cs) cs)) (drop (unit_len cs) cs) ≡ left_of (triple_len q cs) cs
unfolding triple_len
triple_step q [] k e f = cc
triple_step q (a ∷ t) k e f =
    let s : triple_of q (units (a ∷ t)) ≡ shift (unit_len (a ∷ t)) (triple_of q (units (drop (unit_len (a ∷ t)) (a ∷ t)))) =
    ⊎_elim (slash_step (ends_by_three q) (triple_of q) (triple_closer q k) a t) plain (cases_Bool (a == 92)) in
    rw s (sym (left_shift (unit_len (a ∷ t)) (triple_of q (units (drop (unit_len (a ∷ t)) (a ∷ t)))) (a ∷ t)))
  where
    plain : (a == 92) ≡ false → triple_of q (units (a ∷ t)) ≡ shift (unit_len (a ∷ t))
        (triple_of q (units (drop (unit_len (a ∷ t)) (a ∷ t))))
    plain h =
        let u = unit_plain (a ∷ t) h in
        rw (u, units_plain a t h) (three_counts q (a ∷ []) (units t) (three_test q k a t ∙ e))

pub triple_here : (q : ℕ) (cs : List ℕ) → IsQuote q → begins_quotes q cs ≡ true → triple_len q cs ≡ 3
unfolding triple_len
triple_here q [] k e = cc
triple_here q (a ∷ []) k e = absurd (let p = and_parts ((a == q) && false) false e in let z : false ≡ true = p.1 in cc)
triple_here q (a ∷ b ∷ []) k e = absurd (let p = and_parts ((a == q) && (b == q)) false e in let z : false ≡ true = p.1 in cc)
triple_here q (a ∷ b ∷ c ∷ s) k e =
    let p = and_parts ((a == q) && (b == q)) (c == q) e in
    let o = and_parts (a == q) (b == q) p.0 in
    let x : (a == 92) ≡ false = (let w : a ≡ q = eqb-true a q o.0 in rw w k.other) in
    let y : (b == 92) ≡ false = (let w : b ≡ q = eqb-true b q o.1 in rw w k.other) in
    let z : (c == 92) ≡ false = (let w : c ≡ q = eqb-true c q p.1 in rw w k.other) in
    let u : units (a ∷ b ∷ c ∷ s) ≡ (a ∷ []) ∷ (b ∷ []) ∷ (c ∷ []) ∷ units s = units_plain a (b ∷ c ∷ s) x
    ∙ ap (λ us. (a ∷ []) ∷ us) (units_plain b (c ∷ s) y ∙ ap (λ us. (b ∷ []) ∷ us) (units_plain c s z)) in
    rw u (rw (unit_one q a, unit_one q b, unit_one q c, o.0, o.1, p.1) refl)

pub triple_stop : (q : ℕ) (cs : List ℕ) → begins (λ c. true) cs ≡ false → triple_len q cs ≡ 0
unfolding triple_len
triple_stop q [] e = refl
triple_stop q (a ∷ t) e = cc
