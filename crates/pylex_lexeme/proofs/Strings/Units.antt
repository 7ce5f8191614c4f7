-- The units of a literal, and where it is closed.
--
-- Carries: close_single, close_triple, ends_by_join. On: Best, Longest, Taking and 1 more.
use Rattle.std.proofs.Common.{◌≡◌, ℕ, ◌+◌, ◌-◌, ◌≤◌, ◌<◌, Bool, true, false, ◌&&◌, ◌||◌, ◌==◌, not, List, [], ◌∷◌, length, drop, take, refl}
use Rattle.std.proofs.Common.{sym, ◌∙◌, ap, arith, zero, suc, ⊎_elim, ltb, Option, Some, None, if◌then◌else◌, length-drop}
use Rattle.std.proofs.lemmas.Bool.{cases_lt, eqb-true, cases_Bool, or_parts, or_cases}
use Rattle.std.proofs.lemmas.Bool.Decides.{nat_tests}
use Rattle.pylex_lexeme.specs.Numbers.{is_nil}
use Rattle.pylex_lexeme.specs.declared.string.Quote.{Quote}
use Rattle.pylex_lexeme.specs.declared.string.Quote.TheVariants.{Single, Double}
use Rattle.pylex_lexeme.specs.Strings.{units, is_unit, no_units, ends_by_one, quote_char}
use Rattle.pylex_lexeme.specs.Lengths.{shift, single_of, Closed}
use Rattle.pylex_lexeme.proofs.Fronts.Longest.{IsBest}
use Rattle.pylex_lexeme.proofs.Fronts.Best.{Reads}
use Rattle.pylex_lexeme.proofs.Fronts.Taking.{drop_drop}

abbrev pub left_of : ℕ → List ℕ → Option (List ℕ)
left_of zero cs = None
left_of (suc n) cs = Some (drop (suc n) cs)

pub left_shift : (u n : ℕ) (cs : List ℕ) → left_of (shift u n) cs ≡ left_of n (drop u cs)
left_shift u zero cs = refl
left_shift u (suc n) cs = let e : u + suc n ≡ suc (u + n) = omega arith in
    rw e (ap Some (ap (λ i. drop i cs) (sym e) ∙ sym (drop_drop u (suc n) cs)))

pub closed_found : (n : ℕ) (cs rest : List ℕ) → Some rest ≡ left_of n cs → Closed n true cs rest
closed_found zero cs rest e = cc
closed_found (suc n) cs rest e = let p : ltb 0 (suc n) ≡ true = grind (arith, nat_tests) in record { found = sym p; rest = λ h. cc }

pub closed_none : (n : ℕ) (cs rest : List ℕ) → None ≡ left_of n cs → Closed n false cs rest
closed_none zero cs rest e = record { found = refl; rest = λ h. cc }
closed_none (suc n) cs rest e = cc

-- a reading after u characters
pub shift_reads : (p : List ℕ → Bool) (cs : List ℕ) (u n : ℕ) → u ≤ length cs → ((j : ℕ) → j < u → p (take j cs) ≡ false)
    → ((i : ℕ) → p (take (u + i) cs) ≡ p (take i (drop u cs))) → Reads p (drop u cs) n → Reads p cs (shift u n)
shift_reads p cs u zero l f g r = none
  where
    none : (j : ℕ) → j ≤ length cs → p (take j cs) ≡ false
    none j h =
        let d : length (drop u cs) ≡ length cs - u = length-drop u cs in
        ⊎_elim
        (λ (i : j < u). f j i)
        (λ (i : u ≤ j).
        let e : j ≡ u + (j - u) = omega arith in
        rw e (g (j - u) ∙ r (j - u) (omega arith)))
        (cases_lt j u)
shift_reads p cs u (suc n) l f g r =
    let d : length (drop u cs) ≡ length cs - u = length-drop u cs in
    let v : suc n ≤ length (drop u cs) = r.within in
    let s : u + suc n ≡ suc (u + n) = omega arith in
    let b : IsBest p cs (u + suc n) = record {
      within = omega arith;
      passes = g (suc n) ∙ r.passes;
      longest = λ j h i.
          let e : j ≡ u + (j - u) = omega arith in
          rw e (g (j - u) ∙ r.longest (j - u) (omega arith) (omega arith));
    } in
    reads_suc p cs (u + suc n) (u + n) s b
  where
    reads_suc : (p : List ℕ → Bool) (cs : List ℕ) (m k : ℕ) → m ≡ suc k → IsBest p cs m → Reads p cs m
    reads_suc p cs zero k e b = cc
    reads_suc p cs (suc m) k e b = b

-- Units
pub units_plain : (a : ℕ) (t : List ℕ) → (a == 92) ≡ false → units (a ∷ t) ≡ (a ∷ []) ∷ units t
units_plain a [] e = refl
units_plain a (b ∷ []) e = rw e refl
units_plain a (b ∷ c ∷ t) e = rw e refl

pub nil_units : (t : List ℕ) → no_units (units t) ≡ is_nil t
nil_units [] = refl
nil_units (a ∷ []) = refl
nil_units (a ∷ b ∷ []) = ⊎_elim (λ (h : (a == 92) ≡ true). rw h refl) (λ (h : (a == 92) ≡ false). rw h refl) (cases_Bool (a == 92))
nil_units (a ∷ b ∷ c ∷ t) =
    ⊎_elim
    (λ (h : (a == 92) ≡ true).
    ⊎_elim (λ (i : ((b == 13) && (c == 10)) ≡ true). rw (h, i) refl) (λ (i : ((b == 13) && (c == 10)) ≡ false). rw (h, i) refl)
    (cases_Bool ((b == 13) && (c == 10))))
    (λ (h : (a == 92) ≡ false). rw h refl)
    (cases_Bool (a == 92))

-- more than nothing
pub some_units : (j : ℕ) (t : List ℕ) → 0 < j → j ≤ length t → no_units (units (take j t)) ≡ false
some_units zero t h i = absurd (omega arith)
some_units (suc j) [] h i = absurd (omega arith)
some_units (suc j) (c ∷ t) h i = nil_units (c ∷ take j t)

pub unit_one : (q a : ℕ) → is_unit q (a ∷ []) ≡ (a == q)
unit_one q a = ⊎_elim (λ (h : (a == q) ≡ true). rw h refl) (λ (h : (a == q) ≡ false). rw h refl) (cases_Bool (a == q))

-- a character that is neither a backslash nor a line's end, as quotes are
pub record IsQuote (q : ℕ) : Type 0 where
  pub slash : (92 == q) ≡ false
  pub other : (q == 92) ≡ false
  pub feed : (q == 10) ≡ false
  pub ret : (q == 13) ≡ false

pub quote_is : (q : ℕ) → ((q == 39) || (q == 34)) ≡ true → IsQuote q
quote_is q e =
    ⊎_elim
    (λ (h : (q == 39) ≡ true). let z : q ≡ 39 = eqb-true q 39 h in rw z (record { slash = refl; other = refl; feed = refl; ret = refl }))
    (λ (h : (q == 34) ≡ true). let z : q ≡ 34 = eqb-true q 34 h in rw z (record { slash = refl; other = refl; feed = refl; ret = refl }))
    (or_cases (q == 39) (q == 34) e)

pub mark_is : (q : Quote) → IsQuote (quote_char q)
mark_is Single = quote_is 39 refl
mark_is Double = quote_is 34 refl

pub slash_not : (q a : ℕ) → (92 == q) ≡ false → (a == 92) ≡ true → (a == q) ≡ false
slash_not q a e h = let z : a ≡ 92 = eqb-true a 92 h in rw z e

-- a unit that begins with a backslash is no other character
pub unit_slash : (q a : ℕ) (t : List ℕ) → (92 == q) ≡ false → (a == 92) ≡ true → is_unit q (a ∷ t) ≡ false
unit_slash q a t e h = let z = slash_not q a e h in rw z refl

-- how a literal is closed, and where
pub record Closer (ends : List (List ℕ) → Bool) (len : List (List ℕ) → ℕ) : Type 0 where
  pub empty : ends [] ≡ false
  pub nothing : len [] ≡ 0
  pub skips : (a : ℕ) (t : List ℕ) (us : List (List ℕ)) → (a == 92) ≡ true → ends ((a ∷ t) ∷ us) ≡ ends us
  pub counts : (a : ℕ) (t : List ℕ) (us : List (List ℕ)) → (a == 92) ≡ true → len ((a ∷ t) ∷ us) ≡ shift (suc (length t)) (len us)
  pub plain : (a : ℕ) (t : List ℕ) → (a == 92) ≡ false → Reads (λ u. ends (units u)) t (len (units t))
      → Reads (λ u. ends (units u)) (a ∷ t) (len (units (a ∷ t)))

-- after a backslash and one character, or two
slash_alone : (e : List (List ℕ) → Bool) (l : List (List ℕ) → ℕ) → Closer e l → (a : ℕ) → (a == 92) ≡ true
    → Reads (λ u. e (units u)) (a ∷ []) (l (units (a ∷ [])))
slash_alone e l k a h = rw (k.counts a [] [] h, k.nothing) none
  where
    none : (j : ℕ) → j ≤ length (a ∷ []) → e (units (take j (a ∷ []))) ≡ false
    none zero i = k.empty
    none (suc zero) i = k.skips a [] [] h ∙ k.empty
    none (suc (suc j)) i = absurd (omega arith)

slash_last : (e : List (List ℕ) → Bool) (l : List (List ℕ) → ℕ) → Closer e l → (a b : ℕ) → (a == 92) ≡ true
    → Reads (λ u. e (units u)) (a ∷ b ∷ []) (l (units (a ∷ b ∷ [])))
slash_last e l k a b h = rw h (rw (k.counts a (b ∷ []) [] h, k.nothing) none)
  where
    none : (j : ℕ) → j ≤ length (a ∷ b ∷ []) → e (units (take j (a ∷ b ∷ []))) ≡ false
    none zero i = k.empty
    none (suc zero) i = k.skips a [] [] h ∙ k.empty
    none (suc (suc zero)) i = rw h (k.skips a (b ∷ []) [] h ∙ k.empty)
    none (suc (suc (suc j))) i = absurd (omega arith)

slash_two : (e : List (List ℕ) → Bool) (l : List (List ℕ) → ℕ) → Closer e l → (a b c : ℕ) (t : List ℕ) → (a == 92) ≡ true
    → ((b == 13) && (c == 10)) ≡ false → Reads (λ u. e (units u)) (c ∷ t) (l (units (c ∷ t)))
    → Reads (λ u. e (units u)) (a ∷ b ∷ c ∷ t) (l (units (a ∷ b ∷ c ∷ t)))
slash_two e l k a b c t h n r =
    rw (h, n) (rw (k.counts a (b ∷ []) (units (c ∷ t)) h)
    (shift_reads (λ u. e (units u)) (a ∷ b ∷ c ∷ t) 2 (l (units (c ∷ t))) (omega arith) short long r))
  where
    short : (j : ℕ) → j < 2 → e (units (take j (a ∷ b ∷ c ∷ t))) ≡ false
    short zero i = k.empty
    short (suc zero) i = k.skips a [] [] h ∙ k.empty
    short (suc (suc j)) i = absurd (omega arith)

    longer : (i : ℕ) → e (units (take (suc (suc i)) (a ∷ b ∷ c ∷ t))) ≡ e (units (take i (c ∷ t)))
    longer zero = rw h (k.skips a (b ∷ []) [] h)
    longer (suc i) = rw (h, n) (k.skips a (b ∷ []) (units (c ∷ take i t)) h)

    long : (i : ℕ) → e (units (take (2 + i) (a ∷ b ∷ c ∷ t))) ≡ e (units (take i (drop 2 (a ∷ b ∷ c ∷ t))))
    long i = let z : 2 + i ≡ suc (suc i) = omega arith in rw z (longer i)

slash_three : (e : List (List ℕ) → Bool) (l : List (List ℕ) → ℕ) → Closer e l → (a b c : ℕ) (t : List ℕ) → (a == 92) ≡ true
    → ((b == 13) && (c == 10)) ≡ true → Reads (λ u. e (units u)) t (l (units t))
    → Reads (λ u. e (units u)) (a ∷ b ∷ c ∷ t) (l (units (a ∷ b ∷ c ∷ t)))
slash_three e l k a b c t h n r =
    rw (h, n) (rw (k.counts a (b ∷ c ∷ []) (units t) h)
    (shift_reads (λ u. e (units u)) (a ∷ b ∷ c ∷ t) 3 (l (units t)) (omega arith) short long r))
  where
    short : (j : ℕ) → j < 3 → e (units (take j (a ∷ b ∷ c ∷ t))) ≡ false
    short zero i = k.empty
    short (suc zero) i = k.skips a [] [] h ∙ k.empty
    short (suc (suc zero)) i = rw h (k.skips a (b ∷ []) [] h ∙ k.empty)
    short (suc (suc (suc j))) i = absurd (omega arith)

    longer : (i : ℕ) → e (units (take (suc (suc (suc i))) (a ∷ b ∷ c ∷ t))) ≡ e (units (take i t))
    longer i = rw (h, n) (k.skips a (b ∷ c ∷ []) (units (take i t)) h)

    long : (i : ℕ) → e (units (take (3 + i) (a ∷ b ∷ c ∷ t))) ≡ e (units (take i (drop 3 (a ∷ b ∷ c ∷ t))))
    long i = let z : 3 + i ≡ suc (suc (suc i)) = omega arith in rw z (longer i)

nothing_reads : (e : List (List ℕ) → Bool) (l : List (List ℕ) → ℕ) → Closer e l → Reads (λ u. e (units u)) [] (l (units []))
nothing_reads e l k = rw k.nothing none
  where
    none : (j : ℕ) → j ≤ length {A = ℕ} [] → e (units (take j [])) ≡ false
    none zero i = k.empty
    none (suc j) i = k.empty

-- the only front that closes a literal is the first
pub closer_reads : (e : List (List ℕ) → Bool) (l : List (List ℕ) → ℕ) → Closer e l → (cs : List ℕ)
    → Reads (λ u. e (units u)) cs (l (units cs))
closer_reads e l k [] = nothing_reads e l k
closer_reads e l k (a ∷ []) =
    ⊎_elim
    (λ (h : (a == 92) ≡ true). slash_alone e l k a h)
    (λ (h : (a == 92) ≡ false). k.plain a [] h (closer_reads e l k []))
    (cases_Bool (a == 92))
closer_reads e l k (a ∷ b ∷ []) =
    ⊎_elim
    (λ (h : (a == 92) ≡ true). slash_last e l k a b h)
    (λ (h : (a == 92) ≡ false). k.plain a (b ∷ []) h (closer_reads e l k (b ∷ [])))
    (cases_Bool (a == 92))
closer_reads e l k (a ∷ b ∷ c ∷ t) =
    ⊎_elim
    (λ (h : (a == 92) ≡ true).
    ⊎_elim
    (λ (n : ((b == 13) && (c == 10)) ≡ true). slash_three e l k a b c t h n (closer_reads e l k t))
    (λ (n : ((b == 13) && (c == 10)) ≡ false). slash_two e l k a b c t h n (closer_reads e l k (c ∷ t)))
    (cases_Bool ((b == 13) && (c == 10))))
    (λ (h : (a == 92) ≡ false). k.plain a (b ∷ c ∷ t) h (closer_reads e l k (b ∷ c ∷ t)))
    (cases_Bool (a == 92))

-- One quote
single_plain : (q : ℕ) → IsQuote q → (a : ℕ) (t : List ℕ) → (a == 92) ≡ false
    → Reads (λ u. ends_by_one q (units u)) t (single_of q (units t))
    → Reads (λ u. ends_by_one q (units u)) (a ∷ t) (single_of q (units (a ∷ t)))
single_plain q k a t h r =
    rw (units_plain a t h) (rw (unit_one q a, unit_one 13 a, unit_one 10 a)
    (⊎_elim
    (λ (e : (a == q) ≡ true). rw e (record { within = omega arith; passes = at_one e; longest = past_one e }))
    (λ (e : (a == q) ≡ false).
    ⊎_elim
    (λ (f : ((a == 13) || (a == 10)) ≡ true). rw (e, f) (stopped e f))
    (λ (f : ((a == 13) || (a == 10)) ≡ false). rw (e, f) (shift_reads (λ u. ends_by_one q (units u)) (a ∷ t) 1 (single_of q (units t))
    (omega arith) short (goes_on e f) r))
    (cases_Bool ((a == 13) || (a == 10))))
    (cases_Bool (a == q))))
  where
    opened : (s : List ℕ) → ends_by_one q (units (a ∷ s)) ≡ (if a == q then no_units (units s) else not (a == 13) && not (a == 10) &&
        ends_by_one q (units s))
    opened s = rw (units_plain a s h) (rw (unit_one q a, unit_one 13 a, unit_one 10 a) refl)

    at_one : (a == q) ≡ true → ends_by_one q (units (take 1 (a ∷ t))) ≡ true
    at_one e = opened [] ∙ rw e refl

    past_one : (a == q) ≡ true → (j : ℕ) → 1 < j → j ≤ length (a ∷ t) → ends_by_one q (units (take j (a ∷ t))) ≡ false
    past_one e zero i l = absurd (omega arith)
    past_one e (suc j) i l = opened (take j t) ∙ rw e (some_units j t (omega arith) (omega arith))

    stopped : (a == q) ≡ false → ((a == 13) || (a == 10)) ≡ true → (j : ℕ) → j ≤ length (a ∷ t)
        → ends_by_one q (units (take j (a ∷ t))) ≡ false
    stopped e f zero l = refl
    stopped e f (suc j) l = opened (take j t) ∙ rw e (stops (a == 13) (a == 10) (ends_by_one q (units (take j t))) f)
      where
        stops : (x y z : Bool) → (x || y) ≡ true → (not x && not y && z) ≡ false
        stops true y z i = refl
        stops false true z i = refl
        stops false false z i = cc

    short : (j : ℕ) → j < 1 → ends_by_one q (units (take j (a ∷ t))) ≡ false
    short zero i = refl
    short (suc j) i = absurd (omega arith)

    goes_on : (a == q) ≡ false → ((a == 13) || (a == 10)) ≡ false → (i : ℕ) → ends_by_one q (units (take (1 + i) (a ∷ t))) ≡ ends_by_one q
        (units (take i (drop 1 (a ∷ t))))
    goes_on e f i =
        let z : 1 + i ≡ suc i = omega arith in
        let p = or_parts (a == 13) (a == 10) f in
        rw z (opened (take i t) ∙ rw (e, p.0, p.1) refl)

pub single_closer : (q : ℕ) → IsQuote q → Closer (ends_by_one q) (single_of q)
single_closer q k = record {
  empty = refl;
  nothing = refl;
  skips = λ a t us h. (let x = unit_slash q a t k.slash h in let y = unit_slash 13 a t refl h in let z =
      unit_slash 10 a t refl h in rw (x, y, z) refl);
  counts = λ a t us h. (let x = unit_slash q a t k.slash h in let y = unit_slash 13 a t refl h in let z = unit_slash 10 a t refl h in
      rw (x, y, z) (ap (λ n. shift n (single_of q us)) (length_suc a t)));
  plain = single_plain q k;
}
  where
    length_suc : (a : ℕ) (t : List ℕ) → length (a ∷ t) ≡ suc (length t)
    length_suc a t = omega arith
