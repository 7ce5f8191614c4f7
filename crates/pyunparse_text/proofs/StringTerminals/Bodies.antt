-- What a literal stands for whose body has no backslash and no quote: its characters, but for CRs.
--
-- Carries: list lemmas, body_kept, points_kept, single_kept, unbraced, for StringsSaid. On: Scanned.
use Rattle.std.proofs.Common.{◌≡◌, ℕ, zero, suc, ◌-◌, ◌+◌, ◌≤◌, Bool, true, false, not, ◌&&◌, ◌==◌, List, [], ◌∷◌, ◌++◌, length, take, drop}
use Rattle.std.proofs.Common.{refl}
use Rattle.std.proofs.Common.{sym, ap, subst, inl, inr, ◌⊎◌, arith, length-append, if◌then◌else◌}
use Rattle.std.specs.Prelude.{filter, nat_le}
use Rattle.std.specs.List.{list_all, list_any, flat_map}
use Rattle.std.proofs.lemmas.Bool.{cases_Bool, and_from, eqb-true, and_parts, or_parts}
use Rattle.std.proofs.lemmas.Bool.Decides.{nat_tests}
use Rattle.std.proofs.Math.Seq.{take-nil}
use Rattle.pyfstring.specs.Characters.{backslash}
use Rattle.pyfstring.specs.Texts.{begins, is_brace, is_literal_char, escape_len, unit_len, units_after, after_text}
use Rattle.pyfstring.specs.Singles.{single_after, single}
use Rattle.pylex_lexeme.specs.Strings.{begins_three}
use Rattle.pytoken.specs.declared.meanings.Meaning.{Meaning}
use Rattle.pytoken.specs.declared.meanings.Meaning.TheVariants.{Point}
use Rattle.pytoken.specs.Escapes.{meanings_after, meanings, points_in, Reading, reads, escaped_by}
use Rattle.pytoken.specs.StringValues.{with_line_feeds, is_quote, prefix_len_of, without_last, inside, body_of}
use Rattle.pyunparse_text.proofs.StringTerminals.Scanned.{is_no_backslash}

-- ---- Lists of characters that pass tests.

pub weaker : (p q : ℕ → Bool) → ((c : ℕ) → p c ≡ true → q c ≡ true) → (cs : List ℕ) → list_all p cs ≡ true → list_all q cs ≡ true
weaker p q f [] h = refl
weaker p q f (c ∷ cs) h = let w = and_parts (p c) (list_all p cs) h in and_from (q c) (list_all q cs) (f c w.0) (weaker p q f cs w.1)

pub joined : (p q : ℕ → Bool) (cs : List ℕ) → list_all p cs ≡ true → list_all q cs ≡ true → list_all (λ c. p c && q c) cs ≡ true
joined p q [] h g = refl
joined p q (c ∷ cs) h g =
    let w = and_parts (p c) (list_all p cs) h in
    let v = and_parts (q c) (list_all q cs) g in
    and_from (p c && q c) (list_all (λ d. p d && q d) cs) (and_from (p c) (q c) w.0 v.0) (joined p q cs w.1 v.1)

pub none_all : (p : ℕ → Bool) (cs : List ℕ) → list_any p cs ≡ false → list_all (λ c. not (p c)) cs ≡ true
none_all p [] h = refl
none_all p (c ∷ cs) h =
    let w = or_parts (p c) (list_any p cs) h in
    let e = w.0 in
    rw e (none_all p cs w.1)

pub kept_pass : (q : ℕ → Bool) (cs : List ℕ) → list_all q (filter q cs) ≡ true
kept_pass q [] = refl
kept_pass q (c ∷ cs) = elim (cases_Bool (q c)) [
  | inl kept ↦ rw kept (and_from (q c) (list_all q (filter q cs)) kept (kept_pass q cs))
  | inr left_out ↦ rw left_out (kept_pass q cs)
]

-- ---- Bodies without their CRs.

fewer_kept : (q : ℕ → Bool) (cs : List ℕ) → length (filter q cs) ≤ length cs
fewer_kept q [] = omega arith
fewer_kept q (c ∷ cs) = let r = fewer_kept q cs in elim (cases_Bool (q c)) [
  | inl kept ↦ rw kept (omega (arith, r))
  | inr left_out ↦ rw left_out (omega (arith, r))
]

-- all but the last n
last_all : (p q : ℕ → Bool) (n : ℕ) (cs : List ℕ) → list_all p (without_last n cs) ≡ true → list_all p (without_last n (filter q cs)) ≡ true
last_all p q n [] h = ap (list_all p) (take-nil (0 - n))
last_all p q n (c ∷ cs) h = elim (cases_Bool (nat_le n (length cs))) [
  | inl more ↦ (
      let e : suc (length cs) - n ≡ suc (length cs - n) = grind (arith, nat_tests) in
      let w = and_parts (p c) (list_all p (without_last n cs)) (subst (λ k. list_all p (take k (c ∷ cs)) ≡ true) e h) in
      elim (cases_Bool (q c)) [
        | inl kept ↦ rw kept (one_more w.0 (last_all p q n cs w.1) (cases_Bool (nat_le n (length (filter q cs)))))
        | inr left_out ↦ rw left_out (last_all p q n cs w.1)
      ])
  | inr less ↦ (
      let f : length (filter q (c ∷ cs)) ≤ suc (length cs) = fewer_kept q (c ∷ cs) in
      let e : length (filter q (c ∷ cs)) - n ≡ 0 = grind (arith, nat_tests) in
      rw e refl)
]
  where
    one_more : p c ≡ true → list_all p (without_last n (filter q cs)) ≡ true
        → (nat_le n (length (filter q cs)) ≡ true) ⊎ (nat_le n (length (filter q cs)) ≡ false)
        → list_all p (without_last n (c ∷ filter q cs)) ≡ true
    one_more k g (inl more) =
        let e : suc (length (filter q cs)) - n ≡ suc (length (filter q cs) - n) = grind (arith, nat_tests) in
        rw e (and_from (p c) (list_all p (without_last n (filter q cs))) k g)
    one_more k g (inr less) =
        let e : suc (length (filter q cs)) - n ≡ 0 = grind (arith, nat_tests) in
        rw e refl

-- what stands between quotes, by whether there are three
abbrev after_quote : Bool → List ℕ → List ℕ
after_quote three u = let width = if three then 3 else 1 in without_last width (drop width u)

-- A test that no quote passes.
module _ (p : ℕ → Bool) (no_quote : (c : ℕ) → is_quote c ≡ true → p c ≡ true → ⊥) where
  quote_kept : (c : ℕ) → is_quote c ≡ true → not (c == 13) ≡ true
  quote_kept c q = grind (arith, nat_tests)

  three_all : (a : ℕ) → is_quote a ≡ true → (cs : List ℕ) → list_all p (after_quote (begins_three (a ∷ cs)) (a ∷ cs)) ≡ true
      → list_all p (after_quote (begins_three (a ∷ with_line_feeds cs)) (a ∷ with_line_feeds cs)) ≡ true
  three_all a q cs h = elim (cases_Bool (begins_three (a ∷ cs))) [
    | inl three ↦ in_three cs three h
    | inr one ↦ elim (cases_Bool (begins_three (a ∷ with_line_feeds cs))) [
      | inl three ↦ (
          let g = last_all p (λ c. not (c == 13)) 1 cs (subst (λ b. list_all p (after_quote b (a ∷ cs)) ≡ true) one h) in
          absurd (in_one (with_line_feeds cs) three g))
      | inr still ↦ rw still (last_all p (λ c. not (c == 13)) 1 cs (subst (λ b. list_all p (after_quote b (a ∷ cs)) ≡ true) one h))
    ]
  ]
    where
      in_one : (ds : List ℕ) → begins_three (a ∷ ds) ≡ true → list_all p (without_last 1 ds) ≡ true → ⊥
      in_one [] b g = cc
      in_one (d ∷ []) b g = cc
      in_one (d ∷ e ∷ ds) b g =
          let w = and_parts (is_quote a && (d == a)) (e == a) b in
          let v = and_parts (is_quote a) (d == a) w.0 in
          let f : suc (suc (length ds)) - 1 ≡ suc (length ds) = omega arith in
          let k = and_parts (p d) (list_all p (take (length ds) (e ∷ ds))) (subst (λ n. list_all p (take n (d ∷ e ∷ ds)) ≡ true) f g) in
          no_quote d (subst (λ (x : ℕ). is_quote x ≡ true) (sym (eqb-true d a v.1)) q) k.0

      in_three : (ds : List ℕ) → begins_three (a ∷ ds) ≡ true → list_all p (after_quote (begins_three (a ∷ ds)) (a ∷ ds)) ≡ true
          → list_all p (after_quote (begins_three (a ∷ with_line_feeds ds)) (a ∷ with_line_feeds ds)) ≡ true
      in_three [] b g = absurd (cc)
      in_three (d ∷ []) b g = absurd (cc)
      in_three (d ∷ e ∷ ds) b g =
          let w = and_parts (is_quote a && (d == a)) (e == a) b in
          let v = and_parts (is_quote a) (d == a) w.0 in
          let x = quote_kept d (subst (λ (x : ℕ). is_quote x ≡ true) (sym (eqb-true d a v.1)) q) in
          let y = quote_kept e (subst (λ (x : ℕ). is_quote x ≡ true) (sym (eqb-true e a w.1)) q) in
          let z : list_all p (without_last 3 ds) ≡ true = subst (λ b. list_all p (after_quote b (a ∷ d ∷ e ∷ ds)) ≡ true) b g in
          rw (x, y, b) (last_all p (λ c. not (c == 13)) 3 ds z)

body_next : (c : ℕ) (t : List ℕ) → is_quote c ≡ false → body_of (c ∷ t) ≡ body_of t
body_next c t q =
    let e : 1 + prefix_len_of t ≡ suc (prefix_len_of t) = omega arith in
    rw q (ap inside (ap (λ k. drop k (c ∷ t)) e))

body_quote : (c : ℕ) (t : List ℕ) → is_quote c ≡ true → body_of (c ∷ t) ≡ after_quote (begins_three (c ∷ t)) (c ∷ t)
body_quote c t q = rw q refl

-- what passes in the body of a literal passes in that of the literal without CRs
pub body_kept : (p : ℕ → Bool) → ((c : ℕ) → is_quote c ≡ true → p c ≡ true → ⊥) → (t : List ℕ) → list_all p (body_of t) ≡ true
    → list_all p (body_of (with_line_feeds t)) ≡ true
body_kept p f [] h = h
body_kept p f (c ∷ t) h = elim (cases_Bool (is_quote c)) [
  | inl quote ↦ (
      let k = quote_kept p f c quote in
      let e : with_line_feeds (c ∷ t) ≡ c ∷ with_line_feeds t = rw k refl in
      subst (λ z. list_all p (body_of z) ≡ true) (sym e)
      (subst (λ z. list_all p z ≡ true) (sym (body_quote c (with_line_feeds t) quote))
      (three_all p f c quote t (subst (λ z. list_all p z ≡ true) (body_quote c t quote) h))))
  | inr other ↦ (
      let g : list_all p (body_of (with_line_feeds t)) ≡ true =
      body_kept p f t (subst (λ z. list_all p z ≡ true) (body_next c t other) h) in
      elim (cases_Bool (not (c == 13))) [
        | inl kept ↦ (
            let e : with_line_feeds (c ∷ t) ≡ c ∷ with_line_feeds t = rw kept refl in
            subst (λ z. list_all p (body_of z) ≡ true) (sym e)
            (subst (λ z. list_all p z ≡ true) (sym (body_next c (with_line_feeds t) other)) g))
        | inr left_out ↦ (
            let e : with_line_feeds (c ∷ t) ≡ with_line_feeds t = rw left_out refl in
            subst (λ z. list_all p (body_of z) ≡ true) (sym e) g)
      ])
]

-- ---- Escapes.

points_after : (raw bytes : Bool) (cs : List ℕ) → list_all is_no_backslash cs ≡ true
    → flat_map points_in (meanings_after raw bytes 0 cs) ≡ cs
points_after raw bytes [] h = refl
points_after raw bytes (c ∷ cs) h =
    let w = and_parts (is_no_backslash c) (list_all is_no_backslash cs) h in
    by (c == backslash) raw w.0 (ap (λ z. c ∷ z) (points_after raw bytes cs w.1))
  where
    read_first : Reading → List Meaning
    read_first x = x.meaning ∷ meanings_after raw bytes x.more cs

    by : (b r : Bool) → not b ≡ true → c ∷ flat_map points_in (meanings_after raw bytes 0 cs) ≡ c ∷ cs
        → flat_map points_in (read_first (if not r && b then escaped_by bytes cs else reads (Point c) 0)) ≡ c ∷ cs
    by true r k h = absurd (cc)
    by false true k h = h
    by false false k h = h

-- a text without a backslash stands for itself
pub points_kept : (raw bytes : Bool) (cs : List ℕ) → list_all is_no_backslash cs ≡ true → flat_map points_in (meanings raw bytes cs) ≡ cs
unfolding meanings
points_kept raw bytes cs h = points_after raw bytes cs h

-- ---- Braces.

single_after_all : (p : ℕ → Bool) (raw : Bool) (n : ℕ) (cs : List ℕ) → list_all p cs ≡ true → list_all p (single_after raw n cs) ≡ true
single_after_all p raw n [] h = refl
single_after_all p raw (suc n) (c ∷ cs) h =
    let w = and_parts (p c) (list_all p cs) h in
    and_from (p c) (list_all p (single_after raw n cs)) w.0 (single_after_all p raw n cs w.1)
single_after_all p raw zero (c ∷ cs) h =
    let w = and_parts (p c) (list_all p cs) h in
    by (unit_len raw true (c ∷ cs)) (is_brace c) w.0 (λ n. single_after_all p raw n cs w.1)
  where
    by : (k : ℕ) (b : Bool) → p c ≡ true → ((n : ℕ) → list_all p (single_after raw n cs) ≡ true) →
        list_all p (elim k [ zero ↦ [] | suc n ↦ elim b [ true ↦ single_after raw n cs | false ↦ c ∷ single_after raw n cs ] ]) ≡ true
    by zero b q f = refl
    by (suc n) true q f = f n
    by (suc n) false q f = and_from (p c) (list_all p (single_after raw n cs)) q (f n)

-- two braces that are made one pass what all pass
pub single_kept : (p : ℕ → Bool) (raw : Bool) (t : List ℕ) → list_all p t ≡ true → list_all p (single raw t) ≡ true
unfolding single
single_kept p raw t h = single_after_all p raw 0 t h

shorter : (c : ℕ) (t rest : List ℕ) → c ∷ (t ++ rest) ≡ rest → ⊥
shorter c t rest h = let e : suc (length (t ++ rest)) ≡ length rest = ap length h in omega (arith, e, length-append t rest)

unbraced_after : (raw : Bool) (t rest : List ℕ) → list_all is_no_backslash t ≡ true → units_after raw false 0 (t ++ rest) ≡ rest
    → list_all is_literal_char t ≡ true
unfolding unit_len
unbraced_after raw [] rest h w = refl
unbraced_after raw (c ∷ t) rest h w =
    let v = and_parts (is_no_backslash c) (list_all is_no_backslash t) h in
    by (c == backslash) raw (is_literal_char c) refl v.0 w (λ e. unbraced_after raw t rest v.1 e)
  where
    by : (b r l : Bool) → is_literal_char c ≡ l → not b ≡ true
        → elim (if not r && (b && begins is_literal_char (t ++ rest)) then escape_len (c ∷ t ++ rest) else (if l then 1 else 0)) [
          | zero ↦ c ∷ (t ++ rest)
          | suc n ↦ units_after raw false n (t ++ rest)
        ] ≡ rest
        → (units_after raw false 0 (t ++ rest) ≡ rest → list_all is_literal_char t ≡ true) → list_all is_literal_char (c ∷ t) ≡ true
    by true r l e k w f = absurd (cc)
    by false true true e k w f = and_from (is_literal_char c) (list_all is_literal_char t) e (f w)
    by false true false e k w f = absurd (shorter c t rest w)
    by false false true e k w f = and_from (is_literal_char c) (list_all is_literal_char t) e (f w)
    by false false false e k w f = absurd (shorter c t rest w)

-- in a format spec a text without a backslash has no brace
pub unbraced : (raw : Bool) (t rest : List ℕ) → list_all is_no_backslash t ≡ true → after_text raw false (t ++ rest) ≡ rest
    → list_all is_literal_char t ≡ true
unfolding after_text
unbraced raw t rest h w = unbraced_after raw t rest h w
