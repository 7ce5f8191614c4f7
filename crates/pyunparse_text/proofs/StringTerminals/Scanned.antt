-- In the expression of a field stands no backslash (reference 2.4.3).
--
-- Carries: is_no_backslash, expression_calm, for Bodies, StringsSaid. On: no other file.
use Rattle.std.proofs.Common.{◌≡◌, ℕ, zero, suc, ◌-◌, Bool, true, false, not, ◌&&◌, ◌==◌, List, [], ◌∷◌, ◌++◌, length, take, Option, Some}
use Rattle.std.proofs.Common.{None, refl}
use Rattle.std.proofs.Common.{sym, ◌∙◌, ap, subst, inl, inr, ◌⊎◌, arith, length-append}
use Rattle.std.specs.Prelude.{nat_lt, slice_get}
use Rattle.std.specs.List.{list_all}
use Rattle.std.proofs.lemmas.Bool.{cases_Bool, and_from, eqb-true, and_parts, or_parts}
use Rattle.std.proofs.lemmas.Bool.Decides.{nat_tests}
use Rattle.pyfstring.specs.Characters.{backslash, equals_sign, hash}
use Rattle.pyfstring.specs.Texts.{begins_with}
use Rattle.pyfstring.specs.Expressions.{is_quote, is_refused, is_end, is_empty, is_last, most_open, opened_by, closed_by, begins_comparison}
use Rattle.pyfstring.specs.Expressions.{begins_three, step, Inside, expression, shortstring, longstring, scan, following_expression}
use Rattle.pygrammar.proofs.Callers.OpenStrings.{none_some}
use Rattle.pyunparse_text.proofs.FieldTexts.Characters.{Bracket}

abbrev pub is_no_backslash : ℕ → Bool
is_no_backslash c = not (c == backslash)

-- none of the first n characters is one
abbrev Calm : ℕ → List ℕ → Type 0
Calm zero cs = Unit {0}
Calm (suc n) [] = Unit {0}
Calm (suc n) (c ∷ cs) = (is_no_backslash c ≡ true) × Calm n cs

longer : (c : ℕ) (t rest : List ℕ) → Some (c ∷ (t ++ rest)) ≡ Some rest → ⊥
longer c t rest h =
    let e : suc (length (t ++ rest)) ≡ length rest = ap (λ (o : Option (List ℕ)). elim o [ Some cs ↦ length cs | None ↦ 0 ]) h in
    omega (arith, e, length-append t rest)

same_calm : (c d : ℕ) → is_no_backslash c ≡ true → (d == c) ≡ true → is_no_backslash d ≡ true
same_calm c d h e = subst (λ (x : ℕ). is_no_backslash x ≡ true) (sym (eqb-true d c e)) h

three_calm : (c : ℕ) (cs : List ℕ) → is_no_backslash c ≡ true → begins_three c (c ∷ cs) ≡ true → Calm 2 cs
three_calm c [] h w = tt
three_calm c (d ∷ []) h w = absurd (let z = (and_parts (begins_with c (c ∷ d ∷ []) && begins_with c (d ∷ [])) false w).1 in cc)
three_calm c (d ∷ e ∷ cs) h w =
    let u = and_parts (begins_with c (c ∷ d ∷ e ∷ cs) && (d == c)) (e == c) w in
    let v = and_parts (begins_with c (c ∷ d ∷ e ∷ cs)) (d == c) u.0 in
    (same_calm c d h v.1, (same_calm c e h u.1, tt))

-- ---- The scan.

some_or_none : {A : Type 0} (o : Option A) → ((x : A) × (o ≡ Some x)) ⊎ (o ≡ None)
some_or_none None = inr refl
some_or_none (Some x) = inl (x, refl)

quote_calm : (c : ℕ) → is_quote c ≡ true → is_no_backslash c ≡ true
quote_calm c q = grind (arith, nat_tests)

no_backslash : (c : ℕ) → (c == backslash) ≡ false → is_no_backslash c ≡ true
no_backslash c h = rw h refl

equal_calm : (b : Bool) (c : ℕ) (cs : List ℕ) → (b && begins_comparison (c ∷ cs)) ≡ true → Calm 1 cs
equal_calm b c [] e = tt
equal_calm b c (d ∷ cs) e =
    let w = and_parts b (begins_comparison (c ∷ d ∷ cs)) e in
    let v = and_parts _ (d == equals_sign) w.1 in
    (same_calm equals_sign d refl v.1, tt)

-- a place of the scan, where what follows is calm
module _ (t rest : List ℕ)
    (more : (inside : Inside) (opened : List Bracket) (n : ℕ) → Calm n (t ++ rest) → scan inside opened n (t ++ rest) ≡ Some rest
    → list_all is_no_backslash t ≡ true) where
  both_calm : (c : ℕ) → is_no_backslash c ≡ true → list_all is_no_backslash t ≡ true → list_all is_no_backslash (c ∷ t) ≡ true
  both_calm c k h = and_from (is_no_backslash c) (list_all is_no_backslash t) k h

  at_literal : (opened : List Bracket) (c : ℕ) → is_quote c ≡ true → scan expression opened 0 (c ∷ t ++ rest) ≡ Some rest
      → list_all is_no_backslash (c ∷ t) ≡ true
  unfolding step
  at_literal opened c q h = elim (cases_Bool (begins_three c (c ∷ t ++ rest))) [
    | inl three ↦ (
        let e : scan expression opened 0 (c ∷ t ++ rest) ≡ scan (longstring c) opened 2 (t ++ rest) = rw (q, three, scan) refl in
        both_calm c (quote_calm c q) (more (longstring c) opened 2 (three_calm c (t ++ rest) (quote_calm c q) three) (sym e ∙ h)))
    | inr one ↦ (
        let e : scan expression opened 0 (c ∷ t ++ rest) ≡ scan (shortstring c) opened 0 (t ++ rest) = rw (q, one, scan) refl in
        both_calm c (quote_calm c q) (more (shortstring c) opened 0 tt (sym e ∙ h)))
  ]

  -- no quote, no end and no comparison
  at_other : (opened : List Bracket) (c : ℕ) → is_quote c ≡ false → is_refused c ≡ false
      → (is_empty opened && begins_comparison (c ∷ t ++ rest)) ≡ false → (is_empty opened && is_end c) ≡ false
      → scan expression opened 0 (c ∷ t ++ rest) ≡ Some rest → list_all is_no_backslash t ≡ true
  unfolding step
  at_other opened c q r m n h = elim (some_or_none (opened_by c)) [
    | inl b ↦ elim (cases_Bool (nat_lt (length opened) most_open)) [
      | inl l ↦ (let o = b.1 in
          let e : scan expression opened 0 (c ∷ t ++ rest) ≡ scan expression (opened ++ b.0 ∷ []) 0 (t ++ rest) =
          rw (q, r, m, n, o, l, scan) refl in
          more expression (opened ++ b.0 ∷ []) 0 tt (sym e ∙ h))
      | inr l ↦ (let o = b.1 in
          let e : scan expression opened 0 (c ∷ t ++ rest) ≡ None = rw (q, r, m, n, o, l, scan) refl in
          absurd (none_some _ rest e h))
    ]
    | inr o ↦ elim (some_or_none (closed_by c)) [
      | inl b ↦ elim (cases_Bool (is_last (slice_get opened (length opened - 1)) b.0)) [
        | inl l ↦ (let s = b.1 in
            let e : scan expression opened 0 (c ∷ t ++ rest) ≡ scan expression (take (length opened - 1) opened) 0 (t ++ rest) =
            rw (q, r, m, n, o, s, l, scan) refl in
            more expression (take (length opened - 1) opened) 0 tt (sym e ∙ h))
        | inr l ↦ (let s = b.1 in
            let e : scan expression opened 0 (c ∷ t ++ rest) ≡ None = rw (q, r, m, n, o, s, l, scan) refl in
            absurd (none_some _ rest e h))
      ]
      | inr s ↦ (
          let e : scan expression opened 0 (c ∷ t ++ rest) ≡ scan expression opened 0 (t ++ rest) = rw (q, r, m, n, o, s, scan) refl in
          more expression opened 0 tt (sym e ∙ h))
    ]
  ]

  at_expression : (opened : List Bracket) (c : ℕ) → scan expression opened 0 (c ∷ t ++ rest) ≡ Some rest
      → list_all is_no_backslash (c ∷ t) ≡ true
  unfolding step
  at_expression opened c h = elim (cases_Bool (is_quote c)) [
    | inl q ↦ at_literal opened c q h
    | inr q ↦ elim (cases_Bool (is_refused c)) [
      | inl r ↦ (let e : scan expression opened 0 (c ∷ t ++ rest) ≡ None = rw (q, r, scan) refl in absurd (none_some _ rest e h))
      | inr r ↦ both_calm c (no_backslash c (or_parts (c == backslash) (c == hash) r).0)
          (elim (cases_Bool (is_empty opened && begins_comparison (c ∷ t ++ rest))) [
            | inl m ↦ (
                let e : scan expression opened 0 (c ∷ t ++ rest) ≡ scan expression opened 1 (t ++ rest) = rw (q, r, m, scan) refl in
                more expression opened 1 (equal_calm (is_empty opened) c (t ++ rest) m) (sym e ∙ h))
            | inr m ↦ elim (cases_Bool (is_empty opened && is_end c)) [
              | inl n ↦ (
                  let e : scan expression opened 0 (c ∷ t ++ rest) ≡ Some (c ∷ t ++ rest) = rw (q, r, m, n, scan) refl in
                  absurd (longer c t rest (sym e ∙ h)))
              | inr n ↦ at_other opened c q r m n h
            ]
          ])
    ]
  ]

  in_short : (q : ℕ) (opened : List Bracket) (c : ℕ) → scan (shortstring q) opened 0 (c ∷ t ++ rest) ≡ Some rest
      → list_all is_no_backslash (c ∷ t) ≡ true
  in_short q opened c h = by (c == backslash) (c == q) refl h
    where
      by : (b e : Bool) → (c == backslash) ≡ b →
          elim b [
            | true ↦ None
            | false ↦ elim e [ true ↦ scan expression opened 0 (t ++ rest) | false ↦ scan (shortstring q) opened 0 (t ++ rest) ]
          ] ≡ Some rest
          → list_all is_no_backslash (c ∷ t) ≡ true
      by true e k h = absurd (cc)
      by false true k h = both_calm c (no_backslash c k) (more expression opened 0 tt h)
      by false false k h = both_calm c (no_backslash c k) (more (shortstring q) opened 0 tt h)

  in_long : (q : ℕ) (opened : List Bracket) (c : ℕ) → scan (longstring q) opened 0 (c ∷ t ++ rest) ≡ Some rest
      → list_all is_no_backslash (c ∷ t) ≡ true
  in_long q opened c h = by (c == backslash) (begins_three q (c ∷ t ++ rest)) refl (closing_calm c q (t ++ rest)) h
    where
      closing_calm : (c q : ℕ) (cs : List ℕ) → is_no_backslash c ≡ true → begins_three q (c ∷ cs) ≡ true → Calm 2 cs
      closing_calm c q [] k w = tt
      closing_calm c q (d ∷ []) k w = absurd (let z = (and_parts ((c == q) && (d == q)) false w).1 in cc)
      closing_calm c q (d ∷ e ∷ cs) k w =
          let u = and_parts ((c == q) && (d == q)) (e == q) w in
          let v = and_parts (c == q) (d == q) u.0 in
          let z : is_no_backslash q ≡ true = subst (λ (x : ℕ). is_no_backslash x ≡ true) (eqb-true c q v.0) k in
          (same_calm q d z v.1, (same_calm q e z u.1, tt))

      by : (b e : Bool) → (c == backslash) ≡ b → (is_no_backslash c ≡ true → e ≡ true → Calm 2 (t ++ rest))
          → elim b [
            | true ↦ None
            | false ↦ elim e [ true ↦ scan expression opened 2 (t ++ rest) | false ↦ scan (longstring q) opened 0 (t ++ rest) ]
          ] ≡ Some rest
          → list_all is_no_backslash (c ∷ t) ≡ true
      by true e k w h = absurd (cc)
      by false true k w h = both_calm c (no_backslash c k) (more expression opened 2 (w (no_backslash c k) refl) h)
      by false false k w h = both_calm c (no_backslash c k) (more (longstring q) opened 0 tt h)

scan_calm : (inside : Inside) (opened : List Bracket) (n : ℕ) (t rest : List ℕ) → Calm n (t ++ rest)
    → scan inside opened n (t ++ rest) ≡ Some rest
    → list_all is_no_backslash t ≡ true
scan_calm inside opened n [] rest k h = refl
scan_calm inside opened (suc n) (c ∷ t) rest k h =
    and_from (is_no_backslash c) (list_all is_no_backslash t) k.0 (scan_calm inside opened n t rest k.1 h)
scan_calm expression opened zero (c ∷ t) rest k h = at_expression t rest (λ i o n. scan_calm i o n t rest) opened c h
scan_calm (shortstring q) opened zero (c ∷ t) rest k h = in_short t rest (λ i o n. scan_calm i o n t rest) q opened c h
scan_calm (longstring q) opened zero (c ∷ t) rest k h = in_long t rest (λ i o n. scan_calm i o n t rest) q opened c h

pub expression_calm : (t rest : List ℕ) → following_expression (t ++ rest) ≡ Some rest → list_all is_no_backslash t ≡ true
unfolding following_expression
expression_calm t rest h = scan_calm expression [] 0 t rest tt h
