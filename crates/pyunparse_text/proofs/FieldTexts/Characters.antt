-- Characters that a scan of a field's expression passes.
--
-- Carries: plain_but, name_plain, plain_passed, inner_passed, calm_passed and 1 more, for NumberCharacters, OperatorScans,
-- PieceScans. On: Conditions.
use Rattle.std.proofs.Common.{◌≡◌, ℕ, ◌<◌, Bool, true, false, not, ◌&&◌, ◌||◌, ◌==◌, List, [], ◌∷◌, ◌++◌, refl, ◌∙◌, eqb, ltb, Option, Some}
use Rattle.std.proofs.Common.{None}
use Rattle.std.proofs.Common.{inl, inr}
use Rattle.std.specs.Char.{is_ascii_alphanumeric}
use Rattle.std.specs.List.{list_all, list_any}
use Rattle.std.proofs.lemmas.Bool.{ltb-true, cases_Bool, false_from_ne_true, not-true, and_parts, or_parts}
use Rattle.unicode_ident.specs.Ident.{is_xid_continue}
use Rattle.unicode_ident.proofs.IdentLemmas.{is_xid_continue-ascii}
use Rattle.pyfstring.specs.Texts.{begins_with}
use Rattle.pyfstring.specs.Expressions.{is_quote, is_refused, is_end, opened_by, closed_by, is_empty, begins_comparison, step, scan}
use Rattle.pyfstring.specs.Expressions.{expression}
use Rattle.pyunparse_text.proofs.LexemeFronts.OperatorFronts.{of_any}
use Rattle.pyunparse_text.proofs.FieldTexts.Conditions.{is_there, is_own, is_inner, is_calm, is_plain}

-- ---- Which characters they are.

-- all others
abbrev specials : List ℕ
specials = 39 ∷ 34 ∷ 92 ∷ 35 ∷ 40 ∷ 91 ∷ 123 ∷ 41 ∷ 93 ∷ 125 ∷ 33 ∷ 58 ∷ 61 ∷ 60 ∷ 62 ∷ 10 ∷ 13 ∷ 0 ∷ []

not_special : (c : ℕ) → list_any (eqb c) specials ≡ false → is_plain c ≡ true
not_special c e =
    let a1 = or_parts (eqb c 39) _ e in
    let a2 = or_parts (eqb c 34) _ a1.1 in
    let a3 = or_parts (eqb c 92) _ a2.1 in
    let a4 = or_parts (eqb c 35) _ a3.1 in
    let a5 = or_parts (eqb c 40) _ a4.1 in
    let a6 = or_parts (eqb c 91) _ a5.1 in
    let a7 = or_parts (eqb c 123) _ a6.1 in
    let a8 = or_parts (eqb c 41) _ a7.1 in
    let a9 = or_parts (eqb c 93) _ a8.1 in
    let a10 = or_parts (eqb c 125) _ a9.1 in
    let a11 = or_parts (eqb c 33) _ a10.1 in
    let a12 = or_parts (eqb c 58) _ a11.1 in
    let a13 = or_parts (eqb c 61) _ a12.1 in
    let a14 = or_parts (eqb c 60) _ a13.1 in
    let a15 = or_parts (eqb c 62) _ a14.1 in
    let a16 = or_parts (eqb c 10) _ a15.1 in
    let a17 = or_parts (eqb c 13) _ a16.1 in
    let a18 = or_parts (eqb c 0) _ a17.1 in
    rw (a1.0, a2.0, a3.0, a4.0, a5.0, a6.0, a7.0, a8.0, a9.0, a10.0, a11.0, a12.0, a13.0, a14.0, a15.0, a16.0, a17.0, a18.0) refl

-- those of a set that has none of them
pub plain_but : (f : ℕ → Bool) → list_all (λ d. not (f d)) specials ≡ true → (c : ℕ) → f c ≡ true → is_plain c ≡ true
plain_but f a c e = not_special c
    (false_from_ne_true (list_any (eqb c) specials) (λ h. let n = not-true (f c) (of_any (λ d. not (f d)) c specials a h) in cc))

-- those that go on in names
pub name_plain : (c : ℕ) → is_xid_continue c ≡ true → is_plain c ≡ true
name_plain c e = not_special c (false_from_ne_true (list_any (eqb c) specials) (λ h.
    let a = of_any (λ d. ltb d 128 && not (is_ascii_alphanumeric d || (d == 95))) c specials refl h in
    let b = and_parts (ltb c 128) (not (is_ascii_alphanumeric c || (c == 95))) a in
    let l : c < 128 = ltb-true c 128 b.0 in
    let n : is_xid_continue c ≡ false = is_xid_continue-ascii c l ∙ not-true _ b.1 in
    cc))

-- ---- They are passed.

abbrev Of : {A : Type 0} → (ℕ → Option A) → Type 0
Of {A} by = A

-- a bracket to a scan
abbrev pub Bracket : Type 0
Bracket = Of opened_by

none_there : {A : Type 0} (o : Option A) → not (is_there o) ≡ true → o ≡ None
none_there None e = refl
none_there (Some x) e = cc

record Inner (c : ℕ) : Type 0 where
  pub quote : is_quote c ≡ false
  pub refused : is_refused c ≡ false
  pub opener : opened_by c ≡ None
  pub closer : closed_by c ≡ None

inner_of : (c : ℕ) → is_inner c ≡ true → Inner c
inner_of c e =
    let a1 = and_parts (is_own c) _ e in
    let b1 = and_parts (not (is_quote c)) _ a1.0 in
    let b2 = and_parts (not (c == 92)) _ b1.1 in
    let a2 = and_parts (not (c == 35)) _ a1.1 in
    let a3 = and_parts (not (is_there (opened_by c))) (not (is_there (closed_by c))) a2.1 in
    let s = not-true (c == 92) b2.0 in
    let h = not-true (c == 35) a2.0 in
    record {
      quote = not-true _ b1.0;
      refused = rw (s, h) refl;
      opener = none_there (opened_by c) a3.0;
      closer = none_there (closed_by c) a3.1;
    }

pass_inside : (os : List Bracket) (c : ℕ) (cs : List ℕ) → is_empty os ≡ false → is_inner c ≡ true
    → scan expression os 0 (c ∷ cs) ≡ scan expression os 0 cs
unfolding step
pass_inside os c cs e i = let p = inner_of c i in rw (p.quote, p.refused, e, p.opener, p.closer, scan) refl

pass_calm : (os : List Bracket) (c : ℕ) (cs : List ℕ) → is_calm c ≡ true → begins_comparison (c ∷ cs) ≡ false
    → scan expression os 0 (c ∷ cs) ≡ scan expression os 0 cs
unfolding step
pass_calm os c cs k n =
    let a = and_parts (is_inner c) (not (is_end c)) k in
    let p = inner_of c a.0 in
    let e = not-true (is_end c) a.1 in
    elim (cases_Bool (is_empty os)) [
      | inl h ↦ rw (p.quote, p.refused, h, n, e, p.opener, p.closer, scan) refl
      | inr h ↦ rw (p.quote, p.refused, h, p.opener, p.closer, scan) refl
    ]

no_equals : (c : ℕ) → is_calm c ≡ true → (c == 61) ≡ false
no_equals c k =
    let a = and_parts (is_inner c) (not (is_end c)) k in
    (or_parts ((c == 125) || (c == 33) || (c == 58)) (c == 61) (not-true (is_end c) a.1)).1

-- whatever follows
pub plain_passed : (os : List Bracket) (t r : List ℕ) → list_all is_plain t ≡ true → scan expression os 0 (t ++ r) ≡ scan expression os 0 r
plain_passed os [] r a = refl
plain_passed os (c ∷ t) r a =
    let h = and_parts (is_plain c) (list_all is_plain t) a in
    pass_calm os c (t ++ r) (and_parts (is_calm c) _ h.0).0 (none c (t ++ r) h.0) ∙ plain_passed os t r h.1
  where
    none : (c : ℕ) (cs : List ℕ) → is_plain c ≡ true → begins_comparison (c ∷ cs) ≡ false
    none c cs e =
        let a = and_parts (is_calm c) (not ((c == 60) || (c == 62))) e in
        let b = or_parts (c == 60) (c == 62) (not-true _ a.1) in
        let d = and_parts (is_inner c) (not (is_end c)) a.0 in
        let f = or_parts ((c == 125) || (c == 33) || (c == 58)) (c == 61) (not-true (is_end c) d.1) in
        let g = or_parts ((c == 125) || (c == 33)) (c == 58) f.0 in
        let i = or_parts (c == 125) (c == 33) g.0 in
        rw (i.1, f.1, b.0, b.1) refl

-- within brackets
pub inner_passed : (os : List Bracket) (t r : List ℕ) → is_empty os ≡ false → list_all is_inner t ≡ true
    → scan expression os 0 (t ++ r) ≡ scan expression os 0 r
inner_passed os [] r e a = refl
inner_passed os (c ∷ t) r e a =
    let h = and_parts (is_inner c) (list_all is_inner t) a in
    pass_inside os c (t ++ r) e h.0 ∙ inner_passed os t r e h.1

-- where no `=` follows
pub calm_passed : (os : List Bracket) (t r : List ℕ) → list_all is_calm t ≡ true → begins_with 61 r ≡ false
    → scan expression os 0 (t ++ r) ≡ scan expression os 0 r
calm_passed os [] r a n = refl
calm_passed os (c ∷ t) r a n =
    let h = and_parts (is_calm c) (list_all is_calm t) a in
    pass_calm os c (t ++ r) h.0 (none c (t ++ r) (next t h.1)) ∙ calm_passed os t r h.1 n
  where
    next : (t : List ℕ) → list_all is_calm t ≡ true → begins_with 61 (t ++ r) ≡ false
    next [] a = n
    next (d ∷ t) a = no_equals d (and_parts (is_calm d) (list_all is_calm t) a).0

    none : (c : ℕ) (cs : List ℕ) → begins_with 61 cs ≡ false → begins_comparison (c ∷ cs) ≡ false
    none c cs e = rw e (right ((c == 33) || (c == 61) || (c == 60) || (c == 62)))
      where
        right : (b : Bool) → (b && false) ≡ false
        right true = refl
        right false = refl
