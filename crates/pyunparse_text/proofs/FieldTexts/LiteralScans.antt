-- A literal that a scan of a field's expression passes.
--
-- Carries: literal_scanned, for PieceScans. On: Conditions, Characters.
use Rattle.std.proofs.Common.{◌≡◌, ℕ, Bool, true, false, not, ◌&&◌, ◌==◌, List, [], ◌∷◌, ◌++◌, refl, sym, ◌∙◌, subst, inl, inr}
use Rattle.std.proofs.Common.{if◌then◌else◌}
use Rattle.std.proofs.lemmas.Bool.{and_from, cases_Bool, eqb-true, not-true, or_cases, and_parts, or_parts}
use Rattle.std.specs.List.{list_all}
use Rattle.pyfstring.specs.Texts.{begins_with}
use Rattle.pyfstring.specs.Expressions.{is_quote, begins_three, step, scan, expression, shortstring}
use Rattle.pylex_lexeme.specs.Strings.{begins_quote}
use Rattle.pyunparse_text.proofs.FieldTexts.Conditions.{is_plain, is_own, ends_plainly, is_plain_literal}
use Rattle.pyunparse_text.proofs.FieldTexts.Characters.{Bracket, plain_passed}

-- a quote is no backslash, and equals itself
record IsQuote (q : ℕ) : Type 0 where
  pub quote : is_quote q ≡ true
  pub slash : (q == 92) ≡ false
  pub itself : (q == q) ≡ true

quote_of : (q : ℕ) → is_quote q ≡ true → IsQuote q
quote_of q e = elim (or_cases (q == 39) (q == 34) e) [
  | inl h ↦ subst IsQuote (sym (eqb-true q 39 h)) (record { quote = refl; slash = refl; itself = refl })
  | inr h ↦ subst IsQuote (sym (eqb-true q 34 h)) (record { quote = refl; slash = refl; itself = refl })
]

-- an own character is neither the quote nor a backslash
own_is : (q c : ℕ) → is_quote q ≡ true → is_own c ≡ true → ((c == q) ≡ false) × ((c == 92) ≡ false)
own_is q c e b =
    let p = and_parts (not (is_quote c)) _ b in
    let n = or_parts (c == 39) (c == 34) (not-true (is_quote c) p.0) in
    let s = and_parts (not (c == 92)) _ p.1 in (
      elim (or_cases (q == 39) (q == 34) e) [
        | inl h ↦ subst (λ (x : ℕ). (c == x) ≡ false) (sym (eqb-true q 39 h)) n.0
        | inr h ↦ subst (λ (x : ℕ). (c == x) ≡ false) (sym (eqb-true q 34 h)) n.1
      ],
      not-true (c == 92) s.0,
    )

no_quote : (q : ℕ) (r : List ℕ) → is_quote q ≡ true → begins_quote r ≡ false → begins_with q r ≡ false
no_quote q [] e n = refl
no_quote q (c ∷ r) e n =
    let p = or_parts (c == 39) (c == 34) n in
    elim (or_cases (q == 39) (q == 34) e) [
      | inl h ↦ subst (λ (x : ℕ). (c == x) ≡ false) (sym (eqb-true q 39 h)) p.0
      | inr h ↦ subst (λ (x : ℕ). (c == x) ≡ false) (sym (eqb-true q 34 h)) p.1
    ]

-- one quote is none of three where the literal ends plainly
no_three : (q : ℕ) (t r : List ℕ) → is_quote q ≡ true → ends_plainly q t ≡ true → begins_quote r ≡ false
    → begins_three q (q ∷ t ++ r) ≡ false
no_three q [] r k e n = cc
no_three q (c ∷ []) r k e n = let m = no_quote q r k n in rw m (right (q == q) (c == q))
  where
    right : (x y : Bool) → (x && y && false) ≡ false
    right true true = refl
    right true false = refl
    right false true = refl
    right false false = refl
no_three q (c ∷ d ∷ t) r k e n =
    let p = and_parts (is_own c) (ends_plainly q (d ∷ t)) e in
    let b = own_is q c k p.0 in
    rw b.0 (middle (q == q) (d == q))
  where
    middle : (x y : Bool) → (x && false && y) ≡ false
    middle true y = refl
    middle false y = refl

-- up to the quote
body_scanned : (bs : List Bracket) (q : ℕ) (t r : List ℕ) → is_quote q ≡ true → ends_plainly q t ≡ true
    → scan (shortstring q) bs 0 (t ++ r) ≡ scan expression bs 0 r
body_scanned bs q [] r k e = cc
body_scanned bs q (c ∷ []) r k e =
    let f : c ≡ q = eqb-true c q e in
    let i = quote_of q k in
    subst (λ (x : ℕ). scan (shortstring q) bs 0 (x ∷ r) ≡ scan expression bs 0 r) (sym f) (closed i.slash i.itself)
  where
    closed : (q == 92) ≡ false → (q == q) ≡ true → scan (shortstring q) bs 0 (q ∷ r) ≡ scan expression bs 0 r
    closed s t = rw (s, t, scan) (refl {a = scan expression bs 0 r})
body_scanned bs q (c ∷ d ∷ t) r k e =
    let p = and_parts (is_own c) (ends_plainly q (d ∷ t)) e in
    let b = own_is q c k p.0 in
    one ∙ body_scanned bs q (d ∷ t) r k p.1
  where
    one : scan (shortstring q) bs 0 (c ∷ d ∷ t ++ r) ≡ scan (shortstring q) bs 0 (d ∷ t ++ r)
    one =
        let b = own_is q c k (and_parts (is_own c) (ends_plainly q (d ∷ t)) e).0 in
        rw (b.1, b.0, scan) (refl {a = scan (shortstring q) bs 0 (d ∷ t ++ r)})

quoted_scanned : (bs : List Bracket) (q : ℕ) (t r : List ℕ) → is_quote q ≡ true → ends_plainly q t ≡ true → begins_quote r ≡ false
    → scan expression bs 0 (q ∷ t ++ r) ≡ scan expression bs 0 r
unfolding step
quoted_scanned bs q t r k e n =
    let m = no_three q t r k e n in
    rw (k, m, scan) (body_scanned bs q t r k e)

pub literal_scanned : (bs : List Bracket) (t r : List ℕ) → is_plain_literal t ≡ true → begins_quote r ≡ false
    → scan expression bs 0 (t ++ r) ≡ scan expression bs 0 r
literal_scanned bs [] r e n = cc
literal_scanned bs (c ∷ t) r e n = elim (cases_Bool (c == 34)) [
  | inl h ↦ subst (λ (x : ℕ). scan expression bs 0 (x ∷ t ++ r) ≡ scan expression bs 0 r) (sym (eqb-true c 34 h))
      (quoted_scanned bs 34 t r refl (first (c == 34) (ends_plainly 34 t) (is_plain c && is_plain_literal t) h e) n)
  | inr h ↦
      let p = and_parts (is_plain c) (is_plain_literal t) (second (c == 34) (ends_plainly 34 t) (is_plain c && is_plain_literal t) h e) in
      plain_passed bs (c ∷ []) (t ++ r) (one c p.0) ∙ literal_scanned bs t r p.1 n
]
  where
    first : (b x y : Bool) → b ≡ true → (if b then x else y) ≡ true → x ≡ true
    first true x y h e = e
    first false x y h e = cc

    second : (b x y : Bool) → b ≡ false → (if b then x else y) ≡ true → y ≡ true
    second true x y h e = cc
    second false x y h e = e

    one : (c : ℕ) → is_plain c ≡ true → list_all is_plain (c ∷ []) ≡ true
    one c h = and_from (is_plain c) true h refl
