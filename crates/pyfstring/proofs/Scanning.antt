-- Texts and expressions, one step after another.
use Rattle.std.proofs.Common.{◌≡◌, ℕ, zero, suc, ◌+◌, ◌-◌, ◌<◌, Bool, true, false, List, [], ◌∷◌, ◌++◌, length, take, drop, refl, sym, ap}
use Rattle.std.proofs.Common.{◌∙◌, subst, arith, Some, None}
use Rattle.std.specs.Prelude.{◌==◌, not, ◌&&◌}
use Rattle.std.specs.List.{prefix_len}
use Rattle.std.proofs.lemmas.Bool.{cond-true, cond-false, cond_both, ne_eqb, eqb-true, not-false}
use Rattle.std.proofs.lemmas.List.{length-drop}
use Rattle.pyfstring.specs.declared.expressions.Bracket.{Bracket}
use Rattle.pyfstring.specs.declared.expressions.Step.TheVariants.{Ends, Fails, Literal, Compares, Opens, Closes, Passes}
use Rattle.pyfstring.specs.Characters.{backslash, capital_n, left_curly_bracket}
use Rattle.pyfstring.specs.Texts.{begins, begins_with, begins_escape, begins_pair, escape_len, is_literal_char, is_no_closing, unit_len}
use Rattle.pyfstring.specs.Texts.{units_after, after_text}
use Rattle.pyfstring.specs.Expressions.{Inside, expression, shortstring, longstring, step, scan, begins_three, following_expression}
use Rattle.pyfstring.specs.Cutting.{EndsWith}
use Rattle.pyfstring.proofs.Fronts.{ends_all, ends_one}

-- ---- Texts.

units_end : (is_raw has_pairs : Bool) (n : ℕ) (cs : List ℕ) → EndsWith cs (units_after is_raw has_pairs n cs)
units_end is_raw has_pairs n [] = ([], refl)
units_end is_raw has_pairs (suc n) (c ∷ cs) = ends_one c cs _ (units_end is_raw has_pairs n cs)
units_end is_raw has_pairs zero (c ∷ cs) =
    elim (unit_len is_raw has_pairs (c ∷ cs)) as
    (λ k. EndsWith (c ∷ cs) (elim k [ zero ↦ c ∷ cs | suc n ↦ units_after is_raw has_pairs n cs ])) [
      | zero ↦ ends_all (c ∷ cs)
      | suc n ↦ ends_one c cs (units_after is_raw has_pairs n cs) (units_end is_raw has_pairs n cs)
    ]

pub text_ends : (is_raw has_pairs : Bool) (cs : List ℕ) → EndsWith cs (after_text is_raw has_pairs cs)
unfolding after_text
text_ends is_raw has_pairs cs = units_end is_raw has_pairs 0 cs

units_skip : (is_raw has_pairs : Bool) (n : ℕ) (cs : List ℕ) → units_after is_raw has_pairs n cs ≡ units_after
    is_raw has_pairs 0 (drop n cs)
units_skip is_raw has_pairs zero cs = refl
units_skip is_raw has_pairs (suc n) [] = refl
units_skip is_raw has_pairs (suc n) (c ∷ cs) = units_skip is_raw has_pairs n cs

pub text_stops : (is_raw has_pairs : Bool) (cs : List ℕ) → unit_len is_raw has_pairs cs ≡ 0 → after_text is_raw has_pairs cs ≡ cs
unfolding after_text
text_stops is_raw has_pairs [] e = refl
text_stops is_raw has_pairs (c ∷ cs) e =
    subst (λ (k : ℕ). elim k [ zero ↦ c ∷ cs | suc n ↦ units_after is_raw has_pairs n cs ] ≡ c ∷ cs) (sym e) refl

pub text_goes : (is_raw has_pairs : Bool) (n : ℕ) (cs : List ℕ) → unit_len is_raw has_pairs cs ≡ suc n
    → after_text is_raw has_pairs cs ≡ after_text is_raw has_pairs (drop (suc n) cs)
unfolding after_text
text_goes is_raw has_pairs n [] e = refl
text_goes is_raw has_pairs n (c ∷ cs) e =
    subst (λ (k : ℕ). elim k [ zero ↦ c ∷ cs | suc n ↦ units_after is_raw has_pairs n cs ] ≡ units_after is_raw has_pairs 0 (drop n cs))
    (sym e) (units_skip is_raw has_pairs n cs)

-- ---- Expressions.

pub scan_skip : (i : Inside) (bs : List Bracket) (n : ℕ) (cs : List ℕ) → scan i bs n cs ≡ scan i bs 0 (drop n cs)
scan_skip i bs zero cs = refl
scan_skip i bs (suc n) [] = refl
scan_skip i bs (suc n) (c ∷ cs) = scan_skip i bs n cs

scan_ends : (i : Inside) (bs : List Bracket) (n : ℕ) (cs r : List ℕ) → scan i bs n cs ≡ Some r → EndsWith cs r
scan_ends i bs n [] r e = cc
scan_ends i bs (suc n) (c ∷ cs) r e = ends_one c cs r (scan_ends i bs n cs r e)
scan_ends expression bs zero (c ∷ cs) r e =
    (elim (step bs (c ∷ cs)) as (λ s. elim s [
      | Ends ↦ Some (c ∷ cs)
      | Fails ↦ None
      | Literal ↦ elim (begins_three c (c ∷ cs)) [ true ↦ scan (longstring c) bs 2 cs | false ↦ scan (shortstring c) bs 0 cs ]
      | Compares ↦ scan expression bs 1 cs
      | Opens b ↦ scan expression (bs ++ b ∷ []) 0 cs
      | Closes ↦ scan expression (take (length bs - 1) bs) 0 cs
      | Passes ↦ scan expression bs 0 cs
    ] ≡ Some r → EndsWith (c ∷ cs) r) [
      | Ends ↦ λ h. let f : c ∷ cs ≡ r = cc in subst (λ x. EndsWith (c ∷ cs) x) f (ends_all (c ∷ cs))
      | Fails ↦ λ h. cc
      | Literal ↦ elim (begins_three c (c ∷ cs)) as
          (λ b. elim b [ true ↦ scan (longstring c) bs 2 cs | false ↦ scan (shortstring c) bs 0 cs ] ≡ Some r → EndsWith (c ∷ cs) r) [
            | true ↦ λ h. ends_one c cs r (scan_ends (longstring c) bs 2 cs r h)
            | false ↦ λ h. ends_one c cs r (scan_ends (shortstring c) bs 0 cs r h)
          ]
      | Compares ↦ λ h. ends_one c cs r (scan_ends expression bs 1 cs r h)
      | Opens b ↦ λ h. ends_one c cs r (scan_ends expression (bs ++ b ∷ []) 0 cs r h)
      | Closes ↦ λ h. ends_one c cs r (scan_ends expression (take (length bs - 1) bs) 0 cs r h)
      | Passes ↦ λ h. ends_one c cs r (scan_ends expression bs 0 cs r h)
    ]) e
scan_ends (shortstring q) bs zero (c ∷ cs) r e =
    (elim (c == backslash) as
    (λ b. elim b [ true ↦ None | false ↦ elim (c == q) [ true ↦ scan expression bs 0 cs | false ↦ scan (shortstring q) bs 0 cs ] ] ≡
    Some r → EndsWith (c ∷ cs) r) [
      | true ↦ λ h. cc
      | false ↦ elim (c == q) as (λ b. elim b [ true ↦ scan expression bs 0 cs | false ↦ scan (shortstring q) bs 0 cs ] ≡ Some r
          → EndsWith (c ∷ cs) r) [
            | true ↦ λ h. ends_one c cs r (scan_ends expression bs 0 cs r h)
            | false ↦ λ h. ends_one c cs r (scan_ends (shortstring q) bs 0 cs r h)
          ]
    ]) e
scan_ends (longstring q) bs zero (c ∷ cs) r e =
    (elim (c == backslash) as (λ b. elim b [
      | true ↦ None
      | false ↦ elim (begins_three q (c ∷ cs)) [
        | true ↦ scan expression bs 2 cs
        | false ↦ scan (longstring q) bs 0 cs
      ]
    ] ≡ Some r → EndsWith (c ∷ cs) r) [
      | true ↦ λ h. cc
      | false ↦ elim (begins_three q (c ∷ cs)) as (λ b. elim b [ true ↦ scan expression bs 2 cs | false ↦ scan (longstring q) bs 0 cs ] ≡
          Some r → EndsWith (c ∷ cs) r) [
            | true ↦ λ h. ends_one c cs r (scan_ends expression bs 2 cs r h)
            | false ↦ λ h. ends_one c cs r (scan_ends (longstring q) bs 0 cs r h)
          ]
    ]) e

pub expression_ends : (cs r : List ℕ) → following_expression cs ≡ Some r → EndsWith cs r
unfolding following_expression
expression_ends cs r e = scan_ends expression [] 0 cs r e

-- ---- Units.

pub unit_escape : (is_raw has_pairs : Bool) (cs : List ℕ) → (not is_raw && begins_escape cs) ≡ true
    → unit_len is_raw has_pairs cs ≡ escape_len cs
unfolding unit_len
unit_escape is_raw has_pairs cs e = cond-true _ _ _ e

pub unit_pair : (is_raw has_pairs : Bool) (cs : List ℕ) → (not is_raw && begins_escape cs) ≡ false → (has_pairs && begins_pair cs) ≡ true
    → unit_len is_raw has_pairs cs ≡ 2
unfolding unit_len
unit_pair is_raw has_pairs cs r e = cond-false _ _ _ r ∙ cond-true _ _ _ e

pub unit_plain : (is_raw has_pairs : Bool) (cs : List ℕ) → (not is_raw && begins_escape cs) ≡ false → (has_pairs && begins_pair cs) ≡ false
    → begins is_literal_char cs ≡ true → unit_len is_raw has_pairs cs ≡ 1
unfolding unit_len
unit_plain is_raw has_pairs cs r e f = cond-false _ _ _ r ∙ cond-false _ _ _ e ∙ cond-true _ _ _ f

pub unit_none : (is_raw has_pairs : Bool) (cs : List ℕ) → (not is_raw && begins_escape cs) ≡ false → (has_pairs && begins_pair cs) ≡ false
    → begins is_literal_char cs ≡ false → unit_len is_raw has_pairs cs ≡ 0
unfolding unit_len
unit_none is_raw has_pairs cs r e f = cond-false _ _ _ r ∙ cond-false _ _ _ e ∙ cond-false _ _ _ f

pub escape_some : (cs : List ℕ) → not (escape_len cs == 0) ≡ true
escape_some cs = cond_both (not (begins_with capital_n (drop 1 cs))) 2 _ (λ (n : ℕ). not (n == 0) ≡ true) (λ _. refl)
    (λ _. cond_both (not (begins_with left_curly_bracket (drop 2 cs))) 3 _ (λ (n : ℕ). not (n == 0) ≡ true) (λ _. refl)
    (λ _. more (prefix_len is_no_closing (drop 3 cs))))
  where
    more : (n : ℕ) → not ((3 + (n + 1)) == 0) ≡ true
    more n = let z : ((3 + (n + 1)) == 0) ≡ false = ne_eqb (3 + (n + 1)) 0 (λ e. omega arith) in rw z refl

-- ---- A text, one unit after another.

pub some_unit : (n : ℕ) → not (n == 0) ≡ true → (m : ℕ) × (n ≡ suc m)
some_unit zero e = cc
some_unit (suc m) e = (m, refl)

none_unit : (n : ℕ) → not (n == 0) ≡ false → n ≡ 0
none_unit n e = eqb-true n 0 (not-false (n == 0) e)

pub text_more : (is_raw has_pairs : Bool) (cs : List ℕ) → not (unit_len is_raw has_pairs cs == 0) ≡ true
    → after_text is_raw has_pairs cs ≡ after_text is_raw has_pairs (drop (unit_len is_raw has_pairs cs) cs)
text_more is_raw has_pairs cs e = let m = some_unit (unit_len is_raw has_pairs cs) e in text_goes is_raw has_pairs m.0 cs m.1
    ∙ ap (λ (n : ℕ). after_text is_raw has_pairs (drop n cs)) (sym m.1)

pub text_none : (is_raw has_pairs : Bool) (cs : List ℕ) → not (unit_len is_raw has_pairs cs == 0) ≡ false
    → after_text is_raw has_pairs cs ≡ drop (unit_len is_raw has_pairs cs) cs
text_none is_raw has_pairs cs e = let z = none_unit (unit_len is_raw has_pairs cs) e in text_stops is_raw has_pairs cs z
    ∙ ap (λ (n : ℕ). drop n cs) (sym z)

nothing_unit : (is_raw has_pairs : Bool) → unit_len is_raw has_pairs [] ≡ 0
unfolding unit_len
nothing_unit true true = refl
nothing_unit true false = refl
nothing_unit false true = refl
nothing_unit false false = refl

pub text_shorter : (is_raw has_pairs : Bool) (cs : List ℕ) → not (unit_len is_raw has_pairs cs == 0) ≡ true
    → length (drop (unit_len is_raw has_pairs cs) cs) < length cs
text_shorter is_raw has_pairs [] e = let z = nothing_unit is_raw has_pairs in
    let y : not (unit_len is_raw has_pairs [] == 0) ≡ false = rw z refl in cc
text_shorter is_raw has_pairs (c ∷ cs) e = let m = some_unit (unit_len is_raw has_pairs (c ∷ cs)) e in
    omega (arith, length-drop (unit_len is_raw has_pairs (c ∷ cs)) (c ∷ cs), m.1)
