-- A text without its CRs: what its first characters are, and its text piece.
-- Carries: pieces.
use Rattle.std.proofs.Common.{◌≡◌, ℕ, zero, suc, ◌+◌, ◌≤◌, ◌<◌, Bool, true, false, List, [], ◌∷◌, length, drop, refl, sym, ap, ◌∙◌, subst}
use Rattle.std.proofs.Common.{arith, ◌⊎◌, inl, inr, length-drop}
use Rattle.std.specs.Prelude.{◌==◌, not, ◌&&◌}
use Rattle.std.specs.List.{prefix_len}
use Rattle.std.proofs.lemmas.Bool.{cases_Bool, eqb-true}
use Rattle.pyfstring.specs.Characters.{backslash, capital_n, left_curly_bracket, right_curly_bracket, line_feed, carriage_return}
use Rattle.pyfstring.specs.Texts.{begins, begins_with, begins_escape, begins_pair, escape_len, is_literal_char, is_no_closing, unit_len}
use Rattle.pyfstring.specs.Texts.{after_text}
use Rattle.pyfstring.specs.Returns.{IsLined, nothing, character, line_end, without_returns}
use Rattle.pyfstring.proofs.Scanning.{text_stops, text_goes, unit_escape, unit_pair, unit_plain, unit_none}

pub plain_one : (c : ℕ) (cs : List ℕ) → (c == carriage_return) ≡ false → without_returns (c ∷ cs) ≡ c ∷ without_returns cs
plain_one c cs e = rw (e, without_returns) refl

pub lined_rest : {c : ℕ} {cs : List ℕ} → (c == carriage_return) ≡ false → IsLined (c ∷ cs) → IsLined cs
lined_rest e (character f l) = l
lined_rest e (line_end l) = cc

-- a test that doesn't tell CR from LF
pub begins_same : (f : ℕ → Bool) {cs : List ℕ} → f carriage_return ≡ f line_feed → IsLined cs → begins f (without_returns cs) ≡ begins f cs
begins_same f e nothing = refl
begins_same f e (character {c = c} {cs = cs} n l) = ap (begins f) (plain_one c cs n)
begins_same f e (line_end l) = sym e

-- ---- After a closing brace.

pub closing_same : (cs : List ℕ) → drop (prefix_len is_no_closing (without_returns cs) + 1) (without_returns cs) ≡ without_returns
    (drop (prefix_len is_no_closing cs + 1) cs)
closing_same [] = refl
closing_same (c ∷ cs) = at (cases_Bool (c == carriage_return)) (cases_Bool (is_no_closing c)) (closing_same cs)
  where
    step : (d : ℕ) (ds : List ℕ) → is_no_closing d ≡ true → drop (prefix_len is_no_closing (d ∷ ds) + 1) (d ∷ ds) ≡ drop
        (prefix_len is_no_closing ds + 1) ds
    step d ds e = let z : prefix_len is_no_closing (d ∷ ds) + 1 ≡ suc (prefix_len is_no_closing ds + 1) = rw e (omega arith) in
        ap (λ (n : ℕ). drop n (d ∷ ds)) z

    last : (d : ℕ) (ds : List ℕ) → is_no_closing d ≡ false → drop (prefix_len is_no_closing (d ∷ ds) + 1) (d ∷ ds) ≡ ds
    last d ds e = let z : prefix_len is_no_closing (d ∷ ds) + 1 ≡ 1 = rw e refl in ap (λ (n : ℕ). drop n (d ∷ ds)) z

    at : ((c == carriage_return) ≡ true) ⊎ ((c == carriage_return) ≡ false) → (is_no_closing c ≡ true) ⊎ (is_no_closing c ≡ false)
        → drop (prefix_len is_no_closing (without_returns cs) + 1) (without_returns cs) ≡ without_returns
        (drop (prefix_len is_no_closing cs + 1) cs) → drop (prefix_len is_no_closing (without_returns (c ∷ cs)) + 1)
        (without_returns (c ∷ cs)) ≡ without_returns (drop (prefix_len is_no_closing (c ∷ cs) + 1) (c ∷ cs))
    at (inl r) (inl n) more =
        let z : without_returns (c ∷ cs) ≡ without_returns cs = rw (r, without_returns) refl in
        ap (λ (x : List ℕ). drop (prefix_len is_no_closing x + 1) x) z ∙ more ∙ ap without_returns (sym (step c cs n))
    at (inl r) (inr n) more = let y : c ≡ 13 = eqb-true c 13 r in let z : is_no_closing c ≡ true = rw y refl in
        absurd (let w : false ≡ true = sym n ∙ z in cc)
    at (inr r) (inl n) more =
        ap (λ (x : List ℕ). drop (prefix_len is_no_closing x + 1) x) (plain_one c cs r) ∙ step c (without_returns cs) n ∙ more
        ∙ ap without_returns (sym (step c cs n))
    at (inr r) (inr n) more =
        ap (λ (x : List ℕ). drop (prefix_len is_no_closing x + 1) x) (plain_one c cs r) ∙ last c (without_returns cs) n
        ∙ ap without_returns (sym (last c cs n))

pub closing_lined : {cs : List ℕ} → IsLined cs → IsLined (drop (prefix_len is_no_closing cs + 1) cs)
closing_lined nothing = nothing
closing_lined (character {c = c} {cs = cs} e l) = at (cases_Bool (is_no_closing c)) (closing_lined l)
  where
    at : (is_no_closing c ≡ true) ⊎ (is_no_closing c ≡ false) → IsLined (drop (prefix_len is_no_closing cs + 1) cs)
        → IsLined (drop (prefix_len is_no_closing (c ∷ cs) + 1) (c ∷ cs))
    at (inl n) more = let z : prefix_len is_no_closing (c ∷ cs) + 1 ≡ suc (prefix_len is_no_closing cs + 1) = rw n (omega arith) in
        subst (λ (k : ℕ). IsLined (drop k (c ∷ cs))) (sym z) more
    at (inr n) more = let z : prefix_len is_no_closing (c ∷ cs) + 1 ≡ 1 = rw n refl in
        subst (λ (k : ℕ). IsLined (drop k (c ∷ cs))) (sym z) l
closing_lined (line_end {cs = cs} l) =
    let z : prefix_len is_no_closing (13 ∷ 10 ∷ cs) + 1 ≡ suc (suc (prefix_len is_no_closing cs + 1)) = omega arith in
    subst (λ (k : ℕ). IsLined (drop k (13 ∷ 10 ∷ cs))) (sym z) (closing_lined l)

closing_shorter : (cs : List ℕ) → length (drop (prefix_len is_no_closing cs + 1) cs) ≤ length cs
closing_shorter cs = omega (arith, length-drop (prefix_len is_no_closing cs + 1) cs)

-- ---- A text.

module _ (r p : Bool) where
  -- CR and LF are units
  feed_unit : (cs : List ℕ) → unit_len r p (10 ∷ cs) ≡ 1
  unfolding unit_len
  feed_unit cs = elim r as (λ x. unit_len x p (10 ∷ cs) ≡ 1) [
    | true ↦ elim p as (λ y. unit_len true y (10 ∷ cs) ≡ 1) [
      | true ↦ refl
      | false ↦ refl
    ]
    | false ↦ elim p as (λ y. unit_len false y (10 ∷ cs) ≡ 1) [ true ↦ refl | false ↦ refl ]
  ]

  return_unit : (cs : List ℕ) → unit_len r p (13 ∷ cs) ≡ 1
  unfolding unit_len
  return_unit cs = elim r as (λ x. unit_len x p (13 ∷ cs) ≡ 1) [
    | true ↦ elim p as (λ y. unit_len true y (13 ∷ cs) ≡ 1) [
      | true ↦ refl
      | false ↦ refl
    ]
    | false ↦ elim p as (λ y. unit_len false y (13 ∷ cs) ≡ 1) [ true ↦ refl | false ↦ refl ]
  ]

  -- the claim, of texts of less than k characters
  Below : ℕ → Type 0
  Below k = (cs : List ℕ) → length cs < k → IsLined cs → after_text r p (without_returns cs) ≡ without_returns (after_text r p cs)

  feed_goes : (cs : List ℕ) → after_text r p (10 ∷ cs) ≡ after_text r p cs
  feed_goes cs = text_goes r p 0 (10 ∷ cs) (feed_unit cs)

  -- after one more character, which may be a CR or an LF
  after_one : (k : ℕ) → Below k → (cs : List ℕ) → length cs < suc k → IsLined cs → after_text r p (drop 1 (without_returns cs)) ≡
      without_returns (after_text r p (drop 1 cs))
  unfolding Below after_text
  after_one k ih [] l nothing = refl
  after_one k ih (c ∷ cs) l (character e i) = ap (λ (x : List ℕ). after_text r p (drop 1 x)) (plain_one c cs e) ∙ ih cs (omega arith) i
  after_one k ih (_ ∷ _ ∷ cs) l (line_end i) = ih cs (omega arith) i ∙ ap without_returns (sym (feed_goes cs))

  escape_same : (cs : List ℕ) → IsLined cs → (a : ℕ) → (not r && begins_escape (a ∷ without_returns cs)) ≡ (not r && begins_escape (a ∷ cs))
  escape_same cs i a = ap (λ (b : Bool). not r && ((a == backslash) && b)) (begins_same is_literal_char refl i)

  pair_same : (cs : List ℕ) → IsLined cs → (a : ℕ) → (p && begins_pair (a ∷ without_returns cs)) ≡ (p && begins_pair (a ∷ cs))
  pair_same cs i a = ap (λ (b : Bool). p && b) (at (cases_Bool (a == left_curly_bracket)) (cases_Bool (a == right_curly_bracket)))
    where
      at : ((a == left_curly_bracket) ≡ true) ⊎ ((a == left_curly_bracket) ≡ false)
          → ((a == right_curly_bracket) ≡ true) ⊎ ((a == right_curly_bracket) ≡ false)
          → begins_pair (a ∷ without_returns cs) ≡ begins_pair (a ∷ cs)
      at (inl e) _ = let z : a ≡ 123 = eqb-true a 123 e in subst (λ (x : ℕ). begins_pair (x ∷ without_returns cs) ≡ begins_pair (x ∷ cs))
          (sym z) (begins_same (λ d. d == 123) refl i)
      at (inr e) (inl f) = let z : a ≡ 125 = eqb-true a 125 f in
          subst (λ (x : ℕ). begins_pair (x ∷ without_returns cs) ≡ begins_pair (x ∷ cs)) (sym z) (begins_same (λ d. d == 125) refl i)
      at (inr e) (inr f) = rw (e, f) refl

  escape_two : (a : ℕ) (x : List ℕ) → begins_with capital_n x ≡ false → escape_len (a ∷ x) ≡ 2
  escape_two a x e = rw e refl

  escape_three : (a : ℕ) (x : List ℕ) → begins_with left_curly_bracket x ≡ false → escape_len (a ∷ capital_n ∷ x) ≡ 3
  escape_three a x e = rw e refl

  escape_named : (a : ℕ) (x : List ℕ) → drop (escape_len (a ∷ capital_n ∷ left_curly_bracket ∷ x))
      (a ∷ capital_n ∷ left_curly_bracket ∷ x) ≡ drop (prefix_len is_no_closing x + 1) x
  escape_named a x =
      let z : escape_len (a ∷ capital_n ∷ left_curly_bracket ∷ x) ≡ suc (suc (suc (prefix_len is_no_closing x + 1))) = omega arith in
      ap (λ (n : ℕ). drop n (a ∷ capital_n ∷ left_curly_bracket ∷ x)) z

  -- after an escape
  after_escape : (k : ℕ) → Below k → (a : ℕ) (cs : List ℕ) → length cs < k → IsLined cs
      → after_text r p (drop (escape_len (a ∷ without_returns cs)) (a ∷ without_returns cs)) ≡ without_returns
      (after_text r p (drop (escape_len (a ∷ cs)) (a ∷ cs)))
  unfolding Below
  after_escape k ih a cs l i = at_n cs l i (cases_Bool (begins_with capital_n cs))
    where
      at_brace : (ds : List ℕ) → length ds < k → IsLined ds
          → (begins_with left_curly_bracket ds ≡ true) ⊎ (begins_with left_curly_bracket ds ≡ false)
          → after_text r p (drop (escape_len (a ∷ capital_n ∷ without_returns ds)) (a ∷ capital_n ∷ without_returns ds)) ≡ without_returns
          (after_text r p (drop (escape_len (a ∷ capital_n ∷ ds)) (a ∷ capital_n ∷ ds)))
      at_brace [] m j (inl b) = cc
      at_brace (d ∷ ds) m j (inl b) =
          let y : d ≡ 123 = eqb-true d 123 b in
          let g : (d == carriage_return) ≡ false = rw y refl in
          let s : IsLined ds = lined_rest g j in
          let body : drop (escape_len (a ∷ capital_n ∷ d ∷ ds)) (a ∷ capital_n ∷ d ∷ ds) ≡ drop (prefix_len is_no_closing ds + 1) ds =
          subst (λ (x : ℕ). drop (escape_len (a ∷ capital_n ∷ x ∷ ds)) (a ∷ capital_n ∷ x ∷ ds) ≡ drop (prefix_len is_no_closing ds + 1)
          ds) (sym y) (escape_named a ds) in
          let plain : drop (escape_len (a ∷ capital_n ∷ d ∷ without_returns ds)) (a ∷ capital_n ∷ d ∷ without_returns ds) ≡ drop
          (prefix_len is_no_closing (without_returns ds) + 1) (without_returns ds) =
          subst (λ (x : ℕ). drop (escape_len (a ∷ capital_n ∷ x ∷ without_returns ds)) (a ∷ capital_n ∷ x ∷ without_returns ds) ≡ drop
          (prefix_len is_no_closing (without_returns ds) + 1) (without_returns ds)) (sym y) (escape_named a (without_returns ds)) in
          let short : length (drop (prefix_len is_no_closing ds + 1) ds) < k = omega (arith, closing_shorter ds) in
          ap (λ (x : List ℕ). after_text r p (drop (escape_len (a ∷ capital_n ∷ x)) (a ∷ capital_n ∷ x))) (plain_one d ds g)
          ∙ ap (after_text r p) (plain ∙ closing_same ds)
          ∙ ih (drop (prefix_len is_no_closing ds + 1) ds) short (closing_lined s)
          ∙ ap (λ (x : List ℕ). without_returns (after_text r p x)) (sym body)
      at_brace ds m j (inr b) =
          let f : begins_with left_curly_bracket (without_returns ds) ≡ false = begins_same (λ c. c == left_curly_bracket) refl j ∙ b in
          ap (λ (n : ℕ). after_text r p (drop n (a ∷ capital_n ∷ without_returns ds))) (escape_three a (without_returns ds) f)
          ∙ after_one k ih ds (omega arith) j
          ∙ ap (λ (n : ℕ). without_returns (after_text r p (drop n (a ∷ capital_n ∷ ds)))) (sym (escape_three a ds b))

      at_n : (ds : List ℕ) → length ds < k → IsLined ds → (begins_with capital_n ds ≡ true) ⊎ (begins_with capital_n ds ≡ false)
          → after_text r p (drop (escape_len (a ∷ without_returns ds)) (a ∷ without_returns ds)) ≡ without_returns
          (after_text r p (drop (escape_len (a ∷ ds)) (a ∷ ds)))
      at_n [] m j (inl b) = cc
      at_n (d ∷ ds) m j (inl b) =
          let y : d ≡ 78 = eqb-true d 78 b in
          let g : (d == carriage_return) ≡ false = rw y refl in
          let short : length ds < k = omega arith in
          ap (λ (x : List ℕ). after_text r p (drop (escape_len (a ∷ x)) (a ∷ x))) (plain_one d ds g)
          ∙ subst (λ (x : ℕ). after_text r p (drop (escape_len (a ∷ x ∷ without_returns ds)) (a ∷ x ∷ without_returns ds)) ≡
          without_returns (after_text r p (drop (escape_len (a ∷ x ∷ ds)) (a ∷ x ∷ ds)))) (sym y)
          (at_brace ds short (lined_rest g j) (cases_Bool (begins_with left_curly_bracket ds)))
      at_n ds m j (inr b) =
          let f : begins_with capital_n (without_returns ds) ≡ false = begins_same (λ c. c == capital_n) refl j ∙ b in
          ap (λ (n : ℕ). after_text r p (drop n (a ∷ without_returns ds))) (escape_two a (without_returns ds) f)
          ∙ after_one k ih ds (omega arith) j
          ∙ ap (λ (n : ℕ). without_returns (after_text r p (drop n (a ∷ ds)))) (sym (escape_two a ds b))

  -- by the unit at the front
  goes_by : (n : ℕ) (cs : List ℕ) → unit_len r p cs ≡ n → after_text r p cs ≡ after_text r p (drop n cs)
  goes_by zero cs e = refl
  goes_by (suc n) cs e = text_goes r p n cs e

  below_all : (k : ℕ) → Below k
  unfolding Below after_text
  below_all zero cs l i = absurd (omega arith)
  below_all (suc k) [] l nothing = refl
  below_all (suc k) (_ ∷ _ ∷ cs) l (line_end i) =
      feed_goes (without_returns cs)
      ∙ below_all k cs (omega arith) i
      ∙ ap without_returns (sym (goes_by 1 (13 ∷ 10 ∷ cs) (return_unit (10 ∷ cs)) ∙ feed_goes cs))
  below_all (suc k) (a ∷ cs) l (character e i) =
      ap (after_text r p) (plain_one a cs e)
      ∙ by_unit (below_all k) (cases_Bool (not r && begins_escape (a ∷ cs))) (cases_Bool (p && begins_pair (a ∷ cs)))
      (cases_Bool (is_literal_char a))
    where
      by_unit : Below k → ((not r && begins_escape (a ∷ cs)) ≡ true) ⊎ ((not r && begins_escape (a ∷ cs)) ≡ false)
          → ((p && begins_pair (a ∷ cs)) ≡ true) ⊎ ((p && begins_pair (a ∷ cs)) ≡ false)
          → (is_literal_char a ≡ true) ⊎ (is_literal_char a ≡ false) → after_text r p (a ∷ without_returns cs) ≡ without_returns
          (after_text r p (a ∷ cs))
      by_unit ih (inl x) _ _ =
          goes_by _ (a ∷ without_returns cs) (unit_escape r p (a ∷ without_returns cs) (escape_same cs i a ∙ x))
          ∙ after_escape k ih a cs (omega arith) i
          ∙ ap without_returns (sym (goes_by _ (a ∷ cs) (unit_escape r p (a ∷ cs) x)))
      by_unit ih (inr x) (inl y) _ =
          let z = unit_pair r p (a ∷ cs) x y in
          let w = unit_pair r p (a ∷ without_returns cs) (escape_same cs i a ∙ x) (pair_same cs i a ∙ y) in
          goes_by 2 (a ∷ without_returns cs) w ∙ after_one k ih cs (omega arith) i ∙ ap without_returns (sym (goes_by 2 (a ∷ cs) z))
      by_unit ih (inr x) (inr y) (inl n) =
          let z = unit_plain r p (a ∷ cs) x y n in
          let w = unit_plain r p (a ∷ without_returns cs) (escape_same cs i a ∙ x) (pair_same cs i a ∙ y) n in
          goes_by 1 (a ∷ without_returns cs) w ∙ ih cs (omega arith) i ∙ ap without_returns (sym (goes_by 1 (a ∷ cs) z))
      by_unit ih (inr x) (inr y) (inr n) =
          let z = unit_none r p (a ∷ cs) x y n in
          let w = unit_none r p (a ∷ without_returns cs) (escape_same cs i a ∙ x) (pair_same cs i a ∙ y) n in
          text_stops r p (a ∷ without_returns cs) w ∙ sym (plain_one a cs e) ∙ ap without_returns (sym (text_stops r p (a ∷ cs) z))

  pub text_same : (cs : List ℕ) → IsLined cs → after_text r p (without_returns cs) ≡ without_returns (after_text r p cs)
  unfolding Below
  text_same cs i = below_all (suc (length cs)) cs (omega arith) i
