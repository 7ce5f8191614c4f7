-- An expression without its CRs.
-- Carries: pieces. On: ReturnTexts.
use Rattle.std.proofs.Common.{◌≡◌, ℕ, zero, suc, ◌-◌, ◌<◌, Bool, true, false, List, [], ◌∷◌, ◌++◌, length, take, drop, refl, sym, ap, ◌∙◌}
use Rattle.std.proofs.Common.{subst, arith, ◌⊎◌, inl, inr, length-drop, Option, Some, None}
use Rattle.std.specs.Prelude.{◌==◌, ◌&&◌, ◌||◌, option_map, if◌then◌else◌}
use Rattle.std.proofs.lemmas.Bool.{cases_Bool, and_parts, or_cases, eqb-true}
use Rattle.pyfstring.specs.declared.expressions.Bracket.{Bracket}
use Rattle.pyfstring.specs.declared.expressions.Step.{Step}
use Rattle.pyfstring.specs.declared.expressions.Step.TheVariants.{Ends, Fails, Literal, Compares, Opens, Closes, Passes}
use Rattle.pyfstring.specs.Characters.{backslash, carriage_return, equals_sign}
use Rattle.pyfstring.specs.Texts.{begins_with}
use Rattle.pyfstring.specs.Expressions.{Inside, expression, shortstring, longstring, step, scan, begins_three, begins_comparison}
use Rattle.pyfstring.specs.Expressions.{bracket_step, is_quote, is_refused, is_end, opened_by, closed_by, is_empty, following_expression}
use Rattle.pyfstring.specs.Returns.{IsLined, nothing, character, line_end, without_returns}
use Rattle.pyfstring.proofs.Scanning.{scan_skip}
use Rattle.pyfstring.proofs.Stepping.{literal_begins, literal_long, literal_short, scan_fails, scan_stops, scan_compares, scan_opens}
use Rattle.pyfstring.proofs.Stepping.{scan_closes, scan_passes, step_is}
use Rattle.pyfstring.proofs.ReturnTexts.{plain_one, lined_rest, begins_same}

-- ---- Steps.

feed_step : (bs : List Bracket) (cs : List ℕ) → step bs (10 ∷ cs) ≡ Passes
unfolding step
feed_step bs cs = elim (is_empty bs) as (λ e. (if e && false then Compares else (if e && false then Ends else Passes)) ≡ Passes)
    [ true ↦ refl | false ↦ refl ]

return_step : (bs : List Bracket) (cs : List ℕ) → step bs (13 ∷ cs) ≡ Passes
unfolding step
return_step bs cs = elim (is_empty bs) as (λ e. (if e && false then Compares else (if e && false then Ends else Passes)) ≡ Passes)
    [ true ↦ refl | false ↦ refl ]

step_by : List Bracket → ℕ → Bool → Step
step_by bs c b =
    if is_quote c then Literal
    else (if is_refused c then Fails
    else (if is_empty bs && b then Compares
    else (if is_empty bs && is_end c then Ends
    else bracket_step bs (opened_by c) (closed_by c))))

step_same : (bs : List Bracket) (a : ℕ) (cs : List ℕ) → IsLined cs → step bs (a ∷ without_returns cs) ≡ step bs (a ∷ cs)
unfolding step_by
step_same bs a cs i =
    let same : begins_comparison (a ∷ without_returns cs) ≡ begins_comparison (a ∷ cs) =
    ap (λ (b : Bool). ((a == 33) || (a == 61) || (a == 60) || (a == 62)) && b) (begins_same (λ d. d == equals_sign) refl i) in
    step_is bs (a ∷ without_returns cs) a refl ∙ ap (step_by bs a) same ∙ sym (step_is bs (a ∷ cs) a refl)

-- ---- Quotes.

-- neither CR nor LF, and it is told from them
record IsNoEnd (q : ℕ) : Type 0 where
  pub no_return : (13 == q) ≡ false
  pub no_feed : (10 == q) ≡ false
  pub itself : (q == 13) ≡ false

quote_no_end : (q : ℕ) → is_quote q ≡ true → IsNoEnd q
quote_no_end q e = at (or_cases (q == 39) (q == 34) e)
  where
    at : ((q == 39) ≡ true) ⊎ ((q == 34) ≡ true) → IsNoEnd q
    at (inl x) = let y : q ≡ 39 = eqb-true q 39 x in subst IsNoEnd (sym y) (record { no_return = refl; no_feed = refl; itself = refl })
    at (inr x) = let y : q ≡ 34 = eqb-true q 34 x in subst IsNoEnd (sym y) (record { no_return = refl; no_feed = refl; itself = refl })

module _ (q : ℕ) (n : IsNoEnd q) where
  same_next : {cs : List ℕ} → IsLined cs → begins_with q (without_returns cs) ≡ begins_with q cs
  same_next i = begins_same (λ d. d == q) (n.no_return ∙ sym n.no_feed) i

  no_end : (a : ℕ) → (a == q) ≡ true → (a == 13) ≡ false
  no_end a e = let y : a ≡ q = eqb-true a q e in subst (λ (x : ℕ). (x == 13) ≡ false) (sym y) n.itself

  and_off : (b d : Bool) → ((b && false) && d) ≡ false
  and_off true d = refl
  and_off false d = refl

  same_three_after : (a : ℕ) (cs : List ℕ) → IsLined cs → begins_three q (a ∷ without_returns cs) ≡ begins_three q (a ∷ cs)
  same_three_after a [] i = refl
  same_three_after a (d ∷ cs) i = at (cases_Bool (d == q))
    where
      at : ((d == q) ≡ true) ⊎ ((d == q) ≡ false) → begins_three q (a ∷ without_returns (d ∷ cs)) ≡ begins_three q (a ∷ d ∷ cs)
      at (inl e) =
          let g = no_end d e in
          ap (λ (x : List ℕ). begins_three q (a ∷ x)) (plain_one d cs g)
          ∙ ap (λ (b : Bool). (a == q) && (d == q) && b) (same_next (lined_rest g i))
      at (inr e) =
          let f : begins_with q (without_returns (d ∷ cs)) ≡ false = same_next i ∙ e in
          ap (λ (b : Bool). (a == q) && b && begins_with q (drop 1 (without_returns (d ∷ cs)))) f
          ∙ and_off (a == q) (begins_with q (drop 1 (without_returns (d ∷ cs))))
          ∙ sym (ap (λ (b : Bool). (a == q) && b && begins_with q cs) e ∙ and_off (a == q) (begins_with q cs))

  -- after three quotes
  record Dropped (a : ℕ) (cs : List ℕ) : Type 0 where
    pub same : drop 2 (without_returns cs) ≡ without_returns (drop 2 cs)
    pub lined : IsLined (drop 2 cs)

  drop_three : (a : ℕ) (cs : List ℕ) → IsLined cs → begins_three q (a ∷ cs) ≡ true → Dropped a cs
  drop_three a [] i e = absurd (let p = and_parts ((a == q) && false) false e in let z : false ≡ true = p.1 in cc)
  drop_three a (b ∷ []) i e = absurd (let p = and_parts ((a == q) && (b == q)) false e in let z : false ≡ true = p.1 in cc)
  drop_three a (b ∷ c ∷ cs) i e =
      let p = and_parts ((a == q) && (b == q)) (c == q) e in
      let o = and_parts (a == q) (b == q) p.0 in
      let g = no_end b o.1 in
      let h = no_end c p.1 in
      let j : IsLined (c ∷ cs) = lined_rest g i in
      record { same = ap (drop 2) (plain_one b (c ∷ cs) g ∙ ap (λ (x : List ℕ). b ∷ x) (plain_one c cs h)); lined = lined_rest h j }

-- ---- A scan.

abbrev Quoted : Inside → Type 0
Quoted expression = Unit {0}
Quoted (shortstring q) = is_quote q ≡ true
Quoted (longstring q) = is_quote q ≡ true

-- the claim, of texts of less than k characters
Below : ℕ → Type 0
Below k = (i : Inside) → Quoted i → (bs : List Bracket) (cs : List ℕ) → length cs < k → IsLined cs
    → scan i bs 0 (without_returns cs) ≡ option_map without_returns (scan i bs 0 cs)

-- a CR and an LF are passed anywhere
feed_goes : (i : Inside) → Quoted i → (bs : List Bracket) (cs : List ℕ) → scan i bs 0 (10 ∷ cs) ≡ scan i bs 0 cs
feed_goes expression o bs cs = scan_passes bs (10 ∷ cs) (feed_step bs cs)
feed_goes (shortstring q) o bs cs = let z = (quote_no_end q o).no_feed in rw (z, scan) refl
feed_goes (longstring q) o bs cs = let z = (quote_no_end q o).no_feed in let y : begins_three q (10 ∷ cs) ≡ false =
    rw z refl in rw (y, scan) refl

return_goes : (i : Inside) → Quoted i → (bs : List Bracket) (cs : List ℕ) → scan i bs 0 (13 ∷ cs) ≡ scan i bs 0 cs
return_goes expression o bs cs = scan_passes bs (13 ∷ cs) (return_step bs cs)
return_goes (shortstring q) o bs cs = let z = (quote_no_end q o).no_return in rw (z, scan) refl
return_goes (longstring q) o bs cs = let z = (quote_no_end q o).no_return in let y : begins_three q (13 ∷ cs) ≡ false =
    rw z refl in rw (y, scan) refl

-- after one more character, which may be a CR or an LF
after_one : (k : ℕ) → Below k → (bs : List Bracket) (cs : List ℕ) → length cs < suc k → IsLined cs
    → scan expression bs 0 (drop 1 (without_returns cs)) ≡ option_map without_returns (scan expression bs 0 (drop 1 cs))
unfolding Below
after_one k ih bs [] l nothing = refl
after_one k ih bs (c ∷ cs) l (character e i) = ap (λ (x : List ℕ). scan expression bs 0 (drop 1 x)) (plain_one c cs e)
    ∙ ih expression tt bs cs (omega arith) i
after_one k ih bs (_ ∷ _ ∷ cs) l (line_end i) = ih expression tt bs cs (omega arith) i
    ∙ ap (option_map without_returns) (sym (feed_goes expression tt bs cs))

-- at a character that is no CR
at_expression : (k : ℕ) → Below k → (bs : List Bracket) (a : ℕ) (cs : List ℕ) → (a == carriage_return) ≡ false → length cs < k → IsLined cs
    → (s : Step) → step bs (a ∷ cs) ≡ s → scan expression bs 0 (a ∷ without_returns cs) ≡ option_map without_returns
    (scan expression bs 0 (a ∷ cs))
unfolding Below
at_expression k ih bs a cs n l i Ends e =
    scan_stops bs (a ∷ without_returns cs) (step_same bs a cs i ∙ e) ∙ ap (λ (x : List ℕ). Some x) (sym (plain_one a cs n))
    ∙ sym (ap (option_map without_returns) (scan_stops bs (a ∷ cs) e))
at_expression k ih bs a cs n l i Fails e = scan_fails bs (a ∷ without_returns cs) (step_same bs a cs i ∙ e)
    ∙ sym (ap (option_map without_returns) (scan_fails bs (a ∷ cs) e))
at_expression k ih bs a cs n l i Literal e = by_three (cases_Bool (begins_three a (a ∷ cs)))
  where
    by_three : (begins_three a (a ∷ cs) ≡ true) ⊎ (begins_three a (a ∷ cs) ≡ false) → scan expression bs 0 (a ∷ without_returns cs) ≡
        option_map without_returns (scan expression bs 0 (a ∷ cs))
    by_three (inl t) =
        let w = quote_no_end a (literal_begins bs (a ∷ cs) e) in
        let d = drop_three a w a cs i t in
        literal_long (a ∷ without_returns cs) a refl (literal_begins bs (a ∷ cs) e) (same_three_after a w a cs i ∙ t) bs
        ∙ ap (scan (longstring a) bs 0) d.same
        ∙ ih (longstring a) (literal_begins bs (a ∷ cs) e) bs (drop 2 cs) (omega (arith, length-drop 2 cs)) d.lined
        ∙ sym (ap (option_map without_returns) (literal_long (a ∷ cs) a refl (literal_begins bs (a ∷ cs) e) t bs))
    by_three (inr t) =
        let w = quote_no_end a (literal_begins bs (a ∷ cs) e) in
        literal_short (a ∷ without_returns cs) a refl (literal_begins bs (a ∷ cs) e) (same_three_after a w a cs i ∙ t) bs
        ∙ ih (shortstring a) (literal_begins bs (a ∷ cs) e) bs cs l i
        ∙ sym (ap (option_map without_returns) (literal_short (a ∷ cs) a refl (literal_begins bs (a ∷ cs) e) t bs))
at_expression k ih bs a cs n l i Compares e =
    scan_compares bs (a ∷ without_returns cs) (step_same bs a cs i ∙ e) ∙ after_one k ih bs cs (omega arith) i
    ∙ sym (ap (option_map without_returns) (scan_compares bs (a ∷ cs) e))
at_expression k ih bs a cs n l i (Opens b) e =
    scan_opens bs b (a ∷ without_returns cs) (step_same bs a cs i ∙ e) ∙ ih expression tt (bs ++ b ∷ []) cs l i
    ∙ sym (ap (option_map without_returns) (scan_opens bs b (a ∷ cs) e))
at_expression k ih bs a cs n l i Closes e =
    scan_closes bs (a ∷ without_returns cs) (step_same bs a cs i ∙ e) ∙ ih expression tt (take (length bs - 1) bs) cs l i
    ∙ sym (ap (option_map without_returns) (scan_closes bs (a ∷ cs) e))
at_expression k ih bs a cs n l i Passes e =
    scan_passes bs (a ∷ without_returns cs) (step_same bs a cs i ∙ e) ∙ ih expression tt bs cs l i
    ∙ sym (ap (option_map without_returns) (scan_passes bs (a ∷ cs) e))

-- in a literal, by the tests of a character
short_by : Bool → Bool → Option (List ℕ) → Option (List ℕ) → Option (List ℕ)
short_by s t o p = elim s [ true ↦ None | false ↦ elim t [ true ↦ o | false ↦ p ] ]

map_short : (s t : Bool) (o p o' p' : Option (List ℕ)) → o' ≡ option_map without_returns o → p' ≡ option_map without_returns p
    → short_by s t o' p' ≡ option_map without_returns (short_by s t o p)
unfolding short_by
map_short true t o p o' p' e f = refl
map_short false true o p o' p' e f = e
map_short false false o p o' p' e f = f

unclosed : (s : Bool) (o p : Option (List ℕ)) → short_by s false o p ≡ short_by s false None p
unfolding short_by
unclosed true o p = refl
unclosed false o p = refl

at_short : (k : ℕ) → Below k → (q : ℕ) → is_quote q ≡ true → (bs : List Bracket) (a : ℕ) (cs : List ℕ) → length cs < k → IsLined cs
    → scan (shortstring q) bs 0 (a ∷ without_returns cs) ≡ option_map without_returns (scan (shortstring q) bs 0 (a ∷ cs))
unfolding Below short_by
at_short k ih q o bs a cs l i = map_short (a == backslash) (a == q) _ _ _ _ (ih expression tt bs cs l i) (ih (shortstring q) o bs cs l i)

at_long : (k : ℕ) → Below k → (q : ℕ) → is_quote q ≡ true → (bs : List Bracket) (a : ℕ) (cs : List ℕ) → length cs < k → IsLined cs
    → scan (longstring q) bs 0 (a ∷ without_returns cs) ≡ option_map without_returns (scan (longstring q) bs 0 (a ∷ cs))
unfolding Below short_by
at_long k ih q o bs a cs l i = by_three (cases_Bool (begins_three q (a ∷ cs)))
  where
    by_three : (begins_three q (a ∷ cs) ≡ true) ⊎ (begins_three q (a ∷ cs) ≡ false) → scan (longstring q) bs 0 (a ∷ without_returns cs) ≡
        option_map without_returns (scan (longstring q) bs 0 (a ∷ cs))
    by_three (inl t) =
        let w = quote_no_end q o in
        let d = drop_three q w a cs i t in
        let closed : scan expression bs 2 (without_returns cs) ≡ option_map without_returns (scan expression bs 2 cs) =
        scan_skip expression bs 2 (without_returns cs) ∙ ap (scan expression bs 0) d.same
        ∙ ih expression tt bs (drop 2 cs) (omega (arith, length-drop 2 cs)) d.lined
        ∙ sym (ap (option_map without_returns) (scan_skip expression bs 2 cs)) in
        ap (λ (b : Bool). short_by (a == backslash) b (scan expression bs 2 (without_returns cs))
        (scan (longstring q) bs 0 (without_returns cs))) (same_three_after q w a cs i)
        ∙ map_short (a == backslash) (begins_three q (a ∷ cs)) (scan expression bs 2 cs) (scan (longstring q) bs 0 cs)
        (scan expression bs 2 (without_returns cs)) (scan (longstring q) bs 0 (without_returns cs)) closed
        (ih (longstring q) o bs cs l i)
    by_three (inr t) =
        let w = quote_no_end q o in
        let here : scan (longstring q) bs 0 (a ∷ cs) ≡ short_by (a == backslash) false None (scan (longstring q) bs 0 cs) =
        ap (λ (b : Bool). short_by (a == backslash) b (scan expression bs 2 cs) (scan (longstring q) bs 0 cs)) t
        ∙ unclosed (a == backslash) (scan expression bs 2 cs) (scan (longstring q) bs 0 cs) in
        ap (λ (b : Bool). short_by (a == backslash) b (scan expression bs 2 (without_returns cs))
        (scan (longstring q) bs 0 (without_returns cs))) (same_three_after q w a cs i ∙ t)
        ∙ unclosed (a == backslash) (scan expression bs 2 (without_returns cs)) (scan (longstring q) bs 0 (without_returns cs))
        ∙ map_short (a == backslash) false None (scan (longstring q) bs 0 cs) None (scan (longstring q) bs 0 (without_returns cs)) refl
        (ih (longstring q) o bs cs l i)
        ∙ sym (ap (option_map without_returns) here)

below_all : (k : ℕ) → Below k
unfolding Below
below_all zero i o bs cs l j = absurd (omega arith)
below_all (suc k) i o bs [] l nothing = refl
below_all (suc k) i o bs (_ ∷ _ ∷ cs) l (line_end j) =
    feed_goes i o bs (without_returns cs) ∙ below_all k i o bs cs (omega arith) j
    ∙ ap (option_map without_returns) (sym (return_goes i o bs (10 ∷ cs) ∙ feed_goes i o bs cs))
below_all (suc k) expression o bs (a ∷ cs) l (character e j) = ap (scan expression bs 0) (plain_one a cs e)
    ∙ at_expression k (below_all k) bs a cs e (omega arith) j (step bs (a ∷ cs)) refl
below_all (suc k) (shortstring q) o bs (a ∷ cs) l (character e j) = ap (scan (shortstring q) bs 0) (plain_one a cs e)
    ∙ at_short k (below_all k) q o bs a cs (omega arith) j
below_all (suc k) (longstring q) o bs (a ∷ cs) l (character e j) = ap (scan (longstring q) bs 0) (plain_one a cs e)
    ∙ at_long k (below_all k) q o bs a cs (omega arith) j

pub expression_same : (cs : List ℕ) → IsLined cs → following_expression (without_returns cs) ≡ option_map
    without_returns (following_expression cs)
unfolding Below following_expression
expression_same cs j = below_all (suc (length cs)) expression tt [] cs (omega arith) j
