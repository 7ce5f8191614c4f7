-- What one step of a loop leaves.
-- Carries: pass_closing, pass_blanks, are_blanks, pass_short, pass_long.
use Rattle.std.proofs.Common.{◌≡◌, ℕ, suc, ◌<◌, Bool, true, false, List, [], ◌∷◌, length, drop, refl, sym, ◌∙◌, ap, subst, Option, Some}
use Rattle.std.proofs.Common.{None, arith, slice_get, ◌-◌, ◌++◌, take, length-drop, ◌⊎◌, inl, inr}
use Rattle.std.specs.Prelude.{◌==◌, ◌&&◌, nat_lt, if◌then◌else◌}
use Rattle.std.specs.List.{prefix_len, list_all}
use Rattle.pyfstring.specs.declared.expressions.Bracket.{Bracket}
use Rattle.pyfstring.specs.declared.expressions.Step.{Step}
use Rattle.pyfstring.specs.declared.expressions.Step.TheVariants.{Ends, Fails, Literal, Compares, Opens, Closes, Passes}
use Rattle.pyfstring.specs.Characters.{backslash}
use Rattle.pyfstring.specs.Expressions.{Inside, expression, shortstring, longstring, step, scan, begins_three, is_quote, is_refused}
use Rattle.pyfstring.specs.Expressions.{is_empty, is_end, is_last, most_open, begins_comparison, bracket_step, opened_by, closed_by}
use Rattle.pyfstring.specs.Texts.{begins}
use Rattle.std.proofs.lemmas.Bool.{cond-true, cond-false, cases_Bool}
use Rattle.pyfstring.specs.Inner.Passing.{GoesOn, Stops}
use Rattle.pyfstring.proofs.Scanning.{scan_skip}

pub shorter : (cs : List ℕ) (c : ℕ) → slice_get cs 0 ≡ Some c → length (drop 1 cs) < length cs
shorter [] c e = cc
shorter (d ∷ cs) c e = omega arith

-- what is left after the longest front of characters that pass
abbrev pub after_run : (ℕ → Bool) → List ℕ → List ℕ
after_run p cs = drop (prefix_len p cs) cs

pub run_stops : (p : ℕ → Bool) (cs : List ℕ) (c : ℕ) → slice_get cs 0 ≡ Some c → p c ≡ false → after_run p cs ≡ cs
run_stops p [] c e h = cc
run_stops p (d ∷ cs) c e h = let f : d ≡ c = cc in let g : p d ≡ false = rw f h in rw g refl

pub run_ends : (p : ℕ → Bool) (cs : List ℕ) → slice_get cs 0 ≡ None → after_run p cs ≡ cs
run_ends p [] e = refl
run_ends p (d ∷ cs) e = cc

pub none_left : (cs : List ℕ) → slice_get cs 0 ≡ None → drop 1 cs ≡ cs
none_left [] e = refl
none_left (d ∷ cs) e = cc

-- ---- All characters pass.

pub all_stops : (p : ℕ → Bool) (cs : List ℕ) (c : ℕ) → slice_get cs 0 ≡ Some c → p c ≡ false → list_all p cs ≡ false
all_stops p [] c e h = cc
all_stops p (d ∷ cs) c e h = let f : d ≡ c = cc in let g : p d ≡ false = rw f h in rw g refl

pub all_ends : (p : ℕ → Bool) (cs : List ℕ) → slice_get cs 0 ≡ None → list_all p cs ≡ true
all_ends p [] e = refl
all_ends p (d ∷ cs) e = cc

-- ---- Literals.

pub in_literal_ends : (i : Inside) (cs : List ℕ) → slice_get cs 0 ≡ None → Stops i cs
in_literal_ends i [] e = record { none = λ bs. refl }
in_literal_ends i (d ∷ cs) e = cc

module _ (q : ℕ) where
  pub short_fails : (cs : List ℕ) (c : ℕ) → slice_get cs 0 ≡ Some c → (c == backslash) ≡ true → Stops (shortstring q) cs
  short_fails [] c e h = cc
  short_fails (d ∷ cs) c e h = let f : d ≡ c = cc in let g : (d == backslash) ≡ true = rw f h in record { none = λ bs. rw (g, scan) refl }

  pub short_closes : (cs : List ℕ) (c : ℕ) → slice_get cs 0 ≡ Some c → (c == backslash) ≡ false → (c == q) ≡ true
      → GoesOn (shortstring q) cs (drop 1 cs)
  short_closes [] c e h k = cc
  short_closes (d ∷ cs) c e h k = let f : d ≡ c = cc in let g : (d == backslash) ≡ false = rw f h in let j : (d == q) ≡ true = rw f k in
      record { same = λ bs. rw (g, j, scan) refl }

  pub short_goes : (cs : List ℕ) (c : ℕ) → slice_get cs 0 ≡ Some c → (c == backslash) ≡ false → (c == q) ≡ false → (bs : List Bracket)
      → scan (shortstring q) bs 0 cs ≡ scan (shortstring q) bs 0 (drop 1 cs)
  short_goes [] c e h k bs = cc
  short_goes (d ∷ cs) c e h k bs = let f : d ≡ c = cc in let g : (d == backslash) ≡ false = rw f h in let j : (d == q) ≡ false =
      rw f k in rw (g, j, scan) refl

  pub long_fails : (cs : List ℕ) (c : ℕ) → slice_get cs 0 ≡ Some c → (c == backslash) ≡ true → Stops (longstring q) cs
  long_fails [] c e h = cc
  long_fails (d ∷ cs) c e h = let f : d ≡ c = cc in let g : (d == backslash) ≡ true = rw f h in record { none = λ bs. rw (g, scan) refl }

pub stops_from : (i : Inside) (old new : List ℕ) → ((bs : List Bracket) → scan i bs 0 old ≡ scan i bs 0 new) → Stops i new → Stops i old
stops_from i old new same s = record { none = λ bs. same bs ∙ s.none bs }

-- ---- Steps outside literals.

pub step_end : (bs : List Bracket) (cs : List ℕ) → slice_get cs 0 ≡ None → step bs cs ≡ Fails
unfolding step
step_end bs [] e = refl
step_end bs (c ∷ cs) e = cc

-- a step at a character
abbrev pub step_at : List Bracket → List ℕ → ℕ → Step
step_at bs cs c =
    if is_quote c then Literal
    else (if is_refused c then Fails
    else (if is_empty bs && begins_comparison cs then Compares
    else (if is_empty bs && is_end c then Ends
    else bracket_step bs (opened_by c) (closed_by c))))

pub step_is : (bs : List Bracket) (cs : List ℕ) (c : ℕ) → slice_get cs 0 ≡ Some c → step bs cs ≡ step_at bs cs c
unfolding step
step_is bs [] c e = cc
step_is bs (d ∷ cs) c e = let f : d ≡ c = cc in subst (λ (x : ℕ). step bs (d ∷ cs) ≡ step_at bs (d ∷ cs) x) f refl

no_literal : (bs : List Bracket) (o k : Option Bracket) → bracket_step bs o k ≡ Literal → ⊥
no_literal bs (Some b) k e = of (nat_lt (length bs) most_open) e
  where
    of : (t : Bool) → (if t then Opens b else Fails) ≡ Literal → ⊥
    of true e = cc
    of false e = cc
no_literal bs None (Some b) e = of (is_last (slice_get bs (length bs - 1)) b) e
  where
    of : (t : Bool) → (if t then Closes else Fails) ≡ Literal → ⊥
    of true e = cc
    of false e = cc
no_literal bs None None e = cc

pub literal_begins : (bs : List Bracket) (cs : List ℕ) → step bs cs ≡ Literal → begins is_quote cs ≡ true
unfolding step
literal_begins bs [] e = cc
literal_begins bs (c ∷ cs) e = of (cases_Bool (is_quote c)) (cases_Bool (is_refused c))
    (cases_Bool (is_empty bs && begins_comparison (c ∷ cs))) (cases_Bool (is_empty bs && is_end c))
  where
    of : (is_quote c ≡ true) ⊎ (is_quote c ≡ false) → (is_refused c ≡ true) ⊎ (is_refused c ≡ false)
        → ((is_empty bs && begins_comparison (c ∷ cs)) ≡ true) ⊎ ((is_empty bs && begins_comparison (c ∷ cs)) ≡ false)
        → ((is_empty bs && is_end c) ≡ true) ⊎ ((is_empty bs && is_end c) ≡ false) → is_quote c ≡ true
    of (inl q) _ _ _ = q
    of (inr q) (inl r) _ _ = let z : Fails ≡ Literal = sym (cond-false _ _ _ q ∙ cond-true _ _ _ r) ∙ e in cc
    of (inr q) (inr r) (inl k) _ = let z : Compares ≡ Literal = sym (cond-false _ _ _ q ∙ cond-false _ _ _ r ∙ cond-true _ _ _ k) ∙ e in cc
    of (inr q) (inr r) (inr k) (inl n) = let z : Ends ≡ Literal = sym (cond-false _ _ _ q ∙ cond-false _ _ _ r ∙ cond-false _ _ _ k
        ∙ cond-true _ _ _ n) ∙ e in cc
    of (inr q) (inr r) (inr k) (inr n) =
        absurd (no_literal bs (opened_by c) (closed_by c) (sym (cond-false _ _ _ q ∙ cond-false _ _ _ r ∙ cond-false _ _ _ k
        ∙ cond-false _ _ _ n) ∙ e))

quote_step : (bs : List Bracket) (c : ℕ) (cs : List ℕ) → is_quote c ≡ true → step bs (c ∷ cs) ≡ Literal
unfolding step
quote_step bs c cs e = cond-true _ _ _ e

pub literal_long : (cs : List ℕ) (c : ℕ) → slice_get cs 0 ≡ Some c → begins is_quote cs ≡ true → begins_three c cs ≡ true
    → (bs : List Bracket) → scan expression bs 0 cs ≡ scan (longstring c) bs 0 (drop 3 cs)
literal_long [] c e q t bs = cc
literal_long (d ∷ cs) c e q t bs =
    let f : d ≡ c = cc in
    let g : begins_three d (d ∷ cs) ≡ true = ap (λ (x : ℕ). begins_three x (d ∷ cs)) f ∙ t in
    let s = quote_step bs d cs q in
    rw (s, g, scan) (scan_skip (longstring d) bs 2 cs ∙ ap (λ (x : ℕ). scan (longstring x) bs 0 (drop 2 cs)) f)

pub literal_short : (cs : List ℕ) (c : ℕ) → slice_get cs 0 ≡ Some c → begins is_quote cs ≡ true → begins_three c cs ≡ false
    → (bs : List Bracket) → scan expression bs 0 cs ≡ scan (shortstring c) bs 0 (drop 1 cs)
literal_short [] c e q t bs = cc
literal_short (d ∷ cs) c e q t bs =
    let f : d ≡ c = cc in
    let g : begins_three d (d ∷ cs) ≡ false = ap (λ (x : ℕ). begins_three x (d ∷ cs)) f ∙ t in
    let s = quote_step bs d cs q in
    rw (s, g, scan) (ap (λ (x : ℕ). scan (shortstring x) bs 0 cs) f)

module _ (bs : List Bracket) where
  pub scan_fails : (cs : List ℕ) → step bs cs ≡ Fails → scan expression bs 0 cs ≡ None
  scan_fails [] e = refl
  scan_fails (c ∷ cs) e = rw (e, scan) refl

  pub scan_stops : (cs : List ℕ) → step bs cs ≡ Ends → scan expression bs 0 cs ≡ Some cs
  unfolding step
  scan_stops [] e = cc
  scan_stops (c ∷ cs) e = at c cs e
    where
      at : (c : ℕ) (cs : List ℕ) → step bs (c ∷ cs) ≡ Ends → scan expression bs 0 (c ∷ cs) ≡ Some (c ∷ cs)
      at c cs e = rw (e, scan) refl

  pub scan_compares : (cs : List ℕ) → step bs cs ≡ Compares → scan expression bs 0 cs ≡ scan expression bs 0 (drop 2 cs)
  scan_compares [] e = refl
  scan_compares (c ∷ cs) e = rw (e, scan) (scan_skip expression bs 1 cs)

  pub scan_opens : (b : Bracket) (cs : List ℕ) → step bs cs ≡ Opens b
      → scan expression bs 0 cs ≡ scan expression (bs ++ b ∷ []) 0 (drop 1 cs)
  scan_opens b [] e = refl
  scan_opens b (c ∷ cs) e = rw (e, scan) refl

  pub scan_closes : (cs : List ℕ) → step bs cs ≡ Closes → scan expression bs 0 cs ≡ scan expression (take (length bs - 1) bs) 0 (drop 1 cs)
  scan_closes [] e = refl
  scan_closes (c ∷ cs) e = rw (e, scan) refl

  pub scan_passes : (cs : List ℕ) → step bs cs ≡ Passes → scan expression bs 0 cs ≡ scan expression bs 0 (drop 1 cs)
  scan_passes [] e = refl
  scan_passes (c ∷ cs) e = rw (e, scan) refl

  pub step_shorter : (n : ℕ) (cs : List ℕ) (s : Step) → step bs cs ≡ s → (s ≡ Fails → ⊥) → length (drop (suc n) cs) < length cs
  unfolding step
  step_shorter n [] s e k = absurd (k (sym e))
  step_shorter n (c ∷ cs) s e k = omega (arith, length-drop n cs)
