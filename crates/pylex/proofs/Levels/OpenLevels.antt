-- The open levels begin with 0, and ascend.
--
-- Carries: Grounded, grounded, above_ground, for CursorBounds, Cursoring, Skips. On: Layouts, Tops.
use Rattle.std.proofs.Common.{◌≡◌, ℕ, zero, suc, ◌+◌, ◌<◌, Bool, true, false, List, [], ◌∷◌, ◌++◌, refl, ap, ◌∙◌, sym, arith, filter, sum}
use Rattle.std.proofs.Common.{⊎_elim}
use Rattle.std.specs.Prelude.{nat_lt}
use Rattle.std.proofs.lemmas.Bool.Decides.{nat_tests}
use Rattle.std.proofs.lemmas.List.{append-nil}
use Rattle.std.proofs.lemmas.List.Elements.{filter-append}
use Rattle.std.proofs.lemmas.Bool.{cases_Bool, and_parts}
use Rattle.pylex_listing.specs.Indentation.{below, is_open, open_levels}
use Rattle.pylex.specs.LineState.{IsAscending, is_above}
use Rattle.pylex.proofs.Levels.Layouts.{above-push, ascending-push}
use Rattle.pylex.proofs.Levels.Tops.{above_more}

-- levels that begin with 0 and ascend
pub record Grounded (levels : List ℕ) : Type 0 where
  pub above : List ℕ
  pub is : levels ≡ 0 ∷ above
  pub ascending : IsAscending 0 above

record Kept (p : ℕ → Bool) (n : ℕ) : Type 0 where
  above : List ℕ
  is : filter p (below (suc n)) ≡ 0 ∷ above
  ascending : IsAscending 0 above
  within : is_above (suc n) (0 ∷ above) ≡ true

kept_first : (p : ℕ → Bool) → p 0 ≡ true → Kept p 0
kept_first p h = record { above = []; is = rw h refl; ascending = tt; within = refl }

one_more : (p : ℕ → Bool) (n : ℕ) → Kept p n → Kept p (suc n)
one_more p n k =
    let split : filter p (below (suc (suc n))) ≡ filter p (below (suc n)) ++ filter p (suc n ∷ []) =
    filter-append p (below (suc n)) (suc n ∷ []) in
    let more : is_above (suc (suc n)) (0 ∷ k.above) ≡ true = above_more (suc n) (suc (suc n)) (0 ∷ k.above) (omega arith) k.within in
    ⊎_elim
    (λ (e : p (suc n) ≡ true).
    let last : filter p (suc n ∷ []) ≡ suc n ∷ [] = rw e refl in
    let less : nat_lt (suc n) (suc (suc n)) ≡ true = grind (arith, nat_tests) in
    let all : is_above (suc (suc n)) ((0 ∷ k.above) ++ suc n ∷ []) ≡ true = above-push (suc (suc n)) (suc n) (0 ∷ k.above)
    ∙ rw (more, less) refl in
    record {
      above = k.above ++ suc n ∷ [];
      is = split ∙ ap (λ t. t ++ filter p (suc n ∷ [])) k.is ∙ ap (λ t. (0 ∷ k.above) ++ t) last;
      ascending = ascending-push 0 (suc n) k.above k.ascending k.within;
      within = all;
    })
    (λ (e : p (suc n) ≡ false).
    let last : filter p (suc n ∷ []) ≡ [] = rw e refl in
    record {
      above = k.above;
      is = split ∙ ap (λ t. t ++ filter p (suc n ∷ [])) k.is ∙ ap (λ t. (0 ∷ k.above) ++ t) last ∙ append-nil (0 ∷ k.above);
      ascending = k.ascending;
      within = more;
    })
    (cases_Bool (p (suc n)))

kept : (p : ℕ → Bool) (n : ℕ) → p 0 ≡ true → Kept p n
kept p zero h = kept_first p h
kept p (suc n) h = one_more p n (kept p n h)

pub grounded : (ws : List ℕ) → Grounded (open_levels ws)
unfolding open_levels
grounded ws =
    let k = kept (is_open ws) (sum ws) refl in
    let o : 1 + sum ws ≡ suc (sum ws) = omega arith in
    record { above = k.above; is = ap (λ n. filter (is_open ws) (below n)) o ∙ k.is; ascending = k.ascending }

-- a width above all levels is above 0
pub above_ground : (w : ℕ) (levels : List ℕ) → Grounded levels → is_above w levels ≡ true → 0 < w
above_ground w levels g a =
    let h : is_above w (0 ∷ g.above) ≡ true = sym (ap (is_above w) g.is) ∙ a in
    let p = (and_parts (nat_lt 0 w) (is_above w g.above) h).0 in
    grind (arith, nat_tests)
