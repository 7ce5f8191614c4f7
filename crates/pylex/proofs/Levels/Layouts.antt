-- The layout of a line by its width and the open levels, which ascend.
--
-- Carries: level-push, layout_dedents, layout_mismatch, layout_indent and 11 more, for Tops,
-- Finding, Looking, Moving and 4 more.
use Rattle.std.proofs.Common.{◌≡◌, ℕ, suc, ◌+◌, ◌<◌, true, false, ◌&&◌, ◌||◌, ◌==◌, List, [], ◌∷◌, ◌++◌, refl, ap, ◌∙◌, arith, cond, None}
use Rattle.std.proofs.Common.{filter, ⊎_elim}
use Rattle.std.specs.Prelude.{nat_lt, count_by}
use Rattle.std.proofs.lemmas.Bool.Decides.{nat_tests}
use Rattle.std.proofs.lemmas.Grind.{common_steps}
use Rattle.std.proofs.lemmas.List.{append-nil}
use Rattle.std.proofs.lemmas.List.Elements.{filter-append}
use Rattle.pylex_listing.specs.declared.entries.ListingError.TheVariants as errors
use Rattle.pylex_listing.specs.declared.kind.Kind.TheVariants as kinds
use Rattle.pylex_listing.specs.Steps.{fault_at}
use Rattle.pylex_listing.specs.Machine.{State, layout_of, pushed, step_of, mark_at, dedents_at}
use Rattle.std.proofs.Math.Bool.{and-false}
use Rattle.std.proofs.lemmas.Bool.{cases_Bool, and_parts}
use Rattle.pysource.specs.declared.places.Place.{Place}
use Rattle.pylex.specs.LineState.{IsAscending, is_above, is_level}

-- one more at the end
pub above-push : (w v : ℕ) (ls : List ℕ) → is_above w (ls ++ v ∷ []) ≡ (is_above w ls && nat_lt v w)
above-push w v ls = grind (arith, common_steps)

pub level-push : (w v : ℕ) (ls : List ℕ) → is_level w (ls ++ v ∷ []) ≡ (is_level w ls || (v == w))
level-push w v ls = grind (arith, common_steps)

pub count-push : (w v : ℕ) (ls : List ℕ) → count_by (nat_lt w) (ls ++ v ∷ []) ≡ count_by (nat_lt w) ls + cond (nat_lt w v) 1 0
count-push w v ls = grind (arith, common_steps)

-- what all are below keeps all
pub filter_all : (w : ℕ) (ls : List ℕ) → is_above w ls ≡ true → filter (λ v. nat_lt v w) ls ≡ ls
filter_all w [] h = refl
filter_all w (v ∷ ls) h =
    let p = and_parts (nat_lt v w) (is_above w ls) h in
    let first = p.0 in
    let rest = filter_all w ls p.1 in
    rw (first, rest) refl

-- all are below the last
pub ascending_above : (n t : ℕ) (ms : List ℕ) → IsAscending n (ms ++ t ∷ []) → is_above t (n ∷ ms) ≡ true
ascending_above n t [] h = let less : nat_lt n t ≡ true = grind (arith, nat_tests, h.0) in rw less refl
ascending_above n t (m ∷ ms) h =
    let rest = ascending_above m t ms h.1 in
    let parts = and_parts (nat_lt m t) (is_above t ms) rest in
    let last = above_one m t ms rest in
    let less : nat_lt n t ≡ true = grind (arith, nat_tests, h.0, last) in
    rw (less, rest) refl
  where
    above_one : (m t : ℕ) (ms : List ℕ) → is_above t (m ∷ ms) ≡ true → m < t
    above_one m t ms e = let first = (and_parts (nat_lt m t) (is_above t ms) e).0 in grind (arith, nat_tests)

pub ascending-push : (n t : ℕ) (ms : List ℕ) → IsAscending n ms → is_above t (n ∷ ms) ≡ true → IsAscending n (ms ++ t ∷ [])
ascending-push n t [] h a = let first = (and_parts (nat_lt n t) true a).0 in let less : n < t = grind (arith, nat_tests) in (less, tt)
ascending-push n t (m ∷ ms) h a = (h.0, ascending-push m t ms h.1 (and_parts (nat_lt n t) (is_above t (m ∷ ms)) a).1)

pub ascending-front : (n : ℕ) (ms rest : List ℕ) → IsAscending n (ms ++ rest) → IsAscending n ms
ascending-front n [] rest h = tt
ascending-front n (m ∷ ms) rest h = (h.0, ascending-front m ms rest h.1)

-- above an open level there is none that is above itself
pub level_not_above : (w : ℕ) (ls : List ℕ) → is_level w ls ≡ true → is_above w ls ≡ false
level_not_above w [] h = cc
level_not_above w (v ∷ ls) h = ⊎_elim
    (λ (e : (v == w) ≡ true). let not_less : nat_lt v w ≡ false = grind (arith, nat_tests) in rw not_less refl)
    (λ (e : (v == w) ≡ false). let rest = level_not_above w ls (rw e at h) in rw rest (and-false (nat_lt v w)))
    (cases_Bool (v == w))

-- a width above all opens a level
pub pushed_above : (w : ℕ) (ls : List ℕ) → is_above w ls ≡ true → pushed w ls ≡ ls ++ w ∷ []
pushed_above w ls h = ap (λ vs. vs ++ w ∷ []) (filter_all w ls h)

-- the last level stays as it is
pub pushed_last : (w : ℕ) (ls : List ℕ) → is_above w ls ≡ true → pushed w (ls ++ w ∷ []) ≡ ls ++ w ∷ []
pushed_last w ls h =
    let not_less : nat_lt w w ≡ false = grind (arith, nat_tests) in
    let last : filter (λ v. nat_lt v w) (w ∷ []) ≡ [] = rw not_less refl in
    let parts = filter-append (λ v. nat_lt v w) ls (w ∷ []) in
    let all = filter_all w ls h in
    ap (λ vs. vs ++ w ∷ []) (parts ∙ ap (λ vs. filter (λ v. nat_lt v w) ls ++ vs) last ∙ append-nil (filter (λ v. nat_lt v w) ls) ∙ all)

-- a level above a width goes
pub pushed_less : (w v : ℕ) (ls : List ℕ) → w < v → pushed w (ls ++ v ∷ []) ≡ pushed w ls
pushed_less w v ls h =
    let not_less : nat_lt v w ≡ false = grind (arith, nat_tests) in
    let last : filter (λ u. nat_lt u w) (v ∷ []) ≡ [] = rw not_less refl in
    let parts = filter-append (λ u. nat_lt u w) ls (v ∷ []) in
    ap (λ vs. vs ++ w ∷ []) (parts ∙ ap (λ vs. filter (λ u. nat_lt u w) ls ++ vs) last ∙ append-nil (filter (λ u. nat_lt u w) ls))

-- no level is above a width that is above all but the last, and that
pub count_none : (w : ℕ) (ls : List ℕ) → is_above w ls ≡ true → count_by (nat_lt w) ls ≡ 0
count_none w [] h = refl
count_none w (v ∷ ls) h =
    let p = and_parts (nat_lt v w) (is_above w ls) h in
    let first = p.0 in
    let not_less : nat_lt w v ≡ false = grind (arith, nat_tests) in
    let rest = count_none w ls p.1 in
    grind (arith, common_steps)

-- The layout of a state at the margin.
pub layout_indent : (s : State) → s.margin ≡ true → is_above s.width s.levels ≡ true
    → layout_of s ≡ step_of kinds.Indent None s.line s.now ∷ []
unfolding layout_of
layout_indent s m a = rw (m, a) refl

pub layout_dedents : (s : State) → s.margin ≡ true → is_above s.width s.levels ≡ false → is_level s.width s.levels ≡ true
    → layout_of s ≡ dedents_at s.width s.levels s.now.offset s.now.place
unfolding layout_of
layout_dedents s m a l = rw (m, a, l) refl

pub layout_mismatch : (s : State) → s.margin ≡ true → is_above s.width s.levels ≡ false → is_level s.width s.levels ≡ false
    → layout_of s ≡ fault_at errors.UnindentMismatch s.now.place ∷ []
unfolding layout_of
layout_mismatch s m a l = rw (m, a, l) refl

-- a DEDENT for the last level, where the width is that of one before it
pub dedents-push : (w v : ℕ) (ls : List ℕ) (o : ℕ) (p : Place) → w < v → dedents_at w (ls ++ v ∷ []) o p ≡ mark_at kinds.Dedent o
    p p ∷ dedents_at w ls o p
dedents-push w v ls o p h =
    let less : nat_lt w v ≡ true = grind (arith, nat_tests) in
    let count : count_by (nat_lt w) (ls ++ v ∷ []) ≡ suc (count_by (nat_lt w) ls) = count-push w v ls ∙ rw less (omega arith) in
    rw count refl
