-- The layout of a line by the last open level.
--
-- Carries: indentation_for. On: Layouts.
use Rattle.std.proofs.Common.{◌≡◌, ℕ, ◌<◌, ◌≤◌, Bool, true, false, ◌&&◌, ◌||◌, ◌==◌, List, [], ◌∷◌, ◌++◌, length, refl, ap, ◌∙◌, sym, subst}
use Rattle.std.proofs.Common.{arith, length-append}
use Rattle.std.specs.Prelude.{nat_lt}
use Rattle.std.proofs.lemmas.Bool.Decides.{nat_tests}
use Rattle.std.proofs.lemmas.Bool.{and_parts}
use Rattle.pylex.specs.declared.peeked.Indentation.TheVariants as indentations
use Rattle.pylex.specs.LineState.{IsAscending, IsTop, IsIndentation, is_above, is_level}
use Rattle.pylex.proofs.Levels.Layouts.{above-push, level-push, count-push, ascending_above, pushed_last, count_none}

-- a list is empty, or has a last member
pub data Snoc (ls : List ℕ) : Type 0 where
  empty : ls ≡ [] → Snoc ls
  last : (front : List ℕ) (v : ℕ) → ls ≡ front ++ v ∷ [] → Snoc ls

pub snoc : (ls : List ℕ) → Snoc ls
snoc [] = empty refl
snoc (a ∷ ls) = onto a ls (snoc ls)
  where
    onto : (a : ℕ) (ls : List ℕ) → Snoc ls → Snoc (a ∷ ls)
    onto a ls (empty e) = last [] a (ap (λ xs. a ∷ xs) e)
    onto a ls (last front v e) = last (a ∷ front) v (ap (λ xs. a ∷ xs) e)

-- all below a number are below a larger one
pub above_more : (v w : ℕ) (ls : List ℕ) → v ≤ w → is_above v ls ≡ true → is_above w ls ≡ true
above_more v w [] h a = refl
above_more v w (u ∷ ls) h a =
    let p = and_parts (nat_lt u v) (is_above v ls) a in
    let first = p.0 in
    let less : nat_lt u w ≡ true = grind (arith, nat_tests) in
    let rest = above_more v w ls h p.1 in
    rw (less, rest) refl

-- below the last member there is another that is not less
last_above : (w v : ℕ) (ls : List ℕ) → w ≤ v → is_above w (ls ++ v ∷ []) ≡ false
last_above w v ls h =
    let less : nat_lt v w ≡ false = grind (arith, nat_tests) in
    above-push w v ls ∙ rw less (no_and (is_above w ls))
  where
    no_and : (b : Bool) → (b && false) ≡ false
    no_and true = refl
    no_and false = refl

indent_by : (w t : ℕ) (ls : List ℕ) → Snoc ls → IsAscending 0 ls → IsTop ls t → t < w → is_above w (0 ∷ ls) ≡ true
indent_by w t ls (empty e) a top h =
    let z : t ≡ 0 = top.none (ap length e) in
    let less : nat_lt 0 w ≡ true = grind (arith, nat_tests) in
    rw (e, less) refl
indent_by w t ls (last front v e) a top h =
    let same : v ≡ t = top.last front v e in
    let below : is_above v (0 ∷ front) ≡ true = ascending_above 0 v front (subst (IsAscending 0) e a) in
    let more : is_above w (0 ∷ front) ≡ true = above_more v w (0 ∷ front) (omega arith) below in
    let less : nat_lt v w ≡ true = grind (arith, nat_tests) in
    ap (λ xs. is_above w (0 ∷ xs)) e ∙ above-push w v (0 ∷ front) ∙ rw (more, less) refl

pub top_indent : (w t : ℕ) (ls : List ℕ) → IsAscending 0 ls → IsTop ls t → t < w → IsIndentation w ls indentations.Indent
top_indent w t ls a top h = indent_by w t ls (snoc ls) a top h

or_true : (b : Bool) → (b || true) ≡ true
or_true true = refl
or_true false = refl

level_last : (v : ℕ) (front : List ℕ) → is_above v (0 ∷ front) ≡ true → IsIndentation v (front ++ v ∷ []) indentations.Level
level_last v front below =
    let counted = count_none v (0 ∷ front) below in
    let not_less : nat_lt v v ≡ false = grind (arith, nat_tests) in
    let equal : (v == v) ≡ true = grind (arith, nat_tests) in (
      last_above v v (0 ∷ front) (omega arith),
      level-push v v (0 ∷ front) ∙ rw equal (or_true (is_level v (0 ∷ front))),
      count-push v v (0 ∷ front) ∙ rw (not_less, counted) refl,
      pushed_last v (0 ∷ front) below,
    )

level_by : (w t : ℕ) (ls : List ℕ) → Snoc ls → IsAscending 0 ls → IsTop ls t → w ≡ t → IsIndentation w ls indentations.Level
level_by w t ls (empty e) a top h =
    let z : w ≡ 0 = h ∙ top.none (ap length e) in
    rw (z, e) (refl, refl, refl, refl)
level_by w t ls (last front v e) a top h =
    let same : w ≡ v = h ∙ sym (top.last front v e) in
    let below : is_above v (0 ∷ front) ≡ true = ascending_above 0 v front (subst (IsAscending 0) e a) in
    subst (λ (xs : List ℕ). IsIndentation w xs indentations.Level) (sym e)
    (subst (λ (u : ℕ). IsIndentation u (front ++ v ∷ []) indentations.Level) (sym same) (level_last v front below))

pub top_level : (w t : ℕ) (ls : List ℕ) → IsAscending 0 ls → IsTop ls t → w ≡ t → IsIndentation w ls indentations.Level
top_level w t ls a top h = level_by w t ls (snoc ls) a top h

some_by : (w t : ℕ) (ls : List ℕ) → Snoc ls → IsTop ls t → w < t → 0 < length ls
some_by w t ls (empty e) top h = let z : t ≡ 0 = top.none (ap length e) in absurd (omega arith)
some_by w t ls (last front v e) top h = let l = ap length e ∙ length-append front (v ∷ []) in omega arith

pub top_dedent : (w t : ℕ) (ls : List ℕ) → IsTop ls t → w < t → is_level w (0 ∷ ls) ≡ true → IsIndentation w ls indentations.Dedent
top_dedent w t ls top h level = (level, some_by w t ls (snoc ls) top h, λ front v e. let same : v ≡ t = top.last front v e in omega arith)

mismatch_by : (w t : ℕ) (ls : List ℕ) → Snoc ls → IsTop ls t → w < t → is_above w (0 ∷ ls) ≡ false
mismatch_by w t ls (empty e) top h = let z : t ≡ 0 = top.none (ap length e) in absurd (omega arith)
mismatch_by w t ls (last front v e) top h = let same : v ≡ t = top.last front v e in ap (λ xs. is_above w (0 ∷ xs)) e
    ∙ last_above w v (0 ∷ front) (omega arith)

pub top_mismatch : (w t : ℕ) (ls : List ℕ) → IsTop ls t → w < t → is_level w (0 ∷ ls) ≡ false → IsIndentation w ls indentations.Mismatch
top_mismatch w t ls top h level = (mismatch_by w t ls (snoc ls) top h, level)
