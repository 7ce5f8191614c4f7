-- Carries: Levels::settle, Levels::finish, may_end. On: levels that come to their end.
use Rattle.std.proofs.Common.{◌≡◌, ℕ, ◌<◌, ◌≤◌, List, [], ◌∷◌, ◌++◌, length, reverse, Option, Some, None, Bool, true, false, cond, refl}
use Rattle.std.proofs.Common.{sym, ap, ◌∙◌, arith}
use Rattle.std.specs.Prelude.{nat_lt}
use borrow.Author.Tests.{ltb-true, lt-ltb}
use Rattle.std.proofs.lemmas.List.{length-reverse, reverse-append}
use Rattle.pygrammar.specs.Blocks.{ExpectedIndent, MisplacedClause}
use Rattle.pygrammar.specs.Reading.{Answer, Fine, Faulty, then}
use Rattle.pyparse_block.specs.declared.outline.groups.GroupKind.{GroupKind}
use Rattle.pyparse_block.specs.Outlines.{Levels, levels}
use Rattle.pyparse_block.specs.Inner.Steps.{is_whole, above, settle_in, settle, awaits_block, may_end, finish}

not_less : (a b : ℕ) → b ≤ a → nat_lt a b ≡ false
not_less a b h = elim (nat_lt a b) as (λ c. nat_lt a b ≡ c → nat_lt a b ≡ false) [
  | true ↦ λ e. absurd (let k : a < b = ltb-true a b e in omega arith)
  | false ↦ λ e. e
] refl

-- the deepest level first, which stands last in the program
pub reverse-push : (xs : List GroupKind) (x : GroupKind) → reverse (xs ++ x ∷ []) ≡ x ∷ reverse xs
reverse-push xs x = reverse-append xs (x ∷ [])

-- ---- Levels that end.

-- what is left after a level that ends
abbrev pub left : ℕ → List GroupKind → Option GroupKind → Answer Levels
left l below o = elim o [ None ↦ Faulty MisplacedClause | Some h ↦ settle_in l h false below ]

pub settle_stays : (l : ℕ) (s : Levels) → length s.below ≤ l → settle l s ≡ Fine s
settle_stays l s h =
    elim s.below as (λ b. length b ≤ l → settle_in l s.group s.fresh b ≡ Fine (levels s.group s.fresh b)) [
      | [] ↦ λ h. refl
      | w ∷ below ↦ λ h.
          ap (λ b. cond b (cond s.fresh (Faulty ExpectedIndent) (left l below (above s.group w)))
          (Fine (levels s.group s.fresh (w ∷ below)))) (not_less l (length (w ∷ below)) h)
    ] h

-- the deepest of several levels
ends : (l : ℕ) (s : Levels) (w : GroupKind) (below : List GroupKind) → s.below ≡ w ∷ below → l < length s.below →
    settle l s ≡ cond s.fresh (Faulty ExpectedIndent) (left l below (above s.group w))
ends l s w below e h =
    ap (settle_in l s.group s.fresh) e
    ∙ ap (λ b. cond b (cond s.fresh (Faulty ExpectedIndent) (left l below (above s.group w))) (Fine (levels s.group s.fresh (w ∷ below))))
    (lt-ltb l (length (w ∷ below)) (let n : length s.below ≡ length (w ∷ below) = ap length e in omega (arith, h, n)))

pub settle_fresh : (l : ℕ) (s : Levels) → l < length s.below → s.fresh ≡ true → settle l s ≡ Faulty ExpectedIndent
settle_fresh l s h f =
    elim s.below as (λ b. s.below ≡ b → l < length b → settle l s ≡ Faulty ExpectedIndent) [
      | [] ↦ λ e n. absurd (omega (arith, n))
      | w ∷ below ↦ λ e n. ends l s w below e h ∙ ap (λ b. cond b (Faulty ExpectedIndent) (left l below (above s.group w))) f
    ] refl h

ends_old : (l : ℕ) (s : Levels) (w : GroupKind) (below : List GroupKind) → s.below ≡ w ∷ below → l < length s.below → s.fresh ≡ false
    → settle l s ≡ left l below (above s.group w)
ends_old l s w below e h f = ends l s w below e h ∙ ap (λ b. cond b (Faulty ExpectedIndent) (left l below (above s.group w))) f

pub settle_misplaced : (l : ℕ) (s : Levels) (w : GroupKind) (below : List GroupKind) → s.below ≡ w ∷ below → l < length s.below
    → s.fresh ≡ false → above s.group w ≡ None →
    settle l s ≡ Faulty MisplacedClause
settle_misplaced l s w below e h f k = ends_old l s w below e h f ∙ ap (left l below) k

pub settle_goes : (l : ℕ) (s : Levels) (w : GroupKind) (below : List GroupKind) (g : GroupKind) → s.below ≡ w ∷ below → l < length s.below
    → s.fresh ≡ false → above s.group w ≡ Some g →
    settle l s ≡ settle l (levels g s.fresh below)
settle_goes l s w below g e h f k = ends_old l s w below e h f ∙ ap (left l below) k ∙ ap (λ b. settle_in l g b below) (sym f)

-- ---- All levels.

-- whether all may end, one level on
pub may_end_goes : (g w h : GroupKind) (below : List GroupKind) → above g w ≡ Some h → may_end g (w ∷ below) ≡ may_end h below
may_end_goes g w h below e = ap (λ o. elim o [ None ↦ false | Some h ↦ may_end h below ]) e

pub may_end_stops : (g w : GroupKind) (below : List GroupKind) → above g w ≡ None → may_end g (w ∷ below) ≡ false
may_end_stops g w below e = ap (λ o. elim o [ None ↦ false | Some h ↦ may_end h below ]) e

abbrev by_end : Bool → Answer (Unit {0})
by_end b = cond b (Fine tt) (Faulty MisplacedClause)

finish_settled : (g : GroupKind) (below : List GroupKind) → finish (levels g false below) ≡ by_end (may_end g below)
finish_settled g [] = refl
finish_settled g (w ∷ below) =
    ap (λ a. then a (λ t. by_end (is_whole t.group))) (ends 0 (levels g false (w ∷ below)) w below refl (omega arith))
    ∙ by_above (above g w) (λ h. finish_settled h below)
  where
    by_above : (o : Option GroupKind) → ((h : GroupKind) → finish (levels h false below) ≡ by_end (may_end h below)) →
        then (left 0 below o) (λ t. by_end (is_whole t.group)) ≡ by_end (elim o [ None ↦ false | Some h ↦ may_end h below ])
    by_above None ih = refl
    by_above (Some h) ih = ih h

finish_is : (s : Levels) → finish s ≡ cond (awaits_block s) (Faulty ExpectedIndent) (by_end (may_end s.group s.below))
finish_is s =
    elim s.fresh as (λ f. finish (levels s.group f s.below) ≡ cond (awaits_block (levels s.group f s.below)) (Faulty ExpectedIndent)
    (by_end (may_end s.group s.below))) [
      | false ↦ finish_settled s.group s.below ∙ ap (λ b. cond b (Faulty ExpectedIndent) (by_end (may_end s.group s.below)))
          (sym (awaits_none s.group s.below))
      | true ↦ elim s.below as (λ b. finish (levels s.group true b) ≡ cond (awaits_block (levels s.group true b)) (Faulty ExpectedIndent)
          (by_end (may_end s.group b))) [
            | [] ↦ refl
            | w ∷ below ↦ ap (λ a. then a (λ t. by_end (is_whole t.group)))
                (ends 0 (levels s.group true (w ∷ below)) w below refl (omega arith))
          ]
    ]
  where
    awaits_none : (g : GroupKind) (below : List GroupKind) → awaits_block (levels g false below) ≡ false
    awaits_none g [] = refl
    awaits_none g (w ∷ below) = refl

pub finish_awaits : (s : Levels) → awaits_block s ≡ true → finish s ≡ Faulty ExpectedIndent
finish_awaits s h = finish_is s ∙ ap (λ b. cond b (Faulty ExpectedIndent) (by_end (may_end s.group s.below))) h

pub finish_misplaced : (s : Levels) → awaits_block s ≡ false → may_end s.group s.below ≡ false → finish s ≡ Faulty MisplacedClause
finish_misplaced s h w = finish_is s ∙ ap (λ b. cond b (Faulty ExpectedIndent) (by_end (may_end s.group s.below))) h ∙ ap by_end w

pub finish_fine : (s : Levels) → awaits_block s ≡ false → may_end s.group s.below ≡ true → finish s ≡ Fine tt
finish_fine s h w = finish_is s ∙ ap (λ b. cond b (Faulty ExpectedIndent) (by_end (may_end s.group s.below))) h ∙ ap by_end w

-- for the levels that end
pub ruleset ending = (reverse-push, length-reverse, settle_stays, settle_fresh, settle_misplaced, settle_goes, may_end_goes, may_end_stops)

-- for the end of all lines
pub ruleset finishing = (finish_awaits, finish_misplaced, finish_fine)
