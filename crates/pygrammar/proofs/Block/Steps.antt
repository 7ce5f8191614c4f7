-- What the reading of blocks does with lines one after another, and with
-- levels that come to their end.
--
-- Carries: is_less, not_less, settle_here, for Blocks.
use Rattle.std.proofs.Common.{◌≡◌, ℕ, suc, ◌<◌, ◌≤◌, List, [], ◌∷◌, ◌++◌, length, Some, None, Bool, true, false, cond, refl, sym, ap, ◌∙◌}
use Rattle.std.proofs.Common.{arith}
use Rattle.std.specs.Prelude.{nat_lt}
use borrow.Author.Tests.{ltb-true, lt-ltb}
use Rattle.pytree_node.specs.Trees.{Stmt}
use Rattle.pygrammar.specs.Lines.{Line, line, Form}
use Rattle.pygrammar.specs.Blocks.{ExpectedIndent, UnexpectedIndent, MisplacedClause}
use Rattle.pygrammar.specs.Reading.{Answer, Fine, Faulty, then, Group, Matching, closes, PartialBlock, Waiting, State, state, joined, above}
use Rattle.pygrammar.specs.Reading.{settle_in, settle, place, placed, step, run}

pub not_less : (a b : ℕ) → b ≤ a → nat_lt a b ≡ false
not_less a b h = elim (nat_lt a b) as (λ c. nat_lt a b ≡ c → nat_lt a b ≡ false) [
  | true ↦ λ e. absurd (let k : a < b = ltb-true a b e in omega arith)
  | false ↦ λ e. e
] refl

pub is_less : (a b : ℕ) → a < b → nat_lt a b ≡ true
is_less a b h = lt-ltb a b h

pub then_then : {A B C : Type 0} (a : Answer A) (f : A → Answer B) (g : B → Answer C) → then (then a f) g ≡ then a (λ x. then (f x) g)
then_then (Fine a) f g = refl
then_then (Faulty e) f g = refl

pub run-append : (xs ys : List Line) (s : State) → run (xs ++ ys) s ≡ then (run xs s) (run ys)
run-append [] ys s = refl
run-append (x ∷ xs) ys s =
    elim (step s x) as (λ a. then a (run (xs ++ ys)) ≡ then (then a (run xs)) (run ys)) [ Fine t ↦ run-append xs ys t | Faulty e ↦ refl ]

-- what the deepest level leaves to those below when it ends
abbrev pub popped : ℕ → List Stmt → Group → Waiting → List Waiting → Answer State
popped l d g w below = elim (above w d g) [ None ↦ Faulty MisplacedClause | Some p ↦ settle_in l p.done p.group false below ]

-- where it is no block of a `match`
pub closes_above : (w : Waiting) (d : List Stmt) (g : Group) (ss : List Stmt) → closes g ≡ Some ss
    → above w d g ≡ Some (joined w.done w.group w.header (d ++ ss))
closes_above w d (Matching cs) ss e = cc
closes_above w d _ ss e = ap (λ o. elim o [ None ↦ None | Some ss ↦ Some (joined w.done w.group w.header (d ++ ss)) ]) e

-- a level that ends itself
pub settle_here : (l : ℕ) (d : List Stmt) (g : Group) (f : Bool) (below : List Waiting) → length below ≤ l
    → settle_in l d g f below ≡ Fine (state d g f below)
settle_here l d g f [] h = refl
settle_here l d g f (w ∷ below) h =
    ap (λ b. cond b (cond f (Faulty ExpectedIndent) (popped l d g w below)) (Fine (state d g f (w ∷ below))))
    (not_less l (length (w ∷ below)) h)

two_tests : {A : Type 0} (k : Answer A → Answer A) (a b : Bool) (p q here : Answer A) → (b ≡ true → a ≡ true) → p ≡ k q
    → k here ≡ cond a p here → cond a p here ≡ k (cond b q here)
two_tests k a true p q here f e h = rw (f refl) e
two_tests k a false p q here f e h = sym h

-- ending the levels above l is ending those above m first
pub settle_settle : (l m : ℕ) → l ≤ m → (d : List Stmt) (g : Group) (f : Bool) (below : List Waiting) →
    settle_in l d g f below ≡ then (settle_in m d g f below) (settle l)
settle_settle l m h d g f [] = refl
settle_settle l m h d g f (w ∷ below) =
    two_tests (λ a. then a (settle l)) (nat_lt l (length (w ∷ below))) (nat_lt m (length (w ∷ below)))
    (cond f (Faulty ExpectedIndent) (popped l d g w below)) (cond f (Faulty ExpectedIndent) (popped m d g w below))
    (Fine (state d g f (w ∷ below)))
    (λ e. let k : m < length (w ∷ below) = ltb-true m (length (w ∷ below)) e in is_less l (length (w ∷ below)) (omega arith))
    (elim f as (λ f. cond f (Faulty ExpectedIndent) (popped l d g w below) ≡ then
    (cond f (Faulty ExpectedIndent) (popped m d g w below)) (settle l)) [
      | true ↦ refl
      | false ↦ elim (above w d g) as (λ o. elim o [ None ↦ Faulty MisplacedClause | Some p ↦ settle_in l p.done p.group false below ]
          ≡ then (elim o [ None ↦ Faulty MisplacedClause | Some p ↦ settle_in m p.done p.group false below ]) (settle l)) [
            | None ↦ refl
            | Some p ↦ settle_settle l m h p.done p.group false below
          ]
    ])
    refl

-- the block of a header ends
pub settle_block : (l : ℕ) (s : State) (d : List Stmt) (g : Group) (w : Waiting) (below : List Waiting) (p : PartialBlock) →
    length below ≡ l → settle (suc l) s ≡ Fine (state d g false (w ∷ below)) → above w d g ≡ Some p
    → settle l s ≡ Fine (state p.done p.group false below)
settle_block l s d g w below p n h c =
    settle_settle l (suc l) (omega arith) s.done s.group s.fresh s.below
    ∙ ap (λ a. then a (settle l)) h
    ∙ ap (λ b. cond b (popped l d g w below) (Fine (state d g false (w ∷ below)))) (is_less l (length (w ∷ below)) (omega (arith, n)))
    ∙ ap (λ o. elim o [ None ↦ Faulty MisplacedClause | Some p ↦ settle_in l p.done p.group false below ]) c
    ∙ settle_here l p.done p.group false below (omega (arith, n))

-- a line of the level that is left
pub step_here : (s : State) (l : ℕ) (f : Form) (t : State) → length t.below ≡ l → settle l s ≡ Fine t → step s (line l f) ≡ place t f
step_here s l f t n h =
    ap (λ a. then a (placed l f)) h ∙ ap (λ b. cond b (Faulty UnexpectedIndent) (place t f))
    (not_less (length t.below) l (omega (arith, n)))
