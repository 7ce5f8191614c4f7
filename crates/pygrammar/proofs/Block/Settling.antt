-- What is known when the levels above a line have come to their end, and the
-- faults of the line there.
--
-- Carries: Levels, Marks, Settled, marked_stands and 7 more, for Law. On: Fitting, Nested, Standing, Steps.
use Rattle.std.proofs.Common.{◌≡◌, ℕ, suc, ◌<◌, ◌≤◌, List, [], ◌∷◌, ◌++◌, length, Some, None, Bool, true, false, cond, refl, sym, ap, ◌∙◌}
use Rattle.std.proofs.Common.{arith, ◌⊎◌, inl, inr}
use Rattle.std.specs.Prelude.{nat_lt, ◌==◌}
use borrow.Author.Tests.{ltb-true, ltb-false, eqb-true, eqb-false}
use Rattle.pytree_node.specs.Trees.{Stmt}
use Rattle.pygrammar.specs.Lines.{Line, Form, simple_form, decorator_form, header_form, Header, opens}
use Rattle.pygrammar.specs.Blocks.{Fault, ExpectedIndent, UnexpectedIndent, MisplacedClause, Kind, SimpleLine, DecoratorLine, header_kind}
use Rattle.pygrammar.specs.Blocks.{kind_of, previous, may_follow, is_try_clause, is_decorated, level_before, opens_before, is_match}
use Rattle.pygrammar.specs.Blocks.{is_case, same_bool, stands_in_match, Misplaced, not_taken, ends_try, ends_decorators, not_by_place}
use Rattle.pygrammar.specs.Blocks.{HasFault, not_deeper, far_deeper, opens_none, misplaced, comes_before, IsClear, IsFault}
use Rattle.pygrammar.specs.Reading.{Answer, Fine, Faulty, Group, Marked, Trial, closes, PartialBlock, grows, Waiting, State, state, above}
use Rattle.pygrammar.specs.Reading.{settle_in}
use Rattle.pygrammar.proofs.Block.Steps.{popped}
use Rattle.pygrammar.proofs.Block.Standing.{Standing, Free, AfterTry, AfterDecorator, standing, stand, admits, may_follow_is, try_stands}
use Rattle.pygrammar.proofs.Block.Standing.{try_at, standing_above}
use Rattle.pygrammar.proofs.Block.Fitting.{is_marked, is_decorator, last_decorator, not_marked, no_decorator_header, Fits, Wrong}
use Rattle.pygrammar.proofs.Block.Fitting.{wrong_follow, wrong_try, wrong_decorator, wrong_place, fits_closed}
use Rattle.pygrammar.proofs.Block.Nested.{Ends, ends_cases, ends_block, ends_of, is_matching, in_match, AreNested, nested_is, nested_pop}
use Rattle.pygrammar.proofs.Block.Nested.{grows_match}

-- each level that waits will be found as its header leaves it, and where it is
abbrev pub Levels : List Line → List Waiting → Type 0
Levels earlier [] = Unit {0}
Levels earlier (w ∷ below) =
    ((body : List Stmt) → standing (length below) earlier ≡ stand (grows w.group w.header body).group)
    × (stands_in_match (length below) earlier ≡ in_match below) × Levels earlier below

pub record Marks (earlier : List Line) (s : State) : Type 0 where
  pub stands : standing (length s.below) earlier ≡ stand s.group
  pub levels : Levels earlier s.below
  pub opened : opens_before earlier ≡ s.fresh
  pub fresh_level : s.fresh ≡ true → length s.below ≡ suc (level_before earlier)
  pub level : s.fresh ≡ false → length s.below ≡ level_before earlier
  pub marked : last_decorator earlier ≡ is_marked s.group
  pub place : stands_in_match (length s.below) earlier ≡ in_match s.below
  pub nested : AreNested s.group s.below

-- what is known when the levels above l have come to their end
pub record Settled (l : ℕ) (earlier : List Line) (g : Group) (f : Bool) (below : List Waiting) (t : State) : Type 0 where
  pub stands : standing (length t.below) earlier ≡ stand t.group
  pub levels : Levels earlier t.below
  pub place : stands_in_match (length t.below) earlier ≡ in_match t.below
  pub nested : AreNested t.group t.below
  pub tries : (m : ℕ) → l < m → m ≤ length below → standing m earlier ≡ AfterTry → ⊥
  pub by : ((length below ≤ l) × (t.below ≡ below) × (t.group ≡ g) × (t.fresh ≡ f))
      ⊎ ((l < length below) × (f ≡ false) × (is_marked g ≡ false) × (is_marked t.group ≡ false) × (length t.below ≡ l) × (t.fresh ≡ false))

-- why they could not
pub record Unsettled (l : ℕ) (earlier : List Line) (g : Group) (f : Bool) (below : List Waiting) (e : Fault) : Type 0 where
  pub above : l < length below
  pub why : ((e ≡ ExpectedIndent) × (f ≡ true)) ⊎
      ((e ≡ MisplacedClause) × (f ≡ false) × (((m : ℕ) × (l < m) × (standing m earlier ≡ AfterTry)) ⊎ (is_marked g ≡ true)))

closes_no_try : (g : Group) (ss : List Stmt) → closes g ≡ Some ss → stand g ≡ AfterTry → ⊥
closes_no_try g ss c e = let f = (fits_closed g ss SimpleLine c refl refl).tries e in cc f

closes_unmarked : (g : Group) (ss : List Stmt) → closes g ≡ Some ss → is_marked g ≡ false
closes_unmarked (Marked es) ss c = cc
closes_unmarked _ ss c = refl

open_group : (w : Waiting) (d : List Stmt) (g : Group) → above w d g ≡ None → (stand g ≡ AfterTry) ⊎ (is_marked g ≡ true)
open_group w d (Trial body) c = inl refl
open_group w d (Marked es) c = inr refl
open_group w d _ c = cc

pub marked_stands : (g : Group) → is_marked g ≡ true → stand g ≡ AfterDecorator
marked_stands (Marked es) e = refl
marked_stands _ e = cc

stands_marked : (g : Group) → stand g ≡ AfterDecorator → is_marked g ≡ true
stands_marked (Marked es) e = refl
stands_marked _ e = cc

unmarked : (g : Group) → is_marked g ≡ true → is_marked g ≡ false → ⊥
unmarked g a b = cc

-- ---- A level ends.

ends_no_try : (w : Waiting) (d : List Stmt) (g : Group) (p : PartialBlock) → Ends w d g p → stand g ≡ AfterTry → ⊥
ends_no_try w d g p (ends_cases cs) e = cc
ends_no_try w d g p (ends_block ss c) e = closes_no_try g ss c e

ends_unmarked : (w : Waiting) (d : List Stmt) (g : Group) (p : PartialBlock) → Ends w d g p → is_marked g ≡ false
ends_unmarked w d g p (ends_cases cs) = refl
ends_unmarked w d g p (ends_block ss c) = closes_unmarked g ss c

left_unmarked : (w : Waiting) (d : List Stmt) (g : Group) (p : PartialBlock) → Ends w d g p → is_marked p.group ≡ false
left_unmarked w d g p (ends_cases cs) = refl
left_unmarked w d g p (ends_block ss c) = not_marked w.group w.header (d ++ ss)

left_stands : (s : Standing) (w : Waiting) (d : List Stmt) (g : Group) (p : PartialBlock) → Ends w d g p
    → is_matching g ≡ is_match (header_kind w.header) →
    ((body : List Stmt) → s ≡ stand (grows w.group w.header body).group) → s ≡ stand p.group
left_stands s w d g p (ends_cases cs) n k = k [] ∙ ap stand (grows_match w.group w.header [] (sym n))
left_stands s w d g p (ends_block ss c) n k = k (d ++ ss)

abbrev pub Settles : ℕ → List Line → Group → Bool → List Waiting → Answer State → Type 0
Settles l earlier g f below (Fine t) = Settled l earlier g f below t
Settles l earlier g f below (Faulty e) = Unsettled l earlier g f below e

-- from the level below to this one
settles_up : (l : ℕ) (earlier : List Line) (g g' : Group) (w : Waiting) (below : List Waiting) (a : Answer State) → l < length (w ∷ below) →
    standing (length (w ∷ below)) earlier ≡ stand g → (stand g ≡ AfterTry → ⊥) → is_marked g ≡ false → is_marked g' ≡ false →
    Settles l earlier g' false below a → Settles l earlier g false (w ∷ below) a
settles_up l earlier g g' w below (Fine t) n s c m m' h = record {
  stands = h.stands;
  levels = h.levels;
  place = h.place;
  nested = h.nested;
  tries = λ k a b i. elim (nat_lt k (length (w ∷ below))) as (λ z. nat_lt k (length (w ∷ below)) ≡ z → ⊥) [
    | true ↦ λ q. let r : k < length (w ∷ below) = ltb-true k (length (w ∷ below)) q in h.tries k a (omega arith) i
    | false ↦ λ q.
        let r : length (w ∷ below) ≤ k = ltb-false k (length (w ∷ below)) q in
        let v : k ≡ length (w ∷ below) = omega arith in
        c (sym s ∙ ap (λ z. standing z earlier) (sym v) ∙ i)
  ] refl;
  by = inr (
    n,
    refl,
    m,
    elim h.by [ inl x ↦ ap is_marked x.2 ∙ m' | inr x ↦ x.3 ],
    elim h.by [ inl x ↦ let y : length t.below ≡ length below = ap length x.1 in omega (arith, y, x.0) | inr x ↦ x.4 ],
    elim h.by [ inl x ↦ x.3 | inr x ↦ x.5 ],
  );
}
settles_up l earlier g g' w below (Faulty e) n s c m m' h = record {
  above = n;
  why = elim h.why [
    | inl x ↦ let y : false ≡ true = x.1 in cc
    | inr x ↦ inr (x.0, refl, elim x.2 [ inl y ↦ inl y | inr y ↦ absurd (unmarked g' y m') ])
  ];
}

settles_pop : (l : ℕ) (earlier : List Line) (d : List Stmt) (g : Group) (f : Bool) (w : Waiting) (below : List Waiting)
    → l < length (w ∷ below) →
    standing (length (w ∷ below)) earlier ≡ stand g
    → ((p : PartialBlock) → Ends w d g p → Settles l earlier p.group false below (settle_in l p.done p.group false below)) →
    Settles l earlier g f (w ∷ below) (cond f (Faulty ExpectedIndent) (popped l d g w below))
settles_pop l earlier d g true w below n s k = record { above = n; why = inl (refl, refl) }
settles_pop l earlier d g false w below n s k =
    elim (above w d g) as (λ o. above w d g ≡ o
    → Settles l earlier g false (w ∷ below)
    (elim o [ None ↦ Faulty MisplacedClause | Some p ↦ settle_in l p.done p.group false below ])) [
      | None ↦ λ c. record {
        above = n;
        why =
            inr (refl, refl, elim (open_group w d g c) [ inl a ↦ inl (length (w ∷ below), n, s ∙ a) | inr a ↦ inr a ]);
      }
      | Some p ↦ λ c.
          let e = ends_of w d g p c in
          settles_up l earlier g p.group w below (settle_in l p.done p.group false below) n s (ends_no_try w d g p e)
          (ends_unmarked w d g p e) (left_unmarked w d g p e) (k p e)
    ] refl

stays_settled : (l : ℕ) (earlier : List Line) (d : List Stmt) (g : Group) (f : Bool) (below : List Waiting) → length below ≤ l
    → standing (length below) earlier ≡ stand g →
    stands_in_match (length below) earlier ≡ in_match below → AreNested g below → Levels earlier below
    → Settled l earlier g f below (state d g f below)
stays_settled l earlier d g f below n s i a k =
    record { stands = s; levels = k; place = i; nested = a; tries = λ m a b i. absurd (omega arith); by = inl (n, refl, refl, refl) }

pub settles : (l : ℕ) (earlier : List Line) (d : List Stmt) (g : Group) (f : Bool) (below : List Waiting)
    → standing (length below) earlier ≡ stand g →
    stands_in_match (length below) earlier ≡ in_match below → AreNested g below → Levels earlier below
    → Settles l earlier g f below (settle_in l d g f below)
settles l earlier d g f [] s i a k = stays_settled l earlier d g f [] (omega arith) s i a k
settles l earlier d g f (w ∷ below) s i a k =
    elim (nat_lt l (length (w ∷ below))) as (λ b. nat_lt l (length (w ∷ below)) ≡ b →
    Settles l earlier g f (w ∷ below) (cond b (cond f (Faulty ExpectedIndent) (popped l d g w below)) (Fine (state d g f (w ∷ below))))) [
      | true ↦ λ n. settles_pop l earlier d g f w below (ltb-true l (length (w ∷ below)) n) s
          (λ p e. settles l earlier p.done p.group false below (left_stands (standing (length below) earlier) w d g p e a.0 k.0) k.1
          (nested_pop w d g p below e a) k.2)
      | false ↦ λ n. stays_settled l earlier d g f (w ∷ below) (ltb-false l (length (w ∷ below)) n) s i a k
    ] refl

-- ---- One line.

level_bound : (earlier : List Line) (s : State) → Marks earlier s → length s.below ≤ suc (level_before earlier)
level_bound earlier s m =
    elim s.fresh as (λ b. s.fresh ≡ b → length s.below ≤ suc (level_before earlier)) [
      | true ↦ λ e. let i : length s.below ≡ suc (level_before earlier) = m.fresh_level e in omega arith
      | false ↦ λ e. let i : length s.below ≡ level_before earlier = m.level e in omega arith
    ] refl

before_bound : (earlier : List Line) (s : State) → Marks earlier s → level_before earlier ≤ length s.below
before_bound earlier s m =
    elim s.fresh as (λ b. s.fresh ≡ b → level_before earlier ≤ length s.below) [
      | true ↦ λ e. let i : length s.below ≡ suc (level_before earlier) = m.fresh_level e in omega arith
      | false ↦ λ e. let i : length s.below ≡ level_before earlier = m.level e in omega arith
    ] refl

-- a settled level has no fault of indentation
pub record Reached (earlier : List Line) (l : ℕ) (s t : State) : Type 0 where
  pub marks : Marks earlier s
  pub settled : Settled l earlier s.group s.fresh s.below t
  pub level : length t.below ≡ l

no_expected : (earlier : List Line) (l : ℕ) (s t : State) → Reached earlier l s t → opens_before earlier ≡ true
    → l ≤ level_before earlier → ⊥
no_expected earlier l s t r o n =
    let f : s.fresh ≡ true = sym r.marks.opened ∙ o in
    let k : length s.below ≡ suc (level_before earlier) = r.marks.fresh_level f in
    elim r.settled.by [ inl x ↦ let y = x.0 in omega arith | inr x ↦ let y : s.fresh ≡ false = x.1 in cc ]

reached_below : (earlier : List Line) (l : ℕ) (s t : State) → Reached earlier l s t → l ≤ length s.below
reached_below earlier l s t r =
    elim r.settled.by [
      | inl x ↦ let y : length t.below ≡ length s.below = ap length x.1 in omega (arith, y, r.level)
      | inr x ↦ let y = x.0 in omega arith
    ]

no_unexpected : (earlier : List Line) (l : ℕ) (s t : State) → Reached earlier l s t → (k : Kind) → HasFault earlier l k UnexpectedIndent → ⊥
no_unexpected earlier l s t r k h = unexpected h
  where
    far : suc (level_before earlier) < l → ⊥
    far n = let a = level_bound earlier s r.marks in let b = reached_below earlier l s t r in omega arith

    none : l ≡ suc (level_before earlier) → opens_before earlier ≡ false → ⊥
    none e o =
        let a : length s.below ≡ level_before earlier = r.marks.level (sym r.marks.opened ∙ o) in
        let b = reached_below earlier l s t r in omega arith

    unexpected : HasFault earlier l k UnexpectedIndent → ⊥
    unexpected (far_deeper n) = far n
    unexpected (opens_none e o) = none e o

tries_here : (earlier : List Line) (l : ℕ) (s t : State) (k : Kind) → Reached earlier l s t → Fits k t.group →
    (m : ℕ) → standing m earlier ≡ AfterTry → l ≤ m → (l ≡ m → is_try_clause k ≡ false) → ⊥
tries_here earlier l s t k r f m e n c =
    elim (nat_lt l m) as (λ b. nat_lt l m ≡ b → ⊥) [
      | false ↦ λ q.
          let a : m ≤ l = ltb-false l m q in
          let i : l ≡ m = omega arith in
          let j : stand t.group ≡ AfterTry = sym r.settled.stands ∙ ap (λ z. standing z earlier) (r.level ∙ i) ∙ e in
          let v : is_try_clause k ≡ true = f.tries j in let w : is_try_clause k ≡ false = c i in cc
      | true ↦ λ q. elim (nat_lt (length s.below) m) as (λ b. nat_lt (length s.below) m ≡ b → ⊥) [
        | true ↦ λ p.
            let a : length s.below < m = ltb-true (length s.below) m p in
            let b = before_bound earlier s r.marks in
            let v : standing m earlier ≡ Free = standing_above m earlier (omega arith) in cc
        | false ↦ λ p. r.settled.tries m (ltb-true l m q) (ltb-false (length s.below) m p) e
      ] refl
    ] refl

last_opens : (earlier : List Line) → last_decorator earlier ≡ true → opens_before earlier ≡ false
last_opens [] e = cc
last_opens (x ∷ earlier) e = form_opens x.form e
  where
    header_no : (h : Header) → is_decorator (header_kind h) ≡ true → ⊥
    header_no h e = let a = no_decorator_header h in cc

    form_opens : (f : Form) → is_decorator (kind_of f) ≡ true → opens f ≡ false
    form_opens (simple_form ss) e = refl
    form_opens (decorator_form y) e = refl
    form_opens (header_form h (Some ss)) e = refl
    form_opens (header_form h None) e = absurd (header_no h e)

decorates_here : (earlier : List Line) (l : ℕ) (s t : State) (k : Kind) → Reached earlier l s t → Fits k t.group →
    last_decorator earlier ≡ true → (l ≡ level_before earlier → is_decorated k ≡ false) → ⊥
decorates_here earlier l s t k r f e c =
    let m : is_marked s.group ≡ true = sym r.marks.marked ∙ e in
    elim r.settled.by [
      | inl x ↦
          let v : stand t.group ≡ AfterDecorator = ap stand x.2 ∙ marked_stands s.group m in
          let n : length s.below ≡ level_before earlier = r.marks.level (sym r.marks.opened ∙ last_opens earlier e) in
          let y : length t.below ≡ length s.below = ap length x.1 in
          let i : l ≡ level_before earlier = omega (arith, r.level) in
          let a : is_decorated k ≡ true = f.decorates v in let b : is_decorated k ≡ false = c i in cc
      | inr x ↦ unmarked s.group m x.2
    ]

place_is : (earlier : List Line) (l : ℕ) (s t : State) → Reached earlier l s t → stands_in_match l earlier ≡ is_matching t.group
place_is earlier l s t r = ap (λ z. stands_in_match z earlier) (sym r.level) ∙ r.settled.place
    ∙ sym (nested_is t.group t.below r.settled.nested)

pub clear_here : (earlier : List Line) (l : ℕ) (s t : State) (k : Kind) → Reached earlier l s t → Fits k t.group → IsClear earlier l k
clear_here earlier l s t k r f = record { none = λ e h. clears e h }
  where
    wrongly : Misplaced earlier l k → ⊥
    wrongly (not_taken e) =
        let a : admits k (stand t.group) ≡ true = f.follows in
        let b : may_follow k (previous l earlier) ≡ admits k (standing l earlier) = may_follow_is k l earlier in
        let c : standing l earlier ≡ stand t.group = ap (λ z. standing z earlier) (sym r.level) ∙ r.settled.stands in
        let d : admits k (standing l earlier) ≡ admits k (stand t.group) = ap (admits k) c in cc
    wrongly (ends_try {x} {more} m p i n c) = tries_here earlier l s t k r f m (try_stands m earlier x more p i) n c
    wrongly (ends_decorators {x} {more} p i c) =
        decorates_here earlier l s t k r f (ap last_decorator p ∙ ap is_decorator i) (λ j. c (j ∙ ap level_before p))
    wrongly (not_by_place e) =
        let a : same_bool (is_matching t.group) (is_case k) ≡ true = f.placed in
        let b : same_bool (stands_in_match l earlier) (is_case k) ≡ same_bool (is_matching t.group) (is_case k) =
        ap (λ z. same_bool z (is_case k)) (place_is earlier l s t r) in cc

    clears : (e : Fault) → HasFault earlier l k e → ⊥
    clears ExpectedIndent (not_deeper o n) = no_expected earlier l s t r o n
    clears UnexpectedIndent h = no_unexpected earlier l s t r k h
    clears MisplacedClause (misplaced h) = wrongly h

-- a fault of order where none of indentation stands
only_misplaced : (earlier : List Line) (l : ℕ) (k : Kind) → (HasFault earlier l k ExpectedIndent → ⊥)
    → (HasFault earlier l k UnexpectedIndent → ⊥) → Misplaced earlier l k → IsFault earlier l k MisplacedClause
only_misplaced earlier l k a b h = record {
  has = misplaced h;
  first = λ e. elim e as (λ e. comes_before e MisplacedClause ≡ true → HasFault earlier l k e → ⊥) [
    | ExpectedIndent ↦ λ c i. a i
    | UnexpectedIndent ↦ λ c i. b i
    | MisplacedClause ↦ λ c i. cc
  ];
}

expected_of : (earlier : List Line) (l : ℕ) (k : Kind) → HasFault earlier l k ExpectedIndent
    → (opens_before earlier ≡ true) × (l ≤ level_before earlier)
expected_of earlier l k (not_deeper o n) = (o, n)

unexpected_of : (earlier : List Line) (l : ℕ) (k : Kind) → HasFault earlier l k UnexpectedIndent → level_before earlier < l
unexpected_of earlier l k (far_deeper n) = omega arith
unexpected_of earlier l k (opens_none e o) = omega arith

last_line : (earlier : List Line) → last_decorator earlier ≡ true → (x : Line) × (more : List Line) × (earlier ≡ x ∷ more) ×
    (kind_of x.form ≡ DecoratorLine)
last_line [] e = cc
last_line (x ∷ more) e = (x, more, refl, decorator_is (kind_of x.form) e)
  where
    decorator_is : (k : Kind) → is_decorator k ≡ true → k ≡ DecoratorLine
    decorator_is DecoratorLine e = refl
    decorator_is _ e = cc

ends_marks : (earlier : List Line) (l : ℕ) (k : Kind) → last_decorator earlier ≡ true
    → (l ≡ level_before earlier → is_decorated k ≡ false) → Misplaced earlier l k
ends_marks earlier l k e c =
    let y = last_line earlier e in
    ends_decorators {x = y.0} {more = y.1} y.2 y.3 (λ i. c (i ∙ sym (ap level_before y.2)))

pub wrong_here : (earlier : List Line) (l : ℕ) (s t : State) (k : Kind) → Reached earlier l s t → Wrong k t.group
    → IsFault earlier l k MisplacedClause
wrong_here earlier l s t k r h =
    only_misplaced earlier l k (λ i. let v = expected_of earlier l k i in no_expected earlier l s t r v.0 v.1)
    (no_unexpected earlier l s t r k) (elim h [
      | wrong_follow a ↦ not_taken (may_follow_is k l earlier ∙ ap (admits k) stood ∙ a)
      | wrong_try a b ↦ let y = try_at l earlier (stood ∙ a) in ends_try {x = y.first} {more = y.more} l y.is y.kind (omega arith) (λ i. b)
      | wrong_decorator a b ↦ ends_marks earlier l k (r.marks.marked ∙ marked_before a) (λ i. b)
      | wrong_place a ↦ not_by_place (ap (λ z. same_bool z (is_case k)) (place_is earlier l s t r) ∙ a)
    ])
  where
    stood : standing l earlier ≡ stand t.group
    stood = ap (λ z. standing z earlier) (sym r.level) ∙ r.settled.stands

    marked_before : stand t.group ≡ AfterDecorator → is_marked s.group ≡ true
    marked_before a = elim r.settled.by [
      | inl x ↦ ap is_marked (sym x.2) ∙ stands_marked t.group a
      | inr x ↦ absurd (unmarked t.group (stands_marked t.group a) x.3)
    ]

pub unsettled_fault : (earlier : List Line) (l : ℕ) (s : State) (k : Kind) (e : Fault) → Marks earlier s
    → Unsettled l earlier s.group s.fresh s.below e → IsFault earlier l k e
unsettled_fault earlier l s k ExpectedIndent m u = elim u.why [
  | inl x ↦
      let n : length s.below ≡ suc (level_before earlier) = m.fresh_level x.1 in
      let a = u.above in
      record {
        has = not_deeper (m.opened ∙ x.1) (omega arith);
        first = λ e. elim e as (λ e. comes_before e ExpectedIndent ≡ true → HasFault earlier l k e → ⊥) [
          | ExpectedIndent ↦ λ c i. cc
          | UnexpectedIndent ↦ λ c i. cc
          | MisplacedClause ↦ λ c i. cc
        ];
      }
  | inr x ↦ let y = x.0 in cc
]
unsettled_fault earlier l s k UnexpectedIndent m u = elim u.why [ inl x ↦ let y = x.0 in cc | inr x ↦ let y = x.0 in cc ]
unsettled_fault earlier l s k MisplacedClause m u = elim u.why [
  | inl x ↦ let y = x.0 in cc
  | inr x ↦
      let n : length s.below ≡ level_before earlier = m.level x.1 in
      let a = u.above in
      only_misplaced earlier l k
      (λ i. let v = expected_of earlier l k i in let o : opens_before earlier ≡ true = v.0 in
      let p : opens_before earlier ≡ false = m.opened ∙ x.1 in cc)
      (λ i. let v = unexpected_of earlier l k i in omega arith)
      (elim x.2 [
        | inl y ↦ let z = try_at y.0 earlier y.2 in ends_try {x = z.first} {more = z.more} y.0 z.is z.kind (let b = y.1 in omega arith)
            (λ i. let b = y.1 in absurd (omega arith))
        | inr y ↦ ends_marks earlier l k (m.marked ∙ y) (λ i. absurd (omega arith))
      ])
]

-- a line that is too deep
pub deep_fault : (earlier : List Line) (l : ℕ) (s t : State) (k : Kind) → Marks earlier s → Settled l earlier s.group s.fresh s.below t
    → length t.below < l → IsFault earlier l k UnexpectedIndent
deep_fault earlier l s t k m h n =
    let a : length s.below ≡ length t.below = elim h.by [ inl x ↦ ap length (sym x.1) | inr x ↦ let y = x.4 in absurd (omega arith) ] in
    record {
      has = deep s.fresh refl a;
      first = λ e. elim e as (λ e. comes_before e UnexpectedIndent ≡ true → HasFault earlier l k e → ⊥) [
        | ExpectedIndent ↦ λ c i. let v = expected_of earlier l k i in let b = before_bound earlier s m in let w = v.1 in omega arith
        | UnexpectedIndent ↦ λ c i. cc
        | MisplacedClause ↦ λ c i. cc
      ];
    }
  where
    deep : (f : Bool) → s.fresh ≡ f → length s.below ≡ length t.below → HasFault earlier l k UnexpectedIndent
    deep true e a = let b = m.fresh_level e in far_deeper (omega arith)
    deep false e a =
        let b = m.level e in
        elim (l == suc (level_before earlier)) as (λ z. l == suc (level_before earlier) ≡ z → HasFault earlier l k UnexpectedIndent) [
          | true ↦ λ q. opens_none (eqb-true l (suc (level_before earlier)) q) (m.opened ∙ e)
          | false ↦ λ q. let v = eqb-false l (suc (level_before earlier)) q in far_deeper (omega arith)
        ] refl
