-- Carries: drop_deeper, drop_from, Depths::step. On: the count of depths by shapes,
-- no further than it counts.
use Rattle.std.proofs.Common.{◌≡◌, ℕ, suc, ◌+◌, ◌<◌, ◌≤◌, min, List, [], ◌∷◌, ◌++◌, map, reverse, Option, Some, None, Bool, true, false}
use Rattle.std.proofs.Common.{cond, refl, sym, ap, ◌∙◌, arith}
use Rattle.std.specs.Prelude.{nat_lt, nat_le, ◌==◌}
use borrow.Author.Tests.{ltb-true, ltb-false, lt-ltb, leb-true, le-leb}
use Rattle.std.proofs.lemmas.List.{map-append, reverse-append}
use Rattle.pygrammar.specs.Lines.{line, Header, if_header, elif_header, else_header, case_header, Form, simple_form, decorator_form}
use Rattle.pygrammar.specs.Lines.{header_form}
use Rattle.pygrammar.specs.Blocks.{Kind, ElifLine, ElseLine, kind_of, header_kind}
use Rattle.pygrammar.specs.Refusals.{is_clause, own}
use Rattle.pygrammar.specs.Depths.{Depth, round_at, arms_at, under, depth_of, counted, begins, innermost, is_deep}
use Rattle.pyparse_block.specs.declared.outline.depths.Last.{Last}
use Rattle.pyparse_block.specs.declared.outline.shapes.Clause.{Clause}
use Rattle.pyparse_block.specs.declared.outline.shapes.Clause.TheVariants as clause
use Rattle.pyparse_block.specs.declared.outline.shapes.Shape.{Shape}
use Rattle.pyparse_block.specs.Outlines.{capped, last_of, lasts_of}
use Rattle.pyparse_block.specs.Inner.Shapes.{clause_of, shape_of}
use Rattle.pyparse_block.specs.Inner.Counting.{clause_in, arms_more, arms_top, own_of, round_top, is_later, deep_in, last_in, Counts}

-- ---- The levels as the program has them.

pub lasts_of-push : (ds : List Last) (d : Last) → lasts_of (ds ++ d ∷ []) ≡ last_of d ∷ lasts_of ds
lasts_of-push ds d = ap reverse (map-append last_of ds (d ∷ [])) ∙ reverse-append (map last_of ds) (last_of d ∷ [])

not_less : (a b : ℕ) → b ≤ a → nat_lt a b ≡ false
not_less a b h = elim (nat_lt a b) as (λ c. nat_lt a b ≡ c → nat_lt a b ≡ false) [
  | true ↦ λ e. absurd (let k : a < b = ltb-true a b e in omega arith)
  | false ↦ λ e. e
] refl

-- a level that is dropped, and one that stays
pub under_drops : (l : ℕ) (ds : List Last) (d : Last) → l ≤ d.level → under l (lasts_of (ds ++ d ∷ [])) ≡ under l (lasts_of ds)
under_drops l ds d h = ap (under l) (lasts_of-push ds d)
    ∙ ap (λ b. cond b (last_of d ∷ lasts_of ds) (under l (lasts_of ds))) (not_less d.level l h)

pub under_keeps : (l : ℕ) (ds : List Last) (d : Last) → d.level < l → under l (lasts_of (ds ++ d ∷ [])) ≡ lasts_of (ds ++ d ∷ [])
under_keeps l ds d h =
    ap (under l) (lasts_of-push ds d) ∙ ap (λ b. cond b (last_of d ∷ lasts_of ds) (under l (lasts_of ds))) (lt-ltb d.level l h)
    ∙ sym (lasts_of-push ds d)

-- dropping the levels above first
pub under_under : (l m : ℕ) → l ≤ m → (ds : List Depth) → under l (under m ds) ≡ under l ds
under_under l m h [] = refl
under_under l m h (d ∷ ds) = elim (nat_lt d.level m) as (λ b. nat_lt d.level m ≡ b
    → under l (cond b (d ∷ ds) (under m ds)) ≡ cond (nat_lt d.level l) (d ∷ ds) (under l ds)) [
      | true ↦ λ e. refl
      | false ↦ λ e.
          let k : m ≤ d.level = ltb-false d.level m e in
          under_under l m h ds ∙ sym (ap (λ b. cond b (d ∷ ds) (under l ds)) (not_less d.level l (omega (arith, h, k))))
    ] refl

abbrev made : ℕ → ℕ → ℕ → ℕ → Depth
made l round arms owned = record { level = l; round = round; arms = arms; own = owned }

pub counts_by : (l : ℕ) (x : Shape) (old middle low new : List Depth) (arms round most_arms most_round owned : ℕ) (deep : Bool) →
    middle ≡ under (suc l) old → arms ≡ arms_top x l middle → low ≡ under l middle → round ≡ round_top low → most_round ≡ min 500 round
    → most_arms ≡ min 500 arms →
    owned ≡ own_of (clause_in x) → new ≡ record { level = l; round = most_round; arms = most_arms; own = owned } ∷ low
    → deep ≡ deep_in x most_round most_arms owned →
    Counts l x old new deep
counts_by l x old middle low new arms round most_arms most_round owned deep m a b r mr ma o n d =
    let lower : low ≡ under l old = b ∙ ap (under l) m ∙ under_under l (suc l) (omega arith) old in
    let rounds : most_round ≡ (last_in l x old).round = mr ∙ ap (λ z. min 500 z) (r ∙ ap round_top lower) in
    let counted_arms : most_arms ≡ (last_in l x old).arms = ma ∙ ap (λ z. min 500 z) (a ∙ ap (arms_top x l) m) in
    record {
      lasts =
          n ∙ ap (λ z. made l z most_arms owned ∷ low) rounds ∙ ap (λ z. made l (last_in l x old).round z owned ∷ low) counted_arms
          ∙ ap (λ z. made l (last_in l x old).round (last_in l x old).arms z ∷ low) o ∙ ap (λ z. last_in l x old ∷ z) lower;
      is_deep =
          d ∙ ap (λ z. deep_in x z most_arms owned) rounds ∙ ap (λ z. deep_in x (last_in l x old).round z owned) counted_arms
          ∙ ap (deep_in x (last_in l x old).round (last_in l x old).arms) o;
    }

-- ---- Counts that go no further count the same.

chosen : {A B : Type 0} (b : Bool) (f : A → B) (x y : A) → cond b (f x) (f y) ≡ f (cond b x y)
chosen true f x y = refl
chosen false f x y = refl

under_capped : (l : ℕ) (ds : List Depth) → under l (map capped ds) ≡ map capped (under l ds)
under_capped l [] = refl
under_capped l (d ∷ ds) = elim (nat_lt d.level l) as (λ b. cond b (map capped (d ∷ ds)) (under l (map capped ds)) ≡ map capped
    (cond b (d ∷ ds) (under l ds))) [
      | true ↦ refl
      | false ↦ under_capped l ds
    ]

round_is_top : (l : ℕ) (ds : List Depth) → round_at l ds ≡ round_top (under l ds)
round_is_top l [] = refl
round_is_top l (d ∷ ds) =
    elim (nat_lt d.level l) as (λ b. cond b (d.round + (d.arms + d.own)) (round_at l ds) ≡ round_top (cond b (d ∷ ds) (under l ds))) [
      | true ↦ refl
      | false ↦ round_is_top l ds
    ]

round_capped : (ds : List Depth) → min 500 (round_top (map capped ds)) ≡ min 500 (round_top ds)
round_capped [] = refl
round_capped (d ∷ ds) = omega arith

more_capped : (c : Option Clause) (n : ℕ) → min 500 (arms_more c (min 500 n)) ≡ min 500 (arms_more c n)
more_capped (Some clause.Elif) n = omega arith
more_capped (Some clause.Else) n = omega arith
more_capped _ n = refl

arms_capped : (x : Shape) (l : ℕ) (ds : List Depth) → min 500 (arms_top x l (map capped ds)) ≡ min 500 (arms_top x l ds)
arms_capped x l [] = refl
arms_capped x l (d ∷ ds) =
    elim (d.level == l) as (λ b. min 500 (cond b (arms_more (clause_in x) (min 500 d.arms)) 0) ≡ min 500
    (cond b (arms_more (clause_in x) d.arms) 0)) [
      | true ↦ more_capped (clause_in x) d.arms
      | false ↦ refl
    ]

-- a line that has no `elif`s before it, whatever it is
none_before : (x : Shape) (l : ℕ) (ds : List Depth) → ((n : ℕ) → arms_more (clause_in x) n ≡ 0) → arms_top x l ds ≡ 0
none_before x l [] h = refl
none_before x l (d ∷ ds) h = elim (d.level == l) as (λ b. cond b (arms_more (clause_in x) d.arms) 0 ≡ 0) [ true ↦ h d.arms | false ↦ refl ]

-- the level of a line, by one test of the two
here_or_deeper : {A : Type 0} (l m : ℕ) (deeper here : A) → cond (nat_lt m (suc l)) here deeper ≡ cond (nat_lt l m) deeper here
here_or_deeper l m deeper here = elim (nat_lt l m) as (λ b. nat_lt l m ≡ b → cond (nat_lt m (suc l)) here deeper ≡ cond b deeper here) [
  | true ↦ λ e. let k : l < m = ltb-true l m e in ap (λ b. cond b here deeper) (not_less m (suc l) k)
  | false ↦ λ e. let k : m ≤ l = ltb-false l m e in ap (λ b. cond b here deeper) (lt-ltb m (suc l) (omega (arith, k)))
] refl

elif_top : (l : ℕ) (ds : List Depth) (x : Shape) → clause_in x ≡ Some clause.Elif → arms_at ElifLine l ds ≡ arms_top x l (under (suc l) ds)
elif_top l [] x c = refl
elif_top l (d ∷ ds) x c =
    let here = cond (d.level == l) (1 + d.arms) 0 in
    ap (λ n. cond (nat_lt l d.level) n here) (elif_top l ds x c)
    ∙ ap (λ z. cond (nat_lt l d.level) (arms_top x l (under (suc l) ds)) (cond (d.level == l) (arms_more z d.arms) 0)) (sym c)
    ∙ sym (here_or_deeper l d.level (arms_top x l (under (suc l) ds)) (arms_top x l (d ∷ ds)))
    ∙ chosen (nat_lt d.level (suc l)) (arms_top x l) (d ∷ ds) (under (suc l) ds)

else_top : (l : ℕ) (ds : List Depth) (x : Shape) → clause_in x ≡ Some clause.Else → arms_at ElseLine l ds ≡ arms_top x l (under (suc l) ds)
else_top l [] x c = refl
else_top l (d ∷ ds) x c =
    let here = cond (d.level == l) d.arms 0 in
    ap (λ n. cond (nat_lt l d.level) n here) (else_top l ds x c)
    ∙ ap (λ z. cond (nat_lt l d.level) (arms_top x l (under (suc l) ds)) (cond (d.level == l) (arms_more z d.arms) 0)) (sym c)
    ∙ sym (here_or_deeper l d.level (arms_top x l (under (suc l) ds)) (arms_top x l (d ∷ ds)))
    ∙ chosen (nat_lt d.level (suc l)) (arms_top x l) (d ∷ ds) (under (suc l) ds)

-- the `elif`s before any other line
other_top : (k : Kind) (l : ℕ) (ds : List Depth) (x : Shape) → ((n : ℕ) → arms_more (clause_in x) n ≡ 0)
    → ((d : Depth) (es : List Depth) → arms_at k l (d ∷ es) ≡ 0) →
    arms_at k l ds ≡ arms_top x l (under (suc l) ds)
other_top k l [] x h e = refl
other_top k l (d ∷ ds) x h e = e d ds ∙ sym (none_before x l (under (suc l) (d ∷ ds)) h)

header_top : (h : Header) (l : ℕ) (ds : List Depth) (x : Shape) → clause_in x ≡ Some (clause_of h)
    → arms_at (header_kind h) l ds ≡ arms_top x l (under (suc l) ds)
header_top (elif_header t) l ds x c = elif_top l ds x c
header_top else_header l ds x c = else_top l ds x c
header_top (if_header t) l ds x c = other_top (header_kind (if_header t)) l ds x (λ n. ap (λ z. arms_more z n) c) (λ d es. refl)
header_top h l ds x c = other_top (header_kind h) l ds x (λ n. ap (λ z. arms_more z n) c) (λ d es. refl)

arms_are_top : (f : Form) (l : ℕ) (ds : List Depth) → arms_at (kind_of f) l ds ≡ arms_top (shape_of f) l (under (suc l) ds)
arms_are_top (simple_form ss) l ds = other_top (kind_of (simple_form ss)) l ds (shape_of (simple_form ss)) (λ n. refl) (λ d es. refl)
arms_are_top (decorator_form e) l ds = other_top (kind_of (decorator_form e)) l ds (shape_of (decorator_form e)) (λ n. refl) (λ d es. refl)
arms_are_top (header_form h None) l ds = header_top h l ds (shape_of (header_form h None)) refl
arms_are_top (header_form h (Some suite)) l ds = header_top h l ds (shape_of (header_form h (Some suite))) refl

-- ---- Statements that stand too deep.

both_deep : (m n : ℕ) → (500 ≤ m → 500 ≤ n) → (500 ≤ n → 500 ≤ m) → nat_le 500 m ≡ nat_le 500 n
both_deep m n p q = elim (nat_le 500 m) as (λ b. nat_le 500 m ≡ b → b ≡ nat_le 500 n) [
  | true ↦ λ e. let k : 500 ≤ m = leb-true 500 m e in sym (le-leb 500 n (p k))
  | false ↦ λ e. elim (nat_le 500 n) as (λ c. nat_le 500 n ≡ c → false ≡ c) [
    | true ↦ λ g. let k : 500 ≤ n = leb-true 500 n g in let i : nat_le 500 m ≡ true = le-leb 500 m (q k) in cc
    | false ↦ λ g. refl
  ] refl
] refl

later_is : (h : Header) → is_later (clause_of h) ≡ is_clause (header_kind h)
later_is else_header = refl
later_is _ = refl

own_is : (h : Header) → own_of (Some (clause_of h)) ≡ own (header_kind h)
own_is (case_header p g) = refl
own_is _ = refl

own_in : (f : Form) → own_of (clause_in (shape_of f)) ≡ own (kind_of f)
own_in (simple_form ss) = refl
own_in (decorator_form e) = refl
own_in (header_form h None) = own_is h
own_in (header_form h (Some suite)) = own_is h

deep_header : (b : Bool) (m n : ℕ) → nat_le 500 m ≡ nat_le 500 n → cond b false (nat_le 500 m) ≡ is_deep (cond b None (Some n))
deep_header true m n e = refl
deep_header false m n e = e

deep_is : (f : Form) (round arms : ℕ) → deep_in (shape_of f) (min 500 round) (min 500 arms) (own (kind_of f)) ≡
    is_deep (begins round arms f)
deep_is (simple_form ss) round arms = both_deep (min 500 round) round (λ h. omega (arith, h)) (λ h. omega (arith, h))
deep_is (decorator_form e) round arms = both_deep (min 500 round) round (λ h. omega (arith, h)) (λ h. omega (arith, h))
deep_is (header_form h (Some suite)) round arms = both_deep (min 500 round + (min 500 arms + own (header_kind h)))
    (round + (arms + own (header_kind h))) (λ k. omega (arith, k)) (λ k. omega (arith, k))
deep_is (header_form h None) round arms =
    ap (λ b. cond b false (nat_le 500 (min 500 round + min 500 arms))) (later_is h)
    ∙ deep_header (is_clause (header_kind h)) (min 500 round + min 500 arms) (round + arms)
    (both_deep (min 500 round + min 500 arms) (round + arms) (λ k. omega (arith, k)) (λ k. omega (arith, k)))

-- ---- One line more.

last_is : (l : ℕ) (f : Form) (ds : List Depth) → last_in l (shape_of f) (map capped ds) ≡ capped (depth_of (line l f) ds)
last_is l f ds =
    let rounds : min 500 (round_top (under l (map capped ds))) ≡ min 500 (round_at l ds) =
    ap (λ z. min 500 (round_top z)) (under_capped l ds) ∙ round_capped (under l ds) ∙ ap (λ z. min 500 z) (sym (round_is_top l ds)) in
    let arms : min 500 (arms_top (shape_of f) l (under (suc l) (map capped ds))) ≡ min 500 (arms_at (kind_of f) l ds) =
    ap (λ z. min 500 (arms_top (shape_of f) l z)) (under_capped (suc l) ds) ∙ arms_capped (shape_of f) l (under (suc l) ds)
    ∙ ap (λ z. min 500 z) (sym (arms_are_top f l ds)) in
    ap (λ z. made l z (min 500 (arms_top (shape_of f) l (under (suc l) (map capped ds)))) (own_of (clause_in (shape_of f)))) rounds
    ∙ ap (λ z. made l (min 500 (round_at l ds)) z (own_of (clause_in (shape_of f)))) arms
    ∙ ap (made l (min 500 (round_at l ds)) (min 500 (arms_at (kind_of f) l ds))) (own_in f)

pub line_counted : (l : ℕ) (f : Form) (ds new : List Depth) (deep : Bool) → Counts l (shape_of f) (map capped ds) new deep
    → new ≡ map capped (counted ds (line l f))
line_counted l f ds new deep c = c.lasts ∙ ap (λ z. z ∷ under l (map capped ds)) (last_is l f ds)
    ∙ ap (λ z. capped (depth_of (line l f) ds) ∷ z) (under_capped l ds)

pub line_deep : (l : ℕ) (f : Form) (ds new : List Depth) (deep : Bool) → Counts l (shape_of f) (map capped ds) new deep
    → deep ≡ is_deep (innermost (line l f) ds)
line_deep l f ds new deep c = c.is_deep ∙ ap (λ z. deep_in (shape_of f) z.round z.arms z.own) (last_is l f ds)
    ∙ deep_is f (round_at l ds) (arms_at (kind_of f) l ds)
