-- Which nodes end before a line. Carries: Adding, Law.
use Rattle.std.proofs.Common.{◌≡◌, refl, sym, ap, ◌∙◌, subst, ℕ, suc, ◌<◌, ◌≤◌, arith, Bool, true, false, not, ◌&&◌, nat_lt, nat_le, cond}
use Rattle.std.proofs.Common.{List, [], ◌∷◌, ◌++◌}
use Rattle.std.proofs.lemmas.Bool.{leb-true, ltb-true, le-leb, lt-ltb}
use Rattle.pyplaces.specs.Stretches.{Span}
use Rattle.pyplaces.specs.Steps.{OpenNode, node, State, state, ends, closing, settle_in, settle}

-- none of these nodes ends before such a line
abbrev pub Stays : ℕ → Bool → List OpenNode → Type 0
Stays l c [] = Unit {0}
Stays l c (n ∷ ns) = ends l c n ≡ false

-- a node that ends before the first line would end before the second
abbrev pub Within : ℕ → Bool → ℕ → Bool → Type 0
Within m d l c = (n : OpenNode) → ends m d n ≡ true → ends l c n ≡ true

-- ---- One node.

pub ended : (l : ℕ) (c : Bool) (sp ds : List Span) (n : OpenNode) (ns : List OpenNode) (e : ℕ) → ends l c n ≡ true →
    settle_in l c sp ds (n ∷ ns) e ≡ settle_in l c (sp ++ closing e n) ds ns e
ended l c sp ds n ns e h = ap (λ b. cond b (settle_in l c (sp ++ closing e n) ds ns e) (state sp ds (n ∷ ns) e)) h

pub stays : (l : ℕ) (c : Bool) (sp ds : List Span) (ns : List OpenNode) (e : ℕ) → Stays l c ns → settle_in l c sp ds ns e ≡ state sp ds ns e
stays l c sp ds [] e h = refl
stays l c sp ds (n ∷ ns) e h = ap (λ b. cond b (settle_in l c (sp ++ closing e n) ds ns e) (state sp ds (n ∷ ns) e)) h

-- ---- All nodes.

settled_stays : (l : ℕ) (c : Bool) (sp ds : List Span) (ns : List OpenNode) (e : ℕ) → Stays l c (settle_in l c sp ds ns e).nodes
settled_stays l c sp ds [] e = tt
settled_stays l c sp ds (n ∷ ns) e =
    elim (ends l c n) as (λ b. ends l c n ≡ b
    → Stays l c (cond b (settle_in l c (sp ++ closing e n) ds ns e) (state sp ds (n ∷ ns) e)).nodes) [
      | true ↦ λ h. settled_stays l c (sp ++ closing e n) ds ns e
      | false ↦ λ h. h
    ] refl

-- what is left stays
pub steady : (l : ℕ) (c : Bool) (s : State) (sp ds : List Span) (os : List OpenNode) (e : ℕ)
    → settle l c s ≡ state sp ds os e → Stays l c os
steady l c s sp ds os e h = let P : State → Type 0 = λ t. Stays l c t.nodes in
    subst P h (settled_stays l c s.spans s.decorators s.nodes s.stop)

absorbed_in : (m : ℕ) (d : Bool) (l : ℕ) (c : Bool) → Within m d l c → (sp ds : List Span) (ns : List OpenNode) (e : ℕ) →
    settle l c (settle_in m d sp ds ns e) ≡ settle_in l c sp ds ns e
absorbed_in m d l c w sp ds [] e = refl
absorbed_in m d l c w sp ds (n ∷ ns) e =
    elim (ends m d n) as (λ b. ends m d n ≡ b →
    settle l c (cond b (settle_in m d (sp ++ closing e n) ds ns e) (state sp ds (n ∷ ns) e)) ≡ settle_in l c sp ds (n ∷ ns) e) [
      | true ↦ λ h. absorbed_in m d l c w (sp ++ closing e n) ds ns e ∙ sym (ended l c sp ds n ns e (w n h))
      | false ↦ λ h. refl
    ] refl

-- the nodes that end before a line end with those that ended before one whose nodes are among them
pub resumed : (m : ℕ) (d : Bool) (l : ℕ) (c : Bool) → Within m d l c → (s : State) (sp ds : List Span) (os : List OpenNode) (e : ℕ) →
    settle m d s ≡ state sp ds os e → settle l c s ≡ settle_in l c sp ds os e
resumed m d l c w s sp ds os e h = sym (absorbed_in m d l c w s.spans s.decorators s.nodes s.stop) ∙ ap (settle l c) h

pub later : (m : ℕ) (d : Bool) (l : ℕ) (c : Bool) → Within m d l c → (s : State) (sp ds : List Span) (os : List OpenNode) (e : ℕ) →
    settle m d s ≡ state sp ds os e → Stays l c os → settle l c s ≡ state sp ds os e
later m d l c w s sp ds os e h k = resumed m d l c w s sp ds os e h ∙ stays l c sp ds os e k

pub still : (m : ℕ) (d : Bool) (l : ℕ) (c : Bool) → Within m d l c → (os : List OpenNode) → Stays l c os → Stays m d os
still m d l c w [] h = tt
still m d l c w (n ∷ ns) h =
    elim (ends m d n) as (λ b. ends m d n ≡ b → b ≡ false) [
      | true ↦ λ k. sym (w n k) ∙ h
      | false ↦ λ k. refl
    ] refl

-- ---- Which lines' nodes are among which.

deeper : (b : Bool) (l m : ℕ) → nat_le (suc l) m ≡ true → cond b (nat_lt l m) (nat_le l m) ≡ true
deeper true l m h = let k : suc l ≤ m = leb-true (suc l) m h in lt-ltb l m (omega arith)
deeper false l m h = let k : suc l ≤ m = leb-true (suc l) m h in le-leb l m (omega arith)

not_deeper : (b : Bool) (l m : ℕ) → cond b (nat_lt l m) (nat_le l m) ≡ true → nat_le l m ≡ true
not_deeper true l m h = let k : l < m = ltb-true l m h in le-leb l m (omega arith)
not_deeper false l m h = h

pub below_within : (l : ℕ) (c : Bool) → Within (suc l) false l c
below_within l c n h = deeper (c && not n.is_handler) l n.level h

pub clause_within : (l : ℕ) → Within l true l false
clause_within l n h = not_deeper (not n.is_handler) l n.level h

pub inner_within : (l : ℕ) → Within (suc l) true l false
inner_within l n h = let k : suc l ≤ n.level = leb-true (suc l) n.level (not_deeper (not n.is_handler) (suc l) n.level h) in
    le-leb l n.level (omega arith)

-- ---- A node of the same level, and of the one below.

not_same : (l : ℕ) → nat_lt l l ≡ false
not_same l =
    elim (nat_lt l l) as (λ b. nat_lt l l ≡ b → b ≡ false) [
      | true ↦ λ h. let k : l < l = ltb-true l l h in absurd (omega (arith, k))
      | false ↦ λ h. refl
    ] refl

not_suc : (l : ℕ) → nat_le (suc l) l ≡ false
not_suc l =
    elim (nat_le (suc l) l) as (λ b. nat_le (suc l) l ≡ b → b ≡ false) [
      | true ↦ λ h. let k : suc l ≤ l = leb-true (suc l) l h in absurd (omega (arith, k))
      | false ↦ λ h. refl
    ] refl

same : (l : ℕ) → nat_le l l ≡ true
same l = let k : l ≤ l = omega arith in le-leb l l k

-- a statement goes on at a clause of its level, and ends at another line of it
pub goes_on : (l a : ℕ) (bs : List Span) → ends l true (node l false a bs) ≡ false
goes_on l a bs = not_same l

pub ends_here : (l a : ℕ) (bs : List Span) → ends l false (node l false a bs) ≡ true
ends_here l a bs = same l

-- a handler ends at each line of its level
pub handler_ends : (l a : ℕ) (bs : List Span) → ends l true (node l true a bs) ≡ true
handler_ends l a bs = same l

-- neither ends at a deeper line
pub lasts : (l : ℕ) (is_handler : Bool) (a : ℕ) (bs : List Span) → ends (suc l) false (node l is_handler a bs) ≡ false
lasts l is_handler a bs = not_suc l

pub lasts_at_clause : (l a : ℕ) (bs : List Span) → ends (suc l) true (node l false a bs) ≡ false
lasts_at_clause l a bs =
    elim (nat_lt (suc l) l) as (λ b. nat_lt (suc l) l ≡ b → b ≡ false) [
      | true ↦ λ h. let k : suc l < l = ltb-true (suc l) l h in absurd (omega (arith, k))
      | false ↦ λ h. refl
    ] refl
