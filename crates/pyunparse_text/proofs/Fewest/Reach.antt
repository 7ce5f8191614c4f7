-- Carries: the laws of fewest brackets. On: which levels lead to which, and what stands at one of
-- them in brackets or without.
use Rattle.std.proofs.Common.{◌≡◌, refl, sym, ap, subst, ◌∙◌, ℕ, zero, suc, ◌+◌, ◌≤◌, ◌<◌, arith, List, [], ◌∷◌, length, Bool, true, false}
use Rattle.std.proofs.Common.{cond}
use Rattle.std.proofs.Common.{length-append}
use Rattle.std.specs.Prelude.{eqb, get_or, ◌||◌}
use Rattle.std.specs.List.{list_all}
use Rattle.std.proofs.lemmas.Bool.{eqb-true}
use Rattle.std.proofs.lemmas.List.Folds.{list_all_at}
use Rattle.pytree_node.specs.declared.operators.Operator.{Operator}
use Rattle.pytree_node.specs.declared.operators.Operator.TheVariants as Bin
use Rattle.pytree_node.specs.declared.operators.UnaryOperator.{UnaryOperator}
use Rattle.pytree_node.specs.declared.operators.UnaryOperator.TheVariants as Un
use Rattle.pytree_node.specs.declared.operators.BoolOperator.{BoolOperator}
use Rattle.pytree_node.specs.declared.operators.BoolOperator.TheVariants as Join
use Rattle.pygrammar.specs.declared.levels.Level.{Level}
use Rattle.pygrammar.specs.declared.levels.Level.TheVariants.{Value, Stars, StarItem, Named, Expression, Or, And, Not, Compare, BitOr}
use Rattle.pygrammar.specs.declared.levels.Level.TheVariants.{BitXor, BitAnd}
use Rattle.pygrammar.specs.declared.levels.Level.TheVariants.{Shift, Sum, Term, Factor, Power, Await, Primary, Atom, Elem, Slices, Part}
use Rattle.pygrammar.specs.declared.levels.Level.TheVariants.{Slice}
use Rattle.pygrammar.specs.declared.levels.Level.TheVariants.{Subject}
use Rattle.pytree_node.specs.Trees.{Expr}
use Rattle.pytoken.specs.Terminals.{Terminal}
use Rattle.pygrammar.specs.Operators.{below, chain_level, rank}
use Rattle.pygrammar.specs.Grammar as G
use Rattle.pyunparse_text.specs.Levels.{leads, reaches, operator_level, unary_level}
use Rattle.pyunparse_text.specs.Written.{Maker, bracketed, fit}
use Rattle.pyunparse_text.specs.Terminals.{terminal}
use Rattle.pyunparse_text.proofs.Fewest.Counted.{one}

-- ---- All levels, in the order of their ranks.

abbrev pub levels : List Level
levels =
    Subject ∷ Value ∷ Slices ∷ Stars ∷ Part ∷ Slice ∷ StarItem ∷ Elem ∷ Named ∷ Expression ∷ Or ∷ And ∷ Not ∷ Compare ∷ BitOr ∷ BitXor ∷
    BitAnd ∷ Shift ∷ Sum ∷ Term ∷ Factor ∷ Power ∷ Await ∷ Primary ∷ Atom ∷ []

-- a level's place among them
record Placed (l : Level) : Type 0 where
  among : rank l < length levels
  is : get_or levels (rank l) Atom ≡ l

placed : (l : Level) → Placed l
placed Subject = record { among = omega arith; is = refl }
placed Value = record { among = omega arith; is = refl }
placed Stars = record { among = omega arith; is = refl }
placed StarItem = record { among = omega arith; is = refl }
placed Named = record { among = omega arith; is = refl }
placed Expression = record { among = omega arith; is = refl }
placed Or = record { among = omega arith; is = refl }
placed And = record { among = omega arith; is = refl }
placed Not = record { among = omega arith; is = refl }
placed Compare = record { among = omega arith; is = refl }
placed BitOr = record { among = omega arith; is = refl }
placed BitXor = record { among = omega arith; is = refl }
placed BitAnd = record { among = omega arith; is = refl }
placed Shift = record { among = omega arith; is = refl }
placed Sum = record { among = omega arith; is = refl }
placed Term = record { among = omega arith; is = refl }
placed Factor = record { among = omega arith; is = refl }
placed Power = record { among = omega arith; is = refl }
placed Await = record { among = omega arith; is = refl }
placed Primary = record { among = omega arith; is = refl }
placed Atom = record { among = omega arith; is = refl }
placed Elem = record { among = omega arith; is = refl }
placed Slices = record { among = omega arith; is = refl }
placed Part = record { among = omega arith; is = refl }
placed Slice = record { among = omega arith; is = refl }

same_level : (l k : Level) → eqb (rank l) (rank k) ≡ true → l ≡ k
same_level l k h = sym (placed l).is ∙ (ap (λ n. get_or levels n Atom) (eqb-true (rank l) (rank k) h) ∙ (placed k).is)

-- what holds of all of them, by computation
pub every : (p : Level → Bool) → list_all p levels ≡ true → (l : Level) → p l ≡ true
every p h l = subst (λ k. p k ≡ true) (placed l).is (by (p (get_or levels (rank l) Atom)) refl)
  where
    by : (b : Bool) → p (get_or levels (rank l) Atom) ≡ b → p (get_or levels (rank l) Atom) ≡ true
    by true q = q
    by false q = let f = list_all_at p levels (rank l) Atom (placed l).among q in absurd (cc)

-- ---- What leads to a level.

climb_in : (n : ℕ) (l k : Level) (ts : List Terminal) (e : Expr) → leads n l k ≡ true → G.Derives k ts e → G.Derives l ts e
unfolding leads
climb_in zero l k ts e h p = absurd (cc)
climb_in (suc n) l k ts e h p = by (eqb (rank l) (rank k)) refl h (λ q. climb_in n (below l) k ts e q p)
  where
    by : (b : Bool) → eqb (rank l) (rank k) ≡ b → (b || leads n (below l) k) ≡ true
        → (leads n (below l) k ≡ true → G.Derives (below l) ts e)
        → G.Derives l ts e
    by true q h r = subst (λ x. G.Derives x ts e) (sym (same_level l k q)) p
    by false q h r = G.next (r h)

pub climb : (l k : Level) {ts : List Terminal} {e : Expr} → reaches l k ≡ true → G.Derives k ts e → G.Derives l ts e
unfolding reaches
climb l k {ts} {e} h p = climb_in 19 l k ts e h p

-- the second, if the first
abbrev pub implied : Bool → Bool → Bool
implied true b = b
implied false b = true

pub reaches_self : (l : Level) → reaches l l ≡ true
unfolding reaches leads
reaches_self = every (λ l. reaches l l) refl

pub to_atom : (l : Level) → reaches l Atom ≡ true
unfolding reaches leads
to_atom = every (λ l. reaches l Atom) refl

below_all : (l : Level) → list_all (λ k. implied (reaches (below l) k) (reaches l k)) levels ≡ true
unfolding reaches leads
below_all = every (λ l. list_all (λ k. implied (reaches (below l) k) (reaches l k)) levels) refl

pub from_below : (l k : Level) → implied (reaches (below l) k) (reaches l k) ≡ true
from_below l = every (λ k. implied (reaches (below l) k) (reaches l k)) (below_all l)

pub to_expression : (k : Level) → implied (reaches BitOr k) (reaches Expression k) ≡ true
unfolding reaches leads
to_expression = every (λ k. implied (reaches BitOr k) (reaches Expression k)) refl

-- the levels of operators lie below these four
pub record Deep (k : Level) : Type 0 where
  pub named : reaches Named k ≡ true
  pub part : reaches Part k ≡ true
  pub starred : reaches StarItem k ≡ true
  pub elem_too : reaches Elem k ≡ true

pub operator_deep : (o : Operator) → Deep (operator_level o)
unfolding reaches leads
operator_deep Bin.Add = record { named = refl; part = refl; starred = refl; elem_too = refl }
operator_deep Bin.Sub = record { named = refl; part = refl; starred = refl; elem_too = refl }
operator_deep Bin.Mult = record { named = refl; part = refl; starred = refl; elem_too = refl }
operator_deep Bin.MatMult = record { named = refl; part = refl; starred = refl; elem_too = refl }
operator_deep Bin.Div = record { named = refl; part = refl; starred = refl; elem_too = refl }
operator_deep Bin.Mod = record { named = refl; part = refl; starred = refl; elem_too = refl }
operator_deep Bin.Pow = record { named = refl; part = refl; starred = refl; elem_too = refl }
operator_deep Bin.LShift = record { named = refl; part = refl; starred = refl; elem_too = refl }
operator_deep Bin.RShift = record { named = refl; part = refl; starred = refl; elem_too = refl }
operator_deep Bin.BitOr = record { named = refl; part = refl; starred = refl; elem_too = refl }
operator_deep Bin.BitXor = record { named = refl; part = refl; starred = refl; elem_too = refl }
operator_deep Bin.BitAnd = record { named = refl; part = refl; starred = refl; elem_too = refl }
operator_deep Bin.FloorDiv = record { named = refl; part = refl; starred = refl; elem_too = refl }

pub chain_deep : (o : BoolOperator) → Deep (chain_level o)
unfolding reaches leads
chain_deep Join.And = record { named = refl; part = refl; starred = refl; elem_too = refl }
chain_deep Join.Or = record { named = refl; part = refl; starred = refl; elem_too = refl }

pub unary_deep : (o : UnaryOperator) → Deep (unary_level o)
unfolding reaches leads
unary_deep Un.Not = record { named = refl; part = refl; starred = refl; elem_too = refl }
unary_deep Un.UAdd = record { named = refl; part = refl; starred = refl; elem_too = refl }
unary_deep Un.USub = record { named = refl; part = refl; starred = refl; elem_too = refl }
unary_deep Un.Invert = record { named = refl; part = refl; starred = refl; elem_too = refl }

pub deep_expression : Deep Expression
unfolding reaches leads
deep_expression = record { named = refl; part = refl; starred = refl; elem_too = refl }

pub deep_compare : Deep Compare
unfolding reaches leads
deep_compare = record { named = refl; part = refl; starred = refl; elem_too = refl }

pub deep_await : Deep Await
unfolding reaches leads
deep_await = record { named = refl; part = refl; starred = refl; elem_too = refl }

pub deep_primary : Deep Primary
unfolding reaches leads
deep_primary = record { named = refl; part = refl; starred = refl; elem_too = refl }

pub expression_primary : reaches Expression Primary ≡ true
unfolding reaches leads
expression_primary = refl

-- the three forms that no operator's level holds, as elements
pub part_elem_value : implied (reaches Elem Value) (reaches Part Value) ≡ true
unfolding reaches leads
part_elem_value = refl

pub part_elem_named : implied (reaches Elem Named) (reaches Part Named) ≡ true
unfolding reaches leads
part_elem_named = refl

pub part_elem_slice : implied (reaches Elem Slice) (reaches Part Slice) ≡ true
unfolding reaches leads
part_elem_slice = refl

pub elem_star_value : implied (reaches StarItem Value) (reaches Elem Value) ≡ true
unfolding reaches leads
elem_star_value = refl

pub elem_star_named : implied (reaches StarItem Named) (reaches Elem Named) ≡ true
unfolding reaches leads
elem_star_named = refl

pub elem_star_slice : implied (reaches StarItem Slice) (reaches Elem Slice) ≡ true
unfolding reaches leads
elem_star_slice = refl

pub star_elem_value : implied (reaches Elem Value) (reaches StarItem Value) ≡ true
unfolding reaches leads
star_elem_value = refl

pub star_elem_slice : implied (reaches Elem Slice) (reaches StarItem Slice) ≡ true
unfolding reaches leads
star_elem_slice = refl

pub star_named_not : reaches StarItem Named ≡ false
unfolding reaches leads
star_named_not = refl

pub elem_named_is : reaches Elem Named ≡ true
unfolding reaches leads
elem_named_is = refl

-- ---- A form of the level k at the level l.

pub fits : (l k : Level) (ts : List Terminal) (e : Expr) → G.Derives k ts e → G.Derives Atom (bracketed terminal ts) e
    → G.Derives l (fit terminal l k ts) e
unfolding fit
fits l k ts e p g = by (reaches l k) refl
  where
    by : (b : Bool) → reaches l k ≡ b → G.Derives l (cond b ts (bracketed terminal ts)) e
    by true q = climb l k q p
    by false q = climb l Atom (to_atom l) g

pub fits_within : (l k : Level) (ts : List Terminal) (e : Expr) → reaches l k ≡ true → G.Derives k ts e
    → G.Derives l (fit terminal l k ts) e
unfolding fit
fits_within l k ts e h p = subst (λ b. G.Derives l (cond b ts (bracketed terminal ts)) e) (sym h) (climb l k h p)

pub fit_as_is : {A : Type 0} (make : Maker A) (l k : Level) (ts : List A) → reaches l k ≡ true → fit make l k ts ≡ ts
unfolding fit
fit_as_is make l k ts h = ap (λ b. cond b ts (bracketed make ts)) h

pub fit_within : (l k : Level) (ts : List Terminal) → reaches l k ≡ true → fit terminal l k ts ≡ ts
unfolding fit
fit_within l k ts h = fit_as_is terminal l k ts h

pub fit_marks : (l k : Level) (ms : List (Unit {0})) → reaches l k ≡ true → fit one l k ms ≡ ms
unfolding fit
fit_marks l k ms h = fit_as_is one l k ms h

pub length_bracketed : (ts : List (Unit {0})) → length (bracketed one ts) ≡ length ts + 2
length_bracketed ts = simp length-append (omega arith)

-- more levels lead to it: no more brackets
pub fit_less : (l m k : Level) (ts : List (Unit {0})) → implied (reaches m k) (reaches l k) ≡ true
    → length (fit one l k ts) ≤ length (fit one m k ts)
unfolding fit
fit_less l m k ts h = by (reaches l k) (reaches m k) h
  where
    by : (b c : Bool) → implied c b ≡ true → length (cond b ts (bracketed one ts)) ≤ length (cond c ts (bracketed one ts))
    by true true h = omega arith
    by true false h = omega (arith, length_bracketed ts)
    by false false h = omega arith
    by false true h = absurd (cc)

pub fit_more : (l m k : Level) (ts : List (Unit {0})) → length (fit one l k ts) ≤ length (fit one m k ts) + 2
unfolding fit
fit_more l m k ts = by (reaches l k) (reaches m k)
  where
    by : (b c : Bool) → length (cond b ts (bracketed one ts)) ≤ length (cond c ts (bracketed one ts)) + 2
    by true true = omega arith
    by true false = omega (arith, length_bracketed ts)
    by false false = omega arith
    by false true = omega (arith, length_bracketed ts)

pub fit_two : (l m k : Level) (ts : List (Unit {0})) → reaches l k ≡ false → reaches m k ≡ true
    → length (fit one l k ts) ≡ length (fit one m k ts) + 2
unfolding fit
fit_two l m k ts p q =
    ap (λ b. length (cond b ts (bracketed one ts))) p ∙ (length_bracketed ts ∙ ap (λ b. length (cond b ts (bracketed one ts)) + 2) (sym q))
