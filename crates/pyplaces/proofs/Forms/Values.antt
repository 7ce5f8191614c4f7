-- A value that was read as a target, by the shape of its tree.
--
-- Carries: stored, single_stored, augmented, annotated_value, assignment. On: Readings.
use Rattle.std.proofs.Common.{◌≡◌, ◌⊎◌, inl, inr, refl, sym, ap, ◌∙◌, ℕ, ◌+◌, arith, List, [], ◌∷◌, ◌++◌, length, Option, Some, None}
use Rattle.std.proofs.Common.{true, append_assoc, length-append}
use Rattle.pylex_lexeme.specs.declared.kinds.Exact.TheVariants as Sign
use Rattle.pytree_node.specs.declared.operators.Operator.{Operator}
use Rattle.pytree_node.specs.declared.operators.UnaryOperator.{UnaryOperator}
use Rattle.pytree_node.specs.declared.operators.BoolOperator.{BoolOperator}
use Rattle.pytree_node.specs.declared.operators.BoolOperator.TheVariants as Join
use Rattle.pygrammar.specs.declared.levels.Level.{Level}
use Rattle.pygrammar.specs.declared.levels.Level.TheVariants.{Value, Stars, Primary}
use Rattle.pytree_node.specs.Trees.{Expr}
use Rattle.pytoken.specs.Terminals.{Spelled, Terminal, Op, Ident}
use Rattle.pygrammar.specs.Operators.{below, left_operator, prefix_operator, chain_level}
use Rattle.pygrammar.specs.Targets.{stored, single_stored}
use Rattle.pygrammar.specs.Grammar as G
use Rattle.pygrammar.specs.Forms.{is_name}
use Rattle.pygrammar.proofs.Callers.Lines.{called_name}
use Rattle.pyplaces.specs.Stretches.{Stretch}
use Rattle.pyplaces.specs.ExpressionPlaces.{places}
use Rattle.pyplaces.specs.Placed.{Placed, PlacedSingleTarget, PlacedTarget}
use Rattle.pyplaces.proofs.Fronts.{front_of, built}
use Rattle.pyplaces.proofs.Expressions.Readings.{placed_target, placed_single_target}

-- the same places, at another level
abbrev Same : {l : Level} (m : Level) {ts : List Terminal} {e : Expr} → G.Derives l ts e → Type 0
Same m {ts} {e} d = (p : G.Derives m ts e) × ((n : ℕ) → places n p ≡ places n d)

-- a Name, Attribute or Subscript was derived as a Primary
to_primary : {l : Level} {ts : List Terminal} {e : Expr} (s : Expr) (d : G.Derives l ts e) → single_stored e ≡ Some s → Same Primary d
to_primary s (G.next p) h = to_primary s p h
to_primary s (G.attribute x p) h = (G.attribute x p, λ n. refl)
to_primary s (G.call p c k) h = (G.call p c k, λ n. refl)
to_primary s (G.subscript p q) h = (G.subscript p q, λ n. refl)
to_primary s G.name h = (G.next G.name, λ n. refl)
to_primary s (G.group p) h = (G.next (G.group p), λ n. refl)
to_primary s (G.yield_group p) h = (G.next (G.yield_group p), λ n. refl)
to_primary s (G.yields (G.yield_from p)) h = absurd (cc)
to_primary s (G.yields (G.yield_some p)) h = absurd (cc)
to_primary s _ h = absurd (cc)

pub single_target : {l : Level} {i r : List Terminal} {at following : ℕ} {e s : Expr} {ps : List Stretch} → Placed l i at e r following ps
    → single_stored e ≡ Some s → PlacedSingleTarget i at s r following ps
single_target {at = at} {s = s} p h =
    let d = to_primary s p.derived h in placed_single_target (built {f = λ ts. places} (front_of p) d.0 (d.1 at ∙ p.places_are)) h

-- a yield is no target
abbrev ValueInv : (l : Level) (ts : List Terminal) (e : Expr) → G.Derives l ts e → Type 0
ValueInv Value ts e d = (Same Stars d) ⊎ (stored e ≡ None)
ValueInv l ts e d = Unit {0}

next_inv : (l : Level) (ts : List Terminal) (e : Expr) (p : G.Derives (below l) ts e) → ValueInv l ts e (G.next p)
next_inv Value ts e p = inl (p, λ n. refl)
next_inv _ ts e p = tt

unary_inv : (l : Level) (t : Terminal) (o : UnaryOperator) (ts : List Terminal) (e : Expr) (d : G.Derives l ts e)
    → prefix_operator l t ≡ Some o
    → ValueInv l ts e d
unary_inv Value t o ts e d h = absurd (cc)
unary_inv _ t o ts e d h = tt

binary_inv : (l : Level) (t : Terminal) (o : Operator) (ts : List Terminal) (e : Expr) (d : G.Derives l ts e) → left_operator l t ≡ Some o
    → ValueInv l ts e d
binary_inv Value t o ts e d h = absurd (cc)
binary_inv _ t o ts e d h = tt

chain_inv : (o : BoolOperator) (ts : List Terminal) (e : Expr) (d : G.Derives (chain_level o) ts e) → ValueInv (chain_level o) ts e d
chain_inv Join.And ts e d = tt
chain_inv Join.Or ts e d = tt

value_inv : {l : Level} {ts : List Terminal} {e : Expr} (d : G.Derives l ts e) → ValueInv l ts e d
value_inv (G.next {l = l} {ts = ts} {e = e} p) = next_inv l ts e p
value_inv (G.unary {l = l} {t = t} {o = o} h p) = unary_inv l t o _ _ (G.unary h p) h
value_inv (G.binary {l = l} {o = o} t h p q) = binary_inv l t o _ _ (G.binary t h p q) h
value_inv (G.chain {o = o} p c) = chain_inv o _ _ (G.chain p c)
value_inv (G.yields (G.yield_from p)) = inr refl
value_inv (G.yields (G.yield_some p)) = inr refl
value_inv _ = tt

pub value_target : {i r : List Terminal} {at following : ℕ} {e s : Expr} {ps : List Stretch} → Placed Value i at e r following ps
    → stored e ≡ Some s → PlacedTarget i at s r following ps
value_target {at = at} {s = s} p h = elim (value_inv p.derived) [
  | inl d ↦ placed_target (built {f = λ ts. places} (front_of p) d.0 (d.1 at ∙ p.places_are)) h
  | inr u ↦ absurd (some_none s (sym h ∙ u))
]
  where
    some_none : (s : Expr) → ◌≡◌ {A = Option Expr} (Some s) None → ⊥
    some_none s h = absurd (cc)

-- ---- A Name stands alone or in brackets.

abbrev NameInv : (ts : List Terminal) (e : Expr) → (ℕ → List Stretch) → Type 0
NameInv ts e ps = ((x : Spelled) × (ts ≡ Ident x ∷ [])) ⊎ ((us : List Terminal) × (ts ≡ Op Sign.LPar ∷ (us ++ (Op Sign.RPar ∷ []))) ×
    (d : G.Derives Primary us e) × ((n : ℕ) → places (1 + n) d ≡ ps n))

name_inv : {l : Level} {ts : List Terminal} {e : Expr} (s : Expr) (d : G.Derives l ts e) → single_stored e ≡ Some s → is_name e ≡ true
    → NameInv ts e (λ n. places n d)
name_inv s (G.next p) h k = name_inv s p h k
name_inv s (G.name {x = x}) h k = inl (x, refl)
name_inv s (G.group {ts = ts} p) h k = let d = to_primary s p h in inr (ts, refl, d.0, λ n. d.1 (1 + n))
name_inv s (G.call {f = f} {e = e} {es = es} p c q) h k = absurd (cc (called_name f e es q, k))
name_inv s (G.yields (G.yield_from p)) h k = absurd (cc)
name_inv s (G.yields (G.yield_some p)) h k = absurd (cc)
name_inv s (G.yield_group (G.yield_from p)) h k = absurd (cc)
name_inv s (G.yield_group (G.yield_some p)) h k = absurd (cc)
name_inv s _ h k = absurd (cc)

-- a Name in front of a sign that it doesn't stand alone before: its brackets, and the target in them
pub record Grouped (i : List Terminal) (at : ℕ) (s : Expr) (r : List Terminal) (following : ℕ) (ps : List Stretch) : Type 0 where
  pub inside : List Terminal
  pub last : List Terminal
  pub stop : ℕ
  pub open_is : i ≡ Op Sign.LPar ∷ inside
  pub target : PlacedSingleTarget inside (at + 1) s last stop ps
  pub close_is : last ≡ Op Sign.RPar ∷ r
  pub ends : stop + 1 ≡ following

pub grouped_name : {l : Level} {i r : List Terminal} {at following : ℕ} {e s : Expr} {ps : List Stretch} → Placed l i at e r following ps
    → single_stored e ≡ Some s → is_name e ≡ true → ((x : Spelled) → i ≡ Ident x ∷ r → ⊥) → Grouped i at s r following ps
grouped_name {r = r} {at = at} {following = following} {s = s} p h k f = elim (name_inv s p.derived h k) [
  | inl u ↦ absurd (f u.0 (p.is ∙ ap (λ z. z ++ r) u.1))
  | inr u ↦ record {
    inside = u.0 ++ (Op Sign.RPar ∷ r);
    last = Op Sign.RPar ∷ r;
    stop = at + 1 + length u.0;
    open_is = p.is ∙ (ap (λ z. z ++ r) u.1 ∙ ap (λ z. Op Sign.LPar ∷ z) (append_assoc u.0 (Op Sign.RPar ∷ []) r));
    target = placed_single_target (built {f = λ ts. places} (record { is = refl; ends = refl }) u.2
        (ap (λ z. places z u.2) (omega arith) ∙ (u.3 at ∙ p.places_are))) h;
    close_is = refl;
    ends = omega (arith, p.ends, ap length u.1, length-append u.0 (Op Sign.RPar ∷ []));
  }
]
