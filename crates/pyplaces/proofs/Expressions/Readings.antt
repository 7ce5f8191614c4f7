-- What was read at one level, as what stands around it takes it: an element without a star, a key, a part of a subscript, a target.
--
-- Carries: round, square, curly, keyed, read_part, read_slices, read_slice, target_item, read_target, store. On: Levels, Lower, Slices.
use Rattle.std.proofs.Common.{◌≡◌, ◌⊎◌, inl, inr, refl, ap, ◌∙◌, ℕ, ◌+◌, arith, List, [], ◌∷◌, ◌++◌, append_assoc, Some}
use Rattle.pylex_lexeme.specs.declared.kinds.Exact.TheVariants.{Star, ColonEqual}
use Rattle.pytree_node.specs.declared.operators.Context.TheVariants.{Load}
use Rattle.pygrammar.specs.declared.levels.Level.{Level}
use Rattle.pygrammar.specs.declared.levels.Level.TheVariants.{Stars, StarItem, Named, Expression, Or, BitOr, Primary, Atom}
use Rattle.pygrammar.specs.declared.levels.Level.TheVariants.{Elem, Slices, Part}
use Rattle.pytree_node.specs.Trees
use Rattle.pytree_node.specs.Trees.{Expr, no_exprs, an_expr}
use Rattle.pytoken.specs.Terminals.{Terminal, Spelled, Op, Ident}
use Rattle.pytree_node.specs.declared.operators.Operator.{Operator}
use Rattle.pytree_node.specs.declared.operators.UnaryOperator.{UnaryOperator}
use Rattle.pytree_node.specs.declared.operators.BoolOperator.{BoolOperator}
use Rattle.pytree_node.specs.declared.operators.BoolOperator.TheVariants as Join
use Rattle.pygrammar.specs.Operators.{below, chain_level, left_operator, prefix_operator}
use Rattle.pyplaces.specs.ExpressionPlaces.{places}
use Rattle.pyplaces.specs.Rests.{Lacks, PlacedPart, starred, unstarred}
use Rattle.pyplaces.proofs.Expressions.Levels.{placed_next, placed_star_part, placed_star_item}
use Rattle.pyplaces.proofs.Expressions.Slices.{placed_star_slices}
use Rattle.pyplaces.proofs.Expressions.Lower.{placed_lower}
use Rattle.pygrammar.specs.Targets.{stored, deleted, single_stored}
use Rattle.pygrammar.specs.Grammar as G
use Rattle.pyplaces.specs.Stretches.{Stretch, stretch}
use Rattle.pyplaces.specs.Placed.{Placed, PlacedTarget, PlacedSingleTarget, PlacedDelTarget, PlacedItemTarget}
use Rattle.pyplaces.proofs.Fronts.{sign, front_of, from, built, ◌⊕◌, own}

-- ---- What was read as an Elem or a Named, by what stands first.

-- an expression of a level further in, with the same places
abbrev Same : (l m : Level) (ts : List Terminal) (e : Expr) → G.Derives l ts e → Type 0
Same l m ts e d = (p : G.Derives m ts e) × ((n : ℕ) → places n p ≡ places n d)

abbrev Inv : (l : Level) (ts : List Terminal) (e : Expr) → G.Derives l ts e → Type 0
Inv Elem ts e d = (Same Elem Named ts e d) ⊎ ((us : List Terminal) × (ts ≡ Op Star ∷ us))
Inv Named ts e d = (Same Named Expression ts e d) ⊎ ((x : Spelled) × (us : List Terminal) × (ts ≡ Ident x ∷ (Op ColonEqual ∷ us)))
Inv l ts e d = Unit {0}

next_inv : (l : Level) (ts : List Terminal) (e : Expr) (p : G.Derives (below l) ts e) → Inv l ts e (G.next p)
next_inv Elem ts e p = inl (p, λ n. refl)
next_inv Named ts e p = inl (p, λ n. refl)
next_inv _ ts e p = tt

unary_inv : (l : Level) (t : Terminal) (o : UnaryOperator) (ts : List Terminal) (e : Expr) (d : G.Derives l ts e)
    → prefix_operator l t ≡ Some o
    → Inv l ts e d
unary_inv Elem t o ts e d h = absurd (cc)
unary_inv Named t o ts e d h = absurd (cc)
unary_inv _ t o ts e d h = tt

binary_inv : (l : Level) (t : Terminal) (o : Operator) (ts : List Terminal) (e : Expr) (d : G.Derives l ts e) → left_operator l t ≡ Some o
    → Inv l ts e d
binary_inv Elem t o ts e d h = absurd (cc)
binary_inv Named t o ts e d h = absurd (cc)
binary_inv _ t o ts e d h = tt

chain_inv : (o : BoolOperator) (ts : List Terminal) (e : Expr) (d : G.Derives (chain_level o) ts e) → Inv (chain_level o) ts e d
chain_inv Join.And ts e d = tt
chain_inv Join.Or ts e d = tt

inv : {l : Level} {ts : List Terminal} {e : Expr} (d : G.Derives l ts e) → Inv l ts e d
inv (G.next {l = l} {ts = ts} {e = e} p) = next_inv l ts e p
inv (G.unary {l = l} {t = t} {o = o} h p) = unary_inv l t o _ _ (G.unary h p) h
inv (G.binary {l = l} {o = o} t h p q) = binary_inv l t o _ _ (G.binary t h p q) h
inv (G.chain {o = o} p c) = chain_inv o _ _ (G.chain p c)
inv (G.star_elem {ts = ts} p) = inr (ts, refl)
inv (G.named {x = x} {ts = ts} p) = inr (x, ts, refl)
inv _ = tt

pub elem_named : {i r : List Terminal} {at following : ℕ} {e : Expr} {ps : List Stretch} → Placed Elem i at e r following ps → Lacks (Op Star) i
    → Placed Named i at e r following ps
elem_named {r = r} {at = at} p f = elim (inv p.derived) [
  | inl d ↦ built (front_of p) d.0 (d.1 at ∙ p.places_are)
  | inr u ↦ absurd (f (u.0 ++ r) (p.is ∙ ap (λ z. z ++ r) u.1))
]

pub named_expression : {i r : List Terminal} {at following : ℕ} {e : Expr} {ps : List Stretch} → Placed Named i at e r following ps
    → ((x : Spelled) (s : List Terminal) → i ≡ Ident x ∷ (Op ColonEqual ∷ s) → ⊥) → Placed Expression i at e r following ps
named_expression {r = r} {at = at} p f = elim (inv p.derived) [
  | inl d ↦ built (front_of p) d.0 (d.1 at ∙ p.places_are)
  | inr u ↦ absurd (f u.0 (u.1 ++ r) (p.is ∙ ap (λ z. z ++ r) u.2))
]

-- ---- A part of a subscript.
pub placed_part : {i r : List Terminal} {at following : ℕ} {e : Expr} {ps : List Stretch} → PlacedPart i at e r following ps
    → Placed Part i at e r following ps
placed_part (starred h p) = placed_star_part h p
placed_part (unstarred f p) = placed_next p

pub part_starred : {i r s : List Terminal} {at following : ℕ} {e : Expr} {ps : List Stretch} → PlacedPart i at e r following ps → i ≡ Op Star ∷ s
    → Placed Slices i at (Trees.Tuple (an_expr e no_exprs) Load) r following (ps ++ (stretch at following ∷ []))
part_starred {at = at} {following = following} (starred {ps = ps} k p) h = rw (append_assoc ps (stretch at following ∷ []) (stretch at following ∷ []))
    (placed_star_slices k p)
part_starred (unstarred f p) h = absurd (f _ h)

pub part_alone : {i r : List Terminal} {at following : ℕ} {e : Expr} {ps : List Stretch} → PlacedPart i at e r following ps → Lacks (Op Star) i
    → Placed Slices i at e r following ps
part_alone (starred h p) f = absurd (f _ h)
part_alone (unstarred g p) f = placed_next p

-- ---- Targets. In front of `in` their items are Primaries.
pub placed_target_item : {i r : List Terminal} {at following : ℕ} {e : Expr} {ps : List Stretch} → Placed Primary i at e r following ps
    → Placed StarItem i at e r following ps
placed_target_item p = placed_next (placed_next (placed_lower Or Primary (omega arith) (omega arith) (omega arith) p))

pub placed_target_star : {i r s : List Terminal} {at following : ℕ} {e : Expr} {ps : List Stretch} → i ≡ Op Star ∷ r
    → Placed Primary r (at + 1) e s following ps → Placed StarItem i at (Trees.Starred e Load) s following (ps ++ (stretch at following ∷ []))
placed_target_star h p = placed_star_item h (placed_lower BitOr Primary (omega arith) (omega arith) (omega arith) p)

-- an Atom that stands alone
pub placed_alone : {i r : List Terminal} {at following : ℕ} {e : Expr} {ps : List Stretch} → Placed Atom i at e r following ps
    → Placed Expression i at e r following ps
placed_alone p = placed_next (placed_lower Or Atom (omega arith) (omega arith) (omega arith) p)

pub placed_target : {i r : List Terminal} {at following : ℕ} {e f : Expr} {ps : List Stretch} → Placed Stars i at e r following ps
    → stored e ≡ Some f → PlacedTarget i at f r following ps
placed_target p h = built (front_of p) (G.target p.derived h) p.places_are

pub placed_single_target : {i r : List Terminal} {at following : ℕ} {e f : Expr} {ps : List Stretch} → Placed Primary i at e r following ps
    → single_stored e ≡ Some f → PlacedSingleTarget i at f r following ps
placed_single_target p h = built (front_of p) (G.single_target p.derived h) p.places_are

pub placed_del_target : {i r : List Terminal} {at following : ℕ} {e f : Expr} {ps : List Stretch} → Placed Expression i at e r following ps
    → deleted e ≡ Some f → PlacedDelTarget i at f r following ps
placed_del_target p h = built (front_of p) (G.del_target p.derived h) p.places_are

pub placed_item_target : {i r : List Terminal} {at following : ℕ} {e f : Expr} {ps : List Stretch} → Placed Expression i at e r following ps
    → stored e ≡ Some f → PlacedItemTarget i at f r following ps
placed_item_target p h = built (front_of p) (G.item_target p.derived h) p.places_are

pub placed_star_target : {i r s : List Terminal} {at following : ℕ} {e f : Expr} {ps : List Stretch} → i ≡ Op Star ∷ r
    → Placed Expression r (at + 1) e s following ps → stored (Trees.Starred e Load) ≡ Some f
    → PlacedItemTarget i at f s following (ps ++ (stretch at following ∷ []))
placed_star_target h p q = built (sign h (front_of p)) (G.star_target p.derived q) (from p (omega arith) ⊕ own (omega (arith, p.ends)))
