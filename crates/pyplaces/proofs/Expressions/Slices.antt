-- What a subscript holds.
--
-- Carries: read_slices, read_slice, slice_rest. On: Fronts.
use Rattle.std.proofs.Common.{◌≡◌, ℕ, ◌+◌, arith, List, [], ◌∷◌, ◌++◌}
use Rattle.pylex_lexeme.specs.declared.kinds.Exact.TheVariants.{Colon, Star}
use Rattle.pytree_node.specs.declared.operators.Context.TheVariants.{Load}
use Rattle.pygrammar.specs.declared.levels.Level.TheVariants.{Expression, Slices, Slice}
use Rattle.pytree_node.specs.Trees
use Rattle.pytree_node.specs.Trees.{Expr, no_exprs, an_expr, OptionalExpr, absent}
use Rattle.pytoken.specs.Terminals.{Terminal, Op}
use Rattle.pygrammar.specs.Grammar as G
use Rattle.pyplaces.specs.Stretches.{Stretch, stretch}
use Rattle.pyplaces.specs.Placed.{Placed, PlacedPerhaps}
use Rattle.pyplaces.proofs.Fronts.{sign, both, front_of, from, built, ◌⊕◌, own}

-- a Slice, without a step and with one
pub placed_slice : {i r s u : List Terminal} {at m following : ℕ} {a b : OptionalExpr} {ps qs : List Stretch}
    → PlacedPerhaps Expression i at a r m ps → r ≡ Op Colon ∷ s → PlacedPerhaps Expression s (m + 1) b u following qs
    → Placed Slice i at (Trees.Slice a b absent) u following (ps ++ (qs ++ (stretch at following ∷ [])))
placed_slice p h q = built (both (front_of p) (sign h (front_of q))) (G.slice p.derived q.derived)
    (p.places_are ⊕ from q (omega (arith, p.ends)) ⊕ own (omega (arith, p.ends, q.ends)))

pub placed_slice_step : {i r s u v w : List Terminal} {at m n following : ℕ} {a b c : OptionalExpr} {ps qs ws : List Stretch}
    → PlacedPerhaps Expression i at a r m ps → r ≡ Op Colon ∷ s → PlacedPerhaps Expression s (m + 1) b u n qs → u ≡ Op Colon ∷ v
    → PlacedPerhaps Expression v (n + 1) c w following ws
    → Placed Slice i at (Trees.Slice a b c) w following (ps ++ (qs ++ (ws ++ (stretch at following ∷ []))))
placed_slice_step p h q k d = built (both (front_of p) (sign h (both (front_of q) (sign k (front_of d)))))
    (G.slice_step p.derived q.derived d.derived)
    (p.places_are ⊕ from q (omega (arith, p.ends)) ⊕ from d (omega (arith, p.ends, q.ends)) ⊕ own (omega (arith, p.ends, q.ends, d.ends)))

-- a Starred alone, and the Tuple of it
pub placed_star_slices : {i r s : List Terminal} {at following : ℕ} {e : Expr} {ps : List Stretch} → i ≡ Op Star ∷ r
    → Placed Expression r (at + 1) e s following ps
    → Placed Slices i at (Trees.Tuple (an_expr (Trees.Starred e Load) no_exprs) Load) s following
    (ps ++ (stretch at following ∷ (stretch at following ∷ [])))
placed_star_slices h p = built (sign h (front_of p)) (G.star_slices p.derived)
    (from p (omega arith) ⊕ own (omega (arith, p.ends)) ⊕ own (omega (arith, p.ends)))
