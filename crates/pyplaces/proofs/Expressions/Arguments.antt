-- The arguments of a call.
--
-- Carries: read_argument, add, add_plain, add_keyword. On: Fronts.
use Rattle.std.proofs.Common.{◌≡◌, ap, ℕ, ◌+◌, arith, List, ◌∷◌}
use Rattle.pylex_lexeme.specs.declared.kinds.Exact.TheVariants.{Star, Equal, DoubleStar}
use Rattle.pygrammar.specs.declared.levels.Level.TheVariants.{Named, Expression}
use Rattle.pytree_node.specs.Trees.{Expr}
use Rattle.pytoken.specs.Terminals.{Terminal, Spelled, Op, Ident}
use Rattle.pygrammar.specs.Entries.{Argument, Single, Spread, Doubled, Keyed}
use Rattle.pygrammar.specs.Grammar as G
use Rattle.pyplaces.specs.Stretches.{Stretch, stretch}
use Rattle.pyplaces.specs.EntryPlaces as E
use Rattle.pyplaces.specs.Placed.{Placed, PlacedPiece}
use Rattle.pyplaces.proofs.Fronts.{sign, signs, front_of, from, built, entry_at}

pub placed_argument : {i r : List Terminal} {at following : ℕ} {e : Expr} {ps : List Stretch} → Placed Named i at e r following ps
    → PlacedPiece Argument i at (Single e) r following (E.Single ps)
placed_argument p = built (front_of p) (G.argument p.derived) (ap E.Single p.places_are)

pub placed_star_argument : {i r s : List Terminal} {at following : ℕ} {e : Expr} {ps : List Stretch} → i ≡ Op Star ∷ r
    → Placed Expression r (at + 1) e s following ps → PlacedPiece Argument i at (Spread e) s following (E.Spread ps (stretch at following))
placed_star_argument h p = built (sign h (front_of p)) (G.star_argument p.derived)
    (entry_at E.Spread (from p (omega arith)) (omega (arith, p.ends)))

pub placed_keyword_argument : {x : Spelled} {i r s : List Terminal} {at following : ℕ} {e : Expr} {ps : List Stretch}
    → i ≡ Ident x ∷ (Op Equal ∷ r) → Placed Expression r (at + 2) e s following ps
    → PlacedPiece Argument i at (Keyed x.form e) s following (E.Keyed ps (stretch at following))
placed_keyword_argument h p = built (signs h (front_of p)) (G.keyword_argument p.derived)
    (entry_at E.Keyed (from p (omega arith)) (omega (arith, p.ends)))

pub placed_double_argument : {i r s : List Terminal} {at following : ℕ} {e : Expr} {ps : List Stretch} → i ≡ Op DoubleStar ∷ r
    → Placed Expression r (at + 1) e s following ps → PlacedPiece Argument i at (Doubled e) s following (E.Doubled ps (stretch at following))
placed_double_argument h p = built (sign h (front_of p)) (G.double_argument p.derived)
    (entry_at E.Doubled (from p (omega arith)) (omega (arith, p.ends)))
