-- Parameters, of a lambda and of a `def`.
--
-- Carries: suffixed, star_annotation, plain_parameter, gathered_parameter, collected_parameter, read_parameter. On: Fronts.
use Rattle.std.proofs.Common.{◌≡◌, refl, ap, ℕ, ◌+◌, arith, List, [], ◌∷◌, ◌++◌, append_assoc, Option, Some, None, Bool, true, cond}
use Rattle.pylex_lexeme.specs.declared.kinds.Exact.{Exact}
use Rattle.pylex_lexeme.specs.declared.kinds.Exact.TheVariants.{Colon, Star, Slash, Equal, DoubleStar}
use Rattle.pytree_node.specs.declared.operators.Context.TheVariants.{Load}
use Rattle.pygrammar.specs.declared.levels.Level.TheVariants.{Expression, BitOr}
use Rattle.pytree_node.specs.Trees
use Rattle.pytree_node.specs.Trees.{Expr, OptionalExpr, absent, present, arg}
use Rattle.pytoken.specs.Terminals.{Terminal, Spelled, Op, Ident}
use Rattle.pygrammar.specs.Entries.{Parameter, Plain, Slashed, Bare, Gathered, Collected}
use Rattle.pygrammar.specs.Grammar as G
use Rattle.pyplaces.specs.Stretches.{Stretch, stretch}
use Rattle.pyplaces.specs.EntryPlaces as E
use Rattle.pyplaces.specs.Placed.{Placed, PlacedSuffix, PlacedPiece}
use Rattle.pyplaces.specs.Rests.{StarSuffix, plain_suffix, star_suffix}
use Rattle.pyplaces.proofs.Fronts.{nothing, sign, both, front_of, from, built, ◌⊕◌, own, reaches, entry}

-- an annotation or a default
pub placed_no_suffix : {so : Option Exact} {r : List Terminal} {at : ℕ} → PlacedSuffix so r at absent r at []
placed_no_suffix = built nothing G.no_suffix refl

pub placed_suffix : {y : Exact} {i r s : List Terminal} {at following : ℕ} {e : Expr} {ps : List Stretch} → i ≡ Op y ∷ r
    → Placed Expression r (at + 1) e s following ps → PlacedSuffix (Some y) i at (present e) s following ps
placed_suffix h p = built (sign h (front_of p)) (G.suffix p.derived) (from p (omega arith))

-- an arg ends before its default, and begins after a star
pub placed_parameter : {bb : Bool} {x : Spelled} {i r s u : List Terminal} {at m following : ℕ} {a d : OptionalExpr} {ps qs : List Stretch}
    → i ≡ Ident x ∷ r → PlacedSuffix (cond bb (Some Colon) None) r (at + 1) a s m ps → PlacedSuffix (Some Equal) s m d u following qs
    → PlacedPiece (Parameter bb) i at (Plain (arg x.form a) d) u following (E.Plain (ps ++ (stretch at m ∷ [])) qs)
placed_parameter h p q = built (sign h (both (front_of p) (front_of q))) (G.parameter p.derived q.derived)
    (entry E.Plain (from p (omega arith) ⊕ own (omega (arith, p.ends))) (from q (omega (arith, p.ends))))

pub placed_slash : {bb : Bool} {i r : List Terminal} {at : ℕ} → i ≡ Op Slash ∷ r
    → PlacedPiece (Parameter bb) i at Slashed r (at + 1) E.Slashed
placed_slash h = built (sign h nothing) G.slash refl

pub placed_bare_star : {bb : Bool} {i r : List Terminal} {at : ℕ} → i ≡ Op Star ∷ r → PlacedPiece (Parameter bb) i at Bare r (at + 1) E.Bare
placed_bare_star h = built (sign h nothing) G.bare_star refl

pub placed_star_parameter : {bb : Bool} {x : Spelled} {i r s u : List Terminal} {at following : ℕ} {a : OptionalExpr} {ps : List Stretch}
    → i ≡ Op Star ∷ r → r ≡ Ident x ∷ s → PlacedSuffix (cond bb (Some Colon) None) s (at + 1 + 1) a u following ps
    → PlacedPiece (Parameter bb) i at (Gathered (arg x.form a)) u following (E.Gathered (ps ++ (stretch (at + 1) following ∷ [])))
placed_star_parameter h k p = built (sign h (sign k (front_of p))) (G.star_parameter p.derived)
    (ap E.Gathered (from p (omega arith) ⊕ reaches (omega arith) (omega (arith, p.ends))))

pub placed_star_annotation : {x : Spelled} {i r s u v w : List Terminal} {at following : ℕ} {e : Expr} {ps : List Stretch} → i ≡ Op Star ∷ r
    → r ≡ Ident x ∷ s → s ≡ Op Colon ∷ u → u ≡ Op Star ∷ v → Placed BitOr v (at + 1 + 1 + 1 + 1) e w following ps
    → PlacedPiece (Parameter true) i at (Gathered (arg x.form (present (Trees.Starred e Load)))) w following
    (E.Gathered (ps ++ (stretch (at + 1 + 1 + 1) following ∷ (stretch (at + 1) following ∷ []))))
placed_star_annotation h k y z p = built (sign h (sign k (sign y (sign z (front_of p))))) (G.star_annotation p.derived)
    (ap E.Gathered (from p (omega arith) ⊕ reaches (omega arith) (omega (arith, p.ends)) ⊕ reaches (omega arith) (omega (arith, p.ends))))

-- `*` NAME with what stands after it
pub placed_gathered : {bb : Bool} {x : Spelled} {i r s u : List Terminal} {at following : ℕ} {a : OptionalExpr} {ps : List Stretch}
    → i ≡ Op Star ∷ r → r ≡ Ident x ∷ s → StarSuffix bb s (at + 1 + 1) a u following ps
    → PlacedPiece (Parameter bb) i at (Gathered (arg x.form a)) u following (E.Gathered (ps ++ (stretch (at + 1) following ∷ [])))
placed_gathered h k (plain_suffix p) = placed_star_parameter h k p
placed_gathered {at = at} {following = following} h k (star_suffix {ps = ps} y z p) =
    rw (append_assoc ps (stretch (at + 1 + 1 + 1) following ∷ []) (stretch (at + 1) following ∷ [])) (placed_star_annotation h k y z p)

pub placed_double_parameter : {bb : Bool} {x : Spelled} {i r s u : List Terminal} {at following : ℕ} {a : OptionalExpr} {ps : List Stretch}
    → i ≡ Op DoubleStar ∷ r → r ≡ Ident x ∷ s → PlacedSuffix (cond bb (Some Colon) None) s (at + 1 + 1) a u following ps
    → PlacedPiece (Parameter bb) i at (Collected (arg x.form a)) u following (E.Collected (ps ++ (stretch (at + 1) following ∷ [])))
placed_double_parameter h k p = built (sign h (sign k (front_of p))) (G.double_parameter p.derived)
    (ap E.Collected (from p (omega arith) ⊕ reaches (omega arith) (omega (arith, p.ends))))
