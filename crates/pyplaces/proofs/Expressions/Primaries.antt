-- What follows an atom.
--
-- Carries: read_primary, attribute_step, index_step, call_step, finish, generator_call. On: Fronts.
use Rattle.std.proofs.Common.{◌≡◌, ap, ℕ, ◌+◌, arith, List, [], ◌∷◌, ◌++◌, Some}
use Rattle.pylex_lexeme.specs.declared.kinds.Exact.TheVariants.{LPar, RPar, LSqb, RSqb, Dot}
use Rattle.pytree_node.specs.declared.operators.Context.TheVariants.{Load}
use Rattle.pygrammar.specs.declared.levels.Level.TheVariants.{Named, Primary, Slices}
use Rattle.pytree_node.specs.Trees
use Rattle.pytree_node.specs.Trees.{Expr, no_exprs, an_expr, Comprehension, comprehensions}
use Rattle.pytoken.specs.Terminals.{Terminal, Spelled, Op, Ident}
use Rattle.pygrammar.specs.Entries.{Argument, Entry}
use Rattle.pygrammar.specs.Arguments.{called}
use Rattle.pygrammar.specs.Grammar as G
use Rattle.pyplaces.specs.Stretches.{Stretch, stretch}
use Rattle.pyplaces.specs.EntryPlaces as E
use Rattle.pyplaces.specs.EntryPlaces.{EntryPlaces}
use Rattle.pyplaces.specs.Placed.{Placed, PlacedListing, PlacedComps}
use Rattle.pyplaces.proofs.Fronts.{nothing, sign, both, front_of, from, built, ◌⊕◌, own, reaches}

-- an Attribute
pub placed_attribute : {x : Spelled} {i r s u : List Terminal} {at m : ℕ} {e : Expr} {ps : List Stretch} → Placed Primary i at e r m ps
    → r ≡ Op Dot ∷ s → s ≡ Ident x ∷ u
    → Placed Primary i at (Trees.Attribute e x.form Load) u (m + 1 + 1) (ps ++ (stretch at (m + 1 + 1) ∷ []))
placed_attribute {x = x} p h k = built (both (front_of p) (sign h (sign k nothing))) (G.attribute x p.derived)
    (p.places_are ⊕ own (omega (arith, p.ends)))

-- a Subscript
pub placed_subscript : {i r s u v : List Terminal} {at m n : ℕ} {e f : Expr} {ps qs : List Stretch} → Placed Primary i at e r m ps
    → r ≡ Op LSqb ∷ s → Placed Slices s (m + 1) f u n qs → u ≡ Op RSqb ∷ v
    → Placed Primary i at (Trees.Subscript e f Load) v (n + 1) (ps ++ (qs ++ (stretch at (n + 1) ∷ [])))
placed_subscript p h q k = built (both (front_of p) (sign h (both (front_of q) (sign k nothing)))) (G.subscript p.derived q.derived)
    (p.places_are ⊕ from q (omega (arith, p.ends)) ⊕ own (omega (arith, p.ends, q.ends)))

-- a Call: arguments without a name come before those with one
pub placed_call : {i r s u v : List Terminal} {at m n : ℕ} {f e : Expr} {es : List Entry} {fs : List EntryPlaces} {ps : List Stretch}
    → Placed Primary i at f r m ps → r ≡ Op LPar ∷ s → PlacedListing Argument s (m + 1) es u n fs → called f es ≡ Some e → u ≡ Op RPar ∷ v
    → Placed Primary i at e v (n + 1) (ps ++ (E.positional fs ++ (E.keywords fs ++ (stretch at (n + 1) ∷ []))))
placed_call p h c q k = built (both (front_of p) (sign h (both (front_of c) (sign k nothing)))) (G.call p.derived c.derived q)
    (p.places_are ⊕ ap E.positional (from c (omega (arith, p.ends))) ⊕ ap E.keywords (from c (omega (arith, p.ends)))
    ⊕ own (omega (arith, p.ends, c.ends)))

-- a Call of a generator expression, which has the brackets of the call
pub placed_call_generator : {i r s u v w : List Terminal} {at m n k : ℕ} {f e : Expr} {gs : List Comprehension} {ps qs ws : List Stretch}
    → Placed Primary i at f r m ps → r ≡ Op LPar ∷ s → Placed Named s (m + 1) e u n qs → PlacedComps u n gs v k ws → v ≡ Op RPar ∷ w
    → Placed Primary i at (Trees.Call f (an_expr (Trees.GeneratorExp e (comprehensions gs)) no_exprs) Trees.no_keyword) w (k + 1)
    (ps ++ (qs ++ (ws ++ (stretch m (k + 1) ∷ (stretch at (k + 1) ∷ [])))))
placed_call_generator p h q d y = built (both (front_of p) (sign h (both (front_of q) (both (front_of d) (sign y nothing)))))
    (G.call_generator p.derived q.derived d.derived)
    (p.places_are ⊕ from q (omega (arith, p.ends)) ⊕ from d (omega (arith, p.ends, q.ends))
    ⊕ reaches p.ends (omega (arith, p.ends, q.ends, d.ends)) ⊕ own (omega (arith, p.ends, q.ends, d.ends)))
