-- Names, constants, and what stands in round and square brackets.
--
-- Carries: read_atom, other_atom, round, group_tuple, generator_group, square, list_comp. On: Fronts.
use Rattle.std.proofs.Common.{◌≡◌, refl, ap, ℕ, ◌+◌, arith, List, [], ◌∷◌, ◌++◌, Some}
use Rattle.pylex_lexeme.specs.declared.kinds.Exact.TheVariants.{LPar, RPar, LSqb, RSqb, Comma}
use Rattle.pytoken.specs.declared.keywords.Keyword.TheVariants as Key
use Rattle.pytree_node.specs.declared.operators.Context.TheVariants.{Load}
use Rattle.pygrammar.specs.declared.levels.Level.TheVariants.{Named, Atom, Elem}
use Rattle.pytree_node.specs.Trees
use Rattle.pytree_node.specs.Trees.{Expr, no_exprs, an_expr, Comprehension, comprehensions}
use Rattle.pytree_node.specs.Values
use Rattle.pytoken.specs.Terminals.{Terminal, Spelled, Op, Word, Ident, Number}
use Rattle.pygrammar.specs.Constants.{constant_word}
use Rattle.pygrammar.specs.Entries.{Of, Entry, singles}
use Rattle.pygrammar.specs.Grammar as G
use Rattle.pyplaces.specs.Stretches.{Stretch, stretch}
use Rattle.pyplaces.specs.EntryPlaces as E
use Rattle.pyplaces.specs.EntryPlaces.{EntryPlaces}
use Rattle.pyplaces.specs.Placed.{Placed, PlacedYields, PlacedListing, PlacedComps}
use Rattle.pyplaces.proofs.Fronts.{nothing, sign, both, front_of, from, built, ◌⊕◌, own, reaches}

-- one terminal
pub placed_name : {x : Spelled} {i r : List Terminal} {at : ℕ} → i ≡ Ident x ∷ r
    → Placed Atom i at (Trees.Name x.form Load) r (at + 1) (stretch at (at + 1) ∷ [])
placed_name h = built (sign h nothing) G.name refl

pub placed_constant : {t : Terminal} {i r : List Terminal} {at : ℕ} {d : Values.Value} → constant_word t ≡ Some d → i ≡ t ∷ r
    → Placed Atom i at (Trees.Constant d) r (at + 1) (stretch at (at + 1) ∷ [])
placed_constant q h = built (sign h nothing) (G.constant q) refl

pub placed_number : {i r : List Terminal} {at : ℕ} {d : Values.Value} → i ≡ Number d ∷ r
    → Placed Atom i at (Trees.Constant d) r (at + 1) (stretch at (at + 1) ∷ [])
placed_number h = built (sign h nothing) G.number refl

-- round brackets
pub placed_group : {i r s u : List Terminal} {at m : ℕ} {e : Expr} {ps : List Stretch} → i ≡ Op LPar ∷ r → Placed Named r (at + 1) e s m ps
    → s ≡ Op RPar ∷ u → Placed Atom i at e u (m + 1) ps
placed_group h p k = built (sign h (both (front_of p) (sign k nothing))) (G.group p.derived) (from p (omega arith))

pub placed_yield_group : {i r s u v : List Terminal} {at m : ℕ} {e : Expr} {ps : List Stretch} → i ≡ Op LPar ∷ r → r ≡ Word Key.Yield ∷ s
    → PlacedYields s (at + 1 + 1) e u m ps → u ≡ Op RPar ∷ v → Placed Atom i at e v (m + 1) (ps ++ (stretch (at + 1) m ∷ []))
placed_yield_group h y p k = built (sign h (sign y (both (front_of p) (sign k nothing)))) (G.yield_group p.derived)
    (from p (omega arith) ⊕ reaches (omega arith) (omega (arith, p.ends)))

pub placed_empty_tuple : {i r s : List Terminal} {at : ℕ} → i ≡ Op LPar ∷ r → r ≡ Op RPar ∷ s
    → Placed Atom i at (Trees.Tuple no_exprs Load) s (at + 1 + 1) (stretch at (at + 1 + 1) ∷ [])
placed_empty_tuple h k = built (sign h (sign k nothing)) G.empty_tuple (own (omega arith))

pub placed_tuple : {i r s u v w : List Terminal} {at m n : ℕ} {e : Expr} {es : List Entry} {fs : List EntryPlaces} {ps : List Stretch}
    → i ≡ Op LPar ∷ r → Placed Elem r (at + 1) e s m ps → s ≡ Op Comma ∷ u → PlacedListing (Of Elem) u (m + 1) es v n fs → v ≡ Op RPar ∷ w
    → Placed Atom i at (Trees.Tuple (an_expr e (singles es)) Load) w (n + 1) (ps ++ (E.singles fs ++ (stretch at (n + 1) ∷ [])))
placed_tuple h p k c y = built (sign h (both (front_of p) (sign k (both (front_of c) (sign y nothing))))) (G.tuple p.derived c.derived)
    (from p (omega arith) ⊕ ap E.singles (from c (omega (arith, p.ends))) ⊕ own (omega (arith, p.ends, c.ends)))

pub placed_generator_group : {i r s u v : List Terminal} {at m n : ℕ} {e : Expr} {gs : List Comprehension} {ps qs : List Stretch}
    → i ≡ Op LPar ∷ r → Placed Named r (at + 1) e s m ps → PlacedComps s m gs u n qs → u ≡ Op RPar ∷ v
    → Placed Atom i at (Trees.GeneratorExp e (comprehensions gs)) v (n + 1) (ps ++ (qs ++ (stretch at (n + 1) ∷ [])))
placed_generator_group h p c k = built (sign h (both (front_of p) (both (front_of c) (sign k nothing))))
    (G.generator_group p.derived c.derived)
    (from p (omega arith) ⊕ from c (omega (arith, p.ends)) ⊕ own (omega (arith, p.ends, c.ends)))

-- square brackets
pub placed_list : {i r s u : List Terminal} {at m : ℕ} {es : List Entry} {fs : List EntryPlaces} → i ≡ Op LSqb ∷ r
    → PlacedListing (Of Elem) r (at + 1) es s m fs → s ≡ Op RSqb ∷ u
    → Placed Atom i at (Trees.ListOf (singles es) Load) u (m + 1) (E.singles fs ++ (stretch at (m + 1) ∷ []))
placed_list h c k = built (sign h (both (front_of c) (sign k nothing))) (G.list c.derived)
    (ap E.singles (from c (omega arith)) ⊕ own (omega (arith, c.ends)))

pub placed_list_comp : {i r s u v : List Terminal} {at m n : ℕ} {e : Expr} {gs : List Comprehension} {ps qs : List Stretch}
    → i ≡ Op LSqb ∷ r → Placed Named r (at + 1) e s m ps → PlacedComps s m gs u n qs → u ≡ Op RSqb ∷ v
    → Placed Atom i at (Trees.ListComp e (comprehensions gs)) v (n + 1) (ps ++ (qs ++ (stretch at (n + 1) ∷ [])))
placed_list_comp h p c k = built (sign h (both (front_of p) (both (front_of c) (sign k nothing)))) (G.list_comp p.derived c.derived)
    (from p (omega arith) ⊕ from c (omega (arith, p.ends)) ⊕ own (omega (arith, p.ends, c.ends)))
