-- Sets and dictionaries.
--
-- Carries: curly, set_from, set_comp, keyed, dict_comp, dict_from, read_pair, doubled, paired. On: Fronts.
use Rattle.std.proofs.Common.{◌≡◌, ap, ℕ, ◌+◌, arith, List, [], ◌∷◌, ◌++◌}
use Rattle.pylex_lexeme.specs.declared.kinds.Exact.TheVariants.{LBrace, RBrace, Colon, DoubleStar}
use Rattle.pygrammar.specs.declared.levels.Level.TheVariants.{Named, Expression, BitOr, Atom, Elem}
use Rattle.pytree_node.specs.Trees
use Rattle.pytree_node.specs.Trees.{Expr, Comprehension, comprehensions}
use Rattle.pytoken.specs.Terminals.{Terminal, Op}
use Rattle.pygrammar.specs.Entries.{Of, Pair, Entry, Paired, Doubled, singles, keys, values}
use Rattle.pygrammar.specs.Grammar as G
use Rattle.pyplaces.specs.Stretches.{Stretch, stretch}
use Rattle.pyplaces.specs.EntryPlaces as E
use Rattle.pyplaces.specs.EntryPlaces.{EntryPlaces}
use Rattle.pyplaces.specs.Placed.{Placed, PlacedListing, PlacedPiece, PlacedComps}
use Rattle.pyplaces.proofs.Fronts.{nothing, sign, both, front_of, from, built, ◌⊕◌, own, entry, entry_at}

-- a Dict: all keys come before all values
pub placed_dict : {i r s u : List Terminal} {at m : ℕ} {es : List Entry} {fs : List EntryPlaces} → i ≡ Op LBrace ∷ r
    → PlacedListing Pair r (at + 1) es s m fs → s ≡ Op RBrace ∷ u
    → Placed Atom i at (Trees.Dict (keys es) (values es)) u (m + 1) (E.keys fs ++ (E.values fs ++ (stretch at (m + 1) ∷ [])))
placed_dict h c k = built (sign h (both (front_of c) (sign k nothing))) (G.dict c.derived)
    (ap E.keys (from c (omega arith)) ⊕ ap E.values (from c (omega arith)) ⊕ own (omega (arith, c.ends)))

-- its comprehension
pub placed_dict_comp : {i r s u v w x1 : List Terminal} {at m n k : ℕ} {a e : Expr} {gs : List Comprehension} {ps qs ws : List Stretch}
    → i ≡ Op LBrace ∷ r → Placed Expression r (at + 1) a s m ps → s ≡ Op Colon ∷ u → Placed Expression u (m + 1) e v n qs
    → PlacedComps v n gs w k ws → w ≡ Op RBrace ∷ x1
    → Placed Atom i at (Trees.DictComp a e (comprehensions gs)) x1 (k + 1) (ps ++ (qs ++ (ws ++ (stretch at (k + 1) ∷ []))))
placed_dict_comp h p y q c z = built (sign h (both (front_of p) (sign y (both (front_of q) (both (front_of c) (sign z nothing))))))
    (G.dict_comp p.derived q.derived c.derived) (from p (omega arith) ⊕ from q (omega (arith, p.ends))
    ⊕ from c (omega (arith, p.ends, q.ends)) ⊕ own (omega (arith, p.ends, q.ends, c.ends)))

-- a Set, and its comprehension
pub placed_set : {i r s u : List Terminal} {at m : ℕ} {a : Entry} {es : List Entry} {fs : List EntryPlaces} → i ≡ Op LBrace ∷ r
    → PlacedListing (Of Elem) r (at + 1) (a ∷ es) s m fs → s ≡ Op RBrace ∷ u
    → Placed Atom i at (Trees.Set (singles (a ∷ es))) u (m + 1) (E.singles fs ++ (stretch at (m + 1) ∷ []))
placed_set h c k = built (sign h (both (front_of c) (sign k nothing))) (G.set c.derived)
    (ap E.singles (from c (omega arith)) ⊕ own (omega (arith, c.ends)))

pub placed_set_comp : {i r s u v : List Terminal} {at m n : ℕ} {e : Expr} {gs : List Comprehension} {ps qs : List Stretch}
    → i ≡ Op LBrace ∷ r → Placed Named r (at + 1) e s m ps → PlacedComps s m gs u n qs → u ≡ Op RBrace ∷ v
    → Placed Atom i at (Trees.SetComp e (comprehensions gs)) v (n + 1) (ps ++ (qs ++ (stretch at (n + 1) ∷ [])))
placed_set_comp h p c k = built (sign h (both (front_of p) (both (front_of c) (sign k nothing)))) (G.set_comp p.derived c.derived)
    (from p (omega arith) ⊕ from c (omega (arith, p.ends)) ⊕ own (omega (arith, p.ends, c.ends)))

-- a key and its value; and `**` of one
pub placed_pair : {i r s u : List Terminal} {at m following : ℕ} {a e : Expr} {ps qs : List Stretch} → Placed Expression i at a r m ps
    → r ≡ Op Colon ∷ s → Placed Expression s (m + 1) e u following qs → PlacedPiece Pair i at (Paired a e) u following (E.Paired ps qs)
placed_pair p h q = built (both (front_of p) (sign h (front_of q))) (G.pair p.derived q.derived)
    (entry E.Paired p.places_are (from q (omega (arith, p.ends))))

pub placed_pairs_of : {i r s : List Terminal} {at following : ℕ} {e : Expr} {ps : List Stretch} → i ≡ Op DoubleStar ∷ r
    → Placed BitOr r (at + 1) e s following ps → PlacedPiece Pair i at (Doubled e) s following (E.Doubled ps (stretch at following))
placed_pairs_of h p = built (sign h (front_of p)) (G.pairs_of p.derived) (entry_at E.Doubled (from p (omega arith)) (omega (arith, p.ends)))
