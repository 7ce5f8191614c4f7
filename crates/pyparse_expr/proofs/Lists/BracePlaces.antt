-- The places of what stands in braces.
--
-- Carries: curly, set_comp, keyed, dict_comp. On: Braces of pyplaces, PairPlaces, ListPlaces.
use Rattle.std.proofs.Common.{◌≡◌, refl, sym, ap, ◌∙◌, subst, ℕ, ◌+◌, List, [], ◌∷◌, ◌++◌, map, None, true, Result, Ok, Err}
use Rattle.std.specs.Prelude.{IfOk}
use Rattle.std.proofs.lemmas.List.{append-nil}
use Rattle.pylex_lexeme.specs.declared.kinds.Exact.TheVariants.{Colon, ColonEqual, DoubleStar, LBrace, RBrace, Star}
use Rattle.pytree_node.specs.Trees
use Rattle.pytree_node.specs.Trees.{Exprs, OptionalExprs, no_exprs, no_optional, comprehensions}
use Rattle.pytree_node.specs.TreeOf.{tree_of, comprehension_of}
use Rattle.pytoken.specs.Terminals.{Terminal, Op}
use Rattle.pytoken.specs.declared.values.terminals.Terminal as given
use Rattle.pygrammar.specs.declared.levels.Level.TheVariants.{Elem, Named, Expression, BitOr, Atom}
use Rattle.pygrammar.specs.Entries.{Pair, Doubled, Paired}
use Rattle.pygrammar.specs.Looks.{is_op}
use Rattle.pygrammar.specs.Precedence.{starts_comp}
use Rattle.pyparse_nodes.specs.declared.found.ForClauses.{ForClauses}
use Rattle.pyparse_nodes.specs.declared.found.Pair as pair
use Rattle.pyparse_nodes.specs.declared.found.Read.{Read}
use Rattle.pyparse_nodes.specs.declared.stop.Stop.{Stop}
use Rattle.pyparse_nodes.specs.Answers.{Makes}
use Rattle.pyparse_nodes.specs.Views.{Stands, IsNotNamed, seen, first_is}
use Rattle.pyplaces.specs.Stretches.{Stretch, stretch}
use Rattle.pyplaces.specs.EntryPlaces as E
use Rattle.pyplaces.specs.EntryPlaces.{EntryPlaces}
use Rattle.pyplaces.specs.Placed.{Placed, PlacedPiece}
use Rattle.pyplaces.specs.Recording.{Records, Kept}
use Rattle.pyplaces.specs.Rests.{Clauses}
use Rattle.pyplaces.proofs.Answers.{placed_as, records_node, records_more}
use Rattle.pyplaces.proofs.Expressions.Listings.{placed_no_item}
use Rattle.pyplaces.proofs.Expressions.Braces.{placed_dict, placed_dict_comp, placed_pair, placed_pairs_of, placed_set_comp}
use Rattle.pyplaces.proofs.Expressions.Comprehensions.{clauses_some}
use Rattle.pyplaces.proofs.Expressions.Readings.{elem_named, named_expression}
use Rattle.pyparse_expr.specs.Inner.Pairs.{pair_of}
use Rattle.pyparse_expr.proofs.Lists.PairPlaces.{piece_as}
use Rattle.pyparse_expr.proofs.Recorders.Aside.{kept_as}
use Rattle.pyparse_expr.proofs.Recorders.Misses.{lacks_sign, not_named}
use Rattle.pyparse_expr.proofs.Recorders.Reads.{ReadPlaced, LeftPlaced, after_left, made_left, made_whole, placed_at}

-- what a reader after a bracket says: of a whole that begins with it
abbrev pub Enclosed : {S : Type 0} (after : S → Stretch → S) (ts : List given.Terminal) (i : List Terminal) (from : ℕ) (old new : S)
    → Read → Type 0
Enclosed after ts i from old new r =
    (ps : List Stretch) × Placed Atom (Op LBrace ∷ i) from (tree_of r.expr.value) (seen ts r.next) r.next ps × Records after old ps new

-- the clauses of a comprehension, read at a place
abbrev pub ClausesPlaced : {S : Type 0} (after : S → Stretch → S) (ts : List given.Terminal) (at : ℕ) (old new : S) → ForClauses → Type 0
ClausesPlaced after ts at old new r =
    (ps : List Stretch) × Clauses (seen ts at) at (map comprehension_of r.generators.items) (seen ts r.next) r.next ps
    × Records after old ps new

module _ {S : Type 0} (after : S → Stretch → S) (ts : List given.Terminal) where
  -- `{}`
  pub empty_placed : {from at : ℕ} {u w : S} (room : ℕ) (ks : OptionalExprs) (vs : Exprs) (z : Result Read Stop) → Stands (Op RBrace) ts at
      → w ≡ after u (stretch from (at + 1)) → Makes room (Trees.Dict ks vs) (at + 1) z → ks ≡ no_optional → vs ≡ no_exprs → at ≡ from + 1
      → IfOk z (λ r. Enclosed after ts (seen ts at) from u w r)
  empty_placed {from} {at = at} room ks vs z s h m k v q =
      let s1 : Stands (Op RBrace) ts (from + 1) = subst (λ n. Stands (Op RBrace) ts n) q s in
      let one : Placed Atom (Op LBrace ∷ seen ts (from + 1)) from (Trees.Dict no_optional no_exprs) (seen ts (from + 1 + 1)) (from + 1 + 1)
      (stretch from (from + 1 + 1) ∷ []) = placed_dict refl placed_no_item s1.is in
      let all : Placed Atom (Op LBrace ∷ seen ts at) from (Trees.Dict no_optional no_exprs) (seen ts (at + 1)) (at + 1)
      (stretch from (at + 1) ∷ []) = subst (λ n. Placed Atom (Op LBrace ∷ seen ts n) from (Trees.Dict no_optional no_exprs)
      (seen ts (n + 1)) (n + 1) (stretch from (n + 1) ∷ [])) (sym q) one in
      made_whole ts room (at + 1) z m (ap (λ z. Trees.Dict z vs) k ∙ ap (λ z. Trees.Dict no_optional z) v) all (records_node h)

  -- ---- Comprehensions.
  pub set_comp_placed : {from : ℕ} {i : List Terminal} {ps : List Stretch} {u v w : S} (first : Read) (gs : ForClauses) (room : ℕ)
      (z : Result Read Stop) → ClausesPlaced after ts first.next u v gs → Stands (Op RBrace) ts gs.next
      → w ≡ after v (stretch from (gs.next + 1))
      → Makes room (Trees.SetComp (tree_of first.expr.value) (comprehensions (map comprehension_of gs.generators.items))) (gs.next + 1) z
      → true ≡ starts_comp (seen ts first.next) → Placed Named i (from + 1) (tree_of first.expr.value) (seen ts first.next) first.next ps
      → IfOk z (λ r. LeftPlaced after ts Atom (Op LBrace ∷ i) from ps u w r)
  set_comp_placed {ps = ps} first gs room z c s h m b p =
      made_left ts ps room (gs.next + 1) z m refl (placed_set_comp refl p (clauses_some c.1 (sym b)) s.is)
      (records_more c.2 (records_node h))

  pub dict_comp_placed : {from : ℕ} {i : List Terminal} {ps vs : List Stretch} {u v w : S} (key value : Read) (gs : ForClauses)
      (room : ℕ) (z : Result Read Stop) → ClausesPlaced after ts value.next u v gs → Stands (Op RBrace) ts gs.next
      → w ≡ after v (stretch from (gs.next + 1))
      → Makes room (Trees.DictComp (tree_of key.expr.value) (tree_of value.expr.value)
      (comprehensions (map comprehension_of gs.generators.items))) (gs.next + 1) z → true ≡ starts_comp (seen ts value.next)
      → Placed Expression i (from + 1) (tree_of key.expr.value) (seen ts key.next) key.next ps → Stands (Op Colon) ts key.next
      → Placed Expression (seen ts (key.next + 1)) (key.next + 1) (tree_of value.expr.value) (seen ts value.next) value.next vs
      → IfOk z (λ r. (qs : List Stretch) × Placed Atom (Op LBrace ∷ i) from (tree_of r.expr.value) (seen ts r.next)
      r.next (ps ++ (vs ++ qs))
      × Records after u qs w)
  dict_comp_placed {from = from} key value gs room (Ok r) c s h m b p colon d = (
    c.0 ++ (stretch from (gs.next + 1) ∷ []),
    placed_as (seen ts) m.tree m.next_is (placed_dict_comp refl p colon.is d (clauses_some c.1 (sym b)) s.is),
    records_more c.2 (records_node h),
  )
  dict_comp_placed key value gs room (Err e) c s h m b p colon d = tt

  -- ---- After a key: a comprehension, or pairs.
  pub keyed_comp : {i : List Terminal} {ps : List Stretch} {u v : S} (key value : Read) (from : ℕ) (w : S) (z : Result Read Stop)
      → (d : ReadPlaced after ts Expression (key.next + 1) u v value) → true ≡ starts_comp (seen ts value.next)
      → ((i : List Terminal) (ps vs : List Stretch) → true ≡ starts_comp (seen ts value.next)
      → Placed Expression i (from + 1) (tree_of key.expr.value) (seen ts key.next) key.next ps → Stands (Op Colon) ts key.next
      → Placed Expression (seen ts (key.next + 1)) (key.next + 1) (tree_of value.expr.value) (seen ts value.next) value.next vs
      → IfOk z (λ r. (qs : List Stretch) × Placed Atom (Op LBrace ∷ i) from (tree_of r.expr.value) (seen ts r.next) r.next
      (ps ++ (vs ++ qs)) × Records after v qs w))
      → Placed Expression i (from + 1) (tree_of key.expr.value) (seen ts key.next) key.next ps → Stands (Op Colon) ts key.next
      → IfOk z (λ r. LeftPlaced after ts Atom (Op LBrace ∷ i) from ps u w r)
  keyed_comp {i} {ps = ps} {u = u} {v = v} key value from w z d b f p colon = go z (f i ps d.0 b p colon d.1)
    where
      go : (z : Result Read Stop) → IfOk z (λ r. (qs : List Stretch)
          × Placed Atom (Op LBrace ∷ i) from (tree_of r.expr.value) (seen ts r.next) r.next (ps ++ (d.0 ++ qs)) × Records after v qs w)
          → IfOk z (λ r. LeftPlaced after ts Atom (Op LBrace ∷ i) from ps u w r)
      go (Ok r) a = (d.0 ++ a.0, a.1, records_more d.2 a.2)
      go (Err e) a = tt

-- a Dict after its first pair, as it says of any recorder before the value of that pair
abbrev pub DictPlaced : {S : Type 0} (after beside : S → Stretch → S) (count : S → ℕ) (ts : List given.Terminal) (first : pair.Pair)
    (from n : ℕ) (old new : S) → Result Read Stop → Type 0
DictPlaced {S} after beside count ts first from n old new z =
    (i : List Terminal) (w : S) (p : EntryPlaces) → PlacedPiece Pair i (from + 1) (pair_of first) (seen ts first.next) first.next p
    → n ≡ count w → Kept after beside w [] (E.values (p ∷ [])) old
    → IfOk z (λ r. LeftPlaced after ts Atom (Op LBrace ∷ i) from (E.keys (p ∷ [])) w new r)

module _ {S : Type 0} (after beside : S → Stretch → S) (ts : List given.Terminal) (count : S → ℕ) (from : ℕ) (x : S) where
  pub keyed_pairs : {n : ℕ} {i : List Terminal} {ps : List Stretch} {u v w : S} (key value : Read) (first : pair.Pair)
      (z : Result Read Stop) → (d : ReadPlaced after ts Expression (key.next + 1) u v value) → Kept after beside u [] d.0 w
      → pair_of first ≡ Paired (tree_of key.expr.value) (tree_of value.expr.value) → first.next ≡ value.next → n ≡ count u
      → DictPlaced after beside count ts first from n w x z
      → Placed Expression i (from + 1) (tree_of key.expr.value) (seen ts key.next) key.next ps → Stands (Op Colon) ts key.next
      → IfOk z (λ r. LeftPlaced after ts Atom (Op LBrace ∷ i) from ps u x r)
  keyed_pairs {i = i} {ps = ps} {u = u} key value first z d h pair_is next_is n_is f p colon =
      let piece = piece_as (seen ts) pair_is next_is (placed_pair p colon.is d.1) in
      subst (λ y. IfOk z (λ r. LeftPlaced after ts Atom (Op LBrace ∷ i) from y u x r)) (append-nil ps)
      (f i u (E.Paired ps d.0) piece n_is (kept_as refl (append-nil d.0) h))

  -- `**` and a value come first
  pub doubled_first : {at n : ℕ} {u v w : S} (value : Read) (first : pair.Pair) (z : Result Read Stop) → Stands (Op DoubleStar) ts at
      → (d : ReadPlaced after ts BitOr (at + 1) u v value) → Kept after beside u [] d.0 w
      → pair_of first ≡ Doubled (tree_of value.expr.value)
      → first.next ≡ value.next → n ≡ count u → DictPlaced after beside count ts first from n w x z → at ≡ from + 1
      → IfOk z (λ r. Enclosed after ts (seen ts at) from u x r)
  doubled_first {at} {u = u} value first z s d h pair_is next_is n_is f q =
      f (seen ts at) u (E.Doubled d.0 (stretch at value.next))
      (placed_at q (piece_as (seen ts) pair_is next_is (placed_pairs_of s.is d.1))) n_is (kept_as refl (append-nil d.0) h)

-- ---- What begins with an element.
module _ {S : Type 0} {after : S → Stretch → S} {at : ℕ} {u v : S} (ts : List given.Terminal) (first : Read) (from : ℕ) (w : S)
    (z : Result Read Stop) (d : ReadPlaced after ts Elem at u v first) (q : at ≡ from + 1) where
  pub braces_set : ((i : List Terminal) (ps : List Stretch)
      → Placed Elem i (from + 1) (tree_of first.expr.value) (seen ts first.next) first.next ps
      → IfOk z (λ r. LeftPlaced after ts Atom (Op LBrace ∷ i) from ps v w r)) → IfOk z (λ r. Enclosed after ts (seen ts at) from u w r)
  braces_set f = after_left ts Atom (Op LBrace ∷ seen ts at) from w z d.2 (f (seen ts at) d.0 (placed_at q d.1))

  pub braces_comp : None ≡ first_is (is_op Star) (seen ts at) → true ≡ starts_comp (seen ts first.next)
      → ((i : List Terminal) (ps : List Stretch) → true ≡ starts_comp (seen ts first.next)
      → Placed Named i (from + 1) (tree_of first.expr.value) (seen ts first.next) first.next ps
      → IfOk z (λ r. LeftPlaced after ts Atom (Op LBrace ∷ i) from ps v w r)) → IfOk z (λ r. Enclosed after ts (seen ts at) from u w r)
  braces_comp n b f =
      after_left ts Atom (Op LBrace ∷ seen ts at) from w z d.2
      (f (seen ts at) d.0 b (placed_at q (elem_named d.1 (lacks_sign (seen ts at) Star n))))

  pub braces_keyed : None ≡ first_is (is_op Star) (seen ts at) → IsNotNamed ColonEqual ts at → Stands (Op Colon) ts first.next
      → ((i : List Terminal) (ps : List Stretch)
      → Placed Expression i (from + 1) (tree_of first.expr.value) (seen ts first.next) first.next ps → Stands (Op Colon) ts first.next
      → IfOk z (λ r. LeftPlaced after ts Atom (Op LBrace ∷ i) from ps v w r)) → IfOk z (λ r. Enclosed after ts (seen ts at) from u w r)
  braces_keyed n m colon f =
      let p = named_expression (elem_named d.1 (lacks_sign (seen ts at) Star n)) (not_named (seen ts at) m.is) in
      after_left ts Atom (Op LBrace ∷ seen ts at) from w z d.2 (f (seen ts at) d.0 (placed_at q p) colon)
