-- The places of atoms.
--
-- Carries: read_atom, atom_of, other_atom, closed, round, group_tuple, generator_group, square, list_comp.
-- On: Made, Looks, Levels; Atoms, Listings and Comprehensions of pyplaces.
use Rattle.std.proofs.Common.{◌≡◌, refl, sym, subst, ℕ, ◌+◌, List, [], ◌∷◌, ◌++◌, None, true, Result, Ok, Err, map}
use Rattle.std.specs.Prelude.{IfOk, MatchResult}
use Rattle.pylex_lexeme.specs.declared.kinds.Exact.TheVariants.{LPar, RPar, LSqb, RSqb, Comma, Star}
use Rattle.pytoken.specs.declared.keywords.Keyword.TheVariants as Key
use Rattle.pytree_node.specs.declared.operators.Context.TheVariants.{Load}
use Rattle.pytree_node.specs.Trees
use Rattle.pytree_node.specs.Trees.{Expr, exprs, no_exprs, comprehensions}
use Rattle.pytree_node.specs.TreeOf.{tree_of, comprehension_of}
use Rattle.pytoken.specs.Terminals.{Terminal, Op, Word}
use Rattle.pytoken.specs.declared.values.terminals.Terminal as given
use Rattle.pygrammar.specs.declared.levels.Level.TheVariants as level
use Rattle.pygrammar.specs.Entries.{Of}
use Rattle.pygrammar.specs.Looks.{is_op}
use Rattle.pygrammar.specs.Precedence.{starts_comp}
use Rattle.pyparse_nodes.specs.declared.found.ForClauses.{ForClauses}
use Rattle.pyparse_nodes.specs.declared.found.Items.{Items}
use Rattle.pyparse_nodes.specs.declared.found.Read.{Read}
use Rattle.pyparse_nodes.specs.declared.stop.Stop.{Stop}
use Rattle.pyparse_nodes.specs.declared.stop.Stop.TheVariants as stop
use Rattle.pyparse_nodes.specs.Answers.{Made, Makes}
use Rattle.pyparse_nodes.specs.Views.{Stands, seen, first_is}
use Rattle.pyparse_expr.specs.Inner.PlacedLists.{OthersPlaced}
use Rattle.pyparse_expr.specs.Inner.PlacedAtoms.{ClosedBy}
use Rattle.pyplaces.specs.Stretches.{Stretch, stretch}
use Rattle.pyplaces.specs.EntryPlaces as E
use Rattle.pyplaces.specs.Placed.{Placed, PlacedYields}
use Rattle.pyplaces.specs.Recording.{Records}
use Rattle.pyplaces.specs.Rests.{Clauses}
use Rattle.pyplaces.proofs.Answers.{placed_as, records_node, records_more}
use Rattle.pyplaces.proofs.Expressions.Atoms.{placed_group, placed_yield_group, placed_empty_tuple, placed_tuple, placed_generator_group}
use Rattle.pyplaces.proofs.Expressions.Atoms.{placed_list, placed_list_comp}
use Rattle.pyplaces.proofs.Expressions.Comprehensions.{clauses_some}
use Rattle.pyplaces.proofs.Expressions.Listings.{placed_single, placed_no_item, listed, after_comma}
use Rattle.pyplaces.proofs.Expressions.Readings.{elem_named}
use Rattle.pyparse_expr.proofs.Recorders.Made.{Whole, WholeAfter, at_next, whole_made, whole_after, leaf_made}
use Rattle.pyparse_reads.proofs.Callers.Looks.{no_op}

module _ {S : Type 0} (after : S → Stretch → S) (u v : S) (ts : List given.Terminal) where
  -- ---- One terminal.
  pub leaf_placed : (begin next : ℕ) (i : List Terminal) (e : Expr) (z : Result Read Stop) → next ≡ begin + 1
      → MatchResult z (λ r. Made 1 e next r) (λ s. s ≡ stop.Memory)
      → Placed level.Atom i begin e (seen ts next) (begin + 1) (stretch begin (begin + 1) ∷ []) → v ≡ after u (stretch begin next)
      → IfOk z (Whole after ts level.Atom i begin u v)
  leaf_placed begin next i e z q m p h =
      leaf_made after u v ts level.Atom i begin e next z m
      (subst (λ n. Placed level.Atom i begin e (seen ts next) n (stretch begin n ∷ [])) (sym q) p) (records_node h)

  -- ---- Round brackets.
  pub no_tuple_placed : (begin at room : ℕ) (es : List Expr) (z : Result Read Stop) → at ≡ begin + 1 → Stands (Op RPar) ts at → es ≡ []
      → Makes room (Trees.Tuple (exprs es) Load) (at + 1) z → v ≡ after u (stretch begin (at + 1))
      → IfOk z (Whole after ts level.Atom (Op LPar ∷ seen ts at) begin u v)
  no_tuple_placed begin at room es z q c n m h =
      let p : Placed level.Atom (Op LPar ∷ seen ts at) begin (Trees.Tuple no_exprs Load) (seen ts (at + 1)) (at + 1)
      (stretch begin (at + 1) ∷ []) =
      subst (λ k. Placed level.Atom (Op LPar ∷ seen ts at) begin (Trees.Tuple no_exprs Load) (seen ts (at + 1)) (k + 1)
      (stretch begin (k + 1) ∷ [])) (sym q) (placed_empty_tuple refl c.is) in
      whole_made after u v ts level.Atom (Op LPar ∷ seen ts at) begin room (Trees.Tuple (exprs es) Load) (at + 1) z m
      (subst (λ l. Placed level.Atom (Op LPar ∷ seen ts at) begin (Trees.Tuple (exprs l) Load) (seen ts (at + 1)) (at + 1)
      (stretch begin (at + 1) ∷ [])) (sym n) p) (records_node h)

  pub group_placed : {ps : List Stretch} (begin at : ℕ) (e : Read) (z : Result Read Stop) → at ≡ begin + 1
      → None ≡ first_is (is_op Star) (seen ts at)
      → Placed level.Elem (seen ts at) at (tree_of e.expr.value) (seen ts e.next) e.next ps → Records after u ps v
      → IfOk z (λ r. ClosedBy RPar ts e r) → IfOk z (Whole after ts level.Atom (Op LPar ∷ seen ts at) begin u v)
  group_placed {ps = ps} begin at e (Ok r) q n p k h =
      (ps, placed_as (seen ts) h.same h.next_is (placed_group refl (at_next q (elem_named p (no_op Star n))) h.stands.is), k)
  group_placed begin at e (Err o) q n p k h = tt

  pub yield_group_placed : {ps : List Stretch} (begin at : ℕ) (e : Read) (z : Result Read Stop) → at ≡ begin + 1
      → Stands (Word Key.Yield) ts at
      → PlacedYields (seen ts (at + 1)) (at + 1) (tree_of e.expr.value) (seen ts e.next) e.next ps
      → Records after u (ps ++ (stretch at e.next ∷ [])) v → IfOk z (λ r. ClosedBy RPar ts e r)
      → IfOk z (Whole after ts level.Atom (Op LPar ∷ seen ts at) begin u v)
  yield_group_placed {ps = ps} begin at e (Ok r) q y p k h =
      let p1 = subst (λ n. PlacedYields (seen ts (at + 1)) (n + 1) (tree_of e.expr.value) (seen ts e.next) e.next ps) q p in
      let k1 = subst (λ n. Records after u (ps ++ (stretch n e.next ∷ [])) v) q k in (
        ps ++ (stretch (begin + 1) e.next ∷ []),
        placed_as (seen ts) h.same h.next_is (placed_yield_group refl y.is p1 h.stands.is),
        k1,
      )
  yield_group_placed begin at e (Err o) q y p k h = tt

  -- a tuple, and a generator expression, after the first element
  pub group_tuple_placed : {w : S} (begin room : ℕ) (i : List Terminal) (ps : List Stretch) (first : Read)
      (items : Items) (z : Result Read Stop)
      → Placed level.Elem i (begin + 1) (tree_of first.expr.value) (seen ts first.next) first.next ps
      → Stands (Op Comma) ts first.next → OthersPlaced after ts (Of level.Elem) first items u w → Stands (Op RPar) ts items.next
      → v ≡ after w (stretch begin (items.next + 1))
      → Makes room (Trees.Tuple (exprs (map tree_of items.exprs.items)) Load) (items.next + 1) z
      → IfOk z (WholeAfter after ts level.Atom (Op LPar ∷ i) begin ps u v)
  group_tuple_placed begin room i ps first items z p c o y h m =
      whole_after after u v ts ps level.Atom (Op LPar ∷ i) begin room (Trees.Tuple (exprs (map tree_of items.exprs.items))
      Load) (items.next + 1) z m
      (subst (λ l. Placed level.Atom (Op LPar ∷ i) begin (Trees.Tuple l Load) (seen ts (items.next + 1)) (items.next + 1)
      (ps ++ (E.singles o.places ++ (stretch begin (items.next + 1) ∷ [])))) (sym o.elements)
      (placed_tuple refl p c.is (after_comma o.others c.is) y.is)) (records_more o.records (records_node h))

  pub generator_placed : {w : S} {qs : List Stretch} (begin room : ℕ) (i : List Terminal) (ps : List Stretch) (first : Read)
      (comps : ForClauses) (z : Result Read Stop)
      → Placed level.Named i (begin + 1) (tree_of first.expr.value) (seen ts first.next) first.next ps
      → true ≡ starts_comp (seen ts first.next)
      → Clauses (seen ts first.next) first.next (map comprehension_of comps.generators.items) (seen ts comps.next) comps.next qs
      → Records after u qs w → Stands (Op RPar) ts comps.next → v ≡ after w (stretch begin (comps.next + 1))
      → Makes room (Trees.GeneratorExp (tree_of first.expr.value) (comprehensions (map comprehension_of comps.generators.items)))
      (comps.next + 1) z
      → IfOk z (WholeAfter after ts level.Atom (Op LPar ∷ i) begin ps u v)
  generator_placed begin room i ps first comps z p b c k y h m =
      whole_after after u v ts ps level.Atom (Op LPar ∷ i) begin room
      (Trees.GeneratorExp (tree_of first.expr.value) (comprehensions (map comprehension_of comps.generators.items))) (comps.next + 1) z m
      (placed_generator_group refl p (clauses_some c (sym b)) y.is) (records_more k (records_node h))

  -- ---- Square brackets.
  pub no_list_placed : (begin at room : ℕ) (es : List Expr) (z : Result Read Stop) → at ≡ begin + 1 → Stands (Op RSqb) ts at → es ≡ []
      → Makes room (Trees.ListOf (exprs es) Load) (at + 1) z → v ≡ after u (stretch begin (at + 1))
      → IfOk z (Whole after ts level.Atom (Op LSqb ∷ seen ts at) begin u v)
  no_list_placed begin at room es z q c n m h =
      let p : Placed level.Atom (Op LSqb ∷ seen ts at) begin (Trees.ListOf no_exprs Load) (seen ts (at + 1)) (at + 1)
      (stretch begin (at + 1) ∷ []) =
      subst (λ k. Placed level.Atom (Op LSqb ∷ seen ts at) begin (Trees.ListOf no_exprs Load) (seen ts (at + 1)) (k + 1)
      (stretch begin (k + 1) ∷ [])) (sym q) (placed_list refl placed_no_item c.is) in
      whole_made after u v ts level.Atom (Op LSqb ∷ seen ts at) begin room (Trees.ListOf (exprs es) Load) (at + 1) z m
      (subst (λ l. Placed level.Atom (Op LSqb ∷ seen ts at) begin (Trees.ListOf (exprs l) Load) (seen ts (at + 1)) (at + 1)
      (stretch begin (at + 1) ∷ [])) (sym n) p) (records_node h)

  pub list_placed : {w y : S} {ps : List Stretch} (begin at room : ℕ) (first : Read) (items : Items) (z : Result Read Stop)
      → at ≡ begin + 1
      → Placed level.Elem (seen ts at) at (tree_of first.expr.value) (seen ts first.next) first.next ps → Records after u ps w
      → OthersPlaced after ts (Of level.Elem) first items w y → Stands (Op RSqb) ts items.next
      → v ≡ after y (stretch begin (items.next + 1))
      → Makes room (Trees.ListOf (exprs (map tree_of items.exprs.items)) Load) (items.next + 1) z
      → IfOk z (Whole after ts level.Atom (Op LSqb ∷ seen ts at) begin u v)
  list_placed {ps = ps} begin at room first items z q p k o c h m =
      whole_made after u v ts level.Atom (Op LSqb ∷ seen ts at) begin room (Trees.ListOf (exprs (map tree_of items.exprs.items)) Load)
      (items.next + 1) z m
      (subst (λ l. Placed level.Atom (Op LSqb ∷ seen ts at) begin (Trees.ListOf l Load) (seen ts (items.next + 1)) (items.next + 1)
      ((ps ++ E.singles o.places) ++ (stretch begin (items.next + 1) ∷ []))) (sym o.elements)
      (placed_list refl (listed (placed_single (at_next q p)) o.others) c.is)) (records_more (records_more k o.records) (records_node h))

  pub list_comp_placed : {w : S} {qs : List Stretch} (begin room : ℕ) (i : List Terminal) (ps : List Stretch) (first : Read)
      (comps : ForClauses) (z : Result Read Stop)
      → Placed level.Named i (begin + 1) (tree_of first.expr.value) (seen ts first.next) first.next ps
      → true ≡ starts_comp (seen ts first.next)
      → Clauses (seen ts first.next) first.next (map comprehension_of comps.generators.items) (seen ts comps.next) comps.next qs
      → Records after u qs w → Stands (Op RSqb) ts comps.next → v ≡ after w (stretch begin (comps.next + 1))
      → Makes room (Trees.ListComp (tree_of first.expr.value) (comprehensions (map comprehension_of comps.generators.items)))
      (comps.next + 1) z
      → IfOk z (WholeAfter after ts level.Atom (Op LSqb ∷ i) begin ps u v)
  list_comp_placed begin room i ps first comps z p b c k y h m =
      whole_after after u v ts ps level.Atom (Op LSqb ∷ i) begin room
      (Trees.ListComp (tree_of first.expr.value) (comprehensions (map comprehension_of comps.generators.items))) (comps.next + 1) z m
      (placed_list_comp refl p (clauses_some c (sym b)) y.is) (records_more k (records_node h))
