-- The places of lists of expressions, of Tuples and of Sets.
--
-- Carries: listing, others, tupled, read_item, target_tuple, set_from. On: Listings and Braces of pyplaces, ListSteps.
use Rattle.std.proofs.Common.{◌≡◌, refl, sym, ap, ◌∙◌, subst, ℕ, ◌+◌, List, [], ◌∷◌, ◌++◌, map, None, Result, Ok, Err, append_assoc}
use Rattle.std.specs.Prelude.{IfOk}
use Rattle.std.proofs.lemmas.List.{append-nil, map-append}
use Rattle.pylex_lexeme.specs.declared.kinds.Exact.TheVariants.{Comma, LBrace, RBrace}
use Rattle.pytree_node.specs.declared.operators.Context.TheVariants.{Load}
use Rattle.pytree_node.specs.Trees
use Rattle.pytree_node.specs.Trees.{exprs}
use Rattle.pytree_node.specs.TreeOf.{tree_of}
use Rattle.pytoken.specs.Terminals.{Terminal, Op}
use Rattle.pytoken.specs.declared.values.terminals.Terminal as given
use Rattle.pygrammar.specs.declared.levels.Level.{Level}
use Rattle.pygrammar.specs.declared.levels.Level.TheVariants.{Elem, Atom}
use Rattle.pygrammar.specs.Entries.{Item, Entry, Of, Single, singles}
use Rattle.pygrammar.specs.Looks.{is_op}
use Rattle.pyparse_nodes.specs.declared.found.Read.{Read}
use Rattle.pyparse_nodes.specs.declared.found.Items.{Items}
use Rattle.pyparse_nodes.specs.declared.stop.Stop.{Stop}
use Rattle.pyparse_nodes.specs.Answers.{Makes}
use Rattle.pyparse_nodes.specs.Views.{Stands, seen, first_is}
use Rattle.pyplaces.specs.Stretches.{Stretch, stretch}
use Rattle.pyplaces.specs.EntryPlaces as E
use Rattle.pyplaces.specs.EntryPlaces.{EntryPlaces}
use Rattle.pyplaces.specs.Placed.{Placed, PlacedPiece}
use Rattle.pyplaces.specs.Recording.{Records}
use Rattle.pyplaces.specs.Rests.{Others}
use Rattle.pyplaces.proofs.Answers.{read_as, records_none, records_node, records_more}
use Rattle.pyplaces.proofs.Loops.{Grows, grows_start}
use Rattle.pyplaces.proofs.Selections.{singles_append, with_one}
use Rattle.pyplaces.proofs.Expressions.Listings.{placed_single, others_turn, others_end, others_comma, listed, after_comma}
use Rattle.pyplaces.proofs.Expressions.Braces.{placed_set}
use Rattle.pyparse_expr.specs.Inner.Found.{entries_of}
use Rattle.pyparse_expr.specs.Inner.PlacedLists.{MorePlaced, OthersPlaced, TuplePlaced}
use Rattle.pyparse_expr.proofs.Lists.ListSteps.{singles_all}
use Rattle.pyparse_expr.proofs.Recorders.Misses.{lacks_sign}
use Rattle.pyparse_expr.proofs.Recorders.Reads.{ReadPlaced, LeftPlaced, made_left, with_places, records_as}

-- an item, read at a place
abbrev pub ItemPlaced : {S : Type 0} (after : S → Stretch → S) (ts : List given.Terminal) (j : Item) (at : ℕ) (old new : S) → Read
    → Type 0
ItemPlaced after ts j at old new r =
    (ps : List Stretch) × PlacedPiece j (seen ts at) at (Single (tree_of r.expr.value)) (seen ts r.next) r.next (E.Single ps)
    × Records after old ps new

module _ {S : Type 0} (after : S → Stretch → S) (ts : List given.Terminal) (at : ℕ) (u v : S) where
  -- an expression of the level of the items
  pub item_placed : {j : Item} (l : Level) (z : Result Read Stop) → j ≡ Of l
      → IfOk z (λ r. ReadPlaced after ts l at u v r) → IfOk z (λ r. ItemPlaced after ts j at u v r)
  item_placed l (Ok r) h p = (
    p.0,
    subst (λ k. PlacedPiece k (seen ts at) at (Single (tree_of r.expr.value)) (seen ts r.next) r.next (E.Single p.0)) (sym h)
        (placed_single p.1),
    p.2,
  )
  item_placed l (Err e) h p = tt

-- how far a list has come
pub record Grown {S : Type 0} (after : S → Stretch → S) (ts : List given.Terminal) (j : Item) (first now : Items) (old new : S)
    : Type 0 where
  pub es : List Entry
  pub places : List EntryPlaces
  pub entries : entries_of now ≡ entries_of first ++ es
  pub grows : Grows (Others j) (seen ts first.next) first.next es (seen ts now.next) now.next places
  pub records : Records after old (E.singles places) new

module _ {S : Type 0} {after : S → Stretch → S} {ts : List given.Terminal} {j : Item} where
  pub grown_start : {items : Items} {u : S} → Grown after ts j items items u u
  grown_start {items = items} = record {
    es = [];
    places = [];
    entries = sym (append-nil (entries_of items));
    grows = grows_start;
    records = records_none;
  }

  pub grown_turn : {first items new : Items} {u v w : S} (e : Read) → Grown after ts j first items u v → Stands (Op Comma) ts items.next
      → ItemPlaced after ts j (items.next + 1) v w e
      → map tree_of new.exprs.items ≡ map tree_of items.exprs.items ++ (tree_of e.expr.value ∷ []) → new.next ≡ e.next
      → Grown after ts j first new u w
  grown_turn {first} {items = items} e g s d p k =
      let one : List Entry = Single (tree_of e.expr.value) ∷ [] in
      let its : List EntryPlaces = E.Single d.0 ∷ [] in
      record {
        es = g.es ++ one;
        places = g.places ++ its;
        entries = ap (λ l. map (λ t. Single t) l) p
            ∙ (map-append (λ t. Single t) (map tree_of items.exprs.items) (tree_of e.expr.value ∷ [])
            ∙ (ap (λ z. z ++ one) g.entries ∙ append_assoc (entries_of first) g.es one));
        grows = subst (λ z. Grows (Others j) (seen ts first.next) first.next (g.es ++ one) (seen ts z) z (g.places ++ its)) (sym k)
            (others_turn g.grows s.is d.1);
        records = records_as (with_one (E.singles g.places) d.0 (singles_append g.places its)) (records_more g.records d.2);
      }

  -- no comma stands after them
  pub grown_end : {first items : Items} {u v : S} → Grown after ts j first items u v → None ≡ first_is (is_op Comma) (seen ts items.next)
      → MorePlaced after ts j first items u v
  grown_end {items = items} g n = record {
    es = g.es;
    places = g.places;
    entries = g.entries;
    others = others_end g.grows (lacks_sign (seen ts items.next) Comma n);
    records = g.records;
  }

  -- a comma ends them
  pub grown_comma : {first items r : Items} {u v : S} → Grown after ts j first items u v → Stands (Op Comma) ts items.next
      → entries_of r ≡ entries_of items → r.next ≡ items.next + 1 → MorePlaced after ts j first r u v
  grown_comma {first} g s q k = record {
    es = g.es;
    places = g.places;
    entries = q ∙ g.entries;
    others = subst (λ z. Others j (seen ts first.next) first.next g.es (seen ts z) z g.places) (sym k) (others_comma g.grows s.is);
    records = g.records;
  }

  pub tuple_placed : {first : Read} {items : Items} {at : ℕ} {u v w : S} (room : ℕ) (z : Result Read Stop) → Stands (Op Comma) ts first.next
      → OthersPlaced after ts j first items u v → w ≡ after v (stretch at items.next)
      → Makes room (Trees.Tuple (exprs (map tree_of items.exprs.items)) Load) items.next z
      → IfOk z (λ r. TuplePlaced after ts j first at r u w)
  tuple_placed {at = at} {v = v} room (Ok r) s o h m = record {
    es = o.es;
    places = o.places;
    tree = m.tree ∙ ap (λ z. Trees.Tuple z Load) o.elements;
    listing = read_as (seen ts) m.next_is (after_comma o.others s.is);
    records = records_more o.records (records_node (h ∙ ap (λ n. after v (stretch at n)) (sym m.next_is)));
  }
  tuple_placed room (Err e) s o h m = tt

module _ {S : Type 0} (after : S → Stretch → S) (ts : List given.Terminal) (j : Item) (first : Read) (one : Items) (u v : S) where
  pub others_placed : (z : Result Items Stop)
      → map tree_of one.exprs.items ≡ tree_of first.expr.value ∷ [] → one.next ≡ first.next → IfOk z (λ r. MorePlaced after ts j one r u v)
      → IfOk z (λ r. OthersPlaced after ts j first r u v)
  others_placed (Ok r) p k m = record {
    es = m.es;
    places = m.places;
    elements = sym (singles_all (map tree_of r.exprs.items))
        ∙ ap singles (m.entries ∙ ap (λ l. map (λ t. Single t) l ++ m.es) p);
    others = subst (λ n. Others j (seen ts n) n m.es (seen ts r.next) r.next m.places) k m.others;
    records = m.records;
  }
  others_placed (Err e) p k m = tt

-- a Set
module _ {S : Type 0} {after : S → Stretch → S} {ts : List given.Terminal} where
  pub set_placed : {first : Read} {items : Items} {from : ℕ} {i : List Terminal} {ps : List Stretch} {u v w : S} (room : ℕ)
      (z : Result Read Stop) → OthersPlaced after ts (Of Elem) first items u v → Stands (Op RBrace) ts items.next
      → w ≡ after v (stretch from (items.next + 1)) → Makes room (Trees.Set (exprs (map tree_of items.exprs.items))) (items.next + 1) z
      → Placed Elem i (from + 1) (tree_of first.expr.value) (seen ts first.next) first.next ps
      → IfOk z (λ r. LeftPlaced after ts Atom (Op LBrace ∷ i) from ps u w r)
  set_placed {items = items} {from = from} {ps = ps} room z o s h m p =
      let own : List Stretch = stretch from (items.next + 1) ∷ [] in
      made_left ts ps room (items.next + 1) z m (ap (λ z. Trees.Set z) o.elements)
      (with_places (append_assoc ps (E.singles o.places) own) (placed_set refl (listed (placed_single p) o.others) s.is))
      (records_more o.records (records_node h))
