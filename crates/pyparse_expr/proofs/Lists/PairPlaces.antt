-- The places of pairs, and of a Dict.
--
-- Carries: read_pair, more_pairs, dict_from, keyed, curly. On: Listings and Braces of pyplaces, PairSteps, Aside.
use Rattle.std.proofs.Common.{◌≡◌, refl, sym, ap, ◌∙◌, subst, ℕ, ◌+◌, List, [], ◌∷◌, ◌++◌, map, None, Result, append_assoc}
use Rattle.std.specs.Prelude.{IfOk}
use Rattle.std.proofs.lemmas.List.{append-nil}
use Rattle.pylex_lexeme.specs.declared.kinds.Exact.TheVariants.{Comma, Colon, DoubleStar, LBrace, RBrace}
use Rattle.pytree_node.specs.Trees
use Rattle.pytree_node.specs.Trees.{exprs, optionals}
use Rattle.pytree_node.specs.TreeOf.{tree_of, option_of}
use Rattle.pytoken.specs.Terminals.{Terminal, Op}
use Rattle.pytoken.specs.declared.values.terminals.Terminal as given
use Rattle.pygrammar.specs.declared.levels.Level.TheVariants.{Expression, BitOr, Atom}
use Rattle.pygrammar.specs.Entries as parts
use Rattle.pygrammar.specs.Entries.{Entry, Pair, Paired, Doubled}
use Rattle.pygrammar.specs.Looks.{is_op}
use Rattle.pyparse_nodes.specs.declared.found.Pair as pair
use Rattle.pyparse_nodes.specs.declared.found.Pairs.{Pairs}
use Rattle.pyparse_nodes.specs.declared.found.Read.{Read}
use Rattle.pyparse_nodes.specs.declared.stop.Stop.{Stop}
use Rattle.pyparse_nodes.specs.Answers.{Makes}
use Rattle.pyparse_nodes.specs.Views.{Stands, seen, first_is}
use Rattle.pyplaces.specs.Stretches.{Stretch, stretch}
use Rattle.pyplaces.specs.EntryPlaces as E
use Rattle.pyplaces.specs.EntryPlaces.{EntryPlaces}
use Rattle.pyplaces.specs.Placed.{PlacedPiece}
use Rattle.pyplaces.specs.Recording.{afters, Kept}
use Rattle.pyplaces.specs.Rests.{Others}
use Rattle.pyplaces.proofs.Answers.{records_node, records_more}
use Rattle.pyplaces.proofs.Asides.{kept_more, kept_then}
use Rattle.pyplaces.proofs.Loops.{Grows, grows_start}
use Rattle.pyplaces.proofs.Selections.{keys_append, values_append}
use Rattle.pyplaces.proofs.Expressions.Listings.{others_turn, others_end, others_comma, listed}
use Rattle.pyplaces.proofs.Expressions.Braces.{placed_dict, placed_pair, placed_pairs_of}
use Rattle.pyparse_expr.specs.Inner.Pairs.{pair_of, pairs_of}
use Rattle.pyparse_expr.specs.Inner.PlacedLists.{PairPlaced, PairsPlaced}
use Rattle.pyparse_expr.proofs.Lists.PairSteps.{pairs_keys, pairs_values}
use Rattle.pyparse_expr.proofs.Recorders.Aside.{kept_as, kept_back, records_done}
use Rattle.pyparse_expr.proofs.Recorders.Misses.{lacks_sign}
use Rattle.pyparse_expr.proofs.Recorders.Reads.{ReadPlaced, LeftPlaced, made_left, with_places}

-- a pair of this entry
pub piece_as : {i : List Terminal} {at n k : ℕ} {e f : Entry} {p : EntryPlaces} (rest : ℕ → List Terminal) → f ≡ e → k ≡ n
    → PlacedPiece Pair i at e (rest n) n p → PlacedPiece Pair i at f (rest k) k p
piece_as {i} {at = at} {n = n} {e = e} {f = f} {p = p} rest h q d =
    subst (λ z. PlacedPiece Pair i at f (rest z) z p) (sym q) (subst (λ z. PlacedPiece Pair i at z (rest n) n p) (sym h) d)

module _ {S : Type 0} {after beside : S → Stretch → S} {ts : List given.Terminal} where
  -- ---- One pair.
  pub doubled_placed : {at : ℕ} {r : pair.Pair} {u v w : S} (e : Read) → Stands (Op DoubleStar) ts at
      → (d : ReadPlaced after ts BitOr (at + 1) u v e) → Kept after beside u [] d.0 w → pair_of r ≡ Doubled (tree_of e.expr.value)
      → r.next ≡ e.next → PairPlaced after beside ts at r u w
  doubled_placed {at} e s d h p k = record {
    entry = E.Doubled d.0 (stretch at e.next);
    placed = piece_as (seen ts) p k (placed_pairs_of s.is d.1);
    kept = kept_as refl (append-nil d.0) h;
  }

  pub paired_placed : {at : ℕ} {r : pair.Pair} {u v w x : S} (a e : Read) → (b : ReadPlaced after ts Expression at u v a)
      → Stands (Op Colon) ts a.next → (d : ReadPlaced after ts Expression (a.next + 1) v w e) → Kept after beside v [] d.0 x
      → pair_of r ≡ Paired (tree_of a.expr.value) (tree_of e.expr.value) → r.next ≡ e.next → PairPlaced after beside ts at r u x
  paired_placed a e b s d h p k = record {
    entry = E.Paired b.0 d.0;
    placed = piece_as (seen ts) p k (placed_pair b.1 s.is d.1);
    kept = kept_as (append-nil b.0) (append-nil d.0) (kept_then b.2 h);
  }

-- ---- How far the pairs have come.
pub record PairsGrown {S : Type 0} (after beside : S → Stretch → S) (ts : List given.Terminal) (first now : Pairs) (old new : S)
    : Type 0 where
  pub es : List Entry
  pub places : List EntryPlaces
  pub entries : pairs_of now ≡ pairs_of first ++ es
  pub grows : Grows (Others Pair) (seen ts first.next) first.next es (seen ts now.next) now.next places
  pub kept : Kept after beside old (E.keys places) (E.values places) new

module _ {S : Type 0} {after beside : S → Stretch → S} {ts : List given.Terminal} where
  pub pairs_grown_start : {pairs : Pairs} {u : S} → PairsGrown after beside ts pairs pairs u u
  pairs_grown_start {pairs} = record {
    es = [];
    places = [];
    entries = sym (append-nil (pairs_of pairs));
    grows = grows_start;
    kept = record { is = refl };
  }

  pub pairs_grown_turn : {first pairs new : Pairs} {e : pair.Pair} {u v w : S}
      → ((x : S) (s t : Stretch) → beside (after x s) t ≡ after (beside x t) s) → PairsGrown after beside ts first pairs u v
      → Stands (Op Comma) ts pairs.next → PairPlaced after beside ts (pairs.next + 1) e v w
      → pairs_of new ≡ pairs_of pairs ++ (pair_of e ∷ []) → new.next ≡ e.next → PairsGrown after beside ts first new u w
  pairs_grown_turn {first} {e = e} apart g s d p k =
      let one : List Entry = pair_of e ∷ [] in
      let its : List EntryPlaces = d.entry ∷ [] in
      record {
        es = g.es ++ one;
        places = g.places ++ its;
        entries = p ∙ (ap (λ z. z ++ one) g.entries ∙ append_assoc (pairs_of first) g.es one);
        grows = subst (λ z. Grows (Others Pair) (seen ts first.next) first.next (g.es ++ one) (seen ts z) z (g.places ++ its))
            (sym k) (others_turn g.grows s.is d.placed);
        kept = kept_as (keys_append g.places its) (values_append g.places its) (kept_more (record { is = apart }) g.kept d.kept);
      }

  pub pairs_grown_end : {first pairs : Pairs} {u v : S} → PairsGrown after beside ts first pairs u v
      → None ≡ first_is (is_op Comma) (seen ts pairs.next) → PairsPlaced after beside ts first pairs u v
  pairs_grown_end {pairs = pairs} g n = record {
    es = g.es;
    places = g.places;
    entries = g.entries;
    others = others_end g.grows (lacks_sign (seen ts pairs.next) Comma n);
    kept = g.kept;
  }

  pub pairs_grown_comma : {first pairs r : Pairs} {u v : S} → PairsGrown after beside ts first pairs u v → Stands (Op Comma) ts pairs.next
      → pairs_of r ≡ pairs_of pairs → r.next ≡ pairs.next + 1 → PairsPlaced after beside ts first r u v
  pairs_grown_comma {first} g s q k = record {
    es = g.es;
    places = g.places;
    entries = q ∙ g.entries;
    others = subst (λ z. Others Pair (seen ts first.next) first.next g.es (seen ts z) z g.places) (sym k)
        (others_comma g.grows s.is);
    kept = g.kept;
  }

  -- ---- A Dict after its first pair, whose value was set aside; w is the recorder before that value.
  pub dict_placed : {one pairs : Pairs} {from n : ℕ} {i : List Terminal} {p : EntryPlaces} {w u v x y : S} (first : pair.Pair)
      (room : ℕ) (z : Result Read Stop) (count : S → ℕ)
      → ((x : S) (s t : Stretch) → beside (after x s) t ≡ after (beside x t) s)
      → ((x : S) (s : Stretch) → count (after x s) ≡ count x) → pairs_of one ≡ pair_of first ∷ [] → one.next ≡ first.next
      → PairsPlaced after beside ts one pairs u v → Stands (Op RBrace) ts pairs.next
      → ((a : S) (xs : List Stretch) → v ≡ afters beside a xs → n ≡ count a → x ≡ afters after a xs)
      → y ≡ after x (stretch from (pairs.next + 1))
      → Makes room (Trees.Dict (optionals (map option_of pairs.keys.items)) (exprs (map tree_of pairs.values.items))) (pairs.next + 1) z
      → PlacedPiece Pair i (from + 1) (pair_of first) (seen ts first.next) first.next p → n ≡ count w
      → Kept after beside w [] (E.values (p ∷ [])) u → IfOk z (λ r. LeftPlaced after ts Atom (Op LBrace ∷ i) from (E.keys (p ∷ [])) w y r)
  dict_placed {pairs = pairs} {from = from} {p = p} {w = w} {v = v} first room z count apart still one_is place o s
      taken h m d count_is before =
      let fs : List EntryPlaces = p ∷ o.places in
      let own : List Stretch = stretch from (pairs.next + 1) ∷ [] in
      let all : pair_of first ∷ o.es ≡ pairs_of pairs = sym (o.entries ∙ ap (λ z. z ++ o.es) one_is) in
      let others : Others Pair (seen ts first.next) first.next o.es (seen ts pairs.next) pairs.next o.places =
      subst (λ n. Others Pair (seen ts n) n o.es (seen ts pairs.next) pairs.next o.places) place o.others in
      let both : Kept after beside w (E.keys o.places) (E.values fs) v =
      kept_as refl (values_append (p ∷ []) o.places) (kept_more (record { is = apart }) before o.kept) in
      let keys_are : parts.keys (pair_of first ∷ o.es) ≡ optionals (map option_of pairs.keys.items) =
      ap parts.keys all ∙ pairs_keys pairs in
      let values_are : parts.values (pair_of first ∷ o.es) ≡ exprs (map tree_of pairs.values.items) =
      ap parts.values all ∙ pairs_values pairs in
      made_left ts (E.keys (p ∷ [])) room (pairs.next + 1) z m
      (ap (λ z. Trees.Dict z (exprs (map tree_of pairs.values.items))) (sym keys_are)
      ∙ ap (λ z. Trees.Dict (parts.keys (pair_of first ∷ o.es)) z) (sym values_are))
      (with_places (ap (λ z. z ++ (E.values fs ++ own)) (keys_append (p ∷ []) o.places)
      ∙ append_assoc (E.keys (p ∷ [])) (E.keys o.places) (E.values fs ++ own)) (placed_dict refl (listed d others) s.is))
      (records_more records_done (records_more (kept_back count still both count_is taken) (records_node h)))
