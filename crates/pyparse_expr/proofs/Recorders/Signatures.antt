-- Parameters, recorded: the defaults are set aside in two runs, and taken back after the others.
--
-- Carries: signatures.rt. On: Asides, Listings, Parameters, Levels, Selections of pyplaces; Formals.
use Rattle.std.proofs.Common.{◌≡◌, refl, sym, ap, subst, ◌∙◌, arith, ℕ, ◌+◌, List, [], ◌∷◌, ◌++◌, map, drop, drop-drop, Option, Some, None}
use Rattle.std.proofs.Common.{Bool, true, false, cond, append_assoc, Result, Ok, Err}
use Rattle.std.specs.Prelude.{IfOk, OnOk}
use Rattle.std.proofs.lemmas.List.{append-nil}
use Rattle.pylex_lexeme.specs.declared.kinds.Exact.{Exact}
use Rattle.pylex_lexeme.specs.declared.kinds.Exact.TheVariants.{Colon, Comma, Star, DoubleStar, Equal, Slash}
use Rattle.pytree_node.specs.declared.operators.Context.TheVariants.{Load}
use Rattle.pytree_node.specs.declared.expressions.Arg as given_arg
use Rattle.pytree_node.specs.Trees
use Rattle.pytree_node.specs.Trees.{OptionalExpr, absent, present, optional, Arg, arg, Arguments}
use Rattle.pytree_node.specs.TreeOf.{tree_of, boxed_of, arg_of}
use Rattle.pytoken.specs.declared.keywords.Keyword.TheVariants as Key
use Rattle.pytoken.specs.Terminals.{Terminal, Spelled, Op, Word, Ident}
use Rattle.pytoken.specs.TerminalOf.{terminal}
use Rattle.pytoken.specs.declared.values.terminals.Terminal as given
use Rattle.pygrammar.specs.declared.levels.Level.TheVariants.{Expression, BitOr}
use Rattle.pygrammar.specs.Entries.{Entry, Item, Parameter, Plain, Slashed, Bare, Gathered}
use Rattle.pygrammar.specs.Entries.{Collected}
use Rattle.pygrammar.specs.Grammar as G
use Rattle.pygrammar.specs.Looks.{name_in}
use Rattle.pygrammar.specs.Parameters.{arranged}
use Rattle.pyparse_nodes.specs.declared.found.Optional.{Optional}
use Rattle.pyparse_nodes.specs.declared.found.Read.{Read}
use Rattle.pyparse_nodes.specs.declared.parameters.Formal.{Formal}
use Rattle.pyparse_nodes.specs.declared.parameters.Stage.{Stage}
use Rattle.pyparse_nodes.specs.declared.parameters.Stage.TheVariants as stage
use Rattle.pyparse_nodes.specs.declared.stop.Stop.{Stop}
use Rattle.pyparse_nodes.specs.Answers.{Made}
use Rattle.pyparse_nodes.specs.Formals.{State, state, start, step, steps, outcome}
use Rattle.pyparse_nodes.specs.FormalStates.{state_of, entry_of}
use Rattle.pyparse_nodes.specs.Views.{Stands, seen, first_is}
use Rattle.pyparse_expr.specs.declared.signatures.ReadParameter.{ReadParameter}
use Rattle.pyparse_expr.specs.declared.signatures.Signature.{Signature}
use Rattle.pyparse_expr.specs.Inner.PlacedSignatures.{defaults_after, Recorded, ParameterPlaced, DefaultsBack, SignaturePlaced}
use Rattle.pyparse_expr.specs.Inner.Signatures.{MakesLambda}
use Rattle.pyparse_expr.proofs.FormalParameters.Formals.{arranged_steps}
use Rattle.pyplaces.specs.EntryPlaces as E
use Rattle.pyplaces.specs.EntryPlaces.{EntryPlaces}
use Rattle.pyplaces.specs.ExpressionPlaces.{piece_places}
use Rattle.pyplaces.specs.Placed.{Placed, PlacedPiece, PlacedListing, PlacedSuffix}
use Rattle.pyplaces.specs.Recording.{afters, Records, Moves, Kept}
use Rattle.pyplaces.specs.Rests.{StarSuffix, plain_suffix, star_suffix}
use Rattle.pyplaces.specs.Stretches.{Stretch, stretch}
use Rattle.pyplaces.proofs.Answers.{placed_as, read_as, read_from, records_node, records_more}
use Rattle.pyplaces.proofs.Asides.{Apart, Still, kept_none, kept_records, kept_aside, kept_then, kept_more, kept_last, kept_back}
use Rattle.pyplaces.proofs.Asides.{kept_count}
use Rattle.pyplaces.proofs.Expressions.Levels.{placed_lambda}
use Rattle.pyplaces.proofs.Expressions.Listings.{listing_turn, listing_last, listing_end}
use Rattle.pyplaces.proofs.Expressions.Parameters.{placed_no_suffix, placed_suffix, placed_parameter, placed_slash, placed_bare_star}
use Rattle.pyplaces.proofs.Expressions.Parameters.{placed_gathered, placed_double_parameter}
use Rattle.pyplaces.proofs.Loops.{Grows, grows_start}
use Rattle.pyplaces.proofs.Selections.{Unstarred, none, plain, slash, Starred, with_one, with_none, parameters_append, collected_append}
use Rattle.pyplaces.proofs.Selections.{defaults_before, keyword_defaults_before, unstarred_plain, unstarred_slash, starred_bare}
use Rattle.pyplaces.proofs.Selections.{starred_gathered, starred_more, keyword_defaults_after}
use Rattle.pyplaces.proofs.Selections as Selections
use Rattle.pyparse_reads.proofs.Callers.Looks.{name_is}

-- ---- Names.

-- the NAME at a place
name_front : (ts : List given.Terminal) (n : ℕ) (f : List ℕ) → Some f ≡ first_is name_in (seen ts n)
    → (x : Spelled) × (seen ts n ≡ Ident x ∷ seen ts (n + 1)) × (x.form ≡ f)
name_front ts n f h = go (seen ts n) h (drop-drop 1 n (map terminal ts))
  where
    go : (r : List Terminal) {s : List Terminal} → Some f ≡ first_is name_in r → drop 1 r ≡ s
        → (x : Spelled) × (r ≡ Ident x ∷ s) × (x.form ≡ f)
    go [] h q = absurd (cc)
    go (t ∷ r) h q = let w = name_is t f (sym h) in (w.0, ap (λ z. z ∷ r) w.1 ∙ ap (λ z. Ident w.0 ∷ z) q, w.2)

-- ---- What stands after a sign.

module _ (ts : List given.Terminal) where
  suffix_as : {so : Option Exact} {i : List Terminal} {at n k : ℕ} {a b : OptionalExpr} {ps : List Stretch} → b ≡ a → k ≡ n
      → PlacedSuffix so i at a (seen ts n) n ps → PlacedSuffix so i at b (seen ts k) k ps
  suffix_as {so} {i} {at} {n} {b = b} {ps = ps} e q p =
      read_as (seen ts) q (subst (λ z. PlacedSuffix so i at z (seen ts n) n ps) (sym e) p)

  pub suffix_none : (so : Option Exact) (at : ℕ) (r : Optional) → boxed_of r.expr ≡ None → r.next ≡ at
      → PlacedSuffix so (seen ts at) at (optional (boxed_of r.expr)) (seen ts r.next) r.next []
  suffix_none so at r e q = suffix_as (ap optional e) q placed_no_suffix

  pub suffix_some : {ps : List Stretch} (so : Option Exact) (y : Exact) (at : ℕ) (e : Read) (r : Optional) → so ≡ Some y
      → Stands (Op y) ts at → boxed_of r.expr ≡ Some (tree_of e.expr.value) → r.next ≡ e.next
      → Placed Expression (seen ts (at + 1)) (at + 1) (tree_of e.expr.value) (seen ts e.next) e.next ps
      → PlacedSuffix so (seen ts at) at (optional (boxed_of r.expr)) (seen ts r.next) r.next ps
  suffix_some {ps} so y at e r w s h q p =
      subst (λ z. PlacedSuffix z (seen ts at) at (optional (boxed_of r.expr)) (seen ts r.next) r.next ps) (sym w)
      (suffix_as (ap optional h) q (placed_suffix s.is p))

  pub star_none : (b : Bool) (at : ℕ) (r : Optional) → boxed_of r.expr ≡ None → r.next ≡ at
      → StarSuffix b (seen ts at) at (optional (boxed_of r.expr)) (seen ts r.next) r.next []
  star_none b at r e q = plain_suffix (suffix_none (cond b (Some Colon) None) at r e q)

  pub star_plain : {ps : List Stretch} (b : Bool) (at : ℕ) (e : Read) (r : Optional) → b ≡ true → Stands (Op Colon) ts at
      → boxed_of r.expr ≡ Some (tree_of e.expr.value) → r.next ≡ e.next
      → Placed Expression (seen ts (at + 1)) (at + 1) (tree_of e.expr.value) (seen ts e.next) e.next ps
      → StarSuffix b (seen ts at) at (optional (boxed_of r.expr)) (seen ts r.next) r.next ps
  star_plain b at e r w s h q p =
      plain_suffix (suffix_some (cond b (Some Colon) None) Colon at e r (ap (λ z. cond z (Some Colon) None) w) s h q p)

  pub star_starred : {ps : List Stretch} (b : Bool) (at room : ℕ) (e f : Read) (r : Optional) → b ≡ true → Stands (Op Colon) ts at
      → Stands (Op Star) ts (at + 1) → Made room (Trees.Starred (tree_of e.expr.value) Load) e.next f
      → boxed_of r.expr ≡ Some (tree_of f.expr.value) → r.next ≡ f.next
      → Placed BitOr (seen ts (at + 2)) (at + 2) (tree_of e.expr.value) (seen ts e.next) e.next ps
      → StarSuffix b (seen ts at) at (optional (boxed_of r.expr)) (seen ts r.next) r.next (ps ++ (stretch (at + 1) e.next ∷ []))
  star_starred {ps} b at room e f r w s z m h q p =
      let o : optional (boxed_of r.expr) ≡ present (Trees.Starred (tree_of e.expr.value) Load) = ap optional h ∙ ap present m.tree in
      let n : r.next ≡ e.next = q ∙ m.next_is in
      let own = ps ++ (stretch (at + 1) e.next ∷ []) in
      let d : StarSuffix true (seen ts at) at (present (Trees.Starred (tree_of e.expr.value) Load)) (seen ts e.next) e.next own
      = star_suffix s.is z.is (read_from (seen ts) (omega arith) p) in
      subst (λ y. StarSuffix y (seen ts at) at (optional (boxed_of r.expr)) (seen ts r.next) r.next own) (sym w)
      (subst (λ y. StarSuffix true (seen ts at) at y (seen ts r.next) r.next own) (sym o)
      (subst (λ y. StarSuffix true (seen ts at) at (present (Trees.Starred (tree_of e.expr.value) Load)) (seen ts y) y own) (sym n) d))

-- ---- One parameter.

-- which places an entry has
data Pairs : Entry → EntryPlaces → Type 0 where
  plain_pair : {a : Arg} {d : OptionalExpr} {ps ds : List Stretch} → Pairs (Plain a d) (E.Plain ps ds)
  slash_pair : Pairs Slashed E.Slashed
  bare_pair : Pairs Bare E.Bare
  gathered_pair : {a : Arg} {ps : List Stretch} → Pairs (Gathered a) (E.Gathered ps)
  collected_pair : {a : Arg} {ps : List Stretch} → Pairs (Collected a) (E.Collected ps)

-- of a parameter
abbrev PairsAt : Item → Entry → EntryPlaces → Type 0
PairsAt (Parameter b) e p = Pairs e p
PairsAt _ e p = Unit {0}

pairs_at : {j : Item} {us : List Terminal} {e : Entry} (n : ℕ) (d : G.Piece j us e) → PairsAt j e (piece_places n d)
pairs_at n (G.parameter a d) = plain_pair
pairs_at n G.slash = slash_pair
pairs_at n G.bare_star = bare_pair
pairs_at n (G.star_parameter a) = gathered_pair
pairs_at n (G.star_annotation p) = gathered_pair
pairs_at n (G.double_parameter a) = collected_pair
pairs_at n _ = tt

pairs : {b : Bool} {i r : List Terminal} {at following : ℕ} {e : Entry} {p : EntryPlaces} → PlacedPiece (Parameter b) i at e r following p
    → Pairs e p
pairs {at = at} {e = e} d = subst (λ z. Pairs e z) d.places_are (pairs_at at d.derived)

piece_as : {b : Bool} {i r : List Terminal} {at following : ℕ} {e f : Entry} {p : EntryPlaces} → f ≡ e
    → PlacedPiece (Parameter b) i at e r following p → PlacedPiece (Parameter b) i at f r following p
piece_as {b} {i} {r} {at} {following} {p = p} h d = subst (λ z. PlacedPiece (Parameter b) i at z r following p) (sym h) d

-- its arg
arg_as : {x y : List ℕ} {a b : OptionalExpr} {c : Arg} → c ≡ arg y b → x ≡ y → a ≡ b → c ≡ arg x a
arg_as {y = y} {a = a} h q e = h ∙ (ap (λ z. arg y z) (sym e) ∙ ap (λ z. arg z a) (sym q))

module _ {S : Type 0} {after beside : S → Stretch → S} (count : S → ℕ) (ts : List given.Terminal) (b : Bool) where
  pub plain_placed : {u v w x y : S} {ps qs : List Stretch} {k : ℕ} (recorded : S → ℕ) (from at n : ℕ) (so : Option Exact)
      (f : List ℕ) (a : given_arg.Arg) (c d : Optional) (r : ReadParameter)
      → so ≡ cond b (Some Colon) None → arg_of a ≡ arg f (optional (boxed_of c.expr))
      → entry_of r.parameter ≡ Plain (arg_of a) (optional (boxed_of d.expr)) → r.next ≡ d.next
      → PlacedSuffix so (seen ts at) at (optional (boxed_of c.expr)) (seen ts c.next) c.next ps → Records after u ps v
      → w ≡ after v (stretch from c.next) → k ≡ recorded w
      → PlacedSuffix (Some Equal) (seen ts c.next) c.next (optional (boxed_of d.expr)) (seen ts d.next) d.next qs → Records after w qs x
      → Moves beside after recorded k x y
      → at ≡ from + 1 → Some f ≡ first_is name_in (seen ts from) → ParameterPlaced after beside count ts b from n r u y
  plain_placed {ps = ps} {qs = qs} recorded from at n so f a c d r g h e q s t z l o p m w i =
      let x = name_front ts from f i in
      let s2 = read_from (seen ts) (sym w)
      (subst (λ y. PlacedSuffix y (seen ts at) at (optional (boxed_of c.expr)) (seen ts c.next) c.next ps) g s) in
      record {
        place = E.Plain (ps ++ (stretch from c.next ∷ [])) qs;
        piece = read_as (seen ts) q
            (piece_as (e ∙ ap (λ y. Plain y (optional (boxed_of d.expr))) (arg_as h x.2 refl)) (placed_parameter x.1 s2 o));
        recorded = kept_then (records_more t (records_node z)) (kept_aside recorded p l m);
      }

  pub gathered_placed : {u v w : S} {ps : List Stretch} (from at n : ℕ) (f : List ℕ) (a : given_arg.Arg) (c : Optional) (r : ReadParameter)
      → arg_of a ≡ arg f (optional (boxed_of c.expr)) → entry_of r.parameter ≡ Gathered (arg_of a) → r.next ≡ c.next
      → StarSuffix b (seen ts at) at (optional (boxed_of c.expr)) (seen ts c.next) c.next ps → Records after u ps v
      → w ≡ after v (stretch from c.next) → at ≡ from + 1 → Some f ≡ first_is name_in (seen ts from)
      → (star : ℕ) → from ≡ star + 1 → Stands (Op Star) ts star → ParameterPlaced after beside count ts b star n r u w
  gathered_placed {v = v} {ps = ps} from at n f a c r h e q s t z w i star k o =
      let x = name_front ts (star + 1) f (subst (λ y. Some f ≡ first_is name_in (seen ts y)) k i) in
      let s2 = subst (λ y. StarSuffix b (seen ts y) y (optional (boxed_of c.expr)) (seen ts c.next) c.next ps)
      (w ∙ ap (λ y. y + 1) k) s in
      record {
        place = E.Gathered (ps ++ (stretch (star + 1) c.next ∷ []));
        piece = read_as (seen ts) q (piece_as (e ∙ ap Gathered (arg_as h x.2 refl)) (placed_gathered o.is x.1 s2));
        recorded = records_more t (records_node (z ∙ ap (λ y. after v (stretch y c.next)) k));
      }

  pub bare_placed : (at n : ℕ) (r : ReadParameter) (u : S) → entry_of r.parameter ≡ Bare → r.next ≡ at + 1 → Stands (Op Star) ts at
      → ParameterPlaced after beside count ts b at n r u u
  bare_placed at n r u e q s = record {
    place = E.Bare;
    piece = read_as (seen ts) q (piece_as e (placed_bare_star s.is));
    recorded = refl;
  }

  pub slash_placed : (at n : ℕ) (r : ReadParameter) (u : S) → entry_of r.parameter ≡ Slashed → r.next ≡ at + 1 → Stands (Op Slash) ts at
      → ParameterPlaced after beside count ts b at n r u u
  slash_placed at n r u e q s = record {
    place = E.Slashed;
    piece = read_as (seen ts) q (piece_as e (placed_slash s.is));
    recorded = refl;
  }

  pub double_placed : {u v w : S} {n : ℕ} (at : ℕ) (r : ReadParameter) → Moves after beside count n u v
      → (ps : List Stretch) × PlacedPiece (Parameter b) (seen ts at) at (entry_of r.parameter) (seen ts r.next) r.next (E.Collected ps)
      × Records after v ps w → ParameterPlaced after beside count ts b at n r u w
  double_placed {v = v} at r m p = record { place = E.Collected p.0; piece = p.1; recorded = (v, m, p.2) }

module _ {S : Type 0} {after : S → Stretch → S} (ts : List given.Terminal) (b : Bool) where
  pub collected_placed : {u v w : S} {ps : List Stretch} (from at : ℕ) (so : Option Exact) (f : List ℕ) (a : given_arg.Arg) (c : Optional)
      (y : Entry) (n : ℕ)
      → so ≡ cond b (Some Colon) None → arg_of a ≡ arg f (optional (boxed_of c.expr)) → y ≡ Collected (arg_of a)
      → n ≡ c.next
      → PlacedSuffix so (seen ts at) at (optional (boxed_of c.expr)) (seen ts c.next) c.next ps → Records after u ps v
      → w ≡ after v (stretch from c.next) → at ≡ from + 1 → Some f ≡ first_is name_in (seen ts from)
      → (star : ℕ) → from ≡ star + 1 → Stands (Op DoubleStar) ts star
      → (qs : List Stretch) × PlacedPiece (Parameter b) (seen ts star) star y (seen ts n) n (E.Collected qs)
      × Records after u qs w
  collected_placed {v = v} {ps = ps} from at so f a c y n g h e q s t z w i star k o =
      let x = name_front ts (star + 1) f (subst (λ y. Some f ≡ first_is name_in (seen ts y)) k i) in
      let s2 = read_from (seen ts) (sym (w ∙ ap (λ y. y + 1) k))
      (subst (λ y. PlacedSuffix y (seen ts at) at (optional (boxed_of c.expr)) (seen ts c.next) c.next ps) g s) in (
        ps ++ (stretch (star + 1) c.next ∷ []),
        read_as (seen ts) q (piece_as (e ∙ ap Collected (arg_as h x.2 refl)) (placed_double_parameter o.is x.1 s2)),
        records_more t (records_node (z ∙ ap (λ y. after v (stretch y c.next)) k)),
      )

-- ---- The runs so far.

-- no star, and so no keyword-only parameter and no `**`
unstarred_collected : {fs : List EntryPlaces} → Unstarred fs → E.collected fs ≡ []
unstarred_collected none = refl
unstarred_collected (plain u) = unstarred_collected u
unstarred_collected (slash u) = unstarred_collected u

unstarred_keyword : {fs : List EntryPlaces} → Unstarred fs → E.keyword_defaults fs ≡ []
unstarred_keyword none = refl
unstarred_keyword (plain u) = unstarred_keyword u
unstarred_keyword (slash u) = unstarred_keyword u

abbrev pub stage_of : State → Stage
stage_of (state g b ps qs v ks kds k ds) = g

module _ {S : Type 0} (after beside : S → Stretch → S) (count : S → ℕ) where
  -- n are set aside up to the last default in front of a star
  abbrev pub Counts : List EntryPlaces → ℕ → S → Type 0
  Counts fs n u = n ≡ count (afters beside u (E.defaults fs))

  -- in front of the star, after it, and after a `**`
  pub record Before (fs : List EntryPlaces) (n : ℕ) (u v : S) : Type 0 where
    pub unstarred : Unstarred fs
    pub counts : Counts fs n u
    pub kept : Kept after beside u (E.parameters fs) (E.defaults fs) v

  pub record Following (fs : List EntryPlaces) (n : ℕ) (u v : S) : Type 0 where
    pub starred : Starred fs
    pub uncollected : E.collected fs ≡ []
    pub counts : Counts fs n u
    pub kept : Kept after beside u (E.parameters fs) (E.defaults fs ++ E.keyword_defaults fs) v

  pub record Last (fs : List EntryPlaces) (n : ℕ) (u v : S) : Type 0 where
    pub counts : Counts fs n u
    kept : Kept after beside u (E.parameters fs ++ (E.keyword_defaults fs ++ E.collected fs)) (E.defaults fs) v

  abbrev pub Runs : Stage → List EntryPlaces → ℕ → S → S → Type 0
  Runs stage.Open fs n u v = Before fs n u v
  Runs stage.Closed fs n u v = Before fs n u v
  Runs stage.Lone fs n u v = Following fs n u v
  Runs stage.Starred fs n u v = Following fs n u v
  Runs stage.Ended fs n u v = Last fs n u v
  Runs stage.Wrong fs n u v = Unit {0}

  -- how far the loop has come
  pub record SignatureGrows (ts : List given.Terminal) (b : Bool) (at : ℕ) (f : Formal) (next n : ℕ) (u v : S) : Type 0 where
    pub entries : List Entry
    pub places : List EntryPlaces
    pub grows : Grows (PlacedListing (Parameter b)) (seen ts at) at entries (seen ts next) next places
    pub fold : state_of f ≡ steps start entries
    pub runs : Runs (stage_of (steps start entries)) places n u v

module _ {S : Type 0} {after beside : S → Stretch → S} {count : S → ℕ} (apart : Apart after beside) (still : Still after count) where
  kept_as : {u v : S} {ps qs rs ts : List Stretch} → rs ≡ ps → ts ≡ qs → Kept after beside u ps qs v → Kept after beside u rs ts v
  kept_as {u} {v} {ps} {qs} {rs} {ts} e q k =
      subst (λ z. Kept after beside u rs z v) (sym q) (subst (λ z. Kept after beside u z qs v) (sym e) k)

  counts_as : (fs gs : List EntryPlaces) (n : ℕ) (u : S) → E.defaults gs ≡ E.defaults fs → Counts after beside count fs n u
      → Counts after beside count gs n u
  counts_as fs gs n u e c = c ∙ ap (λ z. count (afters beside u z)) (sym e)

  one : {xs : List Stretch} (fs : List EntryPlaces) (p : EntryPlaces) → E.parameters (p ∷ []) ≡ xs → E.parameters (fs ++ (p ∷ [])) ≡
      E.parameters fs ++ xs
  one fs p h = parameters_append fs (p ∷ []) ∙ ap (λ z. E.parameters fs ++ z) h

  before_plain : {fs : List EntryPlaces} {n : ℕ} {u v w : S} {ps ds : List Stretch} → Before after beside count fs n u v
      → Kept after beside v ps ds w → Before after beside count (fs ++ (E.Plain ps ds ∷ [])) (count w) u w
  before_plain {fs} {ps = ps} {ds = ds} b k =
      let l = kept_as (one fs (E.Plain ps ds) (append-nil ps))
      (with_one (E.defaults fs) ds (defaults_before (E.Plain ps ds ∷ []) b.unstarred)) (kept_more apart b.kept k) in
      record { unstarred = unstarred_plain ps ds b.unstarred; counts = kept_count count apart still l; kept = l }

  before_slash : {fs : List EntryPlaces} {n : ℕ} {u v w : S} → Before after beside count fs n u v → w ≡ v
      → Before after beside count (fs ++ (E.Slashed ∷ [])) (count w) u w
  before_slash {fs} {u = u} {w = w} b h =
      let k = subst (λ z. Kept after beside u (E.parameters fs) (E.defaults fs) z) (sym h) b.kept in
      let l = kept_as (with_none (E.parameters fs) (parameters_append fs (E.Slashed ∷ [])))
      (with_none (E.defaults fs) (defaults_before (E.Slashed ∷ []) b.unstarred)) k in
      record { unstarred = unstarred_slash b.unstarred; counts = kept_count count apart still l; kept = l }

  before_bare : {fs : List EntryPlaces} {n : ℕ} {u v w : S} → Before after beside count fs n u v → w ≡ v
      → Following after beside count (fs ++ (E.Bare ∷ [])) n u w
  before_bare {fs} {n} {u} {w = w} b h =
      let d = with_none (E.defaults fs) (defaults_before (E.Bare ∷ []) b.unstarred) in
      let k = subst (λ z. Kept after beside u (E.parameters fs) (E.defaults fs) z) (sym h) b.kept in record {
        starred = starred_bare fs;
        uncollected = with_none (E.collected fs) (collected_append fs (E.Bare ∷ [])) ∙ unstarred_collected b.unstarred;
        counts = counts_as fs (fs ++ (E.Bare ∷ [])) n u d b.counts;
        kept = kept_as (with_none (E.parameters fs) (parameters_append fs (E.Bare ∷ [])))
            (ap (λ z. E.defaults (fs ++ (E.Bare ∷ [])) ++ z) (keyword_defaults_before (E.Bare ∷ []) b.unstarred)
            ∙ (append-nil (E.defaults (fs ++ (E.Bare ∷ []))) ∙ d)) k;
      }

  before_gathered : {fs : List EntryPlaces} {n : ℕ} {u v w : S} {ps : List Stretch} → Before after beside count fs n u v
      → Records after v ps w → Following after beside count (fs ++ (E.Gathered ps ∷ [])) n u w
  before_gathered {fs} {n} {u} {ps = ps} b r =
      let g = E.Gathered ps ∷ [] in
      let d = with_none (E.defaults fs) (defaults_before g b.unstarred) in record {
        starred = starred_gathered fs ps;
        uncollected = with_none (E.collected fs) (collected_append fs g) ∙ unstarred_collected b.unstarred;
        counts = counts_as fs (fs ++ g) n u d b.counts;
        kept = kept_as (one fs (E.Gathered ps) (append-nil ps))
            (ap (λ z. E.defaults (fs ++ g) ++ z) (keyword_defaults_before g b.unstarred)
            ∙ (append-nil (E.defaults (fs ++ g)) ∙ (d ∙ sym (append-nil (E.defaults fs)))))
            (kept_more apart b.kept (kept_records r));
      }

  following_plain : {fs : List EntryPlaces} {n : ℕ} {u v w : S} {ps ds : List Stretch} → Following after beside count fs n u v
      → Kept after beside v ps ds w → Following after beside count (fs ++ (E.Plain ps ds ∷ [])) n u w
  following_plain {fs} {n} {u} {ps = ps} {ds = ds} b k =
      let g = E.Plain ps ds ∷ [] in
      let d = Selections.defaults_after g b.starred in
      let e = with_one (E.keyword_defaults fs) ds (keyword_defaults_after g b.starred) in record {
        starred = starred_more g b.starred;
        uncollected = with_none (E.collected fs) (collected_append fs g) ∙ b.uncollected;
        counts = counts_as fs (fs ++ g) n u d b.counts;
        kept = kept_as (one fs (E.Plain ps ds) (append-nil ps))
            (ap (λ z. z ++ E.keyword_defaults (fs ++ g)) d ∙ (ap (λ z. E.defaults fs ++ z) e
            ∙ sym (append_assoc (E.defaults fs) (E.keyword_defaults fs) ds))) (kept_more apart b.kept k);
      }

  -- in front of a `**` the second run is taken back
  before_collected : {fs : List EntryPlaces} {n : ℕ} {u v m w : S} {ps : List Stretch} → Before after beside count fs n u v
      → Moves after beside count n v m → Records after m ps w → Last after beside count (fs ++ (E.Collected ps ∷ [])) n u w
  before_collected {fs} {n} {u} {v = v} {ps = ps} b t r =
      let g = E.Collected ps ∷ [] in
      let d = with_none (E.defaults fs) (defaults_before g b.unstarred) in
      let k = kept_last (E.parameters fs) (E.defaults fs) [] count apart still
      (kept_as refl (append-nil (E.defaults fs)) b.kept) b.counts t in
      let c : E.collected (fs ++ g) ≡ ps = collected_append fs g
      ∙ (ap (λ z. z ++ (ps ++ [])) (unstarred_collected b.unstarred) ∙ append-nil ps) in
      record {
        counts = counts_as fs (fs ++ g) n u d b.counts;
        kept = kept_as
            (ap (λ z. z ++ (E.keyword_defaults (fs ++ g) ++ E.collected (fs ++ g)))
            (with_none (E.parameters fs) (parameters_append fs g) ∙ sym (append-nil (E.parameters fs)))
            ∙ ap (λ z. (E.parameters fs ++ []) ++ z)
            (ap (λ z. z ++ E.collected (fs ++ g)) (keyword_defaults_before g b.unstarred) ∙ c))
            (d ∙ sym (append-nil (E.defaults fs))) (kept_more apart k (kept_records r));
      }

  after_collected : {fs : List EntryPlaces} {n : ℕ} {u v m w : S} {ps : List Stretch} → Following after beside count fs n u v
      → Moves after beside count n v m → Records after m ps w → Last after beside count (fs ++ (E.Collected ps ∷ [])) n u w
  after_collected {fs} {n} {u} {ps = ps} b t r =
      let g = E.Collected ps ∷ [] in
      let d = Selections.defaults_after g b.starred in
      let k = kept_last (E.parameters fs) (E.defaults fs) (E.keyword_defaults fs) count apart still b.kept b.counts t in
      let c : E.collected (fs ++ g) ≡ ps = collected_append fs g ∙ (ap (λ z. z ++ (ps ++ [])) b.uncollected ∙ append-nil ps) in
      let e = with_none (E.keyword_defaults fs) (keyword_defaults_after g b.starred) in
      record {
        counts = counts_as fs (fs ++ g) n u d b.counts;
        kept = kept_as
            (ap (λ z. z ++ (E.keyword_defaults (fs ++ g) ++ E.collected (fs ++ g))) (with_none (E.parameters fs) (parameters_append fs g))
            ∙ (ap (λ z. E.parameters fs ++ z) (ap (λ z. z ++ E.collected (fs ++ g)) e ∙ ap (λ z. E.keyword_defaults fs ++ z) c)
            ∙ sym (append_assoc (E.parameters fs) (E.keyword_defaults fs) ps)))
            (d ∙ sym (append-nil (E.defaults fs))) (kept_more apart k (kept_records r));
      }

  -- one parameter more, at each stage
  turn : {e : Entry} {p : EntryPlaces} (fs : List EntryPlaces) (n : ℕ) (u v w : S) (s : State) → Pairs e p
      → Runs after beside count (stage_of s) fs n u v → Recorded after beside count n p v w
      → Runs after beside count (stage_of (step s e)) (fs ++ (p ∷ [])) (defaults_after (stage_of (step s e)) n (count w)) u w
  turn fs n u v w (state stage.Open true ps qs v1 ks kds k ds) (plain_pair {d = absent}) r f = tt
  turn fs n u v w (state stage.Open true ps qs v1 ks kds k ds) (plain_pair {d = present x}) r f = before_plain r f
  turn fs n u v w (state stage.Open false ps qs v1 ks kds k ds) (plain_pair {d = absent}) r f = before_plain r f
  turn fs n u v w (state stage.Open false ps qs v1 ks kds k ds) (plain_pair {d = present x}) r f = before_plain r f
  turn fs n u v w (state stage.Closed true ps qs v1 ks kds k ds) (plain_pair {d = absent}) r f = tt
  turn fs n u v w (state stage.Closed true ps qs v1 ks kds k ds) (plain_pair {d = present x}) r f = before_plain r f
  turn fs n u v w (state stage.Closed false ps qs v1 ks kds k ds) (plain_pair {d = absent}) r f = before_plain r f
  turn fs n u v w (state stage.Closed false ps qs v1 ks kds k ds) (plain_pair {d = present x}) r f = before_plain r f
  turn fs n u v w (state stage.Lone b ps qs v1 ks kds k ds) plain_pair r f = following_plain r f
  turn fs n u v w (state stage.Starred b ps qs v1 ks kds k ds) plain_pair r f = following_plain r f
  turn fs n u v w (state stage.Ended b ps qs v1 ks kds k ds) plain_pair r f = tt
  turn fs n u v w (state stage.Wrong b ps qs v1 ks kds k ds) plain_pair r f = tt
  turn fs n u v w (state stage.Open b ps [] v1 ks kds k ds) slash_pair r f = tt
  turn fs n u v w (state stage.Open b ps (q ∷ qs) v1 ks kds k ds) slash_pair r f = before_slash r f
  turn fs n u v w (state stage.Closed b ps qs v1 ks kds k ds) slash_pair r f = tt
  turn fs n u v w (state stage.Lone b ps qs v1 ks kds k ds) slash_pair r f = tt
  turn fs n u v w (state stage.Starred b ps qs v1 ks kds k ds) slash_pair r f = tt
  turn fs n u v w (state stage.Ended b ps qs v1 ks kds k ds) slash_pair r f = tt
  turn fs n u v w (state stage.Wrong b ps qs v1 ks kds k ds) slash_pair r f = tt
  turn fs n u v w (state stage.Open b ps qs v1 ks kds k ds) bare_pair r f = before_bare r f
  turn fs n u v w (state stage.Closed b ps qs v1 ks kds k ds) bare_pair r f = before_bare r f
  turn fs n u v w (state stage.Lone b ps qs v1 ks kds k ds) bare_pair r f = tt
  turn fs n u v w (state stage.Starred b ps qs v1 ks kds k ds) bare_pair r f = tt
  turn fs n u v w (state stage.Ended b ps qs v1 ks kds k ds) bare_pair r f = tt
  turn fs n u v w (state stage.Wrong b ps qs v1 ks kds k ds) bare_pair r f = tt
  turn fs n u v w (state stage.Open b ps qs v1 ks kds k ds) gathered_pair r f = before_gathered r f
  turn fs n u v w (state stage.Closed b ps qs v1 ks kds k ds) gathered_pair r f = before_gathered r f
  turn fs n u v w (state stage.Lone b ps qs v1 ks kds k ds) gathered_pair r f = tt
  turn fs n u v w (state stage.Starred b ps qs v1 ks kds k ds) gathered_pair r f = tt
  turn fs n u v w (state stage.Ended b ps qs v1 ks kds k ds) gathered_pair r f = tt
  turn fs n u v w (state stage.Wrong b ps qs v1 ks kds k ds) gathered_pair r f = tt
  turn fs n u v w (state stage.Open b ps qs v1 ks kds k ds) collected_pair r f = before_collected r f.1 f.2
  turn fs n u v w (state stage.Closed b ps qs v1 ks kds k ds) collected_pair r f = before_collected r f.1 f.2
  turn fs n u v w (state stage.Lone b ps qs v1 ks kds k ds) collected_pair r f = tt
  turn fs n u v w (state stage.Starred b ps qs v1 ks kds k ds) collected_pair r f = after_collected r f.1 f.2
  turn fs n u v w (state stage.Ended b ps qs v1 ks kds k ds) collected_pair r f = tt
  turn fs n u v w (state stage.Wrong b ps qs v1 ks kds k ds) collected_pair r f = tt

  -- at the end both runs are taken back, the second first
  second : {m : S} (fs : List EntryPlaces) (n : ℕ) (u v : S) (s : State) (a : Arguments) → outcome s ≡ Some a
      → Runs after beside count (stage_of s) fs n u v → Moves after beside count n v m
      → Kept after beside u (E.parameters fs ++ (E.keyword_defaults fs ++ E.collected fs)) (E.defaults fs) m
  second {m} fs n u v s a o r t = go s o r
    where
      unstarred : Before after beside count fs n u v
          → Kept after beside u (E.parameters fs ++ (E.keyword_defaults fs ++ E.collected fs)) (E.defaults fs) m
      unstarred b = kept_as
          (ap (λ z. E.parameters fs ++ z) (ap (λ z. z ++ E.collected fs) (unstarred_keyword b.unstarred) ∙ unstarred_collected b.unstarred))
          refl
          (kept_last (E.parameters fs) (E.defaults fs) [] count apart still
          (kept_as refl (append-nil (E.defaults fs)) b.kept) b.counts t)

      starred : Following after beside count fs n u v
          → Kept after beside u (E.parameters fs ++ (E.keyword_defaults fs ++ E.collected fs)) (E.defaults fs) m
      starred b = kept_as
          (ap (λ z. E.parameters fs ++ z) (ap (λ z. E.keyword_defaults fs ++ z) b.uncollected ∙ append-nil (E.keyword_defaults fs))) refl
          (kept_last (E.parameters fs) (E.defaults fs) (E.keyword_defaults fs) count apart still b.kept b.counts t)

      ended : Last after beside count fs n u v
          → Kept after beside u (E.parameters fs ++ (E.keyword_defaults fs ++ E.collected fs)) (E.defaults fs) m
      ended b = kept_as (sym (append-nil (E.parameters fs ++ (E.keyword_defaults fs ++ E.collected fs)))) refl
          (kept_last (E.parameters fs ++ (E.keyword_defaults fs ++ E.collected fs)) (E.defaults fs) [] count apart still
          (kept_as refl (append-nil (E.defaults fs)) b.kept) b.counts t)

      go : (s : State) → outcome s ≡ Some a → Runs after beside count (stage_of s) fs n u v
          → Kept after beside u (E.parameters fs ++ (E.keyword_defaults fs ++ E.collected fs)) (E.defaults fs) m
      go (state stage.Open b ps qs w ks kds k ds) o r = unstarred r
      go (state stage.Closed b ps qs w ks kds k ds) o r = unstarred r
      go (state stage.Lone b ps qs w ks kds k ds) o r = starred r
      go (state stage.Starred b ps qs w ks kds k ds) o r = starred r
      go (state stage.Ended b ps qs w ks kds k ds) o r = ended r
      go (state stage.Wrong b ps qs w ks kds k ds) o r = absurd (cc)

  both : {aside : ℕ} {w : S} (fs : List EntryPlaces) (n : ℕ) (u v : S) (s : State) (a : Arguments) → outcome s ≡ Some a
      → Runs after beside count (stage_of s) fs n u v → aside ≡ count u → DefaultsBack after beside count n aside v w
      → Records after u (E.arranged fs) w
  both {w = w} fs n u v s a o r e t =
      let p = E.parameters fs in
      let k = E.keyword_defaults fs in
      let c = E.collected fs in
      let d = E.defaults fs in
      subst (λ z. Records after u z w) (append_assoc p (k ++ c) d ∙ ap (λ z. p ++ z) (append_assoc k c d))
      (kept_back count apart still (second fs n u v s a o r t.last) e t.first)

  -- ---- The loop.

  module _ (ts : List given.Terminal) (b : Bool) (at : ℕ) where
    pub signature_start : (f : Formal) (next n : ℕ) (u : S) → state_of f ≡ start → next ≡ at → n ≡ count u
        → SignatureGrows after beside count ts b at f next n u u
    signature_start f next n u h q e = record {
      entries = [];
      places = [];
      grows = subst (λ z. Grows (PlacedListing (Parameter b)) (seen ts at) at [] (seen ts z) z []) (sym q) grows_start;
      fold = h;
      runs = record { unstarred = none; counts = e; kept = kept_none };
    }

    steps_one : (s : State) (es : List Entry) (e : Entry) → steps s (es ++ (e ∷ [])) ≡ step (steps s es) e
    steps_one s [] e = refl
    steps_one s (x ∷ es) e = steps_one (step s x) es e

    more_runs : {p : EntryPlaces} (u v w : S) (fs : List EntryPlaces) (n k : ℕ) (g : Formal) (es : List Entry) (e : Entry) → Pairs e p
        → state_of g ≡ steps start (es ++ (e ∷ []))
        → Runs after beside count (stage_of (steps start es)) fs n u v → Recorded after beside count n p v w
        → k ≡ defaults_after g.stage n (count w)
        → Runs after beside count (stage_of (steps start (es ++ (e ∷ [])))) (fs ++ (p ∷ [])) k u w
    more_runs {p} u v w fs n k g es e x h r f q =
        let i = steps_one start es e in
        let j : k ≡ defaults_after (stage_of (step (steps start es) e)) n (count w) = q
        ∙ ap (λ z. defaults_after (stage_of z) n (count w)) (h ∙ i) in
        subst (λ z. Runs after beside count (stage_of z) (fs ++ (p ∷ [])) k u w) (sym i)
        (subst (λ z. Runs after beside count (stage_of (step (steps start es) e)) (fs ++ (p ∷ [])) z u w) (sym j)
        (turn fs n u v w (steps start es) x r f))

    module _ {u v w : S} {f : Formal} {next n k : ℕ} (c : SignatureGrows after beside count ts b at f next n u v) (o : ReadParameter)
        (p : ParameterPlaced after beside count ts b next n o v w) (g : Formal) (h : state_of g ≡ step (state_of f) (entry_of o.parameter))
        (q : k ≡ defaults_after g.stage n (count w)) where
      state_is : state_of g ≡ steps start (c.entries ++ (entry_of o.parameter ∷ []))
      state_is = h ∙ ap (λ z. step z (entry_of o.parameter)) c.fold ∙ sym (steps_one start c.entries (entry_of o.parameter))

      more : Runs after beside count (stage_of (steps start (c.entries ++ (entry_of o.parameter ∷ [])))) (c.places ++ (p.place ∷ [])) k u w
      more = more_runs u v w c.places n k g c.entries (entry_of o.parameter) (pairs p.piece) state_is c.runs p.recorded q

      pub signature_turn : (s t : ℕ) → s ≡ o.next → Stands (Op Comma) ts s → t ≡ s + 1 → SignatureGrows after beside count ts b at g t k u w
      signature_turn s t e a d = record {
        entries = c.entries ++ (entry_of o.parameter ∷ []);
        places = c.places ++ (p.place ∷ []);
        grows = subst (λ z. Grows (PlacedListing (Parameter b)) (seen ts at) at (c.entries ++ (entry_of o.parameter ∷ [])) (seen ts z) z
            (c.places ++ (p.place ∷ []))) (sym (d ∙ ap (λ z. z + 1) e))
            (listing_turn c.grows p.piece (subst (λ z. seen ts z ≡ Op Comma ∷ seen ts (z + 1)) e a.is));
        fold = state_is;
        runs = more;
      }

      pub signature_last : {x : S} {aside : ℕ} (r : Signature) → r.formal ≡ g → r.next ≡ o.next → aside ≡ count u
          → DefaultsBack after beside count k aside w x → SignaturePlaced after ts b at r u x
      signature_last r l e d t = record {
        entries = c.entries ++ (entry_of o.parameter ∷ []);
        places = c.places ++ (p.place ∷ []);
        listing = read_as (seen ts) e (listing_last c.grows p.piece);
        state = ap state_of l ∙ state_is;
        records = λ a y. both (c.places ++ (p.place ∷ [])) k u w (steps start (c.entries ++ (entry_of o.parameter ∷ []))) a
            (ap outcome (sym state_is) ∙ (ap (λ z. outcome (state_of z)) (sym l) ∙ y)) more d t;
      }

    pub signature_end : {u v w : S} {n aside : ℕ} (r : Signature) → SignatureGrows after beside count ts b at r.formal
        r.next n u v → aside ≡ count u
        → DefaultsBack after beside count n aside v w → SignaturePlaced after ts b at r u w
    signature_end {u} {v} {n = n} r c d t = record {
      entries = c.entries;
      places = c.places;
      listing = listing_end c.grows;
      state = c.fold;
      records = λ a y. both c.places n u v (steps start c.entries) a (ap outcome (sym c.fold) ∙ y) c.runs d t;
    }

-- ---- A Lambda.

lambda_placed : {S : Type 0} {after : S → Stretch → S} {u v w x : S} {ps : List Stretch} (ts : List given.Terminal) (from at room : ℕ)
    (s : Signature) (a : Arguments) (e r : Read) → SignaturePlaced after ts false at s u v → Stands (Op Colon) ts s.next
    → Placed Expression (seen ts (s.next + 1)) (s.next + 1) (tree_of e.expr.value) (seen ts e.next) e.next ps → Records after v ps w
    → x ≡ after w (stretch from e.next) → outcome (state_of s.formal) ≡ Some a → Made room (Trees.Lambda a (tree_of e.expr.value)) e.next r
    → at ≡ from + 1
    → (qs : List Stretch) × Placed Expression (Word Key.Lambda ∷ seen ts at) from (tree_of r.expr.value) (seen ts r.next) r.next qs
    × Records after u qs x
lambda_placed {ps = ps} ts from at room s a e r c h p t d o m q = (
  E.arranged c.places ++ (ps ++ (stretch from e.next ∷ [])),
  placed_as (seen ts) m.tree m.next_is (placed_lambda refl
      (subst (λ z. PlacedListing (Parameter false) (seen ts at) z c.entries (seen ts s.next) s.next c.places) q c.listing)
      (arranged_steps c.entries ∙ (ap outcome (sym c.state) ∙ o)) h.is p),
  records_more (c.records a o) (records_more t (records_node d)),
)

pub lambda_finished : {S : Type 0} {after : S → Stretch → S} {u v w : S} {ps : List Stretch} (ts : List given.Terminal)
    (x : S) (from at room : ℕ) (s : Signature) (e : Read) (z : Result Read Stop) → SignaturePlaced after ts false at s u v
    → Stands (Op Colon) ts s.next
    → Placed Expression (seen ts (s.next + 1)) (s.next + 1) (tree_of e.expr.value) (seen ts e.next) e.next ps → Records after v ps w
    → OnOk z (x ≡ after w (stretch from e.next)) → MakesLambda room (state_of s.formal) (tree_of e.expr.value) e.next z → at ≡ from + 1
    → IfOk z (λ r. (qs : List Stretch) × Placed Expression (Word Key.Lambda ∷ seen ts at) from (tree_of r.expr.value) (seen ts r.next)
    r.next qs × Records after u qs x)
lambda_finished ts x from at room s e (Ok r) c h p t d m q = lambda_placed ts from at room s m.args e r c h p t d m.is m.made q
lambda_finished ts x from at room s e (Err y) c h p t d m q = tt
