-- The arguments of a call, recorded: those with a name are set aside, and taken back at its end.
--
-- Carries: arguments.rt. On: Asides, Listings, Arguments, Primaries of pyplaces; ArgumentOrder.
use Rattle.std.proofs.Common.{◌≡◌, refl, sym, ap, subst, ◌∙◌, ℕ, ◌+◌, List, [], ◌∷◌, ◌++◌, map, Some, None, true, false, cond}
use Rattle.std.proofs.Common.{append_assoc, Result, Ok, Err, MatchResult, IfOk}
use Rattle.std.proofs.lemmas.List.{append-nil}
use Rattle.pylex_lexeme.specs.declared.kinds.Exact.TheVariants.{LPar, RPar, Comma}
use Rattle.pytree_node.specs.Trees
use Rattle.pytree_node.specs.Trees.{Expr, Keyword, exprs, Comprehension, comprehensions}
use Rattle.pytree_node.specs.TreeOf.{tree_of, keyword_of}
use Rattle.pytoken.specs.Terminals.{Terminal, Op}
use Rattle.pytoken.specs.declared.values.terminals.Terminal as given
use Rattle.pygrammar.specs.declared.levels.Level.TheVariants.{Primary, Named}
use Rattle.pygrammar.specs.Arguments.{called}
use Rattle.pygrammar.specs.Entries.{Entry, Argument, Keyed}
use Rattle.pygrammar.specs.Precedence.{starts_comp}
use Rattle.pyparse_nodes.specs.declared.actual.Actual.{Actual}
use Rattle.pyparse_nodes.specs.declared.actual.ArgumentForm.{ArgumentForm}
use Rattle.pyparse_nodes.specs.declared.actual.ArgumentForm.TheVariants as kind
use Rattle.pyparse_nodes.specs.declared.found.Read.{Read}
use Rattle.pyparse_nodes.specs.Answers.{Made}
use Rattle.pyparse_nodes.specs.Views.{Stands, seen}
use Rattle.pyparse_expr.specs.Inner.Arguments.{State, start, step, steps, outcome, state_of, level_of, place_of, entry_of, Begins}
use Rattle.pyparse_expr.specs.Inner.PlacedCalls.{places_of, ArgumentPlaced, ArgumentsKept, ArgumentsPlaced}
use Rattle.pyparse_expr.proofs.Calls.ArgumentOrder.{called_steps}
use Rattle.pyplaces.specs.EntryPlaces as E
use Rattle.pyplaces.specs.EntryPlaces.{EntryPlaces}
use Rattle.pyplaces.specs.Placed.{Placed, PlacedPiece, PlacedListing}
use Rattle.pyplaces.specs.Recording.{Records, Moves, Kept}
use Rattle.pyplaces.specs.Rests.{Clauses}
use Rattle.pyplaces.specs.Stretches.{Stretch, stretch}
use Rattle.pyplaces.proofs.Answers.{placed_as, read_as, records_node, records_more}
use Rattle.pyplaces.proofs.Asides.{Apart, Still, kept_none, kept_records, kept_aside, kept_more, kept_back}
use Rattle.pyplaces.proofs.Expressions.Arguments.{placed_argument, placed_star_argument, placed_keyword_argument, placed_double_argument}
use Rattle.pyplaces.proofs.Expressions.Comprehensions.{clauses_some}
use Rattle.pyplaces.proofs.Expressions.Listings.{placed_no_item, placed_last_item, placed_item, listing_turn, listing_last, listing_end}
use Rattle.pyplaces.proofs.Expressions.Primaries.{placed_call, placed_call_generator}
use Rattle.pyplaces.proofs.Loops.{Grows, grows_start}
use Rattle.pyplaces.proofs.Selections.{positional_append, keywords_append}
use Rattle.pyparse_expr.proofs.Calls.ArgumentSteps.{steps_snoc}

-- two things of what a call returned
pub ok_by : {X Y : Type 0} {P Q T : X → Type 0} (A B : Y → Type 0) (z : Result X Y) → MatchResult z P A → MatchResult z Q B
    → ((x : X) → P x → Q x → T x) → IfOk z T
ok_by A B (Ok x) p q f = f x p q
ok_by A B (Err y) p q f = tt

-- ---- One argument.

module _ {S : Type 0} {after beside : S → Stretch → S} where
  pub keyword_kept : {w u v x : S} {ps : List Stretch} {n : ℕ} (s : Stretch) (count : S → ℕ) → Records after w ps u → v ≡ after u s
      → n ≡ count w → Moves beside after count n v x → Kept after beside w [] (ps ++ (s ∷ [])) x
  keyword_kept s count r h e m = kept_aside count (records_more r (records_node h)) e m

  pub single_kept : {w u : S} {ps : List Stretch} → Records after w ps u → Kept after beside w (ps ++ []) [] u
  single_kept {w = w} {u = u} {ps = ps} r = kept_records (subst (λ z. Records after w z u) (sym (append-nil ps)) r)

  pub spread_kept : {w u v : S} {ps : List Stretch} (s : Stretch) → Records after w ps u → v ≡ after u s
      → Kept after beside w (ps ++ (s ∷ [])) [] v
  spread_kept s r h = kept_records (records_more r (records_node h))

-- by what it begins with
piece_of : {following : ℕ} {r : List Terminal} {e : Expr} {ps : List Stretch} (ts : List given.Terminal) (at : ℕ) (k : ArgumentForm)
    → Begins k ts at → Placed (level_of k) (seen ts (place_of k at)) (place_of k at) e r following ps
    → PlacedPiece Argument (seen ts at) at (entry_of k e) r following (places_of k ps (stretch at following))
piece_of ts at kind.Single b p = placed_argument p
piece_of ts at kind.Spread b p = placed_star_argument b.is p
piece_of ts at kind.Doubled b p = placed_double_argument b.is p
piece_of {following} {r} {e} {ps} ts at (kind.Keyed x) b p =
    subst (λ z. PlacedPiece Argument (seen ts at) at (Keyed z e) r following (E.Keyed ps (stretch at following))) b.form
    (placed_keyword_argument b.is p)

-- how far the loop has come
pub record ArgumentsGrow {S : Type 0} (after beside : S → Stretch → S) (ts : List given.Terminal) (at : ℕ) (s : State) (a : Actual)
    (u v : S) : Type 0 where
  pub entries : List Entry
  pub places : List EntryPlaces
  pub grows : Grows (PlacedListing Argument) (seen ts at) at entries (seen ts a.next) a.next places
  pub gives : state_of a ≡ steps s entries
  pub kept : Kept after beside u (E.positional places) (E.keywords places) v

pub single_read : {e : Expr} {r : List Terminal} {following : ℕ} {ps : List Stretch} (ts : List given.Terminal) (at : ℕ) (k : ArgumentForm)
    → k ≡ kind.Single → Placed (level_of k) (seen ts (place_of k at)) (place_of k at) e r following ps
    → Placed Named (seen ts at) at e r following ps
single_read {e} {r} {following} {ps} ts at k q p =
    subst (λ z. Placed (level_of z) (seen ts (place_of z at)) (place_of z at) e r following ps) q p

one_more : (s : State) (a r : Actual) (es : List Entry) (e : Entry) → state_of a ≡ steps s es → state_of r ≡ step (state_of a) e
    → state_of r ≡ steps s (es ++ (e ∷ []))
one_more s a r es e p q = q ∙ ap (λ z. step z e) p ∙ sym (steps_snoc s es e)

-- what is said of it, for a function that stands from `at` on
abbrev pub CallPlaced : {S : Type 0} → (S → Stretch → S) → List given.Terminal → ℕ → List Stretch → Read → S → S → Type 0
CallPlaced after ts at ps r u v = (qs : List Stretch) × Placed Primary (seen ts at) at (tree_of r.expr.value)
    (seen ts r.next) r.next (ps ++ qs)
    × Records after u qs v

called_is : (f : Expr) (a : Actual) (es : List Entry) → state_of a ≡ steps start es → a.wrong ≡ false
    → called f es ≡ Some (Trees.Call f (exprs (map tree_of a.args.items)) (Trees.keywords (map keyword_of a.keywords.items)))
called_is f a es g w = called_steps f es ∙ ap (outcome f) (sym g)
    ∙ ap (λ b. cond b None (Some (Trees.Call f (exprs (map tree_of a.args.items)) (Trees.keywords (map keyword_of a.keywords.items))))) w

module _ {S : Type 0} {after beside : S → Stretch → S} (ts : List given.Terminal) where
  pub argument_placed : {u w : S} {ps : List Stretch} (k : ArgumentForm) (at : ℕ) (s : State) (e : Read) (r : Actual) → Begins k ts at
      → Placed (level_of k) (seen ts (place_of k at)) (place_of k at) (tree_of e.expr.value) (seen ts e.next) e.next ps
      → Kept after beside u (E.positional (places_of k ps (stretch at e.next) ∷ []))
      (E.keywords (places_of k ps (stretch at e.next) ∷ [])) w
      → state_of r ≡ step s (entry_of k (tree_of e.expr.value)) → r.next ≡ e.next → ArgumentPlaced after beside ts at s r u w
  argument_placed {ps = ps} k at s e r b p h g q = record {
    entry = entry_of k (tree_of e.expr.value);
    place = places_of k ps (stretch at e.next);
    piece = read_as (seen ts) q (piece_of ts at k b p);
    gives = g;
    kept = h;
  }

  -- ---- Some arguments.

  pub arguments_start : (a : Actual) (u : S) → ArgumentsGrow after beside ts a.next (state_of a) a u u
  arguments_start a u = record { entries = []; places = []; grows = grows_start; gives = refl; kept = kept_none }

  pub arguments_end : {u v : S} (at : ℕ) (s : State) (a : Actual) → ArgumentsGrow after beside ts at s a u v
      → ArgumentsKept after beside ts at s a u v
  arguments_end at s a g = record { entries = g.entries; places = g.places; listing = listing_end g.grows; gives = g.gives; kept = g.kept }

  fields : {u v w : S} (fs gs : List EntryPlaces) → Apart after beside → Kept after beside u (E.positional fs) (E.keywords fs) v
      → Kept after beside v (E.positional gs) (E.keywords gs) w → Kept after beside u (E.positional (fs ++ gs)) (E.keywords (fs ++ gs)) w
  fields {u} {w = w} fs gs h k l =
      subst (λ z. Kept after beside u z (E.keywords (fs ++ gs)) w) (sym (positional_append fs gs))
      (subst (λ z. Kept after beside u (E.positional fs ++ E.positional gs) z w) (sym (keywords_append fs gs)) (kept_more h k l))

  pub arguments_last : {u v w : S} (at : ℕ) (s : State) (a r : Actual) → Apart after beside → ArgumentsGrow after beside ts at s a u v
      → ArgumentPlaced after beside ts a.next (state_of a) r v w → ArgumentsKept after beside ts at s r u w
  arguments_last at s a r h g p = record {
    entries = g.entries ++ (p.entry ∷ []);
    places = g.places ++ (p.place ∷ []);
    listing = listing_last g.grows p.piece;
    gives = one_more s a r g.entries p.entry g.gives p.gives;
    kept = fields g.places (p.place ∷ []) h g.kept p.kept;
  }

  pub arguments_turn : {u v w : S} (at : ℕ) (s : State) (a b r : Actual) → Apart after beside → ArgumentsGrow after beside ts at s a u v
      → ArgumentPlaced after beside ts a.next (state_of a) b v w → Stands (Op Comma) ts b.next → state_of r ≡ state_of b
      → r.next ≡ b.next + 1 → ArgumentsGrow after beside ts at s r u w
  arguments_turn at s a b r h g p c e q = record {
    entries = g.entries ++ (p.entry ∷ []);
    places = g.places ++ (p.place ∷ []);
    grows = subst (λ z. Grows (PlacedListing Argument) (seen ts at) at (g.entries ++ (p.entry ∷ [])) (seen ts z) z
        (g.places ++ (p.place ∷ [])))
        (sym q) (listing_turn g.grows p.piece c.is);
    gives = e ∙ one_more s a b g.entries p.entry g.gives p.gives;
    kept = fields g.places (p.place ∷ []) h g.kept p.kept;
  }

  -- from after some on
  kept_from : {u v : S} (m n : ℕ) (s t : State) (a : Actual) → m ≡ n → s ≡ t → ArgumentsKept after beside ts m s a u v
      → ArgumentsKept after beside ts n t a u v
  kept_from {u} {v} m n s t a q e k =
      subst (λ z. ArgumentsKept after beside ts z t a u v) q (subst (λ z. ArgumentsKept after beside ts m z a u v) e k)

  -- none, one alone, and one with others after a comma
  pub no_arguments : (at : ℕ) (a : Actual) (u : S) → a.next ≡ at → state_of a ≡ start → ArgumentsKept after beside ts at start a u u
  no_arguments at a u q e = record {
    entries = [];
    places = [];
    listing = subst (λ z. PlacedListing Argument (seen ts z) z [] (seen ts a.next) a.next []) q placed_no_item;
    gives = e;
    kept = kept_none;
  }

  pub one_argument : {u v : S} (at : ℕ) (a : Actual) → ArgumentPlaced after beside ts at start a u v
      → ArgumentsKept after beside ts at start a u v
  one_argument at a p = record {
    entries = p.entry ∷ [];
    places = p.place ∷ [];
    listing = placed_last_item p.piece;
    gives = p.gives;
    kept = p.kept;
  }

  pub first_and_others : {u v w : S} (at : ℕ) (a m r : Actual) → Apart after beside → ArgumentPlaced after beside ts at start a u v
      → Stands (Op Comma) ts a.next → m.next ≡ a.next + 1 → state_of m ≡ state_of a
      → ArgumentsKept after beside ts m.next (state_of m) r v w → ArgumentsKept after beside ts at start r u w
  first_and_others at a m r h p c q e k =
      let l = kept_from m.next (a.next + 1) (state_of m) (step start p.entry) r q (e ∙ p.gives) k in
      record {
        entries = p.entry ∷ l.entries;
        places = p.place ∷ l.places;
        listing = placed_item p.piece c.is l.listing;
        gives = l.gives;
        kept = fields (p.place ∷ []) l.places h p.kept l.kept;
      }

  pub arguments_placed : {u v w : S} {n : ℕ} (count : S → ℕ) (at : ℕ) (m r : Actual) → Apart after beside → Still after count
      → m.next ≡ at → state_of m ≡ start → n ≡ count u → ArgumentsKept after beside ts m.next (state_of m) r u v
      → Moves after beside count n v w → ArgumentsPlaced after ts at r u w
  arguments_placed count at m r h t q e c k b =
      let l = kept_from m.next at (state_of m) start r q e k in
      record {
        entries = l.entries;
        places = l.places;
        listing = l.listing;
        gives = l.gives;
        records = kept_back count h t l.kept c b;
      }

  -- ---- The call.

  pub call_placed : {u v w x : S} {n : ℕ} {ps : List Stretch} (count : S → ℕ) (at room : ℕ) (f : Read) (a : Actual) (r : Read)
      → Apart after beside → Still after count → Stands (Op RPar) ts a.next → a.wrong ≡ false → n ≡ count u
      → Moves after beside count n v w → x ≡ after w (stretch at (a.next + 1))
      → Made room (Trees.Call (tree_of f.expr.value) (exprs (map tree_of a.args.items)) (Trees.keywords (map keyword_of a.keywords.items)))
      (a.next + 1) r → Stands (Op LPar) ts f.next
      → Placed Primary (seen ts at) at (tree_of f.expr.value) (seen ts f.next) f.next ps
      → ArgumentsKept after beside ts (f.next + 1) start a u v → CallPlaced after ts at ps r u x
  call_placed {u} {x = x} count at room f a r h t s o c b d m l p k =
      let fs = E.positional k.places in
      let gs = E.keywords k.places in
      let own = stretch at (a.next + 1) ∷ [] in (
        fs ++ (gs ++ own),
        placed_as (seen ts) m.tree m.next_is
            (placed_call p l.is k.listing (called_is (tree_of f.expr.value) a k.entries k.gives o) s.is),
        subst (λ z. Records after u z x) (append_assoc fs gs own) (records_more (kept_back count h t k.kept c b) (records_node d)),
      )

module _ {S : Type 0} {after : S → Stretch → S} (ts : List given.Terminal) where
  pub called_generator : {u v w x y : S} {ps es ws : List Stretch} {gs : List Comprehension} {xs : List Expr} {ks : List Keyword}
      (at room : ℕ) (f e : Read) (n : ℕ) (g r : Read)
      → Made room (Trees.GeneratorExp (tree_of e.expr.value) (comprehensions gs)) (n + 1) g → xs ≡ tree_of g.expr.value ∷ [] → ks ≡ []
      → Stands (Op RPar) ts n → x ≡ after w (stretch f.next (n + 1)) → y ≡ after x (stretch at (n + 1))
      → Made room (Trees.Call (tree_of f.expr.value) (exprs xs) (Trees.keywords ks)) (n + 1) r
      → Clauses (seen ts e.next) e.next gs (seen ts n) n ws → Records after v ws w
      → Stands (Op LPar) ts f.next → starts_comp (seen ts e.next) ≡ true
      → Placed Primary (seen ts at) at (tree_of f.expr.value) (seen ts f.next) f.next ps
      → Placed Named (seen ts (f.next + 1)) (f.next + 1) (tree_of e.expr.value) (seen ts e.next) e.next es → Records after u es v
      → CallPlaced after ts at ps r u y
  called_generator {es = es} {ws = ws} {ks = ks} at room f e n g r m q k s a b d c z l i p o t =
      let tree = d.tree ∙ ap (λ z. Trees.Call (tree_of f.expr.value) (exprs z) (Trees.keywords ks)) q
      ∙ ap (λ z. Trees.Call (tree_of f.expr.value) (exprs (tree_of g.expr.value ∷ [])) (Trees.keywords z)) k
      ∙ ap (λ z. Trees.Call (tree_of f.expr.value) (exprs (z ∷ [])) Trees.no_keyword) m.tree in (
        es ++ (ws ++ (stretch f.next (n + 1) ∷ (stretch at (n + 1) ∷ []))),
        placed_as (seen ts) tree d.next_is (placed_call_generator p l.is o (clauses_some c i) s.is),
        records_more t (records_more z (records_more (records_node a) (records_node b))),
      )
