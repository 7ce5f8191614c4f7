-- The places of the clauses of comprehensions, and of targets.
--
-- Carries: target_item, read_target, ifs, for_in, comps. On: Comprehensions, Levels and Readings of pyplaces, ListPlaces.
use Rattle.std.proofs.Common.{◌≡◌, refl, sym, ap, ◌∙◌, subst, arith, ℕ, ◌+◌, List, [], ◌∷◌, ◌++◌, map, Option, Some, None, Bool, true}
use Rattle.std.proofs.Common.{false, Result, Ok, Err}
use Rattle.std.specs.Prelude.{IfOk, MatchResult}
use Rattle.pylex_lexeme.specs.declared.kinds.Exact.TheVariants.{Comma, Star}
use Rattle.pytoken.specs.declared.keywords.Keyword.TheVariants as Key
use Rattle.pytree_node.specs.declared.operators.Context.TheVariants.{Load}
use Rattle.pytree_node.specs.Trees
use Rattle.pytree_node.specs.Trees.{Expr, Comprehension}
use Rattle.pytree_node.specs.TreeOf.{tree_of, comprehension_of}
use Rattle.pytoken.specs.Terminals.{Terminal, Op, Word}
use Rattle.pytoken.specs.declared.values.terminals.Terminal as given
use Rattle.pygrammar.specs.declared.levels.Level.TheVariants.{Stars, StarItem, Or, Primary}
use Rattle.pygrammar.specs.Entries.{Of}
use Rattle.pygrammar.specs.Reader.{generator_of}
use Rattle.pygrammar.specs.Targets.{stored}
use Rattle.pyparse_nodes.specs.declared.found.ForClause.{ForClause}
use Rattle.pyparse_nodes.specs.declared.found.ForClauses.{ForClauses}
use Rattle.pyparse_nodes.specs.declared.found.Items.{Items}
use Rattle.pyparse_nodes.specs.declared.found.Read.{Read}
use Rattle.pyparse_nodes.specs.declared.stop.Stop.{Stop}
use Rattle.pyparse_nodes.specs.Answers.{Makes}
use Rattle.pyparse_nodes.specs.Views.{Stands, seen}
use Rattle.pyplaces.specs.Stretches.{Stretch, stretch}
use Rattle.pyplaces.specs.EntryPlaces as E
use Rattle.pyplaces.specs.Placed.{PlacedComp, PlacedForIn, PlacedIfs}
use Rattle.pyplaces.specs.Recording.{Records}
use Rattle.pyplaces.specs.Rests.{Clauses}
use Rattle.pyplaces.proofs.Answers.{placed_as, records_none, records_node, records_more}
use Rattle.pyplaces.proofs.Loops.{Grows, grows_start}
use Rattle.pyplaces.proofs.Expressions.Levels.{placed_next, placed_star_tuple}
use Rattle.pyplaces.proofs.Expressions.Readings.{placed_target_item, placed_target_star}
use Rattle.pyplaces.proofs.Expressions.Comprehensions.{placed_for, placed_async_for, placed_for_in, ifs_turn, ifs_end}
use Rattle.pyplaces.proofs.Expressions.Comprehensions.{clauses_turn, clauses_end}
use Rattle.pyparse_expr.specs.declared.comprehensions.ClauseStart.{ClauseStart}
use Rattle.pyparse_expr.specs.Inner.Clauses.{MadeClause, NoClause, NoStart, StartsAt, StartWords}
use Rattle.pyparse_expr.specs.Inner.PlacedLists.{TuplePlaced}
use Rattle.pyparse_expr.proofs.Recorders.Misses.{no_comp}
use Rattle.pyparse_expr.proofs.Recorders.Reads.{ReadPlaced, made_whole}

-- ---- Targets in front of `in`.
module _ {S : Type 0} (after : S → Stretch → S) (ts : List given.Terminal) (at : ℕ) where
  pub item_star_placed : {u v w : S} (e : Read) (room : ℕ) (z : Result Read Stop) → ReadPlaced after ts Primary (at + 1) u v e
      → Stands (Op Star) ts at → w ≡ after v (stretch at e.next) → Makes room (Trees.Starred (tree_of e.expr.value) Load) e.next z
      → IfOk z (λ r. ReadPlaced after ts StarItem at u w r)
  item_star_placed e room z p s h m =
      made_whole ts room e.next z m refl (placed_target_star s.is p.1) (records_more p.2 (records_node h))

  pub item_plain_placed : (u v : S) (z : Result Read Stop) → IfOk z (λ r. ReadPlaced after ts Primary at u v r)
      → IfOk z (λ r. ReadPlaced after ts StarItem at u v r)
  item_plain_placed u v (Ok r) p = (p.0, placed_target_item p.1, p.2)
  item_plain_placed u v (Err e) p = tt

  pub targets_placed : {u v : S} (first : Read) (w : S) (z : Result Read Stop) → ReadPlaced after ts StarItem at u v first
      → Stands (Op Comma) ts first.next → IfOk z (λ r. TuplePlaced after ts (Of StarItem) first at r v w)
      → IfOk z (λ r. ReadPlaced after ts Stars at u w r)
  targets_placed first w (Ok r) p s t = (
    p.0 ++ (E.singles t.places ++ (stretch at r.next ∷ [])),
    placed_as (seen ts) t.tree refl (placed_star_tuple p.1 s.is t.listing),
    records_more p.2 t.records,
  )
  targets_placed first w (Err e) p s t = tt

  pub target_alone_placed : {u v : S} (first : Read) → ReadPlaced after ts StarItem at u v first → ReadPlaced after ts Stars at u v first
  target_alone_placed first p = (p.0, placed_next p.1, p.2)

-- ---- Conditions.
abbrev pub TestsPlaced : {S : Type 0} (after : S → Stretch → S) (ts : List given.Terminal) (at : ℕ) (old new : S) → Items → Type 0
TestsPlaced after ts at old new r =
    (ps : List Stretch) × PlacedIfs (seen ts at) at (map tree_of r.exprs.items) (seen ts r.next) r.next ps × Records after old ps new

-- how far they have come
pub record TestsGrown {S : Type 0} (after : S → Stretch → S) (ts : List given.Terminal) (at : ℕ) (now : Items) (old new : S) : Type 0 where
  pub places : List Stretch
  pub grows : Grows PlacedIfs (seen ts at) at (map tree_of now.exprs.items) (seen ts now.next) now.next places
  pub records : Records after old places new

module _ {S : Type 0} {after : S → Stretch → S} {ts : List given.Terminal} {at : ℕ} where
  pub tests_grown_start : {items : Items} {u : S} → map tree_of items.exprs.items ≡ [] → items.next ≡ at
      → TestsGrown after ts at items u u
  tests_grown_start {items = items} e n = record {
    places = [];
    grows = subst (λ l. Grows PlacedIfs (seen ts at) at l (seen ts items.next) items.next []) (sym e)
        (subst (λ k. Grows PlacedIfs (seen ts at) at [] (seen ts k) k []) (sym n) grows_start);
    records = records_none;
  }

  pub tests_grown_turn : {items new : Items} {u v w : S} (e : Read) → TestsGrown after ts at items u v → Stands (Word Key.If) ts items.next
      → ReadPlaced after ts Or (items.next + 1) v w e
      → map tree_of new.exprs.items ≡ map tree_of items.exprs.items ++ (tree_of e.expr.value ∷ []) → new.next ≡ e.next
      → TestsGrown after ts at new u w
  tests_grown_turn {items} {new = new} e g s d p k =
      let grown : List Expr = map tree_of items.exprs.items ++ (tree_of e.expr.value ∷ []) in
      record {
        places = g.places ++ d.0;
        grows = subst (λ l. Grows PlacedIfs (seen ts at) at l (seen ts new.next) new.next (g.places ++ d.0)) (sym p)
            (subst (λ n. Grows PlacedIfs (seen ts at) at grown (seen ts n) n (g.places ++ d.0)) (sym k) (ifs_turn g.grows s.is d.1));
        records = records_more g.records d.2;
      }

  pub tests_grown_end : {items : Items} {u v : S} → TestsGrown after ts at items u v → TestsPlaced after ts at u v items
  tests_grown_end g = (g.places, ifs_end g.grows, g.records)

-- ---- A clause.
some_same : (a b : Comprehension) → Some a ≡ Some b → a ≡ b
some_same a b h = cc

generated : (o : Option Expr) (e : Expr) (cs : List Expr) (b : Bool) (g : Comprehension) → Some g ≡ generator_of o e cs b
    → (f : Expr) × (o ≡ Some f) × (g ≡ record { target = f; iter = e; ifs = cs; is_async = b })
generated None e cs b g h = absurd (cc)
generated (Some f) e cs b g h = (f, refl, some_same g (record { target = f; iter = e; ifs = cs; is_async = b }) h)

abbrev pub ForPlaced : {S : Type 0} (after : S → Stretch → S) (ts : List given.Terminal) (b : Bool) (at : ℕ) (old new : S)
    → ForClause → Type 0
ForPlaced after ts b at old new r =
    (ps : List Stretch) × PlacedForIn b (seen ts at) at (comprehension_of r.generator) (seen ts r.next) r.next ps × Records after old ps new

module _ {S : Type 0} {after : S → Stretch → S} {ts : List given.Terminal} where
  for_placed : {b : Bool} {at : ℕ} {u v w x : S} (t i : Read) (tests : Items) (r : ForClause) → ReadPlaced after ts Stars at u v t
      → Stands (Word Key.In) ts t.next → ReadPlaced after ts Or (t.next + 1) v w i → TestsPlaced after ts i.next w x tests
      → Some (comprehension_of r.generator) ≡ generator_of (stored (tree_of t.expr.value)) (tree_of i.expr.value)
      (map tree_of tests.exprs.items) b
      → r.next ≡ tests.next → ForPlaced after ts b at u x r
  for_placed {b} {at = at} t i tests r p s d c h k =
      let g = generated (stored (tree_of t.expr.value)) (tree_of i.expr.value) (map tree_of tests.exprs.items) b
      (comprehension_of r.generator) h in
      let ps : List Stretch = p.0 ++ (d.0 ++ c.0) in (
        ps,
        subst (λ n. PlacedForIn b (seen ts at) at (comprehension_of r.generator) (seen ts n) n ps) (sym k)
            (subst (λ y. PlacedForIn b (seen ts at) at y (seen ts tests.next) tests.next ps) (sym g.2)
            (placed_for_in p.1 g.1 s.is d.1 c.1)),
        records_more p.2 (records_more d.2 c.2),
      )

  pub clause_placed : {at : ℕ} {u v w x : S} (b : Bool) (t i : Read) (tests : Items) (z : Result ForClause Stop)
      → ReadPlaced after ts Stars at u v t → Stands (Word Key.In) ts t.next → ReadPlaced after ts Or (t.next + 1) v w i
      → TestsPlaced after ts i.next w x tests
      → MatchResult z (λ c. MadeClause t i tests b c) (λ s. NoClause t i tests b s)
      → IfOk z (λ r. ForPlaced after ts b at u x r)
  clause_placed b t i tests (Ok r) p s d c m = for_placed t i tests r p s d c m.is m.next
  clause_placed b t i tests (Err e) p s d c m = tt

-- ---- All clauses.

-- how far they have come
pub record ClausesGrown {S : Type 0} (after : S → Stretch → S) (ts : List given.Terminal) (at : ℕ) (now : ForClauses) (old new : S)
    : Type 0 where
  pub places : List Stretch
  pub grows : Grows Clauses (seen ts at) at (map comprehension_of now.generators.items) (seen ts now.next) now.next places
  pub records : Records after old places new

module _ {S : Type 0} {after : S → Stretch → S} {ts : List given.Terminal} {at : ℕ} where
  pub clauses_grown_start : {now : ForClauses} {u : S} → map comprehension_of now.generators.items ≡ [] → now.next ≡ at
      → ClausesGrown after ts at now u u
  clauses_grown_start {now = now} e n = record {
    places = [];
    grows = subst (λ l. Grows Clauses (seen ts at) at l (seen ts now.next) now.next []) (sym e)
        (subst (λ k. Grows Clauses (seen ts at) at [] (seen ts k) k []) (sym n) grows_start);
    records = records_none;
  }

  grown_by : {now new : ForClauses} {u v w : S} (g : ForClause) (qs : List Stretch) → ClausesGrown after ts at now u v
      → PlacedComp (seen ts now.next) now.next (comprehension_of g.generator) (seen ts g.next) g.next qs → Records after v qs w
      → map comprehension_of new.generators.items ≡ map comprehension_of now.generators.items ++ (comprehension_of g.generator ∷ [])
      → new.next ≡ g.next → ClausesGrown after ts at new u w
  grown_by {now = now} {new = new} g qs c d r p k =
      let grown : List Comprehension = map comprehension_of now.generators.items ++ (comprehension_of g.generator ∷ []) in
      record {
        places = c.places ++ qs;
        grows = subst (λ l. Grows Clauses (seen ts at) at l (seen ts new.next) new.next (c.places ++ qs)) (sym p)
            (subst (λ n. Grows Clauses (seen ts at) at grown (seen ts n) n (c.places ++ qs)) (sym k) (clauses_turn c.grows d));
        records = records_more c.records r;
      }

  clauses_grown_for : {now new : ForClauses} {u v w : S} (g : ForClause) → ClausesGrown after ts at now u v
      → Stands (Word Key.For) ts now.next → ForPlaced after ts false (now.next + 1) v w g
      → map comprehension_of new.generators.items ≡ map comprehension_of now.generators.items ++ (comprehension_of g.generator ∷ [])
      → new.next ≡ g.next → ClausesGrown after ts at new u w
  clauses_grown_for g c s d p k = grown_by g d.0 c (placed_for s.is d.1) d.2 p k

  clauses_grown_async : {now new : ForClauses} {u v w : S} (g : ForClause) → ClausesGrown after ts at now u v
      → Stands (Word Key.Async) ts now.next → Stands (Word Key.For) ts (now.next + 1) → ForPlaced after ts true (now.next + 2) v w g
      → map comprehension_of new.generators.items ≡ map comprehension_of now.generators.items ++ (comprehension_of g.generator ∷ [])
      → new.next ≡ g.next → ClausesGrown after ts at new u w
  clauses_grown_async {now = now} g c s f d p k =
      let two : now.next + 1 + 1 ≡ now.next + 2 = omega arith in
      let words : seen ts now.next ≡ Word Key.Async ∷ (Word Key.For ∷ seen ts (now.next + 2)) =
      s.is ∙ (ap (λ r. Word Key.Async ∷ r) f.is ∙ ap (λ n. Word Key.Async ∷ (Word Key.For ∷ seen ts n)) two) in
      grown_by g d.0 c (placed_async_for words d.1) d.2 p k

  pub clauses_grown_turn : {now new : ForClauses} {u v w : S} (s : ClauseStart) (g : ForClause) → ClausesGrown after ts at now u v
      → StartsAt ts now.next s → ForPlaced after ts s.is_async s.at v w g
      → map comprehension_of new.generators.items ≡ map comprehension_of now.generators.items ++ (comprehension_of g.generator ∷ [])
      → new.next ≡ g.next → ClausesGrown after ts at new u w
  clauses_grown_turn {now} {new} {u} {v} {w} s g c x d p k = go s.is_async s.at x.words d
    where
      go : (b : Bool) (n : ℕ) → StartWords ts now.next b n → ForPlaced after ts b n v w g → ClausesGrown after ts at new u w
      go false n q d = clauses_grown_for g c q.0 (subst (λ z. ForPlaced after ts false z v w g) q.1 d) p k
      go true n q d = clauses_grown_async g c q.0 q.1 (subst (λ z. ForPlaced after ts true z v w g) q.2 d) p k

  pub clauses_grown_end : {now : ForClauses} {u v : S} → ClausesGrown after ts at now u v → NoStart ts now.next
      → (ps : List Stretch) × Clauses (seen ts at) at (map comprehension_of now.generators.items) (seen ts now.next) now.next ps
      × Records after u ps v
  clauses_grown_end {now = now} c n = (c.places, clauses_end c.grows (no_comp (seen ts now.next) n.no_for n.no_async), c.records)
