-- The places of patterns, level by level, and of those that nothing but their first terminal tells apart.
--
-- Carries: levels.rt, closed.rt, finish_mapping, finish_class, read_whole_pattern. On: Made, Values, Entries; Levels and Lists of
-- pyplaces' patterns.
use Rattle.std.proofs.Common.{◌≡◌, inl, inr, refl, sym, ap, subst, ◌∙◌, arith, ℕ, ◌+◌, ◌-◌, List, [], ◌∷◌, ◌++◌, length, map, Option}
use Rattle.std.proofs.Common.{Some, None, true, false, append_assoc, Result}
use Rattle.std.specs.Prelude.{IfOk, MatchResult}
use Rattle.std.proofs.lemmas.List.{length-map, drop_all}
use Rattle.pylex_lexeme.specs.declared.kinds.Exact.TheVariants.{LBrace, LPar, RBrace, RPar, Star, VBar}
use Rattle.pytoken.specs.declared.keywords.Keyword.{Keyword}
use Rattle.pytoken.specs.declared.keywords.Keyword.TheVariants as Key
use Rattle.pytree_node.specs.Trees.{Identifier, Pattern, MatchAs, MatchClass, MatchMapping, MatchOr, MatchSingleton, MatchStar, MatchValue}
use Rattle.pytree_node.specs.Trees.{absent_pattern, patterns, present_pattern}
use Rattle.pytree_node.specs.TreeOf.{pattern_of, tree_of}
use Rattle.pytree_node.specs.Values.{Value}
use Rattle.pytoken.specs.TerminalOf.{terminal}
use Rattle.pytoken.specs.Terminals.{Terminal, Spelled, Op, Word, Ident}
use Rattle.pytoken.specs.declared.values.terminals.Terminal as given
use Rattle.pygrammar.specs.declared.pattern_levels.PatternLevel.{PatternLevel}
use Rattle.pygrammar.specs.declared.pattern_levels.PatternLevel.TheVariants as level
use Rattle.pygrammar.specs.Looks.{is_op, name_in}
use Rattle.pygrammar.specs.PatternEntries.{PatternEntry, ClassArgument, KeyPattern, are_class_arguments, as_named, class_of, elements}
use Rattle.pygrammar.specs.PatternEntries.{is_mapping, key_patterns, mapped, named_attributes, named_patterns, pattern_keys, rest_of}
use Rattle.pygrammar.specs.PatternOperators.{captured, is_wildcard, singleton_word}
use Rattle.pygrammar.specs.PatternReader.{dotted_from}
use Rattle.pyparse_nodes.specs.declared.found.Read.{Read}
use Rattle.pyparse_nodes.specs.declared.stop.Stop.{Stop}
use Rattle.pyparse_nodes.specs.declared.stop.Stop.TheVariants as stop
use Rattle.pyparse_nodes.specs.Answers.{FoundAt}
use Rattle.pyparse_nodes.specs.Views.{Stands, first_is, seen}
use Rattle.pyparse_reads.specs.declared.depth.Depth.{Depth}
use Rattle.pyparse_pattern.specs.declared.entries.Entries as found
use Rattle.pyparse_pattern.specs.declared.found.Patterns.{Patterns}
use Rattle.pyparse_pattern.specs.declared.found.ReadPattern.{ReadPattern}
use Rattle.pyparse_pattern.specs.Inner.Entries.{entry_of}
use Rattle.pyparse_pattern.specs.Inner.Found.{IsQualified}
use Rattle.pyparse_pattern.specs.Inner.Made.{MadePattern, MakesPattern}
use Rattle.pyparse_pattern.specs.Inner.PlacedParts.{AlternativesPlaced, followings, fronts}
use Rattle.pyplaces.specs.Stretches.{Stretch, stretch}
use Rattle.pyplaces.specs.PatternPlaces as E
use Rattle.pyplaces.specs.PatternPlaces.{EntryPlaces}
use Rattle.pyplaces.specs.PlacedPatterns.{PlacedClass, PlacedEntries, PlacedPattern}
use Rattle.pyplaces.specs.Recording.{Kept, Moves, Records}
use Rattle.pyplaces.specs.Rests.{Bars}
use Rattle.pyplaces.proofs.Answers.{records_more, records_node, records_none}
use Rattle.pyplaces.proofs.Asides.{Apart, Still, kept_back}
use Rattle.pyplaces.proofs.Loops.{Grows, grows_start}
use Rattle.pyplaces.proofs.Patterns.Levels.{placed_alternatives, placed_as_name, placed_capture, placed_class_pattern, placed_literal}
use Rattle.pyplaces.proofs.Patterns.Levels.{placed_mapping, placed_singleton, placed_star}
use Rattle.pyplaces.proofs.Patterns.Lists.{bars_end, bars_some, bars_turn}
use Rattle.pyplaces.proofs.Patterns.Values.{placed_class}
use Rattle.pyparse_reads.proofs.Callers.Looks.{no_op, name_first, with_places}
use Rattle.pyparse_pattern.proofs.ClosedSteps.{no_bracket}
use Rattle.pyparse_pattern.proofs.Recorders.Entries.{class_fronts, key_fronts}
use Rattle.pyparse_pattern.proofs.Recorders.Made.{Whole, WholeAfter, leaf_made, said_as, whole_after, whole_joined, whole_made}
use Rattle.pyparse_pattern.proofs.Recorders.Values.{DottedRead, LiteralRead, dotted_value, pointed}

-- up to the end of the list
pub whole_placed : (ts : List given.Terminal) (l : PatternLevel) (p : Pattern) (n : ℕ) (ps : List Stretch) → n ≡ length ts
    → PlacedPattern l (seen ts 0) 0 p (seen ts n) n ps → PlacedPattern l (map terminal ts) 0 p [] (length ts) ps
whole_placed ts l p n ps q d =
    let none : seen ts n ≡ [] = drop_all n (map terminal ts) (omega (arith, q, length-map ts terminal)) in
    subst (λ k. PlacedPattern l (map terminal ts) 0 p [] k ps) q (subst (λ r. PlacedPattern l (map terminal ts) 0 p r n ps) none d)

-- ---- Alternatives.

-- how far they have come
pub record BarsGrown {S : Type 0} (after : S → Stretch → S) (ts : List given.Terminal) (at : ℕ) (p : Pattern) (now : Patterns) (old new : S)
    : Type 0 where
  pub others : List Pattern
  pub places : List Stretch
  pub gives : map pattern_of now.items.items ≡ p ∷ others
  pub grows : Grows Bars (seen ts at) at others (seen ts now.next) now.next places
  pub records : Records after old places new

module _ {S : Type 0} {after : S → Stretch → S} {ts : List given.Terminal} where
  pub bars_begun : {u : S} (at : ℕ) (p : Pattern) (s : Patterns) → map pattern_of s.items.items ≡ p ∷ [] → s.next ≡ at
      → BarsGrown after ts at p s u u
  bars_begun at p s g n = record {
    others = [];
    places = [];
    gives = g;
    grows = said_as (λ xs r k. Grows Bars (seen ts at) at xs r k []) (seen ts) refl n grows_start;
    records = records_none;
  }

  pub bars_gone : {u v w : S} (at : ℕ) (p : Pattern) (s : Patterns) (q : ReadPattern) (r : Patterns) → BarsGrown after ts at p s u v
      → Stands (Op VBar) ts s.next → Whole after ts level.ClosedPattern (seen ts (s.next + 1)) (s.next + 1) v w q
      → map pattern_of r.items.items ≡ map pattern_of s.items.items ++ (pattern_of q.pattern.value ∷ []) → r.next ≡ q.next
      → BarsGrown after ts at p r u w
  bars_gone at p s q r g bar h e n = record {
    others = g.others ++ (pattern_of q.pattern.value ∷ []);
    places = g.places ++ h.0;
    gives = e ∙ ap (λ l. l ++ (pattern_of q.pattern.value ∷ [])) g.gives;
    grows = said_as (λ xs t k. Grows Bars (seen ts at) at xs t k (g.places ++ h.0)) (seen ts) refl n (bars_turn g.grows bar.is h.1);
    records = records_more g.records h.2;
  }

  pub bars_ended : {u v : S} (at : ℕ) (p : Pattern) (s : Patterns) → BarsGrown after ts at p s u v
      → None ≡ first_is (is_op VBar) (seen ts s.next) → AlternativesPlaced after ts at p s u v
  bars_ended at p s g n = record {
    others = g.others;
    places = g.places;
    gives = g.gives;
    bars = bars_end g.grows (no_op VBar n);
    records = g.records;
  }

module _ {S : Type 0} (after : S → Stretch → S) (u v : S) (ts : List given.Terminal) where
  pub or_placed : {w x : S} (at room : ℕ) (first : ReadPattern) (ps : Patterns) (z : Result ReadPattern Stop)
      → Whole after ts level.ClosedPattern (seen ts at) at u w first → Stands (Op VBar) ts first.next
      → AlternativesPlaced after ts first.next (pattern_of first.pattern.value) ps w x → v ≡ after x (stretch at ps.next)
      → MakesPattern room (MatchOr (patterns (map pattern_of ps.items.items))) ps.next z
      → IfOk z (Whole after ts level.OrPattern (seen ts at) at u v)
  or_placed at room first ps z h s o d m =
      whole_made after u v ts level.OrPattern (seen ts at) at room (MatchOr (patterns (map pattern_of ps.items.items))) ps.next z m
      (subst (λ l. PlacedPattern level.OrPattern (seen ts at) at (MatchOr (patterns l)) (seen ts ps.next) ps.next
      (h.0 ++ (o.places ++ (stretch at ps.next ∷ [])))) (sym o.gives) (placed_alternatives h.1 s.is (bars_some o.bars s.is)))
      (records_more h.2 (records_more o.records (records_node d)))

  -- ---- Names after a `*` and an `as`.
  pub star_placed : (begin at : ℕ) (f : Identifier) (y : Option Identifier) (z : Result ReadPattern Stop) → at ≡ begin + 1
      → Some f ≡ first_is name_in (seen ts at) → y ≡ captured f → v ≡ after u (stretch begin (at + 1))
      → MatchResult z (λ r. MadePattern 1 (MatchStar y) (at + 1) r) (λ s. s ≡ stop.Memory)
      → IfOk z (Whole after ts level.StarPattern (Op Star ∷ seen ts at) begin u v)
  star_placed begin at f y z q n e d m =
      let x = name_first f ts at n in
      let own : List Stretch = stretch begin (at + 1) ∷ [] in
      let p : PlacedPattern level.StarPattern (Op Star ∷ seen ts at) begin (MatchStar (captured x.0.form)) (seen ts (at + 1)) (at + 1) own =
      subst (λ k. PlacedPattern level.StarPattern (Op Star ∷ seen ts at) begin (MatchStar (captured x.0.form)) (seen ts (at + 1)) (k + 1)
      (stretch begin (k + 1) ∷ [])) (sym q) (placed_star refl x.1) in
      leaf_made after u v ts level.StarPattern (Op Star ∷ seen ts at) begin (MatchStar y) (at + 1) z m
      (subst (λ c. PlacedPattern level.StarPattern (Op Star ∷ seen ts at) begin (MatchStar c) (seen ts (at + 1)) (at + 1) own)
      (ap captured x.2 ∙ sym e) p) (records_node d)

  pub as_placed : (at room : ℕ) (inner : ReadPattern) (f y : Identifier) (z : Result ReadPattern Stop) → Stands (Word Key.As) ts inner.next
      → Some f ≡ first_is name_in (seen ts (inner.next + 1)) → y ≡ f → is_wildcard y ≡ false
      → v ≡ after u (stretch at (inner.next + 1 + 1))
      → MakesPattern room (MatchAs (present_pattern (pattern_of inner.pattern.value)) (Some y)) (inner.next + 1 + 1) z
      → (ps : List Stretch)
      → PlacedPattern level.OrPattern (seen ts at) at (pattern_of inner.pattern.value) (seen ts inner.next) inner.next ps
      → IfOk z (WholeAfter after ts level.AsPattern (seen ts at) at ps u v)
  as_placed at room inner f y z s n e w d m ps p =
      let x = name_first f ts (inner.next + 1) n in
      let same : x.0.form ≡ y = x.2 ∙ sym e in
      let q : as_named (pattern_of inner.pattern.value) x.0.form
      ≡ Some (MatchAs (present_pattern (pattern_of inner.pattern.value)) (Some y)) =
      ap (λ g. as_named (pattern_of inner.pattern.value) g) same ∙ named y w in
      whole_after after u v ts ps level.AsPattern (seen ts at) at room
      (MatchAs (present_pattern (pattern_of inner.pattern.value)) (Some y)) (inner.next + 1 + 1) z m (placed_as_name p s.is x.1 q)
      (records_node d)
    where
      named : (g : Identifier) → is_wildcard g ≡ false → as_named (pattern_of inner.pattern.value) g
          ≡ Some (MatchAs (present_pattern (pattern_of inner.pattern.value)) (Some g))
      named g b = rw b refl

  -- ---- By the first terminal.
  pub singleton_placed : (at : ℕ) (w : Keyword) (y : Value) (z : Result ReadPattern Stop) → singleton_word (Word w) ≡ Some y
      → seen ts at ≡ Word w ∷ seen ts (at + 1) → v ≡ after u (stretch at (at + 1))
      → MatchResult z (λ r. MadePattern 1 (MatchSingleton y) (at + 1) r) (λ s. s ≡ stop.Memory)
      → IfOk z (Whole after ts level.ClosedPattern (seen ts at) at u v)
  singleton_placed at w y z g q d m =
      leaf_made after u v ts level.ClosedPattern (seen ts at) at (MatchSingleton y) (at + 1) z m (placed_singleton g q) (records_node d)

  pub literal_placed : {w : S} (at room : ℕ) (e : Read) (z : Result ReadPattern Stop) → LiteralRead after ts at u w e
      → v ≡ after w (stretch at e.next) → MakesPattern room (MatchValue (tree_of e.expr.value)) e.next z
      → IfOk z (Whole after ts level.ClosedPattern (seen ts at) at u v)
  literal_placed at room e z h d m =
      whole_made after u v ts level.ClosedPattern (seen ts at) at room (MatchValue (tree_of e.expr.value)) e.next z m (placed_literal h.1)
      (records_more h.2 (records_node d))

  -- ---- After a name.
  pub capture_placed : (x : Spelled) (begin at : ℕ) (y : Option Identifier) (z : Result ReadPattern Stop) → at ≡ begin + 1
      → y ≡ captured x.form → v ≡ after u (stretch begin at)
      → MatchResult z (λ r. MadePattern 1 (MatchAs absent_pattern y) at r) (λ s. s ≡ stop.Memory)
      → IfOk z (Whole after ts level.ClosedPattern (Ident x ∷ seen ts at) begin u v)
  capture_placed x begin at y z q e d m =
      let own : List Stretch = stretch begin at ∷ [] in
      let p : PlacedPattern level.ClosedPattern (Ident x ∷ seen ts at) begin
      (MatchAs absent_pattern (captured x.form)) (seen ts at) at own =
      subst (λ k. PlacedPattern level.ClosedPattern (Ident x ∷ seen ts at) begin (MatchAs absent_pattern (captured x.form)) (seen ts at) k
      (stretch begin k ∷ [])) (sym q) (placed_capture {x = x} {i = Ident x ∷ seen ts at} {r = seen ts at} {at = begin} refl) in
      leaf_made after u v ts level.ClosedPattern (Ident x ∷ seen ts at) begin (MatchAs absent_pattern y) at z m
      (subst (λ c. PlacedPattern level.ClosedPattern (Ident x ∷ seen ts at) begin (MatchAs absent_pattern c) (seen ts at) at own) (sym e) p)
      (records_node d)

  pub value_placed : {w : S} (d : Depth) (x : Spelled) (begin at : ℕ) (f : Identifier) (e : Read) (z : Result ReadPattern Stop)
      → x.form ≡ f → is_wildcard f ≡ false → IsQualified ts at
      → FoundAt ts (d.room - 1 + 1) at (dotted_from (d.room - 1) f (seen ts at)) e → None ≡ first_is (is_op LPar) (seen ts e.next)
      → DottedRead after ts x (Ident x ∷ seen ts at) begin u w e → v ≡ after w (stretch begin e.next)
      → MakesPattern d.room (MatchValue (tree_of e.expr.value)) e.next z
      → IfOk z (Whole after ts level.ClosedPattern (Ident x ∷ seen ts at) begin u v)
  value_placed d x begin at f e z g b (inr s) a n h k m = absurd (no_bracket ts d at f e s a n)
  value_placed d x begin at f e z g b (inl s) a n h k m =
      whole_made after u v ts level.ClosedPattern (Ident x ∷ seen ts at) begin d.room (MatchValue (tree_of e.expr.value)) e.next z m
      (dotted_value h.1 (pointed ts (d.room - 1) at f (tree_of e.expr.value) (seen ts e.next) s a.is) (ap is_wildcard g ∙ b))
      (records_more h.2 (records_node k))

  pub class_joined : {w : S} (x : Spelled) (i : List Terminal) (begin : ℕ) (e : Read) (z : Result ReadPattern Stop)
      → is_wildcard x.form ≡ false
      → DottedRead after ts x i begin u w e
      → ((j : List Terminal) (ps : List Stretch) → PlacedClass j begin (tree_of e.expr.value) (seen ts e.next) e.next ps
      → IfOk z (WholeAfter after ts level.ClosedPattern j begin ps w v))
      → IfOk z (Whole after ts level.ClosedPattern i begin u v)
  class_joined x i begin e z b h f = whole_joined after u v ts level.ClosedPattern i begin z h.2 (f i h.0 (placed_class h.1 b))

-- ---- Classes and mappings, after their entries.

module _ {S : Type 0} (after : S → Stretch → S) (u v : S) (ts : List given.Terminal) where
  pub class_placed : (at room : ℕ) (class : Read) (entries : found.Entries) (z : Result ReadPattern Stop)
      → Stands (Op RPar) ts entries.next → are_class_arguments false (map entry_of entries.items.items) ≡ true
      → v ≡ after u (stretch at (entries.next + 1))
      → MakesPattern room (MatchClass (tree_of class.expr.value) (elements (map entry_of entries.items.items))
      (named_attributes (map entry_of entries.items.items)) (named_patterns (map entry_of entries.items.items))) (entries.next + 1) z
      → Stands (Op LPar) ts class.next → (i : List Terminal) (ps : List Stretch) (w : S) (fs : List EntryPlaces)
      → PlacedClass i at (tree_of class.expr.value) (seen ts class.next) class.next ps
      → PlacedEntries ClassArgument (seen ts (class.next + 1)) (class.next + 1) (map entry_of entries.items.items) (seen ts entries.next)
      entries.next fs → Records after w (fronts fs) u → IfOk z (WholeAfter after ts level.ClosedPattern i at ps w v)
  class_placed at room class entries z y b d m l i ps w fs p c k =
      let es : List PatternEntry = map entry_of entries.items.items in
      let own : List Stretch = stretch at (entries.next + 1) ∷ [] in
      let q : class_of (tree_of class.expr.value) es
      ≡ Some (MatchClass (tree_of class.expr.value) (elements es) (named_attributes es) (named_patterns es)) = rw b refl in
      let e : ps ++ (E.alone fs ++ (E.named fs ++ own)) ≡ ps ++ (fronts fs ++ own) = ap (λ l. ps ++ l)
      (sym (append_assoc (E.alone fs) (E.named fs) own) ∙ ap (λ l. l ++ own) (sym (class_fronts c b))) in
      whole_after after w v ts ps level.ClosedPattern i at room
      (MatchClass (tree_of class.expr.value) (elements es) (named_attributes es) (named_patterns es)) (entries.next + 1) z m
      (with_places e (placed_class_pattern p l.is c q y.is)) (records_more k (records_node d))

  -- the patterns are taken back after the keys
  pub mapping_placed : {x : S} {n : ℕ} (beside : S → Stretch → S) (count : S → ℕ) → Apart after beside → Still after count
      → (begin room : ℕ) (entries : found.Entries) (z : Result ReadPattern Stop)
      → Stands (Op RBrace) ts entries.next → is_mapping (map entry_of entries.items.items) ≡ true → Moves after beside count n u x
      → v ≡ after x (stretch begin (entries.next + 1))
      → MakesPattern room (MatchMapping (pattern_keys (map entry_of entries.items.items)) (key_patterns (map entry_of entries.items.items))
      (rest_of (map entry_of entries.items.items))) (entries.next + 1) z
      → (i : List Terminal) (w : S) (fs : List EntryPlaces)
      → PlacedEntries KeyPattern i (begin + 1) (map entry_of entries.items.items) (seen ts entries.next) entries.next fs
      → n ≡ count w → Kept after beside w (fronts fs) (followings fs) u
      → IfOk z (Whole after ts level.ClosedPattern (Op LBrace ∷ i) begin w v)
  mapping_placed beside count apart still begin room entries z y b back d m i w fs c is k =
      let es : List PatternEntry = map entry_of entries.items.items in
      let own : List Stretch = stretch begin (entries.next + 1) ∷ [] in
      let q : mapped es ≡ Some (MatchMapping (pattern_keys es) (key_patterns es) (rest_of es)) = rw b refl in
      let f = key_fronts c in
      let e : E.pattern_keys fs ++ (E.key_patterns fs ++ own) ≡ (fronts fs ++ followings fs) ++ own =
      sym (append_assoc (E.pattern_keys fs) (E.key_patterns fs) own)
      ∙ ap (λ l. (l ++ E.key_patterns fs) ++ own) (sym f.0) ∙ ap (λ l. (fronts fs ++ l) ++ own) (sym f.1) in
      whole_made after w v ts level.ClosedPattern (Op LBrace ∷ i) begin room
      (MatchMapping (pattern_keys es) (key_patterns es) (rest_of es)) (entries.next + 1) z m
      (with_places e (placed_mapping refl c q y.is)) (records_more (kept_back count apart still k is back) (records_node d))
