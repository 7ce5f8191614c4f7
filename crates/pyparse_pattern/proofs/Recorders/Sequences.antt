-- The places of sequences, and of what stands alone in round brackets.
--
-- Carries: read_patterns, bracketed, grouped, round, square, others. On: Made, Entries; Levels of pyplaces' patterns, SequenceSteps.
use Rattle.std.proofs.Common.{◌≡◌, refl, sym, ap, subst, ◌∙◌, ℕ, ◌+◌, List, [], ◌∷◌, ◌++◌, map, None, Result, Ok, Err}
use Rattle.std.specs.Prelude.{IfOk}
use Rattle.pylex_lexeme.specs.declared.kinds.Exact.{Exact}
use Rattle.pylex_lexeme.specs.declared.kinds.Exact.TheVariants.{Comma, LPar, LSqb, RPar, RSqb, Star}
use Rattle.pytree_node.specs.Trees.{Pattern, MatchSequence, no_pattern, patterns}
use Rattle.pytree_node.specs.TreeOf.{pattern_of}
use Rattle.pytoken.specs.Terminals.{Terminal, Op}
use Rattle.pytoken.specs.declared.values.terminals.Terminal as given
use Rattle.pygrammar.specs.declared.pattern_levels.PatternLevel.{PatternLevel}
use Rattle.pygrammar.specs.declared.pattern_levels.PatternLevel.TheVariants as level
use Rattle.pygrammar.specs.Looks.{is_op}
use Rattle.pygrammar.specs.PatternGrammar as P
use Rattle.pygrammar.specs.PatternOperators.{below_pattern}
use Rattle.pyparse_nodes.specs.declared.stop.Stop.{Stop}
use Rattle.pyparse_nodes.specs.Views.{Stands, first_is, seen}
use Rattle.pyparse_pattern.specs.declared.found.Patterns.{Patterns}
use Rattle.pyparse_pattern.specs.declared.found.ReadPattern.{ReadPattern}
use Rattle.pyparse_pattern.specs.Inner.Made.{MakesPattern}
use Rattle.pyparse_pattern.specs.Inner.PlacedParts.{BracketedPlaced, ElementsPlaced, GroupedPlaced}
use Rattle.pyplaces.specs.Stretches.{Stretch, stretch}
use Rattle.pyplaces.specs.PatternPlaces as E
use Rattle.pyplaces.specs.PatternPlaces.{pattern_places}
use Rattle.pyplaces.specs.PlacedPatterns.{PlacedPattern}
use Rattle.pyplaces.specs.Rests.{Lacks}
use Rattle.pyplaces.proofs.Answers.{records_more, records_node}
use Rattle.pyplaces.proofs.Patterns.Levels.{placed_empty_sequence, placed_open_sequence, placed_pattern_group, placed_pattern_next}
use Rattle.pyplaces.proofs.Patterns.Levels.{placed_round_sequence, placed_square_sequence}
use Rattle.pyparse_reads.proofs.Callers.Looks.{no_op, placed_at}
use Rattle.pyparse_pattern.proofs.Arranged.{alone_elements}
use Rattle.pyparse_pattern.proofs.SequenceSteps.{whole}
use Rattle.pyparse_pattern.proofs.Recorders.Made.{Whole, whole_is, whole_made}

-- ---- A pattern of star_pattern that begins with no star is one of as_pattern.

of_level : {l : PatternLevel} {ts : List Terminal} {p : Pattern} (at : ℕ) (d : P.DerivesPattern l ts p) → l ≡ level.AsPattern
    → (k : P.DerivesPattern level.AsPattern ts p) × (pattern_places at k ≡ pattern_places at d)
of_level {l} {ts} {p} at d h =
    subst (λ m. (x : P.DerivesPattern m ts p) → (k : P.DerivesPattern level.AsPattern ts p) × (pattern_places at k ≡ pattern_places at x))
    (sym h) (λ x. (x, refl)) d

unstarred_of : {l : PatternLevel} {ts : List Terminal} {p : Pattern} (at : ℕ) (d : P.DerivesPattern l ts p) (r : List Terminal)
    → l ≡ level.StarPattern → Lacks (Op Star) (ts ++ r)
    → (k : P.DerivesPattern level.AsPattern ts p) × (pattern_places at k ≡ pattern_places at d)
unstarred_of at (P.next p) r h f = of_level at p (ap below_pattern h)
unstarred_of at P.star r h f = absurd (f _ refl)
unstarred_of at _ r h f = absurd (cc)

pub unstarred : {i r : List Terminal} {at following : ℕ} {p : Pattern} {ps : List Stretch}
    → PlacedPattern level.StarPattern i at p r following ps → None ≡ first_is (is_op Star) i
    → PlacedPattern level.AsPattern i at p r following ps
unstarred {r = r} {at = at} d n =
    let g = unstarred_of at d.derived r refl (subst (λ z. Lacks (Op Star) z) d.is (no_op Star n)) in
    record { front = d.front; is = d.is; ends = d.ends; derived = g.0; places_are = g.1 ∙ d.places_are }

module _ {S : Type 0} (after : S → Stretch → S) (u v : S) (ts : List given.Terminal) where
  -- ---- Without brackets.
  pub open_placed : {w x : S} (at room : ℕ) (first : ReadPattern) (ps : Patterns) (z : Result ReadPattern Stop)
      → Whole after ts level.StarPattern (seen ts at) at u w first → Stands (Op Comma) ts first.next
      → ElementsPlaced after ts (first.next + 1) (pattern_of first.pattern.value ∷ []) ps w x → v ≡ after x (stretch at ps.next)
      → MakesPattern room (MatchSequence (patterns (map pattern_of ps.items.items))) ps.next z
      → IfOk z (Whole after ts level.Patterns (seen ts at) at u v)
  open_placed at room first ps z h s o d m =
      whole_made after u v ts level.Patterns (seen ts at) at room (MatchSequence (patterns (map pattern_of ps.items.items))) ps.next z m
      (subst (λ q. PlacedPattern level.Patterns (seen ts at) at (MatchSequence q) (seen ts ps.next) ps.next
      (h.0 ++ (E.alone o.places ++ (stretch at ps.next ∷ []))))
      (sym (whole (pattern_of first.pattern.value) (map pattern_of ps.items.items) o.entries o.gives))
      (placed_open_sequence h.1 s.is o.listing)) (records_more h.2 (records_more o.records (records_node d)))

  pub alone_placed : (at : ℕ) (first : ReadPattern) → Whole after ts level.StarPattern (seen ts at) at u v first
      → None ≡ first_is (is_op Star) (seen ts at) → Whole after ts level.Patterns (seen ts at) at u v first
  alone_placed at first h n = (h.0, placed_pattern_next (unstarred h.1 n), h.2)

  -- ---- In brackets.
  pub bracketed_placed : (sign : Exact) (begin room : ℕ) (ps : Patterns) (z : Result ReadPattern Stop) → Stands (Op sign) ts ps.next
      → v ≡ after u (stretch begin (ps.next + 1))
      → MakesPattern room (MatchSequence (patterns (map pattern_of ps.items.items))) (ps.next + 1) z
      → IfOk z (λ r. BracketedPlaced after ts sign begin ps r u v)
  bracketed_placed sign begin room ps (Ok r) s d m =
      record { stands = s; tree = m.pattern; next_is = m.next_is; records = records_node d }
  bracketed_placed sign begin room ps (Err e) s d m = tt

  pub empty_placed : (begin at room : ℕ) (xs : List Pattern) (z : Result ReadPattern Stop) → at ≡ begin + 1 → Stands (Op RPar) ts at
      → xs ≡ [] → v ≡ after u (stretch begin (at + 1)) → MakesPattern room (MatchSequence (patterns xs)) (at + 1) z
      → IfOk z (Whole after ts level.ClosedPattern (Op LPar ∷ seen ts at) begin u v)
  empty_placed begin at room xs z q s n d m =
      let p : PlacedPattern level.ClosedPattern (Op LPar ∷ seen ts at) begin (MatchSequence no_pattern) (seen ts (at + 1)) (at + 1)
      (stretch begin (at + 1) ∷ []) =
      subst (λ k. PlacedPattern level.ClosedPattern (Op LPar ∷ seen ts at) begin (MatchSequence no_pattern) (seen ts (at + 1)) (k + 1)
      (stretch begin (k + 1) ∷ [])) (sym q) (placed_empty_sequence refl s.is) in
      whole_made after u v ts level.ClosedPattern (Op LPar ∷ seen ts at) begin room (MatchSequence (patterns xs)) (at + 1) z m
      (subst (λ l. PlacedPattern level.ClosedPattern (Op LPar ∷ seen ts at) begin (MatchSequence (patterns l)) (seen ts (at + 1)) (at + 1)
      (stretch begin (at + 1) ∷ [])) (sym n) p) (records_node d)

  pub group_placed : (begin at : ℕ) (first : ReadPattern) (z : Result ReadPattern Stop) → at ≡ begin + 1
      → Whole after ts level.StarPattern (seen ts at) at u v first → None ≡ first_is (is_op Star) (seen ts at)
      → IfOk z (λ r. GroupedPlaced ts first r) → IfOk z (Whole after ts level.ClosedPattern (Op LPar ∷ seen ts at) begin u v)
  group_placed begin at first (Ok r) q h n g =
      whole_is after u v ts level.ClosedPattern (Op LPar ∷ seen ts at) begin (pattern_of first.pattern.value) (first.next + 1) r g.same
      g.next_is (placed_pattern_group refl (placed_at q (unstarred h.1 n)) g.stands.is) h.2
  group_placed begin at first (Err e) q h n g = tt

  pub round_placed : {w x : S} (begin at : ℕ) (first : ReadPattern) (ps : Patterns) (z : Result ReadPattern Stop) → at ≡ begin + 1
      → Whole after ts level.StarPattern (seen ts at) at u w first → Stands (Op Comma) ts first.next
      → ElementsPlaced after ts (first.next + 1) (pattern_of first.pattern.value ∷ []) ps w x
      → IfOk z (λ r. BracketedPlaced after ts RPar begin ps r x v)
      → IfOk z (Whole after ts level.ClosedPattern (Op LPar ∷ seen ts at) begin u v)
  round_placed begin at first ps (Ok r) q h s o b =
      whole_is after u v ts level.ClosedPattern (Op LPar ∷ seen ts at) begin (MatchSequence (patterns (map pattern_of ps.items.items)))
      (ps.next + 1) r b.tree b.next_is (subst (λ l. PlacedPattern level.ClosedPattern (Op LPar ∷ seen ts at) begin (MatchSequence l)
      (seen ts (ps.next + 1)) (ps.next + 1) (h.0 ++ (E.alone o.places ++ (stretch begin (ps.next + 1) ∷ []))))
      (sym (whole (pattern_of first.pattern.value) (map pattern_of ps.items.items) o.entries o.gives))
      (placed_round_sequence refl (placed_at q h.1) s.is o.listing b.stands.is)) (records_more h.2 (records_more o.records b.records))
  round_placed begin at first ps (Err e) q h s o b = tt

  pub square_placed : {x : S} (begin at : ℕ) (ps : Patterns) (z : Result ReadPattern Stop) → at ≡ begin + 1
      → ElementsPlaced after ts at [] ps u x → IfOk z (λ r. BracketedPlaced after ts RSqb begin ps r x v)
      → IfOk z (Whole after ts level.ClosedPattern (Op LSqb ∷ seen ts at) begin u v)
  square_placed begin at ps (Ok r) q o b =
      whole_is after u v ts level.ClosedPattern (Op LSqb ∷ seen ts at) begin (MatchSequence (patterns (map pattern_of ps.items.items)))
      (ps.next + 1) r b.tree b.next_is (subst (λ l. PlacedPattern level.ClosedPattern (Op LSqb ∷ seen ts at) begin (MatchSequence l)
      (seen ts (ps.next + 1)) (ps.next + 1) (E.alone o.places ++ (stretch begin (ps.next + 1) ∷ [])))
      (sym (ap patterns o.gives ∙ alone_elements o.entries)) (placed_square_sequence refl (placed_at q o.listing) b.stands.is))
      (records_more o.records b.records)
  square_placed begin at ps (Err e) q o b = tt
