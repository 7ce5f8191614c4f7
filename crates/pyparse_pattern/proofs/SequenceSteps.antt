-- Sequences: open, and in round and square brackets.
--
-- Carries: read_patterns, round, square. On: PatternReader.
use Rattle.std.proofs.Common.{◌≡◌, refl, sym, ap, ◌∙◌, arith, ℕ, ◌+◌, ◌-◌, ◌≤◌, List, [], ◌∷◌, ◌++◌, map, None, Result, Ok, Err}
use Rattle.pylex_lexeme.specs.declared.kinds.Exact.TheVariants.{Comma, RPar, RSqb}
use Rattle.pytree_node.specs.Trees.{Pattern, MatchSequence, a_pattern, patterns}
use Rattle.pytree_node.specs.TreeOf.{pattern_of}
use Rattle.pytoken.specs.Terminals.{Terminal, Op}
use Rattle.pytoken.specs.declared.values.terminals.Terminal as given
use Rattle.pygrammar.specs.declared.pattern_levels.PatternLevel.TheVariants as level
use Rattle.pygrammar.specs.Looks.{is_op}
use Rattle.pygrammar.specs.PatternEntries.{PatternEntry, Element, elements}
use Rattle.pygrammar.specs.PatternReader.{cap_pattern}
use Rattle.pygrammar.specs.Reader.{Answer, Found, and_then, closed, on_first, unstarred}
use Rattle.pyparse_nodes.specs.declared.stop.Stop.{Stop}
use Rattle.pyparse_nodes.specs.Views.{Stands, first_is, seen}
use Rattle.pyparse_reads.specs.declared.depth.Depth.{Depth}
use Rattle.pyparse_reads.proofs.Callers.Looks.{first_miss}
use Rattle.pyparse_pattern.specs.declared.found.Patterns.{Patterns}
use Rattle.pyparse_pattern.specs.declared.found.ReadPattern.{ReadPattern}
use Rattle.pyparse_pattern.specs.Answers.{PatternAnswered, PatternAt}
use Rattle.pyparse_pattern.specs.Inner.Found.{ElementsAt}
use Rattle.pyparse_pattern.specs.Inner.Made.{MakesPattern}
use Rattle.pyparse_pattern.specs.Inner.Readings.{entries_of, field_reads, inner_reads, level_reads, patterns_from, round_reads, same_reads}
use Rattle.pyparse_pattern.specs.Inner.Readings.{square_reads}
use Rattle.pyparse_pattern.specs.Inner.Entries.{alone_in}
use Rattle.pyparse_pattern.proofs.Arranged.{alone_elements}
use Rattle.pyparse_pattern.proofs.LevelSteps.{node}

-- the same answer, from an earlier place on
pub earlier : (ts : List given.Terminal) (room least next : ℕ) (x : Answer Pattern) (z : Result ReadPattern Stop) → least ≤ next
    → PatternAnswered ts room next x z → PatternAnswered ts room least x z
earlier ts room least next x (Ok r) le h = record { ahead = omega (arith, le, h.ahead); within = h.within; low = h.low; is = h.is }
earlier ts room least next x (Err s) le h = h

-- a first pattern and the others
pub whole : (p : Pattern) (ps : List Pattern) (es : List PatternEntry) → ps ≡ p ∷ alone_in es → patterns ps ≡ a_pattern p (elements es)
whole p ps es h = ap patterns h ∙ ap (λ qs. a_pattern p qs) (alone_elements es)

module _ (ts : List given.Terminal) (d : Depth) (at : ℕ) where
  abbrev following_first : Pattern → List Terminal → Answer Pattern
  following_first = patterns_from d.room (d.room - 1) (field_reads d) (inner_reads d) (same_reads d) (seen ts at)

  -- after the first pattern of round brackets
  abbrev round_from : Pattern → List Terminal → Answer Pattern
  round_from p r = on_first (is_op Comma) r
      (λ _ r1. and_then (entries_of d Element r1) (λ es r2. closed RPar r2 (MatchSequence (a_pattern p (elements es)))))
      (unstarred (seen ts at) (closed RPar r p))

  module _ (first : ReadPattern) (comma : Stands (Op Comma) ts first.next) (ps : Patterns)
      (others : ElementsAt ts (first.next + 1) (pattern_of first.pattern.value ∷ [])
      (entries_of d Element (seen ts (first.next + 1))) ps) where
    whole_is : a_pattern (pattern_of first.pattern.value) (elements others.entries) ≡ patterns (map pattern_of ps.items.items)
    whole_is = sym (whole (pattern_of first.pattern.value) (map pattern_of ps.items.items) others.entries others.gives)

    pub open_sequence : (z : Result ReadPattern Stop) → PatternAt ts d.room (at + 1) (level_reads d level.StarPattern (seen ts at)) first
        → MakesPattern d.room (MatchSequence (patterns (map pattern_of ps.items.items))) ps.next z
        → PatternAnswered ts d.room (at + 1) (level_reads d level.Patterns (seen ts at)) z
    open_sequence z f m =
        let hit : List PatternEntry → List Terminal → Answer Pattern =
        λ es r. cap_pattern d.room (Found (MatchSequence (a_pattern (pattern_of first.pattern.value) (elements es))) r) in
        let e : following_first (pattern_of first.pattern.value) (seen ts first.next) ≡ and_then
        (entries_of d Element (seen ts (first.next + 1))) hit = rw comma.is refl in
        let g : level_reads d level.Patterns (seen ts at) ≡ cap_pattern d.room
        (Found (MatchSequence (patterns (map pattern_of ps.items.items))) (seen ts ps.next)) = ap (λ x. and_then x (following_first)) f.is
        ∙ e ∙ ap (λ x. and_then x hit) others.is
        ∙ ap (λ qs. cap_pattern d.room (Found (MatchSequence qs) (seen ts ps.next))) whole_is in
        rw g (node ts d.room (at + 1) (MatchSequence (patterns (map pattern_of ps.items.items))) ps.next
        (omega (arith, f.ahead, others.ahead)) others.within z m)

    pub round_sequence : (z : Result ReadPattern Stop) → None ≡ first_is (is_op RPar) (seen ts at)
        → PatternAt ts d.room (at + 1) (same_reads d level.StarPattern (seen ts at)) first
        → PatternAnswered ts d.room ps.next
        (cap_pattern d.room (closed RPar (seen ts ps.next) (MatchSequence (patterns (map pattern_of ps.items.items))))) z
        → PatternAnswered ts d.room at (cap_pattern d.room (round_reads d (seen ts at))) z
    round_sequence z n f a =
        let hit : List PatternEntry → List Terminal → Answer Pattern =
        λ es r. closed RPar r (MatchSequence (a_pattern (pattern_of first.pattern.value) (elements es))) in
        let e : round_from (pattern_of first.pattern.value) (seen ts first.next) ≡ and_then
        (entries_of d Element (seen ts (first.next + 1))) hit = rw comma.is refl in
        let g : round_reads d (seen ts at) ≡ closed RPar (seen ts ps.next) (MatchSequence (patterns (map pattern_of ps.items.items))) =
        first_miss (is_op RPar) (seen ts at) _ (and_then (same_reads d level.StarPattern (seen ts at)) round_from) n
        ∙ ap (λ x. and_then x round_from) f.is ∙ e ∙ ap (λ x. and_then x hit) others.is
        ∙ ap (λ qs. closed RPar (seen ts ps.next) (MatchSequence qs)) whole_is in
        rw g (earlier ts d.room at ps.next _ z (omega (arith, f.ahead, others.ahead)) a)

  pub square_sequence : (before : List Pattern) (n : ℕ) (ps : Patterns) (z : Result ReadPattern Stop) → before ≡ [] → n ≡ at
      → ElementsAt ts n before (entries_of d Element (seen ts n)) ps
      → PatternAnswered ts d.room ps.next
      (cap_pattern d.room (closed RSqb (seen ts ps.next) (MatchSequence (patterns (map pattern_of ps.items.items))))) z
      → PatternAnswered ts d.room at (cap_pattern d.room (square_reads d (seen ts at))) z
  square_sequence before n ps z b q others a =
      let hit : List PatternEntry → List Terminal → Answer Pattern = λ es r. closed RSqb r (MatchSequence (elements es)) in
      let w : elements others.entries ≡ patterns (map pattern_of ps.items.items) = sym (alone_elements others.entries)
      ∙ ap patterns (sym (others.gives ∙ ap (λ l. l ++ alone_in others.entries) b)) in
      let g : square_reads d (seen ts at) ≡ closed RSqb (seen ts ps.next) (MatchSequence (patterns (map pattern_of ps.items.items))) =
      ap (λ k. square_reads d (seen ts k)) (sym q) ∙ ap (λ x. and_then x hit) others.is
      ∙ ap (λ qs. closed RSqb (seen ts ps.next) (MatchSequence qs)) w in
      rw g (earlier ts d.room at ps.next _ z (omega (arith, q, others.ahead)) a)
