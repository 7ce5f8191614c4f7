-- The reader of patterns at a depth, level by level, as the program's functions read it.
use Rattle.std.specs.Prelude.{ℕ, ◌-◌, List, [], ◌∷◌, cond, length}
use Rattle.pylex_lexeme.specs.declared.kinds.Exact.TheVariants.{LPar, RBrace, RPar, Star, VBar}
use Rattle.pytoken.specs.declared.keywords.Keyword.TheVariants as Key
use Rattle.pytree_node.specs.Trees.{Expr, Identifier, Pattern, MatchOr, MatchSequence, MatchValue, a_pattern, patterns}
use Rattle.pytoken.specs.Terminals.{Terminal}
use Rattle.pygrammar.specs.declared.pattern_levels.PatternLevel.TheVariants as level
use Rattle.pygrammar.specs.Capped.{capped}
use Rattle.pygrammar.specs.Looks.{is_op, is_word, name_in}
use Rattle.pygrammar.specs.PatternEntries.{PatternEntry, PatternItem, Rest, as_named, class_of, elements, mapped}
use Rattle.pygrammar.specs.PatternOperators.{is_wildcard}
use Rattle.pygrammar.specs.PatternReader as reader
use Rattle.pygrammar.specs.PatternReader.{PatternReads, cap_pattern, capped_pattern}
use Rattle.pygrammar.specs.Reader.{Answer, Found, NoForm, Reads, and_then, made, on_first, unstarred}
use Rattle.pyparse_reads.specs.declared.depth.Depth.{Depth}

-- with the steps and the room of the parts of a pattern; and with those of the same one within brackets
abbrev pub inner_reads : Depth → PatternReads
inner_reads d = capped_pattern (d.steps - 1) (d.room - 1)

abbrev pub same_reads : Depth → PatternReads
same_reads d = capped_pattern (d.steps - 1) d.room

-- the expressions in the fields of f-strings, with those of the parts
abbrev pub field_reads : Depth → Reads
field_reads d = capped (d.steps - 1) (d.room - 1)

-- after the entries of a mapping, and of a class
abbrev pub mapping_from : List PatternEntry → List Terminal → Answer Pattern
mapping_from es r = on_first (is_op RBrace) r (λ _ r1. made (mapped es) r1) NoForm

abbrev pub class_from : Expr → List PatternEntry → List Terminal → Answer Pattern
class_from e es r = on_first (is_op RPar) r (λ _ r1. made (class_of e es) r1) NoForm

-- after a `**`
abbrev pub rest_reads : List Terminal → Answer PatternEntry
rest_reads i = on_first name_in i (λ x r. cond (is_wildcard x) NoForm (Found (Rest x) r)) NoForm

-- the parts of the grammar's reader, at a depth
module _ (d : Depth) where
  abbrev pub entry_reads : PatternItem → List Terminal → Answer PatternEntry
  entry_reads i r = reader.read_entry (d.room - 1) (field_reads d) (inner_reads d) i r

  abbrev pub entries_of : PatternItem → List Terminal → Answer (List PatternEntry)
  entries_of i r = reader.entries_of (d.room - 1) (field_reads d) (inner_reads d) i r

  abbrev pub alternatives_of : List Terminal → Answer (List Pattern)
  alternatives_of r = reader.alternatives_loop (d.room - 1) (field_reads d) (inner_reads d) (length r) [] r

  abbrev pub round_reads : List Terminal → Answer Pattern
  round_reads i = reader.round_pattern (d.room - 1) (field_reads d) (inner_reads d) (same_reads d) i

  abbrev pub square_reads : List Terminal → Answer Pattern
  square_reads i = reader.square_pattern (d.room - 1) (field_reads d) (inner_reads d) i

  abbrev pub mapping_reads : List Terminal → Answer Pattern
  mapping_reads i = reader.mapping_pattern (d.room - 1) (field_reads d) (inner_reads d) i

  abbrev pub class_reads : Expr → List Terminal → Answer Pattern
  class_reads e i = reader.class_arguments (d.room - 1) (field_reads d) (inner_reads d) e i

  abbrev pub name_reads : Identifier → List Terminal → Answer Pattern
  name_reads x i = reader.name_pattern (d.room - 1) (field_reads d) (inner_reads d) x i

  abbrev pub literal_reads : List Terminal → Answer Pattern
  literal_reads i = reader.literal_pattern (d.room - 1) (field_reads d) (inner_reads d) i

  abbrev pub star_name : List Terminal → Answer Pattern
  star_name i = reader.star_pattern (d.room - 1) (field_reads d) (inner_reads d) i

  -- after a name with points: a class pattern or a value
  abbrev pub qualified : Expr → List Terminal → Answer Pattern
  qualified e r = on_first (is_op LPar) r (λ _ r1. class_reads e r1) (Found (MatchValue e) r)

-- after a pattern of or_pattern
abbrev pub as_from : ℕ → Pattern → List Terminal → Answer Pattern
as_from room p r = on_first (is_word Key.As) r (λ _ r1. on_first name_in r1 (λ x r2. cap_pattern room (made (as_named p x) r2)) NoForm)
    (Found p r)

-- the levels, each over the one below: a pattern may be as high as `room`, what stands in it as `below`
module _ (room below : ℕ) (self : Reads) (inner same : PatternReads) where
  abbrev pub closed_at : List Terminal → Answer Pattern
  closed_at i = cap_pattern room (reader.closed_pattern below self inner same i)

  abbrev pub or_at : List Terminal → Answer Pattern
  or_at i = and_then (closed_at i)
      (λ p r. on_first (is_op VBar) r (λ _ _. and_then (reader.alternatives_loop below self inner (length r) [] r)
      (λ ps r1. cap_pattern room (Found (MatchOr (patterns (p ∷ ps))) r1))) (Found p r))

  abbrev pub as_at : List Terminal → Answer Pattern
  as_at i = and_then (or_at i) (as_from room)

  abbrev pub star_at : List Terminal → Answer Pattern
  star_at i = on_first (is_op Star) i (λ _ r. reader.star_pattern below self inner r) (as_at i)

  abbrev pub patterns_from : List Terminal → Pattern → List Terminal → Answer Pattern
  patterns_from i p r =
      reader.sequence_or below self inner p r (λ es r1. cap_pattern room (Found (MatchSequence (a_pattern p (elements es))) r1))
      (unstarred i (Found p r))

  abbrev pub patterns_at : List Terminal → Answer Pattern
  patterns_at i = and_then (star_at i) (patterns_from i)

  abbrev pub level_at : PatternReads
  level_at level.Patterns i = patterns_at i
  level_at level.StarPattern i = star_at i
  level_at level.AsPattern i = as_at i
  level_at level.OrPattern i = or_at i
  level_at level.ClosedPattern i = closed_at i

-- a level, where there are steps and room
abbrev pub level_reads : Depth → PatternReads
level_reads d l i = level_at d.room (d.room - 1) (field_reads d) (inner_reads d) (same_reads d) l i
