-- The places of a pattern, by recursion on its derivation.
use Rattle.std.specs.Prelude.{ℕ, ◌+◌, List, [], ◌∷◌, ◌++◌, length}
use Rattle.pytree_node.specs.Values.{Value}
use Rattle.pytree_node.specs.Trees.{Expr, Identifier, Pattern}
use Rattle.pytoken.specs.Terminals.{Terminal}
use Rattle.pygrammar.specs.declared.pattern_levels.PatternLevel.{PatternLevel}
use Rattle.pygrammar.specs.FormattedStrings.{merged}
use Rattle.pygrammar.specs.PatternEntries.{PatternItem, PatternEntry}
use Rattle.pygrammar.specs.PatternGrammar as P
use Rattle.pyplaces.specs.Stretches.{Stretch, stretch, over}
use Rattle.pyplaces.specs.ExpressionPlaces.{string_places, literals_places}

-- ---- Values.

abbrev pub signed_places : {v : Value} {ts : List Terminal} {e : Expr} → ℕ → P.SignedNumber v ts e → List Stretch
signed_places at P.unsigned = over at 1
signed_places at P.negative = over (1 + at) 1 ++ over at 2

abbrev pub literal_places : {ts : List Terminal} {e : Expr} → ℕ → P.LiteralOf ts e → List Stretch
literal_places at (P.number p) = signed_places at p
literal_places at (P.complex {ts = ts} t p h o i) = signed_places at p ++ (over (1 + (at + length ts)) 1 ++ over at (2 + length ts))
literal_places at (P.strings vs h) = over at (1 + length vs)
literal_places at (P.joined_string {ts = ts} {ps = ps} c b h) =
    let row = stretch at (at + length ts) in
    string_places row (merged ps) (literals_places row at c) ++ (row ∷ [])

abbrev pub dotted_places : {f : Identifier} {ts : List Terminal} {e : Expr} → ℕ → P.Dotted f ts e → List Stretch
dotted_places at P.first_name = over at 1
dotted_places at (P.dot_name {ts = ts} x p) = dotted_places at p ++ over at (2 + length ts)

abbrev pub class_places : {ts : List Terminal} {e : Expr} → ℕ → P.ClassOf ts e → List Stretch
class_places at (P.class_name p h) = dotted_places at p

abbrev pub key_places : {ts : List Terminal} {e : Expr} → ℕ → P.KeyOf ts e → List Stretch
key_places at (P.literal_key p) = literal_places at p
key_places at (P.singleton_key h) = over at 1
key_places at (P.name_key {ts = ts} x p) = dotted_places at p ++ over at (2 + length ts)

-- ---- Patterns.

-- the places in what stands between commas
pub data EntryPlaces : Type 0 where
  Alone : List Stretch → EntryPlaces
  Keyed : List Stretch → List Stretch → EntryPlaces
  Rest : EntryPlaces
  Named : List Stretch → EntryPlaces

abbrev pub alone : List EntryPlaces → List Stretch
alone [] = []
alone (Alone ps ∷ es) = ps ++ alone es
alone (_ ∷ es) = alone es

-- all keys of a MatchMapping come before all patterns
abbrev pub pattern_keys : List EntryPlaces → List Stretch
pattern_keys [] = []
pattern_keys (Keyed ks ps ∷ es) = ks ++ pattern_keys es
pattern_keys (_ ∷ es) = pattern_keys es

abbrev pub key_patterns : List EntryPlaces → List Stretch
key_patterns [] = []
key_patterns (Keyed ks ps ∷ es) = ps ++ key_patterns es
key_patterns (_ ∷ es) = key_patterns es

abbrev pub named : List EntryPlaces → List Stretch
named [] = []
named (Named ps ∷ es) = ps ++ named es
named (_ ∷ es) = named es

abbrev mutual
  pub pattern_places : {l : PatternLevel} {ts : List Terminal} {p : Pattern} → ℕ → P.DerivesPattern l ts p → List Stretch
  pattern_places at (P.next p) = pattern_places at p
  pattern_places at (P.open_sequence {ts = ts} {us = us} p c) =
      pattern_places at p ++ (alone (entries_places (1 + (at + length ts)) c) ++ over at (1 + (length ts + length us)))
  pattern_places at P.star = over at 2
  pattern_places at (P.as_name {ts = ts} x p h) = pattern_places at p ++ over at (2 + length ts)
  pattern_places at (P.alternatives {ts = ts} {us = us} p c) =
      pattern_places at p ++ (alternatives_places (1 + (at + length ts)) c ++ over at (1 + (length ts + length us)))
  pattern_places at (P.literal {ts = ts} p) = literal_places at p ++ over at (length ts)
  pattern_places at (P.singleton h) = over at 1
  pattern_places at P.capture = over at 1
  -- the Attribute, and the MatchValue of it
  pattern_places at (P.value {ts = ts} x p) = class_places at p ++ (over at (2 + length ts) ++ over at (2 + length ts))
  -- no node of its own
  pattern_places at (P.group p) = pattern_places (1 + at) p
  pattern_places at P.empty_sequence = over at 2
  pattern_places at (P.round_sequence {ts = ts} {us = us} p c) =
      pattern_places (1 + at) p ++ (alone (entries_places (2 + (at + length ts)) c) ++ over at (3 + (length ts + length us)))
  pattern_places at (P.square_sequence {ts = ts} c) = alone (entries_places (1 + at) c) ++ over at (2 + length ts)
  pattern_places at (P.mapping {ts = ts} c h) =
      let es = entries_places (1 + at) c in
      pattern_keys es ++ (key_patterns es ++ over at (2 + length ts))
  pattern_places at (P.class_pattern {ts = ts} {us = us} p c h) =
      let es = entries_places (1 + (at + length ts)) c in
      class_places at p ++ (alone es ++ (named es ++ over at (2 + (length ts + length us))))

  pub alternatives_places : {ts : List Terminal} {ps : List Pattern} → ℕ → P.Alternatives ts ps → List Stretch
  alternatives_places at (P.last_alternative p) = pattern_places at p
  alternatives_places at (P.alternative {ts = ts} p c) = pattern_places at p ++ alternatives_places (1 + (at + length ts)) c

  pub entries_places : {i : PatternItem} {ts : List Terminal} {es : List PatternEntry} → ℕ → P.PatternListing i ts es → List EntryPlaces
  entries_places at P.no_entry = []
  entries_places at (P.last_entry p) = entry_places at p ∷ []
  entries_places at (P.entry {ts = ts} p c) = entry_places at p ∷ entries_places (1 + (at + length ts)) c

  pub entry_places : {i : PatternItem} {ts : List Terminal} {e : PatternEntry} → ℕ → P.PatternPiece i ts e → EntryPlaces
  entry_places at (P.element p) = Alone (pattern_places at p)
  entry_places at (P.key_pattern {ts = ts} k p) = Keyed (key_places at k) (pattern_places (1 + (at + length ts)) p)
  entry_places at (P.rest h) = Rest
  entry_places at (P.argument p) = Alone (pattern_places at p)
  entry_places at (P.named_argument p) = Named (pattern_places (2 + at) p)
