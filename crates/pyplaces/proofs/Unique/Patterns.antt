-- Each derivation of a pattern is a way from the question of its level to its places.
--
-- Carries: pattern_goes, for Law and lines. On: PatternForms.
use Rattle.std.proofs.Common.{arith, List}
use Rattle.pytree_node.specs.Trees.{Pattern}
use Rattle.pytoken.specs.Terminals.{Terminal}
use Rattle.pygrammar.specs.declared.pattern_levels.PatternLevel.{PatternLevel}
use Rattle.pygrammar.specs.PatternEntries.{PatternItem, PatternEntry}
use Rattle.pygrammar.specs.PatternGrammar as P
use Rattle.pyplaces.specs.PatternPlaces.{pattern_places, alternatives_places, entries_places, entry_places}
use Rattle.pyplaces.specs.Inner.Questions.{Entry}
use Rattle.pyplaces.proofs.Unique.LookLemmas.{lead_front}
use Rattle.pyplaces.proofs.Unique.Answered.{Answers}
use Rattle.pyplaces.proofs.Unique.PatternLooks.{pattern_led, key_led, entry_begun}
use Rattle.pyplaces.proofs.Unique.PatternForms.{PatternReads, next_reads, EntryStops, EntriesRead, no_entry_reads, last_entry_reads}
use Rattle.pyplaces.proofs.Unique.PatternForms.{entry_reads, star_reads, capture_reads, singleton_reads, literal_pattern_reads, value_reads}
use Rattle.pyplaces.proofs.Unique.PatternForms.{group_reads, empty_sequence_reads, round_sequence_reads, square_sequence_reads}
use Rattle.pyplaces.proofs.Unique.PatternForms.{mapping_reads, class_pattern_reads, open_sequence_reads, as_name_reads, AlternativesRead}
use Rattle.pyplaces.proofs.Unique.PatternForms.{alternatives_reads, last_alternative_reads, alternative_reads, element_reads}
use Rattle.pyplaces.proofs.Unique.PatternForms.{key_pattern_reads, rest_reads, argument_reads, named_reads}

mutual
  pub pattern_goes : {l : PatternLevel} {ts : List Terminal} {q : Pattern} (p : P.DerivesPattern l ts q)
      → PatternReads l ts (λ at. pattern_places at p)
  pattern_goes (P.next {l = l} {ts = ts} p) = next_reads l ts _ (pattern_led p) (pattern_goes p)
  pattern_goes (P.open_sequence {ts = ts} {us = us} p c) = open_sequence_reads ts us (pattern_goes p) (entries_all c)
  pattern_goes (P.star {x = x}) = star_reads x
  pattern_goes (P.as_name {ts = ts} x p h) = as_name_reads ts x (pattern_goes p)
  pattern_goes (P.alternatives {ts = ts} {us = us} p c) = alternatives_reads ts us (pattern_goes p) (alternatives_all c)
  pattern_goes (P.literal p) = literal_pattern_reads p
  pattern_goes (P.singleton {t = t} {v = v} h) = singleton_reads t v h
  pattern_goes (P.capture {x = x}) = capture_reads x
  pattern_goes (P.value {ts = ts} x (P.class_name p h)) = value_reads ts x p
  pattern_goes (P.group {ts = ts} p) = group_reads ts _ (pattern_led p) (pattern_goes p)
  pattern_goes P.empty_sequence = empty_sequence_reads
  pattern_goes (P.round_sequence {ts = ts} {us = us} p c) =
      round_sequence_reads ts us (pattern_led p) (pattern_goes p) (entries_all c)
  pattern_goes (P.square_sequence {ts = ts} c) = square_sequence_reads ts (entries_all c)
  pattern_goes (P.mapping {ts = ts} c h) = mapping_reads ts (entries_all c)
  pattern_goes (P.class_pattern {ts = ts} {us = us} (P.class_name p g) c h) = class_pattern_reads ts us p (entries_all c)

  alternatives_all : {us : List Terminal} {ps : List Pattern} (c : P.Alternatives us ps)
      → AlternativesRead us (λ at. alternatives_places at c)
  alternatives_all (P.last_alternative {ts = ts} p) = last_alternative_reads ts (pattern_goes p)
  alternatives_all (P.alternative {ts = ts} {us = us} p c) = alternative_reads ts us (pattern_goes p) (alternatives_all c)

  entries_all : {i : PatternItem} {us : List Terminal} {es : List PatternEntry} (c : P.PatternListing i us es)
      → EntriesRead i us (λ at. entries_places at c)
  entries_all (P.no_entry {i = i}) = no_entry_reads i
  entries_all (P.last_entry {i = i} {ts = ts} p) = last_entry_reads i ts (λ r. entry_begun p r) (entry_all p)
  entries_all (P.entry {i = i} {ts = ts} {us = us} p c) =
      entry_reads i ts us (λ r. entry_begun p r) (entry_all p) (entries_all c)

  entry_all : {i : PatternItem} {ts : List Terminal} {e : PatternEntry} (p : P.PatternPiece i ts e)
      → Answers (Entry i) ts (λ at. entry_places at p) (EntryStops i)
  entry_all (P.element {ts = ts} p) = element_reads ts (pattern_goes p)
  entry_all (P.key_pattern {ts = ts} {us = us} k p) =
      key_pattern_reads ts us k (λ r. lead_front ts r 20 (omega arith) (key_led k)) (pattern_goes p)
  entry_all (P.rest {x = x} h) = rest_reads x
  entry_all (P.argument {ts = ts} p) = argument_reads ts _ (pattern_goes p)
  entry_all (P.named_argument {x = x} {ts = ts} p) = named_reads x ts (pattern_goes p)
