-- The reader of patterns finds each pattern that the table gives, in room for its height.
--
-- Carries: complete, complete_alone, complete_limited. On: Ends, ReadLevels, ReadEntries, ReadBrackets.
use Rattle.std.proofs.Common.{◌≡◌, sym, ap, ◌∙◌, ℕ, suc, ◌+◌, ◌≤◌, ◌<◌, arith, List, [], ◌++◌, length, append-nil}
use Rattle.pygrammar.specs.declared.pattern_levels.PatternLevel.{PatternLevel}
use Rattle.pygrammar.specs.declared.pattern_levels.PatternLevel.TheVariants.{StarPattern}
use Rattle.pytree_node.specs.Trees.{Pattern}
use Rattle.pytoken.specs.Terminals.{Terminal}
use Rattle.pytree_height.specs.Heights.{pattern_height}
use Rattle.pygrammar.specs.Reader.{Found}
use Rattle.pygrammar.specs.PatternEntries.{PatternItem, PatternEntry}
use Rattle.pygrammar.specs.PatternGrammar as P
use Rattle.pygrammar.specs.PatternReader.{capped_pattern, limited_pattern}
use Rattle.pygrammar.proofs.Pattern.Ends.{EndsPattern, end_of_pattern, begun, entry_begun}
use Rattle.pygrammar.proofs.Pattern.ReadLevels.{FindsPattern, next_finds, literal_finds, singleton_finds, capture_finds, value_finds}
use Rattle.pygrammar.proofs.Pattern.ReadLevels.{star_finds, as_name_finds}
use Rattle.pygrammar.proofs.Pattern.ReadEntries.{EntryFinds, element_finds, key_pattern_finds, rest_finds, argument_finds, named_finds}
use Rattle.pygrammar.proofs.Pattern.ReadEntries.{ListingFinds, no_entry_finds, last_entry_finds, entry_finds, AlternativesFind}
use Rattle.pygrammar.proofs.Pattern.ReadEntries.{last_alternative_finds, alternative_finds}
use Rattle.pygrammar.proofs.Pattern.ReadBrackets.{alternatives_finds, open_sequence_finds, group_finds, empty_sequence_finds}
use Rattle.pygrammar.proofs.Pattern.ReadBrackets.{round_sequence_finds, square_sequence_finds, mapping_finds, class_pattern_finds}

mutual
  finds : {l : PatternLevel} {ts : List Terminal} {p : Pattern} → P.DerivesPattern l ts p → FindsPattern l ts p
  finds (P.next {l = l} {ts = ts} {p = p} q) = next_finds l ts p (begun q) (finds q)
  finds (P.open_sequence {ts = ts} {us = us} {p = p} {es = es} q c) = open_sequence_finds ts us p es (finds q) c (listing_finds c)
  finds (P.star {x = x}) = star_finds x
  finds (P.as_name {ts = ts} {p = p} {q = q} x c h) = as_name_finds ts p q x (finds c) h
  finds (P.alternatives {ts = ts} {us = us} {p = p} {ps = ps} q c) = alternatives_finds ts us p ps (finds q) (alternatives_find c)
  finds (P.literal q) = literal_finds q
  finds (P.singleton {t = t} {v = v} h) = singleton_finds t v h
  finds (P.capture {x = x}) = capture_finds x
  finds (P.value {ts = ts} {e = e} x (P.class_name q h)) = value_finds ts e x (P.class_name (P.dot_name x q) h)
  finds (P.group {ts = ts} {p = p} q) = group_finds ts p (begun q) (next_finds StarPattern ts p (begun q) (finds q))
  finds P.empty_sequence = empty_sequence_finds
  finds (P.round_sequence {ts = ts} {us = us} {p = p} {es = es} q c) =
      round_sequence_finds ts us p es (begun q) (finds q) c (listing_finds c)
  finds (P.square_sequence {ts = ts} {es = es} c) = square_sequence_finds ts es c (listing_finds c)
  finds (P.mapping {ts = ts} {es = es} {p = p} c h) = mapping_finds ts es p c h (listing_finds c)
  finds (P.class_pattern {ts = ts} {us = us} {e = e} {es = es} {p = p} q c h) = class_pattern_finds ts us e es p q c h (listing_finds c)

  alternatives_find : {us : List Terminal} {ps : List Pattern} → P.Alternatives us ps → AlternativesFind us ps
  alternatives_find (P.last_alternative {ts = ts} {p = p} q) = last_alternative_finds ts p (finds q)
  alternatives_find (P.alternative {ts = ts} {us = us} {p = p} {ps = ps} q c) = alternative_finds ts us p ps (finds q) (alternatives_find c)

  listing_finds : {i : PatternItem} {us : List Terminal} {es : List PatternEntry} → P.PatternListing i us es → ListingFinds i us es
  listing_finds (P.no_entry {i = i}) = no_entry_finds i
  listing_finds (P.last_entry {i = i} {ts = ts} {e = e} q) = last_entry_finds i ts e (entry_begun q) (piece_finds q)
  listing_finds (P.entry {i = i} {ts = ts} {us = us} {e = e} {es = es} q c) =
      entry_finds i ts us e es (entry_begun q) (piece_finds q) (listing_finds c)

  piece_finds : {i : PatternItem} {ts : List Terminal} {e : PatternEntry} → P.PatternPiece i ts e → EntryFinds i ts e
  piece_finds (P.element {ts = ts} {p = p} q) = element_finds ts p (finds q)
  piece_finds (P.key_pattern {ts = ts} {us = us} {k = k} {p = p} c q) = key_pattern_finds ts us k p c (finds q)
  piece_finds (P.rest {x = x} h) = rest_finds x h
  piece_finds (P.argument {ts = ts} {p = p} q) = argument_finds ts p (begun q) (finds q)
  piece_finds (P.named_argument {x = x} {ts = ts} {p = p} q) = named_finds x ts p (finds q)

-- the law
pub complete : {l : PatternLevel} {ts : List Terminal} {p : Pattern} → P.DerivesPattern l ts p → (g d : ℕ) (r : List Terminal)
    → length ts + length r < g → pattern_height p ≤ d → EndsPattern l r → capped_pattern g d l (ts ++ r) ≡ Found p r
complete q g d r w h e = finds q g d r w h e

-- where nothing follows
pub complete_alone : {l : PatternLevel} {ts : List Terminal} {p : Pattern} → P.DerivesPattern l ts p → (g d : ℕ) → length ts < g
    → pattern_height p ≤ d → capped_pattern g d l ts ≡ Found p []
complete_alone {l} {ts} {p} q g d w h = ap (capped_pattern g d l) (sym (append-nil ts))
    ∙ complete q g d [] (omega (arith, w)) h (end_of_pattern l)

pub complete_limited : {l : PatternLevel} {ts : List Terminal} {p : Pattern} → P.DerivesPattern l ts p → (d : ℕ) → pattern_height p ≤ d
    → limited_pattern d l ts ≡ Found p []
complete_limited {l} {ts} {p} q d h = complete_alone q (suc (length ts)) d (omega arith) h
