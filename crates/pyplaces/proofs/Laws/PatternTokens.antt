-- Tokens: the places of a pattern begin and end at terminals of it.
--
-- On: Within, Tokens of expressions.
use Rattle.std.proofs.Common.{ℕ, ◌+◌, ◌<◌, ◌≤◌, arith, List, length, length-append}
use Rattle.std.proofs.lemmas.List.{length-map}
use Rattle.pytree_node.specs.Trees.{Expr, Identifier, Pattern}
use Rattle.pytree_node.specs.Values.{Value}
use Rattle.pytoken.specs.Terminals.{Terminal, Literal}
use Rattle.pygrammar.specs.declared.pattern_levels.PatternLevel.{PatternLevel}
use Rattle.pygrammar.specs.FormattedStrings.{merged}
use Rattle.pygrammar.specs.PatternEntries.{PatternItem, PatternEntry}
use Rattle.pygrammar.specs.PatternGrammar as P
use Rattle.pyplaces.specs.Stretches.{stretch}
use Rattle.pyplaces.specs.PatternPlaces.{signed_places, literal_places, dotted_places, class_places, key_places, pattern_places}
use Rattle.pyplaces.specs.PatternPlaces.{alternatives_places, entries_places, entry_places}
use Rattle.pyplaces.specs.Laws.{IsWithin}
use Rattle.pyplaces.proofs.Laws.Within.{Within, none, more, own, is_within, ◌⊕◌, strings_within, PatternEntryWithin, alone, key_pattern}
use Rattle.pyplaces.proofs.Laws.Within.{rest}
use Rattle.pyplaces.proofs.Laws.Within.{named, PatternEntriesWithin, no_element, an_element, alone_within, pattern_keys_within}
use Rattle.pyplaces.proofs.Laws.Within.{key_patterns_within, named_within}
use Rattle.pyplaces.proofs.Laws.Tokens.{tokens_literals, formatted_some, front_some}

-- ---- Values.

tokens_signed : {lo hi : ℕ} {v : Value} {ts : List Terminal} {e : Expr} (at : ℕ) (d : P.SignedNumber v ts e) → lo ≤ at → at + length ts ≤ hi
    → Within lo hi (signed_places at d)
tokens_signed at P.unsigned g h = own (omega arith) (omega arith) (omega arith)
tokens_signed at P.negative g h = own (omega arith) (omega arith) (omega arith) ⊕ own (omega arith) (omega arith) (omega arith)

-- a literal has a terminal
pub literal_some : {ts : List Terminal} {e : Expr} → P.LiteralOf ts e → 0 < length ts
literal_some (P.number P.unsigned) = omega arith
literal_some (P.number P.negative) = omega arith
literal_some (P.complex {ts = ts} t p h o i) = front_some ts _ t
literal_some (P.strings vs h) = omega arith
literal_some (P.joined_string {ts = ts} c b h) = formatted_some ts h

pub tokens_literal : {lo hi : ℕ} {ts : List Terminal} {e : Expr} (at : ℕ) (d : P.LiteralOf ts e) → lo ≤ at → at + length ts ≤ hi
    → Within lo hi (literal_places at d)
tokens_literal at (P.number p) g h = tokens_signed at p g h
tokens_literal at (P.complex {ts = ts} t p f o i) g h =
    let k = simp length-append at h in tokens_signed at p (omega arith) (omega arith) ⊕ (own (omega arith) (omega arith) (omega arith) ⊕ own
    (omega arith) (omega arith) (omega arith))
tokens_literal at (P.strings vs f) g h = let k = length-map vs Literal in own (omega arith) (omega arith) (omega arith)
tokens_literal {lo} {hi} at (P.joined_string {ts = ts} {ps = ps} c b f) g h =
    let some : 0 < length ts = formatted_some ts f in
    let row : IsWithin lo hi (stretch at (at + length ts)) = is_within (omega arith) (omega arith) (omega arith) in
    strings_within (merged ps) row (tokens_literals row at c (omega arith) (omega arith)) ⊕ more row none

tokens_dotted : {lo hi : ℕ} {f : Identifier} {ts : List Terminal} {e : Expr} (at : ℕ) (d : P.Dotted f ts e) → lo ≤ at → at + length ts ≤ hi
    → Within lo hi (dotted_places at d)
tokens_dotted at P.first_name g h = own (omega arith) (omega arith) (omega arith)
tokens_dotted at (P.dot_name x p) g h = let k = simp length-append at h in tokens_dotted at p (omega arith) (omega arith) ⊕ own
    (omega arith) (omega arith) (omega arith)

pub tokens_class : {lo hi : ℕ} {ts : List Terminal} {e : Expr} (at : ℕ) (d : P.ClassOf ts e) → lo ≤ at → at + length ts ≤ hi
    → Within lo hi (class_places at d)
tokens_class at (P.class_name p f) g h = tokens_dotted at p g h

tokens_key : {lo hi : ℕ} {ts : List Terminal} {e : Expr} (at : ℕ) (d : P.KeyOf ts e) → lo ≤ at → at + length ts ≤ hi
    → Within lo hi (key_places at d)
tokens_key at (P.literal_key p) g h = tokens_literal at p g h
tokens_key at (P.singleton_key f) g h = own (omega arith) (omega arith) (omega arith)
tokens_key at (P.name_key x p) g h = let k = simp length-append at h in tokens_dotted at p (omega arith) (omega arith) ⊕ own (omega arith)
    (omega arith) (omega arith)

-- ---- Patterns.

mutual
  pub tokens_pattern : {lo hi : ℕ} {l : PatternLevel} {ts : List Terminal} {p : Pattern} (at : ℕ) (d : P.DerivesPattern l ts p)
      → lo ≤ at → at + length ts ≤ hi → Within lo hi (pattern_places at d)
  tokens_pattern at (P.next p) g h = tokens_pattern at p g h
  tokens_pattern at (P.open_sequence {ts = ts} p c) g h =
      let k = simp length-append at h in tokens_pattern at p (omega arith) (omega arith) ⊕
      (alone_within (tokens_entries (1 + (at + length ts)) c (omega arith) (omega arith)) ⊕ own (omega arith)
      (omega arith) (omega arith))
  tokens_pattern at P.star g h =
      own (omega arith) (omega arith) (omega arith)
  tokens_pattern at (P.as_name x p f) g h =
      let k = simp length-append at h in tokens_pattern at p (omega arith) (omega arith) ⊕ own (omega arith) (omega arith) (omega arith)
  tokens_pattern at (P.alternatives {ts = ts} p c) g h =
      let k = simp length-append at h in tokens_pattern at p (omega arith) (omega arith) ⊕
      (tokens_alternatives (1 + (at + length ts)) c (omega arith) (omega arith) ⊕ own (omega arith) (omega arith) (omega arith))
  tokens_pattern at (P.literal p) g h =
      let some = literal_some p in tokens_literal at p (omega arith) (omega arith) ⊕ own (omega arith) (omega arith) (omega arith)
  tokens_pattern at (P.singleton f) g h =
      own (omega arith) (omega arith) (omega arith)
  tokens_pattern at P.capture g h =
      own (omega arith) (omega arith) (omega arith)
  tokens_pattern at (P.value x p) g h =
      let k = simp length-append at h in
      tokens_class at p (omega arith) (omega arith) ⊕ (own (omega arith) (omega arith) (omega arith) ⊕ own (omega arith)
      (omega arith) (omega arith))
  tokens_pattern at (P.group p) g h =
      let k = simp length-append at h in tokens_pattern (1 + at) p (omega arith) (omega arith)
  tokens_pattern at P.empty_sequence g h =
      own (omega arith) (omega arith) (omega arith)
  tokens_pattern at (P.round_sequence {ts = ts} p c) g h =
      let k = simp length-append at h in tokens_pattern (1 + at) p (omega arith) (omega arith) ⊕
      (alone_within (tokens_entries (2 + (at + length ts)) c (omega arith) (omega arith)) ⊕ own (omega arith)
      (omega arith) (omega arith))
  tokens_pattern at (P.square_sequence c) g h =
      let k = simp length-append at h in alone_within (tokens_entries (1 + at) c (omega arith) (omega arith)) ⊕ own (omega arith)
      (omega arith) (omega arith)
  tokens_pattern at (P.mapping c f) g h =
      let k = simp length-append at h in let es = tokens_entries (1 + at) c (omega arith) (omega arith) in
      pattern_keys_within es ⊕ (key_patterns_within es ⊕ own (omega arith) (omega arith) (omega arith))
  tokens_pattern at (P.class_pattern {ts = ts} p c f) g h =
      let k = simp length-append at h in let es = tokens_entries (1 + (at + length ts)) c (omega arith) (omega arith) in
      tokens_class at p (omega arith) (omega arith) ⊕ (alone_within es ⊕ (named_within es ⊕ own (omega arith) (omega arith) (omega arith)))

  pub tokens_alternatives : {lo hi : ℕ} {ts : List Terminal} {ps : List Pattern} (at : ℕ) (d : P.Alternatives ts ps)
      → lo ≤ at → at + length ts ≤ hi → Within lo hi (alternatives_places at d)
  tokens_alternatives at (P.last_alternative p) g h = tokens_pattern at p g h
  tokens_alternatives at (P.alternative {ts = ts} p c) g h =
      let k = simp length-append at h in tokens_pattern at p (omega arith) (omega arith) ⊕ tokens_alternatives (1 + (at + length ts)) c
      (omega arith) (omega arith)

  pub tokens_entries : {lo hi : ℕ} {i : PatternItem} {ts : List Terminal} {es : List PatternEntry} (at : ℕ) (d : P.PatternListing i ts es)
      → lo ≤ at → at + length ts ≤ hi → PatternEntriesWithin lo hi (entries_places at d)
  tokens_entries at P.no_entry g h = no_element
  tokens_entries at (P.last_entry p) g h = an_element (tokens_entry at p g h) no_element
  tokens_entries at (P.entry {ts = ts} p c) g h =
      let k = simp length-append at h in an_element (tokens_entry at p (omega arith) (omega arith))
      (tokens_entries (1 + (at + length ts)) c (omega arith) (omega arith))

  tokens_entry : {lo hi : ℕ} {i : PatternItem} {ts : List Terminal} {e : PatternEntry} (at : ℕ) (d : P.PatternPiece i ts e)
      → lo ≤ at → at + length ts ≤ hi → PatternEntryWithin lo hi (entry_places at d)
  tokens_entry at (P.element p) g h = alone (tokens_pattern at p g h)
  tokens_entry at (P.key_pattern {ts = ts} q p) g h =
      let k = simp length-append at h in key_pattern (tokens_key at q (omega arith) (omega arith))
      (tokens_pattern (1 + (at + length ts)) p (omega arith) (omega arith))
  tokens_entry at (P.rest f) g h = rest
  tokens_entry at (P.argument p) g h = alone (tokens_pattern at p g h)
  tokens_entry at (P.named_argument p) g h = named (tokens_pattern (2 + at) p (omega arith) (omega arith))
