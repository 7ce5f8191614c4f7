-- Apart: of two places of a pattern one holds the other, or they are apart.
--
-- On: Laminar, Apart of expressions.
use Rattle.std.proofs.Common.{sym, ℕ, ◌+◌, arith, List, [], ◌∷◌, ◌++◌, length, length-append, append-nil}
use Rattle.std.proofs.lemmas.List.{length-map}
use Rattle.pytree_node.specs.Trees.{Expr, Identifier, Pattern}
use Rattle.pytree_node.specs.Values.{Value}
use Rattle.pytoken.specs.Terminals.{Terminal, Literal}
use Rattle.pygrammar.specs.declared.pattern_levels.PatternLevel.{PatternLevel}
use Rattle.pygrammar.specs.FormattedStrings.{merged}
use Rattle.pygrammar.specs.PatternEntries.{PatternItem, PatternEntry}
use Rattle.pygrammar.specs.PatternGrammar as G
use Rattle.pyplaces.specs.ExpressionPlaces.{literals_places}
use Rattle.pyplaces.specs.Stretches.{Stretch, stretch}
use Rattle.pyplaces.specs.PatternPlaces as P
use Rattle.pyplaces.specs.PatternPlaces.{signed_places, literal_places, dotted_places, class_places, key_places, pattern_places}
use Rattle.pyplaces.specs.PatternPlaces.{alternatives_places, entries_places, entry_places}
use Rattle.pyplaces.specs.Laws.{Contains}
use Rattle.pyplaces.proofs.Laws.Laminar.{Laminar, wide, nothing, seq, root, root0, root2, root_twice, one_token, root_mixed, root2_mixed}
use Rattle.pyplaces.proofs.Laws.Laminar.{as_list, among, in_front, in_back, each_in, both_in, strings_laminar, row_laminar}
use Rattle.pyplaces.proofs.Laws.Tokens.{formatted_some}
use Rattle.pyplaces.proofs.Laws.PatternTokens.{literal_some}
use Rattle.pyplaces.proofs.Laws.Apart.{laminar_literals}

-- ---- Entries.

abbrev all_of : P.EntryPlaces → List Stretch
all_of (P.Alone ps) = ps
all_of (P.Keyed ks ps) = ks ++ ps
all_of P.Rest = []
all_of (P.Named ps) = ps

abbrev flat : List P.EntryPlaces → List Stretch
flat [] = []
flat (p ∷ ps) = all_of p ++ flat ps

alone_in : (es : List P.EntryPlaces) {s : Stretch} → Contains s (P.alone es) → Contains s (flat es)
alone_in [] c = elim c [ ]
alone_in (P.Alone ps ∷ es) c = each_in ps ps (P.alone es) (flat es) (λ x. x) (alone_in es) c
alone_in (P.Keyed ks ps ∷ es) c = in_back (ks ++ ps) (flat es) (alone_in es c)
alone_in (P.Rest ∷ es) c = in_back [] (flat es) (alone_in es c)
alone_in (P.Named ps ∷ es) c = in_back ps (flat es) (alone_in es c)

pattern_keys_in : (es : List P.EntryPlaces) {s : Stretch} → Contains s (P.pattern_keys es) → Contains s (flat es)
pattern_keys_in [] c = elim c [ ]
pattern_keys_in (P.Alone ps ∷ es) c = in_back ps (flat es) (pattern_keys_in es c)
pattern_keys_in (P.Keyed ks ps ∷ es) c = each_in ks (ks ++ ps) (P.pattern_keys es) (flat es) (in_front ks ps) (pattern_keys_in es) c
pattern_keys_in (P.Rest ∷ es) c = in_back [] (flat es) (pattern_keys_in es c)
pattern_keys_in (P.Named ps ∷ es) c = in_back ps (flat es) (pattern_keys_in es c)

key_patterns_in : (es : List P.EntryPlaces) {s : Stretch} → Contains s (P.key_patterns es) → Contains s (flat es)
key_patterns_in [] c = elim c [ ]
key_patterns_in (P.Alone ps ∷ es) c = in_back ps (flat es) (key_patterns_in es c)
key_patterns_in (P.Keyed ks ps ∷ es) c = each_in ps (ks ++ ps) (P.key_patterns es) (flat es) (in_back ks ps) (key_patterns_in es) c
key_patterns_in (P.Rest ∷ es) c = in_back [] (flat es) (key_patterns_in es c)
key_patterns_in (P.Named ps ∷ es) c = in_back ps (flat es) (key_patterns_in es c)

named_in : (es : List P.EntryPlaces) {s : Stretch} → Contains s (P.named es) → Contains s (flat es)
named_in [] c = elim c [ ]
named_in (P.Alone ps ∷ es) c = in_back ps (flat es) (named_in es c)
named_in (P.Keyed ks ps ∷ es) c = in_back (ks ++ ps) (flat es) (named_in es c)
named_in (P.Rest ∷ es) c = in_back [] (flat es) (named_in es c)
named_in (P.Named ps ∷ es) c = each_in ps ps (P.named es) (flat es) (λ x. x) (named_in es) c

flat_one : {lo hi : ℕ} (p : P.EntryPlaces) → Laminar lo hi (all_of p) → Laminar lo hi (flat (p ∷ []))
flat_one p l = as_list (sym (append-nil (all_of p))) l

alone_laminar : {lo hi : ℕ} (es : List P.EntryPlaces) → Laminar lo hi (flat es) → Laminar lo hi (P.alone es)
alone_laminar es l = among (flat es) (P.alone es) (λ s c. alone_in es c) l

mapping_laminar : {lo hi : ℕ} (es : List P.EntryPlaces) → Laminar lo hi (flat es) → Laminar lo hi (P.pattern_keys es ++ P.key_patterns es)
mapping_laminar es l =
    among (flat es) (P.pattern_keys es ++ P.key_patterns es)
    (λ s c. both_in (P.pattern_keys es) (P.key_patterns es) (flat es) (pattern_keys_in es) (key_patterns_in es) c) l

arguments_laminar : {lo hi : ℕ} (es : List P.EntryPlaces) → Laminar lo hi (flat es) → Laminar lo hi (P.alone es ++ P.named es)
arguments_laminar es l =
    among (flat es) (P.alone es ++ P.named es) (λ s c. both_in (P.alone es) (P.named es) (flat es) (alone_in es) (named_in es) c) l

-- ---- Values.

laminar_signed : {v : Value} {ts : List Terminal} {e : Expr} (at : ℕ) (d : G.SignedNumber v ts e)
    → Laminar at (at + length ts) (signed_places at d)
laminar_signed at G.unsigned = root0 (omega arith) (omega arith) (omega arith)
laminar_signed at G.negative = root (one_token (1 + at)) (omega arith) (omega arith) (omega arith) (omega arith) (omega arith)

laminar_literal : {ts : List Terminal} {e : Expr} (at : ℕ) (d : G.LiteralOf ts e) → Laminar at (at + length ts) (literal_places at d)
laminar_literal at (G.number p) = laminar_signed at p
laminar_literal at (G.complex {ts = ts} t p h o i) = root2 (laminar_signed at p) (one_token (1 + (at + length ts))) (omega arith)
    (omega arith) (omega arith) (omega arith) (omega arith) (simp length-append (omega arith))
laminar_literal at (G.strings vs h) = let k = length-map vs Literal in root0 (omega arith) (omega arith) (omega arith)
laminar_literal at (G.joined_string {ts = ts} {ps = ps} c b h) =
    let some = formatted_some ts h in
    row_laminar (strings_laminar (merged ps) (literals_places (stretch at (at + length ts)) at c)
    (laminar_literals (stretch at (at + length ts)) at c (omega arith) (omega arith))) (omega arith) (omega arith) (omega arith)

laminar_dotted : {f : Identifier} {ts : List Terminal} {e : Expr} (at : ℕ) (d : G.Dotted f ts e)
    → Laminar at (at + length ts) (dotted_places at d)
laminar_dotted at G.first_name = root0 (omega arith) (omega arith) (omega arith)
laminar_dotted at (G.dot_name x p) = root (laminar_dotted at p) (omega arith) (omega arith) (omega arith) (omega arith)
    (simp length-append (omega arith))

laminar_class : {ts : List Terminal} {e : Expr} (at : ℕ) (d : G.ClassOf ts e) → Laminar at (at + length ts) (class_places at d)
laminar_class at (G.class_name p h) = laminar_dotted at p

laminar_key : {ts : List Terminal} {e : Expr} (at : ℕ) (d : G.KeyOf ts e) → Laminar at (at + length ts) (key_places at d)
laminar_key at (G.literal_key p) = laminar_literal at p
laminar_key at (G.singleton_key h) = root0 (omega arith) (omega arith) (omega arith)
laminar_key at (G.name_key x p) = root (laminar_dotted at p) (omega arith) (omega arith) (omega arith) (omega arith)
    (simp length-append (omega arith))

-- ---- Patterns.

mutual
  pub laminar_pattern : {l : PatternLevel} {ts : List Terminal} {p : Pattern} (at : ℕ) (d : G.DerivesPattern l ts p)
      → Laminar at (at + length ts) (pattern_places at d)
  laminar_pattern at (G.next p) =
      laminar_pattern at p
  laminar_pattern at (G.open_sequence {ts = ts} p c) =
      root2 (laminar_pattern at p) (alone_laminar (entries_places (1 + (at + length ts)) c) (laminar_entries (1 + (at + length ts)) c))
      (omega arith) (omega arith) (omega arith) (omega arith) (omega arith) (simp length-append (omega arith))
  laminar_pattern at G.star =
      root0 (omega arith) (omega arith) (omega arith)
  laminar_pattern at (G.as_name x p h) =
      root (laminar_pattern at p) (omega arith) (omega arith) (omega arith) (omega arith) (simp length-append (omega arith))
  laminar_pattern at (G.alternatives {ts = ts} p c) =
      root2 (laminar_pattern at p) (laminar_alternatives (1 + (at + length ts)) c) (omega arith) (omega arith) (omega arith) (omega arith)
      (omega arith) (simp length-append (omega arith))
  laminar_pattern at (G.literal p) =
      let some = literal_some p in root (laminar_literal at p) (omega arith) (omega arith) (omega arith) (omega arith) (omega arith)
  laminar_pattern at (G.singleton h) =
      root0 (omega arith) (omega arith) (omega arith)
  laminar_pattern at G.capture =
      root0 (omega arith) (omega arith) (omega arith)
  laminar_pattern at (G.value x p) =
      root_twice (laminar_class at p) (omega arith) (omega arith) (omega arith) (omega arith) (omega arith) (omega arith) (omega arith)
      (simp length-append (omega arith))
  laminar_pattern at (G.group p) =
      wide (laminar_pattern (1 + at) p) (omega arith) (simp length-append (omega arith))
  laminar_pattern at G.empty_sequence =
      root0 (omega arith) (omega arith) (omega arith)
  laminar_pattern at (G.round_sequence {ts = ts} p c) =
      root2 (laminar_pattern (1 + at) p) (alone_laminar (entries_places (2 + (at + length ts)) c)
      (laminar_entries (2 + (at + length ts)) c)) (omega arith) (omega arith) (omega arith) (omega arith) (omega arith)
      (simp length-append (omega arith))
  laminar_pattern at (G.square_sequence c) =
      root (alone_laminar (entries_places (1 + at) c) (laminar_entries (1 + at) c)) (omega arith) (omega arith) (omega arith) (omega arith)
      (simp length-append (omega arith))
  laminar_pattern at (G.mapping c h) =
      root_mixed (P.pattern_keys (entries_places (1 + at) c)) (P.key_patterns (entries_places (1 + at) c))
      (mapping_laminar (entries_places (1 + at) c) (laminar_entries (1 + at) c)) (omega arith) (omega arith) (omega arith) (omega arith)
      (simp length-append (omega arith))
  laminar_pattern at (G.class_pattern {ts = ts} p c h) =
      root2_mixed (P.alone (entries_places (1 + (at + length ts)) c)) (P.named (entries_places (1 + (at + length ts)) c))
      (laminar_class at p) (arguments_laminar (entries_places (1 + (at + length ts)) c) (laminar_entries (1 + (at + length ts)) c))
      (omega arith) (omega arith) (omega arith) (omega arith) (omega arith) (simp length-append (omega arith))

  laminar_alternatives : {ts : List Terminal} {ps : List Pattern} (at : ℕ) (d : G.Alternatives ts ps)
      → Laminar at (at + length ts) (alternatives_places at d)
  laminar_alternatives at (G.last_alternative p) = laminar_pattern at p
  laminar_alternatives at (G.alternative {ts = ts} p c) =
      wide (seq (laminar_pattern at p) (laminar_alternatives (1 + (at + length ts)) c) (omega arith)) (omega arith)
      (simp length-append (omega arith))

  laminar_entries : {i : PatternItem} {ts : List Terminal} {es : List PatternEntry} (at : ℕ) (d : G.PatternListing i ts es)
      → Laminar at (at + length ts) (flat (entries_places at d))
  laminar_entries at G.no_entry = nothing (omega arith)
  laminar_entries at (G.last_entry p) = flat_one (entry_places at p) (laminar_entry at p)
  laminar_entries at (G.entry {ts = ts} p c) = wide (seq (laminar_entry at p) (laminar_entries (1 + (at + length ts)) c) (omega arith))
      (omega arith) (simp length-append (omega arith))

  laminar_entry : {i : PatternItem} {ts : List Terminal} {e : PatternEntry} (at : ℕ) (d : G.PatternPiece i ts e)
      → Laminar at (at + length ts) (all_of (entry_places at d))
  laminar_entry at (G.element p) = laminar_pattern at p
  laminar_entry at (G.key_pattern {ts = ts} k p) = wide (seq (laminar_key at k) (laminar_pattern (1 + (at + length ts)) p) (omega arith))
      (omega arith) (simp length-append (omega arith))
  laminar_entry at (G.rest h) = nothing (omega arith)
  laminar_entry at (G.argument p) = laminar_pattern at p
  laminar_entry at (G.named_argument p) = wide (laminar_pattern (2 + at) p) (omega arith) (omega arith)
