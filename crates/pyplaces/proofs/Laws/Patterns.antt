-- Count: as many places in a pattern as nodes of it that have one.
--
-- On: Many, Contexts, Entries, Expressions.
use Rattle.std.proofs.Common.{◌≡◌, sym, ap, ◌∙◌, ℕ, ◌+◌, arith, List, [], ◌∷◌, Some, None, Bool, true, false, length}
use Rattle.std.proofs.Common.{codes, if◌then◌else◌}
use Rattle.std.proofs.lemmas.Option.{same_Some}
use Rattle.pytree_node.specs.Trees.{Expr, Identifier, Pattern, MatchMapping, MatchClass, MatchAs, present_pattern}
use Rattle.pytree_node.specs.Trees.{exprs, patterns}
use Rattle.pytree_node.specs.Values.{Value}
use Rattle.pytree_dump_text.specs.Shows.{no_field, shown, shown_exprs, shown_pattern}
use Rattle.pytree_dump_text.specs.Shows.{shown_patterns}
use Rattle.pytree_marked.specs.MarkedNodes.{marked, marked_rows}
use Rattle.pytree_marked.proofs.Callers.Sums.{kind_none, name_sum, names_none, operator_none}
use Rattle.pytoken.specs.Terminals.{Terminal}
use Rattle.pygrammar.specs.declared.pattern_levels.PatternLevel.{PatternLevel}
use Rattle.pygrammar.specs.PatternOperators.{captured}
use Rattle.pygrammar.specs.PatternEntries.{PatternItem, PatternEntry, Alone, Keyed, Rest, Named, elements, is_mapping, pattern_keys}
use Rattle.pygrammar.specs.PatternEntries.{key_patterns, rest_of, mapped, are_class_arguments, named_attributes, named_patterns, class_of}
use Rattle.pygrammar.specs.PatternEntries.{as_named}
use Rattle.pygrammar.specs.PatternGrammar as P
use Rattle.pyplaces.specs.Stretches.{Stretch, stretch}
use Rattle.pyplaces.specs.PatternPlaces as places
use Rattle.pyplaces.specs.PatternPlaces.{signed_places, literal_places, dotted_places, class_places, key_places, pattern_places}
use Rattle.pyplaces.specs.PatternPlaces.{alternatives_places, entries_places, entry_places}
use Rattle.pyplaces.proofs.Laws.Many.{Many, many, none, one, ◌⊕◌}
use Rattle.pyplaces.proofs.Laws.Contexts as contexts
use Rattle.pyplaces.proofs.Laws.Entries.{merged_counted, values_counted}
use Rattle.pyplaces.proofs.Laws.Expressions.{count_literals}

-- ---- Values.

count_signed : {v : Value} {ts : List Terminal} {e : Expr} (at : ℕ) (d : P.SignedNumber v ts e)
    → Many (signed_places at d) (marked (shown e))
count_signed at (P.unsigned {v = v}) = many one (omega (arith, kind_none v))
count_signed at (P.negative {v = v}) = many (one ⊕ one) (omega (arith, kind_none v))

count_literal : {ts : List Terminal} {e : Expr} (at : ℕ) (d : P.LiteralOf ts e) → Many (literal_places at d) (marked (shown e))
count_literal at (P.number p) = count_signed at p
count_literal at (P.complex {w = w} {o = operator} t p h o i) =
    many (count_signed at p ⊕ (one ⊕ one)) (omega (arith, operator_none operator, kind_none w))
count_literal at (P.strings {w = w} vs h) = many one (omega (arith, kind_none w))
count_literal at (P.joined_string {u = u} {ts = ts} c b h) =
    let row : Stretch = stretch at (at + length ts) in
    many (values_counted u row (merged_counted (count_literals row at c)) ⊕ one) (omega arith)

count_dotted : {f : Identifier} {ts : List Terminal} {e : Expr} (at : ℕ) (d : P.Dotted f ts e)
    → Many (dotted_places at d) (marked (shown e))
count_dotted at P.first_name = many one (omega arith)
count_dotted at (P.dot_name x p) = many (count_dotted at p ⊕ one) (omega arith)

count_class : {ts : List Terminal} {e : Expr} (at : ℕ) (d : P.ClassOf ts e) → Many (class_places at d) (marked (shown e))
count_class at (P.class_name p h) = count_dotted at p

count_key : {ts : List Terminal} {e : Expr} (at : ℕ) (d : P.KeyOf ts e) → Many (key_places at d) (marked (shown e))
count_key at (P.literal_key p) = count_literal at p
count_key at (P.singleton_key {v = v} h) = many one (omega (arith, kind_none v))
count_key at (P.name_key x p) = many (count_dotted at p ⊕ one) (omega arith)

-- ---- Entries.

data Counted : PatternEntry → places.EntryPlaces → Type 0 where
  alone : {p : Pattern} {ps : List Stretch} → Many ps (marked (shown_pattern p)) → Counted (Alone p) (places.Alone ps)
  keyed : {k : Expr} {p : Pattern} {ks ps : List Stretch} → Many ks (marked (shown k)) → Many ps (marked (shown_pattern p))
      → Counted (Keyed k p) (places.Keyed ks ps)
  rest : {x : Identifier} → Counted (Rest x) places.Rest
  named : {x : Identifier} {p : Pattern} {ps : List Stretch} → Many ps (marked (shown_pattern p)) → Counted (Named x p) (places.Named ps)

data AllCounted : List PatternEntry → List places.EntryPlaces → Type 0 where
  no_entry : AllCounted [] []
  an_entry : {e : PatternEntry} {es : List PatternEntry} {p : places.EntryPlaces} {ps : List places.EntryPlaces} → Counted e p
      → AllCounted es ps → AllCounted (e ∷ es) (p ∷ ps)

elements_count : {es : List PatternEntry} {ps : List places.EntryPlaces} → AllCounted es ps
    → Many (places.alone ps) (marked_rows (shown_patterns (elements es)))
elements_count no_entry = none
elements_count (an_entry (alone h) c) = h ⊕ elements_count c
elements_count (an_entry (keyed h k) c) = elements_count c
elements_count (an_entry rest c) = elements_count c
elements_count (an_entry (named h) c) = elements_count c

keys_count : {es : List PatternEntry} {ps : List places.EntryPlaces} → AllCounted es ps
    → Many (places.pattern_keys ps) (marked_rows (shown_exprs (exprs (pattern_keys es))))
keys_count no_entry = none
keys_count (an_entry (alone h) c) = keys_count c
keys_count (an_entry (keyed h k) c) = h ⊕ keys_count c
keys_count (an_entry rest c) = keys_count c
keys_count (an_entry (named h) c) = keys_count c

key_patterns_count : {es : List PatternEntry} {ps : List places.EntryPlaces} → AllCounted es ps
    → Many (places.key_patterns ps) (marked_rows (shown_patterns (key_patterns es)))
key_patterns_count no_entry = none
key_patterns_count (an_entry (alone h) c) = key_patterns_count c
key_patterns_count (an_entry (keyed h k) c) = k ⊕ key_patterns_count c
key_patterns_count (an_entry rest c) = key_patterns_count c
key_patterns_count (an_entry (named h) c) = key_patterns_count c

named_count : {es : List PatternEntry} {ps : List places.EntryPlaces} → AllCounted es ps
    → Many (places.named ps) (marked_rows (shown_patterns (named_patterns es)))
named_count no_entry = none
named_count (an_entry (alone h) c) = named_count c
named_count (an_entry (keyed h k) c) = named_count c
named_count (an_entry rest c) = named_count c
named_count (an_entry (named h) c) = h ⊕ named_count c

-- what is answered if b holds
if_so : (b : Bool) (x p : Pattern) → (if b then Some x else None) ≡ Some p → x ≡ p
if_so true x p h = same_Some x p h
if_so false x p h = absurd (cc)

mapping_count : (es : List PatternEntry) (p : Pattern) → mapped es ≡ Some p
    → marked_rows (shown_exprs (exprs (pattern_keys es))) + (marked_rows (shown_patterns (key_patterns es)) + 1) ≡ marked (shown_pattern p)
mapping_count es p h =
    let x : Pattern = MatchMapping (pattern_keys es) (key_patterns es) (rest_of es) in
    let k : marked_rows (shown_exprs (exprs (pattern_keys es))) + (marked_rows (shown_patterns (key_patterns es)) + 1)
    ≡ marked (shown_pattern (MatchMapping (pattern_keys es) (key_patterns es) (rest_of es))) =
    omega (arith, name_sum (codes "rest") (rest_of es) no_field) in
    k ∙ ap (λ q. marked (shown_pattern q)) (if_so (is_mapping es) x p h)

class_count : (e : Expr) (es : List PatternEntry) (p : Pattern) → class_of e es ≡ Some p
    → marked (shown e) + (marked_rows (shown_patterns (elements es)) + (marked_rows (shown_patterns (named_patterns es)) + 1))
    ≡ marked (shown_pattern p)
class_count e es p h =
    let x : Pattern = MatchClass e (elements es) (named_attributes es) (named_patterns es) in
    let k : marked (shown e) + (marked_rows (shown_patterns (elements es)) + (marked_rows (shown_patterns (named_patterns es)) + 1))
    ≡ marked (shown_pattern (MatchClass e (elements es) (named_attributes es) (named_patterns es))) =
    omega (arith, names_none (named_attributes es)) in
    k ∙ ap (λ q. marked (shown_pattern q)) (if_so (are_class_arguments false es) x p h)

-- a pattern with a name
named_as : (p : Pattern) (y : Identifier) → marked (shown_pattern (MatchAs (present_pattern p) (Some y))) ≡ marked (shown_pattern p) + 1
named_as p y = omega arith

as_count : (p q : Pattern) (x : Identifier) → as_named p x ≡ Some q → marked (shown_pattern p) + 1 ≡ marked (shown_pattern q)
as_count p q x h = sym (contexts.mapped (λ y. MatchAs (present_pattern p) (Some y)) (captured x) q (λ z. marked (shown_pattern z))
    (marked (shown_pattern p) + 1) (λ y k. named_as p y) h)

-- ---- Patterns.

mutual
  pub count_pattern : {l : PatternLevel} {ts : List Terminal} {p : Pattern} (at : ℕ) (d : P.DerivesPattern l ts p)
      → Many (pattern_places at d) (marked (shown_pattern p))
  count_pattern at (P.next p) = count_pattern at p
  count_pattern at (P.open_sequence {ts = ts} p c) =
      many (count_pattern at p ⊕ (elements_count (count_entries (1 + (at + length ts)) c) ⊕ one)) (omega arith)
  count_pattern at (P.star {x = x}) = many one (omega (arith, name_sum (codes "name") (captured x.form) no_field))
  count_pattern at (P.as_name {p = p} {q = q} x d h) = many (count_pattern at d ⊕ one) (as_count p q x.form h)
  count_pattern at (P.alternatives {ts = ts} p c) =
      many (count_pattern at p ⊕ (count_alternatives (1 + (at + length ts)) c ⊕ one)) (omega arith)
  count_pattern at (P.literal p) = many (count_literal at p ⊕ one) (omega arith)
  count_pattern at (P.singleton h) = many one (omega arith)
  count_pattern at (P.capture {x = x}) = many one (omega (arith, name_sum (codes "name") (captured x.form) no_field))
  count_pattern at (P.value x p) = many (count_class at p ⊕ (one ⊕ one)) (omega arith)
  count_pattern at (P.group p) = count_pattern (1 + at) p
  count_pattern at P.empty_sequence = many one (omega arith)
  count_pattern at (P.round_sequence {ts = ts} p c) =
      many (count_pattern (1 + at) p ⊕ (elements_count (count_entries (2 + (at + length ts)) c) ⊕ one)) (omega arith)
  count_pattern at (P.square_sequence c) = many (elements_count (count_entries (1 + at) c) ⊕ one) (omega arith)
  count_pattern at (P.mapping {es = es} {p = p} c h) =
      let c1 = count_entries (1 + at) c in many (keys_count c1 ⊕ (key_patterns_count c1 ⊕ one)) (mapping_count es p h)
  count_pattern at (P.class_pattern {ts = ts} {e = e} {es = es} {p = p} d c h) =
      let c1 = count_entries (1 + (at + length ts)) c in
      many (count_class at d ⊕ (elements_count c1 ⊕ (named_count c1 ⊕ one))) (class_count e es p h)

  count_alternatives : {ts : List Terminal} {ps : List Pattern} (at : ℕ) (d : P.Alternatives ts ps)
      → Many (alternatives_places at d) (marked_rows (shown_patterns (patterns ps)))
  count_alternatives at (P.last_alternative p) = many (count_pattern at p) (omega arith)
  count_alternatives at (P.alternative {ts = ts} p c) = count_pattern at p ⊕ count_alternatives (1 + (at + length ts)) c

  count_entries : {i : PatternItem} {ts : List Terminal} {es : List PatternEntry} (at : ℕ) (d : P.PatternListing i ts es)
      → AllCounted es (entries_places at d)
  count_entries at P.no_entry = no_entry
  count_entries at (P.last_entry p) = an_entry (count_entry at p) no_entry
  count_entries at (P.entry {ts = ts} p c) = an_entry (count_entry at p) (count_entries (1 + (at + length ts)) c)

  count_entry : {i : PatternItem} {ts : List Terminal} {e : PatternEntry} (at : ℕ) (d : P.PatternPiece i ts e)
      → Counted e (entry_places at d)
  count_entry at (P.element p) = alone (count_pattern at p)
  count_entry at (P.key_pattern {ts = ts} k p) = keyed (count_key at k) (count_pattern (1 + (at + length ts)) p)
  count_entry at (P.rest h) = rest
  count_entry at (P.argument p) = alone (count_pattern at p)
  count_entry at (P.named_argument p) = named (count_pattern (2 + at) p)
