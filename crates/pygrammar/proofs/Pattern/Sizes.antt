-- How high what is read of a list of patterns is.
--
-- Carries: entry_size, entries_size, alternatives_size and what is made of them, for Bound and
-- Long. On: HeightLemmas.
use Rattle.std.proofs.Common.{◌≡◌, ap, ℕ, suc, ◌≤◌, ◌<◌, arith, List, [], ◌∷◌, ◌++◌, length, Some, false}
use Rattle.std.specs.Prelude.{max}
use Rattle.pytree_node.specs.Trees.{Expr, Identifier, Pattern, MatchMapping, MatchClass, MatchAs, present_pattern, patterns}
use Rattle.pytree_height.specs.Heights.{height, list_height, pattern_height, pattern_heights}
use Rattle.pygrammar.specs.PatternOperators.{captured}
use Rattle.pygrammar.specs.PatternEntries.{PatternEntry, Alone, Keyed, Rest, Named, elements, is_mapping, pattern_keys, key_patterns}
use Rattle.pygrammar.specs.PatternEntries.{rest_of, mapped, are_class_arguments, named_attributes, named_patterns, class_of, as_named}
use Rattle.pygrammar.proofs.Heights.HeightLemmas.{mapped_keeps}
use Rattle.pygrammar.proofs.Pattern.ReadLevels.{pattern_some}
use Rattle.pygrammar.proofs.Pattern.ReadBrackets.{chosen}

-- ---- Entries. An entry without a pattern counts 1, as does the list without entries.

abbrev pub entry_size : PatternEntry → ℕ
entry_size (Alone p) = pattern_height p
entry_size (Keyed k p) = max (height k) (pattern_height p)
entry_size (Rest x) = 1
entry_size (Named x p) = pattern_height p

abbrev pub entries_size : List PatternEntry → ℕ
entries_size [] = 1
entries_size (e ∷ es) = max (entry_size e) (entries_size es)

pub entry_some : (e : PatternEntry) → 0 < entry_size e
entry_some (Alone p) = pattern_some p
entry_some (Keyed k p) = omega (arith, pattern_some p)
entry_some (Rest x) = omega arith
entry_some (Named x p) = pattern_some p

pub entries_some : (es : List PatternEntry) → 0 < entries_size es
entries_some [] = omega arith
entries_some (e ∷ es) = omega (arith, entries_some es)

pub entries_last : (es : List PatternEntry) (e : PatternEntry) → entries_size (es ++ (e ∷ [])) ≡ max (entries_size es) (entry_size e)
entries_last [] e = omega arith
entries_last (f ∷ es) e = omega (arith, entries_last es e)

pub elements_low : (es : List PatternEntry) → pattern_heights (elements es) ≤ entries_size es
elements_low [] = omega arith
elements_low (Alone p ∷ es) = omega (arith, elements_low es)
elements_low (_ ∷ es) = omega (arith, elements_low es)

keyed_low : (es : List PatternEntry) → max (list_height (pattern_keys es)) (pattern_heights (key_patterns es)) ≤ entries_size es
keyed_low [] = omega arith
keyed_low (Keyed k p ∷ es) = omega (arith, keyed_low es)
keyed_low (_ ∷ es) = omega (arith, keyed_low es)

named_low : (es : List PatternEntry) → pattern_heights (named_patterns es) ≤ entries_size es
named_low [] = omega arith
named_low (Named x p ∷ es) = omega (arith, named_low es)
named_low (_ ∷ es) = omega (arith, named_low es)

-- ---- What is made of a list.

pub mapped_low : (es : List PatternEntry) (p : Pattern) → mapped es ≡ Some p → pattern_height p ≤ suc (entries_size es)
mapped_low es p h = omega (
  arith,
  ap pattern_height (chosen (is_mapping es) (MatchMapping (pattern_keys es) (key_patterns es) (rest_of es)) p h),
  keyed_low es,
)

pub class_low : (f : Expr) (es : List PatternEntry) (p : Pattern) → class_of f es ≡ Some p
    → pattern_height p ≤ suc (max (height f) (entries_size es))
class_low f es p h =
    omega (
      arith,
      ap pattern_height
          (chosen (are_class_arguments false es) (MatchClass f (elements es) (named_attributes es) (named_patterns es)) p h),
      elements_low es,
      named_low es,
    )

pub as_low : (p q : Pattern) (x : Identifier) → as_named p x ≡ Some q → pattern_height q ≡ suc (pattern_height p)
as_low p q x h = mapped_keeps (λ y. MatchAs (present_pattern p) (Some y)) (captured x) q length pattern_height
    (suc (pattern_height p)) (λ y e. omega arith) h

-- ---- Alternatives.

abbrev pub alternatives_size : List Pattern → ℕ
alternatives_size [] = 1
alternatives_size (p ∷ ps) = max (pattern_height p) (alternatives_size ps)

pub alternatives_some : (ps : List Pattern) → 0 < alternatives_size ps
alternatives_some [] = omega arith
alternatives_some (p ∷ ps) = omega (arith, alternatives_some ps)

pub alternatives_last : (ps : List Pattern) (p : Pattern)
    → alternatives_size (ps ++ (p ∷ [])) ≡ max (alternatives_size ps) (pattern_height p)
alternatives_last [] p = omega (arith, pattern_some p)
alternatives_last (q ∷ ps) p = omega (arith, alternatives_last ps p)

pub alternatives_low : (ps : List Pattern) → pattern_heights (patterns ps) ≤ alternatives_size ps
alternatives_low [] = omega arith
alternatives_low (p ∷ ps) = omega (arith, alternatives_low ps)
