-- What stands between the commas of a pattern's list, and the patterns that a list gives (language reference, 8.6.4.8 to 8.6.4.10).
use Rattle.std.specs.Prelude.{Bool, true, false, ◌&&◌, not, List, [], ◌∷◌, Option, Some, None, if◌then◌else◌, option_map}
use Rattle.pytree_node.specs.Trees.{Expr, Identifier, Pattern, MatchMapping, MatchClass, MatchAs, Patterns, no_pattern, a_pattern}
use Rattle.pytree_node.specs.Trees.{present_pattern}
use Rattle.pygrammar.specs.PatternOperators.{captured, is_wildcard}

-- what stands between the commas of a list
pub data PatternItem : Type 0 where
  Element : PatternItem  -- of a sequence
  KeyPattern : PatternItem  -- of a mapping
  ClassArgument : PatternItem  -- of a class pattern

-- what is read of one
pub data PatternEntry : Type 0 where
  Alone : Pattern → PatternEntry
  Keyed : Expr → Pattern → PatternEntry
  Rest : Identifier → PatternEntry  -- `**` NAME
  Named : Identifier → Pattern → PatternEntry  -- NAME `=`

-- the patterns of a sequence
abbrev pub elements : List PatternEntry → Patterns
elements [] = no_pattern
elements (Alone p ∷ es) = a_pattern p (elements es)
elements (_ ∷ es) = elements es

-- ---- Mappings.

-- `**` NAME stands last, if at all
abbrev pub is_mapping : List PatternEntry → Bool
is_mapping [] = true
is_mapping (Keyed k p ∷ es) = is_mapping es
is_mapping (Rest x ∷ []) = true
is_mapping _ = false

abbrev pub pattern_keys : List PatternEntry → List Expr
pattern_keys [] = []
pattern_keys (Keyed k p ∷ es) = k ∷ pattern_keys es
pattern_keys (_ ∷ es) = pattern_keys es

abbrev pub key_patterns : List PatternEntry → Patterns
key_patterns [] = no_pattern
key_patterns (Keyed k p ∷ es) = a_pattern p (key_patterns es)
key_patterns (_ ∷ es) = key_patterns es

abbrev pub rest_of : List PatternEntry → Option Identifier
rest_of [] = None
rest_of (Rest x ∷ es) = Some x
rest_of (_ ∷ es) = rest_of es

-- the MatchMapping of a list, if the order is right
abbrev pub mapped : List PatternEntry → Option Pattern
mapped es = if is_mapping es then Some (MatchMapping (pattern_keys es) (key_patterns es) (rest_of es)) else None

-- ---- Class patterns.

-- no pattern alone follows a NAME `=`
abbrev pub all_named : List PatternEntry → Bool
all_named [] = true
all_named (Named x p ∷ es) = all_named es
all_named _ = false

-- Patterns alone come first. The first NAME `=` after one has another name than `_`: Python's parser takes `A(a, _` for two patterns. The
-- flag: a pattern
-- alone stood before.
abbrev pub are_class_arguments : Bool → List PatternEntry → Bool
are_class_arguments b [] = true
are_class_arguments b (Alone p ∷ es) = are_class_arguments true es
are_class_arguments true (Named x p ∷ es) = not (is_wildcard x) && all_named es
are_class_arguments false (Named x p ∷ es) = all_named es
are_class_arguments b _ = false

abbrev pub named_attributes : List PatternEntry → List Identifier
named_attributes [] = []
named_attributes (Named x p ∷ es) = x ∷ named_attributes es
named_attributes (_ ∷ es) = named_attributes es

abbrev pub named_patterns : List PatternEntry → Patterns
named_patterns [] = no_pattern
named_patterns (Named x p ∷ es) = a_pattern p (named_patterns es)
named_patterns (_ ∷ es) = named_patterns es

-- the MatchClass of a class and a list, if the order is right
abbrev pub class_of : Expr → List PatternEntry → Option Pattern
class_of e es = if are_class_arguments false es then Some (MatchClass e (elements es) (named_attributes es) (named_patterns es)) else None

-- ---- Names.

-- the MatchAs of a pattern and a NAME; `_` is no name for it
abbrev pub as_named : Pattern → Identifier → Option Pattern
as_named p x = option_map (λ y. MatchAs (present_pattern p) (Some y)) (captured x)
