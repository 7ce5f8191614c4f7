-- The program's entries, as the grammar's.
use Rattle.std.specs.Prelude.{ℕ, max, List, [], ◌∷◌, Bool, true, false, Option, Some}
use Rattle.pytree_node.specs.Trees.{Identifier, Pattern}
use Rattle.pytree_node.specs.TreeOf.{tree_of, pattern_of}
use Rattle.pytree_height.specs.Heights.{height, pattern_height}
use Rattle.pygrammar.specs.PatternEntries as entries
use Rattle.pygrammar.specs.PatternEntries.{Alone, Keyed, Rest, Named}
use Rattle.pyparse_pattern.specs.declared.entries.PatternEntry.{PatternEntry}
use Rattle.pyparse_pattern.specs.declared.entries.PatternEntry.TheVariants as entry
use Rattle.pyparse_pattern.specs.declared.entries.PatternItem.{PatternItem}
use Rattle.pyparse_pattern.specs.declared.entries.PatternItem.TheVariants as item

abbrev pub item_of : PatternItem → entries.PatternItem
item_of item.Element = entries.Element
item_of item.KeyPattern = entries.KeyPattern
item_of item.ClassArgument = entries.ClassArgument

abbrev pub entry_of : PatternEntry → entries.PatternEntry
entry_of (entry.Alone p) = Alone (pattern_of p.value)
entry_of (entry.Keyed k p) = Keyed (tree_of k.value) (pattern_of p.value)
entry_of (entry.Rest x) = Rest x
entry_of (entry.Named x p) = Named x (pattern_of p.value)

-- the height of its higher part, and that of the highest of some
abbrev pub entry_height : entries.PatternEntry → ℕ
entry_height (Alone p) = pattern_height p
entry_height (Keyed k p) = max (height k) (pattern_height p)
entry_height (Rest x) = 0
entry_height (Named x p) = pattern_height p

abbrev pub entry_heights : List entries.PatternEntry → ℕ
entry_heights [] = 0
entry_heights (e ∷ es) = max (entry_height e) (entry_heights es)

-- the patterns of those that are patterns alone, and whether all are
abbrev pub alone_in : List entries.PatternEntry → List Pattern
alone_in [] = []
alone_in (Alone p ∷ es) = p ∷ alone_in es
alone_in (_ ∷ es) = alone_in es

abbrev pub are_alone : List entries.PatternEntry → Bool
are_alone [] = true
are_alone (Alone p ∷ es) = are_alone es
are_alone (_ ∷ es) = false

-- the patterns of those with keys, and of those with names
abbrev pub keyed_in : List entries.PatternEntry → List Pattern
keyed_in [] = []
keyed_in (Keyed k p ∷ es) = p ∷ keyed_in es
keyed_in (_ ∷ es) = keyed_in es

abbrev pub named_in : List entries.PatternEntry → List Pattern
named_in [] = []
named_in (Named x p ∷ es) = p ∷ named_in es
named_in (_ ∷ es) = named_in es

-- the name after the last `**`, or the one before them
abbrev pub rest_from : Option Identifier → List entries.PatternEntry → Option Identifier
rest_from o [] = o
rest_from o (Rest x ∷ es) = rest_from (Some x) es
rest_from o (_ ∷ es) = rest_from o es
