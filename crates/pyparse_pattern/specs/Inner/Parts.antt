-- The parts of a mapping and of a class pattern, of its entries.
use Rattle.std.specs.Prelude.{◌≡◌, List, ◌∷◌, ◌++◌, map}
use Rattle.pytree_node.specs.TreeOf.{tree_of, pattern_of}
use Rattle.pygrammar.specs.PatternEntries.{PatternEntry, pattern_keys, named_attributes}
use Rattle.pyparse_pattern.specs.declared.classes.Parts as classes
use Rattle.pyparse_pattern.specs.declared.mappings.Parts as mappings
use Rattle.pyparse_pattern.specs.Inner.Entries.{alone_in, keyed_in, named_in, rest_from}

-- one more entry is among the parts, whichever follow
pub record IsMappingGrown (old new : mappings.Parts) (e : PatternEntry) : Type 0 where
  pub keys : (es : List PatternEntry) → map tree_of new.keys.items ++ pattern_keys es ≡ map tree_of old.keys.items ++ pattern_keys (e ∷ es)
  pub patterns : (es : List PatternEntry) → map pattern_of new.patterns.items ++ keyed_in es ≡ map pattern_of
      old.patterns.items ++ keyed_in (e ∷ es)
  pub rest : (es : List PatternEntry) → rest_from new.rest es ≡ rest_from old.rest (e ∷ es)

pub record IsClassGrown (old new : classes.Parts) (e : PatternEntry) : Type 0 where
  pub patterns : (es : List PatternEntry) → map pattern_of new.patterns.items ++ alone_in es ≡ map pattern_of
      old.patterns.items ++ alone_in (e ∷ es)
  pub names : (es : List PatternEntry) → new.kwd_attrs.items ++ named_attributes es ≡ old.kwd_attrs.items ++ named_attributes (e ∷ es)
  pub named : (es : List PatternEntry) → map pattern_of new.kwd_patterns.items ++ named_in es ≡ map pattern_of
      old.kwd_patterns.items ++ named_in (e ∷ es)
