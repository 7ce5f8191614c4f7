-- The parts of headers that were read and recorded, with their places.
use Rattle.std.specs.Prelude.{◌≡◌, ℕ, List, ◌++◌, Some, true, false}
use Rattle.pytree_node.specs.Trees as Trees
use Rattle.pytoken.specs.declared.values.terminals.Terminal.{Terminal}
use Rattle.pygrammar.specs.Arguments.{in_order, keywords, positional}
use Rattle.pygrammar.specs.Entries.{Argument, Entry, Parameter}
use Rattle.pygrammar.specs.Parameters.{arranged}
use Rattle.pyparse_nodes.specs.Views.{seen}
use Rattle.pyplaces.specs.Stretches.{Stretch}
use Rattle.pyplaces.specs.EntryPlaces as E
use Rattle.pyplaces.specs.EntryPlaces.{EntryPlaces}
use Rattle.pyplaces.specs.Placed.{PlacedListing}
use Rattle.pyplaces.specs.Recording.{Records}

-- the parameters of a `def`
pub record ParametersPlaced {S : Type 0} (after : S → Stretch → S) (ts : List Terminal) (at : ℕ) (args : Trees.Arguments)
    (next : ℕ) (old new : S)
    : Type 0 where
  pub es : List Entry
  pub places : List EntryPlaces
  pub parameters : arranged es ≡ Some args
  pub listing : PlacedListing (Parameter true) (seen ts at) at es (seen ts next) next places
  pub records : Records after old (E.arranged places) new

-- the arguments of a `class`
pub record BasesPlaced {S : Type 0} (after : S → Stretch → S) (ts : List Terminal) (at : ℕ) (args : Trees.Exprs) (words : Trees.Keywords)
    (next : ℕ) (old new : S)
    : Type 0 where
  pub es : List Entry
  pub places : List EntryPlaces
  pub order : in_order false false es ≡ true
  pub bases : positional es ≡ args
  pub named : keywords es ≡ words
  pub listing : PlacedListing Argument (seen ts at) at es (seen ts next) next places
  pub records : Records after old (E.positional places ++ E.keywords places) new
