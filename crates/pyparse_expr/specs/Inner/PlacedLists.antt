-- Lists that were read and recorded: what stands between their commas, and its places.
use Rattle.std.specs.Prelude.{◌≡◌, ℕ, ◌+◌, List, [], ◌∷◌, ◌++◌, map}
use Rattle.pytree_node.specs.declared.operators.Context.TheVariants.{Load}
use Rattle.pytree_node.specs.Trees
use Rattle.pytree_node.specs.Trees.{exprs, an_expr}
use Rattle.pytree_node.specs.TreeOf.{tree_of}
use Rattle.pytoken.specs.declared.values.terminals.Terminal.{Terminal}
use Rattle.pygrammar.specs.Entries.{Item, Entry, Pair, singles}
use Rattle.pyparse_nodes.specs.declared.found.Items.{Items}
use Rattle.pyparse_nodes.specs.declared.found.Pair as pair
use Rattle.pyparse_nodes.specs.declared.found.Pairs.{Pairs}
use Rattle.pyparse_nodes.specs.declared.found.Read.{Read}
use Rattle.pyparse_nodes.specs.Views.{seen}
use Rattle.pyplaces.specs.Stretches.{Stretch, stretch}
use Rattle.pyplaces.specs.EntryPlaces as E
use Rattle.pyplaces.specs.EntryPlaces.{EntryPlaces}
use Rattle.pyplaces.specs.Placed.{PlacedListing, PlacedPiece}
use Rattle.pyplaces.specs.Recording.{Records, Kept}
use Rattle.pyplaces.specs.Rests.{Others}
use Rattle.pyparse_expr.specs.Inner.Found.{entries_of}
use Rattle.pyparse_expr.specs.Inner.Pairs.{pair_of, pairs_of}

-- ---- Expressions.

-- the items after some that were read
pub record MorePlaced {S : Type 0} (after : S → Stretch → S) (ts : List Terminal) (j : Item) (items r : Items) (old new : S)
    : Type 0 where
  pub es : List Entry
  pub places : List EntryPlaces
  pub entries : entries_of r ≡ entries_of items ++ es
  pub others : Others j (seen ts items.next) items.next es (seen ts r.next) r.next places
  pub records : Records after old (E.singles places) new

-- those after a first one
pub record OthersPlaced {S : Type 0} (after : S → Stretch → S) (ts : List Terminal) (j : Item) (first : Read) (r : Items)
    (old new : S) : Type 0 where
  pub es : List Entry
  pub places : List EntryPlaces
  pub elements : exprs (map tree_of r.exprs.items) ≡ an_expr (tree_of first.expr.value) (singles es)
  pub others : Others j (seen ts first.next) first.next es (seen ts r.next) r.next places
  pub records : Records after old (E.singles places) new

-- a Tuple that begins with a first one, and those after the comma
pub record TuplePlaced {S : Type 0} (after : S → Stretch → S) (ts : List Terminal) (j : Item) (first : Read) (at : ℕ) (r : Read)
    (old new : S) : Type 0 where
  pub es : List Entry
  pub places : List EntryPlaces
  pub tree : tree_of r.expr.value ≡ Trees.Tuple (an_expr (tree_of first.expr.value) (singles es)) Load
  pub listing : PlacedListing j (seen ts (first.next + 1)) (first.next + 1) es (seen ts r.next) r.next places
  pub records : Records after old (E.singles places ++ (stretch at r.next ∷ [])) new

-- ---- Pairs, whose values are set aside.

pub record PairPlaced {S : Type 0} (after beside : S → Stretch → S) (ts : List Terminal) (at : ℕ) (r : pair.Pair) (old new : S)
    : Type 0 where
  pub entry : EntryPlaces
  pub placed : PlacedPiece Pair (seen ts at) at (pair_of r) (seen ts r.next) r.next entry
  pub kept : Kept after beside old (E.keys (entry ∷ [])) (E.values (entry ∷ [])) new

-- those after some that were read
pub record PairsPlaced {S : Type 0} (after beside : S → Stretch → S) (ts : List Terminal) (pairs r : Pairs) (old new : S)
    : Type 0 where
  pub es : List Entry
  pub places : List EntryPlaces
  pub entries : pairs_of r ≡ pairs_of pairs ++ es
  pub others : Others Pair (seen ts pairs.next) pairs.next es (seen ts r.next) r.next places
  pub kept : Kept after beside old (E.keys places) (E.values places) new
