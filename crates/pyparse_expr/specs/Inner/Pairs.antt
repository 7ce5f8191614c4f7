-- The pairs of a Dict, as the program reads them.
use Rattle.std.specs.Prelude.{◌≡◌, ℕ, ◌≤◌, List, [], ◌∷◌, Option, Some, None, length, map}
use Rattle.pylex_lexeme.specs.declared.kinds.Exact.TheVariants.{Comma}
use Rattle.pytree_node.specs.Trees.{Expr}
use Rattle.pytree_node.specs.TreeOf.{tree_of, boxed_of, option_of}
use Rattle.pytoken.specs.Terminals as tokens
use Rattle.pygrammar.specs.Entries as entries
use Rattle.pygrammar.specs.Entries.{Entry, Paired, Doubled}
use Rattle.pygrammar.specs.Looks.{is_op}
use Rattle.pygrammar.specs.Reader.{Answer, Found, on_first, listing_of}
use Rattle.pytoken.specs.declared.values.terminals.Terminal.{Terminal}
use Rattle.pyparse_reads.specs.declared.depth.Depth.{Depth}
use Rattle.pyparse_nodes.specs.declared.found.Pair.{Pair}
use Rattle.pyparse_nodes.specs.declared.found.Pairs.{Pairs}
use Rattle.pyparse_expr.specs.Inner.Readings.{inner_reads}
use Rattle.pyparse_nodes.specs.Views.{seen}

abbrev pub entry : Option Expr → Expr → Entry
entry None v = Doubled v
entry (Some k) v = Paired k v

abbrev pub zipped : List (Option Expr) → List Expr → List Entry
zipped (k ∷ ks) (v ∷ vs) = entry k v ∷ zipped ks vs
zipped _ _ = []

abbrev pub pair_of : Pair → Entry
pair_of p = entry (boxed_of p.key) (tree_of p.value.value)

abbrev pub pairs_of : Pairs → List Entry
pairs_of p = zipped (map option_of p.keys.items) (map tree_of p.values.items)

pub record PairAt (ts : List Terminal) (room least : ℕ) (x : Answer Entry) (r : Pair) : Type 0 where
  pub ahead : least ≤ r.next
  pub within : r.next ≤ length ts
  pub low : r.height ≤ room
  pub is : x ≡ Found (pair_of r) (seen ts r.next)

pub record PairsAt (ts : List Terminal) (room least : ℕ) (x : Answer (List Entry)) (r : Pairs) : Type 0 where
  pub ahead : least ≤ r.next
  pub within : r.next ≤ length ts
  pub low : r.height ≤ room
  pub is : x ≡ Found (pairs_of r) (seen ts r.next)

-- the pairs after some that were read
abbrev pub more_pairs_at : Depth → List Entry → List tokens.Terminal → Answer (List Entry)
more_pairs_at d acc r = on_first (is_op Comma) r (λ _ s. listing_of (inner_reads d) entries.Pair acc s) (Found acc r)
