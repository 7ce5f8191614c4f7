-- Lists of expressions with commas between them, as the program reads them.
use Rattle.std.specs.Prelude.{ℕ, List, length}
use Rattle.pylex_lexeme.specs.declared.kinds.Exact.TheVariants.{Comma}
use Rattle.pytree_node.specs.Trees.{Expr}
use Rattle.pytoken.specs.Terminals.{Terminal}
use Rattle.pygrammar.specs.declared.levels.Level.TheVariants as level
use Rattle.pygrammar.specs.Entries as entries
use Rattle.pygrammar.specs.Entries.{Entry, Of, Single}
use Rattle.pygrammar.specs.Looks.{is_op}
use Rattle.pygrammar.specs.Reader.{Answer, Found, and_then, on_first, listing_loop, target_item}
use Rattle.pyparse_reads.specs.declared.depth.Depth.{Depth}
use Rattle.pyparse_expr.specs.declared.listings.Item.{Item}
use Rattle.pyparse_expr.specs.declared.listings.Item.TheVariants as item
use Rattle.pyparse_expr.specs.Inner.Readings.{inner_reads}

-- what stands between the commas
abbrev pub item_of : Item → entries.Item
item_of item.StarItem = Of level.StarItem
item_of item.Elem = Of level.Elem
item_of item.Part = Of level.Part
item_of item.Target = Of level.StarItem

-- the least lead of a terminal that begins an item
abbrev pub least_of : Item → ℕ
least_of item.Part = 5
least_of _ = 7

abbrev pub item_reads : Depth → Item → List Terminal → Answer Expr
item_reads d item.StarItem r = inner_reads d level.StarItem r
item_reads d item.Elem r = inner_reads d level.Elem r
item_reads d item.Part r = inner_reads d level.Part r
item_reads d item.Target r = target_item (inner_reads d) r

-- items after a comma
abbrev pub items_of : Depth → Item → List Entry → List Terminal → Answer (List Entry)
items_of d i acc r = listing_loop (λ s. and_then (item_reads d i s) (λ e t. Found (Single e) t)) (item_of i) (length r) acc r

-- and those after some that were read
abbrev pub more_at : Depth → Item → List Entry → List Terminal → Answer (List Entry)
more_at d i acc r = on_first (is_op Comma) r (λ _ s. items_of d i acc s) (Found acc r)
