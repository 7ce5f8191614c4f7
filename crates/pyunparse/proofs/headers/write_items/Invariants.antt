use Rattle.std.proofs.Common.{◌≡◌, true, map, drop}
use Rattle.pylex_lexeme.specs.declared.kinds.Exact.TheVariants.{Comma}
use Rattle.pytree_node.specs.TreeOf.{item_of}
use Rattle.pyunparse_text.specs.Statements.{item}
use Rattle.pyunparse_text.specs.Pieces.{piece}
use Rattle.pyunparse_text.specs.Written.{trailing}
use Rattle.pyunparse_text.specs.Folds.{puts}
use Rattle.pyunparse.specs.Inner.Members.{members}
use Rattle.pyunparse.proofs.headers.write_items.Given as goal

abbrev pub invariant-loop-item : goal.invariant-loop-item
invariant-loop-item g l =
    puts g.W.Writer.after l.out (members l.first (trailing piece Comma) (map (item piece) (map item_of (drop l.item-index l.items))))
    ≡ puts g.W.Writer.after l.initial.out (members true (trailing piece Comma) (map (item piece) (map item_of l.items)))
