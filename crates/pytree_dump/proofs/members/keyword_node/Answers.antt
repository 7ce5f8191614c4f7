use Rattle.std.proofs.Common.{sym, codes}
use Rattle.pytree_node.specs.TreeOf.{tree_of}
use Rattle.pytree_dump_text.specs.Shows.{a_field}
use Rattle.pytree_dump_text.specs.Shows.{shown}
use Rattle.pytree_dump_text.specs.Shows.{no_field}
use Rattle.pytree_node.specs.declared.expressions.Keyword as given_keyword
use Rattle.pytree_node.proofs.Callers.ExprShapes.{keyword_tree}
use Rattle.pytree_dump.proofs.members.keyword_node.Goals as goal

pub returns : goal.returns
returns c =
    rw keyword_tree
    (rw (sym (c.name_part.ensures (a_field (codes "value") (shown (tree_of (given_keyword.out-Keyword c.args.k.now).value)) no_field)))
    c.two.ensures)
