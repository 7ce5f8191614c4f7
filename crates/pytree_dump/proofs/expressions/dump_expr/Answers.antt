use Rattle.std.proofs.Common.{◌++◌, ◌∙◌, [], refl}
use Rattle.pytree_node.specs.TreeOf.{tree_of}
use Rattle.pytree_dump_text.specs.Layout.{text}
use Rattle.pytree_dump_text.specs.Shows.{shown}
use Rattle.pytree_dump.proofs.JoinedLemmas.{text_of_none}
use Rattle.pytree_dump.proofs.expressions.dump_expr.Goals as goal

pub returns : goal.returns
returns c =
    let x = shown (tree_of c.args.e.now) in
    text_of_none c.args.style _ _ _ [] x refl c.in_ok-show_expr.ensures.text.0
    ∙ (λ i. c.new-out.ensures.bytes i ++ text c.args.style (c.in_ok-indentation.ensures.ok i) x)
