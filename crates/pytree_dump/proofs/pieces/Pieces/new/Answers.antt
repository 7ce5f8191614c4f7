use Rattle.std.proofs.Common.{ap, ◌∙◌}
use Rattle.pytree_node.specs.TreeOf.{module_of}
use Rattle.pytree_dump_text.specs.Layout.{dump_text}
use Rattle.pytree_dump_text.specs.Shows.{Shown, shown_module}
use Rattle.pytree_marked.specs.MarkedNodes.{Placed}
use Rattle.pytree_marked.proofs.Callers.Unplaced.{unplaced}
use Rattle.pytree_dump.proofs.pieces.Pieces.new.Goals as goal

pub returns-clause-text : goal.returns-clause-text
returns-clause-text c = c.in_ok-bare.ensures.text ∙ ap (λ (x : Placed Shown). dump_text c.args.style x.shown)
    (unplaced (shown_module c.args.style.profile (module_of c.args.tree.now)))
