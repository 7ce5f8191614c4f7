use Rattle.std.proofs.Common.{◌≡◌, IfOk, subst}
use Rattle.std.specs.String.{string_bytes}
use Rattle.pytree_node.specs.TreeOf.{module_of}
use Rattle.pytree_dump_text.specs.Layout.{dump_text}
use Rattle.pytree_dump_text.specs.Shows.{shown_module}
use Rattle.pytree_marked.proofs.Callers.Unplaced.{unplaced}
use Rattle.pytree_dump.proofs.modules.dump.Goals as goal

pub returns : goal.returns
returns c =
    subst (λ x. IfOk c.dump_placed.result (λ t. string_bytes t ≡ dump_text c.args.style x.shown))
    (unplaced (shown_module c.args.style.profile (module_of c.args.tree.now))) c.dump_placed.ensures.text
