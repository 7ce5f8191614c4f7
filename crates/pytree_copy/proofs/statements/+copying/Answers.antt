use Rattle.std.proofs.Common.{map, ap, ◌∙◌}
use Rattle.pytree_node.specs.TreeOf.{handler_of, stmt_of, try_of}
use Rattle.pytree_copy.proofs.TryLemmas.{same_try}
use Rattle.pytree_copy.proofs.statements.+copying.Goals as goal

pub copy_try-returns : goal.copy_try-returns
copy_try-returns t c = ap try_of c.in_ok-new.ensures.ok
    ∙ same_try (record {
      body = c.in_ok-copy_stmts.field-0;
      handlers = c.in_ok-copy_handlers.field-0;
      orelse = c.in_ok-copy_stmts-2.field-0;
      finalbody = c.in_ok-copy_stmts-3.field-0;
    }) c.args.parts.now
    (c.in_ok-copy_stmts.ensures ∙ ap (map stmt_of) c.deref.ensures.value)
    (c.in_ok-copy_handlers.ensures ∙ ap (map handler_of) c.deref-2.ensures.value)
    (c.in_ok-copy_stmts-2.ensures ∙ ap (map stmt_of) c.deref-3.ensures.value)
    (c.in_ok-copy_stmts-3.ensures ∙ ap (map stmt_of) c.deref-4.ensures.value)
