-- Fields that are equal make equal `try`s.
--
-- Carries: copy_try. On: made_try, try_shape.
use Rattle.std.proofs.Common.{◌≡◌, map, sym, ◌∙◌}
use Rattle.pytree_node.specs.declared.statements.Try as given
use Rattle.pytree_node.specs.declared.statements.Try.{Try}
use Rattle.pytree_node.specs.TreeOf.{handler_of, stmt_of, try_of}
use Rattle.pytree_node.proofs.Callers.MadeShapes.{TryFields, made_try}
use Rattle.pytree_node.proofs.Callers.StmtShapes.{try_shape}

pub same_try : (a : TryFields) (b : Try) →
    map stmt_of a.body.items ≡ map stmt_of (given.out-Try b).body.items →
    map handler_of a.handlers.items ≡ map handler_of (given.out-Try b).handlers.items →
    map stmt_of a.orelse.items ≡ map stmt_of (given.out-Try b).orelse.items →
    map stmt_of a.finalbody.items ≡ map stmt_of (given.out-Try b).finalbody.items →
    try_of (given.roll-Try a) ≡ try_of b
same_try a b p q r s = made_try a
    ∙ (λ i. record { body = p i; handlers = q i; orelse = r i; finalbody = s i })
    ∙ sym (try_shape b)
