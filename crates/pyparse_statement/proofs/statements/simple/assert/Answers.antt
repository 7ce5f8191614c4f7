use Rattle.std.proofs.Common.{◌∙◌, ap, refl}
use Rattle.pytree_node.proofs.Callers.StmtShapes.{assert_tree}
use Rattle.pytree_node.specs.TreeOf.{boxed_of, tree_of}
use Rattle.pytree_node.specs.Trees.{Assert}
use Rattle.pyparse_statement.proofs.Recorders.Words.{assert_placed}
use Rattle.pyparse_statement.proofs.statements.simple.assert.Goals as goal

pub returns-clause-placed : goal.returns-clause-placed
returns-clause-placed g c = let h = c.in_ok-test.ensures.placed in
    assert_placed c.in_ok-test.test h.1 h.2 c.in_ok-msg.ensures.placed (assert_tree c.into_inner.result c.in_ok-msg.msg.expr
    ∙ ap (λ e. Assert (tree_of e) (boxed_of c.in_ok-msg.msg.expr)) c.into_inner.ensures) refl
