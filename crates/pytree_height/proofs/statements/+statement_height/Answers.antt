use Rattle.std.proofs.Common.{map, ◌∙◌, refl}
use Rattle.pytree_node.specs.Trees.{stmts, cases, handlers}
use Rattle.pytree_node.specs.TreeOf.{stmt_of, case_of, handler_of}
use Rattle.pytree_node.proofs.Callers.StmtShapes.{case_tree, handler_tree}
use Rattle.pytree_height.specs.Heights.{stmt_height, stmt_heights, case_heights, handler_heights}
use Rattle.pytree_height.proofs.CapLemmas.{higher}
use Rattle.pytree_height.proofs.statements.+statement_height.Goals as goal

pub statements_height-loop-s-preserved : goal.statements_height-loop-s-preserved
statements_height-loop-s-preserved t c = higher (λ body. stmt_heights (stmts (map stmt_of body)))
    (λ s. stmt_height (stmt_of s)) refl (λ _ _. refl) _
    c.loop-s-test.true c.s-item.is c.loop-s.invariant c.statement_height.ensures c.max-most.ensures

pub cases_height-loop-c-preserved : goal.cases_height-loop-c-preserved
cases_height-loop-c-preserved t c = higher (λ all. case_heights (cases (map case_of all)))
    (λ c. stmt_heights (stmts (case_of c).body)) refl (λ _ _. refl) _
    c.loop-c-test.true c.c-item.is c.loop-c.invariant (c.statements_height.ensures
    ∙ rw (c.deref.ensures.value, case_tree) refl) c.max-most.ensures

pub handlers_height-loop-h-preserved : goal.handlers_height-loop-h-preserved
handlers_height-loop-h-preserved t c = higher (λ all. handler_heights (handlers (map handler_of all)))
    (λ h. stmt_heights (stmts (handler_of h).body)) refl (λ _ _. refl) _
    c.loop-h-test.true c.h-item.is c.loop-h.invariant (c.statements_height.ensures
    ∙ rw (c.deref.ensures.value, handler_tree) refl) c.max-most.ensures
