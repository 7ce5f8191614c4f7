use Rattle.std.proofs.Common.{map, ◌∙◌, refl}
use Rattle.pytree_node.specs.Trees.{cases, handlers, stmts}
use Rattle.pytree_node.specs.TreeOf.{case_of, handler_of}
use Rattle.pytree_node.proofs.Callers.StmtShapes.{case_tree, handler_tree}
use Rattle.examples.specs.Functions.{functions_in_all, functions_in_cases, functions_in_handlers}
use Rattle.examples.proofs.WalkLemmas.{one_on}
use Rattle.examples.proofs.walks.+functions.Goals as goal

pub collect_in_cases-loop-case-preserved : goal.collect_in_cases-loop-case-preserved
collect_in_cases-loop-case-preserved t c = one_on (λ all. functions_in_cases (cases (map case_of all)))
    (λ k. functions_in_all (stmts (case_of k).body)) (λ _ _. refl) _ _ c.loop-case-test.true c.case-item.is c.loop-case.invariant
    (c.in_ok-collect_all.ensures ∙ rw (c.deref.ensures.value, case_tree) refl)

pub collect_in_handlers-loop-handler-preserved : goal.collect_in_handlers-loop-handler-preserved
collect_in_handlers-loop-handler-preserved t c = one_on (λ all. functions_in_handlers (handlers (map handler_of all)))
    (λ h. functions_in_all (stmts (handler_of h).body)) (λ _ _. refl) _ _ c.loop-handler-test.true c.handler-item.is c.loop-handler.invariant
    (c.in_ok-collect_all.ensures ∙ rw (c.deref.ensures.value, handler_tree) refl)
