use Rattle.std.proofs.Common.{map, max, ◌∙◌, refl}
use Rattle.pytree_node.specs.Trees.{stmts, cases, handlers}
use Rattle.pytree_node.specs.TreeOf.{stmt_of, case_of, handler_of}
use Rattle.pytree_node.proofs.Callers.StmtShapes.{case_tree, handler_tree}
use Rattle.pytree_height.specs.Heights.{option_height, pattern_height, highest_in, highest_in_all, highest_in_cases, highest_in_handlers}
use Rattle.pytree_height.proofs.CapLemmas.{higher, two}
use Rattle.pytree_height.proofs.highest.+highest_in.Goals as goal

pub highest_in_all-loop-s-preserved : goal.highest_in_all-loop-s-preserved
highest_in_all-loop-s-preserved t c = higher (λ body. highest_in_all (stmts (map stmt_of body)))
    (λ s. highest_in (stmt_of s)) refl (λ _ _. refl) _
    c.loop-s-test.true c.s-item.is c.loop-s.invariant c.highest_in.ensures c.max-most.ensures

pub highest_in_cases-loop-c-preserved : goal.highest_in_cases-loop-c-preserved
highest_in_cases-loop-c-preserved t c = higher (λ all. highest_in_cases (cases (map case_of all)))
    (λ c. max (pattern_height (case_of c).pattern) (max (option_height (case_of c).guard) (highest_in_all (stmts (case_of c).body)))) refl
    (λ _ _. refl) _
    c.loop-c-test.true c.c-item.is c.loop-c.invariant
    (two _ _ (c.pattern_height.ensures ∙ rw case_tree refl)
    (two _ _ (c.option_height.ensures ∙ rw case_tree refl) (c.highest_in_all.ensures
    ∙ rw (c.deref.ensures.value, case_tree) refl) c.max-inner.ensures)
    c.max.ensures)
    c.max-most.ensures

pub highest_in_handlers-loop-h-preserved : goal.highest_in_handlers-loop-h-preserved
highest_in_handlers-loop-h-preserved t c = higher (λ all. highest_in_handlers (handlers (map handler_of all)))
    (λ h. max (option_height (handler_of h).class) (highest_in_all (stmts (handler_of h).body))) refl (λ _ _. refl) _
    c.loop-h-test.true c.h-item.is c.loop-h.invariant
    (two _ _ (c.option_height.ensures ∙ rw handler_tree refl) (c.highest_in_all.ensures
    ∙ rw (c.deref.ensures.value, handler_tree) refl) c.max.ensures)
    c.max-most.ensures
