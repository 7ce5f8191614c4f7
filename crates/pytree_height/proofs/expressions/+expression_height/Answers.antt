use Rattle.std.proofs.Common.{map, max, ◌∙◌, ap, sym, refl}
use Rattle.pytree_node.specs.Trees.{exprs, optional, optionals, comprehensions, keywords, args}
use Rattle.pytree_node.specs.TreeOf.{tree_of, option_of, comprehension_of, keyword_of, arg_of}
use Rattle.pytree_node.proofs.Callers.ExprShapes.{keyword_tree, comprehension_tree}
use Rattle.pytree_height.specs.Heights.{capped, height, heights, optional_height, optional_heights, comprehension_heights, keyword_heights}
use Rattle.pytree_height.specs.Heights.{arg_height, arg_heights}
use Rattle.pytree_height.proofs.CapLemmas.{capped-zero, higher, two}
use Rattle.pytree_height.proofs.expressions.+expression_height.Goals as goal
use Rattle.pytree_height.proofs.expressions.+expression_height.Goals.{options_height-in-None, options_height-in-Some}

pub exprs_height-loop-e-preserved : goal.exprs_height-loop-e-preserved
exprs_height-loop-e-preserved t c = higher (λ es. heights (exprs (map tree_of es))) (λ e. height (tree_of e)) refl (λ _ _. refl) _
    c.loop-e-test.true c.e-item.is c.loop-e.invariant c.expr_height.ensures c.max-most.ensures

pub each_parameter_height-loop-a-preserved : goal.each_parameter_height-loop-a-preserved
each_parameter_height-loop-a-preserved t c = higher (λ all. arg_heights (args (map arg_of all)))
    (λ a. arg_height (arg_of a)) refl (λ _ _. refl) _
    c.loop-a-test.true c.a-item.is c.loop-a.invariant c.parameter_height.ensures c.max-most.ensures

pub keywords_height-loop-k-preserved : goal.keywords_height-loop-k-preserved
keywords_height-loop-k-preserved t c = higher (λ ks. keyword_heights (keywords (map keyword_of ks)))
    (λ k. height (keyword_of k).value) refl (λ _ _. refl) _
    c.loop-k-test.true c.k-item.is c.loop-k.invariant (c.expr_height.ensures ∙ rw keyword_tree refl) c.max-most.ensures

pub generators_height-loop-c-preserved : goal.generators_height-loop-c-preserved
generators_height-loop-c-preserved t c = higher (λ cs. comprehension_heights (comprehensions (map comprehension_of cs)))
    (λ c. max (height (comprehension_of c).target) (max (height (comprehension_of c).iter) (heights (exprs (comprehension_of c).ifs)))) refl
    (λ _ _. refl) _
    c.loop-c-test.true c.c-item.is c.loop-c.invariant
    (two _ _ (c.expr_height.ensures ∙ rw comprehension_tree refl)
    (two _ _ (c.expr_height-in-loop-c.ensures ∙ rw comprehension_tree refl)
    (c.exprs_height.ensures ∙ rw (c.deref.ensures.value, comprehension_tree) refl)
    c.max.ensures)
    c.max-in-loop-c.ensures)
    c.max-most.ensures

pub options_height-loop-e-preserved : goal.options_height-loop-e-preserved
options_height-loop-e-preserved t c = higher (λ es. optional_heights (optionals (map option_of es)))
    (λ e. optional_height (optional (option_of e))) refl (λ _ _. refl) _
    c.loop-e-test.true c.e-item.is c.loop-e.invariant
    (elim c.match-e.branch [
      | options_height-in-None w ↦ w.here-is ∙ sym capped-zero
          ∙ sym (ap (λ o. capped (optional_height (optional (option_of o)))) w.in-None.is)
      | options_height-in-Some w ↦ w.here-is ∙ w.expr_height-here.ensures
          ∙ sym (ap (λ o. capped (optional_height (optional (option_of o)))) w.in-Some.is)
    ])
    c.max-most.ensures
