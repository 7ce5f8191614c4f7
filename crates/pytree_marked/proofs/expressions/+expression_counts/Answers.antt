use Rattle.std.proofs.Common.{◌+◌, ◌∙◌, ap, arith, codes, map, refl, sym}
use Rattle.pytree_node.specs.Trees.{optional, args, comprehensions, exprs, keywords, optionals}
use Rattle.pytree_node.specs.TreeOf.{arg_of, comprehension_of, keyword_of, option_of, tree_of}
use Rattle.pytree_node.proofs.Callers.ExprShapes.{comprehension_tree, keyword_tree}
use Rattle.pytree_dump_text.specs.Shows.{a_field, no_field, shown, shown_arg, shown_optional, shown_args}
use Rattle.pytree_dump_text.specs.Shows.{shown_comprehensions, shown_exprs, shown_keywords, shown_optionals}
use Rattle.pytree_marked.specs.MarkedNodes.{marked, marked_rows}
use Rattle.pytree_marked.specs.Counts.{capped}
use Rattle.pytree_marked.proofs.Callers.Sums.{name_sum}
use Rattle.pytree_marked.proofs.CountLemmas.{capped_none, capped_on, counted, none_counted, two_on}
use Rattle.pytree_marked.proofs.expressions.+expression_counts.Goals as goal
use Rattle.pytree_marked.proofs.expressions.+expression_counts.Goals.{options_marked-in-None, options_marked-in-Some}

pub exprs_marked-loop-e-preserved : goal.exprs_marked-loop-e-preserved
exprs_marked-loop-e-preserved t c = counted (λ xs. marked_rows (shown_exprs (exprs (map tree_of xs))))
    (λ x. marked (shown (tree_of x))) refl (λ _ _. refl) _ _
    c.loop-e-test.true c.e-item.is c.loop-e.invariant c.expr_marked-count.ensures

pub options_marked-loop-e-preserved : goal.options_marked-loop-e-preserved
options_marked-loop-e-preserved t c = counted (λ xs. marked_rows (shown_optionals (optionals (map option_of xs))))
    (λ x. marked (shown_optional (optional (option_of x)))) refl (λ _ _. refl) _ _
    c.loop-e-test.true c.e-item.is c.loop-e.invariant
    (elim c.match-e.branch [
      | options_marked-in-None w ↦ w.count-is ∙ capped_on _ _ c.loop-e.invariant
          ∙ sym (ap (λ o. capped (c.loop-e.count + marked (shown_optional (optional (option_of o))))) w.in-None.is)
      | options_marked-in-Some w ↦ w.count-is ∙ w.expr_marked-count.ensures
          ∙ sym (ap (λ o. capped (c.loop-e.count + marked (shown_optional (optional (option_of o))))) w.in-Some.is)
    ])

pub each_parameter_marked-loop-a-preserved : goal.each_parameter_marked-loop-a-preserved
each_parameter_marked-loop-a-preserved t c = counted (λ xs. marked_rows (shown_args (args (map arg_of xs))))
    (λ x. marked (shown_arg (arg_of x))) refl (λ _ _. refl) _ _
    c.loop-a-test.true c.a-item.is c.loop-a.invariant c.parameter_marked-count.ensures

pub keywords_marked-loop-k-preserved : goal.keywords_marked-loop-k-preserved
keywords_marked-loop-k-preserved t c = counted (λ ks. marked_rows (shown_keywords (keywords (map keyword_of ks))))
    (λ k. 1 + marked (shown (keyword_of k).value)) refl
    (λ k ks. let h = name_sum (codes "arg") (keyword_of k).arg (a_field (codes "value") (shown (keyword_of k).value) no_field) in
    omega (arith, h)) _ _
    c.loop-k-test.true c.k-item.is c.loop-k.invariant (two_on _ _ _ c.one_more.ensures (c.expr_marked-count.ensures ∙ rw keyword_tree refl))

pub generators_marked-loop-c-preserved : goal.generators_marked-loop-c-preserved
generators_marked-loop-c-preserved t c = counted (λ cs. marked_rows (shown_comprehensions (comprehensions (map comprehension_of cs))))
    (λ c. marked (shown (comprehension_of c).target) + (marked (shown (comprehension_of c).iter) + marked_rows
    (shown_exprs (exprs (comprehension_of c).ifs)))) refl
    (λ _ _. omega arith) _ _
    c.loop-c-test.true c.c-item.is c.loop-c.invariant
    (two_on _ _ _ (c.expr_marked.ensures ∙ rw comprehension_tree refl)
    (two_on _ _ _ (c.expr_marked-in-loop-c.ensures ∙ rw comprehension_tree refl) (c.exprs_marked-count.ensures
    ∙ rw (c.deref.ensures.value, comprehension_tree) refl)))

pub exprs_marked-loop-e-init : goal.exprs_marked-loop-e-init
exprs_marked-loop-e-init t c = none_counted (λ xs. marked_rows (shown_exprs (exprs (map tree_of xs)))) c.args.es.now
    c.args.before refl (omega arith)

pub options_marked-loop-e-init : goal.options_marked-loop-e-init
options_marked-loop-e-init t c = none_counted (λ xs. marked_rows (shown_optionals (optionals (map option_of xs)))) c.args.es.now
    c.args.before refl (omega arith)

pub generators_marked-loop-c-init : goal.generators_marked-loop-c-init
generators_marked-loop-c-init t c = none_counted (λ xs. marked_rows (shown_comprehensions (comprehensions (map comprehension_of xs))))
    c.args.cs.now c.args.before refl (omega arith)

pub keywords_marked-loop-k-init : goal.keywords_marked-loop-k-init
keywords_marked-loop-k-init t c = none_counted (λ xs. marked_rows (shown_keywords (keywords (map keyword_of xs)))) c.args.ks.now
    c.args.before refl (omega arith)

pub each_parameter_marked-loop-a-init : goal.each_parameter_marked-loop-a-init
each_parameter_marked-loop-a-init t c = none_counted (λ xs. marked_rows (shown_args (args (map arg_of xs)))) c.args.all.now
    c.args.before refl (omega arith)

pub boxed_marked-returns-in-None : goal.boxed_marked-returns-in-None
boxed_marked-returns-in-None t c = rw c.in-None.is (capped_none c.args.before (omega arith))

pub optional_parameter_marked-returns-in-None : goal.optional_parameter_marked-returns-in-None
optional_parameter_marked-returns-in-None t c = rw c.in-None.is (capped_none c.args.before (omega arith))
