use Rattle.std.proofs.Common.{◌≡◌, ◌+◌, ◌∙◌, ap, arith, codes, map, refl}
use Rattle.pytree_node.specs.Trees.{FunctionDefFields, cases, exprs, handlers, stmts}
use Rattle.pytree_node.specs.TreeOf.{case_of, function_def_of, handler_of, stmt_of}
use Rattle.pytree_node.proofs.Callers.StmtShapes.{case_tree, function_def_shape, handler_tree}
use Rattle.pytree_dump_text.specs.Shows.{Fields, Row, a_field, left_out, name_field, no_field, shown_arguments, shown_exprs, shown_pattern}
use Rattle.pytree_dump_text.specs.Shows.{shown_stmt, shown_cases, shown_handlers, shown_stmts, type_params_field}
use Rattle.pytree_marked.specs.MarkedNodes.{marked, marked_fields, marked_rows}
use Rattle.pytree_marked.specs.MarkedOptions.{marked_option}
use Rattle.pytree_marked.proofs.Callers.Sums.{name_sum, option_sum}
use Rattle.pytree_marked.specs.Counts.{capped}
use Rattle.pytree_marked.proofs.CountLemmas.{counted, none_counted, optional_counts, two_on}
use Rattle.pytree_marked.proofs.statements.+statement_counts.Goals as goal

pub block_marked-loop-s-preserved : goal.block_marked-loop-s-preserved
block_marked-loop-s-preserved t c = counted (λ xs. marked_rows (shown_stmts c.args.profile (stmts (map stmt_of xs))))
    (λ x. marked (shown_stmt c.args.profile (stmt_of x))) refl (λ _ _. refl) _ _
    c.loop-s-test.true c.s-item.is c.loop-s.invariant c.stmt_marked-count.ensures

pub handlers_marked-loop-h-preserved : goal.handlers_marked-loop-h-preserved
handlers_marked-loop-h-preserved t c = counted (λ all. marked_rows (shown_handlers c.args.profile (handlers (map handler_of all))))
    (λ h. 1 + (marked_option (handler_of h).class + marked_rows (shown_stmts c.args.profile (stmts (handler_of h).body)))) refl
    (λ h hs.
    let last : Fields = a_field (codes "body") (Row (shown_stmts c.args.profile (stmts (handler_of h).body))) no_field in
    let m = option_sum (codes "type") (handler_of h).class (name_field (codes "name") (handler_of h).name last) in
    let n = name_sum (codes "name") (handler_of h).name last in omega (arith, m, n)) _ _
    c.loop-h-test.true c.h-item.is c.loop-h.invariant
    (two_on _ _ _ c.one_more.ensures (two_on _ _ _ (c.option_marked.ensures ∙ rw handler_tree refl) (c.block_marked-count.ensures
    ∙ rw (c.deref.ensures.value, handler_tree) refl)))

pub cases_marked-loop-case-preserved : goal.cases_marked-loop-case-preserved
cases_marked-loop-case-preserved t c = counted (λ all. marked_rows (shown_cases c.args.profile (cases (map case_of all))))
    (λ k. marked (shown_pattern (case_of k).pattern) +
    (marked_option (case_of k).guard + marked_rows (shown_stmts c.args.profile (stmts (case_of k).body)))) refl
    (λ k ks.
    let last : Fields = a_field (codes "body") (Row (shown_stmts c.args.profile (stmts (case_of k).body))) no_field in
    let m = option_sum (codes "guard") (case_of k).guard last in omega (arith, m)) _ _
    c.loop-case-test.true c.case-item.is c.loop-case.invariant
    (two_on _ _ _ (c.pattern_marked.ensures ∙ rw case_tree refl) (two_on _ _ _ (c.option_marked.ensures ∙ rw case_tree refl)
    (c.block_marked-count.ensures ∙ rw (c.deref.ensures.value, case_tree) refl)))

pub block_marked-loop-s-init : goal.block_marked-loop-s-init
block_marked-loop-s-init t c = none_counted (λ xs. marked_rows (shown_stmts c.args.profile (stmts (map stmt_of xs)))) c.args.body.now
    c.args.before refl (omega arith)

pub handlers_marked-loop-h-init : goal.handlers_marked-loop-h-init
handlers_marked-loop-h-init t c = none_counted (λ xs. marked_rows (shown_handlers c.args.profile (handlers (map handler_of xs))))
    c.args.all.now c.args.before refl (omega arith)

pub cases_marked-loop-case-init : goal.cases_marked-loop-case-init
cases_marked-loop-case-init t c = none_counted (λ xs. marked_rows (shown_cases c.args.profile (cases (map case_of xs)))) c.args.all.now
    c.args.before refl (omega arith)

pub function_marked-returns : goal.function_marked-returns
function_marked-returns t c =
    let d : FunctionDefFields = function_def_of c.args.def.now in
    let last : Fields = type_params_field c.args.profile d.type_params in
    let m = option_sum (codes "returns") d.returns (left_out last) in
    let whole : c.own_params_marked.result ≡ capped (c.args.before + (1 + (marked (shown_arguments d.args)
    + (marked_rows (shown_stmts c.args.profile (stmts d.body)) + (marked_rows (shown_exprs (exprs d.decorator_list))
    + (marked_option d.returns + marked_fields last)))))) =
    two_on _ _ _ c.one_more.ensures
    (two_on _ _ _ (c.parameters_marked-count.ensures ∙ rw (c.deref.ensures, function_def_shape) refl)
    (two_on _ _ _ (c.block_marked-count.ensures ∙ rw (c.deref-2.ensures.value, function_def_shape) refl)
    (two_on _ _ _ (c.exprs_marked.ensures ∙ rw (c.deref-3.ensures.value, function_def_shape) refl)
    (two_on _ _ _ (c.boxed_marked-count.ensures ∙ rw (optional_counts, function_def_shape) refl)
    (c.own_params_marked.ensures ∙ rw (c.deref-4.ensures.value, function_def_shape) refl))))) in
    whole ∙ ap (λ n. capped (c.args.before + n)) (omega (arith, m))
