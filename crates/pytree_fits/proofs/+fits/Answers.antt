use Rattle.std.proofs.Common.{◌≡◌, map, length, sym, refl, ap, subst, ◌∙◌, suc, false}
use Rattle.pytree_node.specs.TreeOf.{tree_of, boxed_of, option_of, keyword_of, comprehension_of, arg_of}
use Rattle.pytree_node.specs.Trees.{exprs, optional, present, optionals, keywords, comprehensions, args}
use Rattle.pygrammar.specs.declared.levels.Level.TheVariants.{Expression}
use Rattle.pytree_node.specs.declared.operators.Context.TheVariants.{Store}
use Rattle.std.specs.Prelude.{◌&&◌, leb, eqb, IfOk}
use Rattle.pytree_fits.specs.Names.{is_name}
use Rattle.pytree_fits.specs.Tests.{tests_at, in_field}
use Rattle.pytree_fits.specs.Slots.{count, has_some, perhaps_name, fits_at, fits_target, perhaps_fits, arg_fits, each_fits}
use Rattle.pytree_fits.specs.Slots.{each_target_fits, each_perhaps_fits, each_keyword_fits, each_clause_fits, each_arg_fits}
use Rattle.pytree_fits.specs.Slots.{each_value_fits, value_fits, spec_fits, are_apart}
use Rattle.pytree_node.proofs.Callers.ExprShapes.{formatted_value_tree}
use Rattle.pytree_fits.proofs.TargetShapes.{not_target}
use Rattle.pytree_fits.proofs.StringShapes.{not_value, not_spec, joined_spec}
use Rattle.pytree_fits.proofs.StringFields.{value_told, too_deep, spec_told, both_and, one_fails, then_rest}
use Rattle.pytree_fits.proofs.Loops.{goes_on, stops}
use Rattle.pytree_fits.proofs.+fits.Goals as goal
use Rattle.pytree_fits.proofs.+fits.Goals.{strings::value_fits-then-depth-le1+in_ok-expr_fits-in-FormattedValue}
use Rattle.pytree_fits.proofs.+fits.Goals.{strings::value_fits-else-depth-le1, expressions::options_fit-in-None}
use Rattle.pytree_fits.proofs.+fits.Goals.{expressions::options_fit-in-Some+in_ok-fits-in-Some}

pub expressions::exprs_fit-returns-then-not-branch : goal.expressions::exprs_fit-returns-then-not-branch
expressions::exprs_fit-returns-then-not-branch t c =
    stops (λ es. each_fits (tests_at c.args.asked.extent c.args.asked.fields) c.args.level (exprs (map tree_of es)))
    (λ e. fits_at (tests_at c.args.asked.extent c.args.asked.fields) c.args.level (tree_of e)) refl (λ _ _. refl) _ c.loop-e-test.true
    c.e-item.is c.in_ok-expr_fits.ensures c.if-not-branch.true

pub expressions::exprs_fit-loop-e-preserved : goal.expressions::exprs_fit-loop-e-preserved
expressions::exprs_fit-loop-e-preserved t c =
    goes_on (λ es. each_fits (tests_at c.args.asked.extent c.args.asked.fields) c.args.level (exprs (map tree_of es)))
    (λ e. fits_at (tests_at c.args.asked.extent c.args.asked.fields) c.args.level (tree_of e)) refl (λ _ _. refl) _ c.loop-e-test.true
    c.e-item.is c.loop-e.invariant c.in_ok-expr_fits.ensures c.if-not-branch.false

pub expressions::keywords_fit-returns-then-not-branch : goal.expressions::keywords_fit-returns-then-not-branch
expressions::keywords_fit-returns-then-not-branch t c =
    stops (λ ks. each_keyword_fits (tests_at c.args.asked.extent c.args.asked.fields) (keywords (map keyword_of ks)))
    (λ k. perhaps_name is_name (keyword_of k).arg && fits_at (tests_at c.args.asked.extent c.args.asked.fields) Expression
    (keyword_of k).value) refl (λ _ _. refl) _ c.loop-k-test.true c.k-item.is c.in_ok-keyword_fits.ensures c.if-not-branch.true

pub expressions::keywords_fit-loop-k-preserved : goal.expressions::keywords_fit-loop-k-preserved
expressions::keywords_fit-loop-k-preserved t c =
    goes_on (λ ks. each_keyword_fits (tests_at c.args.asked.extent c.args.asked.fields) (keywords (map keyword_of ks)))
    (λ k. perhaps_name is_name (keyword_of k).arg && fits_at (tests_at c.args.asked.extent c.args.asked.fields) Expression
    (keyword_of k).value) refl (λ _ _. refl) _ c.loop-k-test.true c.k-item.is c.loop-k.invariant
    c.in_ok-keyword_fits.ensures c.if-not-branch.false

pub expressions::clauses_fit-returns-then-not-branch : goal.expressions::clauses_fit-returns-then-not-branch
expressions::clauses_fit-returns-then-not-branch t c =
    stops (λ cs. each_clause_fits (tests_at c.args.asked.extent c.args.asked.fields) (comprehensions (map comprehension_of cs)))
    (λ g. fits_target (tests_at c.args.asked.extent c.args.asked.fields) Store (comprehension_of g).target && fits_at
    (tests_at c.args.asked.extent c.args.asked.fields) Expression (comprehension_of g).iter && each_fits
    (tests_at c.args.asked.extent c.args.asked.fields) Expression (exprs (comprehension_of g).ifs)) refl (λ _ _. refl) _ c.loop-c-test.true
    c.c-item.is c.in_ok-clause_fits.ensures c.if-not-branch.true

pub expressions::clauses_fit-loop-c-preserved : goal.expressions::clauses_fit-loop-c-preserved
expressions::clauses_fit-loop-c-preserved t c =
    goes_on (λ cs. each_clause_fits (tests_at c.args.asked.extent c.args.asked.fields) (comprehensions (map comprehension_of cs)))
    (λ g. fits_target (tests_at c.args.asked.extent c.args.asked.fields) Store (comprehension_of g).target && fits_at
    (tests_at c.args.asked.extent c.args.asked.fields) Expression (comprehension_of g).iter && each_fits
    (tests_at c.args.asked.extent c.args.asked.fields) Expression (exprs (comprehension_of g).ifs)) refl (λ _ _. refl) _ c.loop-c-test.true
    c.c-item.is c.loop-c.invariant c.in_ok-clause_fits.ensures c.if-not-branch.false

pub targets::targets_fit-returns-then-not-branch : goal.targets::targets_fit-returns-then-not-branch
targets::targets_fit-returns-then-not-branch t c =
    stops (λ es. each_target_fits (tests_at c.args.asked.extent c.args.asked.fields) c.args.place (exprs (map tree_of es)))
    (λ e. fits_target (tests_at c.args.asked.extent c.args.asked.fields) c.args.place (tree_of e)) refl (λ _ _. refl) _ c.loop-e-test.true
    c.e-item.is c.in_ok-target_fits.ensures c.if-not-branch.true

pub targets::targets_fit-loop-e-preserved : goal.targets::targets_fit-loop-e-preserved
targets::targets_fit-loop-e-preserved t c =
    goes_on (λ es. each_target_fits (tests_at c.args.asked.extent c.args.asked.fields) c.args.place (exprs (map tree_of es)))
    (λ e. fits_target (tests_at c.args.asked.extent c.args.asked.fields) c.args.place (tree_of e)) refl (λ _ _. refl) _ c.loop-e-test.true
    c.e-item.is c.loop-e.invariant c.in_ok-target_fits.ensures c.if-not-branch.false

pub parameters::each_parameter_fits-returns-then-not-branch : goal.parameters::each_parameter_fits-returns-then-not-branch
parameters::each_parameter_fits-returns-then-not-branch t c =
    stops (λ all. each_arg_fits (tests_at c.args.asked.extent c.args.asked.fields) c.args.annotated (args (map arg_of all)))
    (λ a. arg_fits (tests_at c.args.asked.extent c.args.asked.fields) c.args.annotated Expression (arg_of a)) refl (λ _ _. refl) _
    c.loop-a-test.true c.a-item.is c.in_ok-parameter_fits.ensures c.if-not-branch.true

pub parameters::each_parameter_fits-loop-a-preserved : goal.parameters::each_parameter_fits-loop-a-preserved
parameters::each_parameter_fits-loop-a-preserved t c =
    goes_on (λ all. each_arg_fits (tests_at c.args.asked.extent c.args.asked.fields) c.args.annotated (args (map arg_of all)))
    (λ a. arg_fits (tests_at c.args.asked.extent c.args.asked.fields) c.args.annotated Expression (arg_of a)) refl (λ _ _. refl) _
    c.loop-a-test.true c.a-item.is c.loop-a.invariant c.in_ok-parameter_fits.ensures c.if-not-branch.false

pub strings::each_value_fits-returns-then-not-branch : goal.strings::each_value_fits-returns-then-not-branch
strings::each_value_fits-returns-then-not-branch t c =
    stops (λ es. each_value_fits (tests_at c.args.asked.extent c.args.asked.fields) c.args.depth (exprs (map tree_of es)))
    (λ e. value_fits (tests_at c.args.asked.extent c.args.asked.fields) c.args.depth (tree_of e)) refl (λ _ _. refl) _
    c.loop-value-test.true c.value-item.is c.in_ok-value_fits.ensures c.if-not-branch.true

pub strings::each_value_fits-loop-value-preserved : goal.strings::each_value_fits-loop-value-preserved
strings::each_value_fits-loop-value-preserved t c =
    goes_on (λ es. each_value_fits (tests_at c.args.asked.extent c.args.asked.fields) c.args.depth (exprs (map tree_of es)))
    (λ e. value_fits (tests_at c.args.asked.extent c.args.asked.fields) c.args.depth (tree_of e)) refl (λ _ _. refl) _
    c.loop-value-test.true c.value-item.is c.loop-value.invariant c.in_ok-value_fits.ensures c.if-not-branch.false

pub strings::value_fits-returns-in_default : goal.strings::value_fits-returns-in_default
strings::value_fits-returns-in_default t c =
    sym (not_value c.args.value.now c.in_default.not-Constant c.in_default.not-FormattedValue
    (tests_at c.args.asked.extent c.args.asked.fields) c.args.depth)

pub strings::value_fits-returns-in_ok-spec_fits-in-FormattedValue : goal.strings::value_fits-returns-in_ok-spec_fits-in-FormattedValue
strings::value_fits-returns-in_ok-spec_fits-in-FormattedValue t c = rw (c.in-FormattedValue.is, formatted_value_tree)
    (both_and (leb c.args.depth 1) (fits_at (in_field (tests_at c.args.asked.extent c.args.asked.fields)) Expression
    (tree_of c.in-FormattedValue.value.value)) (spec_fits (tests_at c.args.asked.extent c.args.asked.fields) (suc c.args.depth)
    (optional (boxed_of c.in-FormattedValue.format_spec)))
    (elim c.if-depth-le1.branch [
      | strings::value_fits-then-depth-le1+in_ok-expr_fits-in-FormattedValue w ↦ value_told c.args.asked.extent c.args.asked.fields
          c.args.depth w.if-depth-le1.true w.value-is w.in_ok-expr_fits-in-FormattedValue.ensures w.in_field.ensures.same_extent
          w.in_field.ensures.one_field_more w.deref.ensures
      | strings::value_fits-else-depth-le1 w ↦ too_deep c.args.asked.extent c.args.asked.fields c.args.depth c.in-FormattedValue.value.value
          w.if-depth-le1.false w.value-is
    ])
    c.if-branch.true (spec_told c.args.asked.extent c.args.asked.fields c.args.depth (optional (boxed_of c.in-FormattedValue.format_spec))
    c.in_ok-spec_fits-in-FormattedValue.ensures))

pub strings::value_fits-returns-else-branch : goal.strings::value_fits-returns-else-branch
strings::value_fits-returns-else-branch t c = rw (c.in-FormattedValue.is, formatted_value_tree)
    (one_fails (leb c.args.depth 1) (fits_at (in_field (tests_at c.args.asked.extent c.args.asked.fields)) Expression
    (tree_of c.in-FormattedValue.value.value)) (spec_fits (tests_at c.args.asked.extent c.args.asked.fields) (suc c.args.depth)
    (optional (boxed_of c.in-FormattedValue.format_spec)))
    (elim c.if-depth-le1.branch [
      | strings::value_fits-then-depth-le1+in_ok-expr_fits-in-FormattedValue w ↦ value_told c.args.asked.extent c.args.asked.fields
          c.args.depth w.if-depth-le1.true w.value-is w.in_ok-expr_fits-in-FormattedValue.ensures w.in_field.ensures.same_extent
          w.in_field.ensures.one_field_more w.deref.ensures
      | strings::value_fits-else-depth-le1 w ↦ too_deep c.args.asked.extent c.args.asked.fields c.args.depth c.in-FormattedValue.value.value
          w.if-depth-le1.false w.value-is
    ])
    c.if-branch.false)

pub strings::spec_fits-returns-in_ok-each_value_fits-in-JoinedStr : goal.strings::spec_fits-returns-in_ok-each_value_fits-in-JoinedStr
strings::spec_fits-returns-in_ok-each_value_fits-in-JoinedStr t c = rw c.in-Some.is
    (subst (λ e. c.in_ok-each_value_fits-in-JoinedStr.field-0 ≡ spec_fits (tests_at c.args.asked.extent c.args.asked.fields) c.args.depth
    (present (tree_of e))) c.deref.ensures
    (then_rest (are_apart false (exprs (map tree_of c.in-JoinedStr.values.items)))
    (each_value_fits (tests_at c.args.asked.extent c.args.asked.fields) c.args.depth (exprs (map tree_of c.in-JoinedStr.values.items)))
    (sym (c.are_apart.ensures ∙ ap (λ es. are_apart false (exprs (map tree_of es))) c.deref-in-JoinedStr.ensures.value)
    ∙ c.if-are_apart.true)
    (c.in_ok-each_value_fits-in-JoinedStr.ensures
    ∙ ap (λ es. each_value_fits (tests_at c.args.asked.extent c.args.asked.fields) c.args.depth (exprs (map tree_of es)))
    c.deref-then-are_apart.ensures.value)
    ∙ joined_spec c.deref.result.now c.in-JoinedStr.values c.in-JoinedStr.is
    (tests_at c.args.asked.extent c.args.asked.fields) c.args.depth))

pub strings::spec_fits-returns-in_default : goal.strings::spec_fits-returns-in_default
strings::spec_fits-returns-in_default t c = rw c.in-Some.is
    (subst (λ e. false ≡ spec_fits (tests_at c.args.asked.extent c.args.asked.fields) c.args.depth (present (tree_of e))) c.deref.ensures
    (sym (not_spec c.deref.result.now c.in_default.not-JoinedStr (tests_at c.args.asked.extent c.args.asked.fields) c.args.depth)))

pub targets::target_fits-returns-in_default : goal.targets::target_fits-returns-in_default
targets::target_fits-returns-in_default t c =
    sym (not_target c.args.expr.now c.in_default.not-Attribute c.in_default.not-Subscript c.in_default.not-Name c.in_default.not-Starred
    c.in_default.not-List c.in_default.not-Tuple (tests_at c.args.asked.extent c.args.asked.fields) c.args.place)

pub expressions::options_fit-returns-then-not-fits : goal.expressions::options_fit-returns-then-not-fits
expressions::options_fit-returns-then-not-fits t c =
    stops (λ es. each_perhaps_fits (tests_at c.args.asked.extent c.args.asked.fields) (optionals (map option_of es)))
    (λ e. perhaps_fits (tests_at c.args.asked.extent c.args.asked.fields) Expression (optional (option_of e))) refl (λ _ _. refl) _
    c.loop-e-test.true c.e-item.is
    (elim c.match-e.branch [
      | expressions::options_fit-in-None w ↦ w.fits-is
          ∙ sym (ap (λ e. perhaps_fits (tests_at c.args.asked.extent c.args.asked.fields) Expression (optional (option_of e))) w.in-None.is)
      | expressions::options_fit-in-Some+in_ok-fits-in-Some w ↦ w.fits-is ∙ w.in_ok-fits-in-Some.ensures
          ∙ sym (ap (λ e. perhaps_fits (tests_at c.args.asked.extent c.args.asked.fields) Expression (optional (option_of e))) w.in-Some.is)
    ]) c.if-not-fits.true

pub expressions::options_fit-loop-e-preserved : goal.expressions::options_fit-loop-e-preserved
expressions::options_fit-loop-e-preserved t c =
    goes_on (λ es. each_perhaps_fits (tests_at c.args.asked.extent c.args.asked.fields) (optionals (map option_of es)))
    (λ e. perhaps_fits (tests_at c.args.asked.extent c.args.asked.fields) Expression (optional (option_of e))) refl (λ _ _. refl) _
    c.loop-e-test.true c.e-item.is c.loop-e.invariant
    (elim c.match-e.branch [
      | expressions::options_fit-in-None w ↦ w.fits-is
          ∙ sym (ap (λ e. perhaps_fits (tests_at c.args.asked.extent c.args.asked.fields) Expression (optional (option_of e))) w.in-None.is)
      | expressions::options_fit-in-Some+in_ok-fits-in-Some w ↦ w.fits-is ∙ w.in_ok-fits-in-Some.ensures
          ∙ sym (ap (λ e. perhaps_fits (tests_at c.args.asked.extent c.args.asked.fields) Expression (optional (option_of e))) w.in-Some.is)
    ]) c.if-not-fits.false
