use Rattle.std.proofs.Common.{◌≡◌, ◌==◌, ◌+◌, ◌&&◌, nat_eq, drop, false, ◌<◌, ◌∙◌, ◌++◌, ◌∷◌, [], ap, arith, length, map, refl, sym}
use Rattle.std.proofs.lemmas.Result.{IfOk-equal}
use Rattle.pylex_lexeme.specs.declared.kinds.Exact.TheVariants.{Colon, Comma, Equal, LBrace, RBrace, Star}
use Rattle.pytree_node.specs.declared.expressions.Arg as given_arg
use Rattle.pytree_node.specs.declared.expressions.Arguments as given_arguments
use Rattle.pytree_node.specs.declared.expressions.Call as given_call
use Rattle.pytree_node.specs.declared.expressions.Compare as given_compare
use Rattle.pytree_node.specs.declared.expressions.DictComp as given_dict_comp
use Rattle.pytree_node.specs.declared.expressions.Slice as given_slice
use Rattle.pytree_node.specs.declared.expressions.Keyword as given_keyword
use Rattle.pytree_node.specs.declared.operators.Comparison.TheVariants as Is
use Rattle.pytree_node.specs.Trees.{args, comprehensions, exprs, keywords, optional, optional_arg, optionals}
use Rattle.pytree_node.specs.TreeOf.{arg_of, arg_option_of, arguments_of, boxed_of, call_of, compare_of, comprehension_of, dict_of}
use Rattle.pytree_node.specs.TreeOf.{dict_comp_of}
use Rattle.pytree_node.specs.TreeOf.{keyword_of, option_of, slice_of, tree_of}
use Rattle.pytree_node.proofs.Callers.ExprShapes.{arg_tree, arguments_tree, attribute_tree, await_tree, bin_op_tree, bool_op_tree}
use Rattle.pytree_node.proofs.Callers.ExprShapes.{call_tree, compare_tree, comprehension_tree, constant_tree, dict_comp_tree, dict_tree}
use Rattle.pytree_node.proofs.Callers.ExprShapes.{formatted_value_tree, generator_exp_tree, if_exp_tree, joined_str_tree, keyword_tree}
use Rattle.pytree_node.proofs.Callers.ExprShapes.{lambda_tree, list_comp_tree, list_tree, name_tree, named_expr_tree, set_comp_tree}
use Rattle.pytree_node.proofs.Callers.ExprShapes.{set_tree, slice_tree, starred_tree, subscript_tree, tuple_tree, unary_op_tree}
use Rattle.pytree_node.proofs.Callers.ExprShapes.{yield_from_tree, yield_tree, call_shape, compare_shape, dict_shape, dict_comp_shape}
use Rattle.pytree_node.proofs.Callers.ExprShapes.{slice_shape}
use Rattle.pygrammar.specs.declared.levels.Level.TheVariants.{BitOr, Elem, Expression, Named, Or}
use Rattle.pytree_height.specs.Heights.{arg_height, arg_heights, comprehension_heights, height, heights, keyword_heights, optional_height}
use Rattle.pytree_height.specs.Heights.{optional_heights}
use Rattle.pytoken.specs.Terminals.{in_form}
use Rattle.pytoken.proofs.Callers.Bodies.{read_again}
use Rattle.pyunparse_text.specs.Levels.{reaches}
use Rattle.pyunparse_text.specs.Marks.{in_role}
use Rattle.pyunparse_text.specs.Pieces.{piece, pieces}
use Rattle.pyunparse_text.specs.Written.{Text, by_name, clauses, conditions, each, element_level, elements_after, field, first_text, free}
use Rattle.pyunparse_text.specs.Written.{gathered, leading, listed, names, pairs, spec_elements, suffixed, tight, trailing, tuple_level}
use Rattle.pyunparse_text.specs.Written.{with_star, written, written_keys}
use Rattle.pyunparse.specs.Inner.Arguments.{argument, argument_name}
use Rattle.pyunparse.specs.Inner.Clauses.{clause, clause_height, condition}
use Rattle.pyunparse_text.specs.Folds.{puts, puts_elements}
use Rattle.pyunparse.specs.Inner.Members.{members, padded}
use Rattle.pyunparse_text.specs.Marks.{mark}
use Rattle.pyunparse.specs.Inner.Pairs.{pair}
use Rattle.pyunparse.specs.Inner.Parameters.{named as named_arg, positional}
use Rattle.pyunparse.proofs.ExpressionParts.ArgumentLemmas.{alone_is, args_listed, lone_some}
use Rattle.pyunparse.proofs.ExpressionParts.ClassLemmas.{attribute, awaited, binary, call, chain, comparison, conditional}
use Rattle.pyunparse.proofs.ExpressionParts.ClassLemmas.{dict_comprehension, lambda, named, prefixed, slice, subscript, yielded}
use Rattle.pyunparse.proofs.ExpressionParts.ClassLemmas.{dict_pieces, yielded_from}
use Rattle.pyunparse.proofs.Sequences.FoldLemmas.{enclosed_on, three, two}
use Rattle.pyunparse.proofs.Shapes.MeasureLemmas.{boxed_height, call_height, compare_height, dict_height, dict_comp_height}
use Rattle.pyunparse.proofs.Shapes.MeasureLemmas.{formatted_height, gathered_lower}
use Rattle.pyunparse.proofs.Shapes.MeasureLemmas.{generator_height, joined_height, keyword_height, keyword_only_lower, named_arg_height}
use Rattle.pyunparse.proofs.Shapes.MeasureLemmas.{parts_height, places_lower, slice_height, star_lower}
use Rattle.pyunparse.proofs.Sequences.MemberLemmas.{all_items, all_parts, both_done, both_on, compared_done, compared_on, item_on}
use Rattle.pyunparse.proofs.Sequences.MemberLemmas.{members_none, no_higher, part_on, rest_no_higher, take_rest}
use Rattle.pyunparse.proofs.ExpressionParts.ParameterLemmas.{D, N, places_on, default_bare, default_none, default_some, parameters_told}
use Rattle.pyunparse.proofs.ExpressionParts.ParameterLemmas.{plain_done, plain_on, plain_start}
use Rattle.pyunparse.proofs.ExpressionParts.PartLemmas.{by_name_more, clause_on, kwonly, kwonly_more, no_defaults, no_params, no_keys}
use Rattle.pyunparse.proofs.ExpressionParts.PartLemmas.{no_values, pair_more, pairs_of}
use Rattle.pyunparse_text.proofs.Callers.Writing.{not_alone}
use Rattle.pyunparse.proofs.ExpressionParts.StarLemmas.{gathered_on, star_given, star_on}
use Rattle.pyunparse.proofs.ExpressionParts.StringLemmas.{field_on, marked, spec_on, string_end, string_on, text_on, unmarked, value_on}
use Rattle.pyunparse.proofs.ExpressionParts.StringLemmas.{values_done}
use Rattle.pyunparse.proofs.ExpressionParts.TupleLemmas.{tuple}
use Rattle.pyunparse.proofs.Shapes.ValueLemmas.{not_field, not_spec}
use Rattle.pyunparse.proofs.+writing.Goals as goal

pub operators::write_chain-returns : goal.operators::write_chain-returns
operators::write_chain-returns g t c = IfOk-equal _ _ _ _ c.close.ensures
    (chain g.W.Writer.after c.args.out.now c.args.level _ c.args.op (exprs (map tree_of c.args.values.now)) _ _ _ _
    (c.reaches-bare.ensures ∙ ap (reaches c.args.level) c.chain_level.ensures) c.chain_member_level.ensures c.chain_mark.ensures
    c.in_ok-open.ensures c.in_ok-write_members.ensures)

pub operators::write_named-returns : goal.operators::write_named-returns
operators::write_named-returns g t c = IfOk-equal _ _ _ _ c.close.ensures
    (named g.W.Writer.after c.args.out.now c.args.level _ (tree_of c.args.target.now) (tree_of c.args.value.now) _ _ _ _
    c.reaches-bare.ensures c.in_ok-open.ensures c.in_ok-write_expr.ensures c.in_ok-put_sign.ensures c.in_ok-write_expr-2.ensures)

pub operators::write_binary-returns : goal.operators::write_binary-returns
operators::write_binary-returns g t c = IfOk-equal _ _ _ _ c.close.ensures
    (binary g.W.Writer.after c.args.out.now c.args.level _ (tree_of c.args.left.now) c.args.op (tree_of c.args.right.now) _ _ _ _ _ _ _
    (c.reaches-bare.ensures ∙ ap (reaches c.args.level) c.operator_level.ensures) c.left_level.ensures c.right_level.ensures
    c.operator_sign.ensures c.in_ok-open.ensures c.in_ok-write_expr.ensures c.in_ok-put_sign.ensures c.in_ok-write_expr-2.ensures)

pub operators::write_unary-returns : goal.operators::write_unary-returns
operators::write_unary-returns g t c = IfOk-equal _ _ _ _ c.close.ensures
    (prefixed g.W.Writer.after c.args.out.now c.args.level _ c.args.op (tree_of c.args.operand.now) _ _ _ _
    (c.reaches-bare.ensures ∙ ap (reaches c.args.level) c.unary_level.ensures) c.unary_level-2.ensures c.in_ok-open.ensures
    c.in_ok-put_unary.ensures c.in_ok-write_expr.ensures)

pub operators::write_lambda-returns : goal.operators::write_lambda-returns
operators::write_lambda-returns g t c = IfOk-equal _ _ _ _ c.close.ensures
    (lambda g.W.Writer.after c.args.out.now c.args.level _ (arguments_of c.args.args.now) (tree_of c.args.body.now) _ _ _ _ _
    c.reaches-bare.ensures c.in_ok-open.ensures c.in_ok-put_word.ensures c.in_ok-write_parameters.ensures c.in_ok-put_sign.ensures
    c.in_ok-write_expr.ensures)

pub operators::write_conditional-returns : goal.operators::write_conditional-returns
operators::write_conditional-returns g t c = IfOk-equal _ _ _ _ c.close.ensures
    (conditional g.W.Writer.after c.args.out.now c.args.level _ (tree_of c.args.test.now) (tree_of c.args.body.now)
    (tree_of c.args.orelse.now) _ _ _ _ _ _
    c.reaches-bare.ensures c.in_ok-open.ensures c.in_ok-write_expr.ensures c.in_ok-put_word.ensures c.in_ok-write_expr-2.ensures
    c.in_ok-put_word-2.ensures c.in_ok-write_expr-3.ensures)

pub operators::write_await-returns : goal.operators::write_await-returns
operators::write_await-returns g t c = IfOk-equal _ _ _ _ c.close.ensures
    (awaited g.W.Writer.after c.args.out.now c.args.level _ (tree_of c.args.value.now) _ _ _
    c.reaches-bare.ensures c.in_ok-open.ensures c.in_ok-put_word.ensures c.in_ok-write_expr.ensures)

pub operators::write_yield-returns : goal.operators::write_yield-returns
operators::write_yield-returns g t c = IfOk-equal _ _ _ _ c.close.ensures
    (yielded g.W.Writer.after c.args.out.now c.args.level _ (optional (boxed_of c.args.value.now)) _ _ _
    c.reaches-bare.ensures c.in_ok-open.ensures c.in_ok-put_word.ensures c.in_ok-write_perhaps.ensures)

pub operators::write_yield_from-returns : goal.operators::write_yield_from-returns
operators::write_yield_from-returns g t c = IfOk-equal _ _ _ _ c.close.ensures
    (yielded_from g.W.Writer.after c.args.out.now c.args.level _ (tree_of c.args.value.now) _ _ _ _
    c.reaches-bare.ensures c.in_ok-open.ensures c.in_ok-put_word.ensures c.in_ok-put_word-2.ensures c.in_ok-write_expr.ensures)

pub operators::write_compare-returns : goal.operators::write_compare-returns
operators::write_compare-returns g t c = rw (compare_shape, sym c.deref.ensures.value, sym c.deref-2.ensures.value)
    (IfOk-equal _ _ _ _ c.close.ensures
    (comparison g.W.Writer.after c.args.out.now c.args.level _
    (tree_of (given_compare.out-Compare c.args.compare.now).left) c.deref.result.now
    (exprs (map tree_of c.deref-2.result.now)) _ _ _
    c.reaches-bare.ensures c.in_ok-open.ensures c.in_ok-write_expr.ensures c.in_ok-write_compared.ensures))

pub calls::write_attribute-returns : goal.calls::write_attribute-returns
calls::write_attribute-returns g t c = λ k. IfOk-equal _ _ _ _ c.close.ensures
    (attribute g.W.Writer.after c.args.out.now c.args.level _ (tree_of c.args.value.now) c.args.attr.now k _ _ _ _
    c.reaches-bare.ensures c.in_ok-open.ensures c.in_ok-write_expr.ensures c.in_ok-put_sign.ensures c.in_ok-put_name.ensures)

pub calls::write_subscript-returns : goal.calls::write_subscript-returns
calls::write_subscript-returns g t c = λ k. IfOk-equal _ _ _ _ c.close.ensures
    (subscript g.W.Writer.after c.args.out.now c.args.level _ (tree_of c.args.value.now) (tree_of c.args.slice.now) k _ _ _ _ _
    c.reaches-bare.ensures c.in_ok-open.ensures c.in_ok-write_expr.ensures c.in_ok-put_sign.ensures c.in_ok-write_expr-2.ensures
    c.in_ok-put_sign-2.ensures)

pub calls::write_call-returns : goal.calls::write_call-returns
calls::write_call-returns g t c = rw (call_shape, sym c.deref.ensures.value, sym c.deref-2.ensures.value)
    (IfOk-equal _ _ _ _ c.close.ensures
    (call g.W.Writer.after c.args.out.now c.args.level _ (tree_of (given_call.out-Call c.args.call.now).func)
    (exprs (map tree_of c.deref.result.now)) (keywords (map keyword_of c.deref-2.result.now)) _ _ _ _ _
    c.reaches-bare.ensures c.in_ok-open.ensures c.in_ok-write_expr.ensures c.in_ok-put_sign.ensures c.in_ok-write_arguments.ensures
    c.in_ok-put_sign-2.ensures))

pub tuples::write_slice-returns : goal.tuples::write_slice-returns
tuples::write_slice-returns g t c = let o = given_slice.out-Slice c.args.slice.now in
    rw slice_shape
    (IfOk-equal _ _ _ _ c.close.ensures
    (slice g.W.Writer.after c.args.out.now c.args.level _ (optional (boxed_of o.lower)) (optional (boxed_of o.upper))
    (optional (boxed_of o.step)) _ _ _ _ _
    c.reaches-bare.ensures c.in_ok-open.ensures c.in_ok-write_perhaps.ensures c.in_ok-put_sign.ensures c.in_ok-write_perhaps-2.ensures
    c.in_ok-write_suffix.ensures))

pub tuples::write_tuple-returns : goal.tuples::write_tuple-returns
tuples::write_tuple-returns g t c = λ k. IfOk-equal _ _ _ _ c.close.ensures
    (tuple g.W.Writer.after c.args.out.now c.args.level (exprs (map tree_of c.args.elts.now)) k _ _ _ _ _ _ _
    (c.tuple_level-place.ensures ∙ ap (tuple_level c.args.level) c.some_named-named.ensures) (c.element_level.ensures
    ∙ ap (element_level c.args.level) c.some_named-named.ensures)
    c.are_bare-bare.ensures c.is_alone.ensures c.in_ok-open.ensures c.in_ok-write_members.ensures c.in_ok-put_last.ensures)

pub displays::write_display-returns : goal.displays::write_display-returns
displays::write_display-returns g t c = IfOk-equal _ _ _ _ c.put_sign-2.ensures
    (enclosed_on g.W.Writer.after c.args.out.now _ c.args.closer (listed piece (each piece Elem (exprs (map tree_of c.args.elts.now)))) _ _
    c.in_ok-put_sign.ensures c.in_ok-write_members.ensures)

pub displays::write_dict-returns : goal.displays::write_dict-returns
displays::write_dict-returns g t c = λ level. rw (dict_shape, sym c.deref.ensures.value, sym c.deref-2.ensures.value, dict_pieces)
    (IfOk-equal _ _ _ _ c.put_sign-2.ensures
    (enclosed_on g.W.Writer.after c.args.out.now (leading piece LBrace) RBrace
    (listed piece (pairs piece (written_keys piece (optionals (map option_of c.deref.result.now)))
    (exprs (map tree_of c.deref-2.result.now)))) _ _
    c.in_ok-put_sign.ensures c.in_ok-write_pairs.ensures))

pub clauses::write_comprehension-returns : goal.clauses::write_comprehension-returns
clauses::write_comprehension-returns g t c = IfOk-equal _ _ _ _ c.put_sign-2.ensures
    (enclosed_on g.W.Writer.after c.args.out.now _ c.args.closer (pieces Named (tree_of c.args.elt.now) ++ clauses piece
    (comprehensions (map comprehension_of c.args.generators.now))) _ _
    c.in_ok-put_sign.ensures c.in_ok-write_generator.ensures)

pub clauses::write_generator-returns : goal.clauses::write_generator-returns
clauses::write_generator-returns g t c = IfOk-equal _ _ _ _ c.write_clauses.ensures
    (two g.W.Writer.after c.args.out.now (pieces Named (tree_of c.args.elt.now))
    (clauses piece (comprehensions (map comprehension_of c.args.generators.now))) _
    c.in_ok-write_expr.ensures)

pub clauses::write_dict_comprehension-returns : goal.clauses::write_dict_comprehension-returns
unfolding written
clauses::write_dict_comprehension-returns g t c = let o = given_dict_comp.out-DictComp c.args.comp.now in
    λ level. rw (dict_comp_shape, sym c.deref.ensures.value)
    (IfOk-equal _ _ _ _ c.put_sign-3.ensures
    (dict_comprehension g.W.Writer.after c.args.out.now (tree_of o.key) (tree_of o.value)
    (comprehensions (map comprehension_of c.deref.result.now)) _ _ _ _ _
    c.in_ok-put_sign.ensures c.in_ok-write_expr.ensures c.in_ok-put_sign-2.ensures c.in_ok-write_expr-2.ensures
    c.in_ok-write_clauses.ensures))

pub displays::write_members-loop-e-preserved : goal.displays::write_members-loop-e-preserved
unfolding written
displays::write_members-loop-e-preserved g t c = item_on g.W.Writer.after _ _ c.loop-e.first (mark c.args.between)
    (λ xs. each piece c.args.level (exprs (map tree_of xs))) (λ x. pieces c.args.level (tree_of x)) (λ _ _. refl) c.args.es.now _ _ _ _
    c.loop-e-test.true c.e-item.is c.loop-e.invariant c.in_ok-put_between.ensures c.in_ok-write_expr.ensures

pub displays::write_members-returns : goal.displays::write_members-returns
unfolding written
displays::write_members-returns g t c = all_items g.W.Writer.after _ c.loop-e.out c.loop-e.first (mark c.args.between)
    (λ xs. each piece c.args.level (exprs (map tree_of xs))) refl c.args.es.now _ c.loop-e-test.false c.loop-e.invariant

pub displays::write_members-write_expr-requires : goal.displays::write_members-write_expr-requires
displays::write_members-write_expr-requires g t c = let h : _ = no_higher (λ xs. heights (exprs (map tree_of xs))) (λ x. height (tree_of x))
    (λ _ _. refl) _ _ _ c.loop-e-test.true c.e-item.is in (λ κs l. (omega (arith, h), l))

pub clauses::write_conditions-loop-test-preserved : goal.clauses::write_conditions-loop-test-preserved
unfolding written
clauses::write_conditions-loop-test-preserved g t c = part_on g.W.Writer.after _ _ (λ xs. conditions piece (exprs (map tree_of xs)))
    (λ x. condition (tree_of x)) (λ _ _. refl) c.args.ifs.now _ _ _
    c.loop-test-test.true c.test-item.is c.loop-test.invariant c.in_ok-write_condition.ensures

pub clauses::write_conditions-returns : goal.clauses::write_conditions-returns
unfolding written
clauses::write_conditions-returns g t c = all_parts g.W.Writer.after _ c.loop-test.out (λ xs. conditions piece (exprs (map tree_of xs)))
    refl c.args.ifs.now _ c.loop-test-test.false c.loop-test.invariant

pub clauses::write_conditions-write_condition-requires : goal.clauses::write_conditions-write_condition-requires
clauses::write_conditions-write_condition-requires g t c = let h : _ = no_higher (λ xs. heights (exprs (map tree_of xs)))
    (λ x. height (tree_of x)) (λ _ _. refl) _ _ _ c.loop-test-test.true c.test-item.is in (λ κs l. (omega (arith, h), l))

pub clauses::write_clauses-loop-generator-preserved : goal.clauses::write_clauses-loop-generator-preserved
unfolding written
clauses::write_clauses-loop-generator-preserved g t c =
    part_on g.W.Writer.after _ _ (λ xs. clauses piece (comprehensions (map comprehension_of xs))) (λ x. clause (comprehension_of x))
    (λ _ _. refl) c.args.generators.now _ _ _
    c.loop-generator-test.true c.generator-item.is c.loop-generator.invariant c.in_ok-write_clause.ensures

pub clauses::write_clauses-returns : goal.clauses::write_clauses-returns
unfolding written
clauses::write_clauses-returns g t c =
    all_parts g.W.Writer.after _ c.loop-generator.out (λ xs. clauses piece (comprehensions (map comprehension_of xs))) refl
    c.args.generators.now _ c.loop-generator-test.false c.loop-generator.invariant

pub clauses::write_clauses-write_clause-requires : goal.clauses::write_clauses-write_clause-requires
clauses::write_clauses-write_clause-requires g t c = let h : _ =
    no_higher (λ xs. comprehension_heights (comprehensions (map comprehension_of xs))) (λ x. clause_height (comprehension_of x))
    (λ _ _. refl) _ _ _ c.loop-generator-test.true c.generator-item.is in (λ κs l. (omega (arith, h), l))

pub calls::write_keywords-loop-word-preserved : goal.calls::write_keywords-loop-word-preserved
unfolding written
calls::write_keywords-loop-word-preserved g t c = item_on g.W.Writer.after _ _ c.loop-word.first (trailing piece Comma)
    (λ xs. by_name piece (keywords (map keyword_of xs))) (λ x. argument (keyword_of x))
    (λ x xs. by_name_more (keyword_of x) (keywords (map keyword_of xs))) c.args.words.now _ _ _ _
    c.loop-word-test.true c.word-item.is c.loop-word.invariant c.in_ok-put_between.ensures c.in_ok-write_keyword.ensures

pub calls::write_keywords-returns : goal.calls::write_keywords-returns
unfolding written
calls::write_keywords-returns g t c = all_items g.W.Writer.after _ c.loop-word.out c.loop-word.first (trailing piece Comma)
    (λ xs. by_name piece (keywords (map keyword_of xs))) refl c.args.words.now _ c.loop-word-test.false c.loop-word.invariant

pub calls::write_keywords-write_keyword-requires : goal.calls::write_keywords-write_keyword-requires
calls::write_keywords-write_keyword-requires g t c = let h : _ = no_higher (λ xs. keyword_heights (keywords (map keyword_of xs)))
    (λ x. height (keyword_of x).value) (λ _ _. refl) _ _ _ c.loop-word-test.true c.word-item.is in (λ κs l. (omega (arith, h), l))

pub expressions::write_expr-returns-in-BoolOp : goal.expressions::write_expr-returns-in-BoolOp
expressions::write_expr-returns-in-BoolOp g t c = rw (c.in-BoolOp.is, bool_op_tree, sym c.deref.ensures.value) c.write_chain.ensures

pub expressions::write_expr-returns-in-NamedExpr : goal.expressions::write_expr-returns-in-NamedExpr
expressions::write_expr-returns-in-NamedExpr g t c = rw (
  c.in-NamedExpr.is,
  named_expr_tree,
  sym c.deref-in-NamedExpr.ensures,
  sym c.deref-in-NamedExpr-2.ensures,
) c.write_named.ensures

pub expressions::write_expr-returns-in-BinOp : goal.expressions::write_expr-returns-in-BinOp
expressions::write_expr-returns-in-BinOp g t c = rw (
  c.in-BinOp.is,
  bin_op_tree,
  sym c.deref-in-BinOp.ensures,
  sym c.deref-in-BinOp-2.ensures,
) c.write_binary.ensures

pub expressions::write_expr-returns-in-UnaryOp : goal.expressions::write_expr-returns-in-UnaryOp
expressions::write_expr-returns-in-UnaryOp g t c = rw (c.in-UnaryOp.is, unary_op_tree, sym c.deref-in-UnaryOp.ensures) c.write_unary.ensures

pub expressions::write_expr-returns-in-Lambda : goal.expressions::write_expr-returns-in-Lambda
expressions::write_expr-returns-in-Lambda g t c = rw (
  c.in-Lambda.is,
  lambda_tree,
  sym c.deref-in-Lambda.ensures,
  sym c.deref-in-Lambda-2.ensures,
) c.write_lambda.ensures

pub expressions::write_expr-returns-in-IfExp : goal.expressions::write_expr-returns-in-IfExp
expressions::write_expr-returns-in-IfExp g t c = rw (
  c.in-IfExp.is,
  if_exp_tree,
  sym c.deref-in-IfExp.ensures,
  sym c.deref-in-IfExp-2.ensures,
  sym c.deref-in-IfExp-3.ensures,
) c.write_conditional.ensures

pub expressions::write_expr-returns-in-Dict : goal.expressions::write_expr-returns-in-Dict
expressions::write_expr-returns-in-Dict g t c = rw (c.in-Dict.is, dict_tree, sym c.deref-in-Dict.ensures)
    (c.write_dict.ensures c.args.level)

pub expressions::write_expr-returns-in-Set : goal.expressions::write_expr-returns-in-Set
unfolding written
expressions::write_expr-returns-in-Set g t c = rw (c.in-Set.is, set_tree, sym c.deref-in-Set.ensures.value) c.write_display.ensures

pub expressions::write_expr-returns-in-ListComp : goal.expressions::write_expr-returns-in-ListComp
unfolding written
expressions::write_expr-returns-in-ListComp g t c = rw (
  c.in-ListComp.is,
  list_comp_tree,
  sym c.deref-in-ListComp.ensures,
  sym c.deref-in-ListComp-2.ensures.value,
) c.write_comprehension.ensures

pub expressions::write_expr-returns-in-SetComp : goal.expressions::write_expr-returns-in-SetComp
unfolding written
expressions::write_expr-returns-in-SetComp g t c = rw (
  c.in-SetComp.is,
  set_comp_tree,
  sym c.deref-in-SetComp.ensures,
  sym c.deref-in-SetComp-2.ensures.value,
) c.write_comprehension-in-SetComp.ensures

pub expressions::write_expr-returns-in-DictComp : goal.expressions::write_expr-returns-in-DictComp
expressions::write_expr-returns-in-DictComp g t c = rw (c.in-DictComp.is, dict_comp_tree, sym c.deref-in-DictComp.ensures)
    (c.write_dict_comprehension.ensures c.args.level)

pub expressions::write_expr-returns-in-GeneratorExp : goal.expressions::write_expr-returns-in-GeneratorExp
unfolding written
expressions::write_expr-returns-in-GeneratorExp g t c = rw (
  c.in-GeneratorExp.is,
  generator_exp_tree,
  sym c.deref-in-GeneratorExp.ensures,
  sym c.deref-in-GeneratorExp-2.ensures.value,
) c.write_comprehension-in-GeneratorExp.ensures

pub expressions::write_expr-returns-in-Await : goal.expressions::write_expr-returns-in-Await
expressions::write_expr-returns-in-Await g t c = rw (c.in-Await.is, await_tree, sym c.deref-in-Await.ensures) c.write_await.ensures

pub expressions::write_expr-returns-in-Yield : goal.expressions::write_expr-returns-in-Yield
expressions::write_expr-returns-in-Yield g t c = rw (c.in-Yield.is, yield_tree) c.write_yield.ensures

pub expressions::write_expr-returns-in-YieldFrom : goal.expressions::write_expr-returns-in-YieldFrom
expressions::write_expr-returns-in-YieldFrom g t c = rw (c.in-YieldFrom.is, yield_from_tree, sym c.deref-in-YieldFrom.ensures)
    c.write_yield_from.ensures

pub expressions::write_expr-returns-in-Compare : goal.expressions::write_expr-returns-in-Compare
expressions::write_expr-returns-in-Compare g t c =
    rw (c.in-Compare.is, compare_tree, sym c.deref-in-Compare.ensures) c.write_compare.ensures

pub expressions::write_expr-returns-in-Call : goal.expressions::write_expr-returns-in-Call
expressions::write_expr-returns-in-Call g t c = rw (c.in-Call.is, call_tree, sym c.deref-in-Call.ensures) c.write_call.ensures

pub expressions::write_expr-returns-in-Constant : goal.expressions::write_expr-returns-in-Constant
unfolding written
expressions::write_expr-returns-in-Constant g t c = rw (c.in-Constant.is, constant_tree) c.put_constant.ensures

pub expressions::write_expr-returns-in-Attribute : goal.expressions::write_expr-returns-in-Attribute
expressions::write_expr-returns-in-Attribute g t c = rw (c.in-Attribute.is, attribute_tree, sym c.deref-in-Attribute.ensures)
    (c.write_attribute.ensures c.in-Attribute.ctx)

pub expressions::write_expr-returns-in-Subscript : goal.expressions::write_expr-returns-in-Subscript
expressions::write_expr-returns-in-Subscript g t c = rw (
  c.in-Subscript.is,
  subscript_tree,
  sym c.deref-in-Subscript.ensures,
  sym c.deref-in-Subscript-2.ensures,
) (c.write_subscript.ensures c.in-Subscript.ctx)

pub expressions::write_expr-returns-in-Name : goal.expressions::write_expr-returns-in-Name
unfolding written
expressions::write_expr-returns-in-Name g t c = rw (c.in-Name.is, name_tree) c.put_name.ensures

pub expressions::write_expr-returns-in-List : goal.expressions::write_expr-returns-in-List
unfolding written
expressions::write_expr-returns-in-List g t c = rw (c.in-List.is, list_tree, sym c.deref-in-List.ensures.value)
    c.write_display-in-List.ensures

pub expressions::write_expr-returns-in-Tuple : goal.expressions::write_expr-returns-in-Tuple
expressions::write_expr-returns-in-Tuple g t c = rw (c.in-Tuple.is, tuple_tree, sym c.deref-in-Tuple.ensures.value)
    (c.write_tuple.ensures c.in-Tuple.ctx)

pub expressions::write_expr-returns-in-Slice : goal.expressions::write_expr-returns-in-Slice
expressions::write_expr-returns-in-Slice g t c = rw (c.in-Slice.is, slice_tree, sym c.deref-in-Slice.ensures) c.write_slice.ensures

pub displays::write_pairs-loop-i-preserved : goal.displays::write_pairs-loop-i-preserved
displays::write_pairs-loop-i-preserved g t c = both_on g.W.Writer.after _ _ c.loop-i.first (trailing piece Comma) pairs_of
    (λ k e. pair (option_of k) (tree_of e)) pair_more c.args.keys.now c.args.values.now c.loop-i.i _ _ _ _
    (omega arith) c.index-keys-i.is (omega arith) c.index-values-i.is c.loop-i.invariant c.in_ok-put_between.ensures
    c.in_ok-write_pair.ensures

pub displays::write_pairs-returns : goal.displays::write_pairs-returns
displays::write_pairs-returns g t c = both_done g.W.Writer.after _ c.loop-i.out c.loop-i.first (trailing piece Comma) pairs_of no_keys
    no_values c.args.keys.now c.args.values.now c.loop-i.i (omega arith) c.loop-i.invariant

pub displays::write_pairs-write_pair-requires : goal.displays::write_pairs-write_pair-requires
displays::write_pairs-write_pair-requires g t c =
    let a : c.loop-i.i < length c.args.keys.now = omega arith in
    let b : c.loop-i.i < length c.args.values.now = omega arith in
    let h : _ = no_higher (λ xs. optional_heights (optionals (map option_of xs))) (λ x. optional_height (optional (option_of x)))
    (λ _ _. refl) _ _ _ a c.index-keys-i.is in
    let k : _ = no_higher (λ xs. heights (exprs (map tree_of xs))) (λ x. height (tree_of x)) (λ _ _. refl) _ _ _ b c.index-values-i.is in
    (λ κs l. (omega (arith, h, k), l))

pub clauses::write_clause-returns : goal.clauses::write_clause-returns
clauses::write_clause-returns g t c = rw (comprehension_tree, sym c.deref.ensures.value) (IfOk-equal _ _ _ _ c.write_conditions.ensures
    (clause_on g.W.Writer.after c.args.out.now _ _ _ _ c.in_ok-put_for.ensures c.in_ok-write_expr.ensures c.in_ok-put_word.ensures
    c.in_ok-write_expr-2.ensures))

pub calls::write_keyword-returns : goal.calls::write_keyword-returns
calls::write_keyword-returns g t c = rw keyword_tree (IfOk-equal _ _ _ _ c.write_expr.ensures
    (two g.W.Writer.after c.args.out.now (argument_name (given_keyword.out-Keyword c.args.word.now).arg)
    (pieces Expression (tree_of (given_keyword.out-Keyword c.args.word.now).value)) _ c.in_ok-put_argument_name.ensures))

pub parameters::write_named_arg-returns : goal.parameters::write_named_arg-returns
parameters::write_named_arg-returns g t c = rw arg_tree (IfOk-equal _ _ _ _ c.write_suffix.ensures
    (two g.W.Writer.after c.args.out.now (free piece (in_form (given_arg.out-Arg c.args.arg.now).arg) ∷ [])
    (suffixed piece (trailing piece Colon) (optional (boxed_of (given_arg.out-Arg c.args.arg.now).annotation))) _
    c.in_ok-put_name.ensures))

pub parameters::write_plain-loop-i-preserved : goal.parameters::write_plain-loop-i-preserved
parameters::write_plain-loop-i-preserved g t c = plain_on g.W.Writer.after _ _ c.loop-i.first c.args.params.now c.args.bare c.loop-i.i
    c.args.given.now _ _ _ _
    c.loop-i-test.true c.index-params-i.is c.loop-i.invariant c.in_ok-put_between.ensures c.in_ok-write_named_arg.ensures
    c.in_ok-write_default.ensures

pub parameters::write_plain-loop-i-init : goal.parameters::write_plain-loop-i-init
parameters::write_plain-loop-i-init g t c = plain_start g.W.Writer.after c.args.out.now c.args.is_first c.args.params.now
    c.args.bare c.args.given.now

pub parameters::write_plain-returns : goal.parameters::write_plain-returns
parameters::write_plain-returns g t c = plain_done g.W.Writer.after _ c.loop-i.out c.loop-i.first c.args.params.now c.args.bare c.loop-i.i _
    c.loop-i-test.false c.loop-i.invariant

pub parameters::write_plain-write_named_arg-requires : goal.parameters::write_plain-write_named_arg-requires
parameters::write_plain-write_named_arg-requires g t c =
    let h : _ = no_higher (λ xs. arg_heights (args (map arg_of xs))) (λ x. arg_height (arg_of x)) (λ _ _. refl) _ _ _ c.loop-i-test.true
    c.index-params-i.is in (λ κs l. (omega (arith, h), l))

pub parameters::write_keyword_only-loop-i-preserved : goal.parameters::write_keyword_only-loop-i-preserved
parameters::write_keyword_only-loop-i-preserved g t c = both_on g.W.Writer.after _ _ false (trailing piece Comma) kwonly
    (λ p d. named_arg (arg_of p) ++ suffixed piece (tight piece Equal) (optional (option_of d))) kwonly_more c.args.params.now
    c.args.given.now c.loop-i.i _ _ _ _
    (omega arith) c.index-params-i.is (omega arith) c.index-given-i.is c.loop-i.invariant c.in_ok-put_between.ensures
    (c.in_ok-write_own_default.ensures ∙ two g.W.Writer.after _ (named_arg (arg_of c.index-params-i.result))
    (suffixed piece (tight piece Equal) (optional (option_of c.index-given-i.result))) _ c.in_ok-write_named_arg.ensures)

pub parameters::write_keyword_only-returns : goal.parameters::write_keyword_only-returns
parameters::write_keyword_only-returns g t c = both_done g.W.Writer.after _ c.loop-i.out false (trailing piece Comma) kwonly no_params
    no_defaults c.args.params.now c.args.given.now c.loop-i.i (omega arith) c.loop-i.invariant

pub parameters::write_keyword_only-write_named_arg-requires : goal.parameters::write_keyword_only-write_named_arg-requires
parameters::write_keyword_only-write_named_arg-requires g t c =
    let a : c.loop-i.i < length c.args.params.now = omega arith in
    let h : _ = no_higher (λ xs. arg_heights (args (map arg_of xs))) (λ x. arg_height (arg_of x)) (λ _ _. refl) _ _ _ a
    c.index-params-i.is in (λ κs l. (omega (arith, h), l))

pub parameters::write_keyword_only-write_own_default-requires : goal.parameters::write_keyword_only-write_own_default-requires
parameters::write_keyword_only-write_own_default-requires g t c =
    let a : c.loop-i.i < length c.args.given.now = omega arith in
    let h : _ = no_higher (λ xs. optional_heights (optionals (map option_of xs))) (λ x. optional_height (optional (option_of x)))
    (λ _ _. refl) _ _ _ a c.index-given-i.is in (λ κs l. (omega (arith, h), l))

pub calls::write_alone-returns-in-GeneratorExp : goal.calls::write_alone-returns-in-GeneratorExp
unfolding written
calls::write_alone-returns-in-GeneratorExp g t c = rw (
  c.in-GeneratorExp.is,
  generator_exp_tree,
  sym c.deref.ensures,
  sym c.deref-in-GeneratorExp.ensures.value,
) c.write_generator.ensures

pub calls::write_alone-returns-in_default : goal.calls::write_alone-returns-in_default
calls::write_alone-returns-in_default g t c =
    sym (ap (puts g.W.Writer.after c.args.out.now) (not_alone c.args.e.now c.in_default.not-GeneratorExp))

pub calls::write_arguments-returns-then-is_lone : goal.calls::write_arguments-returns-then-is_lone
calls::write_arguments-returns-then-is_lone g t c = IfOk-equal _ _ _ _ c.write_alone.ensures
    (ap (puts g.W.Writer.after c.args.out.now) (alone_is c.args.args.now (keywords (map keyword_of c.args.words.now)) _ _
    (sym c.is_lone.ensures ∙ c.if-is_lone.true) c.index-args-0.is))

pub calls::write_arguments-returns : goal.calls::write_arguments-returns
calls::write_arguments-returns g t c = IfOk-equal _ _ _ _ c.write_keywords.ensures
    (args_listed g.W.Writer.after c.args.out.now _ c.args.args.now (keywords (map keyword_of c.args.words.now)) _ c.is_empty.ensures
    (sym c.is_lone.ensures ∙ c.if-is_lone.false) c.in_ok-write_members.ensures)

pub calls::write_arguments-write_alone-requires : goal.calls::write_arguments-write_alone-requires
calls::write_arguments-write_alone-requires g t c =
    let a : 0 < length c.args.args.now = lone_some c.args.args.now (keywords (map keyword_of c.args.words.now))
    (sym c.is_lone.ensures ∙ c.if-is_lone.true) in
    let h : _ = no_higher (λ xs. heights (exprs (map tree_of xs))) (λ x. height (tree_of x)) (λ _ _. refl) _ _ _ a c.index-args-0.is in
    (λ κs l. (omega (arith, h), l))

pub calls::write_arguments-bounds-args-0 : goal.calls::write_arguments-bounds-args-0
calls::write_arguments-bounds-args-0 g t c = lone_some c.args.args.now (keywords (map keyword_of c.args.words.now))
    (sym c.is_lone.ensures ∙ c.if-is_lone.true)

pub parameters::write_default-returns-then-i-bare : goal.parameters::write_default-returns-then-i-bare
parameters::write_default-returns-then-i-bare g t c =
    ap (puts g.W.Writer.after c.args.out.now) (default_bare c.args.bare c.args.i c.args.given.now c.if-i-bare.true)

pub parameters::write_default-returns-then-at-given : goal.parameters::write_default-returns-then-at-given
parameters::write_default-returns-then-at-given g t c =
    ap (puts g.W.Writer.after c.args.out.now) (default_none c.args.bare c.args.i c.args.given.now c.if-i-bare.false c.if-at-given.true)

pub parameters::write_default-returns : goal.parameters::write_default-returns
parameters::write_default-returns g t c = IfOk-equal _ _ _ _ c.write_expr.ensures
    (two g.W.Writer.after c.args.out.now (tight piece Equal ∷ []) (pieces Expression (tree_of c.index-given-at.result)) _
    c.in_ok-put_sign.ensures
    ∙ ap (puts g.W.Writer.after c.args.out.now) (default_some c.args.bare c.args.i c.args.given.now _ c.if-i-bare.false
    c.if-at-given.false c.index-given-at.is))

pub parameters::write_default-write_expr-requires : goal.parameters::write_default-write_expr-requires
parameters::write_default-write_expr-requires g t c =
    let h : _ = no_higher (λ xs. heights (exprs (map tree_of xs))) (λ x. height (tree_of x)) (λ _ _. refl) _ _ _ c.if-at-given.false
    c.index-given-at.is in (λ κs l. (omega (arith, h), l))

pub displays::write_pair-returns-in_ok-put_sign-in-Some : goal.displays::write_pair-returns-in_ok-put_sign-in-Some
displays::write_pair-returns-in_ok-put_sign-in-Some g t c = rw c.in-Some.is (IfOk-equal _ _ _ _ c.write_expr-in-Some-2.ensures
    (three g.W.Writer.after c.args.out.now (pieces Expression (tree_of _)) (trailing piece Colon ∷ [])
    (pieces Expression (tree_of c.args.value.now)) _ _ c.in_ok-write_expr-in-Some.ensures c.in_ok-put_sign-in-Some.ensures))

pub parameters::write_positional-returns : goal.parameters::write_positional-returns
parameters::write_positional-returns g t c = rw (
  arguments_tree,
  sym c.deref.ensures.value,
  sym c.deref-2.ensures.value,
  sym c.deref-3.ensures.value,
) c.write_both.ensures

pub parameters::write_parameters-returns : goal.parameters::write_parameters-returns
parameters::write_parameters-returns g t c =
    let o = given_arguments.out-Arguments c.args.a.now in
    let p : o.posonlyargs.len ≡ length o.posonlyargs.items = omega (arith, o.posonlyargs.ok.0) in
    let q : o.args.len ≡ length o.args.items = omega (arith, o.args.ok.0) in
    let k : o.kwonlyargs.len ≡ length o.kwonlyargs.items = omega (arith, o.kwonlyargs.ok.0) in
    rw arguments_tree (IfOk-equal _ _ _ _ c.write_gathered.ensures
    (parameters_told g.W.Writer.after c.args.out.now o.posonlyargs.items o.args.items o.kwonlyargs.items o.vararg o.kwarg
    (optionals (map option_of o.kw_defaults.items)) o.defaults.items _ _ _ _ _ _ _
    (c.is_empty.ensures ∙ ap (λ n. n == 0) p) (c.is_empty-2.ensures ∙ ap (λ n. n == 0) q) c.is_none.ensures
    (c.is_empty-3.ensures ∙ ap (λ n. n == 0) k)
    (c.in_ok-write_positional.ensures ∙ ap (λ z. puts g.W.Writer.after c.args.out.now (listed piece (positional z)))
    (arguments_tree c.args.a.now))
    (c.in_ok-write_star.ensures
    ∙ ap (λ z. puts g.W.Writer.after c.write_positional.new.out (members (c.is_empty.result && c.is_empty-2.result)
    (trailing piece Comma) (with_star piece (gathered piece Star (optional_arg (arg_option_of o.vararg)))
    (names piece (args (map arg_of z)))))) c.deref.ensures.value)
    (c.in_ok-write_keyword_only.ensures
    ∙ (λ i. puts g.W.Writer.after c.write_star.new.out
    (members false (trailing piece Comma) (kwonly (c.deref-2.ensures.value i) (c.deref-3.ensures.value i)))))))

pub operators::write_compared-loop-i-preserved : goal.operators::write_compared-loop-i-preserved
operators::write_compared-loop-i-preserved g t c = compared_on g.W.Writer.after _ c.loop-i.out BitOr c.args.ops.now c.args.comparators.now
    c.loop-i.i _ c.index-comparators-i.result _ _
    (omega arith) (read_again c.args.ops.now c.loop-i.i Is.Eq (omega arith)) (omega arith) c.index-comparators-i.is c.loop-i.invariant
    c.in_ok-put_comparison.ensures c.in_ok-write_expr.ensures

pub operators::write_compared-returns : goal.operators::write_compared-returns
operators::write_compared-returns g t c = compared_done g.W.Writer.after _ c.loop-i.out BitOr c.args.ops.now c.args.comparators.now
    c.loop-i.i (omega arith) c.loop-i.invariant

pub operators::write_compared-write_expr-requires : goal.operators::write_compared-write_expr-requires
operators::write_compared-write_expr-requires g t c =
    let b : c.loop-i.i < length c.args.comparators.now = omega arith in
    let h : _ = no_higher (λ xs. heights (exprs (map tree_of xs))) (λ x. height (tree_of x)) (λ _ _. refl) _ _ _ b
    c.index-comparators-i.is in (λ κs l. (omega (arith, h), l))

pub parameters::write_both-returns : goal.parameters::write_both-returns
parameters::write_both-returns g t c = IfOk-equal _ _ _ _ c.write_plain-2.ensures
    (ap (λ z. puts g.W.Writer.after c.put_slash.new.out (members (nat_eq (length c.args.only.now) 0) (trailing piece Comma)
    (padded (N c.args.others.now) c.saturating_sub-2.result (D z)))) (take_rest c.saturating_sub.result c.args.given.now)
    ∙ (λ i. puts g.W.Writer.after c.put_slash.new.out (members (nat_eq (length c.args.only.now) 0) (trailing piece Comma)
    (padded (N c.args.others.now) (c.saturating_sub-2.ensures i) (D (drop (c.saturating_sub.ensures i) c.args.given.now)))))
    ∙ places_on g.W.Writer.after c.args.out.now c.args.only.now c.args.others.now c.args.given.now c.saturating_sub-bare.result _ _
    c.saturating_sub-bare.ensures c.in_ok-write_plain.ensures c.in_ok-put_slash.ensures)

pub parameters::write_both-write_plain-requires-2 : goal.parameters::write_both-write_plain-requires-2
parameters::write_both-write_plain-requires-2 g t c =
    let h : _ = rest_no_higher (λ xs. heights (exprs (map tree_of xs))) (λ x. height (tree_of x)) (λ _ _. refl) c.saturating_sub.result
    c.args.given.now in (λ κs l. (omega (arith, h), l))

-- ---- What stands inside is no higher.

pub calls::write_alone-write_generator-requires : goal.calls::write_alone-write_generator-requires
calls::write_alone-write_generator-requires g t c =
    let h : _ = generator_height _ _ _ _ _ c.in-GeneratorExp.is c.deref.ensures c.deref-in-GeneratorExp.ensures.value in
    (λ κs l. (omega (arith, h), l))

pub expressions::write_expr-write_dict_comprehension-requires : goal.expressions::write_expr-write_dict_comprehension-requires
expressions::write_expr-write_dict_comprehension-requires g t c =
    let h = boxed_height (tree_of c.args.e.now) (dict_comp_of c.deref-in-DictComp.result.now)
    (rw (c.in-DictComp.is, dict_comp_tree, sym c.deref-in-DictComp.ensures) refl) in
    let k = dict_comp_height c.deref-in-DictComp.result.now in (λ κs l. (omega (arith, h, k), l))

pub expressions::write_expr-write_compare-requires : goal.expressions::write_expr-write_compare-requires
expressions::write_expr-write_compare-requires g t c =
    let h = boxed_height (tree_of c.args.e.now) (compare_of c.deref-in-Compare.result.now)
    (rw (c.in-Compare.is, compare_tree, sym c.deref-in-Compare.ensures) refl) in
    let k = compare_height c.deref-in-Compare.result.now in (λ κs l. (omega (arith, h, k), l))

pub expressions::write_expr-write_call-requires : goal.expressions::write_expr-write_call-requires
expressions::write_expr-write_call-requires g t c = let h = boxed_height (tree_of c.args.e.now) (call_of c.deref-in-Call.result.now)
    (rw (c.in-Call.is, call_tree, sym c.deref-in-Call.ensures) refl) in
    let k = call_height c.deref-in-Call.result.now in (λ κs l. (omega (arith, h, k), l))

pub calls::write_keyword-write_expr-requires : goal.calls::write_keyword-write_expr-requires
calls::write_keyword-write_expr-requires g t c = let h : _ = keyword_height c.args.word.now in (λ κs l. (omega (arith, h), l))

pub parameters::write_named_arg-write_suffix-requires : goal.parameters::write_named_arg-write_suffix-requires
parameters::write_named_arg-write_suffix-requires g t c = let h : _ = named_arg_height c.args.arg.now in (λ κs l. (omega (arith, h), l))

pub clauses::write_clause-write_expr-requires : goal.clauses::write_clause-write_expr-requires
clauses::write_clause-write_expr-requires g t c = let h : _ = parts_height c.args.generator.now _ refl in (λ κs l. (omega (arith, h), l))

pub clauses::write_clause-write_expr-requires-2 : goal.clauses::write_clause-write_expr-requires-2
clauses::write_clause-write_expr-requires-2 g t c = let h : _ = parts_height c.args.generator.now _ refl in (λ κs l. (omega (arith, h), l))

pub clauses::write_clause-write_conditions-requires : goal.clauses::write_clause-write_conditions-requires
clauses::write_clause-write_conditions-requires g t c = let h : _ = parts_height c.args.generator.now _ c.deref.ensures.value in
    (λ κs l. (omega (arith, h), l))

pub parameters::write_positional-write_both-requires : goal.parameters::write_positional-write_both-requires
parameters::write_positional-write_both-requires g t c =
    let h : _ = places_lower c.args.a.now _ _ _ c.deref.ensures.value c.deref-2.ensures.value c.deref-3.ensures.value in
    (λ κs l. (omega (arith, h), l))

pub parameters::write_parameters-write_star-requires : goal.parameters::write_parameters-write_star-requires
parameters::write_parameters-write_star-requires g t c = let h : _ = star_lower c.args.a.now in (λ κs l. (omega (arith, h), l))

pub parameters::write_parameters-write_keyword_only-requires : goal.parameters::write_parameters-write_keyword_only-requires
parameters::write_parameters-write_keyword_only-requires g t c =
    let h : _ = keyword_only_lower c.args.a.now _ _ c.deref-2.ensures.value c.deref-3.ensures.value in (λ κs l. (omega (arith, h), l))

pub parameters::write_parameters-write_gathered-requires : goal.parameters::write_parameters-write_gathered-requires
parameters::write_parameters-write_gathered-requires g t c = let h : _ = gathered_lower c.args.a.now in (λ κs l. (omega (arith, h), l))

-- ---- What may be absent.

pub expressions::write_expr-returns-in_ok-put_sign-in-Starred : goal.expressions::write_expr-returns-in_ok-put_sign-in-Starred
unfolding written
expressions::write_expr-returns-in_ok-put_sign-in-Starred g t c = rw (c.in-Starred.is, starred_tree, sym c.deref-in-Starred.ensures)
    (IfOk-equal _ _ _ _ c.write_expr.ensures
    (two g.W.Writer.after c.args.out.now (leading piece Star ∷ []) (pieces c.star_level.result (tree_of c.deref-in-Starred.result.now)) _
    c.in_ok-put_sign-in-Starred.ensures
    ∙ ap (λ k. puts g.W.Writer.after c.args.out.now (leading piece Star ∷ pieces k (tree_of c.deref-in-Starred.result.now)))
    c.star_level.ensures))

pub optional::write_perhaps-returns-in-None : goal.optional::write_perhaps-returns-in-None
unfolding written
optional::write_perhaps-returns-in-None g t c = rw c.in-None.is refl

pub optional::write_perhaps-returns-in-Some : goal.optional::write_perhaps-returns-in-Some
unfolding written
optional::write_perhaps-returns-in-Some g t c = rw (c.in-Some.is, sym c.deref.ensures) c.write_expr.ensures

pub optional::write_suffix-returns-in-None : goal.optional::write_suffix-returns-in-None
unfolding written
optional::write_suffix-returns-in-None g t c = rw c.in-None.is refl

pub optional::write_suffix-returns-in_ok-put_sign-in-Some : goal.optional::write_suffix-returns-in_ok-put_sign-in-Some
unfolding written
optional::write_suffix-returns-in_ok-put_sign-in-Some g t c =
    rw (c.in-Some.is, sym c.deref.ensures) (IfOk-equal _ _ _ _ c.write_expr.ensures
    (two g.W.Writer.after c.args.out.now (in_role c.args.role c.args.sign ∷ []) (pieces Expression (tree_of c.deref.result.now)) _
    c.in_ok-put_sign-in-Some.ensures))

pub parameters::write_own_default-returns-in-None : goal.parameters::write_own_default-returns-in-None
unfolding written
parameters::write_own_default-returns-in-None g t c = rw c.in-None.is refl

pub parameters::write_own_default-returns-in_ok-put_sign-in-Some : goal.parameters::write_own_default-returns-in_ok-put_sign-in-Some
unfolding written
parameters::write_own_default-returns-in_ok-put_sign-in-Some g t c = rw c.in-Some.is (IfOk-equal _ _ _ _ c.write_expr.ensures
    (two g.W.Writer.after c.args.out.now (tight piece Equal ∷ []) (pieces Expression (tree_of c.in-Some.e)) _
    c.in_ok-put_sign-in-Some.ensures))

pub parameters::write_gathered-returns-in-None : goal.parameters::write_gathered-returns-in-None
unfolding written
parameters::write_gathered-returns-in-None g t c =
    rw c.in-None.is (sym (ap (puts g.W.Writer.after c.args.out.now) (members_none c.args.is_first (trailing piece Comma))))

pub parameters::write_gathered-returns-in_ok-put_sign-in-Some : goal.parameters::write_gathered-returns-in_ok-put_sign-in-Some
parameters::write_gathered-returns-in_ok-put_sign-in-Some g t c = rw c.in-Some.is (IfOk-equal _ _ _ _ c.write_named_arg.ensures
    (gathered_on g.W.Writer.after c.args.out.now c.args.is_first c.args.sign (arg_of c.in-Some.arg) _ _ c.in_ok-put_between-in-Some.ensures
    c.in_ok-put_sign-in-Some.ensures))

pub parameters::write_star-returns-then-is_some-is_empty : goal.parameters::write_star-returns-then-is_some-is_empty
parameters::write_star-returns-then-is_some-is_empty g t c = IfOk-equal _ _ _ _ c.write_gathered.ensures
    (ap (λ z. puts g.W.Writer.after c.args.out.now (members c.args.is_first (trailing piece Comma) z))
    (star_given c.args.vararg.now c.args.kwonlyargs.now _ _ c.is_some.ensures c.is_empty.ensures c.if-is_some-is_empty.true))

pub parameters::write_star-returns : goal.parameters::write_star-returns
parameters::write_star-returns g t c = IfOk-equal _ _ _ _ c.put_sign.ensures
    (star_on g.W.Writer.after c.args.out.now c.args.is_first c.args.vararg.now c.args.kwonlyargs.now _ _ _
    c.is_some.ensures c.is_empty.ensures c.if-is_some-is_empty.false c.in_ok-put_between.ensures)

-- ---- F-strings.

pub expressions::write_expr-returns-in-JoinedStr : goal.expressions::write_expr-returns-in-JoinedStr
unfolding written
expressions::write_expr-returns-in-JoinedStr g t c = rw
    (c.in-JoinedStr.is, joined_str_tree, sym c.deref-in-JoinedStr.ensures.value) c.write_joined.ensures

pub expressions::write_expr-returns-in-FormattedValue : goal.expressions::write_expr-returns-in-FormattedValue
unfolding written
expressions::write_expr-returns-in-FormattedValue g t c = rw
    (c.in-FormattedValue.is, formatted_value_tree, sym c.deref-in-FormattedValue.ensures) c.write_formatted.ensures

pub strings::write_joined-returns-then-is_unicode : goal.strings::write_joined-returns-then-is_unicode
strings::write_joined-returns-then-is_unicode g t c = IfOk-equal _ _ _ _ c.write_string.ensures
    (marked g.W.Writer.after c.args.out.now
    (exprs (map tree_of c.args.values.now)) _ _ c.is_unicode.ensures c.first_text-text.ensures _ c.if-is_unicode.true
    c.in_ok-put_str.ensures)

pub strings::write_joined-returns : goal.strings::write_joined-returns
strings::write_joined-returns g t c = IfOk-equal _ _ _ _ c.write_string-2.ensures
    (unmarked g.W.Writer.after c.args.out.now
    (exprs (map tree_of c.args.values.now)) _ _ c.is_unicode.ensures c.first_text-text.ensures c.if-is_unicode.false)

pub strings::write_string-returns : goal.strings::write_string-returns
strings::write_string-returns g t c = string_end g.W.Writer.after g.W.Writer.step _ _ g.W.Writer.is_in_field _ _ c.args.out.now _
    (Text false c.args.text.now ∷ elements_after piece false (exprs (map tree_of c.args.values.now)))
    c.end_string.ensures c.in_ok-in_field.ensures.site c.in_ok-in_field.ensures.begun
    (string_on g.W.Writer.after g.W.Writer.step _
    (exprs (map tree_of c.args.values.now)) c.args.text.now _ _ _ c.in_ok-put_text.ensures c.in_ok-write_values.ensures)

pub strings::write_formatted-returns : goal.strings::write_formatted-returns
strings::write_formatted-returns g t c = string_end g.W.Writer.after g.W.Writer.step _ _ g.W.Writer.is_in_field _ _ c.args.out.now _
    (field piece c.args.conversion (pieces Or (tree_of c.args.value.now)) (spec_elements piece (optional (boxed_of c.args.spec.now))))
    c.end_string.ensures c.in_ok-in_field.ensures.site c.in_ok-in_field.ensures.begun c.in_ok-write_field.ensures

pub strings::write_values-loop-i-preserved : goal.strings::write_values-loop-i-preserved
strings::write_values-loop-i-preserved g t c = value_on g.W.Writer.after g.W.Writer.step _ c.args.in_spec _ c.loop-i.out c.args.values.now
    c.loop-i.i c.index-values-i.result _ _
    (omega arith) c.index-values-i.is
    (c.first_text-text.ensures ∙ ap (λ z. first_text (exprs (map tree_of z)))
    (take_rest (c.loop-i.i + 1) c.args.values.now)) c.loop-i.invariant c.in_ok-write_value.ensures

pub strings::write_values-returns : goal.strings::write_values-returns
strings::write_values-returns g t c = values_done g.W.Writer.after g.W.Writer.step _ c.args.in_spec _ c.loop-i.out
    c.args.values.now c.loop-i.i
    (omega arith) c.loop-i.invariant

pub strings::write_values-write_value-requires : goal.strings::write_values-write_value-requires
strings::write_values-write_value-requires g t c =
    let b : c.loop-i.i < length c.args.values.now = omega arith in
    let h : _ = no_higher (λ xs. heights (exprs (map tree_of xs))) (λ x. height (tree_of x)) (λ _ _. refl) _ _ _ b c.index-values-i.is in
    (λ κs l. (omega (arith, h), l))

pub strings::write_value-returns-in_ok-write_field-in-FormattedValue : goal.strings::write_value-returns-in_ok-write_field-in-FormattedValue
strings::write_value-returns-in_ok-write_field-in-FormattedValue g t c =
    rw (c.in-FormattedValue.is, formatted_value_tree, sym c.deref.ensures)
    (IfOk-equal _ _ _ _ c.put_text.ensures
    (text_on g.W.Writer.after g.W.Writer.step c.args.in_field c.args.in_spec c.in-FormattedValue.conversion (tree_of c.deref.result.now)
    (optional (boxed_of c.in-FormattedValue.format_spec)) c.args.text.now c.args.out.now _
    c.in_ok-write_field-in-FormattedValue.ensures))

pub strings::write_value-returns-in_default : goal.strings::write_value-returns-in_default
strings::write_value-returns-in_default g t c = sym
    (ap (puts_elements g.W.Writer.after g.W.Writer.step c.args.in_field c.args.out.now)
    (not_field c.args.value.now c.in_default.not-FormattedValue c.args.in_spec c.args.text.now))

pub strings::write_value-write_field-requires : goal.strings::write_value-write_field-requires
strings::write_value-write_field-requires g t c = let h : _ = formatted_height _ _ _ _ _ c.in-FormattedValue.is c.deref.ensures in
    (λ κs l. (omega (arith, h), l))

pub expressions::write_expr-write_formatted-requires : goal.expressions::write_expr-write_formatted-requires
expressions::write_expr-write_formatted-requires g t c = let h : _ = formatted_height _ _ _ _ _ c.in-FormattedValue.is
    c.deref-in-FormattedValue.ensures in (λ κs l. (omega (arith, h), l))

pub expressions::write_expr-write_joined-requires : goal.expressions::write_expr-write_joined-requires
expressions::write_expr-write_joined-requires g t c = let h : _ =
    joined_height _ _ _ c.in-JoinedStr.is c.deref-in-JoinedStr.ensures.value in
    (λ κs l. (omega (arith, h), l))

pub strings::write_field-returns : goal.strings::write_field-returns
strings::write_field-returns g t c = IfOk-equal _ _ _ _ c.end_field.ensures
    (field_on g.W.Writer.after g.W.Writer.step c.args.in_field c.args.conversion (pieces Or (tree_of c.args.value.now))
    (spec_elements piece (optional (boxed_of c.args.spec.now))) c.args.out.now _ _ _ _
    c.in_ok-begin_field.ensures c.in_ok-write_expr.ensures c.in_ok-end_expression.ensures c.in_ok-write_spec.ensures)

pub strings::write_spec-returns-in-None : goal.strings::write_spec-returns-in-None
unfolding written
strings::write_spec-returns-in-None g t c = rw c.in-None.is refl

pub strings::write_spec-returns-in-Some : goal.strings::write_spec-returns-in-Some
strings::write_spec-returns-in-Some g t c = rw (c.in-Some.is, sym c.deref.ensures) c.write_spec_string.ensures

pub strings::write_spec_string-returns-in-JoinedStr : goal.strings::write_spec_string-returns-in-JoinedStr
strings::write_spec_string-returns-in-JoinedStr g t c = rw (c.in-JoinedStr.is, joined_str_tree, sym c.deref.ensures.value)
    c.write_spec_values.ensures

pub strings::write_spec_string-returns-in_default : goal.strings::write_spec_string-returns-in_default
strings::write_spec_string-returns-in_default g t c = sym
    (ap (puts_elements g.W.Writer.after g.W.Writer.step c.args.in_field c.args.out.now)
    (not_spec c.args.spec.now c.in_default.not-JoinedStr))

pub strings::write_spec_string-write_spec_values-requires : goal.strings::write_spec_string-write_spec_values-requires
strings::write_spec_string-write_spec_values-requires g t c = let h : _ = joined_height _ _ _ c.in-JoinedStr.is c.deref.ensures.value in
    (λ κs l. (omega (arith, h), l))

pub strings::write_spec_values-returns : goal.strings::write_spec_values-returns
strings::write_spec_values-returns g t c = IfOk-equal _ _ _ _ c.write_values.ensures
    (spec_on g.W.Writer.after g.W.Writer.step c.args.in_field
    (exprs (map tree_of c.args.values.now)) _ c.args.out.now _ _ _ c.first_text.ensures c.in_ok-begin_spec.ensures
    c.in_ok-put_text.ensures refl)

pub expressions::write_expr-write_dict-requires : goal.expressions::write_expr-write_dict-requires
expressions::write_expr-write_dict-requires g t c = let h = boxed_height (tree_of c.args.e.now) (dict_of c.deref-in-Dict.result.now)
    (rw (c.in-Dict.is, dict_tree, sym c.deref-in-Dict.ensures) refl) in
    let k = dict_height c.deref-in-Dict.result.now in (λ κs l. (omega (arith, h, k), l))

pub expressions::write_expr-write_slice-requires : goal.expressions::write_expr-write_slice-requires
expressions::write_expr-write_slice-requires g t c = let h = boxed_height (tree_of c.args.e.now) (slice_of c.deref-in-Slice.result.now)
    (rw (c.in-Slice.is, slice_tree, sym c.deref-in-Slice.ensures) refl) in
    let k = slice_height c.deref-in-Slice.result.now in (λ κs l. (omega (arith, h, k), l))

pub operators::write_compare-write_expr-requires : goal.operators::write_compare-write_expr-requires
operators::write_compare-write_expr-requires g t c = let h = compare_height c.args.compare.now in (λ κs l. (omega (arith, h), l))

pub operators::write_compare-write_compared-requires : goal.operators::write_compare-write_compared-requires
operators::write_compare-write_compared-requires g t c = let h = compare_height c.args.compare.now in
    let k = ap (λ es. heights (exprs (map tree_of es))) c.deref-2.ensures.value in (λ κs l. (omega (arith, h, k), l))

pub calls::write_call-write_expr-requires : goal.calls::write_call-write_expr-requires
calls::write_call-write_expr-requires g t c = let h = call_height c.args.call.now in (λ κs l. (omega (arith, h), l))

pub calls::write_call-write_arguments-requires : goal.calls::write_call-write_arguments-requires
calls::write_call-write_arguments-requires g t c = let h = call_height c.args.call.now in
    let k = ap (λ es. heights (exprs (map tree_of es))) c.deref.ensures.value in
    let l = ap (λ ks. keyword_heights (keywords (map keyword_of ks))) c.deref-2.ensures.value in
    (λ κs m. (omega (arith, h, k, l), m))

pub displays::write_dict-write_pairs-requires : goal.displays::write_dict-write_pairs-requires
displays::write_dict-write_pairs-requires g t c = let h = dict_height c.args.dict.now in
    let k = ap (λ ks. optional_heights (optionals (map option_of ks))) c.deref.ensures.value in
    let l = ap (λ es. heights (exprs (map tree_of es))) c.deref-2.ensures.value in
    (λ κs m. (omega (arith, h, k, l), m))

pub clauses::write_dict_comprehension-write_expr-requires : goal.clauses::write_dict_comprehension-write_expr-requires
clauses::write_dict_comprehension-write_expr-requires g t c = let h = dict_comp_height c.args.comp.now in (λ κs l. (omega (arith, h), l))

pub clauses::write_dict_comprehension-write_expr-requires-2 : goal.clauses::write_dict_comprehension-write_expr-requires-2
clauses::write_dict_comprehension-write_expr-requires-2 g t c = let h = dict_comp_height c.args.comp.now in (λ κs l. (omega (arith, h), l))

pub clauses::write_dict_comprehension-write_clauses-requires : goal.clauses::write_dict_comprehension-write_clauses-requires
clauses::write_dict_comprehension-write_clauses-requires g t c = let h = dict_comp_height c.args.comp.now in
    let k = ap (λ cs. comprehension_heights (comprehensions (map comprehension_of cs))) c.deref.ensures.value in
    (λ κs l. (omega (arith, h, k), l))

pub tuples::write_slice-write_perhaps-requires : goal.tuples::write_slice-write_perhaps-requires
tuples::write_slice-write_perhaps-requires g t c = let h = slice_height c.args.slice.now in (λ κs l. (omega (arith, h), l))

pub tuples::write_slice-write_perhaps-requires-2 : goal.tuples::write_slice-write_perhaps-requires-2
tuples::write_slice-write_perhaps-requires-2 g t c = let h = slice_height c.args.slice.now in (λ κs l. (omega (arith, h), l))

pub tuples::write_slice-write_suffix-requires : goal.tuples::write_slice-write_suffix-requires
tuples::write_slice-write_suffix-requires g t c = let h = slice_height c.args.slice.now in (λ κs l. (omega (arith, h), l))
