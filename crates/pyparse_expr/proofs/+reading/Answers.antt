use Rattle.std.proofs.Common.{refl, arith, rules, ◌+◌, ◌≤◌, ap, map, ◌≡◌, ◌-◌, false, ◌++◌, ◌∷◌, [], sym, subst, ◌∙◌, Some}
use Rattle.pytree_node.specs.TreeOf.{tree_of}
use Rattle.pyparse_expr.specs.Inner.Readings.{same_reads, inner_reads}
use Rattle.pyparse_nodes.specs.Views.{seen, first_is}
use Rattle.pyparse_expr.specs.Inner.Chains.{ComparedAt}
use Rattle.pyparse_expr.proofs.Places.Signs.{joins_stands, hit_sign, miss_sign}
use Rattle.pyparse_expr.proofs.Reader.ChainSteps.{chain_failed, chain_made, links_start, links_error, links_more, links_end, sides_wrong}
use Rattle.pyparse_expr.proofs.Reader.ChainSteps.{sides_error, sides_more, compare_made, Sides, sides_start}
use Rattle.pyparse_expr.proofs.Reader.Reading.{failed_cap}
use Rattle.pyparse_expr.proofs.Reader.Climbs.{climb_start, climb_front_error, climb_error, climb_more, climb_found, climb_failed, front_hit}
use Rattle.pyparse_expr.proofs.Reader.Trails.{dot_error, dot_more, call_error, call_more, index_error, index_more, trail_end}
use Rattle.pyparse_expr.proofs.Reader.Trails.{primary_failed, primary_found, trail_start}
use Rattle.pyparse_expr.proofs.Reader.LevelSteps.{elem_plain, item_plain, item_star, stars_alone, inner_found, elem_star, part_plain}
use Rattle.pyparse_expr.proofs.Reader.LevelSteps.{part_star, expression_lambda, expression_if, expression_alone, named_hit, named_plain}
use Rattle.pyparse_expr.proofs.Reader.LevelSteps.{stars_tuple, slice_open, slice_from, slice_alone, slices_tuple, slices_star, slices_alone}
use Rattle.pyparse_expr.proofs.Reader.AloneSteps.{expression_atom}
use Rattle.pyparse_expr.proofs.Reader.AtomSteps.{atom_here, atom_past, other_op, other_word}
use Rattle.pytoken.specs.TerminalOf.{terminal}
use Rattle.pyparse_expr.proofs.Lists.ListSteps.{list_start, list_end, list_stop, list_error, list_more, tuple_failed, tuple_made}
use Rattle.pyparse_expr.proofs.Lists.ListSteps.{group_failed, group_open, group_made}
use Rattle.pyparse_expr.proofs.Lists.SquareSteps.{square_empty, square_none, square_error, square_star, square_comp, square_failed}
use Rattle.pyparse_expr.proofs.Lists.SquareSteps.{square_open, square_made}
use Rattle.pyparse_expr.specs.Inner.Arguments.{state_of, start, step, entry_of}
use Rattle.pyparse_expr.proofs.Calls.ArgumentSteps.{more_end, more_error, more_last, more_turn, call_after, reaches_start}
use Rattle.pyparse_expr.proofs.FormalParameters.ParameterParts.{suffix_failed, suffix_found, by_name, by_star, by_stars, parameter_earlier}
use Rattle.pyparse_expr.proofs.FormalParameters.ParameterSteps.{parameters_start, parameters_end, parameters_error, parameters_last}
use Rattle.pyparse_expr.proofs.FormalParameters.ParameterSteps.{parameters_more, lambda_failed, lambda_after, lambda_unclosed}
use Rattle.pyparse_expr.proofs.FormalParameters.ParameterSteps.{lambda_body_failed, lambda_ended, signature_height}
use Rattle.pyparse_expr.proofs.Lists.PairSteps.{pairs_start, pairs_end, pairs_stop, pairs_error, pairs_more}
use Rattle.pyparse_expr.proofs.Lists.BraceSteps.{dict_failed, dict_open, dict_made, set_made}
use Rattle.pyparse_expr.proofs.ForClauses.CompSteps.{target_more, target_one, targets_failed, targets_made, tests_start, tests_end}
use Rattle.pyparse_expr.proofs.ForClauses.CompSteps.{tests_error, tests_more}
use Rattle.pyparse_expr.proofs.ForClauses.ClauseSteps.{clause_target, clause_ended, clauses_unbegun, clauses_end, clauses_error}
use Rattle.pyparse_expr.proofs.ForClauses.ClauseSteps.{clauses_more, start_begins, hit_start, miss_start, clauses_start}
use Rattle.pyparse_expr.proofs.Formatted.Begins.{further, parts_found}
use Rattle.pyparse_expr.proofs.Formatted.Fields.{field_made, field_open, field_put, field_spec_failed, field_wrong, spec_made}
use Rattle.pyparse_expr.proofs.Formatted.LiteralRuns.{bytes_wrong, literals_failed, texts_joined}
use Rattle.pyparse_expr.proofs.Formatted.Parts.{formatted_error, formatted_more, joined_made, literal_error, literal_more, literals_end}
use Rattle.pyparse_expr.proofs.Formatted.Parts.{parts_end, parts_error, parts_more, literals_start, parts_start}
use Rattle.pytoken.specs.Values.{literal_value}
use Rattle.pylex_lexeme.specs.declared.kinds.Exact.TheVariants.{LPar, LSqb, Star, Ellipsis}
use Rattle.pytoken.specs.Terminals.{Op, Word}
use Rattle.pygrammar.specs.Precedence.{infix_rank, prefix_rank}
use Rattle.pyparse_nodes.specs.Operators.{infix_value, prefix_value}
use Rattle.pyparse_nodes.proofs.Callers.Places.{front}
use Rattle.pyplaces.proofs.Answers.{records_more, records_none, records_node}
use Rattle.pyplaces.proofs.Expressions.Atoms.{placed_name, placed_constant, placed_number}
use Rattle.pyplaces.proofs.Expressions.Levels.{placed_next, placed_yield_from, placed_yield_some, placed_nothing, placed_something}
use Rattle.pyplaces.proofs.Expressions.Readings.{elem_named, placed_alone}
use Rattle.pygrammar.specs.Reader.{operation}
use Rattle.pyparse_expr.proofs.Recorders.Made.{at_next, whole_on, whole_seen, whole_joined, stood_seen}
use Rattle.pyparse_reads.proofs.Callers.Looks.{no_op}
use Rattle.pyparse_expr.proofs.Recorders.Operations.{climbs_low, climb_placed, climb_ended, infix_least, prefix_first, primary_stood}
use Rattle.pyparse_expr.proofs.Recorders.Operations.{awaits_placed, signed_placed, binary_made, binary_stood, power_stood}
use Rattle.pyparse_expr.proofs.Recorders.Chains.{links_read, links_placed, chain_placed, here_sign, past_signs, sides_read, compare_placed}
use Rattle.pyparse_expr.proofs.Recorders.Tails.{subscript_placed}
use Rattle.pyparse_expr.proofs.Recorders.Levels.{yields_made, stars_tupled, item_starred, elem_starred, named_placed, moved_after}
use Rattle.pyparse_expr.proofs.Recorders.Levels.{if_else_placed}
use Rattle.pyparse_expr.proofs.Recorders.Atoms.{leaf_placed, no_tuple_placed, group_placed, yield_group_placed, group_tuple_placed}
use Rattle.pyparse_expr.proofs.Recorders.Atoms.{generator_placed}
use Rattle.pyparse_expr.proofs.Recorders.Atoms.{no_list_placed, list_placed, list_comp_placed}
use Rattle.pyparse_expr.specs.Inner.Lists.{item_of}
use Rattle.pyparse_expr.proofs.Lists.ListPlaces.{grown_start, grown_turn, grown_end, grown_comma, others_placed, item_placed, tuple_placed}
use Rattle.pyparse_expr.proofs.Lists.ListPlaces.{set_placed}
use Rattle.pyparse_expr.proofs.Lists.PairPlaces.{doubled_placed, paired_placed, pairs_grown_start, pairs_grown_turn, pairs_grown_end}
use Rattle.pyparse_expr.proofs.Lists.PairPlaces.{pairs_grown_comma, dict_placed}
use Rattle.pyparse_expr.proofs.Lists.BracePlaces.{empty_placed, set_comp_placed, dict_comp_placed, keyed_comp, keyed_pairs, doubled_first}
use Rattle.pyparse_expr.proofs.Lists.BracePlaces.{braces_set, braces_comp, braces_keyed}
use Rattle.pyparse_expr.proofs.Reader.SlicePlaces.{part_star_placed, part_plain_placed, part_item_placed, slices_tuple_placed}
use Rattle.pyparse_expr.proofs.Reader.SlicePlaces.{slices_star_placed, slices_alone_placed, slice_from_placed, slice_placed}
use Rattle.pyparse_expr.proofs.Reader.SlicePlaces.{slice_step_placed}
use Rattle.pyparse_expr.proofs.ForClauses.ClausePlaces.{item_star_placed, item_plain_placed, targets_placed, target_alone_placed}
use Rattle.pyparse_expr.proofs.ForClauses.ClausePlaces.{tests_grown_start, tests_grown_turn, tests_grown_end, clause_placed}
use Rattle.pyparse_expr.proofs.ForClauses.ClausePlaces.{clauses_grown_start, clauses_grown_turn, clauses_grown_end}
use Rattle.pyparse_expr.proofs.Recorders.Aside.{aside_now}
use Rattle.std.proofs.lemmas.Result.{MatchResult-weaker, IfOk-weaker}
use Rattle.pyparse_expr.proofs.Recorders.Calls.{ok_by, single_read, argument_placed, arguments_start, arguments_end, arguments_last}
use Rattle.pyparse_expr.proofs.Recorders.Calls.{arguments_turn, no_arguments, one_argument, first_and_others, called_generator}
use Rattle.pyparse_expr.proofs.Recorders.Signatures.{suffix_none, suffix_some, star_none, star_plain, star_starred, plain_placed}
use Rattle.pyparse_expr.proofs.Recorders.Signatures.{gathered_placed, collected_placed, bare_placed, slash_placed, double_placed}
use Rattle.pyparse_expr.proofs.Recorders.Signatures.{signature_start, signature_turn, signature_last, signature_end, lambda_finished}
use Rattle.pyparse_expr.proofs.Recorders.Strings.{row_ended, parts_none, parts_then, text_placed, field_placed, formatted_placed}
use Rattle.pyparse_expr.proofs.Recorders.Strings.{literal_placed, string_placed, joined_placed, whole_field, spec_none, spec_placed}
use Rattle.pyparse_expr.proofs.Recorders.Strings.{formatted_first, literals_alone, literals_first, lowered_placed}
use Rattle.pyparse_nodes.specs.JoinedStates.{state}
use Rattle.pyparse_nodes.specs.Boundaries.{conversion_of, points_of}
use Rattle.pyplaces.specs.Stretches.{stretch}
use Rattle.pyplaces.proofs.Asides.{Apart, Still}
use Rattle.pyparse_expr.specs.declared.listings.Item.TheVariants as item
use Rattle.pytoken.specs.declared.keywords.Keyword.TheVariants as Key
use Rattle.pytree_node.specs.Trees
use Rattle.pygrammar.specs.declared.levels.Level.TheVariants as level
use Rattle.pygrammar.specs.Precedence as precedence
use Rattle.pyparse_expr.proofs.Recorders.Chains as places
use Rattle.pyparse_expr.proofs.+reading.Goals as goal

pub climbing::climb-returns-in_err-first-clause-answered : goal.climbing::climb-returns-in_err-first-clause-answered
climbing::climb-returns-in_err-first-clause-answered g t c =
    let f = climb_failed c.args.tokens.now c.args.depth c.args.level c.rank-least.result (seen c.args.tokens.now c.args.at)
    c.in_err-first.field-0.0 c.in_ok-enter.ensures c.requires.level c.rank-least.ensures
    (climb_front_error c.args.depth c.rank-least.result (seen c.args.tokens.now c.args.at) c.in_err-first.field-0.0
    c.in_err-first.ensures.answered) in
    search (rules, f)

pub climbing::climb-loop-o-init : goal.climbing::climb-loop-o-init
climbing::climb-loop-o-init g t c = record {
  ahead = c.in_ok-first.ensures.answered.ahead;
  is = climb_start c.args.tokens.now c.args.depth c.rank-least.result c.args.at c.in_ok-first.first c.in_ok-first.ensures.answered;
  placed = c.in_ok-first.ensures.placed (climbs_low c.rank-least.result c.args.level c.rank-least.ensures c.requires.level);
}

pub climbing::climb-returns-in_err-left-clause-answered : goal.climbing::climb-returns-in_err-left-clause-answered
climbing::climb-returns-in_err-left-clause-answered g t c =
    let f = climb_failed c.args.tokens.now c.args.depth c.args.level c.rank-least.result (seen c.args.tokens.now c.args.at)
    c.in_err-left.field-0.0 c.in_ok-enter.ensures c.requires.level c.rank-least.ensures
    (climb_error c.args.tokens.now c.args.depth c.rank-least.result _ c.loop-o.left _ c.in_err-left.field-0.0 c.loop-o.invariant.is
    c.in-Some.ensures.within c.in-Some.ensures.is c.in_err-left.ensures.answered) in
    search (rules, f)

pub climbing::climb-loop-o-preserved : goal.climbing::climb-loop-o-preserved
climbing::climb-loop-o-preserved g t c =
    let h = c.loop-o.invariant.placed in
    let more = c.in_ok-left.ensures.placed c.rank-least.result h.0 (infix_least c.rank-least.result _ c.args.tokens.now c.loop-o.left.next
    c.in-Some.ensures.is) h.1 in
    record {
      ahead = omega (arith, c.loop-o.invariant.ahead, c.in_ok-left.ensures.answered.ahead);
      is = climb_more c.args.tokens.now c.args.depth c.rank-least.result _ c.loop-o.left _ c.in_ok-left.left c.loop-o.invariant.is
          c.in-Some.ensures.within c.in-Some.ensures.is c.in_ok-left.ensures.answered;
      placed = (h.0 ++ more.0, more.1, records_more h.2 more.2);
    }

pub climbing::climb-returns-clause-answered : goal.climbing::climb-returns-clause-answered
climbing::climb-returns-clause-answered g t c = climb_found c.args.tokens.now (c.args.at + 1) c.args.depth c.args.level c.rank-least.result
    (seen c.args.tokens.now c.args.at) c.loop-o.left c.in_ok-enter.ensures c.requires.level c.rank-least.ensures c.loop-o.invariant.is
    c.in_default.ensures.is c.loop-o.invariant.ahead

pub climbing::climb_first-returns-in-Some-clause-answered : goal.climbing::climb_first-returns-in-Some-clause-answered
climbing::climb_first-returns-in-Some-clause-answered g t c = front_hit c.args.tokens.now c.args.depth c.args.least
    c.args.at _ c.prefixed.result
    c.in-Some.ensures.is c.prefixed.ensures.answered

pub primaries::read_primary-returns-in_err-e-2-clause-answered : goal.primaries::read_primary-returns-in_err-e-2-clause-answered
primaries::read_primary-returns-in_err-e-2-clause-answered g t c =
    let f = primary_failed c.args.tokens.now c.args.depth (seen c.args.tokens.now c.args.at) c.in_err-e-2.field-0.0 c.in_ok-enter.ensures
    (dot_error c.args.tokens.now c.args.depth _ c.tails.e c.in_err-e-2.field-0.0 c.tails.invariant.is c.if-is_op.ensures
    c.in_err-e-2.ensures.answered) in
    search (rules, f)

pub primaries::read_primary-tails-preserved-then-is_op : goal.primaries::read_primary-tails-preserved-then-is_op
primaries::read_primary-tails-preserved-then-is_op g t c =
    let h = c.tails.invariant.placed in
    let more = c.in_ok-e-2.ensures.placed c.if-is_op.ensures h.0 h.1 in
    record {
      ahead = omega (arith, c.tails.invariant.ahead, c.in_ok-e-2.ensures.answered.ahead);
      is = dot_more c.args.tokens.now c.args.depth _ c.tails.e c.in_ok-e-2.e c.tails.invariant.is c.if-is_op.ensures
          c.in_ok-e-2.ensures.answered;
      placed = (h.0 ++ more.0, more.1, records_more h.2 more.2);
    }

pub primaries::read_primary-returns-in_err-e-3-clause-answered : goal.primaries::read_primary-returns-in_err-e-3-clause-answered
primaries::read_primary-returns-in_err-e-3-clause-answered g t c =
    let f = primary_failed c.args.tokens.now c.args.depth (seen c.args.tokens.now c.args.at) c.in_err-e-3.field-0.0 c.in_ok-enter.ensures
    (call_error c.args.tokens.now c.args.depth _ c.tails.e c.in_err-e-3.field-0.0 c.tails.invariant.is c.if-is_op-2.ensures
    c.in_err-e-3.ensures.answered) in
    search (rules, f)

pub primaries::read_primary-tails-preserved-then-is_op-2 : goal.primaries::read_primary-tails-preserved-then-is_op-2
primaries::read_primary-tails-preserved-then-is_op-2 g t c =
    let h = c.tails.invariant.placed in
    let more = c.in_ok-e-3.ensures.placed c.if-is_op-2.ensures h.0 h.1 in
    record {
      ahead = omega (arith, c.tails.invariant.ahead, c.in_ok-e-3.ensures.answered.ahead);
      is = call_more c.args.tokens.now c.args.depth _ c.tails.e c.in_ok-e-3.e c.tails.invariant.is c.if-is_op-2.ensures
          c.in_ok-e-3.ensures.answered;
      placed = (h.0 ++ more.0, more.1, records_more h.2 more.2);
    }

pub primaries::read_primary-returns-in_err-e-4-clause-answered : goal.primaries::read_primary-returns-in_err-e-4-clause-answered
primaries::read_primary-returns-in_err-e-4-clause-answered g t c =
    let f = primary_failed c.args.tokens.now c.args.depth (seen c.args.tokens.now c.args.at) c.in_err-e-4.field-0.0 c.in_ok-enter.ensures
    (index_error c.args.tokens.now c.args.depth _ c.tails.e c.in_err-e-4.field-0.0 c.tails.invariant.is c.if-is_op-3.ensures
    c.in_err-e-4.ensures.answered) in
    search (rules, f)

pub primaries::read_primary-tails-preserved : goal.primaries::read_primary-tails-preserved
primaries::read_primary-tails-preserved g t c =
    let h = c.tails.invariant.placed in
    let more = c.in_ok-e-4.ensures.placed c.if-is_op-3.ensures h.0 h.1 in
    record {
      ahead = omega (arith, c.tails.invariant.ahead, c.in_ok-e-4.ensures.answered.ahead);
      is = index_more c.args.tokens.now c.args.depth _ c.tails.e c.in_ok-e-4.e c.tails.invariant.is c.if-is_op-3.ensures
          c.in_ok-e-4.ensures.answered;
      placed = (h.0 ++ more.0, more.1, records_more h.2 more.2);
    }

pub primaries::read_primary-returns-else-is_op-3-clause-answered : goal.primaries::read_primary-returns-else-is_op-3-clause-answered
primaries::read_primary-returns-else-is_op-3-clause-answered g t c = primary_found c.args.tokens.now (c.args.at + 1) c.args.depth
    (seen c.args.tokens.now c.args.at) c.tails.e c.in_ok-enter.ensures (trail_end c.args.tokens.now c.args.depth _ c.tails.e (c.args.at + 1)
    c.tails.invariant.is c.if-is_op.ensures c.if-is_op-2.ensures c.if-is_op-3.ensures c.tails.invariant.ahead)

pub levels::read_elem-returns-in_ok-node-clause-answered : goal.levels::read_elem-returns-in_ok-node-clause-answered
levels::read_elem-returns-in_ok-node-clause-answered g t c = elem_star c.args.tokens.now c.args.depth c.args.at
    c.in_ok-enter.ensures c.in_ok-e.e
    c.make_starred.result c.if-is_op.ensures (inner_found c.args.tokens.now _ c.args.depth c.inner.result _ _ c.in_ok-e.e
    c.inner.ensures.steps c.inner.ensures.room c.in_ok-e.ensures.answered) c.make_starred.ensures

pub levels::read_elem-returns-else-is_op-clause-answered : goal.levels::read_elem-returns-else-is_op-clause-answered
levels::read_elem-returns-else-is_op-clause-answered g t c = elem_plain c.args.tokens.now c.args.depth c.args.at c.in_ok-enter.ensures
    c.read_named.result c.if-is_op.ensures c.read_named.ensures.answered

pub levels::read_star_item-returns-in_ok-node-clause-answered : goal.levels::read_star_item-returns-in_ok-node-clause-answered
levels::read_star_item-returns-in_ok-node-clause-answered g t c = item_star c.args.tokens.now c.args.depth c.args.at
    c.in_ok-enter.ensures c.in_ok-e.e
    c.make_starred.result c.if-is_op.ensures (inner_found c.args.tokens.now _ c.args.depth c.inner.result _ _ c.in_ok-e.e
    c.inner.ensures.steps c.inner.ensures.room c.in_ok-e.ensures.answered) c.make_starred.ensures

pub levels::read_star_item-returns-else-is_op-clause-answered : goal.levels::read_star_item-returns-else-is_op-clause-answered
levels::read_star_item-returns-else-is_op-clause-answered g t c = item_plain c.args.tokens.now c.args.depth c.args.at c.in_ok-enter.ensures
    c.read_expression.result c.if-is_op.ensures c.read_expression.ensures.answered

pub levels::read_stars-returns-else-is_op-clause-answered : goal.levels::read_stars-returns-else-is_op-clause-answered
levels::read_stars-returns-else-is_op-clause-answered g t c = stars_alone c.args.tokens.now c.args.depth c.args.at c.in_ok-enter.ensures
    c.in_ok-first.first c.in_ok-first.ensures.answered c.if-is_op.ensures

pub levels::read_expression-returns-then-stands_alone-clause-answered
    : goal.levels::read_expression-returns-then-stands_alone-clause-answered
levels::read_expression-returns-then-stands_alone-clause-answered g t c =
    expression_atom c.args.tokens.now c.args.depth c.args.at c.read_atom.result
    c.in_ok-enter.ensures c.if-stands_alone.ensures c.read_atom.ensures.answered

pub levels::read_expression-returns-then-is_word-clause-answered : goal.levels::read_expression-returns-then-is_word-clause-answered
levels::read_expression-returns-then-is_word-clause-answered g t c =
    expression_lambda c.args.tokens.now c.args.depth c.args.at c.in_ok-enter.ensures
    c.lambda_step.result c.if-is_word.ensures c.lambda_step.ensures.answered

pub levels::read_expression-returns-then-is_word-2-clause-answered : goal.levels::read_expression-returns-then-is_word-2-clause-answered
levels::read_expression-returns-then-is_word-2-clause-answered g t c =
    expression_if c.args.tokens.now c.args.depth c.args.at c.in_ok-enter.ensures
    c.in_ok-body.body c.if_else_step.result c.if-is_word.ensures c.in_ok-body.ensures.answered c.if-is_word-2.ensures
    c.if_else_step.ensures.answered

pub levels::read_expression-returns-else-is_word-2-clause-answered : goal.levels::read_expression-returns-else-is_word-2-clause-answered
levels::read_expression-returns-else-is_word-2-clause-answered g t c =
    expression_alone c.args.tokens.now c.args.depth c.args.at c.in_ok-enter.ensures
    c.in_ok-body.body c.if-is_word.ensures c.in_ok-body.ensures.answered c.if-is_word-2.ensures

pub levels::read_named-returns-in_ok-target-in-Some-clause-answered : goal.levels::read_named-returns-in_ok-target-in-Some-clause-answered
levels::read_named-returns-in_ok-target-in-Some-clause-answered g t c =
    named_hit c.args.tokens.now c.args.depth c.args.at c.in_ok-enter.ensures _
    c.in_ok-value-in-Some.value c.in_ok-target-in-Some.target _ c.make_named.result c.in-Some.ensures
    (inner_found c.args.tokens.now _ c.args.depth c.inner.result _ _ c.in_ok-value-in-Some.value c.inner.ensures.steps c.inner.ensures.room
    c.in_ok-value-in-Some.ensures.answered) c.in_ok-target-in-Some.ensures c.make_named.ensures

pub levels::read_named-returns-in-None-clause-answered : goal.levels::read_named-returns-in-None-clause-answered
levels::read_named-returns-in-None-clause-answered g t c = named_plain c.args.tokens.now c.args.depth c.args.at c.in_ok-enter.ensures
    c.read_expression-in-None.result c.in-None.ensures c.read_expression-in-None.ensures.answered

pub levels::read_stars-returns-then-is_op-clause-answered : goal.levels::read_stars-returns-then-is_op-clause-answered
levels::read_stars-returns-then-is_op-clause-answered g t c = stars_tuple c.args.tokens.now c.args.depth c.args.at
    c.in_ok-enter.ensures c.in_ok-first.first
    c.tupled.result c.in_ok-first.ensures.answered c.if-is_op.ensures c.tupled.ensures.answered

pub atoms::read_atom-returns-in-Some-clause-answered : goal.atoms::read_atom-returns-in-Some-clause-answered
atoms::read_atom-returns-in-Some-clause-answered g t c = atom_here c.args.tokens.now c.args.depth c.args.at _
    c.atom_of.result c.in_ok-enter.ensures
    c.in-Some.ensures.is c.atom_of.ensures.answered

pub atoms::read_atom-returns-in-None-clause-answered : goal.atoms::read_atom-returns-in-None-clause-answered
atoms::read_atom-returns-in-None-clause-answered g t c = atom_past c.args.tokens.now c.args.depth c.args.at
    c.in_ok-enter.ensures c.in-None.ensures.is

pub atoms::other_atom-returns-in_default-clause-answered : goal.atoms::other_atom-returns-in_default-clause-answered
atoms::other_atom-returns-in_default-clause-answered g t c = other_op (terminal c.args.t) c.in-Op.sign c.args.depth.room
    (same_reads c.args.depth)
    (inner_reads c.args.depth) (seen c.args.tokens.now c.args.next) (ap terminal c.in-Op.is) c.in_default.not-LPar c.in_default.not-LSqb
    c.in_default.not-LBrace c.in_default.not-Ellipsis

pub atoms::other_atom-returns-in_default-word-clause-answered : goal.atoms::other_atom-returns-in_default-word-clause-answered
atoms::other_atom-returns-in_default-word-clause-answered g t c = other_word (terminal c.args.t) c.in-Word.word c.args.depth.room
    (same_reads c.args.depth)
    (inner_reads c.args.depth) (seen c.args.tokens.now c.args.next) (ap terminal c.in-Word.is) c.in_default-word.not-None
    c.in_default-word.not-True c.in_default-word.not-False

pub atoms::group_tuple-returns-in_err-items-clause-answered : goal.atoms::group_tuple-returns-in_err-items-clause-answered
atoms::group_tuple-returns-in_err-items-clause-answered g t c =
    let f = group_failed c.args.tokens.now c.args.depth item.Elem c.args.first c.requires.comma c.in_err-items.field-0.0
    c.in_err-items.ensures.answered in
    search (rules, f)

pub atoms::group_tuple-returns-then-not-is_op-clause-answered : goal.atoms::group_tuple-returns-then-not-is_op-clause-answered
atoms::group_tuple-returns-then-not-is_op-clause-answered g t c = group_open c.args.tokens.now c.args.depth item.Elem
    c.args.first c.requires.comma
    c.in_ok-items.items c.in_ok-items.ensures.answered c.if-not-is_op.ensures

pub atoms::group_tuple-returns-clause-answered : goal.atoms::group_tuple-returns-clause-answered
atoms::group_tuple-returns-clause-answered g t c = group_made c.args.tokens.now c.args.depth item.Elem c.args.first
    c.requires.comma c.in_ok-items.items
    c.make_tuple.result c.in_ok-items.ensures.answered c.if-not-is_op.ensures c.make_tuple.ensures

pub atoms::square-returns-in_ok-node-clause-answered : goal.atoms::square-returns-in_ok-node-clause-answered
atoms::square-returns-in_ok-node-clause-answered g t c = square_empty c.args.tokens.now c.args.depth c.args.at
    (map tree_of c.new.result.items)
    c.make_list.result (search rules) (omega arith) c.if-is_op.ensures c.make_list.ensures

pub atoms::square-returns-else-is_op-clause-answered : goal.atoms::square-returns-else-is_op-clause-answered
atoms::square-returns-else-is_op-clause-answered g t c = square_none c.args.tokens.now c.args.depth c.args.at
    (omega arith) c.if-is_op.ensures

pub atoms::square-returns-in_err-first-clause-answered : goal.atoms::square-returns-in_err-first-clause-answered
atoms::square-returns-in_err-first-clause-answered g t c =
    let f = square_error c.args.tokens.now c.args.depth c.args.at c.in_err-first.field-0.0 (omega arith)
    (rw (← c.inner.ensures.steps, ← c.inner.ensures.room) c.in_err-first.ensures.answered) in
    search (rules, f)

pub atoms::square-returns-then-is_op-2-clause-answered : goal.atoms::square-returns-then-is_op-2-clause-answered
atoms::square-returns-then-is_op-2-clause-answered g t c = square_star c.args.tokens.now c.args.depth c.args.at
    c.in_ok-first.first (omega arith)
    (inner_found c.args.tokens.now _ c.args.depth c.inner.result _ _ c.in_ok-first.first c.inner.ensures.steps c.inner.ensures.room
    c.in_ok-first.ensures.answered) c.if-starts_comp.ensures.is c.if-is_op-2.ensures

pub atoms::square-returns-else-is_op-2-clause-answered : goal.atoms::square-returns-else-is_op-2-clause-answered
atoms::square-returns-else-is_op-2-clause-answered g t c = square_comp c.args.tokens.now c.args.depth c.args.at
    c.in_ok-first.first c.list_comp.result
    (omega arith) (inner_found c.args.tokens.now _ c.args.depth c.inner.result _ _ c.in_ok-first.first c.inner.ensures.steps
    c.inner.ensures.room c.in_ok-first.ensures.answered) c.if-starts_comp.ensures.is c.if-is_op-2.ensures c.list_comp.ensures.answered

pub atoms::square-returns-in_err-items-clause-answered : goal.atoms::square-returns-in_err-items-clause-answered
atoms::square-returns-in_err-items-clause-answered g t c =
    let f = square_failed c.args.tokens.now c.args.depth c.args.at c.in_ok-first.first c.in_err-items.field-0.0 (omega arith)
    (inner_found c.args.tokens.now _ c.args.depth c.inner.result _ _ c.in_ok-first.first c.inner.ensures.steps c.inner.ensures.room
    c.in_ok-first.ensures.answered) c.if-starts_comp.ensures.is c.in_err-items.ensures.answered in
    search (rules, f)

pub atoms::square-returns-then-not-is_op-clause-answered : goal.atoms::square-returns-then-not-is_op-clause-answered
atoms::square-returns-then-not-is_op-clause-answered g t c = square_open c.args.tokens.now c.args.depth c.args.at
    c.in_ok-first.first c.in_ok-items.items
    (omega arith) (inner_found c.args.tokens.now _ c.args.depth c.inner.result _ _ c.in_ok-first.first c.inner.ensures.steps
    c.inner.ensures.room c.in_ok-first.ensures.answered) c.if-starts_comp.ensures.is c.in_ok-items.ensures.answered c.if-not-is_op.ensures

pub atoms::square-returns-clause-answered : goal.atoms::square-returns-clause-answered
atoms::square-returns-clause-answered g t c = square_made c.args.tokens.now c.args.depth c.args.at c.in_ok-first.first c.in_ok-items.items
    c.make_list-2.result (omega arith) (inner_found c.args.tokens.now _ c.args.depth c.inner.result _ _ c.in_ok-first.first
    c.inner.ensures.steps c.inner.ensures.room c.in_ok-first.ensures.answered) c.if-starts_comp.ensures.is c.in_ok-items.ensures.answered
    c.if-not-is_op.ensures c.make_list-2.ensures

pub chains::chain-returns-clause-answered : goal.chains::chain-returns-clause-answered
chains::chain-returns-clause-answered g t c = chain_made c.args.tokens.now c.args.depth c.args.o c.args.left
    c.in_ok-first.first c.in_ok-items.items
    c.make_chain.result c.in_ok-first.ensures.items c.in_ok-first.ensures.next c.in_ok-items.ensures.answered c.make_chain.ensures

pub chains::chain-returns-in_err-items-clause-answered : goal.chains::chain-returns-in_err-items-clause-answered
chains::chain-returns-in_err-items-clause-answered g t c =
    let f = chain_failed c.args.tokens.now c.args.depth c.args.o c.args.left c.in_ok-first.first c.in_err-items.field-0.0
    c.in_ok-first.ensures.items c.in_ok-first.ensures.next c.in_err-items.ensures.answered in
    search (rules, f)

pub chains::chain-links-requires : goal.chains::chain-links-requires
chains::chain-links-requires g t c =
    let s = joins_stands c.args.tokens.now c.args.left.next c.in_ok-first.first.next c.args.o c.requires.within c.requires.sign
    c.in_ok-first.ensures.next in
    λ κs l. (omega arith, (l, (s, c.requires.open)))

pub chains::links-sides-init : goal.chains::links-sides-init
chains::links-sides-init g t c = record {
  ahead = omega arith;
  is = links_start c.args.tokens.now c.args.depth c.args.o c.args.first (omega (arith, c.requires.word.within));
  placed = links_read c.args.tokens.now c.args.o c.args.first c.requires.word;
}

pub chains::links-returns-in_err-e-clause-answered : goal.chains::links-returns-in_err-e-clause-answered
chains::links-returns-in_err-e-clause-answered g t c =
    let f = links_error c.args.tokens.now c.args.depth c.args.o _ c.sides.items c.in_err-e.field-0.0 c.sides.invariant.is
    (rw (← c.chain_word.ensures) c.sides-test.ensures) (rw (
      ← c.side_level.ensures.is,
      ← c.inner.ensures.steps,
      ← c.inner.ensures.room,
    ) c.in_err-e.ensures.answered) in
    search (rules, f)

pub chains::links-sides-preserved : goal.chains::links-sides-preserved
chains::links-sides-preserved g t c = record {
  ahead = omega (arith, c.sides.invariant.ahead, c.in_ok-e.ensures.answered.ahead, c.in_ok-items.ensures.next);
  is = links_more c.args.tokens.now c.args.depth c.args.o _ c.sides.items c.in_ok-items.items c.in_ok-e.e (c.args.depth.room - 1)
      c.sides.invariant.is (rw (← c.chain_word.ensures) c.sides-test.ensures)
      (rw (← c.side_level.ensures.is) (inner_found c.args.tokens.now _ c.args.depth c.inner.result _ _ c.in_ok-e.e c.inner.ensures.steps
      c.inner.ensures.room c.in_ok-e.ensures.answered)) c.in_ok-items.ensures.items c.in_ok-items.ensures.next;
  placed =
      let h = c.in_ok-e.ensures.placed in
      places.links_more c.args.tokens.now c.args.o c.args.first c.sides.items c.in_ok-items.items c.in_ok-e.e c.side_level.result
      c.sides.invariant.placed (rw (← c.chain_word.ensures) c.sides-test.ensures) c.side_level.ensures.is h.1 c.in_ok-e.ensures.ended h.2
      c.in_ok-items.ensures.items c.in_ok-items.ensures.next;
}

pub chains::links-returns-clause-answered : goal.chains::links-returns-clause-answered
chains::links-returns-clause-answered g t c = links_end c.args.tokens.now c.args.depth c.args.o _ c.sides.items
    c.args.first.next c.sides.invariant.is
    (rw (← c.chain_word.ensures) c.sides-test.ensures) c.requires.word c.sides.invariant.ahead

pub chains::compare-returns-in_err-sign-clause-answered : goal.chains::compare-returns-in_err-sign-clause-answered
chains::compare-returns-in_err-sign-clause-answered g t c =
    let f = failed_cap c.in_err-sign.field-0.0 c.args.depth.room _
    (sides_wrong c.args.tokens.now c.args.depth (tree_of c.args.left.expr.value) _ c.sides.ops.items c.sides.items
    c.in_err-sign.field-0.0 c.sides.invariant.is c.in_err-sign.ensures.answered) in
    search (rules, f)

pub chains::compare-returns-in_err-e-clause-answered : goal.chains::compare-returns-in_err-e-clause-answered
chains::compare-returns-in_err-e-clause-answered g t c =
    let h = hit_sign c.args.tokens.now c.sides.items.next c.in_ok-sign.field-0 c.in-Some.sign c.in-Some.is c.in_ok-sign.ensures.answered in
    let f = failed_cap c.in_err-e.field-0.0 c.args.depth.room _ (sides_error c.args.tokens.now c.args.depth (tree_of c.args.left.expr.value)
    _ c.sides.ops.items c.sides.items c.in-Some.sign c.in_err-e.field-0.0 c.sides.invariant.is h
    (rw (← c.inner.ensures.steps, ← c.inner.ensures.room) c.in_err-e.ensures.answered)) in
    search (rules, f)

pub chains::compare-sides-preserved : goal.chains::compare-sides-preserved
chains::compare-sides-preserved g t c =
    let h : ComparedAt c.args.tokens.now c.sides.items.next c.in-Some.sign =
    hit_sign c.args.tokens.now c.sides.items.next c.in_ok-sign.field-0 c.in-Some.sign c.in-Some.is c.in_ok-sign.ensures.answered in
    let o : c.push.new.self.items ≡ c.sides.ops.items ++ (c.in-Some.sign.op ∷ []) = search (rules, c.in_ok-push.ensures.items) in
    record {
      ahead = omega (arith, c.sides.invariant.ahead, h.ahead, c.in_ok-e.ensures.answered.ahead, c.in_ok-items.ensures.next);
      is = sides_more c.args.tokens.now c.args.depth (tree_of c.args.left.expr.value) _ c.sides.ops.items c.push.new.self.items
          c.sides.items c.in_ok-items.items c.in-Some.sign c.in_ok-e.e (c.args.depth.room - 1) c.sides.invariant.is h
          (inner_found c.args.tokens.now _ c.args.depth c.inner.result _ _ c.in_ok-e.e c.inner.ensures.steps c.inner.ensures.room
          c.in_ok-e.ensures.answered) o c.in_ok-items.ensures.items c.in_ok-items.ensures.next;
      placed =
          let h = c.in_ok-e.ensures.placed in
          places.sides_more c.args.tokens.now c.args.left.next c.sides.ops.items c.push.new.self.items c.sides.items c.in_ok-items.items
          c.in-Some.sign.op c.in-Some.sign.next c.in_ok-e.e c.sides.invariant.placed
          (here_sign c.args.tokens.now c.sides.items.next c.in_ok-sign.field-0 c.in-Some.sign
          c.in-Some.is c.in_ok-sign.ensures.placed) h.1 c.in_ok-e.ensures.ended h.2 o c.in_ok-items.ensures.items
          c.in_ok-items.ensures.next;
    }

pub chains::compare-returns-clause-answered : goal.chains::compare-returns-clause-answered
chains::compare-returns-clause-answered g t c =
    compare_made c.args.tokens.now c.args.depth (tree_of c.args.left.expr.value) c.args.left.next _
    c.sides.ops.items c.sides.items c.make_compare.result c.sides.invariant.is
    (miss_sign c.args.tokens.now c.sides.items.next c.in_ok-sign.field-0 c.in_default.is c.in_ok-sign.ensures.answered)
    c.sides.invariant.ahead
    c.requires.sign c.make_compare.ensures

-- ---- Places: climbing, chains, primaries, levels, atoms.

pub climbing::climb-returns-clause-placed : goal.climbing::climb-returns-clause-placed
climbing::climb-returns-clause-placed g t c =
    let h = c.loop-o.invariant.placed in
    (h.0, climb_placed c.rank-least.result c.args.level c.rank-least.ensures c.requires.level h.1, h.2)

pub climbing::climb-returns-clause-ended : goal.climbing::climb-returns-clause-ended
climbing::climb-returns-clause-ended g t c = climb_ended (seen c.args.tokens.now c.loop-o.left.next) c.rank-least.result c.args.level
    c.rank-least.ensures c.requires.level
    c.in_default.ensures.is

pub climbing::climb_first-returns-in-None-clause-placed : goal.climbing::climb_first-returns-in-None-clause-placed
climbing::climb_first-returns-in-None-clause-placed g t c =
    λ b. primary_stood g.R.Recorder.after _ _ c.args.tokens.now c.args.least c.args.at c.read_primary.result b
    c.read_primary.ensures.placed

pub climbing::climb_first-returns-in-Some-clause-placed : goal.climbing::climb_first-returns-in-Some-clause-placed
climbing::climb_first-returns-in-Some-clause-placed g t c = λ b.
    let w = prefix_first c.args.least _ c.args.tokens.now c.args.at c.in-Some.ensures.is in
    stood_seen g.R.Recorder.after _ _ c.args.tokens.now c.args.least (seen c.args.tokens.now c.args.at)
    (w.0 ∷ seen c.args.tokens.now (c.args.at + 1)) c.args.at
    c.prefixed.result w.1 (c.prefixed.ensures.placed w.0 c.args.least refl w.2 w.3)

pub climbing::prefixed-returns-in-Signed-clause-placed : goal.climbing::prefixed-returns-in-Signed-clause-placed
climbing::prefixed-returns-in-Signed-clause-placed g t c = λ m k q b r. c.signed.ensures.placed m k q
    (b ∙ ap (λ o. Some (prefix_value o)) c.in-Signed.is) (subst (λ o. k ≤ prefix_rank (prefix_value o)) c.in-Signed.is r)

pub climbing::prefixed-returns-in_ok-node-in-Awaits-clause-placed : goal.climbing::prefixed-returns-in_ok-node-in-Awaits-clause-placed
climbing::prefixed-returns-in_ok-node-in-Awaits-clause-placed g t c = λ m k q b r.
    let h = c.in_ok-e-in-Awaits.ensures.placed in
    awaits_placed g.R.Recorder.after _ _ c.args.tokens.now k c.args.from c.args.at c.args.depth.room m
    c.in_ok-e-in-Awaits.e c.make_await.result q
    (b ∙ ap (λ o. Some (prefix_value o)) c.in-Awaits.is) (subst (λ o. k ≤ prefix_rank (prefix_value o)) c.in-Awaits.is r) h.1 h.2
    c.in_ok-node-in-Awaits.ensures c.make_await.ensures

pub climbing::signed-returns-clause-placed : goal.climbing::signed-returns-clause-placed
climbing::signed-returns-clause-placed g t c = λ m k q b r.
    let h = c.in_ok-e.ensures.placed in
    signed_placed g.R.Recorder.after _ _ c.args.tokens.now k c.args.from c.args.at c.args.depth.room m c.args.level c.args.o c.in_ok-e.e
    c.make_unary.result q b r h.1
    c.in_ok-e.ensures.ended h.2 c.in_ok-node.ensures c.make_unary.ensures

pub climbing::operation-returns-in-Left-clause-placed : goal.climbing::operation-returns-in-Left-clause-placed
climbing::operation-returns-in-Left-clause-placed g t c = λ k ps b p. binary_stood g.R.Recorder.after _ _ c.args.tokens.now k c.args.at
    c.args.left c.in-Left.level
    c.below.result c.in-Left.o ps c.binary.result c.below.ensures
    (subst (λ o. Some (infix_value o) ≡ first_is precedence.following (seen c.args.tokens.now c.args.left.next))
    c.in-Left.is c.requires.stands)
    (subst (λ o. k ≤ infix_rank (infix_value o)) c.in-Left.is b) p c.binary.ensures.placed

pub climbing::operation-returns-in-Raise-clause-placed : goal.climbing::operation-returns-in-Raise-clause-placed
climbing::operation-returns-in-Raise-clause-placed g t c = λ k ps b p. power_stood g.R.Recorder.after _ _ c.args.tokens.now k
    c.args.at c.args.left ps
    c.binary-in-Raise.result
    (subst (λ o. Some (infix_value o) ≡ first_is precedence.following (seen c.args.tokens.now c.args.left.next))
    c.in-Raise.is c.requires.stands)
    (subst (λ o. k ≤ infix_rank (infix_value o)) c.in-Raise.is b) p c.binary-in-Raise.ensures.placed

pub climbing::operation-returns-in-Joins-clause-placed : goal.climbing::operation-returns-in-Joins-clause-placed
climbing::operation-returns-in-Joins-clause-placed g t c = λ k ps b p. c.chain.ensures.placed k ps
    (subst (λ o. k ≤ infix_rank (infix_value o)) c.in-Joins.is b) p

pub climbing::operation-returns-in-Compares-clause-placed : goal.climbing::operation-returns-in-Compares-clause-placed
climbing::operation-returns-in-Compares-clause-placed g t c = λ k ps b p. c.compare.ensures.placed k ps
    (subst (λ o. k ≤ infix_rank (infix_value o)) c.in-Compares.is b) p

pub climbing::binary-returns-clause-placed : goal.climbing::binary-returns-clause-placed
climbing::binary-returns-clause-placed g t c =
    let h = c.in_ok-right.ensures.placed in
    binary_made g.R.Recorder.after _ _ c.args.tokens.now c.args.level c.args.left c.in_ok-right.right c.args.o c.args.at c.args.depth.room
    c.make_binary.result h.1
    c.in_ok-right.ensures.ended h.2 c.in_ok-node.ensures c.make_binary.ensures

pub chains::chain-returns-clause-placed : goal.chains::chain-returns-clause-placed
chains::chain-returns-clause-placed g t c = λ k ps b p. chain_placed c.args.tokens.now c.args.o c.args.left
    c.in_ok-first.first c.in_ok-items.items k
    c.args.at c.args.depth.room ps c.make_chain.result c.in_ok-first.ensures.items c.in_ok-first.ensures.next c.requires.sign b p
    c.in_ok-items.ensures.placed c.in_ok-node.ensures c.make_chain.ensures

pub chains::links-returns-clause-placed : goal.chains::links-returns-clause-placed
chains::links-returns-clause-placed g t c = links_placed c.args.tokens.now c.args.o c.args.first c.sides.items c.sides.invariant.placed
    (rw (← c.chain_word.ensures) c.sides-test.ensures)

pub chains::compare-sides-init : goal.chains::compare-sides-init
chains::compare-sides-init g t c = record {
  ahead = omega (arith, c.no_items-items.ensures.next);
  is = subst (λ n. Sides c.args.tokens.now c.args.depth (tree_of c.args.left.expr.value) (operation (inner_reads c.args.depth)
      (tree_of c.args.left.expr.value) precedence.Compares (seen c.args.tokens.now n) (seen c.args.tokens.now (c.args.left.next + 1)))
      c.new-ops.result.items c.no_items-items.result) c.no_items-items.ensures.next
      (sides_start c.args.tokens.now c.args.depth (tree_of c.args.left.expr.value) (seen c.args.tokens.now (c.args.left.next + 1))
      c.new-ops.result.items c.no_items-items.result (omega (arith, c.requires.within, c.no_items-items.ensures.next)) (search rules)
      c.no_items-items.ensures.items);
  placed = sides_read c.args.tokens.now c.args.left.next c.new-ops.result.items c.no_items-items.result (search rules)
      c.no_items-items.ensures.items
      c.no_items-items.ensures.next c.requires.sign;
}

pub chains::compare-returns-clause-placed : goal.chains::compare-returns-clause-placed
chains::compare-returns-clause-placed g t c = λ k ps b p. compare_placed c.args.tokens.now c.args.left.next (tree_of c.args.left.expr.value)
    c.sides.ops.items c.sides.items k c.args.at c.args.depth.room ps c.make_compare.result c.sides.invariant.placed
    (past_signs c.args.tokens.now c.sides.items.next c.in_ok-sign.field-0 c.in_default.is c.in_ok-sign.ensures.placed) c.requires.sign
    b p c.in_ok-node.ensures
    c.make_compare.ensures

pub primaries::read_primary-tails-init : goal.primaries::read_primary-tails-init
primaries::read_primary-tails-init g t c =
    let h = c.in_ok-e.ensures.placed in
    record {
      ahead = c.in_ok-e.ensures.answered.ahead;
      is = trail_start c.args.tokens.now c.args.depth (seen c.args.tokens.now c.args.at) (c.args.at + 1) c.in_ok-e.e
          c.in_ok-e.ensures.answered;
      placed = (h.0, placed_next h.1, h.2);
    }

pub primaries::read_primary-returns-else-is_op-3-clause-placed : goal.primaries::read_primary-returns-else-is_op-3-clause-placed
primaries::read_primary-returns-else-is_op-3-clause-placed g t c = c.tails.invariant.placed

pub primaries::index_step-returns-in_ok-node-clause-placed : goal.primaries::index_step-returns-in_ok-node-clause-placed
primaries::index_step-returns-in_ok-node-clause-placed g t c = λ s ps p.
    let h = c.in_ok-slice.ensures.placed in
    subscript_placed g.R.Recorder.after _ _ c.args.tokens.now c.args.at c.args.depth.room c.args.e ps c.in_ok-slice.slice
    c.make_subscript.result s
    h.1 h.2 c.if-is_op.ensures
    c.make_subscript.ensures c.in_ok-node.ensures p

pub levels::yield_step-returns-in_ok-node-clause-placed : goal.levels::yield_step-returns-in_ok-node-clause-placed
levels::yield_step-returns-in_ok-node-clause-placed g t c =
    let h = c.in_ok-e.ensures.placed in
    yields_made g.R.Recorder.after _ _ c.args.tokens.now c.args.from c.args.at c.args.depth.room
    (Trees.YieldFrom (tree_of c.in_ok-e.e.expr.value)) c.in_ok-e.e.next
    c.make_yield_from.result c.make_yield_from.ensures (placed_yield_from c.if-is_word.ensures.is h.1) h.2 c.in_ok-node.ensures

pub levels::yield_step-returns-in_ok-node-2-clause-placed : goal.levels::yield_step-returns-in_ok-node-2-clause-placed
levels::yield_step-returns-in_ok-node-2-clause-placed g t c =
    let h = c.in_ok-e-2.ensures.placed in
    yields_made g.R.Recorder.after _ _ c.args.tokens.now c.args.from c.args.at c.args.depth.room
    (Trees.Yield (Trees.present (tree_of c.in_ok-e-2.e.expr.value))) c.in_ok-e-2.e.next
    c.make_yield.result c.make_yield.ensures (placed_yield_some (placed_something h.1)) h.2 c.in_ok-node-2.ensures

pub levels::yield_step-returns-in_ok-node-3-clause-placed : goal.levels::yield_step-returns-in_ok-node-3-clause-placed
levels::yield_step-returns-in_ok-node-3-clause-placed g t c = yields_made g.R.Recorder.after _ _ c.args.tokens.now c.args.from
    c.args.at c.args.depth.room
    (Trees.Yield Trees.absent)
    c.args.at c.make_yield-else-lead_at-rank.result c.make_yield-else-lead_at-rank.ensures (placed_yield_some placed_nothing)
    records_none c.in_ok-node-3.ensures

pub levels::read_stars-returns-then-is_op-clause-placed : goal.levels::read_stars-returns-then-is_op-clause-placed
levels::read_stars-returns-then-is_op-clause-placed g t c =
    let h = c.in_ok-first.ensures.placed in
    stars_tupled g.R.Recorder.after _ _ c.args.tokens.now c.args.at c.in_ok-first.first c.tupled.result h.1 h.2
    c.if-is_op.ensures c.tupled.ensures.placed

pub levels::read_stars-returns-else-is_op-clause-placed : goal.levels::read_stars-returns-else-is_op-clause-placed
levels::read_stars-returns-else-is_op-clause-placed g t c =
    let h = c.in_ok-first.ensures.placed in
    (h.0, placed_next h.1, h.2)

pub levels::read_star_item-returns-in_ok-node-clause-placed : goal.levels::read_star_item-returns-in_ok-node-clause-placed
levels::read_star_item-returns-in_ok-node-clause-placed g t c =
    let h = c.in_ok-e.ensures.placed in
    item_starred g.R.Recorder.after _ _ c.args.tokens.now c.args.at c.args.depth.room c.in_ok-e.e
    c.make_starred.result c.if-is_op.ensures h.1
    h.2 c.in_ok-node.ensures
    c.make_starred.ensures

pub levels::read_star_item-returns-else-is_op-clause-placed : goal.levels::read_star_item-returns-else-is_op-clause-placed
levels::read_star_item-returns-else-is_op-clause-placed g t c = whole_on g.R.Recorder.after _ _ c.args.tokens.now
    level.Expression level.StarItem
    (seen c.args.tokens.now c.args.at) c.args.at
    c.read_expression.result c.read_expression.ensures.placed (λ _ _ _ _ p. placed_next p)

pub levels::read_elem-returns-in_ok-node-clause-placed : goal.levels::read_elem-returns-in_ok-node-clause-placed
levels::read_elem-returns-in_ok-node-clause-placed g t c =
    let h = c.in_ok-e.ensures.placed in
    elem_starred g.R.Recorder.after _ _ c.args.tokens.now c.args.at c.args.depth.room c.in_ok-e.e
    c.make_starred.result c.if-is_op.ensures h.1
    h.2 c.in_ok-node.ensures
    c.make_starred.ensures

pub levels::read_elem-returns-else-is_op-clause-placed : goal.levels::read_elem-returns-else-is_op-clause-placed
levels::read_elem-returns-else-is_op-clause-placed g t c = whole_on g.R.Recorder.after _ _ c.args.tokens.now level.Named level.Elem
    (seen c.args.tokens.now c.args.at) c.args.at
    c.read_named.result
    c.read_named.ensures.placed (λ _ _ _ _ p. placed_next p)

pub levels::read_named-returns-in_ok-target-in-Some-clause-placed : goal.levels::read_named-returns-in_ok-target-in-Some-clause-placed
levels::read_named-returns-in_ok-target-in-Some-clause-placed g t c =
    let h = c.in_ok-value-in-Some.ensures.placed in
    named_placed g.R.Recorder.after _ _ c.args.tokens.now c.args.at c.args.depth.room _ _ c.in_ok-target-in-Some.target
    c.in_ok-value-in-Some.value c.make_named.result
    c.in-Some.ensures c.in_ok-node-in-Some.ensures h.1 h.2 c.in_ok-node-in-Some-2.ensures c.in_ok-target-in-Some.ensures
    c.make_named.ensures

pub levels::read_named-returns-in-None-clause-placed : goal.levels::read_named-returns-in-None-clause-placed
levels::read_named-returns-in-None-clause-placed g t c = whole_on g.R.Recorder.after _ _ c.args.tokens.now level.Expression level.Named
    (seen c.args.tokens.now c.args.at) c.args.at
    c.read_expression-in-None.result c.read_expression-in-None.ensures.placed (λ _ _ _ _ p. placed_next p)

pub levels::read_expression-returns-then-stands_alone-clause-placed : goal.levels::read_expression-returns-then-stands_alone-clause-placed
levels::read_expression-returns-then-stands_alone-clause-placed g t c =
    whole_on g.R.Recorder.after _ _ c.args.tokens.now level.Atom level.Expression
    (seen c.args.tokens.now c.args.at) c.args.at
    c.read_atom.result c.read_atom.ensures.placed (λ _ _ _ _ p. placed_alone p)

pub levels::read_expression-returns-then-is_word-clause-placed : goal.levels::read_expression-returns-then-is_word-clause-placed
levels::read_expression-returns-then-is_word-clause-placed g t c =
    whole_seen g.R.Recorder.after _ _ c.args.tokens.now level.Expression (seen c.args.tokens.now c.args.at) _ c.args.at
    c.lambda_step.result c.if-is_word.ensures.is (c.lambda_step.ensures.placed refl)

pub levels::read_expression-returns-then-is_word-2-clause-placed : goal.levels::read_expression-returns-then-is_word-2-clause-placed
levels::read_expression-returns-then-is_word-2-clause-placed g t c =
    let h = c.in_ok-body.ensures.placed in
    c.if_else_step.ensures.placed c.if-is_word-2.ensures _ h.0 h.2 c.recorded-before.ensures h.1

pub levels::read_expression-returns-else-is_word-2-clause-placed : goal.levels::read_expression-returns-else-is_word-2-clause-placed
levels::read_expression-returns-else-is_word-2-clause-placed g t c =
    let h = c.in_ok-body.ensures.placed in
    (h.0, placed_next h.1, h.2)

pub levels::if_else_step-returns-clause-placed : goal.levels::if_else_step-returns-clause-placed
levels::if_else_step-returns-clause-placed g t c = λ s w ps r n p.
    let test = c.in_ok-test.ensures.placed in
    let orelse = c.in_ok-orelse.ensures.placed in
    let moved = moved_after g.R.Recorder.after g.R.Recorder.beside g.R.Recorder.recorded_count g.R.Recorder.aside_count
    g.met.R.Recorder.apart g.met.R.Recorder.aside_still r n
    c.aside-kept.ensures c.in_ok-set_aside.ensures test.2 c.in_ok-take_back.ensures in
    if_else_placed g.R.Recorder.after _ _ c.args.tokens.now c.args.at c.args.depth.room c.in_ok-test.test c.args.body c.in_ok-orelse.orelse
    c.make_if.result p s test.1 moved
    c.if-not-is_word.ensures orelse.1 orelse.2 c.in_ok-node.ensures c.make_if.ensures

pub atoms::read_atom-returns-in-Some-clause-placed : goal.atoms::read_atom-returns-in-Some-clause-placed
atoms::read_atom-returns-in-Some-clause-placed g t c = whole_seen g.R.Recorder.after _ _ c.args.tokens.now level.Atom
    (seen c.args.tokens.now c.args.at) _
    c.args.at c.atom_of.result
    (front c.args.tokens.now c.args.at _ c.in-Some.ensures.is) (c.atom_of.ensures.placed refl)

pub atoms::atom_of-returns-in_ok-node-in-Ident-clause-placed : goal.atoms::atom_of-returns-in_ok-node-in-Ident-clause-placed
atoms::atom_of-returns-in_ok-node-in-Ident-clause-placed g t c =
    λ q. leaf_placed g.R.Recorder.after _ _ c.args.tokens.now c.args.from c.args.next
    (terminal c.args.t ∷ seen c.args.tokens.now c.args.next) _ c.make_name.result q
    c.make_name.ensures (placed_name (ap (λ a. terminal a ∷ seen c.args.tokens.now c.args.next) c.in-Ident.is))
    c.in_ok-node-in-Ident.ensures

pub atoms::atom_of-returns-in-Op-LPar-clause-placed : goal.atoms::atom_of-returns-in-Op-LPar-clause-placed
atoms::atom_of-returns-in-Op-LPar-clause-placed g t c =
    let e : c.in-Op-LPar.field-0 ≡ LPar = rw c.in-Op-LPar.is at c.in-Op-LPar.field-0-is in
    λ q. whole_seen g.R.Recorder.after _ _ c.args.tokens.now level.Atom (terminal c.args.t ∷ seen c.args.tokens.now c.args.next)
    (Op LPar ∷ seen c.args.tokens.now c.args.next) c.args.from c.round.result
    (ap (λ a. terminal a ∷ seen c.args.tokens.now c.args.next) c.in-Op-LPar.is
    ∙ ap (λ x. Op x ∷ seen c.args.tokens.now c.args.next) e) (c.round.ensures.placed q)

pub atoms::atom_of-returns-in_default-clause-placed : goal.atoms::atom_of-returns-in_default-clause-placed
atoms::atom_of-returns-in_default-clause-placed g t c = c.other_atom.ensures.placed

pub atoms::other_atom-returns-in_ok-node-in-Ident-clause-placed : goal.atoms::other_atom-returns-in_ok-node-in-Ident-clause-placed
atoms::other_atom-returns-in_ok-node-in-Ident-clause-placed g t c =
    λ q. leaf_placed g.R.Recorder.after _ _ c.args.tokens.now c.args.from c.args.next
    (terminal c.args.t ∷ seen c.args.tokens.now c.args.next) _ c.make_name.result q
    c.make_name.ensures (placed_name (ap (λ a. terminal a ∷ seen c.args.tokens.now c.args.next) c.in-Ident.is))
    c.in_ok-node-in-Ident.ensures

pub atoms::other_atom-returns-in_ok-node-in-Whole-clause-placed : goal.atoms::other_atom-returns-in_ok-node-in-Whole-clause-placed
atoms::other_atom-returns-in_ok-node-in-Whole-clause-placed g t c =
    λ q. leaf_placed g.R.Recorder.after _ _ c.args.tokens.now c.args.from c.args.next
    (terminal c.args.t ∷ seen c.args.tokens.now c.args.next) _ c.make_whole.result q
    c.make_whole.ensures (placed_number (ap (λ a. terminal a ∷ seen c.args.tokens.now c.args.next) c.in-Whole.is))
    c.in_ok-node-in-Whole.ensures

pub atoms::other_atom-returns-in_ok-node-in-Number-clause-placed : goal.atoms::other_atom-returns-in_ok-node-in-Number-clause-placed
atoms::other_atom-returns-in_ok-node-in-Number-clause-placed g t c =
    λ q. leaf_placed g.R.Recorder.after _ _ c.args.tokens.now c.args.from c.args.next
    (terminal c.args.t ∷ seen c.args.tokens.now c.args.next) _ c.make_number.result q
    c.make_number.ensures (placed_number (ap (λ a. terminal a ∷ seen c.args.tokens.now c.args.next) c.in-Number.is))
    c.in_ok-node-in-Number.ensures

pub atoms::other_atom-returns-in-Literal-clause-placed : goal.atoms::other_atom-returns-in-Literal-clause-placed
atoms::other_atom-returns-in-Literal-clause-placed g t c =
    λ q. whole_seen g.R.Recorder.after _ _ c.args.tokens.now level.Atom
    (terminal c.args.t ∷ seen c.args.tokens.now c.args.next) _ c.args.from
    c.string_atom.result (ap (λ a. terminal a ∷ seen c.args.tokens.now c.args.next) c.in-Literal.is) (c.string_atom.ensures.placed q)

pub atoms::other_atom-returns-in-FormattedBegin-clause-placed : goal.atoms::other_atom-returns-in-FormattedBegin-clause-placed
atoms::other_atom-returns-in-FormattedBegin-clause-placed g t c =
    λ q. whole_seen g.R.Recorder.after _ _ c.args.tokens.now level.Atom
    (terminal c.args.t ∷ seen c.args.tokens.now c.args.next) _ c.args.from
    c.formatted_atom.result (ap (λ a. terminal a ∷ seen c.args.tokens.now c.args.next) c.in-FormattedBegin.is)
    (c.formatted_atom.ensures.placed q)

pub atoms::other_atom-returns-in-LPar-clause-placed : goal.atoms::other_atom-returns-in-LPar-clause-placed
atoms::other_atom-returns-in-LPar-clause-placed g t c =
    λ q. whole_seen g.R.Recorder.after _ _ c.args.tokens.now level.Atom
    (terminal c.args.t ∷ seen c.args.tokens.now c.args.next) _ c.args.from
    c.round.result (ap (λ a. terminal a ∷ seen c.args.tokens.now c.args.next) c.in-Op.is
    ∙ ap (λ x. Op x ∷ seen c.args.tokens.now c.args.next) c.in-LPar.is) (c.round.ensures.placed q)

pub atoms::other_atom-returns-in-LSqb-clause-placed : goal.atoms::other_atom-returns-in-LSqb-clause-placed
atoms::other_atom-returns-in-LSqb-clause-placed g t c =
    λ q. whole_seen g.R.Recorder.after _ _ c.args.tokens.now level.Atom
    (terminal c.args.t ∷ seen c.args.tokens.now c.args.next) _ c.args.from
    c.square.result (ap (λ a. terminal a ∷ seen c.args.tokens.now c.args.next) c.in-Op.is
    ∙ ap (λ x. Op x ∷ seen c.args.tokens.now c.args.next) c.in-LSqb.is) (c.square.ensures.placed q)

pub atoms::other_atom-returns-in-LBrace-clause-placed : goal.atoms::other_atom-returns-in-LBrace-clause-placed
atoms::other_atom-returns-in-LBrace-clause-placed g t c =
    λ q. whole_seen g.R.Recorder.after _ _ c.args.tokens.now level.Atom
    (terminal c.args.t ∷ seen c.args.tokens.now c.args.next) _ c.args.from
    c.curly.result (ap (λ a. terminal a ∷ seen c.args.tokens.now c.args.next) c.in-Op.is
    ∙ ap (λ x. Op x ∷ seen c.args.tokens.now c.args.next) c.in-LBrace.is) (c.curly.ensures.placed q)

pub atoms::other_atom-returns-in_ok-node-in-Ellipsis-clause-placed : goal.atoms::other_atom-returns-in_ok-node-in-Ellipsis-clause-placed
atoms::other_atom-returns-in_ok-node-in-Ellipsis-clause-placed g t c =
    λ q. leaf_placed g.R.Recorder.after _ _ c.args.tokens.now c.args.from c.args.next
    (terminal c.args.t ∷ seen c.args.tokens.now c.args.next) _ c.make_constant.result q
    c.make_constant.ensures (placed_constant {t = Op Ellipsis} refl (ap (λ a. terminal a ∷ seen c.args.tokens.now c.args.next) c.in-Op.is
    ∙ ap (λ x. Op x ∷ seen c.args.tokens.now c.args.next) c.in-Ellipsis.is)) c.in_ok-node-in-Ellipsis.ensures

pub atoms::other_atom-returns-in_ok-node-in-None-clause-placed : goal.atoms::other_atom-returns-in_ok-node-in-None-clause-placed
atoms::other_atom-returns-in_ok-node-in-None-clause-placed g t c =
    λ q. leaf_placed g.R.Recorder.after _ _ c.args.tokens.now c.args.from c.args.next
    (terminal c.args.t ∷ seen c.args.tokens.now c.args.next) _ c.make_constant-in-None.result q
    c.make_constant-in-None.ensures
    (placed_constant {t = Word Key.None} refl (ap (λ a. terminal a ∷ seen c.args.tokens.now c.args.next) c.in-Word.is
    ∙ ap (λ x. Word x ∷ seen c.args.tokens.now c.args.next) c.in-None.is)) c.in_ok-node-in-None.ensures

pub atoms::other_atom-returns-in_ok-node-in-True-clause-placed : goal.atoms::other_atom-returns-in_ok-node-in-True-clause-placed
atoms::other_atom-returns-in_ok-node-in-True-clause-placed g t c =
    λ q. leaf_placed g.R.Recorder.after _ _ c.args.tokens.now c.args.from c.args.next
    (terminal c.args.t ∷ seen c.args.tokens.now c.args.next) _ c.make_constant-in-True.result q
    c.make_constant-in-True.ensures
    (placed_constant {t = Word Key.True} refl (ap (λ a. terminal a ∷ seen c.args.tokens.now c.args.next) c.in-Word.is
    ∙ ap (λ x. Word x ∷ seen c.args.tokens.now c.args.next) c.in-True.is)) c.in_ok-node-in-True.ensures

pub atoms::other_atom-returns-in_ok-node-in-False-clause-placed : goal.atoms::other_atom-returns-in_ok-node-in-False-clause-placed
atoms::other_atom-returns-in_ok-node-in-False-clause-placed g t c =
    λ q. leaf_placed g.R.Recorder.after _ _ c.args.tokens.now c.args.from c.args.next
    (terminal c.args.t ∷ seen c.args.tokens.now c.args.next) _ c.make_constant-in-False.result q
    c.make_constant-in-False.ensures
    (placed_constant {t = Word Key.False} refl (ap (λ a. terminal a ∷ seen c.args.tokens.now c.args.next) c.in-Word.is
    ∙ ap (λ x. Word x ∷ seen c.args.tokens.now c.args.next) c.in-False.is)) c.in_ok-node-in-False.ensures

pub atoms::round-returns-then-is_op-clause-placed : goal.atoms::round-returns-then-is_op-clause-placed
atoms::round-returns-then-is_op-clause-placed g t c = λ q. no_tuple_placed g.R.Recorder.after _ _ c.args.tokens.now c.args.from
    c.args.at c.args.depth.room
    (map tree_of c.new.result.items)
    c.make_tuple.result q c.if-is_op.ensures (search rules) c.make_tuple.ensures c.in_ok-node.ensures

pub atoms::round-returns-then-is_word-clause-placed : goal.atoms::round-returns-then-is_word-clause-placed
atoms::round-returns-then-is_word-clause-placed g t c = λ q.
    let h = c.in_ok-e.ensures.placed in
    yield_group_placed g.R.Recorder.after _ _ c.args.tokens.now c.args.from c.args.at c.in_ok-e.e c.closed.result q c.if-is_word.ensures h.1
    h.2 c.closed.ensures.placed

pub atoms::round-returns-then-is_op-2-clause-placed : goal.atoms::round-returns-then-is_op-2-clause-placed
atoms::round-returns-then-is_op-2-clause-placed g t c = λ q.
    let h = c.in_ok-first.ensures.placed in
    whole_joined g.R.Recorder.after _ _ c.args.tokens.now level.Atom (Op LPar ∷ seen c.args.tokens.now c.args.at) c.args.from
    c.group_tuple.result h.2
    (c.group_tuple.ensures.placed (seen c.args.tokens.now c.args.at) h.0 (at_next q h.1))

pub atoms::round-returns-then-starts_comp-clause-placed : goal.atoms::round-returns-then-starts_comp-clause-placed
atoms::round-returns-then-starts_comp-clause-placed g t c = λ q.
    let h = c.in_ok-first.ensures.placed in
    whole_joined g.R.Recorder.after _ _ c.args.tokens.now level.Atom (Op LPar ∷ seen c.args.tokens.now c.args.at) c.args.from
    c.generator_group.result h.2
    (c.generator_group.ensures.placed (seen c.args.tokens.now c.args.at) h.0 c.if-starts_comp.ensures.is
    (at_next q (elem_named h.1 (no_op Star c.if-is_op-3.ensures))))

pub atoms::round-returns-clause-placed : goal.atoms::round-returns-clause-placed
atoms::round-returns-clause-placed g t c = λ q.
    let h = c.in_ok-first.ensures.placed in
    group_placed g.R.Recorder.after _ _ c.args.tokens.now c.args.from c.args.at c.in_ok-first.first c.closed-2.result q
    c.if-is_op-3.ensures h.1 h.2
    c.closed-2.ensures.placed

pub atoms::group_tuple-returns-clause-placed : goal.atoms::group_tuple-returns-clause-placed
atoms::group_tuple-returns-clause-placed g t c = λ i ps p. group_tuple_placed g.R.Recorder.after _ _ c.args.tokens.now c.args.from
    c.args.depth.room i ps c.args.first
    c.in_ok-items.items c.make_tuple.result p c.requires.comma c.in_ok-items.ensures.placed c.if-not-is_op.ensures c.in_ok-node.ensures
    c.make_tuple.ensures

pub atoms::generator_group-returns-clause-placed : goal.atoms::generator_group-returns-clause-placed
atoms::generator_group-returns-clause-placed g t c = λ i ps b p.
    let h = c.in_ok-comps.ensures.placed in
    generator_placed g.R.Recorder.after _ _ c.args.tokens.now c.args.from c.args.depth.room i ps c.args.first c.in_ok-comps.comps
    c.make_generator.result p b h.1 h.2
    c.if-not-is_op.ensures c.in_ok-node.ensures c.make_generator.ensures

pub atoms::list_comp-returns-clause-placed : goal.atoms::list_comp-returns-clause-placed
atoms::list_comp-returns-clause-placed g t c = λ i ps b p.
    let h = c.in_ok-comps.ensures.placed in
    list_comp_placed g.R.Recorder.after _ _ c.args.tokens.now c.args.from c.args.depth.room i ps c.args.first c.in_ok-comps.comps
    c.make_list_comp.result p b h.1 h.2
    c.if-not-is_op.ensures c.in_ok-node.ensures c.make_list_comp.ensures

pub atoms::square-returns-in_ok-node-clause-placed : goal.atoms::square-returns-in_ok-node-clause-placed
atoms::square-returns-in_ok-node-clause-placed g t c = λ q. no_list_placed g.R.Recorder.after _ _ c.args.tokens.now c.args.from
    c.args.at c.args.depth.room
    (map tree_of c.new.result.items)
    c.make_list.result q c.if-is_op.ensures (search rules) c.make_list.ensures c.in_ok-node.ensures

pub atoms::square-returns-else-is_op-2-clause-placed : goal.atoms::square-returns-else-is_op-2-clause-placed
atoms::square-returns-else-is_op-2-clause-placed g t c = λ q.
    let h = c.in_ok-first.ensures.placed in
    whole_joined g.R.Recorder.after _ _ c.args.tokens.now level.Atom (Op LSqb ∷ seen c.args.tokens.now c.args.at)
    c.args.from c.list_comp.result h.2
    (c.list_comp.ensures.placed (seen c.args.tokens.now c.args.at) h.0 c.if-starts_comp.ensures.is
    (at_next q (elem_named h.1 (no_op Star c.if-is_op-2.ensures))))

pub atoms::square-returns-clause-placed : goal.atoms::square-returns-clause-placed
atoms::square-returns-clause-placed g t c = λ q.
    let h = c.in_ok-first.ensures.placed in
    list_placed g.R.Recorder.after _ _ c.args.tokens.now c.args.from c.args.at c.args.depth.room c.in_ok-first.first c.in_ok-items.items
    c.make_list-2.result q h.1 h.2
    c.in_ok-items.ensures.placed c.if-not-is_op.ensures c.in_ok-node-2.ensures c.make_list-2.ensures

pub slices::read_part-returns-in_ok-node-clause-answered : goal.slices::read_part-returns-in_ok-node-clause-answered
slices::read_part-returns-in_ok-node-clause-answered g t c = part_star
    c.args.tokens.now c.args.depth c.args.at c.in_ok-enter.ensures c.in_ok-e.e
    c.make_starred.result c.if-is_op.ensures (inner_found c.args.tokens.now _ c.args.depth c.inner.result _ _ c.in_ok-e.e
    c.inner.ensures.steps c.inner.ensures.room c.in_ok-e.ensures.answered) c.make_starred.ensures

pub slices::read_part-returns-in_ok-node-clause-placed : goal.slices::read_part-returns-in_ok-node-clause-placed
slices::read_part-returns-in_ok-node-clause-placed g t c = part_star_placed g.R.Recorder.after c.args.tokens.now c.args.at
    c.in_ok-e.e c.args.depth.room c.make_starred.result c.in_ok-e.ensures.placed c.if-is_op.ensures
    c.in_ok-node.ensures c.make_starred.ensures

pub slices::read_slice-returns-then-is_op-clause-answered : goal.slices::read_slice-returns-then-is_op-clause-answered
slices::read_slice-returns-then-is_op-clause-answered g t c = slice_open c.args.tokens.now c.args.depth c.args.at
    c.in_ok-enter.ensures c.slice_rest.result
    c.if-is_op.ensures c.slice_rest.ensures.answered

pub slices::read_slice-returns-then-is_op-clause-placed : goal.slices::read_slice-returns-then-is_op-clause-placed
slices::read_slice-returns-then-is_op-clause-placed g t c = c.slice_rest.ensures.placed c.args.at [] c.if-is_op.ensures refl placed_nothing

pub slices::read_slice-returns-then-is_op-2-clause-answered : goal.slices::read_slice-returns-then-is_op-2-clause-answered
slices::read_slice-returns-then-is_op-2-clause-answered g t c = slice_from c.args.tokens.now c.args.depth c.args.at
    c.in_ok-enter.ensures c.in_ok-lower.lower
    c.slice_rest-then-is_op-2.result c.if-is_op.ensures c.in_ok-lower.ensures.answered c.if-is_op-2.ensures c.in-None.ensures
    c.slice_rest-then-is_op-2.ensures.answered

pub slices::read_slice-returns-then-is_op-2-clause-placed : goal.slices::read_slice-returns-then-is_op-2-clause-placed
slices::read_slice-returns-then-is_op-2-clause-placed g t c = slice_from_placed g.R.Recorder.after c.args.tokens.now c.args.at
    c.in_ok-lower.lower _ c.slice_rest-then-is_op-2.result
    c.in_ok-lower.ensures.placed c.in-None.ensures c.if-is_op-2.ensures c.slice_rest-then-is_op-2.ensures.placed

pub slices::read_slice-returns-clause-answered : goal.slices::read_slice-returns-clause-answered
slices::read_slice-returns-clause-answered g t c = slice_alone c.args.tokens.now c.args.depth c.args.at
    c.in_ok-enter.ensures c.in_ok-lower.lower
    c.if-is_op.ensures c.in_ok-lower.ensures.answered c.if-is_op-2.ensures

pub slices::read_slice-returns-clause-placed : goal.slices::read_slice-returns-clause-placed
slices::read_slice-returns-clause-placed g t c =
    let p = c.in_ok-lower.ensures.placed in
    (p.0, placed_next p.1, p.2)

pub slices::read_slices-returns-then-is_op-clause-answered : goal.slices::read_slices-returns-then-is_op-clause-answered
slices::read_slices-returns-then-is_op-clause-answered g t c = slices_tuple c.args.tokens.now c.args.depth c.args.at
    c.in_ok-enter.ensures c.in_ok-first.first
    c.tupled.result c.in_ok-first.ensures.answered c.if-is_op.ensures c.tupled.ensures.answered

pub slices::read_slices-returns-then-is_op-clause-placed : goal.slices::read_slices-returns-then-is_op-clause-placed
slices::read_slices-returns-then-is_op-clause-placed g t c = slices_tuple_placed g.R.Recorder.after c.args.tokens.now c.args.at
    c.in_ok-first.first _ c.tupled.result c.in_ok-first.ensures.placed c.if-is_op.ensures
    c.tupled.ensures.placed

pub slices::read_slices-returns-then-is_op-2-clause-answered : goal.slices::read_slices-returns-then-is_op-2-clause-answered
slices::read_slices-returns-then-is_op-2-clause-answered g t c = slices_star
    c.args.tokens.now c.args.depth c.args.at c.in_ok-enter.ensures c.in_ok-first.first _ _ c.make_tuple.result
    c.in_ok-first.ensures.answered
    c.if-is_op.ensures c.if-is_op-2.ensures c.in_ok-items.ensures.items c.in_ok-items.ensures.next c.make_tuple.ensures

pub slices::read_slices-returns-then-is_op-2-clause-placed : goal.slices::read_slices-returns-then-is_op-2-clause-placed
slices::read_slices-returns-then-is_op-2-clause-placed g t c = slices_star_placed g.R.Recorder.after c.args.tokens.now c.args.at
    c.in_ok-first.first c.in_ok-items.items c.args.depth.room c.make_tuple.result c.in_ok-first.ensures.placed c.if-is_op-2.ensures
    c.in_ok-items.ensures.items
    c.in_ok-items.ensures.next c.in_ok-node.ensures c.make_tuple.ensures

pub slices::read_slices-returns-clause-answered : goal.slices::read_slices-returns-clause-answered
slices::read_slices-returns-clause-answered g t c = slices_alone c.args.tokens.now c.args.depth c.args.at
    c.in_ok-enter.ensures c.in_ok-first.first
    c.in_ok-first.ensures.answered c.if-is_op.ensures c.if-is_op-2.ensures

pub slices::read_slices-returns-clause-placed : goal.slices::read_slices-returns-clause-placed
slices::read_slices-returns-clause-placed g t c = slices_alone_placed g.R.Recorder.after c.args.tokens.now c.args.at
    c.in_ok-first.first c.in_ok-first.ensures.placed c.if-is_op-2.ensures

pub listings::listing-more-init : goal.listings::listing-more-init
listings::listing-more-init g t c = record {
  ahead = omega arith;
  is = list_start c.args.tokens.now c.args.depth c.args.item c.args.items
      c.requires.within c.requires.low;
  grown = grown_start;
}

pub listings::listing-returns-then-not-is_op-clause-answered : goal.listings::listing-returns-then-not-is_op-clause-answered
listings::listing-returns-then-not-is_op-clause-answered g t c = list_end c.args.tokens.now c.args.depth c.args.item _
    c.more.items c.args.items.next
    c.more.invariant.is c.if-not-is_op.ensures c.more.invariant.ahead

pub listings::listing-returns-then-not-is_op-clause-placed : goal.listings::listing-returns-then-not-is_op-clause-placed
listings::listing-returns-then-not-is_op-clause-placed g t c = grown_end c.more.invariant.grown c.if-not-is_op.ensures

pub listings::listing-returns-in_err-e-clause-answered : goal.listings::listing-returns-in_err-e-clause-answered
listings::listing-returns-in_err-e-clause-answered g t c =
    let f = list_error c.args.tokens.now c.args.depth c.args.item _ c.more.items c.in_err-e.field-0.0 c.more.invariant.is
    c.if-not-is_op.ensures (omega arith) c.in_err-e.ensures.answered in
    search (rules, f)

pub listings::listing-more-preserved : goal.listings::listing-more-preserved
listings::listing-more-preserved g t c = record {
  ahead = omega (arith, c.more.invariant.ahead, c.in_ok-e.ensures.answered.ahead, c.in_ok-items.ensures.next);
  is = list_more c.args.tokens.now c.args.depth c.args.item _ c.more.items c.in_ok-items.items c.in_ok-e.e c.more.invariant.is
      c.if-not-is_op.ensures (omega arith) c.in_ok-e.ensures.answered c.in_ok-items.ensures.items c.in_ok-items.ensures.next
      c.in_ok-items.ensures.height;
  grown = grown_turn c.in_ok-e.e c.more.invariant.grown c.if-not-is_op.ensures c.in_ok-e.ensures.placed c.in_ok-items.ensures.items
      c.in_ok-items.ensures.next;
}

pub listings::tupled-returns-in_err-items-clause-answered : goal.listings::tupled-returns-in_err-items-clause-answered
listings::tupled-returns-in_err-items-clause-answered g t c =
    let f = tuple_failed c.args.tokens.now c.args.depth c.args.item c.args.first c.requires.comma c.in_err-items.field-0.0
    c.in_err-items.ensures.answered in
    search (rules, f)

pub listings::tupled-returns-clause-answered : goal.listings::tupled-returns-clause-answered
listings::tupled-returns-clause-answered g t c = tuple_made c.args.tokens.now
    c.args.depth c.args.item c.args.first c.requires.comma c.in_ok-items.items c.make_tuple.result c.in_ok-items.ensures.answered
    c.make_tuple.ensures

pub listings::tupled-returns-clause-placed : goal.listings::tupled-returns-clause-placed
listings::tupled-returns-clause-placed g t c = tuple_placed c.args.depth.room
    c.make_tuple.result c.requires.comma c.in_ok-items.ensures.placed c.in_ok-node.ensures c.make_tuple.ensures

pub listings::listing-returns-then-lead_at-least_lead-clause-answered
    : goal.listings::listing-returns-then-lead_at-least_lead-clause-answered
listings::listing-returns-then-lead_at-least_lead-clause-answered g t c =
    list_stop c.args.tokens.now c.args.depth c.args.item _ c.more.items _
    c.args.items.next c.more.invariant.is c.if-not-is_op.ensures (omega arith) refl refl refl c.more.invariant.ahead

pub listings::listing-returns-then-lead_at-least_lead-clause-placed : goal.listings::listing-returns-then-lead_at-least_lead-clause-placed
listings::listing-returns-then-lead_at-least_lead-clause-placed g t c = grown_comma c.more.invariant.grown c.if-not-is_op.ensures refl refl

pub listings::others-returns-clause-placed : goal.listings::others-returns-clause-placed
listings::others-returns-clause-placed g t c = others_placed g.R.Recorder.after c.args.tokens.now (item_of c.args.item)
    c.args.first c.in_ok-items.items _ _
    c.listing.result c.in_ok-items.ensures.items c.in_ok-items.ensures.next
    c.listing.ensures.placed

pub listings::read_item-returns-in-StarItem-clause-placed : goal.listings::read_item-returns-in-StarItem-clause-placed
listings::read_item-returns-in-StarItem-clause-placed g t c = item_placed g.R.Recorder.after c.args.tokens.now c.args.at _ _ level.StarItem
    c.read_star_item.result (ap item_of c.in-StarItem.is) c.read_star_item.ensures.placed

pub listings::read_item-returns-in-Elem-clause-placed : goal.listings::read_item-returns-in-Elem-clause-placed
listings::read_item-returns-in-Elem-clause-placed g t c = item_placed g.R.Recorder.after c.args.tokens.now c.args.at _ _ level.Elem
    c.read_elem.result (ap item_of c.in-Elem.is) c.read_elem.ensures.placed

pub listings::read_item-returns-in-Target-clause-placed : goal.listings::read_item-returns-in-Target-clause-placed
listings::read_item-returns-in-Target-clause-placed g t c = item_placed g.R.Recorder.after c.args.tokens.now c.args.at _ _ level.StarItem
    c.target_item.result (ap item_of c.in-Target.is) c.target_item.ensures.placed

pub listings::read_item-returns-in-Part-clause-placed : goal.listings::read_item-returns-in-Part-clause-placed
listings::read_item-returns-in-Part-clause-placed g t c = part_item_placed g.R.Recorder.after c.args.tokens.now c.args.at _ _
    c.read_part.result (ap item_of c.in-Part.is) c.read_part.ensures.placed

pub braces::more_pairs-more-init : goal.braces::more_pairs-more-init
braces::more_pairs-more-init g t c =
    record {
      ahead = omega arith;
      is = pairs_start c.args.tokens.now c.args.depth c.args.pairs c.requires.within c.requires.low;
      grown = pairs_grown_start;
    }

pub braces::more_pairs-returns-then-not-is_op-clause-answered : goal.braces::more_pairs-returns-then-not-is_op-clause-answered
braces::more_pairs-returns-then-not-is_op-clause-answered g t c =
    pairs_end c.args.tokens.now c.args.depth _ c.more.pairs c.more.invariant.is
    c.args.pairs.next c.if-not-is_op.ensures c.more.invariant.ahead

pub braces::more_pairs-returns-then-not-is_op-clause-placed : goal.braces::more_pairs-returns-then-not-is_op-clause-placed
braces::more_pairs-returns-then-not-is_op-clause-placed g t c = pairs_grown_end c.more.invariant.grown c.if-not-is_op.ensures

pub braces::more_pairs-returns-then-not-starts_pair-clause-answered : goal.braces::more_pairs-returns-then-not-starts_pair-clause-answered
braces::more_pairs-returns-then-not-starts_pair-clause-answered g t c =
    pairs_stop c.args.tokens.now c.args.depth _ c.more.pairs c.more.invariant.is _
    c.args.pairs.next c.if-not-is_op.ensures c.if-not-starts_pair.ensures.is refl refl refl c.more.invariant.ahead

pub braces::more_pairs-returns-then-not-starts_pair-clause-placed : goal.braces::more_pairs-returns-then-not-starts_pair-clause-placed
braces::more_pairs-returns-then-not-starts_pair-clause-placed g t c =
    pairs_grown_comma c.more.invariant.grown c.if-not-is_op.ensures refl refl

pub braces::more_pairs-returns-in_err-pair-clause-answered : goal.braces::more_pairs-returns-in_err-pair-clause-answered
braces::more_pairs-returns-in_err-pair-clause-answered g t c =
    let f = pairs_error c.args.tokens.now c.args.depth _ c.more.pairs c.more.invariant.is c.in_err-pair.field-0.0 c.if-not-is_op.ensures
    c.if-not-starts_pair.ensures.is c.in_err-pair.ensures.answered in
    search (rules, f)

pub braces::more_pairs-more-preserved : goal.braces::more_pairs-more-preserved
braces::more_pairs-more-preserved g t c = record {
  ahead = omega (arith, c.more.invariant.ahead, c.in_ok-pair.ensures.answered.ahead, c.in_ok-pairs.ensures.next);
  is = pairs_more c.args.tokens.now c.args.depth _ c.more.pairs c.more.invariant.is c.in_ok-pairs.pairs c.in_ok-pair.pair
      c.if-not-is_op.ensures c.if-not-starts_pair.ensures.is c.in_ok-pair.ensures.answered c.in_ok-pairs.ensures.entries
      c.in_ok-pairs.ensures.next c.in_ok-pairs.ensures.height;
  grown = pairs_grown_turn g.met.R.Recorder.apart c.more.invariant.grown c.if-not-is_op.ensures c.in_ok-pair.ensures.placed
      c.in_ok-pairs.ensures.entries c.in_ok-pairs.ensures.next;
}

pub braces::read_pair-returns-then-is_op-clause-placed : goal.braces::read_pair-returns-then-is_op-clause-placed
braces::read_pair-returns-then-is_op-clause-placed g t c = doubled_placed c.in_ok-value.value c.if-is_op.ensures
    c.in_ok-value.ensures.placed
    (aside_now g.R.Recorder.recorded_count c.in_ok-value.ensures.placed.2 c.recorded-before.ensures c.in_ok-set_aside.ensures)
    c.doubled.ensures.entry
    c.doubled.ensures.next

pub braces::read_pair-returns-clause-placed : goal.braces::read_pair-returns-clause-placed
braces::read_pair-returns-clause-placed g t c = paired_placed c.in_ok-key.key c.in_ok-value-2.value
    c.in_ok-key.ensures.placed c.if-not-is_op.ensures
    c.in_ok-value-2.ensures.placed (aside_now g.R.Recorder.recorded_count c.in_ok-value-2.ensures.placed.2 c.recorded-before-2.ensures
    c.in_ok-set_aside-2.ensures)
    c.paired.ensures.entry c.paired.ensures.next

pub braces::dict_from-returns-in_err-pairs-clause-answered : goal.braces::dict_from-returns-in_err-pairs-clause-answered
braces::dict_from-returns-in_err-pairs-clause-answered g t c =
    let f = dict_failed c.args.tokens.now c.args.depth c.args.first c.in_ok-one.one c.in_ok-one.ensures.entries c.in_ok-one.ensures.next
    c.in_err-pairs.field-0.0 c.in_err-pairs.ensures.answered in
    search (rules, f)

pub braces::dict_from-returns-then-not-is_op-clause-answered : goal.braces::dict_from-returns-then-not-is_op-clause-answered
braces::dict_from-returns-then-not-is_op-clause-answered g t c = dict_open c.args.tokens.now c.args.depth c.args.first c.in_ok-one.one
    c.in_ok-one.ensures.entries c.in_ok-one.ensures.next c.in_ok-pairs.pairs c.in_ok-pairs.ensures.answered c.if-not-is_op.ensures

pub braces::dict_from-returns-clause-answered : goal.braces::dict_from-returns-clause-answered
braces::dict_from-returns-clause-answered g t c = dict_made c.args.tokens.now
    c.args.depth c.args.first c.in_ok-one.one c.in_ok-one.ensures.entries
    c.in_ok-one.ensures.next c.in_ok-pairs.pairs c.make_dict.result c.in_ok-pairs.ensures.answered
    c.if-not-is_op.ensures c.make_dict.ensures

pub braces::dict_from-returns-clause-placed : goal.braces::dict_from-returns-clause-placed
braces::dict_from-returns-clause-placed g t c = λ i w p d q k. dict_placed c.args.first c.args.depth.room
    c.make_dict.result g.R.Recorder.aside_count g.met.R.Recorder.apart g.met.R.Recorder.aside_still c.in_ok-one.ensures.entries
    c.in_ok-one.ensures.next
    c.in_ok-pairs.ensures.placed c.if-not-is_op.ensures c.in_ok-take_back.ensures c.in_ok-node.ensures c.make_dict.ensures d q k

pub braces::set_from-returns-clause-answered : goal.braces::set_from-returns-clause-answered
braces::set_from-returns-clause-answered g t c = set_made c.args.tokens.now c.args.depth
    c.args.first c.in_ok-items.items c.make_set.result c.in_ok-items.ensures.answered c.if-not-is_op.ensures c.make_set.ensures

pub braces::set_from-returns-clause-placed : goal.braces::set_from-returns-clause-placed
braces::set_from-returns-clause-placed g t c = λ i ps p. set_placed c.args.depth.room
    c.make_set.result c.in_ok-items.ensures.placed c.if-not-is_op.ensures c.in_ok-node.ensures c.make_set.ensures p

pub braces::set_comp-returns-clause-placed : goal.braces::set_comp-returns-clause-placed
braces::set_comp-returns-clause-placed g t c = λ i ps b p. set_comp_placed g.R.Recorder.after c.args.tokens.now c.args.first
    c.in_ok-comps.comps c.args.depth.room c.make_set_comp.result c.in_ok-comps.ensures.placed c.if-not-is_op.ensures c.in_ok-node.ensures
    c.make_set_comp.ensures b p

pub braces::dict_comp-returns-clause-placed : goal.braces::dict_comp-returns-clause-placed
braces::dict_comp-returns-clause-placed g t c = λ i ps vs b p s d. dict_comp_placed g.R.Recorder.after
    c.args.tokens.now c.args.key c.args.value
    c.in_ok-comps.comps c.args.depth.room c.make_dict_comp.result c.in_ok-comps.ensures.placed c.if-not-is_op.ensures c.in_ok-node.ensures
    c.make_dict_comp.ensures b p s d

pub braces::keyed-returns-then-starts_comp-clause-placed : goal.braces::keyed-returns-then-starts_comp-clause-placed
braces::keyed-returns-then-starts_comp-clause-placed g t c = λ i ps p s. keyed_comp g.R.Recorder.after c.args.tokens.now
    c.args.key c.in_ok-value.value
    c.args.from _ c.dict_comp.result c.in_ok-value.ensures.placed
    c.if-starts_comp.ensures.is c.dict_comp.ensures.placed p s

pub braces::keyed-returns-in_ok-set_aside-clause-placed : goal.braces::keyed-returns-in_ok-set_aside-clause-placed
braces::keyed-returns-in_ok-set_aside-clause-placed g t c = λ i ps p s. keyed_pairs g.R.Recorder.after g.R.Recorder.beside c.args.tokens.now
    g.R.Recorder.aside_count c.args.from _ c.args.key c.in_ok-value.value c.paired.result c.dict_from.result
    c.in_ok-value.ensures.placed (aside_now g.R.Recorder.recorded_count c.in_ok-value.ensures.placed.2 c.recorded-before.ensures
    c.in_ok-set_aside.ensures)
    c.paired.ensures.entry c.paired.ensures.next c.aside-kept.ensures c.dict_from.ensures.placed p s

pub braces::curly-returns-then-is_op-clause-placed : goal.braces::curly-returns-then-is_op-clause-placed
braces::curly-returns-then-is_op-clause-placed g t c = λ q. empty_placed g.R.Recorder.after c.args.tokens.now
    c.args.depth.room _ _
    c.make_dict.result c.if-is_op.ensures c.in_ok-node.ensures c.make_dict.ensures (search rules) (search rules) q

pub braces::curly-returns-then-is_op-2-clause-placed : goal.braces::curly-returns-then-is_op-2-clause-placed
braces::curly-returns-then-is_op-2-clause-placed g t c = λ q. doubled_first g.R.Recorder.after g.R.Recorder.beside c.args.tokens.now
    g.R.Recorder.aside_count c.args.from _ c.in_ok-value.value c.doubled.result c.dict_from.result
    c.if-is_op-2.ensures c.in_ok-value.ensures.placed
    (aside_now g.R.Recorder.recorded_count c.in_ok-value.ensures.placed.2 c.recorded-before.ensures c.in_ok-set_aside.ensures)
    c.doubled.ensures.entry
    c.doubled.ensures.next c.aside-kept.ensures c.dict_from.ensures.placed q

pub braces::curly-returns-in-None-clause-placed : goal.braces::curly-returns-in-None-clause-placed
braces::curly-returns-in-None-clause-placed g t c = λ q. braces_keyed c.args.tokens.now c.in_ok-first.first c.args.from _
    c.keyed.result c.in_ok-first.ensures.placed q c.if-is_op-4.ensures
    c.in-None.ensures c.if-is_op-3.ensures c.keyed.ensures.placed

pub braces::curly-returns-else-is_op-5-clause-placed : goal.braces::curly-returns-else-is_op-5-clause-placed
braces::curly-returns-else-is_op-5-clause-placed g t c = λ q. braces_comp c.args.tokens.now c.in_ok-first.first c.args.from _
    c.set_comp.result c.in_ok-first.ensures.placed q
    c.if-is_op-5.ensures c.if-starts_comp.ensures.is c.set_comp.ensures.placed

pub braces::curly-returns-clause-placed : goal.braces::curly-returns-clause-placed
braces::curly-returns-clause-placed g t c = λ q. braces_set c.args.tokens.now c.in_ok-first.first c.args.from _
    c.set_from.result c.in_ok-first.ensures.placed q c.set_from.ensures.placed

pub comprehensions::read_target-returns-then-is_op-clause-answered : goal.comprehensions::read_target-returns-then-is_op-clause-answered
comprehensions::read_target-returns-then-is_op-clause-answered g t c =
    target_more c.args.tokens.now c.args.depth c.args.at c.in_ok-first.first
    c.target_tuple.result c.in_ok-first.ensures.answered c.if-is_op.ensures c.target_tuple.ensures.answered

pub comprehensions::read_target-returns-then-is_op-clause-placed : goal.comprehensions::read_target-returns-then-is_op-clause-placed
comprehensions::read_target-returns-then-is_op-clause-placed g t c = targets_placed g.R.Recorder.after c.args.tokens.now c.args.at
    c.in_ok-first.first _ c.target_tuple.result c.in_ok-first.ensures.placed
    c.if-is_op.ensures c.target_tuple.ensures.placed

pub comprehensions::target_item-returns-in_ok-node-clause-placed : goal.comprehensions::target_item-returns-in_ok-node-clause-placed
comprehensions::target_item-returns-in_ok-node-clause-placed g t c =
    item_star_placed g.R.Recorder.after c.args.tokens.now c.args.at c.in_ok-e.e
    c.args.depth.room c.make_starred.result c.in_ok-e.ensures.placed c.if-is_op.ensures c.in_ok-node.ensures c.make_starred.ensures

pub comprehensions::target_item-returns-else-is_op-clause-placed : goal.comprehensions::target_item-returns-else-is_op-clause-placed
comprehensions::target_item-returns-else-is_op-clause-placed g t c = item_plain_placed g.R.Recorder.after c.args.tokens.now c.args.at _ _
    c.read_primary-else-is_op.result c.read_primary-else-is_op.ensures.placed

pub comprehensions::read_target-returns-else-is_op-clause-answered : goal.comprehensions::read_target-returns-else-is_op-clause-answered
comprehensions::read_target-returns-else-is_op-clause-answered g t c =
    target_one c.args.tokens.now c.args.depth c.args.at c.in_ok-first.first
    c.in_ok-first.ensures.answered c.if-is_op.ensures

pub comprehensions::read_target-returns-else-is_op-clause-placed : goal.comprehensions::read_target-returns-else-is_op-clause-placed
comprehensions::read_target-returns-else-is_op-clause-placed g t c = target_alone_placed g.R.Recorder.after c.args.tokens.now c.args.at
    c.in_ok-first.first c.in_ok-first.ensures.placed

pub comprehensions::target_tuple-returns-in_err-items-clause-answered
    : goal.comprehensions::target_tuple-returns-in_err-items-clause-answered
comprehensions::target_tuple-returns-in_err-items-clause-answered g t c =
    let f = targets_failed c.args.tokens.now c.args.depth c.args.first c.requires.comma c.in_err-items.field-0.0
    c.in_err-items.ensures.answered in
    search (rules, f)

pub comprehensions::target_tuple-returns-in_ok-node-in-Some-clause-answered
    : goal.comprehensions::target_tuple-returns-in_ok-node-in-Some-clause-answered
comprehensions::target_tuple-returns-in_ok-node-in-Some-clause-answered g t c = targets_made
    c.args.tokens.now c.args.depth c.args.first c.requires.comma c.in-Some.room
    c.in_ok-items.items c.make_tuple.result (omega arith) c.in_ok-items.ensures.answered c.make_tuple.ensures

pub comprehensions::target_tuple-returns-in_ok-node-in-Some-clause-placed
    : goal.comprehensions::target_tuple-returns-in_ok-node-in-Some-clause-placed
comprehensions::target_tuple-returns-in_ok-node-in-Some-clause-placed g t c = tuple_placed
    c.in-Some.room c.make_tuple.result c.requires.comma c.in_ok-items.ensures.placed c.in_ok-node-in-Some.ensures c.make_tuple.ensures

pub comprehensions::ifs-tests-init : goal.comprehensions::ifs-tests-init
comprehensions::ifs-tests-init g t c = record {
  ahead = omega (arith, c.no_items-items.ensures.next);
  is =
      tests_start c.args.tokens.now c.args.depth c.args.at c.no_items-items.result c.requires.within c.no_items-items.ensures.items
      c.no_items-items.ensures.next;
  grown = tests_grown_start c.no_items-items.ensures.items c.no_items-items.ensures.next;
}

pub comprehensions::ifs-returns-then-not-is_word-clause-answered : goal.comprehensions::ifs-returns-then-not-is_word-clause-answered
comprehensions::ifs-returns-then-not-is_word-clause-answered g t c = tests_end c.args.tokens.now c.args.depth _ c.tests.items
    c.tests.invariant.is c.args.at
    c.if-not-is_word.ensures c.tests.invariant.ahead

pub comprehensions::ifs-returns-then-not-is_word-clause-placed : goal.comprehensions::ifs-returns-then-not-is_word-clause-placed
comprehensions::ifs-returns-then-not-is_word-clause-placed g t c = tests_grown_end c.tests.invariant.grown

pub comprehensions::ifs-returns-in_err-e-clause-answered : goal.comprehensions::ifs-returns-in_err-e-clause-answered
comprehensions::ifs-returns-in_err-e-clause-answered g t c =
    let f = tests_error c.args.tokens.now c.args.depth _ c.tests.items c.tests.invariant.is c.in_err-e.field-0.0 c.if-not-is_word.ensures
    (rw (← c.inner.ensures.steps, ← c.inner.ensures.room) c.in_err-e.ensures.answered) in
    search (rules, f)

pub comprehensions::ifs-tests-preserved : goal.comprehensions::ifs-tests-preserved
comprehensions::ifs-tests-preserved g t c =
    let f = inner_found c.args.tokens.now _ c.args.depth c.inner.result _ _ c.in_ok-e.e c.inner.ensures.steps
    c.inner.ensures.room c.in_ok-e.ensures.answered in
    record {
      ahead = omega (arith, c.tests.invariant.ahead, f.ahead, c.in_ok-items.ensures.next);
      is = tests_more c.args.tokens.now c.args.depth _ c.tests.items c.tests.invariant.is _ c.in_ok-items.items c.in_ok-e.e
          c.if-not-is_word.ensures f c.in_ok-items.ensures.items c.in_ok-items.ensures.next;
      grown = tests_grown_turn c.in_ok-e.e c.tests.invariant.grown c.if-not-is_word.ensures c.in_ok-e.ensures.placed
          c.in_ok-items.ensures.items
          c.in_ok-items.ensures.next;
    }

pub comprehensions::for_in-returns-in_err-target-clause-answered : goal.comprehensions::for_in-returns-in_err-target-clause-answered
comprehensions::for_in-returns-in_err-target-clause-answered g t c =
    let f = clause_target c.args.tokens.now c.args.depth c.args.is_async c.args.at c.in_err-target.field-0.0
    c.in_err-target.ensures.answered in
    search (rules, f)

pub comprehensions::for_in-returns-clause-answered : goal.comprehensions::for_in-returns-clause-answered
comprehensions::for_in-returns-clause-answered g t c = clause_ended c.args.tokens.now c.args.depth c.args.is_async c.args.at _
    c.in_ok-target.target c.in_ok-target.ensures.answered c.if-not-is_word.ensures _ c.in_ok-iter.iter
    (inner_found c.args.tokens.now _ c.args.depth c.inner.result _ _ c.in_ok-iter.iter c.inner.ensures.steps c.inner.ensures.room
    c.in_ok-iter.ensures.answered) c.in_ok-tests.tests c.clause_made.result c.in_ok-tests.ensures.answered c.clause_made.ensures

pub comprehensions::for_in-returns-clause-placed : goal.comprehensions::for_in-returns-clause-placed
comprehensions::for_in-returns-clause-placed g t c = clause_placed c.args.is_async c.in_ok-target.target c.in_ok-iter.iter
    c.in_ok-tests.tests c.clause_made.result c.in_ok-target.ensures.placed c.if-not-is_word.ensures
    c.in_ok-iter.ensures.placed c.in_ok-tests.ensures.placed c.clause_made.ensures

pub comprehensions::comps-more-init : goal.comprehensions::comps-more-init
comprehensions::comps-more-init g t c = record {
  ahead = omega (arith, c.no_clauses-clauses.ensures.next);
  is = clauses_start c.args.tokens.now c.args.depth c.args.at c.no_clauses-clauses.result c.requires.within
      c.no_clauses-clauses.ensures.generators c.no_clauses-clauses.ensures.next;
  grown = clauses_grown_start c.no_clauses-clauses.ensures.generators c.no_clauses-clauses.ensures.next;
}

pub comprehensions::comps-returns-in_err-start-clause-answered : goal.comprehensions::comps-returns-in_err-start-clause-answered
comprehensions::comps-returns-in_err-start-clause-answered g t c =
    let f = clauses_unbegun c.args.tokens.now c.args.depth _ c.more.clauses c.more.invariant.is c.in_err-start.field-0.0
    c.in_err-start.ensures in
    search (rules, f)

pub comprehensions::comps-for_in-requires : goal.comprehensions::comps-for_in-requires
comprehensions::comps-for_in-requires g t c =
    let s = hit_start c.args.tokens.now c.more.clauses.next c.in_ok-start.field-0 c.in-Some.start c.in-Some.is c.in_ok-start.ensures in
    λ κs l. (omega arith, (l, (s.within, c.requires.open)))

pub comprehensions::comps-returns-in_err-clause-in-Some-clause-answered
    : goal.comprehensions::comps-returns-in_err-clause-in-Some-clause-answered
comprehensions::comps-returns-in_err-clause-in-Some-clause-answered g t c =
    let s = hit_start c.args.tokens.now c.more.clauses.next c.in_ok-start.field-0 c.in-Some.start c.in-Some.is c.in_ok-start.ensures in
    let f = clauses_error c.args.tokens.now c.args.depth _ c.more.clauses c.more.invariant.is c.in-Some.start.is_async c.in-Some.start.at
    (start_begins c.args.tokens.now c.more.clauses.next c.in-Some.start s) c.in_err-clause-in-Some.field-0.0
    c.in_err-clause-in-Some.ensures.answered in
    search (rules, f)

pub comprehensions::comps-more-preserved : goal.comprehensions::comps-more-preserved
comprehensions::comps-more-preserved g t c =
    let s = hit_start c.args.tokens.now c.more.clauses.next c.in_ok-start.field-0 c.in-Some.start c.in-Some.is c.in_ok-start.ensures in
    record {
      ahead = omega (
        arith,
        c.more.invariant.ahead,
        s.ahead,
        c.in_ok-clause-in-Some.ensures.answered.ahead,
        c.in_ok-clauses-in-Some.ensures.next,
      );
      is = clauses_more c.args.tokens.now c.args.depth _ c.more.clauses c.more.invariant.is c.in-Some.start.is_async c.in-Some.start.at
          (start_begins c.args.tokens.now c.more.clauses.next c.in-Some.start s) c.in_ok-clauses-in-Some.clauses
          c.in_ok-clause-in-Some.clause c.in_ok-clause-in-Some.ensures.answered c.in_ok-clauses-in-Some.ensures.generators
          c.in_ok-clauses-in-Some.ensures.next;
      grown = clauses_grown_turn c.in-Some.start c.in_ok-clause-in-Some.clause c.more.invariant.grown s
          c.in_ok-clause-in-Some.ensures.placed c.in_ok-clauses-in-Some.ensures.generators c.in_ok-clauses-in-Some.ensures.next;
    }

pub comprehensions::comps-more-smaller : goal.comprehensions::comps-more-smaller
comprehensions::comps-more-smaller g t c =
    let s = hit_start c.args.tokens.now c.more.clauses.next c.in_ok-start.field-0 c.in-Some.start c.in-Some.is c.in_ok-start.ensures in
    omega (
      arith,
      s.ahead,
      c.in_ok-clause-in-Some.ensures.answered.ahead,
      c.in_ok-clause-in-Some.ensures.answered.within,
      c.in_ok-clauses-in-Some.ensures.next,
    )

pub comprehensions::comps-returns-in-None-clause-answered : goal.comprehensions::comps-returns-in-None-clause-answered
comprehensions::comps-returns-in-None-clause-answered g t c =
    let n = miss_start c.args.tokens.now c.more.clauses.next c.in_ok-start.field-0 c.in-None.is c.in_ok-start.ensures in
    clauses_end c.args.tokens.now c.args.depth _ c.more.clauses c.more.invariant.is c.args.at n.no_for n.no_async c.more.invariant.ahead

pub comprehensions::comps-returns-in-None-clause-placed : goal.comprehensions::comps-returns-in-None-clause-placed
comprehensions::comps-returns-in-None-clause-placed g t c = clauses_grown_end c.more.invariant.grown
    (miss_start c.args.tokens.now c.more.clauses.next c.in_ok-start.field-0 c.in-None.is c.in_ok-start.ensures)

pub slices::read_part-returns-else-is_op-clause-answered : goal.slices::read_part-returns-else-is_op-clause-answered
slices::read_part-returns-else-is_op-clause-answered g t c = part_plain c.args.tokens.now c.args.depth c.args.at
    c.in_ok-enter.ensures c.read_slice.result
    c.if-is_op.ensures c.read_slice.ensures.answered

pub slices::read_part-returns-else-is_op-clause-placed : goal.slices::read_part-returns-else-is_op-clause-placed
slices::read_part-returns-else-is_op-clause-placed g t c = part_plain_placed g.R.Recorder.after c.args.tokens.now c.args.at _ _
    c.read_slice.result c.if-is_op.ensures
    c.read_slice.ensures.placed

pub slices::slice_rest-returns-in_ok-node-clause-placed : goal.slices::slice_rest-returns-in_ok-node-clause-placed
slices::slice_rest-returns-in_ok-node-clause-placed g t c = λ n ps s q l.
    slice_step_placed c.in_ok-upper.upper s q l c.in_ok-upper.ensures.placed c.in_ok-step.step c.args.depth.room c.make_slice.result
    c.if-is_op.ensures c.in_ok-step.ensures.placed
    c.in_ok-node.ensures c.make_slice.ensures

pub slices::slice_rest-returns-in_ok-node-2-clause-placed : goal.slices::slice_rest-returns-in_ok-node-2-clause-placed
slices::slice_rest-returns-in_ok-node-2-clause-placed g t c = λ n ps s q l.
    slice_placed c.in_ok-upper.upper s q l c.in_ok-upper.ensures.placed c.args.depth.room c.make_slice-else-is_op.result
    c.in_ok-node-2.ensures c.make_slice-else-is_op.ensures

pub slices::perhaps-returns-in_ok-e-clause-placed : goal.slices::perhaps-returns-in_ok-e-clause-placed
slices::perhaps-returns-in_ok-e-clause-placed g t c =
    let p = c.in_ok-e.ensures.placed in
    (p.0, placed_something p.1, p.2)

pub slices::perhaps-returns-else-lead_at-rank-clause-placed : goal.slices::perhaps-returns-else-lead_at-rank-clause-placed
slices::perhaps-returns-else-lead_at-rank-clause-placed g t c = ([], placed_nothing, records_none)

pub arguments::more_arguments-returns-then-not-begins_argument-clause-answered
    : goal.arguments::more_arguments-returns-then-not-begins_argument-clause-answered
arguments::more_arguments-returns-then-not-begins_argument-clause-answered g t c =
    more_end c.args.tokens.now c.args.depth (state_of c.args.actual) _
    c.more.actual c.args.actual.next c.more.invariant.is c.if-not-begins_argument.ensures.is c.more.invariant.ahead

pub arguments::more_arguments-returns-in_err-grown-clause-answered : goal.arguments::more_arguments-returns-in_err-grown-clause-answered
arguments::more_arguments-returns-in_err-grown-clause-answered g t c =
    let f = more_error c.args.tokens.now c.args.depth (state_of c.args.actual) _ c.more.actual c.in_err-grown.field-0.0 c.more.invariant.is
    c.if-not-begins_argument.ensures.is c.in_err-grown.ensures.answered in
    search (rules, f)

pub arguments::more_arguments-returns-then-not-is_op-clause-answered : goal.arguments::more_arguments-returns-then-not-is_op-clause-answered
arguments::more_arguments-returns-then-not-is_op-clause-answered g t c =
    more_last c.args.tokens.now c.args.depth (state_of c.args.actual) _ c.more.actual
    c.in_ok-grown.grown c.args.actual.next c.more.invariant.is c.if-not-begins_argument.ensures.is c.in_ok-grown.ensures.answered
    c.if-not-is_op.ensures c.more.invariant.ahead

pub arguments::more_arguments-more-preserved : goal.arguments::more_arguments-more-preserved
arguments::more_arguments-more-preserved g t c =
    let apart : Apart g.R.Recorder.after g.R.Recorder.beside = record { is = g.met.R.Recorder.apart } in
    record {
      ahead = omega (arith, c.more.invariant.ahead, c.in_ok-grown.ensures.answered.ahead, c.moved-actual.ensures.next);
      is = more_turn c.args.tokens.now c.args.depth (state_of c.args.actual) _ c.more.actual c.in_ok-grown.grown c.moved-actual.result
          c.more.invariant.is c.if-not-begins_argument.ensures.is c.in_ok-grown.ensures.answered c.if-not-is_op.ensures
          c.moved-actual.ensures.state
          c.moved-actual.ensures.next c.moved-actual.ensures.height;
      placed = arguments_turn c.args.tokens.now c.args.actual.next (state_of c.args.actual) c.more.actual c.in_ok-grown.grown
          c.moved-actual.result apart c.more.invariant.placed c.in_ok-grown.ensures.placed c.if-not-is_op.ensures
          c.moved-actual.ensures.state c.moved-actual.ensures.next;
    }

pub arguments::more_arguments-more-init : goal.arguments::more_arguments-more-init
arguments::more_arguments-more-init g t c = record {
  ahead = omega arith;
  is = reaches_start c.args.tokens.now c.args.depth c.args.actual c.requires.within c.requires.low;
  placed = arguments_start c.args.tokens.now c.args.actual _;
}

pub arguments::more_arguments-returns-then-not-begins_argument-clause-placed
    : goal.arguments::more_arguments-returns-then-not-begins_argument-clause-placed
arguments::more_arguments-returns-then-not-begins_argument-clause-placed g t c = arguments_end c.args.tokens.now c.args.actual.next
    (state_of c.args.actual) c.more.actual c.more.invariant.placed

pub arguments::more_arguments-returns-then-not-is_op-clause-placed : goal.arguments::more_arguments-returns-then-not-is_op-clause-placed
arguments::more_arguments-returns-then-not-is_op-clause-placed g t c =
    let apart : Apart g.R.Recorder.after g.R.Recorder.beside = record { is = g.met.R.Recorder.apart } in
    arguments_last c.args.tokens.now c.args.actual.next
    (state_of c.args.actual) c.more.actual c.in_ok-grown.grown apart c.more.invariant.placed c.in_ok-grown.ensures.placed

pub arguments::one_more-returns-clause-placed : goal.arguments::one_more-returns-clause-placed
arguments::one_more-returns-clause-placed g t c =
    let e = c.in_ok-e.ensures.placed in
    let k = c.kind_at-kind.result in
    ok_by _ _ c.add.result c.add.ensures.state c.add.ensures.next (λ r s n. argument_placed c.args.tokens.now k c.args.actual.next
    (state_of c.args.actual) c.in_ok-e.e r c.kind_at-kind.ensures.begins e.1
    (c.in_ok-record_argument.ensures _ e.0 e.2 c.recorded-from.ensures) s n)

pub arguments::call_from-returns-then-not-is_op-clause-placed : goal.arguments::call_from-returns-then-not-is_op-clause-placed
arguments::call_from-returns-then-not-is_op-clause-placed g t c = λ l ps p w e k. c.finish.ensures.placed l ps p w e
    (one_argument c.args.tokens.now (c.args.func.next + 1) c.args.first k)

pub arguments::call_from-returns-clause-placed : goal.arguments::call_from-returns-clause-placed
arguments::call_from-returns-clause-placed g t c = λ l ps p w e k.
    let apart : Apart g.R.Recorder.after g.R.Recorder.beside = record { is = g.met.R.Recorder.apart } in
    c.finish-2.ensures.placed l ps p w e
    (first_and_others c.args.tokens.now (c.args.func.next + 1) c.args.first c.moved.result c.in_ok-actual.actual apart k
    c.if-not-is_op.ensures c.moved.ensures.next c.moved.ensures.state c.in_ok-actual.ensures.placed)

pub arguments::generator_call-returns-clause-placed : goal.arguments::generator_call-returns-clause-placed
arguments::generator_call-returns-clause-placed g t c = λ l i ps p es o w d.
    let s = c.in_ok-comps.ensures.placed in
    MatchResult-weaker c.make_call.result c.make_call.ensures
    (λ r m. called_generator c.args.tokens.now c.args.at c.args.depth.room c.args.func c.args.elt
    c.in_ok-comps.comps.next c.in_ok-e.e r c.in_ok-e.ensures c.in_ok-items.ensures.items (search rules) c.if-not-is_op.ensures
    c.in_ok-node.ensures c.in_ok-node-2.ensures m s.1 s.2 l i p o d) (λ y _. tt)

pub arguments::call_step-returns-clause-answered : goal.arguments::call_step-returns-clause-answered
arguments::call_step-returns-clause-answered g t c =
    call_after c.args.tokens.now c.args.depth (tree_of c.args.func.expr.value) (c.args.func.next + 1)
    c.kind_at-kind.result c.in_ok-e.e c.none_at-none.result c.in_ok-first.first c.call_from.result c.if-not-begins_argument.ensures.is
    c.kind_at-kind.ensures c.in_ok-e.ensures.answered c.if-starts_comp.ensures.is c.none_at-none.ensures.state c.in_ok-first.ensures.state
    c.in_ok-first.ensures.next c.call_from.ensures.answered

pub arguments::call_step-returns-then-not-begins_argument-clause-placed
    : goal.arguments::call_step-returns-then-not-begins_argument-clause-placed
arguments::call_step-returns-then-not-begins_argument-clause-placed g t c = λ l ps p. c.finish.ensures.placed l ps p _ c.aside-aside.ensures
    (no_arguments c.args.tokens.now (c.args.func.next + 1) c.none_at-none.result _ c.none_at-none.ensures.next c.none_at-none.ensures.state)

pub arguments::call_step-returns-in-Single-clause-placed : goal.arguments::call_step-returns-in-Single-clause-placed
arguments::call_step-returns-in-Single-clause-placed g t c = λ l ps p.
    let e = c.in_ok-e.ensures.placed in
    c.generator_call.ensures.placed l (sym c.if-starts_comp.ensures.is) ps p e.0
    (single_read c.args.tokens.now (c.args.func.next + 1) c.kind_at-kind.result c.in-Single.is e.1) _ e.2

pub arguments::call_step-returns-clause-placed : goal.arguments::call_step-returns-clause-placed
arguments::call_step-returns-clause-placed g t c = λ l ps p.
    let e = c.in_ok-e.ensures.placed in
    let k = c.kind_at-kind.result in
    c.call_from.ensures.placed l ps p _ c.aside-aside.ensures (argument_placed c.args.tokens.now k (c.args.func.next + 1) start c.in_ok-e.e
    c.in_ok-first.first c.kind_at-kind.ensures.begins e.1 (c.in_ok-record_argument.ensures _ e.0 e.2 c.recorded-from.ensures)
    (c.in_ok-first.ensures.state ∙ ap (λ z. step z (entry_of k (tree_of c.in_ok-e.e.expr.value))) c.none_at-none.ensures.state)
    c.in_ok-first.ensures.next)

pub signatures::suffixed-returns-in_err-e-in-Some-clause-answered : goal.signatures::suffixed-returns-in_err-e-in-Some-clause-answered
signatures::suffixed-returns-in_err-e-in-Some-clause-answered g t c =
    let f = suffix_failed c.args.tokens.now c.args.depth c.args.at c.in-Some.sign c.in_err-e-in-Some.field-0.0 c.if-is_op.ensures
    (rw (← c.inner.ensures.steps, ← c.inner.ensures.room) c.in_err-e-in-Some.ensures.answered) in
    search (rules, f)

pub signatures::suffixed-returns-in_ok-e-in-Some-clause-answered : goal.signatures::suffixed-returns-in_ok-e-in-Some-clause-answered
signatures::suffixed-returns-in_ok-e-in-Some-clause-answered g t c = suffix_found c.args.tokens.now c.args.depth c.args.at _ c.in-Some.sign
    c.in_ok-e-in-Some.e c.one_read.result c.in-Some.is c.if-is_op.ensures (inner_found c.args.tokens.now _ c.args.depth c.inner.result _ _
    c.in_ok-e-in-Some.e c.inner.ensures.steps c.inner.ensures.room c.in_ok-e-in-Some.ensures.answered) c.one_read.ensures.expr
    c.one_read.ensures.height c.one_read.ensures.next

pub signatures::suffixed-returns-in_ok-e-in-Some-clause-placed : goal.signatures::suffixed-returns-in_ok-e-in-Some-clause-placed
signatures::suffixed-returns-in_ok-e-in-Some-clause-placed g t c = let p = c.in_ok-e-in-Some.ensures.placed in (
  p.0,
  suffix_some c.args.tokens.now c.args.sign c.in-Some.sign c.args.at c.in_ok-e-in-Some.e c.one_read.result c.in-Some.is c.if-is_op.ensures
      c.one_read.ensures.expr c.one_read.ensures.next p.1,
  p.2,
)

pub signatures::suffixed-returns-else-is_op-clause-placed : goal.signatures::suffixed-returns-else-is_op-clause-placed
signatures::suffixed-returns-else-is_op-clause-placed g t c = (
  [],
  suffix_none c.args.tokens.now c.args.sign c.args.at c.none_read.result c.none_read.ensures.expr c.none_read.ensures.next,
  records_none,
)

pub signatures::suffixed-returns-in-None-clause-placed : goal.signatures::suffixed-returns-in-None-clause-placed
signatures::suffixed-returns-in-None-clause-placed g t c = (
  [],
  suffix_none c.args.tokens.now c.args.sign c.args.at c.none_read-in-None.result c.none_read-in-None.ensures.expr
      c.none_read-in-None.ensures.next,
  records_none,
)

pub signatures::star_annotation-returns-then-not-annotated-clause-placed
    : goal.signatures::star_annotation-returns-then-not-annotated-clause-placed
signatures::star_annotation-returns-then-not-annotated-clause-placed g t c = (
  [],
  star_none c.args.tokens.now c.args.annotated c.args.at c.none_read.result c.none_read.ensures.expr c.none_read.ensures.next,
  records_none,
)

pub signatures::star_annotation-returns-then-not-is_op-clause-placed : goal.signatures::star_annotation-returns-then-not-is_op-clause-placed
signatures::star_annotation-returns-then-not-is_op-clause-placed g t c = (
  [],
  star_none c.args.tokens.now c.args.annotated c.args.at c.none_read-then-not-is_op.result c.none_read-then-not-is_op.ensures.expr
      c.none_read-then-not-is_op.ensures.next,
  records_none,
)

pub signatures::star_annotation-returns-then-is_op-clause-placed : goal.signatures::star_annotation-returns-then-is_op-clause-placed
signatures::star_annotation-returns-then-is_op-clause-placed g t c = let p = c.in_ok-e.ensures.placed in (
  p.0 ++ (stretch (c.args.at + 1) c.in_ok-e.e.next ∷ []),
  star_starred c.args.tokens.now c.args.annotated c.args.at c.args.depth.room c.in_ok-e.e c.in_ok-starred.starred c.one_read.result
      c.if-not-annotated.false c.if-not-is_op.ensures c.if-is_op.ensures c.in_ok-starred.ensures c.one_read.ensures.expr
      c.one_read.ensures.next p.1,
  records_more p.2 (records_node c.in_ok-node.ensures),
)

pub signatures::star_annotation-returns-clause-placed : goal.signatures::star_annotation-returns-clause-placed
signatures::star_annotation-returns-clause-placed g t c = let p = c.in_ok-e-2.ensures.placed in (
  p.0,
  star_plain c.args.tokens.now c.args.annotated c.args.at c.in_ok-e-2.e c.one_read-2.result c.if-not-annotated.false
      c.if-not-is_op.ensures c.one_read-2.ensures.expr c.one_read-2.ensures.next p.1,
  p.2,
)

pub signatures::plain_parameter-returns-clause-placed : goal.signatures::plain_parameter-returns-clause-placed
signatures::plain_parameter-returns-clause-placed g t c = λ w i n.
    let a = c.in_ok-annotation.ensures.placed in
    let d = c.in_ok-default.ensures.placed in
    plain_placed g.R.Recorder.aside_count c.args.tokens.now c.args.annotated g.R.Recorder.recorded_count c.args.from c.args.at n _ _
    c.in_ok-arg.arg c.in_ok-annotation.annotation c.in_ok-default.default _ c.annotation_sign.ensures c.in_ok-arg.ensures refl refl a.1 a.2
    c.in_ok-node.ensures c.recorded-recorded.ensures d.1 d.2 (record { is = c.in_ok-set_aside.ensures }) w i

pub signatures::gathered_parameter-returns-clause-placed : goal.signatures::gathered_parameter-returns-clause-placed
signatures::gathered_parameter-returns-clause-placed g t c = λ w i star k o n.
    let a = c.in_ok-annotation.ensures.placed in
    gathered_placed g.R.Recorder.aside_count c.args.tokens.now c.args.annotated c.args.from c.args.at n _ c.in_ok-arg.arg
    c.in_ok-annotation.annotation _ c.in_ok-arg.ensures refl refl a.1 a.2 c.in_ok-node.ensures w i star k o

pub signatures::collected_parameter-returns-clause-placed : goal.signatures::collected_parameter-returns-clause-placed
signatures::collected_parameter-returns-clause-placed g t c = λ w i star k o.
    let a = c.in_ok-annotation.ensures.placed in
    collected_placed c.args.tokens.now c.args.annotated c.args.from c.args.at _ _
    c.in_ok-arg.arg c.in_ok-annotation.annotation _ _ c.annotation_sign.ensures c.in_ok-arg.ensures refl refl a.1 a.2
    c.in_ok-node.ensures w i star k o

pub signatures::read_parameter-returns-in-Some-clause-placed : goal.signatures::read_parameter-returns-in-Some-clause-placed
signatures::read_parameter-returns-in-Some-clause-placed g t c = c.plain_parameter.ensures.placed refl c.in-Some.ensures.is c.args.count

pub signatures::read_parameter-returns-in-Some-name_at-clause-placed : goal.signatures::read_parameter-returns-in-Some-name_at-clause-placed
signatures::read_parameter-returns-in-Some-name_at-clause-placed g t c = c.gathered_parameter.ensures.placed (omega arith)
    c.in-Some-name_at.ensures.is c.args.at refl c.if-is_op.ensures c.args.count

pub signatures::read_parameter-returns-in-None-clause-placed : goal.signatures::read_parameter-returns-in-None-clause-placed
signatures::read_parameter-returns-in-None-clause-placed g t c = bare_placed g.R.Recorder.aside_count c.args.tokens.now c.args.annotated
    c.args.at c.args.count _ _ refl refl c.if-is_op.ensures

pub signatures::read_parameter-returns-in_ok-take_back-in-Some-name_at-2-clause-placed
    : goal.signatures::read_parameter-returns-in_ok-take_back-in-Some-name_at-2-clause-placed
signatures::read_parameter-returns-in_ok-take_back-in-Some-name_at-2-clause-placed g t c = IfOk-weaker c.collected_parameter.result _ _
    (λ r p. double_placed g.R.Recorder.aside_count c.args.tokens.now c.args.annotated c.args.at r
    (record { is = c.in_ok-take_back-in-Some-name_at-2.ensures }) p)
    (c.collected_parameter.ensures.placed (omega arith) c.in-Some-name_at-2.ensures.is c.args.at refl c.if-is_op-2.ensures)

pub signatures::read_parameter-returns-then-is_op-3-clause-placed : goal.signatures::read_parameter-returns-then-is_op-3-clause-placed
signatures::read_parameter-returns-then-is_op-3-clause-placed g t c = slash_placed g.R.Recorder.aside_count c.args.tokens.now
    c.args.annotated c.args.at c.args.count _ _ refl refl c.if-is_op-3.ensures

pub signatures::read_parameter-returns-in-Some-clause-answered : goal.signatures::read_parameter-returns-in-Some-clause-answered
signatures::read_parameter-returns-in-Some-clause-answered g t c =
    parameter_earlier c.args.tokens.now c.args.depth c.args.annotated c.args.at _ _
    (c.args.at + 1) (c.args.at + 1) c.plain_parameter.result (by_name c.args.tokens.now c.args.depth c.args.annotated c.args.at _
    c.in-Some.ensures.is) (omega arith) c.plain_parameter.ensures.answered

pub signatures::read_parameter-returns-in-Some-name_at-clause-answered
    : goal.signatures::read_parameter-returns-in-Some-name_at-clause-answered
signatures::read_parameter-returns-in-Some-name_at-clause-answered g t c =
    parameter_earlier c.args.tokens.now c.args.depth c.args.annotated c.args.at _ _
    (c.args.at + 1) (c.args.at + 2) c.gathered_parameter.result (by_star c.args.tokens.now c.args.depth c.args.annotated c.args.at _
    c.if-is_op.ensures c.in-Some-name_at.ensures.is) (omega arith) c.gathered_parameter.ensures.answered

pub signatures::read_parameter-returns-in_ok-take_back-in-Some-name_at-2-clause-answered
    : goal.signatures::read_parameter-returns-in_ok-take_back-in-Some-name_at-2-clause-answered
signatures::read_parameter-returns-in_ok-take_back-in-Some-name_at-2-clause-answered g t c =
    parameter_earlier c.args.tokens.now c.args.depth c.args.annotated c.args.at _ _
    (c.args.at + 1) (c.args.at + 2) c.collected_parameter.result (by_stars c.args.tokens.now c.args.depth c.args.annotated c.args.at _
    c.if-is_op-2.ensures c.in-Some-name_at-2.ensures.is) (omega arith) c.collected_parameter.ensures.answered

pub signatures::parameters-more-init : goal.signatures::parameters-more-init
signatures::parameters-more-init g t c =
    let apart : Apart g.R.Recorder.after g.R.Recorder.beside = record { is = g.met.R.Recorder.apart } in
    let still : Still g.R.Recorder.after g.R.Recorder.aside_count = record { is = g.met.R.Recorder.aside_still } in
    record {
      ahead = omega arith;
      is = parameters_start c.args.tokens.now c.args.depth c.args.annotated c.args.at c.no_parameters-signature.result c.requires.within
          c.no_parameters-signature.ensures.formal c.no_parameters-signature.ensures.height c.no_parameters-signature.ensures.next;
      aside = c.aside-aside.ensures;
      placed = signature_start apart still c.args.tokens.now c.args.annotated c.args.at
          c.no_parameters-signature.result.formal c.no_parameters-signature.result.next _ _ c.no_parameters-signature.ensures.formal
          c.no_parameters-signature.ensures.next c.aside-aside.ensures;
    }

pub signatures::parameters-returns-in_err-one-clause-answered : goal.signatures::parameters-returns-in_err-one-clause-answered
signatures::parameters-returns-in_err-one-clause-answered g t c =
    let f = parameters_error c.args.tokens.now c.args.depth c.args.annotated _ c.more.signature c.more.invariant.is c.in_err-one.field-0.0
    c.more-test.ensures.is c.in_err-one.ensures.answered in
    search (rules, f)

pub signatures::parameters-returns-then-not-is_op-clause-answered : goal.signatures::parameters-returns-then-not-is_op-clause-answered
signatures::parameters-returns-then-not-is_op-clause-answered g t c =
    parameters_last c.args.tokens.now c.args.depth c.args.annotated _ c.more.signature
    c.more.invariant.is c.in_ok-one.one c.put_parameter.new.signature c.args.at c.more-test.ensures.is c.in_ok-one.ensures.answered
    c.in_ok-put_parameter.ensures.formal c.in_ok-put_parameter.ensures.height c.in_ok-put_parameter.ensures.next
    c.if-not-is_op.ensures c.more.invariant.ahead

pub signatures::parameters-more-preserved : goal.signatures::parameters-more-preserved
signatures::parameters-more-preserved g t c =
    let apart : Apart g.R.Recorder.after g.R.Recorder.beside = record { is = g.met.R.Recorder.apart } in
    let still : Still g.R.Recorder.after g.R.Recorder.aside_count = record { is = g.met.R.Recorder.aside_still } in
    record {
      ahead = omega (arith, c.more.invariant.ahead, c.in_ok-one.ensures.answered.ahead, c.in_ok-put_parameter.ensures.next);
      is = parameters_more c.args.tokens.now c.args.depth c.args.annotated _ c.more.signature c.more.invariant.is c.in_ok-one.one
          c.put_parameter.new.signature _ c.more-test.ensures.is c.in_ok-one.ensures.answered c.in_ok-put_parameter.ensures.formal
          c.in_ok-put_parameter.ensures.height c.in_ok-put_parameter.ensures.next c.if-not-is_op.ensures refl refl refl;
      aside = c.more.invariant.aside;
      placed = signature_turn apart still c.args.tokens.now c.args.annotated c.args.at
          c.more.invariant.placed c.in_ok-one.one c.in_ok-one.ensures.placed c.put_parameter.new.signature.formal
          c.in_ok-put_parameter.ensures.formal c.count_defaults-count.ensures c.put_parameter.new.signature.next _
          c.in_ok-put_parameter.ensures.next c.if-not-is_op.ensures refl;
    }

pub signatures::parameters-returns-clause-answered : goal.signatures::parameters-returns-clause-answered
signatures::parameters-returns-clause-answered g t c = parameters_end c.args.tokens.now c.args.depth c.args.annotated _
    c.more.signature c.more.invariant.is
    c.args.at c.more-test.ensures.is c.more.invariant.ahead

pub signatures::parameters-returns-then-not-is_op-clause-placed : goal.signatures::parameters-returns-then-not-is_op-clause-placed
signatures::parameters-returns-then-not-is_op-clause-placed g t c =
    let apart : Apart g.R.Recorder.after g.R.Recorder.beside = record { is = g.met.R.Recorder.apart } in
    let still : Still g.R.Recorder.after g.R.Recorder.aside_count = record { is = g.met.R.Recorder.aside_still } in
    signature_last apart still
    c.args.tokens.now c.args.annotated c.args.at c.more.invariant.placed c.in_ok-one.one c.in_ok-one.ensures.placed
    c.put_parameter.new.signature.formal c.in_ok-put_parameter.ensures.formal c.count_defaults-count.ensures c.put_parameter.new.signature
    refl c.in_ok-put_parameter.ensures.next c.more.invariant.aside c.in_ok-take_defaults_back.ensures

pub signatures::parameters-returns-clause-placed : goal.signatures::parameters-returns-clause-placed
signatures::parameters-returns-clause-placed g t c =
    let apart : Apart g.R.Recorder.after g.R.Recorder.beside = record { is = g.met.R.Recorder.apart } in
    let still : Still g.R.Recorder.after g.R.Recorder.aside_count = record { is = g.met.R.Recorder.aside_still } in
    signature_end apart still c.args.tokens.now
    c.args.annotated c.args.at c.more.signature c.more.invariant.placed c.more.invariant.aside c.in_ok-take_defaults_back-2.ensures

pub signatures::lambda_step-returns-in_err-signature-clause-answered : goal.signatures::lambda_step-returns-in_err-signature-clause-answered
signatures::lambda_step-returns-in_err-signature-clause-answered g t c =
    let f = lambda_failed c.args.tokens.now c.args.depth c.args.at c.in_err-signature.field-0.0 c.in_err-signature.ensures.answered in
    search (rules, f)

pub signatures::lambda_step-lambda_body-requires : goal.signatures::lambda_step-lambda_body-requires
signatures::lambda_step-lambda_body-requires g t c =
    let h = signature_height c.args.tokens.now _ _ _ c.in_ok-signature.signature c.in_ok-signature.ensures.answered in
    λ κs l. (omega arith, (l, (c.in_ok-signature.ensures.answered.within, (c.requires.open, h))))

pub signatures::lambda_step-returns-clause-answered : goal.signatures::lambda_step-returns-clause-answered
signatures::lambda_step-returns-clause-answered g t c = lambda_after c.args.tokens.now c.args.depth c.args.at
    c.in_ok-signature.signature c.in_ok-signature.ensures.answered c.lambda_body.result c.lambda_body.ensures.answered

pub signatures::lambda_step-returns-clause-placed : goal.signatures::lambda_step-returns-clause-placed
signatures::lambda_step-returns-clause-placed g t c = λ w. c.lambda_body.ensures.placed c.args.at w _ c.in_ok-signature.ensures.placed

pub signatures::lambda_body-returns-then-not-is_op-clause-answered : goal.signatures::lambda_body-returns-then-not-is_op-clause-answered
signatures::lambda_body-returns-then-not-is_op-clause-answered g t c = lambda_unclosed c.args.tokens.now c.args.depth
    c.args.signature c.if-not-is_op.ensures

pub signatures::lambda_body-returns-in_err-body-clause-answered : goal.signatures::lambda_body-returns-in_err-body-clause-answered
signatures::lambda_body-returns-in_err-body-clause-answered g t c =
    let f = lambda_body_failed c.args.tokens.now c.args.depth c.args.signature c.if-not-is_op.ensures c.in_err-body.field-0.0
    (rw (← c.inner.ensures.steps, ← c.inner.ensures.room) c.in_err-body.ensures.answered) in
    search (rules, f)

pub signatures::lambda_body-returns-clause-answered : goal.signatures::lambda_body-returns-clause-answered
signatures::lambda_body-returns-clause-answered g t c =
    let b = inner_found c.args.tokens.now _ c.args.depth c.inner.result _ _ c.in_ok-body.body c.inner.ensures.steps
    c.inner.ensures.room c.in_ok-body.ensures.answered in
    lambda_ended c.args.tokens.now c.args.depth c.args.signature c.if-not-is_op.ensures _ c.in_ok-body.body b
    c.finish_lambda.result c.finish_lambda.ensures.made

pub signatures::lambda_body-returns-clause-placed : goal.signatures::lambda_body-returns-clause-placed
signatures::lambda_body-returns-clause-placed g t c = λ at q w s.
    let b = c.in_ok-body.ensures.placed in
    lambda_finished c.args.tokens.now _ c.args.from at c.args.depth.room c.args.signature c.in_ok-body.body c.finish_lambda.result s
    c.if-not-is_op.ensures b.1 b.2 c.finish_lambda.ensures.placed c.finish_lambda.ensures.made q

pub strings::more_literals-returns-in_err-text-clause-parts : goal.strings::more_literals-returns-in_err-text-clause-parts
strings::more_literals-returns-in_err-text-clause-parts g t c = λ acc g.
    let f = literal_error c.args.tokens.now c.args.depth c.args.unicode _ c.more.values (c.more.invariant.is acc g) _
    c.in-Some.ensures.within c.in-Some.ensures.is c.in_err-text.field-0.0 c.in_err-text.ensures in
    search (rules, f)

pub strings::more_literals-more-preserved-in-Some : goal.strings::more_literals-more-preserved-in-Some
strings::more_literals-more-preserved-in-Some g t c = record {
  ahead = omega (arith, c.more.invariant.ahead, c.in_ok-values.ensures.next_is);
  within = omega (arith, c.in-Some.ensures.within, c.in_ok-values.ensures.next_is);
  is = λ acc g. literal_more c.args.tokens.now c.args.depth c.args.unicode _ c.more.values (c.more.invariant.is acc g) _
      c.in-Some.ensures.within c.in-Some.ensures.is c.in_ok-text.text c.in_ok-values.values c.in_ok-text.ensures c.in_ok-values.ensures;
  placed = λ whole a. parts_then c.args.tokens.now c.args.unicode whole c.args.before c.more.values c.in_ok-values.values
      (c.more.invariant.placed whole a) (literal_placed c.args.tokens.now c.args.unicode whole _ c.in_ok-text.text c.more.values
      c.in_ok-values.values _ c.in-Some.ensures.is c.in_ok-text.ensures c.in_ok-values.ensures);
}

pub strings::more_literals-returns-in_err-values-2-clause-parts : goal.strings::more_literals-returns-in_err-values-2-clause-parts
strings::more_literals-returns-in_err-values-2-clause-parts g t c = λ acc g.
    let f = formatted_error c.args.tokens.now c.args.depth c.args.unicode _ c.more.values (c.more.invariant.is acc g) c.moved.result
    c.if-is_boundary.ensures c.moved.ensures c.in_err-values-2.field-0.0 c.in_err-values-2.ensures.parts in
    search (rules, f)

pub strings::more_literals-more-preserved : goal.strings::more_literals-more-preserved
strings::more_literals-more-preserved g t c = record {
  ahead = omega (arith, c.more.invariant.ahead, c.moved.ensures.next_is, c.in_ok-values-2.ensures.place.ahead);
  within = c.in_ok-values-2.ensures.place.within;
  is = λ acc g. formatted_more c.args.tokens.now c.args.depth c.args.unicode _ c.more.values (c.more.invariant.is acc g) c.moved.result
      c.if-is_boundary.ensures c.moved.ensures c.in_ok-values-2.values c.in_ok-values-2.ensures.parts;
  placed = λ whole a. parts_then c.args.tokens.now c.args.unicode whole c.args.before c.more.values c.in_ok-values-2.values
      (c.more.invariant.placed whole a) (string_placed c.args.tokens.now c.args.unicode whole c.more.values c.moved.result
      c.in_ok-values-2.values c.if-is_boundary.ensures c.moved.ensures (c.in_ok-values-2.ensures.placed whole a));
}

pub strings::more_literals-returns-else-is_boundary-clause-parts : goal.strings::more_literals-returns-else-is_boundary-clause-parts
strings::more_literals-returns-else-is_boundary-clause-parts g t c = λ acc g. literals_end c.args.tokens.now c.args.depth c.args.unicode _
    c.more.values (c.more.invariant.is acc g) c.args.before.next c.more.invariant.ahead c.in_default.ensures.is c.if-is_boundary.ensures

pub strings::more_literals-more-init : goal.strings::more_literals-more-init
strings::more_literals-more-init g t c = record {
  ahead = omega arith;
  within = c.requires.within;
  is = λ acc e. literals_start c.args.tokens.now c.args.depth c.args.unicode c.args.before acc c.requires.within e;
  placed = λ whole a. parts_none c.args.tokens.now c.args.unicode whole c.args.before _;
}

pub strings::more_literals-returns-else-is_boundary-clause-placed : goal.strings::more_literals-returns-else-is_boundary-clause-placed
strings::more_literals-returns-else-is_boundary-clause-placed g t c = c.more.invariant.placed

pub strings::more_literals-returns-else-is_boundary-clause-ended : goal.strings::more_literals-returns-else-is_boundary-clause-ended
strings::more_literals-returns-else-is_boundary-clause-ended g t c = row_ended _ c.in_default.ensures.is c.if-is_boundary.ensures

pub strings::read_formatted-returns-clause-placed : goal.strings::read_formatted-returns-clause-placed
strings::read_formatted-returns-clause-placed g t c = λ whole a. formatted_placed c.args.tokens.now c.args.unicode whole
    c.args.before c.in_ok-values.values c.moved.result (c.in_ok-values.ensures.placed whole a) c.if-not-is_boundary.ensures c.moved.ensures

pub strings::read_field-returns-in_err-spec-clause-is : goal.strings::read_field-returns-in_err-spec-clause-is
strings::read_field-returns-in_err-spec-clause-is g t c = λ most le.
    let v = inner_found c.args.tokens.now _ c.args.depth c.inner.result _ _ c.in_ok-value.value c.inner.ensures.steps c.inner.ensures.room
    c.in_ok-value.ensures.answered in
    let f = field_spec_failed c.args.tokens.now c.args.depth c.args.unicode most c.args.conversion c.args.at c.if-not-is_op.ensures _
    c.in_ok-value.value v c.in_err-spec.field-0.0
    (c.in_err-spec.ensures.is most (further c.args.tokens.now c.args.at c.in_ok-value.value.next most le
    (omega (arith, c.in_ok-value.ensures.answered.ahead)))) in
    search (rules, f)

pub strings::read_field-returns-then-not-is_boundary-clause-is : goal.strings::read_field-returns-then-not-is_boundary-clause-is
strings::read_field-returns-then-not-is_boundary-clause-is g t c = λ most le.
    let v = inner_found c.args.tokens.now _ c.args.depth c.inner.result _ _ c.in_ok-value.value c.inner.ensures.steps c.inner.ensures.room
    c.in_ok-value.ensures.answered in
    field_open c.args.tokens.now c.args.depth c.args.unicode most c.args.conversion c.args.at c.if-not-is_op.ensures _ c.in_ok-value.value v
    c.in_ok-spec.spec (c.in_ok-spec.ensures.is most (further c.args.tokens.now c.args.at c.in_ok-value.value.next most le
    (omega (arith, c.in_ok-value.ensures.answered.ahead)))) c.if-not-is_boundary.ensures

pub strings::read_field-returns-clause-is : goal.strings::read_field-returns-clause-is
strings::read_field-returns-clause-is g t c = λ most le.
    let v = inner_found c.args.tokens.now _ c.args.depth c.inner.result _ _ c.in_ok-value.value c.inner.ensures.steps c.inner.ensures.room
    c.in_ok-value.ensures.answered in
    field_made c.args.tokens.now c.args.depth c.args.unicode most c.args.conversion c.args.at c.if-not-is_op.ensures _ c.in_ok-value.value v
    c.in_ok-spec.spec (c.in_ok-spec.ensures.is most (further c.args.tokens.now c.args.at c.in_ok-value.value.next most le
    (omega (arith, c.in_ok-value.ensures.answered.ahead)))) c.make_field.result c.if-not-is_boundary.ensures c.make_field.ensures

pub strings::read_field-returns-clause-placed : goal.strings::read_field-returns-clause-placed
strings::read_field-returns-clause-placed g t c = λ whole a.
    let p = c.in_ok-value.ensures.placed in
    let q = c.in_ok-spec.ensures.placed whole a in
    MatchResult-weaker c.make_field.result c.make_field.ensures
    (λ r k. whole_field c.args.tokens.now c.args.unicode c.args.conversion whole c.args.at
    c.in_ok-value.value c.in_ok-spec.spec r c.if-not-is_op.ensures p.1 p.2 q.1 q.2 c.if-not-is_boundary.ensures k) (λ y _. tt)

pub strings::read_joined-returns-clause-answered : goal.strings::read_joined-returns-clause-answered
strings::read_joined-returns-clause-answered g t c = λ acc g. joined_made c.args.tokens.now c.args.depth
    c.args.unicode c.args.before.next acc
    c.in_ok-first.first (c.in_ok-first.ensures.parts acc g) c.in_ok-whole.whole c.make_joined.result
    c.in_ok-whole.ensures.parts c.make_joined.ensures

pub strings::read_joined-returns-clause-placed : goal.strings::read_joined-returns-clause-placed
strings::read_joined-returns-clause-placed g t c = MatchResult-weaker c.make_joined.result c.make_joined.ensures
    (λ r k. joined_placed _ _ _ c.args.tokens.now
    c.args.unicode c.args.from c.row_end.result c.args.before c.in_ok-first.first c.in_ok-whole.whole r c.row_end.ensures
    c.in_ok-first.ensures.placed c.in_ok-whole.ensures.placed c.in_ok-whole.ensures.ended c.in_ok-record_joined.ensures k) (λ y _. tt)

pub strings::read_literals-returns-in_err-value-clause-answered : goal.strings::read_literals-returns-in_err-value-clause-answered
strings::read_literals-returns-in_err-value-clause-answered g t c =
    let f = literals_failed (inner_reads c.args.depth) _ (seen c.args.tokens.now c.args.at) c.in_err-value.field-0.0
    c.in_err-value.ensures in
    search (rules, f)

pub strings::read_literals-returns-in-Text-clause-answered : goal.strings::read_literals-returns-in-Text-clause-answered
strings::read_literals-returns-in-Text-clause-answered g t c = texts_joined c.args.tokens.now (inner_reads c.args.depth) _
    c.args.at _ _ c.in-Text.points
    c.in-Text.unicode c.joined_text-before.result c.read_joined.result (ap literal_value c.in-Text.is) c.joined_text-before.ensures.values
    c.joined_text-before.ensures.next c.in_ok-value.ensures c.if-not-is_boundary.ensures c.read_joined.ensures.answered

pub strings::read_literals-returns-in-Bytes-clause-answered : goal.strings::read_literals-returns-in-Bytes-clause-answered
strings::read_literals-returns-in-Bytes-clause-answered g t c = bytes_wrong c.args.tokens.now (inner_reads c.args.depth) _ c.args.at _ _
    c.in-Bytes._bytes.items (ap literal_value c.in-Bytes.is) c.in_ok-value.ensures c.if-not-is_boundary.ensures

pub strings::read_literals-returns-then-not-is_boundary-clause-placed : goal.strings::read_literals-returns-then-not-is_boundary-clause-placed
strings::read_literals-returns-then-not-is_boundary-clause-placed g t c = λ w. MatchResult-weaker c.make_literal.result c.make_literal.ensures
    (λ r m. literals_alone
    c.args.tokens.now _ _ c.args.from c.args.at _ _ r c.in_ok-value.ensures c.in_ok-node.ensures m w) (λ y _. tt)

pub strings::read_literals-returns-in-Text-clause-placed : goal.strings::read_literals-returns-in-Text-clause-placed
strings::read_literals-returns-in-Text-clause-placed g t c = λ w. IfOk-weaker c.read_joined.result _ _ (λ r k. literals_first
    c.args.tokens.now _ _ c.args.from c.args.at _ c.in-Text.points c.in-Text.unicode c.joined_text-before.result r c.in_ok-value.ensures
    (ap literal_value c.in-Text.is) c.if-not-is_boundary.ensures c.joined_text-before.ensures.values c.joined_text-before.ensures.next w k)
    c.read_joined.ensures.placed

pub strings::string_atom-returns-clause-placed : goal.strings::string_atom-returns-clause-placed
strings::string_atom-returns-clause-placed g t c = λ w. lowered_placed c.args.tokens.now c.args.depth.room c.args.from _ c.in_ok-read.read
    c.lowered.result c.lowered.ensures (c.in_ok-read.ensures.placed w)

pub strings::formatted_atom-returns-clause-placed : goal.strings::formatted_atom-returns-clause-placed
strings::formatted_atom-returns-clause-placed g t c = λ w. lowered_placed c.args.tokens.now c.args.depth.room c.args.from _
    c.in_ok-read.read c.lowered.result c.lowered.ensures (formatted_first c.args.tokens.now c.args.from c.args.at
    c.joined_text-before.result c.in_ok-read.read w c.joined_text-before.ensures.next
    (c.joined_text-before.ensures.values ∙ ap (λ z. state [] z) c.new.ensures) c.in_ok-read.ensures.placed)

pub strings::read_parts-returns-in_err-values-clause-parts : goal.strings::read_parts-returns-in_err-values-clause-parts
strings::read_parts-returns-in_err-values-clause-parts g t c = λ most acc le g.
    let f = parts_error c.args.tokens.now c.args.depth c.args.unicode _ c.parts.values (c.parts.invariant.is most acc le g) c.in-Some.part
    c.in-Some.ensures.within c.in-Some.ensures.text c.in-Some.ensures.field c.in_err-values.field-0.0 c.in_err-values.ensures.part in
    search (rules, f)

pub strings::read_parts-parts-preserved : goal.strings::read_parts-parts-preserved
strings::read_parts-parts-preserved g t c = record {
  ahead = omega (arith, c.parts.invariant.ahead, c.in_ok-values.ensures.place.ahead);
  within = c.in_ok-values.ensures.place.within;
  is = λ most acc le g. parts_more c.args.tokens.now c.args.depth c.args.unicode _ c.parts.values (c.parts.invariant.is most acc le g)
      c.in-Some.part c.in-Some.ensures.within c.in-Some.ensures.text c.in-Some.ensures.field c.in_ok-values.values
      c.in_ok-values.ensures.part;
  placed = λ whole a. parts_then c.args.tokens.now c.args.unicode whole c.args.before c.parts.values c.in_ok-values.values
      (c.parts.invariant.placed whole a) (c.in_ok-values.ensures.placed c.in-Some.ensures.text c.in-Some.ensures.field whole a);
}

pub strings::read_parts-returns-clause-parts : goal.strings::read_parts-returns-clause-parts
strings::read_parts-returns-clause-parts g t c = λ most acc le g. parts_end c.args.tokens.now c.args.depth c.args.unicode _ c.parts.values
    (c.parts.invariant.is most acc le g) c.args.before.next c.parts.invariant.ahead c.in_default.ensures.text c.in_default.ensures.field

pub strings::read_parts-parts-init : goal.strings::read_parts-parts-init
strings::read_parts-parts-init g t c = record {
  ahead = omega arith;
  within = c.requires.within;
  is = λ most acc le e. parts_start c.args.tokens.now c.args.depth c.args.unicode c.args.before most acc c.requires.within le e;
  placed = λ whole a. parts_none c.args.tokens.now c.args.unicode whole c.args.before _;
}

pub strings::read_parts-returns-clause-placed : goal.strings::read_parts-returns-clause-placed
strings::read_parts-returns-clause-placed g t c = c.parts.invariant.placed

pub strings::read_spec-returns-then-not-is_boundary-clause-placed : goal.strings::read_spec-returns-then-not-is_boundary-clause-placed
strings::read_spec-returns-then-not-is_boundary-clause-placed g t c = λ whole a. (
  [],
  spec_none c.args.tokens.now c.args.unicode whole c.args.at,
  records_none,
)

pub strings::read_spec-returns-clause-placed : goal.strings::read_spec-returns-clause-placed
strings::read_spec-returns-clause-placed g t c = λ whole a. spec_placed c.args.tokens.now c.args.unicode whole c.args.at
    c.joined_text-before.result c.in_ok-values.values c.in_ok-read.read c.if-not-is_boundary.ensures
    (c.joined_text-before.ensures.values ∙ ap (λ z. state [] z) c.new.ensures) c.joined_text-before.ensures.next
    (c.in_ok-values.ensures.placed whole a) (c.in_ok-record_joined.ensures whole a) c.in_ok-read.ensures

pub strings::with_part-returns-in_ok-points-in-Text-clause-placed : goal.strings::with_part-returns-in_ok-points-in-Text-clause-placed
strings::with_part-returns-in_ok-points-in-Text-clause-placed g t c =
    λ h k whole a. MatchResult-weaker c.with_text.result c.with_text.ensures
    (λ j m. text_placed
    c.args.tokens.now c.args.unicode whole c.in-Text.text c.in_ok-points-in-Text.points c.args.before j _ c.in_ok-points-in-Text.ensures m
    (ap (λ z. points_of (Some z)) (sym c.in-Text.is) ∙ h)) (λ y _. tt)

pub strings::with_part-returns-in_ok-node-in-Field-clause-placed : goal.strings::with_part-returns-in_ok-node-in-Field-clause-placed
strings::with_part-returns-in_ok-node-in-Field-clause-placed g t c =
    λ h k whole a. MatchResult-weaker c.with_field.result c.with_field.ensures
    (λ j m. field_placed
    c.args.tokens.now c.args.unicode whole c.in-Field.conversion c.args.before j c.in_ok-field-in-Field.field a
    (c.in_ok-record_text-in-Field.ensures whole a) (c.in_ok-field-in-Field.ensures.placed whole a) c.in_ok-node-in-Field.ensures m
    (ap (λ z. conversion_of (Some z)) (sym c.in-Field.is) ∙ k)) (λ y _. tt)

pub strings::read_spec-returns-clause-is : goal.strings::read_spec-returns-clause-is
strings::read_spec-returns-clause-is g t c = λ most le. spec_made c.args.tokens.now c.args.depth c.args.unicode most c.args.at
    c.if-not-is_boundary.ensures c.in_ok-values.values c.in_ok-read.read (parts_found c.args.tokens.now (inner_reads c.args.depth)
    c.args.unicode (c.args.at + 1) c.joined_text-before.result c.new.result c.joined_text-before.ensures.next
    c.joined_text-before.ensures.values c.new.ensures most (further c.args.tokens.now c.args.at (c.args.at + 1) most le (omega arith))
    c.in_ok-values.values c.in_ok-values.ensures.parts) c.in_ok-read.ensures

pub strings::with_part-returns-in_err-field-in-Field-clause-part : goal.strings::with_part-returns-in_err-field-in-Field-clause-part
strings::with_part-returns-in_err-field-in-Field-clause-part g t c = λ most le.
    let f = field_wrong c.args.tokens.now c.args.depth c.args.unicode most c.args.before c.requires.within c.in-Field.conversion
    c.in_err-field-in-Field.field-0.0 (c.in_err-field-in-Field.ensures.is most le) in
    search (rules, f)

pub strings::with_part-returns-in_ok-node-in-Field-clause-part : goal.strings::with_part-returns-in_ok-node-in-Field-clause-part
strings::with_part-returns-in_ok-node-in-Field-clause-part g t c = λ most le. field_put c.args.tokens.now c.args.depth c.args.unicode most
    c.args.before c.requires.within c.in-Field.conversion c.args.part c.in_ok-field-in-Field.field c.with_field.result c.in-Field.is
    (c.in_ok-field-in-Field.ensures.is most le) c.with_field.ensures
