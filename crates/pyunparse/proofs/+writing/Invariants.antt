use Rattle.std.proofs.Common.{◌≡◌, ◌+◌, ◌-◌, ◌*◌, max, true, false, map, drop}
use Rattle.pylex_lexeme.specs.declared.kinds.Exact.TheVariants.{Comma}
use Rattle.pytree_node.specs.Trees.{args, comprehensions, exprs, keywords, optional, optional_arg, optionals}
use Rattle.pytree_node.specs.TreeOf.{arg_of, arg_option_of, arguments_of, boxed_of, call_of, compare_of, comprehension_of, dict_of}
use Rattle.pytree_node.specs.TreeOf.{dict_comp_of}
use Rattle.pytree_node.specs.TreeOf.{keyword_of, option_of, slice_of, tree_of}
use Rattle.pygrammar.specs.declared.levels.Level.TheVariants.{BitOr, Expression}
use Rattle.pytree_height.specs.Heights.{arg_height, arg_heights, arguments_height, comprehension_heights, height, heights, keyword_heights}
use Rattle.pytree_height.specs.Heights.{optional_arg_height, optional_height, optional_heights}
use Rattle.pyunparse_text.specs.Pieces.{piece}
use Rattle.pyunparse_text.specs.Written.{after_equal, beside, by_name, clauses, compared, conditions, defaults, each, elements_after}
use Rattle.pyunparse_text.specs.Written.{names, pairs, trailing, written_keys}
use Rattle.pyunparse.specs.Inner.Clauses.{clause_height}
use Rattle.pyunparse_text.specs.Folds.{puts, puts_elements}
use Rattle.pyunparse.specs.Inner.Members.{members, padded}
use Rattle.pyunparse_text.specs.Marks.{mark}
use Rattle.pyunparse.proofs.+writing.Given as goal

abbrev pub invariant-displays::write_members-loop-e : goal.invariant-displays::write_members-loop-e
invariant-displays::write_members-loop-e g l =
    puts g.W.Writer.after l.out (members l.first (mark l.between) (each piece l.level (exprs (map tree_of (drop l.e-index l.es)))))
    ≡ puts g.W.Writer.after l.initial.out (members l.fn.is_first (mark l.between) (each piece l.level (exprs (map tree_of l.es))))

abbrev pub invariant-operators::write_compared-loop-i : goal.invariant-operators::write_compared-loop-i
invariant-operators::write_compared-loop-i g l =
    puts g.W.Writer.after l.out (compared piece (drop l.i l.ops) (each piece BitOr (exprs (map tree_of (drop l.i l.comparators)))))
    ≡ puts g.W.Writer.after l.initial.out (compared piece l.ops (each piece BitOr (exprs (map tree_of l.comparators))))

abbrev pub invariant-displays::write_pairs-loop-i : goal.invariant-displays::write_pairs-loop-i
invariant-displays::write_pairs-loop-i g l =
    puts g.W.Writer.after l.out
    (members l.first (trailing piece Comma) (pairs piece (written_keys piece (optionals (map option_of (drop l.i l.keys))))
    (exprs (map tree_of (drop l.i l.values)))))
    ≡ puts g.W.Writer.after l.initial.out
    (members true (trailing piece Comma) (pairs piece (written_keys piece (optionals (map option_of l.keys)))
    (exprs (map tree_of l.values))))

abbrev pub invariant-clauses::write_clauses-loop-generator : goal.invariant-clauses::write_clauses-loop-generator
invariant-clauses::write_clauses-loop-generator g l =
    puts g.W.Writer.after l.out (clauses piece (comprehensions (map comprehension_of (drop l.generator-index l.generators))))
    ≡ puts g.W.Writer.after l.initial.out (clauses piece (comprehensions (map comprehension_of l.generators)))

abbrev pub invariant-clauses::write_conditions-loop-test : goal.invariant-clauses::write_conditions-loop-test
invariant-clauses::write_conditions-loop-test g l =
    puts g.W.Writer.after l.out (conditions piece (exprs (map tree_of (drop l.test-index l.ifs))))
    ≡ puts g.W.Writer.after l.initial.out (conditions piece (exprs (map tree_of l.ifs)))

abbrev pub invariant-calls::write_keywords-loop-word : goal.invariant-calls::write_keywords-loop-word
invariant-calls::write_keywords-loop-word g l =
    puts g.W.Writer.after l.out
    (members l.first (trailing piece Comma) (by_name piece (keywords (map keyword_of (drop l.word-index l.words)))))
    ≡ puts g.W.Writer.after l.initial.out (members l.fn.is_first (trailing piece Comma) (by_name piece (keywords (map keyword_of l.words))))

abbrev pub invariant-parameters::write_plain-loop-i : goal.invariant-parameters::write_plain-loop-i
invariant-parameters::write_plain-loop-i g l =
    puts g.W.Writer.after l.out (members l.first (trailing piece Comma)
    (padded (names piece (args (map arg_of (drop l.i l.params)))) (l.bare - l.i)
    (map (after_equal piece) (each piece Expression (exprs (map tree_of (drop (l.i - l.bare) l.given)))))))
    ≡ puts g.W.Writer.after l.initial.out (members l.is_first (trailing piece Comma)
    (padded (names piece (args (map arg_of l.params))) l.bare
    (map (after_equal piece) (each piece Expression (exprs (map tree_of l.given))))))

abbrev pub invariant-parameters::write_keyword_only-loop-i : goal.invariant-parameters::write_keyword_only-loop-i
invariant-parameters::write_keyword_only-loop-i g l =
    puts g.W.Writer.after l.out
    (members false (trailing piece Comma) (beside (names piece (args (map arg_of (drop l.i l.params))))
    (defaults piece (optionals (map option_of (drop l.i l.given))))))
    ≡ puts g.W.Writer.after l.initial.out
    (members false (trailing piece Comma) (beside (names piece (args (map arg_of l.params)))
    (defaults piece (optionals (map option_of l.given)))))

abbrev pub invariant-strings::write_values-loop-i : goal.invariant-strings::write_values-loop-i
invariant-strings::write_values-loop-i g l =
    puts_elements g.W.Writer.after g.W.Writer.step l.in_field l.out
    (elements_after piece l.in_spec (exprs (map tree_of (drop l.i l.values))))
    ≡ puts_elements g.W.Writer.after g.W.Writer.step l.in_field l.initial.out
    (elements_after piece l.in_spec (exprs (map tree_of l.values)))

abbrev pub decreases-expressions::write_expr : goal.decreases-expressions::write_expr
decreases-expressions::write_expr g l = 8 * height (tree_of l.e.now)

abbrev pub decreases-optional::write_perhaps : goal.decreases-optional::write_perhaps
decreases-optional::write_perhaps g l = 8 * optional_height (optional (boxed_of l.e.now)) + 1

abbrev pub decreases-optional::write_suffix : goal.decreases-optional::write_suffix
decreases-optional::write_suffix g l = 8 * optional_height (optional (boxed_of l.e.now)) + 1

abbrev pub decreases-displays::write_members : goal.decreases-displays::write_members
decreases-displays::write_members g l = 8 * heights (exprs (map tree_of l.es.now)) + 1

abbrev pub decreases-displays::write_display : goal.decreases-displays::write_display
decreases-displays::write_display g l = 8 * heights (exprs (map tree_of l.elts.now)) + 2

abbrev pub decreases-displays::write_dict : goal.decreases-displays::write_dict
decreases-displays::write_dict g l = 8 * height (dict_of l.dict.now) - 5

abbrev pub decreases-displays::write_pairs : goal.decreases-displays::write_pairs
decreases-displays::write_pairs g l = 8 * max (optional_heights (optionals (map option_of l.keys.now)))
    (heights (exprs (map tree_of l.values.now))) + 2

abbrev pub decreases-displays::write_pair : goal.decreases-displays::write_pair
decreases-displays::write_pair g l = 8 * max (optional_height (optional (option_of l.key.now))) (height (tree_of l.value.now)) + 1

abbrev pub decreases-operators::write_chain : goal.decreases-operators::write_chain
decreases-operators::write_chain g l = 8 * heights (exprs (map tree_of l.values.now)) + 2

abbrev pub decreases-operators::write_named : goal.decreases-operators::write_named
decreases-operators::write_named g l = 8 * max (height (tree_of l.target.now)) (height (tree_of l.value.now)) + 1

abbrev pub decreases-operators::write_binary : goal.decreases-operators::write_binary
decreases-operators::write_binary g l = 8 * max (height (tree_of l.left.now)) (height (tree_of l.right.now)) + 1

abbrev pub decreases-operators::write_unary : goal.decreases-operators::write_unary
decreases-operators::write_unary g l = 8 * height (tree_of l.operand.now) + 1

abbrev pub decreases-operators::write_lambda : goal.decreases-operators::write_lambda
decreases-operators::write_lambda g l = 8 * max (arguments_height (arguments_of l.args.now)) (height (tree_of l.body.now)) + 7

abbrev pub decreases-operators::write_conditional : goal.decreases-operators::write_conditional
decreases-operators::write_conditional g l =
    8 * max (height (tree_of l.test.now)) (max (height (tree_of l.body.now)) (height (tree_of l.orelse.now))) + 1

abbrev pub decreases-operators::write_await : goal.decreases-operators::write_await
decreases-operators::write_await g l = 8 * height (tree_of l.value.now) + 1

abbrev pub decreases-operators::write_yield : goal.decreases-operators::write_yield
decreases-operators::write_yield g l = 8 * optional_height (optional (boxed_of l.value.now)) + 2

abbrev pub decreases-operators::write_yield_from : goal.decreases-operators::write_yield_from
decreases-operators::write_yield_from g l = 8 * height (tree_of l.value.now) + 1

abbrev pub decreases-operators::write_compare : goal.decreases-operators::write_compare
decreases-operators::write_compare g l = 8 * height (compare_of l.compare.now) - 6

abbrev pub decreases-operators::write_compared : goal.decreases-operators::write_compared
decreases-operators::write_compared g l = 8 * heights (exprs (map tree_of l.comparators.now)) + 1

abbrev pub decreases-clauses::write_comprehension : goal.decreases-clauses::write_comprehension
decreases-clauses::write_comprehension g l =
    8 * max (height (tree_of l.elt.now)) (comprehension_heights (comprehensions (map comprehension_of l.generators.now))) + 6

abbrev pub decreases-clauses::write_generator : goal.decreases-clauses::write_generator
decreases-clauses::write_generator g l =
    8 * max (height (tree_of l.elt.now)) (comprehension_heights (comprehensions (map comprehension_of l.generators.now))) + 5

abbrev pub decreases-clauses::write_dict_comprehension : goal.decreases-clauses::write_dict_comprehension
decreases-clauses::write_dict_comprehension g l = 8 * height (dict_comp_of l.comp.now) - 3

abbrev pub decreases-clauses::write_clauses : goal.decreases-clauses::write_clauses
decreases-clauses::write_clauses g l = 8 * comprehension_heights (comprehensions (map comprehension_of l.generators.now)) + 4

abbrev pub decreases-clauses::write_conditions : goal.decreases-clauses::write_conditions
decreases-clauses::write_conditions g l = 8 * heights (exprs (map tree_of l.ifs.now)) + 2

abbrev pub decreases-calls::write_attribute : goal.decreases-calls::write_attribute
decreases-calls::write_attribute g l = 8 * height (tree_of l.value.now) + 1

abbrev pub decreases-calls::write_subscript : goal.decreases-calls::write_subscript
decreases-calls::write_subscript g l = 8 * max (height (tree_of l.value.now)) (height (tree_of l.slice.now)) + 1

abbrev pub decreases-calls::write_call : goal.decreases-calls::write_call
decreases-calls::write_call g l = 8 * height (call_of l.call.now) - 4

abbrev pub decreases-calls::write_arguments : goal.decreases-calls::write_arguments
decreases-calls::write_arguments g l = 8 * max (heights (exprs (map tree_of l.args.now)))
    (keyword_heights (keywords (map keyword_of l.words.now))) + 3

abbrev pub decreases-calls::write_keywords : goal.decreases-calls::write_keywords
decreases-calls::write_keywords g l = 8 * keyword_heights (keywords (map keyword_of l.words.now)) + 2

abbrev pub decreases-tuples::write_tuple : goal.decreases-tuples::write_tuple
decreases-tuples::write_tuple g l = 8 * heights (exprs (map tree_of l.elts.now)) + 2

abbrev pub decreases-tuples::write_slice : goal.decreases-tuples::write_slice
decreases-tuples::write_slice g l = 8 * height (slice_of l.slice.now) - 6

abbrev pub decreases-parameters::write_parameters : goal.decreases-parameters::write_parameters
decreases-parameters::write_parameters g l = 8 * arguments_height (arguments_of l.a.now) + 6

abbrev pub decreases-parameters::write_positional : goal.decreases-parameters::write_positional
decreases-parameters::write_positional g l = 8 * arguments_height (arguments_of l.a.now) + 5

abbrev pub decreases-parameters::write_plain : goal.decreases-parameters::write_plain
decreases-parameters::write_plain g l = 8 * max (arg_heights (args (map arg_of l.params.now)))
    (heights (exprs (map tree_of l.given.now))) + 3

abbrev pub decreases-parameters::write_keyword_only : goal.decreases-parameters::write_keyword_only
decreases-parameters::write_keyword_only g l = 8 * max (arg_heights (args (map arg_of l.params.now)))
    (optional_heights (optionals (map option_of l.given.now))) + 3

abbrev pub decreases-parameters::write_named_arg : goal.decreases-parameters::write_named_arg
decreases-parameters::write_named_arg g l = 8 * arg_height (arg_of l.arg.now) + 2

abbrev pub decreases-clauses::write_clause : goal.decreases-clauses::write_clause
decreases-clauses::write_clause g l = 8 * clause_height (comprehension_of l.generator.now) + 3

abbrev pub decreases-calls::write_keyword : goal.decreases-calls::write_keyword
decreases-calls::write_keyword g l = 8 * height (keyword_of l.word.now).value + 1

abbrev pub decreases-parameters::write_default : goal.decreases-parameters::write_default
decreases-parameters::write_default g l = 8 * heights (exprs (map tree_of l.given.now)) + 1

abbrev pub decreases-parameters::write_own_default : goal.decreases-parameters::write_own_default
decreases-parameters::write_own_default g l = 8 * optional_height (optional (option_of l.given.now)) + 1

abbrev pub decreases-parameters::write_gathered : goal.decreases-parameters::write_gathered
decreases-parameters::write_gathered g l = 8 * optional_arg_height (optional_arg (arg_option_of l.arg.now)) + 3

abbrev pub decreases-parameters::write_star : goal.decreases-parameters::write_star
decreases-parameters::write_star g l = 8 * optional_arg_height (optional_arg (arg_option_of l.vararg.now)) + 4

abbrev pub decreases-clauses::write_condition : goal.decreases-clauses::write_condition
decreases-clauses::write_condition g l = 8 * height (tree_of l.test.now) + 1

abbrev pub decreases-calls::write_alone : goal.decreases-calls::write_alone
decreases-calls::write_alone g l = 8 * height (tree_of l.e.now) + 1

abbrev pub decreases-parameters::write_both : goal.decreases-parameters::write_both
decreases-parameters::write_both g l = 8 * max (arg_heights (args (map arg_of l.only.now)))
    (max (arg_heights (args (map arg_of l.others.now))) (heights (exprs (map tree_of l.given.now)))) + 4

abbrev pub decreases-strings::write_joined : goal.decreases-strings::write_joined
decreases-strings::write_joined g l = 8 * heights (exprs (map tree_of l.values.now)) + 3

abbrev pub decreases-strings::write_string : goal.decreases-strings::write_string
decreases-strings::write_string g l = 8 * heights (exprs (map tree_of l.values.now)) + 2

abbrev pub decreases-strings::write_formatted : goal.decreases-strings::write_formatted
decreases-strings::write_formatted g l = 8 * max (height (tree_of l.value.now)) (optional_height (optional (boxed_of l.spec.now))) + 3

abbrev pub decreases-strings::write_values : goal.decreases-strings::write_values
decreases-strings::write_values g l = 8 * heights (exprs (map tree_of l.values.now)) + 1

abbrev pub decreases-strings::write_value : goal.decreases-strings::write_value
decreases-strings::write_value g l = 8 * height (tree_of l.value.now)

abbrev pub decreases-strings::write_field : goal.decreases-strings::write_field
decreases-strings::write_field g l = 8 * max (height (tree_of l.value.now)) (optional_height (optional (boxed_of l.spec.now))) + 2

abbrev pub decreases-strings::write_spec : goal.decreases-strings::write_spec
decreases-strings::write_spec g l = 8 * optional_height (optional (boxed_of l.spec.now)) + 1

abbrev pub decreases-strings::write_spec_string : goal.decreases-strings::write_spec_string
decreases-strings::write_spec_string g l = 8 * height (tree_of l.spec.now)

abbrev pub decreases-strings::write_spec_values : goal.decreases-strings::write_spec_values
decreases-strings::write_spec_values g l = 8 * heights (exprs (map tree_of l.values.now)) + 2
