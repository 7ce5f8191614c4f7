use Rattle.std.proofs.Common.{◌≡◌, map, take, true}
use Rattle.pytree_node.specs.TreeOf.{tree_of, option_of, keyword_of, comprehension_of, arg_of}
use Rattle.pytree_node.specs.Trees.{exprs, optionals, keywords, comprehensions, args}
use Rattle.pytree_fits.specs.Tests.{tests_at}
use Rattle.pytree_fits.specs.Slots.{each_fits, each_target_fits, each_perhaps_fits, each_keyword_fits, each_clause_fits, each_arg_fits}
use Rattle.pytree_fits.specs.Slots.{each_value_fits}
use Rattle.pytree_fits.proofs.+fits.Given as goal

abbrev pub invariant-expressions::exprs_fit-loop-e : goal.invariant-expressions::exprs_fit-loop-e
invariant-expressions::exprs_fit-loop-e l = each_fits (tests_at l.asked.extent l.asked.fields) l.level
    (exprs (map tree_of (take l.e-index l.es))) ≡ true

abbrev pub invariant-expressions::options_fit-loop-e : goal.invariant-expressions::options_fit-loop-e
invariant-expressions::options_fit-loop-e l = each_perhaps_fits (tests_at l.asked.extent l.asked.fields)
    (optionals (map option_of (take l.e-index l.es))) ≡ true

abbrev pub invariant-expressions::keywords_fit-loop-k : goal.invariant-expressions::keywords_fit-loop-k
invariant-expressions::keywords_fit-loop-k l = each_keyword_fits (tests_at l.asked.extent l.asked.fields)
    (keywords (map keyword_of (take l.k-index l.ks))) ≡ true

abbrev pub invariant-expressions::clauses_fit-loop-c : goal.invariant-expressions::clauses_fit-loop-c
invariant-expressions::clauses_fit-loop-c l = each_clause_fits (tests_at l.asked.extent l.asked.fields)
    (comprehensions (map comprehension_of (take l.c-index l.cs))) ≡ true

abbrev pub invariant-targets::targets_fit-loop-e : goal.invariant-targets::targets_fit-loop-e
invariant-targets::targets_fit-loop-e l = each_target_fits (tests_at l.asked.extent l.asked.fields) l.place
    (exprs (map tree_of (take l.e-index l.es))) ≡ true

abbrev pub invariant-parameters::each_parameter_fits-loop-a : goal.invariant-parameters::each_parameter_fits-loop-a
invariant-parameters::each_parameter_fits-loop-a l = each_arg_fits (tests_at l.asked.extent l.asked.fields) l.annotated
    (args (map arg_of (take l.a-index l.all))) ≡ true

abbrev pub invariant-strings::each_value_fits-loop-value : goal.invariant-strings::each_value_fits-loop-value
invariant-strings::each_value_fits-loop-value l = each_value_fits (tests_at l.asked.extent l.asked.fields) l.depth
    (exprs (map tree_of (take l.value-index l.values))) ≡ true
