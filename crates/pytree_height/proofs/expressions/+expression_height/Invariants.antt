use Rattle.std.proofs.Common.{◌≡◌, map, take}
use Rattle.pytree_node.specs.Trees.{exprs, optionals, comprehensions, keywords, args}
use Rattle.pytree_node.specs.TreeOf.{tree_of, option_of, comprehension_of, keyword_of, arg_of}
use Rattle.pytree_height.specs.Heights.{capped, heights, optional_heights, comprehension_heights, keyword_heights, arg_heights}
use Rattle.pytree_height.proofs.expressions.+expression_height.Given as goal

abbrev pub invariant-exprs_height-loop-e : goal.invariant-exprs_height-loop-e
invariant-exprs_height-loop-e l = l.most ≡ capped (heights (exprs (map tree_of (take l.e-index l.es))))

abbrev pub invariant-options_height-loop-e : goal.invariant-options_height-loop-e
invariant-options_height-loop-e l = l.most ≡ capped (optional_heights (optionals (map option_of (take l.e-index l.es))))

abbrev pub invariant-generators_height-loop-c : goal.invariant-generators_height-loop-c
invariant-generators_height-loop-c l = l.most ≡ capped (comprehension_heights (comprehensions (map comprehension_of (take l.c-index l.cs))))

abbrev pub invariant-keywords_height-loop-k : goal.invariant-keywords_height-loop-k
invariant-keywords_height-loop-k l = l.most ≡ capped (keyword_heights (keywords (map keyword_of (take l.k-index l.ks))))

abbrev pub invariant-each_parameter_height-loop-a : goal.invariant-each_parameter_height-loop-a
invariant-each_parameter_height-loop-a l = l.most ≡ capped (arg_heights (args (map arg_of (take l.a-index l.all))))
