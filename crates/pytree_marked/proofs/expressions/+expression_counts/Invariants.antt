use Rattle.std.proofs.Common.{◌≡◌, ◌+◌, map, take}
use Rattle.pytree_node.specs.Trees.{args, comprehensions, exprs, keywords, optionals}
use Rattle.pytree_node.specs.TreeOf.{arg_of, comprehension_of, keyword_of, option_of, tree_of}
use Rattle.pytree_dump_text.specs.Shows.{shown_args, shown_comprehensions, shown_exprs, shown_keywords, shown_optionals}
use Rattle.pytree_marked.specs.MarkedNodes.{marked_rows}
use Rattle.pytree_marked.specs.Counts.{capped}
use Rattle.pytree_marked.proofs.expressions.+expression_counts.Given as goal

abbrev pub invariant-exprs_marked-loop-e : goal.invariant-exprs_marked-loop-e
invariant-exprs_marked-loop-e l = l.count ≡ capped (l.before + marked_rows (shown_exprs (exprs (map tree_of (take l.e-index l.es)))))

abbrev pub invariant-options_marked-loop-e : goal.invariant-options_marked-loop-e
invariant-options_marked-loop-e l =
    l.count ≡ capped (l.before + marked_rows (shown_optionals (optionals (map option_of (take l.e-index l.es)))))

abbrev pub invariant-each_parameter_marked-loop-a : goal.invariant-each_parameter_marked-loop-a
invariant-each_parameter_marked-loop-a l = l.count ≡ capped (l.before + marked_rows (shown_args (args (map arg_of (take l.a-index l.all)))))

abbrev pub invariant-generators_marked-loop-c : goal.invariant-generators_marked-loop-c
invariant-generators_marked-loop-c l =
    l.count ≡ capped (l.before + marked_rows (shown_comprehensions (comprehensions (map comprehension_of (take l.c-index l.cs)))))

abbrev pub invariant-keywords_marked-loop-k : goal.invariant-keywords_marked-loop-k
invariant-keywords_marked-loop-k l =
    l.count ≡ capped (l.before + marked_rows (shown_keywords (keywords (map keyword_of (take l.k-index l.ks)))))
