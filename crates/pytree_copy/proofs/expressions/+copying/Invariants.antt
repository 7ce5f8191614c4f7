use Rattle.std.proofs.Common.{◌≡◌, map, take}
use Rattle.pytree_node.specs.TreeOf.{arg_of, comprehension_of, keyword_of, option_of, tree_of}
use Rattle.pytree_copy.proofs.expressions.+copying.Given as goal

abbrev pub invariant-copy_exprs-loop-e : goal.invariant-copy_exprs-loop-e
invariant-copy_exprs-loop-e l = map tree_of l.made.items ≡ map tree_of (take l.e-index l.es)

abbrev pub invariant-copy_optional_exprs-loop-e : goal.invariant-copy_optional_exprs-loop-e
invariant-copy_optional_exprs-loop-e l = map option_of l.made.items ≡ map option_of (take l.e-index l.es)

abbrev pub invariant-copy_comprehensions-loop-c : goal.invariant-copy_comprehensions-loop-c
invariant-copy_comprehensions-loop-c l = map comprehension_of l.made.items ≡ map comprehension_of (take l.c-index l.cs)

abbrev pub invariant-copy_keywords-loop-k : goal.invariant-copy_keywords-loop-k
invariant-copy_keywords-loop-k l = map keyword_of l.made.items ≡ map keyword_of (take l.k-index l.ks)

abbrev pub invariant-copy_args-loop-a : goal.invariant-copy_args-loop-a
invariant-copy_args-loop-a l = map arg_of l.made.items ≡ map arg_of (take l.a-index l.all)
