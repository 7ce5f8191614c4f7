use Rattle.std.proofs.Common.{◌≡◌, map, take}
use Rattle.pytree_node.specs.Trees.{stmts, cases, handlers}
use Rattle.pytree_node.specs.TreeOf.{stmt_of, case_of, handler_of}
use Rattle.pytree_height.specs.Heights.{capped, highest_in_all, highest_in_cases, highest_in_handlers}
use Rattle.pytree_height.proofs.highest.+highest_in.Given as goal

abbrev pub invariant-highest_in_all-loop-s : goal.invariant-highest_in_all-loop-s
invariant-highest_in_all-loop-s l = l.most ≡ capped (highest_in_all (stmts (map stmt_of (take l.s-index l.body))))

abbrev pub invariant-highest_in_cases-loop-c : goal.invariant-highest_in_cases-loop-c
invariant-highest_in_cases-loop-c l = l.most ≡ capped (highest_in_cases (cases (map case_of (take l.c-index l.all))))

abbrev pub invariant-highest_in_handlers-loop-h : goal.invariant-highest_in_handlers-loop-h
invariant-highest_in_handlers-loop-h l = l.most ≡ capped (highest_in_handlers (handlers (map handler_of (take l.h-index l.all))))
