use Rattle.std.proofs.Common.{◌≡◌, map, take}
use Rattle.pytree_node.specs.TreeOf.{case_of, handler_of, stmt_of}
use Rattle.pytree_copy.proofs.statements.+copying.Given as goal

abbrev pub invariant-copy_stmts-loop-s : goal.invariant-copy_stmts-loop-s
invariant-copy_stmts-loop-s l = map stmt_of l.made.items ≡ map stmt_of (take l.s-index l.body)

abbrev pub invariant-copy_cases-loop-c : goal.invariant-copy_cases-loop-c
invariant-copy_cases-loop-c l = map case_of l.made.items ≡ map case_of (take l.c-index l.all)

abbrev pub invariant-copy_handlers-loop-h : goal.invariant-copy_handlers-loop-h
invariant-copy_handlers-loop-h l = map handler_of l.made.items ≡ map handler_of (take l.h-index l.all)
