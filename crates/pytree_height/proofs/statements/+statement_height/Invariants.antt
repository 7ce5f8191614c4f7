use Rattle.std.proofs.Common.{◌≡◌, map, take}
use Rattle.pytree_node.specs.Trees.{stmts, cases, handlers}
use Rattle.pytree_node.specs.TreeOf.{stmt_of, case_of, handler_of}
use Rattle.pytree_height.specs.Heights.{capped, stmt_heights, case_heights, handler_heights}
use Rattle.pytree_height.proofs.statements.+statement_height.Given as goal

abbrev pub invariant-statements_height-loop-s : goal.invariant-statements_height-loop-s
invariant-statements_height-loop-s l = l.most ≡ capped (stmt_heights (stmts (map stmt_of (take l.s-index l.body))))

abbrev pub invariant-cases_height-loop-c : goal.invariant-cases_height-loop-c
invariant-cases_height-loop-c l = l.most ≡ capped (case_heights (cases (map case_of (take l.c-index l.all))))

abbrev pub invariant-handlers_height-loop-h : goal.invariant-handlers_height-loop-h
invariant-handlers_height-loop-h l = l.most ≡ capped (handler_heights (handlers (map handler_of (take l.h-index l.all))))
