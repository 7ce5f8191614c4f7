use Rattle.std.proofs.Common.{◌≡◌, ◌++◌, drop, map}
use Rattle.pytree_node.specs.Trees.{cases, handlers, stmts}
use Rattle.pytree_node.specs.TreeOf.{case_of, handler_of, stmt_of}
use Rattle.examples.specs.Functions.{function_of, functions_in_all, functions_in_cases, functions_in_handlers}
use Rattle.examples.proofs.walks.+functions.Given as goal

abbrev pub invariant-collect_all-loop-s : goal.invariant-collect_all-loop-s
invariant-collect_all-loop-s l =
    map function_of l.found.items ++ functions_in_all (stmts (map stmt_of (drop l.s-index l.body)))
    ≡ map function_of l.initial.found.items ++ functions_in_all (stmts (map stmt_of l.body))

abbrev pub invariant-collect_in_cases-loop-case : goal.invariant-collect_in_cases-loop-case
invariant-collect_in_cases-loop-case l =
    map function_of l.found.items ++ functions_in_cases (cases (map case_of (drop l.case-index l.all)))
    ≡ map function_of l.initial.found.items ++ functions_in_cases (cases (map case_of l.all))

abbrev pub invariant-collect_in_handlers-loop-handler : goal.invariant-collect_in_handlers-loop-handler
invariant-collect_in_handlers-loop-handler l =
    map function_of l.found.items ++ functions_in_handlers (handlers (map handler_of (drop l.handler-index l.all)))
    ≡ map function_of l.initial.found.items ++ functions_in_handlers (handlers (map handler_of l.all))
