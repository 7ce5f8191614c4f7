use Rattle.std.proofs.Common.{◌≡◌, map, take, true}
use Rattle.pytree_node.specs.TreeOf.{case_of, handler_of, stmt_of}
use Rattle.pytree_node.specs.Trees.{cases, handlers, stmts}
use Rattle.pytree_fits.specs.Tests.{tests_in}
use Rattle.pytree_fits.specs.Statements.{statements_fit, cases_fit, handlers_fit}
use Rattle.pytree_fits.proofs.statements.+statements.Given as goal

abbrev pub invariant-statements_fit-loop-s : goal.invariant-statements_fit-loop-s
invariant-statements_fit-loop-s l = statements_fit l.profile (tests_in l.profile.extent)
    (stmts (map stmt_of (take l.s-index l.body))) ≡ true

abbrev pub invariant-cases_fit-loop-c : goal.invariant-cases_fit-loop-c
invariant-cases_fit-loop-c l = cases_fit l.profile (tests_in l.profile.extent) (cases (map case_of (take l.c-index l.all))) ≡ true

abbrev pub invariant-handlers_fit-loop-h : goal.invariant-handlers_fit-loop-h
invariant-handlers_fit-loop-h l = handlers_fit l.profile (tests_in l.profile.extent) l.star
    (handlers (map handler_of (take l.h-index l.all))) ≡ true
