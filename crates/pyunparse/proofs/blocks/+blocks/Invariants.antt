use Rattle.std.proofs.Common.{◌≡◌, ◌+◌, ◌-◌, ◌*◌, ◌++◌, max, map, drop}
use Rattle.pytree_node.specs.Trees.{cases, handlers, stmts}
use Rattle.pytree_node.specs.TreeOf.{case_of, class_def_of, function_def_of, handler_of, stmt_of, try_of}
use Rattle.pytree_height.specs.Heights.{case_heights, handler_heights, stmt_height, stmt_heights}
use Rattle.pyunparse_text.specs.Modules.{case_lines, handler_lines, lines_of}
use Rattle.pyunparse_text.specs.Pieces.{piece}
use Rattle.pyunparse.specs.Inner.Lines.{in_utf8}
use Rattle.pyunparse.proofs.blocks.+blocks.Given as goal

abbrev pub invariant-write_stmts-loop-s : goal.invariant-write_stmts-loop-s
invariant-write_stmts-loop-s l = record {
  text : l.out.text ++ in_utf8 (lines_of piece l.initial.out.level (stmts (map stmt_of (drop l.s-index l.body)))) ≡ l.initial.out.text ++
      in_utf8 (lines_of piece l.initial.out.level (stmts (map stmt_of l.body)));
  level : l.out.level ≡ l.initial.out.level;
}

abbrev pub invariant-write_handlers-loop-handler : goal.invariant-write_handlers-loop-handler
invariant-write_handlers-loop-handler l = record {
  text : l.out.text ++ in_utf8 (handler_lines piece l.initial.out.level l.is_star
      (handlers (map handler_of (drop l.handler-index l.caught)))) ≡ l.initial.out.text ++ in_utf8
      (handler_lines piece l.initial.out.level l.is_star (handlers (map handler_of l.caught)));
  level : l.out.level ≡ l.initial.out.level;
}

abbrev pub invariant-write_cases-loop-case : goal.invariant-write_cases-loop-case
invariant-write_cases-loop-case l = record {
  text : l.out.text ++ in_utf8 (case_lines piece l.initial.out.level (cases (map case_of (drop l.case-index l.clauses)))) ≡
      l.initial.out.text ++ in_utf8 (case_lines piece l.initial.out.level (cases (map case_of l.clauses)));
  level : l.out.level ≡ l.initial.out.level;
}

abbrev pub decreases-write_stmts : goal.decreases-write_stmts
decreases-write_stmts l = 8 * stmt_heights (stmts (map stmt_of l.body.now)) + 1

abbrev pub decreases-write_block : goal.decreases-write_block
decreases-write_block l = 8 * stmt_heights (stmts (map stmt_of l.body.now)) + 2

abbrev pub decreases-write_stmt : goal.decreases-write_stmt
decreases-write_stmt l = 8 * stmt_height (stmt_of l.s.now)

abbrev pub decreases-write_clause : goal.decreases-write_clause
decreases-write_clause l = 8 * stmt_heights (stmts (map stmt_of l.body.now)) + 3

abbrev pub decreases-write_alternative : goal.decreases-write_alternative
decreases-write_alternative l = 8 * stmt_heights (stmts (map stmt_of l.body.now)) + 4

abbrev pub decreases-write_handler : goal.decreases-write_handler
decreases-write_handler l = 8 * stmt_heights (stmts (handler_of l.handler.now).body) + 3

abbrev pub decreases-write_handlers : goal.decreases-write_handlers
decreases-write_handlers l = 8 * handler_heights (handlers (map handler_of l.caught.now)) + 4

abbrev pub decreases-write_case : goal.decreases-write_case
decreases-write_case l = 8 * stmt_heights (stmts (case_of l.case.now).body) + 3

abbrev pub decreases-write_cases : goal.decreases-write_cases
decreases-write_cases l = 8 * case_heights (cases (map case_of l.clauses.now)) + 4

abbrev pub decreases-write_case_block : goal.decreases-write_case_block
decreases-write_case_block l = 8 * case_heights (cases (map case_of l.clauses.now)) + 5

abbrev pub decreases-write_match : goal.decreases-write_match
decreases-write_match l = 8 * case_heights (cases (map case_of l.clauses.now)) + 6

abbrev pub decreases-write_if : goal.decreases-write_if
decreases-write_if l = 8 * max (stmt_heights (stmts (map stmt_of l.body.now))) (stmt_heights (stmts (map stmt_of l.orelse.now))) + 5

abbrev pub decreases-write_while : goal.decreases-write_while
decreases-write_while l = 8 * max (stmt_heights (stmts (map stmt_of l.body.now))) (stmt_heights (stmts (map stmt_of l.orelse.now))) + 5

abbrev pub decreases-write_for : goal.decreases-write_for
decreases-write_for l = 8 * max (stmt_heights (stmts (map stmt_of l.body.now))) (stmt_heights (stmts (map stmt_of l.orelse.now))) + 5

abbrev pub decreases-write_with : goal.decreases-write_with
decreases-write_with l = 8 * stmt_heights (stmts (map stmt_of l.body.now)) + 5

abbrev pub decreases-write_function : goal.decreases-write_function
decreases-write_function l = 8 * stmt_heights (stmts (function_def_of l.def.now).body) + 5

abbrev pub decreases-write_class : goal.decreases-write_class
decreases-write_class l = 8 * stmt_height (class_def_of l.class.now) - 3

abbrev pub decreases-write_try : goal.decreases-write_try
decreases-write_try l = let f = try_of l.parts.now in 8 * max (stmt_heights (stmts f.body))
    (max (handler_heights (handlers f.handlers)) (max (stmt_heights (stmts f.orelse)) (stmt_heights (stmts f.finalbody)))) + 5

abbrev pub decreases-write_elif : goal.decreases-write_elif
decreases-write_elif l = 8 * stmt_height (stmt_of l.s.now) + 1
