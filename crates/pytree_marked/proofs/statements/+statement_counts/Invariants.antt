use Rattle.std.proofs.Common.{◌≡◌, ◌+◌, map, take}
use Rattle.pytree_node.specs.Trees.{cases, handlers, stmts}
use Rattle.pytree_node.specs.TreeOf.{case_of, handler_of, stmt_of}
use Rattle.pytree_dump_text.specs.Shows.{shown_cases, shown_handlers, shown_stmts}
use Rattle.pytree_marked.specs.MarkedNodes.{marked_rows}
use Rattle.pytree_marked.specs.Counts.{capped}
use Rattle.pytree_marked.proofs.statements.+statement_counts.Given as goal

abbrev pub invariant-block_marked-loop-s : goal.invariant-block_marked-loop-s
invariant-block_marked-loop-s l =
    l.count ≡ capped (l.before + marked_rows (shown_stmts l.profile (stmts (map stmt_of (take l.s-index l.body)))))

abbrev pub invariant-handlers_marked-loop-h : goal.invariant-handlers_marked-loop-h
invariant-handlers_marked-loop-h l =
    l.count ≡ capped (l.before + marked_rows (shown_handlers l.profile (handlers (map handler_of (take l.h-index l.all)))))

abbrev pub invariant-cases_marked-loop-case : goal.invariant-cases_marked-loop-case
invariant-cases_marked-loop-case l =
    l.count ≡ capped (l.before + marked_rows (shown_cases l.profile (cases (map case_of (take l.case-index l.all)))))
