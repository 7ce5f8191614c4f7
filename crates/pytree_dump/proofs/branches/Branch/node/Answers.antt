use Rattle.pytree_dump.proofs.branches.Branch.node.Goals as goal

pub returns-in-Stmt : goal.returns-in-Stmt
returns-in-Stmt c = rw c.in-Stmt.is c.stmt_node.ensures

pub returns-in-Handler : goal.returns-in-Handler
returns-in-Handler c = rw c.in-Handler.is c.handler_node.ensures

pub returns-in-Case : goal.returns-in-Case
returns-in-Case c = rw c.in-Case.is c.case_node.ensures
