use Rattle.std.proofs.Common.{◌<◌, length, subst}
use Rattle.pytree_node.specs.TreeOf.{case_of, handler_of, stmt_of}
use Rattle.pytree_dump_text.specs.Blocks.{shown_case, shown_handler}
use Rattle.pytree_dump_text.specs.Shows.{shown_stmt}
use Rattle.pytree_dump.specs.Inner.Branches.{branches_len}
use Rattle.pytree_dump.proofs.NodeLemmas.{mapped_at}
use Rattle.pytree_dump.proofs.branches.Branches.at.Goals as goal

pub returns-in-Stmts : goal.returns-in-Stmts
returns-in-Stmts c =
    let lt : c.args.i < length c.in-Stmts.all.now = subst (λ z. c.args.i < branches_len z) c.in-Stmts.is c.requires in
    λ p. rw c.in-Stmts.is (mapped_at (λ s. shown_stmt p (stmt_of s)) _ c.args.i _ lt c.index-all-i.is)

pub returns-in-Handlers : goal.returns-in-Handlers
returns-in-Handlers c =
    let lt : c.args.i < length c.in-Handlers.all.now = subst (λ z. c.args.i < branches_len z) c.in-Handlers.is c.requires in
    λ p. rw c.in-Handlers.is (mapped_at (λ h. shown_handler p (handler_of h)) _ c.args.i _ lt c.index-all-i-in-Handlers.is)

pub returns-in-Cases : goal.returns-in-Cases
returns-in-Cases c =
    let lt : c.args.i < length c.in-Cases.all.now = subst (λ z. c.args.i < branches_len z) c.in-Cases.is c.requires in
    λ p. rw c.in-Cases.is (mapped_at (λ k. shown_case p (case_of k)) _ c.args.i _ lt c.index-all-i-in-Cases.is)
