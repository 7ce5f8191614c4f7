use Rattle.std.proofs.Common.{◌∙◌, [], ap}
use Rattle.pytree_node.specs.TreeOf.{tree_of}
use Rattle.pyunparse_text.specs.Pieces.{pieces}
use Rattle.pyunparse_text.proofs.Callers.Shortest.{expressions_are_shortest}
use Rattle.pyunparse_text.proofs.Callers.Read.{expressions_are_read}
use Rattle.pyunparse_text.specs.Folds.{puts}
use Rattle.pyunparse_text.specs.Told.{listed_after}
use Rattle.pyunparse_text.proofs.Callers.Writing.{tokens_put}
use Rattle.pyunparse.proofs.expressions.expression_tokens.Goals as goal

pub returns-clause-tokens : goal.returns-clause-tokens
returns-clause-tokens c =
    let ps = pieces c.args.level (tree_of c.args.expr.now) in
    c.into_pieces.ensures
    ∙ ap (λ z. z.tokens) (c.in_ok-write_expr.ensures ∙ ap (λ z. puts listed_after z ps) c.new-out.ensures ∙ tokens_put [] ps)

pub returns-clause-fewest : goal.returns-clause-fewest
returns-clause-fewest c ts = expressions_are_shortest c.args.level ts (tree_of c.args.expr.now)

pub returns-clause-read : goal.returns-clause-read
returns-clause-read c extent ts = expressions_are_read extent c.args.level ts (tree_of c.args.expr.now)

pub returns-in_err-write_expr-clause-fewest : goal.returns-in_err-write_expr-clause-fewest
returns-in_err-write_expr-clause-fewest c ts = expressions_are_shortest c.args.level ts (tree_of c.args.expr.now)

pub returns-in_err-write_expr-clause-read : goal.returns-in_err-write_expr-clause-read
returns-in_err-write_expr-clause-read c extent ts = expressions_are_read extent c.args.level ts (tree_of c.args.expr.now)
