use Rattle.std.proofs.Common.{rules}
use Rattle.pytree_node.specs.TreeOf.{arguments_of, tree_of}
use Rattle.pyparse_nodes.specs.FormalStates.{state_of}
use Rattle.pyparse_expr.proofs.FormalParameters.ParameterSteps.{lambda_made, lambda_wrong}
use Rattle.pyparse_expr.proofs.signatures.finish_lambda.Goals as goal

pub returns-in_err-args-clause-made : goal.returns-in_err-args-clause-made
returns-in_err-args-clause-made g c =
    let f = lambda_wrong c.args.room (state_of c.args.signature.formal) (tree_of c.args.body.expr.value) c.in_err-args.field-0.0
    c.in_err-args.ensures in
    search (rules, f)

pub make_lambda-requires : goal.make_lambda-requires
make_lambda-requires g c = c.requires.is _ c.in_ok-args.ensures

pub returns-clause-made : goal.returns-clause-made
returns-clause-made g c = lambda_made c.args.room (state_of c.args.signature.formal) (arguments_of c.in_ok-args.args)
    (tree_of c.args.body.expr.value) c.args.body.next c.make_lambda.result c.in_ok-args.ensures c.make_lambda.ensures
