use Rattle.pyparse_expr.proofs.FormalParameters.FormalNodes.{arg_is}
use Rattle.pyparse_expr.proofs.signatures.make_arg.Goals as goal

pub returns : goal.returns
returns c = arg_is _ _ c.in_ok-arg.ensures
