use Rattle.pyparse_nodes.proofs.FormalParameters.FormalNodes.{node_is}
use Rattle.pyparse_nodes.proofs.parameters.node_of.Goals as goal

pub returns : goal.returns
returns c = node_is _ c.args.formal.stage c.args.formal.defaulted
