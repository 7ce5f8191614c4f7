use Rattle.pyparse_nodes.proofs.Places.Stands.{op_stands}
use Rattle.pyparse_nodes.proofs.looks.is_op.Goals as goal

pub returns-in-Some : goal.returns-in-Some
returns-in-Some c = op_stands c.args.tokens.now c.args.at c.args.sign _ c.op_is.result c.in-Some.ensures.within
    c.in-Some.ensures.is c.op_is.ensures
