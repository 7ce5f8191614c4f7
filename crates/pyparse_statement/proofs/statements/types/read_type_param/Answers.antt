use Rattle.std.proofs.Common.{refl}
use Rattle.pyparse_statement.proofs.Callers.Looks.{name_stands}
use Rattle.pyparse_statement.proofs.Recorders.Types.{star_placed, stars_placed}
use Rattle.pyparse_statement.proofs.statements.types.read_type_param.Goals as goal

pub returns-in-Some-clause-placed : goal.returns-in-Some-clause-placed
returns-in-Some-clause-placed g c = let n = name_stands _ c.args.tokens.now c.args.at c.in-Some.ensures.is in
    c.type_var.ensures.placed c.args.at n.name refl n.is n.form

pub returns-in-Some-name_at-clause-placed : goal.returns-in-Some-name_at-clause-placed
returns-in-Some-name_at-clause-placed g c = star_placed g.R.Recorder.after c.args.recorder.now _ c.type_var_tuple.result
    c.in-Some-name_at.ensures.is c.if-is_op.ensures
    c.type_var_tuple.ensures.param c.type_var_tuple.ensures.next

pub returns-in-Some-name_at-2-clause-placed : goal.returns-in-Some-name_at-2-clause-placed
returns-in-Some-name_at-2-clause-placed g c = stars_placed g.R.Recorder.after c.args.recorder.now _ c.param_spec.result
    c.in-Some-name_at-2.ensures.is c.if-is_op-2.ensures
    c.param_spec.ensures.param c.param_spec.ensures.next
