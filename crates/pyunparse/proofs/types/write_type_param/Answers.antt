use Rattle.std.proofs.lemmas.Result.{IfOk-equal}
use Rattle.pyunparse.proofs.StatementParts.TypeLemmas.{specification_on, tuple_on, variable_on}
use Rattle.pyunparse.proofs.types.write_type_param.Goals as goal

pub returns-in_ok-put_name-in-TypeVar : goal.returns-in_ok-put_name-in-TypeVar
returns-in_ok-put_name-in-TypeVar g c =
    IfOk-equal _ _ _ _ c.write_bound.ensures (variable_on g.W.Writer.after c.args.out.now c.args.param.now _ _ _ c.in-TypeVar.is
    c.in_ok-put_name-in-TypeVar.ensures)

pub returns-in_ok-put_sign-in-TypeVarTuple : goal.returns-in_ok-put_sign-in-TypeVarTuple
returns-in_ok-put_sign-in-TypeVarTuple g c = IfOk-equal _ _ _ _ c.put_name-in-TypeVarTuple.ensures
    (tuple_on g.W.Writer.after c.args.out.now c.args.param.now _ _ c.in-TypeVarTuple.is c.in_ok-put_sign-in-TypeVarTuple.ensures)

pub returns-in_ok-put_sign-in-ParamSpec : goal.returns-in_ok-put_sign-in-ParamSpec
returns-in_ok-put_sign-in-ParamSpec g c = IfOk-equal _ _ _ _ c.put_name-in-ParamSpec.ensures
    (specification_on g.W.Writer.after c.args.out.now c.args.param.now _ _ c.in-ParamSpec.is c.in_ok-put_sign-in-ParamSpec.ensures)
