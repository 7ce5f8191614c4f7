use Rattle.std.proofs.Common.{◌∙◌, sym}
use Rattle.std.proofs.lemmas.Result.{IfOk-equal}
use Rattle.pyunparse.proofs.StatementParts.TypeLemmas.{no_params, params_on}
use Rattle.pyunparse.proofs.types.write_type_params.Goals as goal

pub returns-then-is_empty : goal.returns-then-is_empty
returns-then-is_empty g c = no_params g.W.Writer.after c.args.out.now c.args.params.now (sym c.if-is_empty.true ∙ c.is_empty.ensures)

pub returns : goal.returns
returns g c = IfOk-equal _ _ _ _ c.put_sign-2.ensures
    (params_on g.W.Writer.after c.args.out.now c.args.params.now _ _ (sym c.if-is_empty.false ∙ c.is_empty.ensures) c.in_ok-put_sign.ensures
    c.in_ok-write_listed_params.ensures)
