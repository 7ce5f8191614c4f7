use Rattle.std.proofs.Common.{arith}
use Rattle.pyparse_expr.proofs.ForClauses.ClauseParts.{clause_is, clause_height}
use Rattle.pyparse_expr.proofs.comprehensions.clause_of.Goals as goal

pub invariant_of-result : goal.invariant_of-result
invariant_of-result c =
    let h = clause_height c.into_inner-target.result c.args.target.expr.value c.args.iter.expr.value c.into_inner.result c.store.new.e
    c.args.ifs.exprs c.args.is_async c.into_inner-target.ensures c.into_inner.ensures c.if-not-store.ensures c.args.target.height
    c.args.iter.height c.args.ifs.height c.args.target.is_height c.args.iter.is_height c.args.ifs.is_height in
    record { is_height = omega (arith, h) }

pub returns-clause-is : goal.returns-clause-is
returns-clause-is c = clause_is c.into_inner-target.result c.args.target.expr.value c.args.iter.expr.value c.into_inner.result c.store.new.e
    c.args.ifs.exprs c.args.is_async c.into_inner-target.ensures c.into_inner.ensures c.if-not-store.ensures
