use Rattle.std.proofs.Common.{refl, rules}
use Rattle.pyparse_expr.proofs.Reader.PartPlaces.{bases_placed}
use Rattle.pyparse_expr.proofs.Reader.PartSteps.{arguments_failed, arguments_found, arguments_wrong}
use Rattle.pyparse_expr.proofs.parts.arguments_at.Goals as goal

pub returns-in_err-actual-clause-answered : goal.returns-in_err-actual-clause-answered
returns-in_err-actual-clause-answered g c =
    let f = arguments_failed c.args.tokens.now c.in_ok-outer.outer c.args.depth c.args.at c.in_ok-outer.ensures c.in_err-actual.field-0.0
    c.in_err-actual.ensures.answered in
    search (rules, f)

pub returns-then-actual-clause-answered : goal.returns-then-actual-clause-answered
returns-then-actual-clause-answered g c = arguments_wrong c.args.tokens.now c.in_ok-outer.outer c.args.depth
    c.args.at c.in_ok-outer.ensures _
    c.in_ok-actual.actual c.in_ok-actual.ensures.answered c.if-actual.true

pub returns-clause-answered : goal.returns-clause-answered
returns-clause-answered g c = arguments_found c.args.tokens.now c.in_ok-outer.outer c.args.depth c.args.at
    c.in_ok-outer.ensures _ c.in_ok-actual.actual
    c.in_ok-actual.ensures.answered c.if-actual.false

pub returns-clause-placed : goal.returns-clause-placed
returns-clause-placed g c = bases_placed c.in_ok-actual.actual.next c.in_ok-actual.ensures.placed c.if-actual.false refl
