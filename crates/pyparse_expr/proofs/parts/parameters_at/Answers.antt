use Rattle.std.proofs.Common.{refl, rules}
use Rattle.pytree_node.specs.TreeOf.{arguments_of}
use Rattle.pyparse_expr.proofs.Reader.PartPlaces.{parameters_placed}
use Rattle.pyparse_expr.proofs.FormalParameters.ParameterSteps.{signature_height}
use Rattle.pyparse_expr.proofs.Reader.PartSteps.{parameters_failed, parameters_found, parameters_wrong}
use Rattle.pyparse_expr.proofs.parts.parameters_at.Goals as goal

pub invariant_of-result : goal.invariant_of-result
invariant_of-result g c =
    let h = signature_height c.args.tokens.now c.in_ok-outer.outer.room c.args.at _ c.in_ok-signature.signature
    c.in_ok-signature.ensures.answered in
    record { is_height = h.is _ c.in_ok-arguments.ensures }

pub returns-in_err-signature-clause-answered : goal.returns-in_err-signature-clause-answered
returns-in_err-signature-clause-answered g c =
    let f = parameters_failed c.args.tokens.now c.in_ok-outer.outer c.args.depth c.args.at c.in_ok-outer.ensures
    c.in_err-signature.field-0.0 c.in_err-signature.ensures.answered in
    search (rules, f)

pub returns-in_err-arguments-clause-answered : goal.returns-in_err-arguments-clause-answered
returns-in_err-arguments-clause-answered g c =
    let f = parameters_wrong c.args.tokens.now c.in_ok-outer.outer c.args.depth c.args.at c.in_ok-outer.ensures _
    c.in_ok-signature.signature c.in_ok-signature.ensures.answered c.in_err-arguments.ensures.is in
    search (rules, f, c.in_err-arguments.ensures.why)

pub returns-clause-answered : goal.returns-clause-answered
returns-clause-answered g c = parameters_found c.args.tokens.now c.in_ok-outer.outer c.args.depth c.args.at c.in_ok-outer.ensures _
    c.in_ok-signature.signature c.in_ok-signature.ensures.answered _ c.in_ok-arguments.ensures

pub returns-clause-placed : goal.returns-clause-placed
returns-clause-placed g c = parameters_placed (arguments_of c.in_ok-arguments.arguments) c.in_ok-signature.signature.next
    c.in_ok-signature.ensures.placed c.in_ok-arguments.ensures refl
