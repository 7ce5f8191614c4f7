use Rattle.std.proofs.Common.{◌∙◌, arith, rules, sym}
use Rattle.pytree_node.specs.TreeOf.{tree_of}
use Rattle.pyparse_pattern.proofs.NumberSteps.{sum_failed, sum_made, sum_real}
use Rattle.pyparse_pattern.proofs.Recorders.Values.{complex_placed, number_alone}
use Rattle.pyparse_pattern.proofs.numbers.with_imaginary.Goals as goal

pub returns-in_err-right-clause-answered : goal.returns-in_err-right-clause-answered
returns-in_err-right-clause-answered g c =
    let f = sum_failed c.args.tokens.now (tree_of c.args.number.read.expr.value) c.args.number.read.next c.in-Some.sign c.in-Some.ensures.is
    c.in_err-right.field-0.0 c.in_err-right.ensures.answered in
    rw c.if-imaginary.false (search (rules, f))

pub returns-in_ok-node-clause-answered : goal.returns-in_ok-node-clause-answered
returns-in_ok-node-clause-answered g c = rw c.if-imaginary.false (sum_made c.args.tokens.now (tree_of c.args.number.read.expr.value)
    c.args.number.read.next
    c.in-Some.sign c.in-Some.ensures.is c.in_ok-right.right c.make_binary.result c.if-right.true c.in_ok-right.ensures.answered
    (omega (arith, c.requires.low, c.args.number.read.is_height)) c.make_binary.ensures)

pub returns-else-right-clause-answered : goal.returns-else-right-clause-answered
returns-else-right-clause-answered g c = rw c.if-imaginary.false (sum_real c.args.tokens.now (tree_of c.args.number.read.expr.value)
    c.args.number.read.next
    c.in-Some.sign c.in-Some.ensures.is c.in_ok-right.right c.if-right.false c.in_ok-right.ensures.answered)

pub returns-then-imaginary-clause-placed : goal.returns-then-imaginary-clause-placed
returns-then-imaginary-clause-placed g c = λ v ps q p.
    number_alone g.R.Recorder.after _ c.args.tokens.now c.args.at c.args.number.read p

pub returns-in_default-clause-placed : goal.returns-in_default-clause-placed
returns-in_default-clause-placed g c = λ v ps q p.
    number_alone g.R.Recorder.after _ c.args.tokens.now c.args.at c.args.number.read p

pub returns-in_ok-node-clause-placed : goal.returns-in_ok-node-clause-placed
returns-in_ok-node-clause-placed g c = λ v ps q p.
    complex_placed g.R.Recorder.after _ _ c.args.tokens.now c.args.at c.args.number.read c.in-Some.sign c.in_ok-right.right
    c.make_binary.result p (sym q ∙ c.if-imaginary.false) c.in-Some.ensures.is c.in_ok-right.ensures.answered c.if-right.true
    c.in_ok-right.ensures.placed c.in_ok-node.ensures c.make_binary.ensures
