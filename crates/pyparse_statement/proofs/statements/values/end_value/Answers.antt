use Rattle.std.proofs.Common.{arith, sym}
use Rattle.std.proofs.lemmas.Bool.{eqb-false, eqb-true}
use Rattle.pyparse_statement.proofs.Recorders.Values.{assign_placed, no_targets, value_alone}
use Rattle.pyparse_statement.proofs.Recorders.Values.{is_filled, is_none}
use Rattle.pyparse_statement.proofs.statements.values.end_value.Goals as goal

pub returns-then-not-is_empty-clause-placed : goal.returns-then-not-is_empty-clause-placed
returns-then-not-is_empty-clause-placed g c = assign_placed g.R.Recorder.after c.args.recorder.now c.args.tokens.now c.args.targets
    c.args.value (is_filled c.args.targets (λ e. eqb-false _ _ (sym c.if-not-is_empty.ensures) (omega (arith, e))))
    c.assignment_of.ensures.statement c.assignment_of.ensures.next

pub returns-in-Some-clause-placed : goal.returns-in-Some-clause-placed
returns-in-Some-clause-placed g c = no_targets g.R.Recorder.after c.args.recorder.now c.args.tokens.now c.args.targets c.args.value
    c.augmented.new.recorder c.augmented.result (is_none c.args.targets (omega (arith, eqb-true _ _ (sym c.if-not-is_empty.ensures))))
    c.augmented.ensures.placed

pub returns-then-is_op-clause-placed : goal.returns-then-is_op-clause-placed
returns-then-is_op-clause-placed g c = no_targets g.R.Recorder.after c.args.recorder.now c.args.tokens.now c.args.targets c.args.value
    c.annotated_value.new.recorder c.annotated_value.result
    (is_none c.args.targets (omega (arith, eqb-true _ _ (sym c.if-not-is_empty.ensures)))) c.annotated_value.ensures.placed

pub returns-clause-placed : goal.returns-clause-placed
returns-clause-placed g c = value_alone g.R.Recorder.after c.args.recorder.now c.args.tokens.now c.args.targets c.args.value
    c.expression_of.result (is_none c.args.targets (omega (arith, eqb-true _ _ (sym c.if-not-is_empty.ensures))))
    c.expression_of.ensures.statement c.expression_of.ensures.next
