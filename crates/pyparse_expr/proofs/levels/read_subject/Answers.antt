use Rattle.pyparse_expr.proofs.Reader.LevelSteps.{subject_tuple, subject_alone}
use Rattle.pyparse_expr.proofs.Recorders.Levels.{subject_tupled, subject_one}
use Rattle.pyparse_expr.proofs.levels.read_subject.Goals as goal

pub returns-then-is_op-clause-answered : goal.returns-then-is_op-clause-answered
returns-then-is_op-clause-answered g c = subject_tuple c.args.tokens.now c.args.depth c.args.at c.in_ok-enter.ensures
    c.in_ok-first.first c.tupled.result
    c.in_ok-first.ensures.answered c.if-is_op.ensures c.tupled.ensures.answered

pub returns-clause-answered : goal.returns-clause-answered
returns-clause-answered g c = subject_alone c.args.tokens.now c.args.depth c.args.at c.in_ok-enter.ensures c.in_ok-first.first
    c.in_ok-first.ensures.answered
    c.if-is_op.ensures c.if-is_op-2.ensures

pub returns-then-is_op-clause-placed : goal.returns-then-is_op-clause-placed
returns-then-is_op-clause-placed g c =
    let h = c.in_ok-first.ensures.placed in
    subject_tupled g.R.Recorder.after _ _ c.args.tokens.now c.args.at c.in_ok-first.first c.tupled.result h.1 h.2
    c.if-is_op.ensures c.tupled.ensures.placed

pub returns-clause-placed : goal.returns-clause-placed
returns-clause-placed g c =
    let h = c.in_ok-first.ensures.placed in
    (h.0, subject_one h.1 c.if-is_op-2.ensures, h.2)
