use Rattle.std.proofs.Common.{◌∙◌}
use Rattle.pyparse_statement.proofs.Recorders.Headers.{except_all_placed, except_line_placed, except_star_placed}
use Rattle.pyparse_statement.proofs.headers.clauses.except_rest.Goals as goal

pub returns-then-is_op-clause-placed : goal.returns-then-is_op-clause-placed
returns-then-is_op-clause-placed g c = except_star_placed g.R.Recorder.after g.R.Recorder.recorded_count _ _ c.except_of.result
    c.if-is_op.ensures c.except_of.ensures.placed

pub returns-then-starts_expression-clause-placed : goal.returns-then-starts_expression-clause-placed
returns-then-starts_expression-clause-placed g c = except_line_placed g.R.Recorder.after g.R.Recorder.recorded_count _ _
    c.except_of-then-starts_expression.result
    c.except_of-then-starts_expression.ensures.placed

pub returns-clause-placed : goal.returns-clause-placed
returns-clause-placed g c = except_all_placed c.except_at.ensures.header c.except_at.ensures.next
    (c.except_at.ensures.before ∙ c.recorded.ensures)
