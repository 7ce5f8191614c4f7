use Rattle.pyparse_statement.proofs.Recorders.Values.{value_annotated}
use Rattle.pyparse_statement.proofs.statements.values.annotated_value.Goals as goal

pub returns-clause-placed : goal.returns-clause-placed
returns-clause-placed g c = value_annotated g.R.Recorder.after _ _ c.args.value c.in_ok-target.target c.annotated.result
    c.requires c.in_ok-target.ensures
    c.annotated.ensures.placed
