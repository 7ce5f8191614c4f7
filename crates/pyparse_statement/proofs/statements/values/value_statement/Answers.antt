use Rattle.std.specs.Str.{chars}
use Rattle.unicode_normalization.specs.Forms.{nfkc}
use Rattle.pyparse_statement.proofs.Recorders.Values.{name_annotated}
use Rattle.pyparse_statement.proofs.statements.values.value_statement.Goals as goal

pub returns-in_ok-target-in-Some-clause-placed : goal.returns-in_ok-target-in-Some-clause-placed
returns-in_ok-target-in-Some-clause-placed g c = λ prof. name_annotated g.R.Recorder.after _ _ prof _ (nfkc (chars c.in-Some.name.now))
    c.in_ok-target-in-Some.target
    c.annotated.result c.in-Some.ensures
    c.in_ok-node-in-Some.ensures c.in_ok-target-in-Some.ensures.tree c.annotated.ensures.placed

pub returns-in-None-clause-placed : goal.returns-in-None-clause-placed
returns-in-None-clause-placed g c = λ prof. c.assignment.ensures.placed prof c.in-None.ensures
