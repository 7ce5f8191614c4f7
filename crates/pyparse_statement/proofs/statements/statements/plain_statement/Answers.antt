use Rattle.std.specs.Str.{chars}
use Rattle.unicode_normalization.specs.Forms.{nfkc}
use Rattle.pyparse_statement.proofs.Recorders.Values.{type_placed}
use Rattle.pyparse_statement.proofs.statements.statements.plain_statement.Goals as goal

pub returns-in_ok-node-in-Some-clause-placed : goal.returns-in_ok-node-in-Some-clause-placed
returns-in_ok-node-in-Some-clause-placed g c = type_placed g.R.Recorder.after _ _ _ c.args.profile (nfkc (chars c.in-Some.name.now))
    c.type_alias.result c.in-Some.ensures
    c.in_ok-node-in-Some.ensures
    c.type_alias.ensures.placed

pub returns-in-None-clause-placed : goal.returns-in-None-clause-placed
returns-in-None-clause-placed g c = c.value_statement.ensures.placed c.args.profile
