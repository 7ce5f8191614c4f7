use Rattle.std.proofs.Common.{refl}
use Rattle.pyparse_statement.proofs.Recorders.Imports.{bare_names, bracketed_names, star_names}
use Rattle.pyparse_statement.proofs.statements.imports.import_names.Goals as goal

pub returns-then-is_op-clause-placed : goal.returns-then-is_op-clause-placed
returns-then-is_op-clause-placed g c = star_names g.R.Recorder.after _ _ c.star_alias.result c.if-is_op.ensures c.in_ok-node.ensures
    c.star_alias.ensures.names
    c.star_alias.ensures.next

pub returns-then-not-is_op-clause-placed : goal.returns-then-not-is_op-clause-placed
returns-then-not-is_op-clause-placed g c = bare_names g.R.Recorder.after _ _ c.args.tokens.now c.args.at c.name_aliases.result
    c.name_aliases.ensures.placed

pub returns-clause-placed : goal.returns-clause-placed
returns-clause-placed g c = bracketed_names c.in_ok-names.names c.if-not-is_op.ensures c.in_ok-names.ensures.placed
    c.if-not-is_op-2.ensures refl refl
