use Rattle.std.proofs.Common.{arith}
use Rattle.pyparse_statement.proofs.Recorders.Imports.{from_dots_placed, from_module_placed}
use Rattle.pyparse_statement.proofs.statements.imports.import_from.Goals as goal

pub returns-then-is_word-clause-placed : goal.returns-then-is_word-clause-placed
returns-then-is_word-clause-placed g c = from_dots_placed g.R.Recorder.after _ _ c.import_of.result c.in_ok-dots.ensures
    (omega arith) c.if-is_word.ensures
    c.import_of.ensures.placed

pub returns-clause-placed : goal.returns-clause-placed
returns-clause-placed g c = from_module_placed g.R.Recorder.after _ _ c.import_of-2.result c.in_ok-dots.ensures c.in_ok-source.ensures
    c.if-not-is_word.ensures
    c.import_of-2.ensures.placed
