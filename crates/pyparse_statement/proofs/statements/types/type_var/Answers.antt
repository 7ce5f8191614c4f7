use Rattle.std.specs.Str.{chars}
use Rattle.unicode_normalization.specs.Forms.{nfkc}
use Rattle.pyparse_statement.proofs.Recorders.Types.{type_var_placed}
use Rattle.pyparse_statement.proofs.statements.types.type_var.Goals as goal

pub returns-clause-placed : goal.returns-clause-placed
returns-clause-placed g c = type_var_placed (nfkc (chars c.args.name.now)) c.type_var_of.result c.in_ok-bound.ensures.placed
    c.type_var_of.ensures.param c.type_var_of.ensures.next
