use Rattle.std.specs.Str.{chars}
use Rattle.unicode_normalization.specs.Forms.{nfkc}
use Rattle.pyparse_statement.proofs.Recorders.Types.{alias_placed}
use Rattle.pyparse_statement.proofs.statements.types.type_alias.Goals as goal

pub returns-clause-placed : goal.returns-clause-placed
returns-clause-placed g c = let h = c.in_ok-value.ensures.placed in
    alias_placed (nfkc (chars c.args.name.now)) c.in_ok-params.params c.in_ok-value.value c.in_ok-name.name c.in_ok-params.ensures.placed
    c.if-not-is_op.ensures h.1 h.2 c.in_ok-name.ensures.tree c.alias_of.ensures.statement c.alias_of.ensures.next
