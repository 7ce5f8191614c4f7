use Rattle.std.proofs.Common.{map}
use Rattle.std.proofs.lemmas.Result.{IfOk-equal}
use Rattle.pytree_node.specs.TreeOf.{alias_of}
use Rattle.pyunparse.proofs.StatementParts.ImportLemmas.{import_on}
use Rattle.pyunparse.proofs.statements.write_import_from.Goals as goal

pub returns : goal.returns
returns g c = IfOk-equal _ _ _ _ c.write_imported.ensures
    (import_on g.W.Writer.after c.args.out.now c.args.«module».now (map alias_of c.args.names.now) c.args.level _ _ _ _
    c.in_ok-put_word.ensures c.in_ok-write_points.ensures c.in_ok-write_source.ensures c.in_ok-put_word-2.ensures)
