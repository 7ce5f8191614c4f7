use Rattle.std.proofs.lemmas.Result.{IfOk-equal}
use Rattle.pytree_node.specs.TreeOf.{option_of, tree_of}
use Rattle.pygrammar.specs.declared.levels.Level.TheVariants.{Expression}
use Rattle.pyunparse_text.specs.Pieces.{piece, pieces}
use Rattle.pyunparse_text.specs.Statements.{as_target}
use Rattle.pyunparse.proofs.Sequences.FoldLemmas.{two}
use Rattle.pyunparse.proofs.headers.write_item.Goals as goal

pub returns : goal.returns
returns g c =
    let i = c.args.item.now in
    IfOk-equal _ _ _ _ c.write_target.ensures (two g.W.Writer.after c.args.out.now (pieces Expression (tree_of i.context_expr))
    (as_target piece (option_of i.optional_vars)) _ c.in_ok-write_expr.ensures)
