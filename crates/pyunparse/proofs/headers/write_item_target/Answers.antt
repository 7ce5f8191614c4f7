use Rattle.std.proofs.Common.{◌∷◌, [], ap, sym}
use Rattle.std.proofs.lemmas.Result.{IfOk-equal}
use Rattle.pylex_lexeme.specs.declared.kinds.Exact.TheVariants.{Star}
use Rattle.pytree_node.specs.TreeOf.{tree_of}
use Rattle.pytree_node.proofs.Callers.ExprShapes.{starred_tree}
use Rattle.pygrammar.specs.declared.levels.Level.TheVariants.{Expression}
use Rattle.pyunparse_text.specs.Pieces.{piece, pieces}
use Rattle.pyunparse_text.specs.Written.{leading}
use Rattle.pyunparse_text.specs.Folds.{puts}
use Rattle.pyunparse.proofs.Sequences.FoldLemmas.{two}
use Rattle.pyunparse_text.proofs.Callers.Writing.{not_starred}
use Rattle.pyunparse.proofs.headers.write_item_target.Goals as goal

pub returns-in_ok-put_sign-in-Starred : goal.returns-in_ok-put_sign-in-Starred
returns-in_ok-put_sign-in-Starred g c = rw (c.in-Starred.is, starred_tree, sym c.deref.ensures) (IfOk-equal _ _ _ _ c.write_expr.ensures
    (two g.W.Writer.after c.args.out.now (leading piece Star ∷ []) (pieces Expression (tree_of c.deref.result.now)) _
    c.in_ok-put_sign-in-Starred.ensures))

pub returns-in_default : goal.returns-in_default
returns-in_default g c = IfOk-equal _ _ _ _ c.write_expr-in_default.ensures
    (ap (puts g.W.Writer.after c.args.out.now) (sym (not_starred c.args.target.now c.in_default.not-Starred)))
