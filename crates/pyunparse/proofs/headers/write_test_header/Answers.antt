use Rattle.std.proofs.Common.{◌∷◌, []}
use Rattle.std.proofs.lemmas.Result.{IfOk-equal}
use Rattle.pylex_lexeme.specs.declared.kinds.Exact.TheVariants.{Colon}
use Rattle.pytree_node.specs.TreeOf.{tree_of}
use Rattle.pygrammar.specs.declared.levels.Level.TheVariants.{Named}
use Rattle.pyunparse_text.specs.Pieces.{piece, pieces}
use Rattle.pyunparse_text.specs.Written.{trailing, word}
use Rattle.pyunparse.proofs.Sequences.FoldLemmas.{three}
use Rattle.pyunparse.proofs.headers.write_test_header.Goals as goal

pub returns : goal.returns
returns g c = IfOk-equal _ _ _ _ c.put_colon.ensures
    (three g.W.Writer.after c.args.out.now (word piece c.args.word ∷ []) (pieces Named (tree_of c.args.test.now))
    (trailing piece Colon ∷ []) _ _ c.in_ok-put_word.ensures c.in_ok-write_expr.ensures)
