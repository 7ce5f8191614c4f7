use Rattle.std.proofs.Common.{◌∷◌, [], ◌∙◌}
use Rattle.std.proofs.lemmas.Result.{IfOk-equal}
use Rattle.pylex_lexeme.specs.declared.kinds.Exact.TheVariants.{Colon}
use Rattle.pytoken.specs.declared.keywords.Keyword.TheVariants as Key
use Rattle.pytree_node.specs.TreeOf.{tree_of}
use Rattle.pygrammar.specs.Lines.{for_head, loop_header}
use Rattle.pygrammar.specs.declared.levels.Level.TheVariants.{Stars}
use Rattle.pyunparse_text.specs.Pieces.{piece, pieces}
use Rattle.pyunparse_text.specs.Statements.{async, header_tokens}
use Rattle.pyunparse_text.specs.Written.{trailing, word}
use Rattle.pyunparse.proofs.Sequences.FoldLemmas.{five, two}
use Rattle.pyunparse.proofs.headers.write_for_header.Goals as goal

pub returns : goal.returns
returns g c = IfOk-equal _ _ _ _ c.put_colon.ensures
    (two g.W.Writer.after c.args.out.now
    (header_tokens piece (loop_header (for_head c.args.is_async (tree_of c.args.target.now) (tree_of c.args.iter.now))))
    (trailing piece Colon ∷ []) _
    (c.in_ok-write_expr-2.ensures ∙ five g.W.Writer.after c.args.out.now (async piece c.args.is_async) (word piece Key.For ∷ [])
    (pieces Stars (tree_of c.args.target.now)) (word piece Key.In ∷ [])
    (pieces Stars (tree_of c.args.iter.now)) _ _ _ _ c.in_ok-put_async.ensures c.in_ok-put_word.ensures c.in_ok-write_expr.ensures
    c.in_ok-put_word-2.ensures))
