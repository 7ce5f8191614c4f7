use Rattle.std.proofs.Common.{◌∷◌, [], ◌∙◌}
use Rattle.std.proofs.lemmas.Result.{IfOk-equal}
use Rattle.pylex_lexeme.specs.declared.kinds.Exact.TheVariants.{Colon}
use Rattle.pytoken.specs.declared.keywords.Keyword.TheVariants as Key
use Rattle.pytree_node.specs.TreeOf.{option_of}
use Rattle.pygrammar.specs.Lines.{except_header}
use Rattle.pygrammar.specs.declared.levels.Level.TheVariants.{Expression}
use Rattle.pyunparse_text.specs.Pieces.{piece}
use Rattle.pyunparse_text.specs.Statements.{as_name, header_tokens, perhaps_written, starred}
use Rattle.pyunparse_text.specs.Written.{trailing, word}
use Rattle.pyunparse.proofs.Sequences.FoldLemmas.{four, two}
use Rattle.pyunparse.proofs.headers.write_except_header.Goals as goal

pub returns : goal.returns
returns g c = IfOk-equal _ _ _ _ c.put_colon.ensures
    (two g.W.Writer.after c.args.out.now (header_tokens piece (except_header c.args.is_star (option_of c.args.class.now) c.args.name.now))
    (trailing piece Colon ∷ []) _
    (c.in_ok-write_as.ensures ∙ four g.W.Writer.after c.args.out.now (word piece Key.Except ∷ []) (starred piece c.args.is_star)
    (perhaps_written piece Expression (option_of c.args.class.now))
    (as_name piece c.args.name.now) _ _ _ c.in_ok-put_word.ensures c.in_ok-put_star.ensures c.in_ok-write_option.ensures))
