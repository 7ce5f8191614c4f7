use Rattle.std.proofs.Common.{◌∷◌, [], ◌∙◌, map}
use Rattle.std.proofs.lemmas.Result.{IfOk-equal}
use Rattle.pylex_lexeme.specs.declared.kinds.Exact.TheVariants.{Colon}
use Rattle.pytoken.specs.declared.keywords.Keyword.TheVariants as Key
use Rattle.pytoken.specs.Terminals.{in_form}
use Rattle.pytree_node.specs.Trees.{keywords}
use Rattle.pytree_node.specs.TreeOf.{keyword_of, tree_of, type_param_of}
use Rattle.pygrammar.specs.Lines.{class_head, def_header}
use Rattle.pyunparse_text.specs.Pieces.{piece}
use Rattle.pyunparse_text.specs.Statements.{bases, header_tokens, type_params}
use Rattle.pyunparse_text.specs.Written.{free, trailing, word}
use Rattle.pyunparse.proofs.Sequences.FoldLemmas.{four, two}
use Rattle.pyunparse.proofs.headers.write_class_header.Goals as goal

pub returns : goal.returns
returns g c =
    let ps = map type_param_of c.args.type_params.now in
    let es = map tree_of c.args.bases.now in
    let ks = keywords (map keyword_of c.args.words.now) in
    IfOk-equal _ _ _ _ c.put_colon.ensures
    (two g.W.Writer.after c.args.out.now (header_tokens piece (def_header (class_head c.args.name.now ps es ks)))
    (trailing piece Colon ∷ []) _
    (c.in_ok-write_bases.ensures ∙ four g.W.Writer.after c.args.out.now (word piece Key.Class ∷ [])
    (free piece (in_form c.args.name.now) ∷ []) (type_params piece ps) (bases piece es ks) _ _ _
    c.in_ok-put_word.ensures c.in_ok-put_name.ensures c.in_ok-write_type_params.ensures))
