use Rattle.std.proofs.Common.{◌∷◌, [], ◌∙◌, map}
use Rattle.std.proofs.lemmas.Result.{IfOk-equal}
use Rattle.pylex_lexeme.specs.declared.kinds.Exact.TheVariants.{Colon, LPar, RArrow, RPar}
use Rattle.pytoken.specs.declared.keywords.Keyword.TheVariants as Key
use Rattle.pytoken.specs.Terminals.{in_form, Op}
use Rattle.pytree_node.specs.TreeOf.{arguments_of, boxed_of, type_param_of}
use Rattle.pygrammar.specs.Lines.{def_header, function_head}
use Rattle.pygrammar.specs.declared.levels.Level.TheVariants.{Expression}
use Rattle.pyunparse_text.specs.Pieces.{piece}
use Rattle.pyunparse_text.specs.Statements.{async, following, header_tokens, type_params}
use Rattle.pyunparse_text.specs.Written.{enclosed, free, listed, parameters, tight, trailing, word}
use Rattle.pyunparse.proofs.Sequences.FoldLemmas.{enclosed_on, six, two}
use Rattle.pyunparse.proofs.headers.write_function_header.Goals as goal

pub returns : goal.returns
returns g c =
    let a = arguments_of c.args.args.now in
    let r = boxed_of c.args.returns.now in
    let ps = map type_param_of c.args.type_params.now in
    IfOk-equal _ _ _ _ c.put_colon.ensures
    (two g.W.Writer.after c.args.out.now (header_tokens piece (def_header (function_head c.args.is_async c.args.name.now ps a r)))
    (trailing piece Colon ∷ []) _
    (c.in_ok-write_after.ensures ∙ six g.W.Writer.after c.args.out.now (async piece c.args.is_async) (word piece Key.Def ∷ [])
    (free piece (in_form c.args.name.now) ∷ []) (type_params piece ps)
    (enclosed piece (tight piece LPar) RPar (listed piece (parameters piece a)))
    (following piece (free piece (Op RArrow)) Expression r) _ _ _ _ _
    c.in_ok-put_async.ensures c.in_ok-put_word.ensures c.in_ok-put_name.ensures c.in_ok-write_type_params.ensures
    (c.in_ok-put_sign-2.ensures ∙ enclosed_on g.W.Writer.after _ (tight piece LPar) RPar (listed piece (parameters piece a)) _ _
    c.in_ok-put_sign.ensures c.in_ok-write_parameters.ensures)))
