use Rattle.std.proofs.Common.{◌∙◌, ◌++◌, ap, map}
use Rattle.std.proofs.lemmas.Result.{IfOk-equal}
use Rattle.pylex_lexeme.specs.declared.kinds.Exact.TheVariants.{LPar, RPar}
use Rattle.pytree_node.specs.Trees.{exprs, keywords}
use Rattle.pytree_node.specs.TreeOf.{keyword_of, tree_of}
use Rattle.pygrammar.specs.declared.levels.Level.TheVariants.{Named}
use Rattle.pyunparse_text.specs.Pieces.{piece}
use Rattle.pyunparse_text.specs.Written.{by_name, each, listed, tight}
use Rattle.pyunparse_text.specs.Folds.{puts}
use Rattle.pyunparse.proofs.Sequences.FoldLemmas.{enclosed_on}
use Rattle.pyunparse.proofs.StatementParts.HeaderLemmas.{bases_listed, no_bases, some_bases}
use Rattle.pyunparse.proofs.headers.write_bases.Goals as goal

pub returns-then-none : goal.returns-then-none
returns-then-none g c = ap (puts g.W.Writer.after c.args.out.now) (no_bases _ _ c.args.bases.now c.args.words.now c.is_empty-first.ensures
    c.is_empty.ensures c.if-none.true)

pub returns : goal.returns
returns g c =
    let ks = keywords (map keyword_of c.args.words.now) in
    IfOk-equal _ _ _ _ c.put_sign-2.ensures
    (enclosed_on g.W.Writer.after c.args.out.now (tight piece LPar) RPar
    (listed piece (each piece Named (exprs (map tree_of c.args.bases.now)) ++ by_name piece ks)) _ _ c.in_ok-put_sign.ensures
    (c.in_ok-write_keywords.ensures ∙ bases_listed g.W.Writer.after _ _ c.args.bases.now ks _ c.is_empty-first.ensures
    c.in_ok-write_members.ensures)
    ∙ ap (puts g.W.Writer.after c.args.out.now) (some_bases _ _ c.args.bases.now c.args.words.now c.is_empty-first.ensures
    c.is_empty.ensures c.if-none.false))
