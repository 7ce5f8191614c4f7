use Rattle.std.proofs.Common.{◌∷◌, [], ◌∙◌}
use Rattle.std.proofs.lemmas.Result.{IfOk-weaker}
use Rattle.pylex_lexeme.specs.declared.kinds.Exact.TheVariants.{At}
use Rattle.pytree_node.specs.TreeOf.{tree_of}
use Rattle.pygrammar.specs.declared.levels.Level.TheVariants.{Named}
use Rattle.pyunparse_text.specs.Pieces.{piece, pieces}
use Rattle.pyunparse_text.specs.Written.{leading}
use Rattle.pyunparse_text.specs.Writing.{after_sited}
use Rattle.pyunparse.proofs.Sequences.FoldLemmas.{two}
use Rattle.pyunparse.proofs.Texts.LineLemmas.{whole_line}
use Rattle.pyunparse.proofs.lines.write_decorator.Goals as goal

pub returns : goal.returns
returns c = IfOk-weaker _ _ _ (λ _ e. whole_line c.args.out.now _ _ _ (leading piece At ∷ pieces Named (tree_of c.args.e.now))
    c.in_ok-begin_line.ensures
    (c.in_ok-write_expr.ensures ∙ two after_sited _ (leading piece At ∷ []) (pieces Named (tree_of c.args.e.now)) _
    c.in_ok-put_sign.ensures) e) c.end_line.ensures
