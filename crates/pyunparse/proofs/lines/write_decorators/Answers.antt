use Rattle.std.proofs.Common.{◌∷◌, [], ◌∙◌, map, refl}
use Rattle.pylex_lexeme.specs.declared.kinds.Exact.TheVariants.{At}
use Rattle.pytree_node.specs.TreeOf.{tree_of}
use Rattle.pygrammar.specs.declared.levels.Level.TheVariants.{Named}
use Rattle.pyunparse_text.specs.Modules.{decorators, written_line}
use Rattle.pyunparse_text.specs.Pieces.{piece, pieces}
use Rattle.pyunparse_text.specs.Written.{leading}
use Rattle.pyunparse.proofs.Texts.LineLemmas.{all_lines, line_on}
use Rattle.pyunparse.proofs.lines.write_decorators.Goals as goal

pub loop-e-preserved : goal.loop-e-preserved
loop-e-preserved c = record {
  text = line_on c.args.out.now c.loop-e.out (λ n xs. decorators piece n (map tree_of xs))
      (λ n x. written_line n (leading piece At ∷ pieces Named (tree_of x)) ∷ [])
      (λ _ _ _. refl) c.args.decorators.now _ _ _ _ c.loop-e-test.true c.e-item.is c.loop-e.invariant.level c.loop-e.invariant.text
      c.in_ok-write_decorator.ensures;
  level = c.in_ok-write_decorator.ensures.level ∙ c.loop-e.invariant.level;
}

pub returns : goal.returns
returns c = record {
  text = all_lines c.args.out.now c.loop-e.out (λ n xs. decorators piece n (map tree_of xs)) c.args.out.now.level refl c.args.decorators.now
      _ c.loop-e-test.false c.loop-e.invariant.text;
  level = c.loop-e.invariant.level;
}
