use Rattle.std.proofs.Common.{◌≡◌, ◌+◌, ◌∙◌, ap, arith, refl, rules}
use Rattle.pyparse_statement.proofs.statements.ImportSteps.{dots_more}
use Rattle.pyparse_statement.proofs.statements.imports.read_dots.Goals as goal

pub more-preserved : goal.more-preserved
more-preserved c =
    let e : c.in_ok-count.count ≡ c.more.count + c.dots_at-more.result = search rules in
    record {
      ahead = omega (arith, c.more.invariant.ahead);
      is = dots_more c.args.tokens.now _ c.more.count c.more.next c.more.invariant.is _ _ (omega (arith, c.dots_at-more.ensures.is)) (e
          ∙ ap (λ d. c.more.count + d) c.dots_at-more.ensures.is) refl (c.dots_at-more.ensures.within (omega arith));
    }
