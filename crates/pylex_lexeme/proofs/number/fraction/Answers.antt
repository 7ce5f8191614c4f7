use Rattle.std.proofs.Common.{sym, ◌∙◌, ap, ◌+◌}
use Rattle.pylex_lexeme.specs.Lengths.{point_len, exponent_len}
use Rattle.pylex_lexeme.proofs.Fronts.Taking.{took_then, took_only, fraction_is}
use Rattle.pylex_lexeme.proofs.number.fraction.Goals as goal

pub returns-then-point : goal.returns-then-point
returns-then-point c = took_then _ _ _ _ c.args.text.now _ _ (fraction_is c.args.text.now
    ∙ ap (λ u. point_len c.args.text.now + exponent_len u) (sym (c.if-point.ensures).rest)) (c.if-point.ensures) c.exponent.ensures

pub returns : goal.returns
returns c = took_only _ _ _ _ c.args.text.now _ _ (fraction_is c.args.text.now ∙ ap (λ u. point_len c.args.text.now + exponent_len u)
    (sym (c.if-point.ensures).rest)) (c.if-point.ensures) c.exponent-2.ensures
