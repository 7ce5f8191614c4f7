use Rattle.std.proofs.Common.{sym, ◌∙◌, ap, ◌+◌}
use Rattle.pylex_lexeme.specs.Lengths.{fraction_len, j_len}
use Rattle.pylex_lexeme.proofs.Fronts.Taking.{took_then, took_only, tail_is}
use Rattle.pylex_lexeme.proofs.number.tail.Goals as goal

pub returns-then-fraction : goal.returns-then-fraction
returns-then-fraction c = took_then _ _ _ _ c.args.text.now _ _ (tail_is c.args.text.now ∙ ap (λ u. fraction_len c.args.text.now + j_len u)
    (sym (c.if-fraction.ensures).rest)) (c.if-fraction.ensures) c.letter_j.ensures

pub returns : goal.returns
returns c = took_only _ _ _ _ c.args.text.now _ _ (tail_is c.args.text.now ∙ ap (λ u. fraction_len c.args.text.now + j_len u)
    (sym (c.if-fraction.ensures).rest)) (c.if-fraction.ensures) c.letter_j-2.ensures
