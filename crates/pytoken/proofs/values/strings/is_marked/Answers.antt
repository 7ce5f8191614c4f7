use Rattle.std.proofs.Common.{sym, ◌∙◌}
use Rattle.pytoken.proofs.values.LiteralLemmas.{mark_on}
use Rattle.pytoken.proofs.values.strings.is_marked.Goals as goal

pub loop-c-preserved : goal.loop-c-preserved
loop-c-preserved c =
    mark_on c.args.small c.args.capital c.in-Some.c c.loop-c.left c.bump.new.self (sym c.bump.ensures.first ∙ c.in-Some.is)
    (sym c.if-is_quote.ensures) (sym c.if-is_either.ensures) c.bump.ensures.rest ∙ c.loop-c.invariant
