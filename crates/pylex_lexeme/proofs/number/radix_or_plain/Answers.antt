use Rattle.pylex_lexeme.proofs.Fronts.Taking.{number_radix, number_plain}
use Rattle.pylex_lexeme.proofs.number.radix_or_plain.Goals as goal

pub returns-then-radix : goal.returns-then-radix
returns-then-radix c = number_radix c.args.text.now _ (c.if-radix.ensures)

pub returns : goal.returns
returns c = number_plain c.args.text.now _ _ (c.if-radix.ensures) c.plain.ensures
