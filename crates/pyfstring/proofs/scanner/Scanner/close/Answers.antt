use Rattle.std.proofs.Common.{Some, sym, ap, ◌∙◌}
use Rattle.pyfstring.proofs.FieldSteps.{eaten_some, closing_some, closing_none}
use Rattle.pyfstring.proofs.scanner.Scanner.close.Goals as goal

pub returns-then-not-eat-clause-malformed : goal.returns-then-not-eat-clause-malformed
returns-then-not-eat-clause-malformed c = closing_none c.args.self.now (sym c.eat.ensures.found ∙ c.if-not-eat.true)

pub returns-clause-ok : goal.returns-clause-ok
returns-clause-ok c =
    let found = sym c.eat.ensures.found ∙ c.if-not-eat.false in
    closing_some c.args.self.now found ∙ ap (λ r. Some r) (sym (c.eat.ensures.rest ∙ eaten_some 125 c.args.self.now found))
