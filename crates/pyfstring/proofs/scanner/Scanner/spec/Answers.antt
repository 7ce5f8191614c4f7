use Rattle.std.proofs.Common.{ℕ, List, Some, None, sym, ap, ◌∙◌}
use Rattle.pyfstring.specs.Parts.{spec_parts}
use Rattle.pyfstring.specs.Cutting.{spec_pieces_at}
use Rattle.pyfstring.proofs.Faults.{passed_on}
use Rattle.pyfstring.proofs.FieldSteps.{eaten_some, eaten_none}
use Rattle.pyfstring.proofs.PieceSteps.{spec_absent, spec_fails, spec_given}
use Rattle.pyfstring.proofs.scanner.Scanner.spec.Goals as goal

pub returns-then-not-eat-clause-ok : goal.returns-then-not-eat-clause-ok
returns-then-not-eat-clause-ok c =
    let found = sym c.eat.ensures.found ∙ c.if-not-eat.true in
    spec_absent (spec_pieces_at c.args.manner) c.args.self.now found
    ∙ ap (λ (r : List ℕ). Some (None, r)) (sym (c.eat.ensures.rest ∙ eaten_none 58 c.args.self.now found))

pub returns-in_err-pieces-clause-malformed : goal.returns-in_err-pieces-clause-malformed
returns-in_err-pieces-clause-malformed c =
    let found = sym c.eat.ensures.found ∙ c.if-not-eat.false in
    let here = c.eat.ensures.rest ∙ eaten_some 58 c.args.self.now found in
    passed_on c.from_residual.result c.in_err-pieces.field-0.0 c.from_residual.ensures.1
    (λ e. spec_fails (spec_pieces_at c.args.manner) c.args.self.now found (ap (spec_pieces_at c.args.manner) (sym here) ∙ e))
    c.in_err-pieces.ensures.malformed

pub returns-clause-ok : goal.returns-clause-ok
returns-clause-ok c =
    let found = sym c.eat.ensures.found ∙ c.if-not-eat.false in
    let here = c.eat.ensures.rest ∙ eaten_some 58 c.args.self.now found in
    spec_given (spec_pieces_at c.args.manner) c.args.self.now (spec_parts c.in_ok-pieces.pieces) c.spec_pieces.new.self found
    (ap (spec_pieces_at c.args.manner) (sym here) ∙ c.in_ok-pieces.ensures.ok)
