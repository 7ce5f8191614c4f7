use Rattle.std.proofs.Common.{ℕ, List, Some, false, ap, ◌∙◌}
use Rattle.std.specs.Prelude.{option_map}
use Rattle.pyfstring.specs.Parts.{FieldParts, text_of}
use Rattle.pyfstring.specs.Cutting.{text_at, inner_field_at}
use Rattle.pyfstring.specs.Inner.Fronts.{front_of}
use Rattle.pyfstring.proofs.Faults.{passed_on, told}
use Rattle.pyfstring.proofs.PieceSteps.{field_no_front, field_no_closing, field_given, with_is}
use Rattle.pyfstring.proofs.scanner.Scanner.inner_field.Goals as goal

pub returns-in_err-front-clause-malformed : goal.returns-in_err-front-clause-malformed
unfolding inner_field_at
returns-in_err-front-clause-malformed c = passed_on c.from_residual.result c.in_err-front.field-0.0 c.from_residual.ensures.1
    (field_no_front (text_at c.args.manner.is_raw false) c.args.manner.is_nested c.args.self.now) c.in_err-front.ensures.malformed

pub returns-in_err-close-clause-malformed : goal.returns-in_err-close-clause-malformed
unfolding inner_field_at
returns-in_err-close-clause-malformed c =
    told c.from_residual-in_err-close.result (field_no_closing (text_at c.args.manner.is_raw false) c.args.manner.is_nested c.args.self.now
    (front_of c.in_ok-front.front) c.front.new.self (option_map text_of c.inner_spec-spec.result) c.inner_spec-spec.new.self
    c.in_ok-front.ensures.ok c.inner_spec-spec.ensures c.in_err-close.ensures.malformed)

pub returns-clause-ok : goal.returns-clause-ok
unfolding inner_field_at
returns-clause-ok c =
    field_given (text_at c.args.manner.is_raw false) c.args.manner.is_nested c.args.self.now (front_of c.in_ok-front.front) c.front.new.self
    (option_map text_of c.inner_spec-spec.result) c.inner_spec-spec.new.self c.close.new.self c.in_ok-front.ensures.ok
    c.inner_spec-spec.ensures c.in_ok-close.ensures.ok
    ∙ ap (λ (f : FieldParts (List ℕ)). Some (f, c.close.new.self)) (with_is c.in_ok-front.front c.inner_spec-spec.result
    c.with.result text_of c.with.ensures)
