use Rattle.std.proofs.Common.{List, Some, ap, ◌∙◌}
use Rattle.std.specs.Prelude.{option_map}
use Rattle.pyfstring.specs.Parts.{FieldParts, SpecPart, spec_parts}
use Rattle.pyfstring.specs.Cutting.{spec_pieces_at, body_field_at}
use Rattle.pyfstring.specs.Inner.Fronts.{front_of}
use Rattle.pyfstring.proofs.Faults.{passed_on, told}
use Rattle.pyfstring.proofs.PieceSteps.{field_no_front, field_no_spec, field_no_closing, field_given, with_is}
use Rattle.pyfstring.proofs.scanner.Scanner.field.Goals as goal

pub returns-in_err-front-clause-malformed : goal.returns-in_err-front-clause-malformed
unfolding body_field_at
returns-in_err-front-clause-malformed c = passed_on c.from_residual.result c.in_err-front.field-0.0 c.from_residual.ensures.1
    (field_no_front (spec_pieces_at c.args.manner) c.args.manner.is_nested c.args.self.now) c.in_err-front.ensures.malformed

pub returns-in_err-spec-clause-malformed : goal.returns-in_err-spec-clause-malformed
unfolding body_field_at
returns-in_err-spec-clause-malformed c = passed_on c.from_residual-in_err-spec.result c.in_err-spec.field-0.0
    c.from_residual-in_err-spec.ensures.1 (field_no_spec (spec_pieces_at c.args.manner) c.args.manner.is_nested c.args.self.now
    (front_of c.in_ok-front.front) c.front.new.self c.in_ok-front.ensures.ok) c.in_err-spec.ensures.malformed

pub returns-in_err-close-clause-malformed : goal.returns-in_err-close-clause-malformed
unfolding body_field_at
returns-in_err-close-clause-malformed c =
    told c.from_residual-in_err-close.result (field_no_closing (spec_pieces_at c.args.manner) c.args.manner.is_nested c.args.self.now
    (front_of c.in_ok-front.front) c.front.new.self (option_map spec_parts c.in_ok-spec.spec) c.spec.new.self c.in_ok-front.ensures.ok
    c.in_ok-spec.ensures.ok c.in_err-close.ensures.malformed)

pub returns-clause-ok : goal.returns-clause-ok
unfolding body_field_at
returns-clause-ok c =
    field_given (spec_pieces_at c.args.manner) c.args.manner.is_nested c.args.self.now (front_of c.in_ok-front.front) c.front.new.self
    (option_map spec_parts c.in_ok-spec.spec) c.spec.new.self c.close.new.self c.in_ok-front.ensures.ok c.in_ok-spec.ensures.ok
    c.in_ok-close.ensures.ok
    ∙ ap (λ (f : FieldParts (List SpecPart)). Some (f, c.close.new.self)) (with_is c.in_ok-front.front c.in_ok-spec.spec c.with.result
    spec_parts c.with.ensures)
