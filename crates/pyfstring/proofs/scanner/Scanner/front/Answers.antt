use Rattle.std.proofs.Common.{◌≡◌, ℕ, List, Some, None, sym, ap, ◌∙◌, subst}
use Rattle.std.specs.Prelude.{option_map}
use Rattle.std.specs.Str.{chars}
use Rattle.pyfstring.specs.Parts.{text_of}
use Rattle.pyfstring.specs.Cutting.{EndsWith, kept_at}
use Rattle.pyfstring.proofs.Faults.{passed_on, told}
use Rattle.pyfstring.proofs.Reading.{expression_reads}
use Rattle.pyfstring.proofs.FieldSteps.{front_no_expression, front_no_kept, front_no_conversion, front_given}
use Rattle.pyfstring.proofs.scanner.Scanner.front.Goals as goal

pub returns-in_err-text-clause-malformed : goal.returns-in_err-text-clause-malformed
returns-in_err-text-clause-malformed c = passed_on c.from_residual.result c.in_err-text.field-0.0 c.from_residual.ensures.1
    (front_no_expression c.args.is_nested c.args.self.now) c.in_err-text.ensures.malformed

pub kept-requires : goal.kept-requires
kept-requires c =
    let P : List ℕ → Type 0 = λ cs. EndsWith cs c.expression.new.self in
    let i = expression_reads.sound c.args.self.now (chars c.in_ok-text.text.now) c.expression.new.self c.in_ok-text.ensures.ok in
    subst P (sym c.again-start.ensures) (chars c.in_ok-text.text.now, i.whole)

pub returns-in_err-kept-clause-malformed : goal.returns-in_err-kept-clause-malformed
returns-in_err-kept-clause-malformed c =
    let none : kept_at c.args.is_nested c.args.self.now c.expression.new.self ≡ None =
    ap (λ (cs : List ℕ). kept_at c.args.is_nested cs c.expression.new.self) (sym c.again-start.ensures)
    ∙ c.in_err-kept.ensures.malformed in
    told c.from_residual-in_err-kept.result (front_no_kept c.args.is_nested c.args.self.now (chars c.in_ok-text.text.now)
    c.expression.new.self c.in_ok-text.ensures.ok none)

pub returns-in_err-given-clause-malformed : goal.returns-in_err-given-clause-malformed
returns-in_err-given-clause-malformed c =
    let kept : kept_at c.args.is_nested c.args.self.now c.expression.new.self ≡ Some (
      option_map text_of c.in_ok-kept.kept,
      c.kept.new.self,
    ) = ap (λ (cs : List ℕ). kept_at c.args.is_nested cs c.expression.new.self) (sym c.again-start.ensures)
    ∙ c.in_ok-kept.ensures.ok in
    told c.from_residual-in_err-given.result (front_no_conversion c.args.is_nested c.args.self.now (chars c.in_ok-text.text.now)
    c.expression.new.self (option_map text_of c.in_ok-kept.kept) c.kept.new.self c.in_ok-text.ensures.ok kept
    c.in_err-given.ensures.malformed)

pub returns-clause-ok : goal.returns-clause-ok
returns-clause-ok c =
    let kept : kept_at c.args.is_nested c.args.self.now c.expression.new.self ≡ Some (
      option_map text_of c.in_ok-kept.kept,
      c.kept.new.self,
    ) = ap (λ (cs : List ℕ). kept_at c.args.is_nested cs c.expression.new.self) (sym c.again-start.ensures)
    ∙ c.in_ok-kept.ensures.ok in
    front_given c.args.is_nested c.args.self.now (chars c.in_ok-text.text.now) c.expression.new.self (option_map text_of c.in_ok-kept.kept)
    c.kept.new.self c.in_ok-given.given c.conversion.new.self c.in_ok-text.ensures.ok kept c.in_ok-given.ensures.ok
