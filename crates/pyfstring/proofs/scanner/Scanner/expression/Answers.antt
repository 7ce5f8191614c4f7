use Rattle.std.proofs.Common.{ℕ, List, Some, sym, ap, ◌∙◌, subst}
use Rattle.std.specs.List.{list_all}
use Rattle.pyfstring.specs.Pieces.{is_blank}
use Rattle.pyfstring.specs.Cutting.{EndsWith, before}
use Rattle.pyfstring.proofs.Faults.{passed_on}
use Rattle.pyfstring.proofs.Scanning.{expression_ends}
use Rattle.pyfstring.proofs.FieldSteps.{expression_fails, expression_blank, expression_given}
use Rattle.pyfstring.proofs.scanner.Scanner.expression.Goals as goal

pub returns-in_err-pass_expression-clause-malformed : goal.returns-in_err-pass_expression-clause-malformed
returns-in_err-pass_expression-clause-malformed c = passed_on c.from_residual.result c.in_err-pass_expression.field-0.0
    c.from_residual.ensures.1 (expression_fails c.args.self.now) c.in_err-pass_expression.ensures.malformed

pub until-text-requires : goal.until-text-requires
until-text-requires c =
    let P : List ℕ → Type 0 = λ cs. EndsWith cs c.pass_expression.new.self in
    subst P (sym c.again-start.ensures) (expression_ends c.args.self.now c.pass_expression.new.self c.in_ok-pass_expression.ensures.ok)

pub returns-then-are_blanks-clause-malformed : goal.returns-then-are_blanks-clause-malformed
returns-then-are_blanks-clause-malformed c =
    let text = c.until-text.ensures ∙ ap (λ (cs : List ℕ). before cs c.pass_expression.new.self) c.again-start.ensures in
    let blank = ap (list_all is_blank) (sym text) ∙ sym c.are_blanks.ensures ∙ c.if-are_blanks.true in
    expression_blank c.args.self.now c.pass_expression.new.self c.in_ok-pass_expression.ensures.ok blank

pub returns-clause-ok : goal.returns-clause-ok
returns-clause-ok c =
    let text = c.until-text.ensures ∙ ap (λ (cs : List ℕ). before cs c.pass_expression.new.self) c.again-start.ensures in
    let some = ap (list_all is_blank) (sym text) ∙ sym c.are_blanks.ensures ∙ c.if-are_blanks.false in
    expression_given c.args.self.now c.pass_expression.new.self c.in_ok-pass_expression.ensures.ok some
    ∙ ap (λ (t : List ℕ). Some (t, c.pass_expression.new.self)) (sym text)
