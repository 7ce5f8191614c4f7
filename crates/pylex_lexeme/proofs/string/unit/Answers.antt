use Rattle.std.proofs.Common.{sym, ◌∙◌, ap, drop, ℕ}
use Rattle.pylex_lexeme.proofs.Strings.Triples.{unit_plain, unit_end, unit_two}
use Rattle.pylex_lexeme.proofs.string.unit.Goals as goal

pub returns-then-not-has_next : goal.returns-then-not-has_next
returns-then-not-has_next c = c.bump_count.ensures
    ∙ ap (λ (n : ℕ). drop n c.args.text.now) (sym (unit_plain c.args.text.now (sym c.if-not-has_next.ensures)))

pub returns-then-has_line_end : goal.returns-then-has_line_end
returns-then-has_line_end c = c.bump_count-then-has_line_end.ensures
    ∙ ap (λ (n : ℕ). drop n c.args.text.now)
    (sym (unit_end c.args.text.now (sym c.if-not-has_next.ensures) (sym c.if-has_line_end.ensures)))

pub returns : goal.returns
returns c = c.bump_count-2.ensures
    ∙ ap (λ (n : ℕ). drop n c.args.text.now)
    (sym (unit_two c.args.text.now (sym c.if-not-has_next.ensures) (sym c.if-has_line_end.ensures)))
