use Rattle.std.proofs.Common.{sym, ◌∙◌}
use Rattle.std.proofs.lemmas.Bool.{cond-true, cond-false}
use Rattle.pyfstring.proofs.Stepping.{step_end, step_is}
use Rattle.pyfstring.proofs.scanner.Scanner.step.Goals as goal

pub returns-in_default : goal.returns-in_default
returns-in_default c = sym (step_end c.args.opened.now c.args.self.now (sym c.peek.ensures ∙ c.in_default.is))

pub returns-then-is_quote : goal.returns-then-is_quote
returns-then-is_quote c = sym (step_is c.args.opened.now c.args.self.now c.in-Some.c (sym c.peek.ensures ∙ c.in-Some.is)
    ∙ cond-true _ _ _ (sym c.is_quote.ensures ∙ c.if-is_quote.true))

pub returns-then-is_refused : goal.returns-then-is_refused
returns-then-is_refused c = sym (step_is c.args.opened.now c.args.self.now c.in-Some.c (sym c.peek.ensures ∙ c.in-Some.is)
    ∙ cond-false _ _ _ (sym c.is_quote.ensures ∙ c.if-is_quote.false) ∙ cond-true _ _ _ (sym c.is_refused.ensures ∙ c.if-is_refused.true))

pub returns-then-has_comparison : goal.returns-then-has_comparison
returns-then-has_comparison c = sym (step_is c.args.opened.now c.args.self.now c.in-Some.c (sym c.peek.ensures ∙ c.in-Some.is)
    ∙ cond-false _ _ _ (sym c.is_quote.ensures ∙ c.if-is_quote.false) ∙ cond-false _ _ _ (sym c.is_refused.ensures ∙ c.if-is_refused.false)
    ∙ cond-true _ _ _ (sym c.has_comparison.ensures ∙ c.if-has_comparison.true))

pub returns-then-is_end : goal.returns-then-is_end
returns-then-is_end c = sym (step_is c.args.opened.now c.args.self.now c.in-Some.c (sym c.peek.ensures ∙ c.in-Some.is)
    ∙ cond-false _ _ _ (sym c.is_quote.ensures ∙ c.if-is_quote.false) ∙ cond-false _ _ _ (sym c.is_refused.ensures ∙ c.if-is_refused.false)
    ∙ cond-false _ _ _ (sym c.has_comparison.ensures ∙ c.if-has_comparison.false)
    ∙ cond-true _ _ _ (sym c.is_end.ensures ∙ c.if-is_end.true))

pub returns : goal.returns
returns c = c.bracket_step.ensures ∙ sym (step_is c.args.opened.now c.args.self.now c.in-Some.c (sym c.peek.ensures ∙ c.in-Some.is)
    ∙ cond-false _ _ _ (sym c.is_quote.ensures ∙ c.if-is_quote.false) ∙ cond-false _ _ _ (sym c.is_refused.ensures ∙ c.if-is_refused.false)
    ∙ cond-false _ _ _ (sym c.has_comparison.ensures ∙ c.if-has_comparison.false)
    ∙ cond-false _ _ _ (sym c.is_end.ensures ∙ c.if-is_end.false))
