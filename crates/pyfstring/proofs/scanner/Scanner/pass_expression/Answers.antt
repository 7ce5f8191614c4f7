use Rattle.std.proofs.Common.{◌≡◌, List, sym, ◌∙◌, ap}
use Rattle.pyfstring.specs.declared.expressions.Bracket.{Bracket}
use Rattle.pyfstring.specs.declared.expressions.Step.TheVariants.{Ends, Fails, Compares, Opens, Closes, Passes}
use Rattle.pyfstring.specs.Expressions.{step, following_expression}
use Rattle.pyfstring.proofs.Faults.{told}
use Rattle.pyfstring.proofs.Stepping.{literal_begins, scan_fails, scan_stops, step_shorter}
use Rattle.pyfstring.proofs.scanner.Scanner.pass_expression.Goals as goal

pub returns-in-Ends-clause-ok : goal.returns-in-Ends-clause-ok
unfolding following_expression
returns-in-Ends-clause-ok c =
    let s : step c.loop-opened.opened.items c.loop-opened.self ≡ Ends = ap (λ (bs : List Bracket). step bs c.loop-opened.self)
    (sym c.as_slice.ensures.value) ∙ sym c.step.ensures ∙ c.in-Ends.is in
    c.loop-opened.invariant ∙ scan_stops c.loop-opened.opened.items c.loop-opened.self s

pub returns-in-Fails-clause-malformed : goal.returns-in-Fails-clause-malformed
unfolding following_expression
returns-in-Fails-clause-malformed c =
    let s : step c.loop-opened.opened.items c.loop-opened.self ≡ Fails = ap (λ (bs : List Bracket). step bs c.loop-opened.self)
    (sym c.as_slice.ensures.value) ∙ sym c.step.ensures ∙ c.in-Fails.is in
    c.loop-opened.invariant ∙ scan_fails c.loop-opened.opened.items c.loop-opened.self s

pub pass_literal-requires : goal.pass_literal-requires
pass_literal-requires c =
    literal_begins c.as_slice.result.now c.loop-opened.self (sym c.step.ensures ∙ c.in-Literal.is)

pub returns-in_err-pass_literal-in-Literal-clause-malformed : goal.returns-in_err-pass_literal-in-Literal-clause-malformed
unfolding following_expression
returns-in_err-pass_literal-in-Literal-clause-malformed c = told c.from_residual.result (c.loop-opened.invariant
    ∙ c.in_err-pass_literal-in-Literal.ensures.malformed.none c.loop-opened.opened.items)

pub loop-opened-smaller-in-Compares : goal.loop-opened-smaller-in-Compares
loop-opened-smaller-in-Compares c =
    rw c.advance_by.ensures (step_shorter c.as_slice.result.now 1 c.loop-opened.self Compares (sym c.step.ensures
    ∙ c.in-Compares.is) (λ e. cc))

pub loop-opened-smaller-in-Opens : goal.loop-opened-smaller-in-Opens
loop-opened-smaller-in-Opens c = rw c.advance.ensures (step_shorter c.as_slice.result.now 0 c.loop-opened.self (Opens c.in-Opens.bracket)
    (sym c.step.ensures ∙ c.in-Opens.is) (λ e. cc))

pub loop-opened-smaller-in-Closes : goal.loop-opened-smaller-in-Closes
loop-opened-smaller-in-Closes c =
    rw c.advance-in-Closes.ensures (step_shorter c.as_slice.result.now 0 c.loop-opened.self Closes (sym c.step.ensures
    ∙ c.in-Closes.is) (λ e. cc))

pub loop-opened-smaller : goal.loop-opened-smaller
loop-opened-smaller c = rw c.advance-in-Passes.ensures (step_shorter c.as_slice.result.now 0 c.loop-opened.self Passes (sym c.step.ensures
    ∙ c.in-Passes.is) (λ e. cc))
