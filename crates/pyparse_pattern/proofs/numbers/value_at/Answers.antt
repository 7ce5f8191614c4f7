use Rattle.std.proofs.Common.{◌∙◌, ap, sym, Some}
use Rattle.pytree_node.specs.Values.{Int}
use Rattle.pytoken.specs.Terminals.{Number}
use Rattle.pytoken.specs.TerminalOf.{terminal}
use Rattle.pyparse_pattern.proofs.NumberSteps.{stands_here}
use Rattle.pyparse_pattern.proofs.numbers.value_at.Goals as goal

pub returns-in_ok-new-in-Some-Whole : goal.returns-in_ok-new-in-Some-Whole
returns-in_ok-new-in-Some-Whole c = stands_here c.args.tokens.now c.args.at _ c.in-Some-Whole.ensures.within (c.in-Some-Whole.ensures.is
    ∙ ap (λ t. Some (terminal t)) c.in-Some-Whole.field-0-is
    ∙ ap (λ n. Some (Number (Int n))) (sym (c.in_ok-new-in-Some-Whole.ensures.value ∙ c.from.ensures)))

pub returns-in_ok-value-in-Some-Number : goal.returns-in_ok-value-in-Some-Number
returns-in_ok-value-in-Some-Number c = stands_here c.args.tokens.now c.args.at _ c.in-Some-Number.ensures.within
    (c.in-Some-Number.ensures.is ∙ ap (λ t. Some (terminal t)) c.in-Some-Number.field-0-is
    ∙ ap (λ v. Some (Number v)) (sym c.in_ok-value-in-Some-Number.ensures))
