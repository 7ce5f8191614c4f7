use Rattle.std.proofs.Common.{◌∙◌, subst, sym}
use Rattle.pyparse_nodes.specs.declared.stop.Stop.{Stop}
use Rattle.pyparse_line.specs.Lines.{Refused}
use Rattle.pygrammar.specs.Refusals.{terminals, no_match, no_form}
use Rattle.pyparse_block.proofs.Callers.FinishLemmas.{unread_high}
use Rattle.pyparse.proofs.progress.line_error.Goals as goal

pub returns-then-left_out : goal.returns-then-left_out
returns-then-left_out c profile inside x refused is =
    no_match (subst (λ (s : Stop). Refused s profile inside (terminals x)) c.in-NoForm.is refused) (sym is ∙ c.if-left_out.true)

pub returns-else-left_out : goal.returns-else-left_out
returns-else-left_out c profile inside x refused is =
    no_form (subst (λ (s : Stop). Refused s profile inside (terminals x)) c.in-NoForm.is refused) (sym is ∙ c.if-left_out.false)

pub returns-in-TooDeep : goal.returns-in-TooDeep
returns-in-TooDeep c profile inside x refused is =
    unread_high inside x (subst (λ (s : Stop). Refused s profile inside (terminals x)) c.in-TooDeep.is refused)
