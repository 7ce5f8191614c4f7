use Rattle.std.proofs.Common.{◌≡◌, List, [], ◌∷◌, refl, sym, ap, subst, ◌∙◌, Some}
use Rattle.std.specs.Str.{chars}
use Rattle.pytoken.specs.Terminals.{Terminal, single_fault}
use Rattle.pyparse_tokens.specs.Inner.OpenLines.{Pushes}
use Rattle.pyparse_tokens.proofs.TerminalLemmas.{unquoted_fault, is_single}
use Rattle.pyparse_tokens.proofs.open_line.OpenLine.push_token.Goals as goal

pub returns-in_default : goal.returns-in_default
returns-in_default c =
    let text = chars c.args.token.text.now in
    let told : single_fault c.args.extent c.args.token.kind text ≡ Some c.in-Err-Token.error =
    rw c.in-Err-Token.field-0-is at c.in-Err-Token.ensures.refused in
    record {
      fault = sym (unquoted_fault c.args.extent c.args.token.kind text c.in_default.not-String ∙ told);
      pushes = λ none. absurd cc;
      same = λ e is. refl;
    }

pub returns-in_ok-push-in-Ok-clause-fault : goal.returns-in_ok-push-in-Ok-clause-fault
returns-in_ok-push-in-Ok-clause-fault c =
    sym (is_single c.args.extent c.args.token.kind (chars c.args.token.text.now) c.in-Ok.ensures.sound).sound

pub returns-in_ok-push-in-Ok-clause-pushes : goal.returns-in_ok-push-in-Ok-clause-pushes
returns-in_ok-push-in-Ok-clause-pushes c =
    let text = chars c.args.token.text.now in
    let single = is_single c.args.extent c.args.token.kind text c.in-Ok.ensures.sound in
    λ _.
    subst (λ (ts : List Terminal). Pushes c.args.token.start text ts c.args.self.now c.push.new.self)
    (ap (λ (x : Terminal). x ∷ []) c.in-Ok.ensures.terminal ∙ sym single.one) c.in_ok-push-in-Ok.ensures
