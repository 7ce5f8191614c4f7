use Rattle.std.proofs.Common.{◌≡◌, false, None, List, [], ◌∷◌, Option, sym, ap, subst, ◌∙◌}
use Rattle.std.specs.Prelude.{IfErr, OnOk}
use Rattle.std.specs.Str.{chars}
use Rattle.pytree_node.specs.declared.profiles.Extent.{Extent}
use Rattle.pytoken.specs.declared.faults.TokenError.{TokenError}
use Rattle.pytoken.specs.Terminals.{Terminal, expression, fault_of}
use Rattle.pytoken.specs.TerminalOf.{terminal, Tells}
use Rattle.pytoken.specs.Inner.Pushing.{Grows}
use Rattle.pytoken.proofs.SingleLemmas.{of_single, one_terminal, of_formatted, formatted_terminals, plain_formatted}
use Rattle.pytoken.proofs.values.Faulting.{told_on, on_ok}
use Rattle.pytoken.proofs.values.tokens.push_terminals.Goals as goal

-- where it is no f-string

pub returns-in_err-terminal_of-clause-refused : goal.returns-in_err-terminal_of-clause-refused
returns-in_err-terminal_of-clause-refused c =
    let is = of_single c.args.extent c.args.kind (chars c.args.text.now) (sym c.if-not-is_fstring.ensures) in
    let e = c.in_err-terminal_of.field-0.0 in
    told_on (fault_of c.args.extent c.args.kind (chars c.args.text.now)) c.from_residual.result e c.from_residual.ensures.1
    (subst (λ (f : Option TokenError). Tells f e) (sym is) c.in_err-terminal_of.ensures.refused)

pub returns-then-not-is_fstring-clause-terminals : goal.returns-then-not-is_fstring-clause-terminals
returns-then-not-is_fstring-clause-terminals c =
    subst (λ (ts : List Terminal). OnOk c.push.result (Grows terminal c.args.out.now.items c.push.new.out.items ts))
    (ap (λ (x : Terminal). x ∷ []) c.in_ok-terminal_of.ensures.terminal
    ∙ sym (one_terminal false expression c.args.kind (chars c.args.text.now) (sym c.if-not-is_fstring.ensures))) c.push.ensures.terminals

pub returns-then-not-is_fstring-clause-sound : goal.returns-then-not-is_fstring-clause-sound
returns-then-not-is_fstring-clause-sound c =
    on_ok c.push.result
    (of_single c.args.extent c.args.kind (chars c.args.text.now) (sym c.if-not-is_fstring.ensures) ∙ c.in_ok-terminal_of.ensures.sound)

-- where it is one

pub returns-in-Plain-clause-refused : goal.returns-in-Plain-clause-refused
returns-in-Plain-clause-refused c =
    let t = chars c.args.text.now in
    ap (λ (x : Extent). fault_of x c.args.kind t) c.in-Plain.is ∙ plain_formatted c.args.kind t (sym c.if-not-is_fstring.ensures)

pub returns-in-Whole-clause-terminals : goal.returns-in-Whole-clause-terminals
returns-in-Whole-clause-terminals c =
    subst (λ (ts : List Terminal). OnOk c.push_formatted.result (Grows terminal c.args.out.now.items c.push_formatted.new.out.items ts))
    (sym (formatted_terminals false expression c.args.kind (chars c.args.text.now) (sym c.if-not-is_fstring.ensures)))
    c.push_formatted.ensures.terminals

pub returns-in-Whole-clause-sound : goal.returns-in-Whole-clause-sound
returns-in-Whole-clause-sound c =
    let t = chars c.args.text.now in
    subst (λ (f : Option TokenError). OnOk c.push_formatted.result (f ≡ None))
    (sym (ap (λ (x : Extent). fault_of x c.args.kind t) c.in-Whole.is ∙ of_formatted c.args.kind t (sym c.if-not-is_fstring.ensures)))
    c.push_formatted.ensures.sound

pub returns-in-Whole-clause-refused : goal.returns-in-Whole-clause-refused
returns-in-Whole-clause-refused c =
    let t = chars c.args.text.now in
    subst (λ (f : Option TokenError). IfErr c.push_formatted.result (Tells f))
    (sym (ap (λ (x : Extent). fault_of x c.args.kind t) c.in-Whole.is ∙ of_formatted c.args.kind t (sym c.if-not-is_fstring.ensures)))
    c.push_formatted.ensures.refused
