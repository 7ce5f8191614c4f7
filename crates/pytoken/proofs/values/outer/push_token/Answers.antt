use Rattle.std.proofs.Common.{◌≡◌, true, None, List, Option, is_some, sym, subst, ◌∙◌}
use Rattle.std.specs.Prelude.{IfErr, OnOk}
use Rattle.std.specs.Str.{chars}
use Rattle.pytoken.specs.declared.faults.TokenError.{TokenError}
use Rattle.pytoken.specs.declared.values.terminals.TerminalFault.{TerminalFault}
use Rattle.pytoken.specs.Terminals.{Terminal, nested_expression, field_fault}
use Rattle.pytoken.specs.TerminalOf.{terminal, Tells}
use Rattle.pytoken.specs.Inner.Pushing.{Grows, TellsMalformed}
use Rattle.pytoken.proofs.SingleLemmas.{one_terminal, formatted_terminals}
use Rattle.pytoken.proofs.values.FormattedLemmas.{field_single, field_formatted}
use Rattle.pytoken.proofs.values.Faulting.{around}
use Rattle.pytoken.proofs.values.outer.push_token.Goals as goal

-- where it is no f-string

pub returns-then-not-is_fstring-clause-terminals : goal.returns-then-not-is_fstring-clause-terminals
returns-then-not-is_fstring-clause-terminals c =
    subst (λ (ts : List Terminal). OnOk c.push_single.result (Grows terminal c.args.out.now.items c.push_single.new.out.items ts))
    (sym (one_terminal true nested_expression c.args.kind (chars c.args.text.now) (sym c.if-not-is_fstring.ensures)))
    c.push_single.ensures.terminals

pub returns-then-not-is_fstring-clause-sound : goal.returns-then-not-is_fstring-clause-sound
returns-then-not-is_fstring-clause-sound c =
    subst (λ (f : Option TokenError). OnOk c.push_single.result (f ≡ None))
    (sym (field_single c.args.kind (chars c.args.text.now) (sym c.if-is_bulky.ensures) (sym c.if-not-is_fstring.ensures)))
    c.push_single.ensures.sound

pub returns-then-not-is_fstring-clause-refused : goal.returns-then-not-is_fstring-clause-refused
returns-then-not-is_fstring-clause-refused c =
    subst (λ (f : Option TokenError). IfErr c.push_single.result (TellsMalformed (is_some f)))
    (sym (field_single c.args.kind (chars c.args.text.now) (sym c.if-is_bulky.ensures) (sym c.if-not-is_fstring.ensures)))
    c.push_single.ensures.refused

-- where it is one

pub returns-in-Ok-clause-terminals : goal.returns-in-Ok-clause-terminals
returns-in-Ok-clause-terminals c =
    subst (λ (ts : List Terminal). Grows terminal c.args.out.now.items c.push_nested.new.out.items ts)
    (sym (formatted_terminals true nested_expression c.args.kind (chars c.args.text.now) (sym c.if-not-is_fstring.ensures)))
    c.in-Ok.ensures.terminals

pub returns-in-Ok-clause-sound : goal.returns-in-Ok-clause-sound
returns-in-Ok-clause-sound c =
    field_formatted c.args.kind (chars c.args.text.now) (sym c.if-is_bulky.ensures) (sym c.if-not-is_fstring.ensures)
    ∙ c.in-Ok.ensures.sound

pub returns-in-Err-clause-refused : goal.returns-in-Err-clause-refused
returns-in-Err-clause-refused c =
    let fault = field_fault c.args.kind (chars c.args.text.now) in
    let is = field_formatted c.args.kind (chars c.args.text.now) (sym c.if-is_bulky.ensures) (sym c.if-not-is_fstring.ensures) in
    subst (λ (e : TerminalFault). TellsMalformed (is_some fault) e) (sym c.as_malformed.ensures)
    (around fault c.in-Err.fault (subst (λ (f : Option TokenError). Tells f c.in-Err.fault) (sym is) c.in-Err.ensures.refused))
