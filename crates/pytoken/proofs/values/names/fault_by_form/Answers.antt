use Rattle.std.proofs.Common.{◌≡◌, sym, ap, subst, ◌∙◌, Option}
use Rattle.std.specs.Prelude.{IfOk}
use Rattle.std.specs.Str.{chars}
use Rattle.std.proofs.lemmas.Str.{chars_from_encodes}
use Rattle.unicode_normalization.specs.Forms.{nfkc}
use Rattle.pytoken.specs.declared.faults.TokenError.{TokenError}
use Rattle.pytoken.specs.NameValues.{form_fault}
use Rattle.pytoken.proofs.values.NameLemmas.{told, name_own}
use Rattle.pytoken.proofs.values.names.fault_by_form.Goals as goal
use Rattle.pytoken.proofs.Words.{by_form}

pub returns-then-own : goal.returns-then-own
returns-then-own c =
    let own = told c.in_ok-own.own (chars c.args.text.now) c.in_ok-own.ensures.answer in
    sym (name_own (chars c.args.text.now) (sym own ∙ c.if-own.true))

pub returns : goal.returns
returns c =
    let own = told c.in_ok-own.own (chars c.args.text.now) c.in_ok-own.ensures.answer in
    let spelled = chars_from_encodes (nfkc (chars c.args.text.now)) c.as_str.result.now c.as_str.utf8
    (sym (c.as_str.ensures.value ∙ c.in_ok-form.ensures)) in
    subst (λ (f : Option TokenError). IfOk c.form_fault.result (λ fault. fault ≡ f))
    (ap form_fault (sym spelled) ∙ sym (by_form (chars c.args.text.now) (sym own ∙ c.if-own.false))) c.form_fault.ensures
