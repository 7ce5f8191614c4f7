use Rattle.std.proofs.Common.{sym, ap, ◌∙◌, Option, is_some}
use Rattle.std.specs.Str.{chars}
use Rattle.pytoken.specs.declared.keywords.Keyword.{Keyword}
use Rattle.pytoken.proofs.values.NameLemmas.{told, form_of_keyword, form_of_no_name, form_own, form_other}
use Rattle.pytoken.proofs.values.names.form_fault.Goals as goal

pub returns-then-is_some : goal.returns-then-is_some
returns-then-is_some c =
    let word = ap (λ (o : Option Keyword). is_some o) (sym c.of.ensures) ∙ sym c.if-is_some.ensures in
    sym (form_of_keyword (chars c.args.form.now) word)

pub returns-then-not-is_identifier : goal.returns-then-not-is_identifier
returns-then-not-is_identifier c =
    let word = ap (λ (o : Option Keyword). is_some o) (sym c.of.ensures) ∙ sym c.if-is_some.ensures in
    sym (form_of_no_name (chars c.args.form.now) word (sym c.if-not-is_identifier.ensures))

pub returns-then-own : goal.returns-then-own
returns-then-own c =
    let word = ap (λ (o : Option Keyword). is_some o) (sym c.of.ensures) ∙ sym c.if-is_some.ensures in
    let own = told c.in_ok-own.own (chars c.args.form.now) c.in_ok-own.ensures.answer in
    sym (form_own (chars c.args.form.now) word (sym c.if-not-is_identifier.ensures) (sym own ∙ c.if-own.true))

pub returns : goal.returns
returns c =
    let word = ap (λ (o : Option Keyword). is_some o) (sym c.of.ensures) ∙ sym c.if-is_some.ensures in
    let own = told c.in_ok-own.own (chars c.args.form.now) c.in_ok-own.ensures.answer in
    sym (form_other (chars c.args.form.now) word (sym c.if-not-is_identifier.ensures) (sym own ∙ c.if-own.false))
