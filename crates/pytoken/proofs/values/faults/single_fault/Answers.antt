use Rattle.std.proofs.Common.{◌≡◌, ℕ, List, sym, ap, subst, ◌∙◌, Option}
use Rattle.std.specs.Prelude.{IfOk}
use Rattle.std.specs.Str.{chars}
use Rattle.std.proofs.lemmas.Str.{encodes-chars}
use Rattle.pytoken.specs.declared.faults.TokenError.{TokenError}
use Rattle.pytoken.specs.NumberValues.{number_fault}
use Rattle.pytoken.proofs.values.FaultLemmas.{of_name, of_number, of_string, of_comment, of_other}
use Rattle.pytoken.proofs.values.faults.single_fault.Goals as goal

pub returns-in-Name : goal.returns-in-Name
returns-in-Name c =
    subst (λ (f : Option TokenError). IfOk c.name_fault.result (λ fault. fault ≡ f))
    (of_name c.args.extent c.args.kind (chars c.args.text.now) c.in-Name.is)
    c.name_fault.ensures

pub returns-in-Number : goal.returns-in-Number
returns-in-Number c =
    subst (λ (f : Option TokenError). IfOk c.number_fault.result (λ fault. fault ≡ f))
    (ap (λ (t : List ℕ). number_fault c.args.extent t) (sym (encodes-chars c.args.text.now c.utf8.text))
    ∙ of_number c.args.extent c.args.kind (chars c.args.text.now) c.in-Number.is)
    c.number_fault.ensures

pub returns-in-String : goal.returns-in-String
returns-in-String c = c.string_fault.ensures ∙ of_string c.args.extent c.args.kind (chars c.args.text.now) c.in-String.is

pub returns-in-Comment : goal.returns-in-Comment
returns-in-Comment c = c.comment_fault.ensures ∙ of_comment c.args.extent c.args.kind (chars c.args.text.now) c.in-Comment.is

pub returns-in_default : goal.returns-in_default
returns-in_default c =
    of_other c.args.extent c.args.kind (chars c.args.text.now) c.in_default.not-Name c.in_default.not-Number c.in_default.not-String
    c.in_default.not-Comment
