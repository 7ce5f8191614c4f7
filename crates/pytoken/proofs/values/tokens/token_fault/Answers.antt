use Rattle.std.proofs.Common.{◌≡◌, sym, ap, subst, ◌∙◌, Option}
use Rattle.std.specs.Prelude.{IfOk}
use Rattle.std.specs.Str.{chars}
use Rattle.pytree_node.specs.declared.profiles.Extent.{Extent}
use Rattle.pytoken.specs.declared.faults.TokenError.{TokenError}
use Rattle.pytoken.specs.Terminals.{fault_of}
use Rattle.pytoken.proofs.SingleLemmas.{of_single, of_formatted, plain_formatted}
use Rattle.pytoken.proofs.values.tokens.token_fault.Goals as goal

pub returns-then-not-is_fstring : goal.returns-then-not-is_fstring
returns-then-not-is_fstring c =
    subst (λ (f : Option TokenError). IfOk c.single_fault.result (λ fault. fault ≡ f))
    (sym (of_single c.args.extent c.args.kind (chars c.args.text.now) (sym c.if-not-is_fstring.ensures))) c.single_fault.ensures

pub returns-in-Plain : goal.returns-in-Plain
returns-in-Plain c =
    let t = chars c.args.text.now in
    sym (ap (λ (x : Extent). fault_of x c.args.kind t) c.in-Plain.is ∙ plain_formatted c.args.kind t (sym c.if-not-is_fstring.ensures))

pub returns-in-Whole : goal.returns-in-Whole
returns-in-Whole c =
    let t = chars c.args.text.now in
    subst (λ (f : Option TokenError). IfOk c.formatted_fault.result (λ fault. fault ≡ f))
    (sym (ap (λ (x : Extent). fault_of x c.args.kind t) c.in-Whole.is ∙ of_formatted c.args.kind t (sym c.if-not-is_fstring.ensures)))
    c.formatted_fault.ensures
