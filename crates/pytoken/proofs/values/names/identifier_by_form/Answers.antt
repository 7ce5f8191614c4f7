use Rattle.std.proofs.Common.{sym, subst, ◌∙◌}
use Rattle.std.specs.Prelude.{IfOk, ◌≡◌}
use Rattle.std.specs.Str.{chars}
use Rattle.std.proofs.lemmas.Str.{chars_from_encodes}
use Rattle.unicode_normalization.specs.Forms.{nfkc}
use Rattle.pytoken.proofs.values.names.identifier_by_form.Goals as goal

pub returns : goal.returns
returns c =
    let spelled = chars_from_encodes (nfkc (chars c.args.text.now)) c.as_str.result.now c.as_str.utf8
    (sym (c.as_str.ensures.value ∙ c.in_ok-form.ensures)) in
    subst (λ t. IfOk c.new.result (λ name. name ≡ t)) (sym spelled) c.new.ensures.value
