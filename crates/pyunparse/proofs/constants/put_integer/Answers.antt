use Rattle.std.proofs.Common.{◌≡◌, ◌∙◌, ◌++◌, ap, arith, false}
use Rattle.std.proofs.lemmas.Result.{IfOk-equal}
use Rattle.pynumber.specs.Decimals.{decimal_text}
use Rattle.pynumber.proofs.Callers.Decimals.{decimal_text_ascii, decimal_text_is}
use Rattle.pylex_listing.specs.declared.kind.Kind.TheVariants as kinds
use Rattle.pyunparse_text.specs.Folds.{anywhere}
use Rattle.pyunparse.proofs.Texts.NumberLemmas.{ascii_bytes}
use Rattle.pyunparse.proofs.constants.put_integer.Goals as goal

pub returns-in-Some : goal.returns-in-Some
returns-in-Some g c =
    let t : c.format.result.now ≡ decimal_text c.args.number.now = c.format.ensures.text ∙ decimal_text_is c.in-Some.small (omega arith)
    ∙ ap decimal_text c.in-Some.ensures in
    IfOk-equal _ _ _ _ c.put.ensures
    (ap (λ t. g.W.Writer.after c.args.out.now (anywhere (record { kind = kinds.Number; text = t; before = false; following = false })))
    (ascii_bytes _ _ (decimal_text_ascii c.args.number.now) t))

pub returns : goal.returns
returns g c =
    let t : c.as_str.result.now ≡ decimal_text c.args.number.now = c.as_str.ensures.value ∙ c.in_ok-push_decimal.ensures
    ∙ ap (λ z. z ++ decimal_text c.args.number.now) c.new-text.ensures.bytes in
    IfOk-equal _ _ _ _ c.put-2.ensures
    (ap (λ t. g.W.Writer.after c.args.out.now (anywhere (record { kind = kinds.Number; text = t; before = false; following = false })))
    (ascii_bytes _ _ (decimal_text_ascii c.args.number.now) t))
