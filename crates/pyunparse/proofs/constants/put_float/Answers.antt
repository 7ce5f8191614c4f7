use Rattle.std.proofs.Common.{◌≡◌, ◌∙◌, ◌++◌, ap, false}
use Rattle.std.proofs.lemmas.Result.{IfOk-equal}
use Rattle.pynumber.specs.FloatTexts.{float_source}
use Rattle.pylex_listing.specs.declared.kind.Kind.TheVariants as kinds
use Rattle.pytoken.proofs.Callers.Numerals.{float_numeral}
use Rattle.pyunparse_text.specs.Folds.{anywhere}
use Rattle.pyunparse.proofs.Texts.NumberLemmas.{ascii_bytes}
use Rattle.pyunparse.proofs.constants.put_float.Goals as goal

pub returns : goal.returns
returns g c =
    let t : c.as_str.result.now ≡ float_source c.args.float = c.as_str.ensures.value ∙ c.in_ok-push_source.ensures.text
    ∙ ap (λ z. z ++ float_source c.args.float) c.new-text.ensures.bytes in
    let numeral = float_numeral c.args.float c.in_ok-push_source.ensures.double in
    IfOk-equal _ _ _ _ c.put.ensures
    (ap (λ t. g.W.Writer.after c.args.out.now (anywhere (record { kind = kinds.Number; text = t; before = false; following = false })))
    (ascii_bytes _ _ numeral.ascii t))
