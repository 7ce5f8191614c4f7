use Rattle.std.proofs.Common.{◌≡◌, ◌∙◌, ◌++◌, ap, false}
use Rattle.std.proofs.lemmas.Result.{IfOk-equal}
use Rattle.pynumber.specs.FloatTexts.{imaginary_source}
use Rattle.pylex_listing.specs.declared.kind.Kind.TheVariants as kinds
use Rattle.pytoken.proofs.Callers.Numerals.{imaginary_numeral}
use Rattle.pyunparse_text.specs.Folds.{anywhere}
use Rattle.pyunparse.proofs.Texts.NumberLemmas.{ascii_bytes}
use Rattle.pyunparse.proofs.constants.put_imaginary.Goals as goal

pub returns : goal.returns
returns g c =
    let t : c.as_str.result.now ≡ imaginary_source c.args.float = c.as_str.ensures.value ∙ c.in_ok-push_imaginary_source.ensures.text
    ∙ ap (λ z. z ++ imaginary_source c.args.float) c.new-text.ensures.bytes in
    let numeral = imaginary_numeral c.args.float c.in_ok-push_imaginary_source.ensures.double in
    IfOk-equal _ _ _ _ c.put.ensures
    (ap (λ t. g.W.Writer.after c.args.out.now (anywhere (record { kind = kinds.Number; text = t; before = false; following = false })))
    (ascii_bytes _ _ numeral.ascii t))
