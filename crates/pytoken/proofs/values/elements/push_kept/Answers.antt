use Rattle.std.proofs.Common.{List, ap, subst, sym}
use Rattle.std.specs.Prelude.{OnOk, option_map}
use Rattle.pyfstring.specs.Parts.{text_of}
use Rattle.pytoken.specs.FormattedStrings.{Element, kept_elements}
use Rattle.pytoken.specs.Inner.Pushing.{element_of, Grows}
use Rattle.pytoken.proofs.values.PushLemmas.{grows_none}
use Rattle.pytoken.proofs.values.elements.push_kept.Goals as goal

pub returns-in-Some : goal.returns-in-Some
returns-in-Some c =
    subst (λ (es : List Element). OnOk c.push_text.result (Grows element_of c.args.out.now.items c.push_text.new.out.items es))
    (sym (ap (λ k. kept_elements (option_map text_of k)) c.in-Some.is)) c.push_text.ensures

pub returns-in-None : goal.returns-in-None
returns-in-None c =
    subst (λ (es : List Element). Grows element_of c.args.out.now.items c.args.out.now.items es)
    (sym (ap (λ k. kept_elements (option_map text_of k)) c.in-None.is)) (grows_none element_of c.args.out.now.items)
