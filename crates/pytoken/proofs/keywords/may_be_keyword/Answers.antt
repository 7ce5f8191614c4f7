use Rattle.std.proofs.Common.{sym, ap, ◌∙◌, ℕ, List, slice_get}
use Rattle.pytoken.proofs.KeywordLemmas.{unled, empty_unled}
use Rattle.pytoken.proofs.keywords.may_be_keyword.Goals as goal

pub returns-in-Some : goal.returns-in-Some
returns-in-Some c = λ out.
    let here = ap (λ (t : List ℕ). slice_get t 0) (sym c.as_bytes.ensures.value) ∙ sym c.in-Some.ensures.value in
    unled c.args.text.now c.in-Some.first.now here (sym c.leads.ensures ∙ out)

pub returns-in-None : goal.returns-in-None
returns-in-None c = λ _.
    empty_unled c.args.text.now (ap (λ (t : List ℕ). slice_get t 0) (sym c.as_bytes.ensures.value) ∙ sym c.in-None.ensures.value)
