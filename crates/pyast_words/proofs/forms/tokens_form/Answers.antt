use Rattle.std.proofs.lemmas.Result.{IfOk-weaker}
use Rattle.pyast_words.proofs.WordsLemmas.{one_more}
use Rattle.pyast_words.proofs.forms.tokens_form.Goals as goal

pub returns : goal.returns
returns c =
    let exact = one_more c.new_form.ensures c.exact_form.ensures c.in_ok-arg.ensures in
    let count = one_more exact c.number_form.ensures c.in_ok-arg-2.ensures in
    let resume = one_more count c.resume_form.ensures c.in_ok-arg-3.ensures in
    let name = one_more resume c.stdin_name_form.ensures c.in_ok-arg-4.ensures in
    IfOk-weaker c.arg-5.result _ _ (λ form added. one_more name c.file_form.ensures added) c.arg-5.ensures
