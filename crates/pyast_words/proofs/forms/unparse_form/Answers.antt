use Rattle.std.proofs.lemmas.Result.{IfOk-weaker}
use Rattle.pyast_words.proofs.WordsLemmas.{one_more}
use Rattle.pyast_words.proofs.forms.unparse_form.Goals as goal

pub returns : goal.returns
returns c =
    let newer = one_more c.tree_form.ensures c.newer_form.ensures c.in_ok-arg.ensures in
    let whole = one_more newer c.whole_form.ensures c.in_ok-arg-2.ensures in
    let show = one_more whole c.show_form.ensures c.in_ok-arg-3.ensures in
    let name = one_more show c.stdin_name_form.ensures c.in_ok-arg-4.ensures in
    IfOk-weaker c.arg-5.result _ _ (λ form added. one_more name c.file_form.ensures added) c.arg-5.ensures
