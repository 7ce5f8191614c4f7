use Rattle.std.proofs.lemmas.Result.{IfOk-weaker}
use Rattle.pyast_words.proofs.WordsLemmas.{one_more}
use Rattle.pyast_words.proofs.forms.dump_form.Goals as goal

pub returns : goal.returns
returns c =
    let indent = one_more c.tree_form.ensures c.number_form.ensures c.in_ok-arg.ensures in
    let bare = one_more indent c.flag_form.ensures c.in_ok-arg-2.ensures in
    let attributes = one_more bare c.flag_form-2.ensures c.in_ok-arg-3.ensures in
    let newer = one_more attributes c.newer_form.ensures c.in_ok-arg-4.ensures in
    let whole = one_more newer c.whole_form.ensures c.in_ok-arg-5.ensures in
    let show = one_more whole c.show_form.ensures c.in_ok-arg-6.ensures in
    let name = one_more show c.stdin_name_form.ensures c.in_ok-arg-7.ensures in
    IfOk-weaker c.arg-8.result _ _ (λ form added. one_more name c.file_form.ensures added) c.arg-8.ensures
