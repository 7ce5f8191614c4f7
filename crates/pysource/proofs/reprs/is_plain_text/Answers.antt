use Rattle.std.proofs.Common.{◌≡◌, ◌∙◌, ap, length}
use Rattle.std.specs.Prelude.{◌==◌}
use Rattle.std.specs.List.{prefix_len}
use Rattle.pysource.specs.Reprs.{is_plain}
use Rattle.pysource.proofs.Printing.PushReprLemmas.{all_by_prefix}
use Rattle.pysource.proofs.reprs.is_plain_text.Goals as goal

pub returns : goal.returns
returns c =
    let len : c.plain_len.result ≡ prefix_len is_plain c.args.text.now = c.plain_len.ensures.value
    ∙ ap (prefix_len is_plain) c.as_bytes.ensures.value in
    ap (λ n. n == length c.args.text.now) len ∙ all_by_prefix is_plain c.args.text.now
