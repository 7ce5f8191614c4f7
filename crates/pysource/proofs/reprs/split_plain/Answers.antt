use Rattle.std.proofs.Common.{◌≡◌, ◌∙◌, ap, take}
use Rattle.std.specs.List.{prefix_len}
use Rattle.pysource.specs.Reprs.{is_plain}
use Rattle.pysource.proofs.Printing.PushReprLemmas.{plain_prefix, plain_boundary}
use Rattle.pysource.proofs.reprs.split_plain.Goals as goal

pub split_at-requires : goal.split_at-requires
split_at-requires c =
    let len : c.plain_len.result ≡ prefix_len is_plain c.args.text.now = c.plain_len.ensures.value
    ∙ ap (prefix_len is_plain) c.as_bytes.ensures.value in
    plain_boundary c.args.text.now c.plain_len.result c.utf8.text len

pub returns-clause-plain : goal.returns-clause-plain
returns-clause-plain c =
    let len : c.plain_len.result ≡ prefix_len is_plain c.args.text.now = c.plain_len.ensures.value
    ∙ ap (prefix_len is_plain) c.as_bytes.ensures.value in
    let front : c.split_at.result.0.now ≡ take (prefix_len is_plain c.args.text.now) c.args.text.now = c.split_at.ensures.front
    ∙ ap (λ n. take n c.args.text.now) len in
    rw front (plain_prefix c.args.text.now)
