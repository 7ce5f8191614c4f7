use Rattle.std.proofs.Common.{ℕ, List, ap, ◌∙◌}
use Rattle.std.specs.Str.{chars}
use Rattle.pytoken.specs.Tokens.{text_of}
use Rattle.pyparse_tokens.proofs.GatherLemmas.{text_at}
use Rattle.pyparse_tokens.proofs.gather.text_of.Goals as goal

pub returns : goal.returns
returns c =
    ap chars c.range.ensures.value ∙ text_at c.text.result.now c.args.entry.now c.text.utf8
    ∙ ap (λ (bs : List ℕ). text_of (chars bs) c.args.entry.now) c.text.ensures.value
