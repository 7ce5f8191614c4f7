use Rattle.std.proofs.Common.{ℕ, List, ◌++◌, take, sym, ap, ap₂, ◌∙◌}
use Rattle.std.specs.List.{list_all, prefix_len}
use Rattle.std.specs.Str.{chars}
use Rattle.pytoken.specs.StringValues.{with_line_feeds}
use Rattle.pytoken.specs.Inner.Readings.{stands}
use Rattle.pytoken.proofs.values.OwnLemmas.{run_of}
use Rattle.pytoken.proofs.values.characters.Characters.bump_plain.Goals as goal

pub range_from-self-inside-requires : goal.range_from-self-inside-requires
range_from-self-inside-requires c = λ _.
    let len = c.plain_len-len.ensures ∙ ap (prefix_len (stands c.args.raw)) c.as_bytes.ensures.value in
    (run_of c.args.raw c.self.inside.rest.now c.plain_len-len.result c.self.invariant len).boundary

pub returns-clause-whole : goal.returns-clause-whole
returns-clause-whole c =
    let len = c.plain_len-len.ensures ∙ ap (prefix_len (stands c.args.raw)) c.as_bytes.ensures.value in
    let run = run_of c.args.raw c.self.inside.rest.now c.plain_len-len.result c.self.invariant len in
    sym c.self.view_is ∙ run.whole ∙ ap₂ (λ (front rest : List ℕ). take c.plain_len-len.result front ++ with_line_feeds (chars rest))
    (sym c.as_bytes-2.ensures.value) (sym c.range_from-self-inside.ensures.value)

pub returns-clause-plain : goal.returns-clause-plain
returns-clause-plain c =
    let len = c.plain_len-len.ensures ∙ ap (prefix_len (stands c.args.raw)) c.as_bytes.ensures.value in
    let run = run_of c.args.raw c.self.inside.rest.now c.plain_len-len.result c.self.invariant len in
    ap (λ (t : List ℕ). list_all (stands c.args.raw) (take c.plain_len-len.result t)) c.as_bytes-2.ensures.value ∙ run.plain
