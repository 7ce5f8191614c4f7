use Rattle.std.proofs.Common.{◌∙◌, List, ap}
use Rattle.pyparse_block.specs.declared.outline.depths.Last.{Last}
use Rattle.pyparse_block.specs.Outlines.{lasts_of}
use Rattle.pyparse_block.specs.Inner.Counting.{arms_top, round_top}
use Rattle.pyparse_block.proofs.outline.DepthLemmas.{counts_by, lasts_of-push}
use Rattle.pyparse_block.proofs.outline.depths.Depths.step.Goals as goal

pub returns : goal.returns
returns c =
    let last : Last = record { level = c.args.level; round = c.capped.result; arms = c.capped-2.result; own = c.own.result } in
    counts_by c.args.level c.args.shape (lasts_of c.args.self.now.lasts.items) (lasts_of c.drop_deeper.new.lasts.items)
    (lasts_of c.drop_from.new.lasts.items) (lasts_of c.push.new.self.items)
    c.arms_after-arms.result c.round_after-round.result c.capped-2.result c.capped.result c.own.result c.is_deep.result
    c.drop_deeper.ensures
    (c.arms_after-arms.ensures ∙ ap (λ (ds : List Last). arms_top c.args.shape c.args.level (lasts_of ds)) c.deref.ensures.value)
    c.drop_from.ensures
    (c.round_after-round.ensures ∙ ap (λ (ds : List Last). round_top (lasts_of ds)) c.deref-2.ensures.value) c.capped.ensures
    c.capped-2.ensures c.own.ensures
    (ap lasts_of c.in_ok-push.ensures.items ∙ lasts_of-push c.drop_from.new.lasts.items last) c.is_deep.ensures
