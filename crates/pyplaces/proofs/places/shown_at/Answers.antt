use Rattle.std.proofs.Common.{◌≡◌, ap, ◌∙◌, ◌-◌}
use Rattle.std.specs.Prelude.{slice_index}
use Rattle.pyplaces.specs.LineStarts.{line_by}
use Rattle.pyplaces.proofs.LineStartLemmas.{counted_at}
use Rattle.pyplaces.proofs.places.shown_at.Goals as goal

pub returns-clause-line : goal.returns-clause-line
returns-clause-line c = counted_at c.args.starts.now c.args.offset _ c.lines_from-line.ensures.within c.lines_from-line.ensures.before
    c.lines_from-line.ensures.following

pub returns-clause-byte : goal.returns-clause-byte
returns-clause-byte c =
    let l : c.lines_from-line.result ≡ line_by c.args.starts.now c.args.offset =
    counted_at c.args.starts.now c.args.offset _ c.lines_from-line.ensures.within c.lines_from-line.ensures.before
    c.lines_from-line.ensures.following in
    c.saturating_sub-2.ensures ∙ ap (λ s. c.args.offset - s) (c.start_at-start.ensures
    ∙ ap (slice_index c.args.starts.now) (c.saturating_sub.ensures ∙ ap (λ n. n - 1) l))
