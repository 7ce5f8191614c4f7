use Rattle.std.proofs.Common.{ap, ◌∙◌}
use Rattle.pyplaces.specs.PlacesOf.{PlacesOf}
use Rattle.pyplaces.proofs.LineStartLemmas.{shown_is}
use Rattle.pyplaces.proofs.places.Places.shown_near.Goals as goal

pub returns : goal.returns
returns c =
    let starts = ap (λ (q : PlacesOf). q.starts) c.self.view_is in
    shown_is c.args.self.now c.deref.result.now c.deref-2.result.now c.span-span.result c.args.i _ _ _ _
    (c.deref.ensures.value ∙ starts) (c.deref-2.ensures.value ∙ starts) c.span-span.ensures c.shown_at-line.ensures.line
    c.shown_at-line.ensures.byte c.shown_at-end_line.ensures.line c.shown_at-end_line.ensures.byte
