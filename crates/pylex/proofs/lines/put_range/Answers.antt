use Rattle.std.proofs.Common.{◌++◌, ◌∷◌, drop, ap, ◌∙◌}
use Rattle.pylex_listing.specs.ListingLines.{shown_place}
use Rattle.pylex.proofs.Texts.LinesLemmas.{range_front}
use Rattle.pylex.proofs.lines.put_range.Goals as goal

pub returns-clause-written : goal.returns-clause-written
returns-clause-written c =
    let start = shown_place c.args.entry.now.start in
    let end = shown_place c.args.entry.now.end in
    c.put_place.ensures.written ∙ ap (λ t. start ++ t) (c.put_sign-dash.ensures.written ∙ ap (λ t. 45 ∷ t)
    (c.put_place-end.ensures.written ∙ ap (λ t. end ++ t) c.put_sign-colon.ensures.written))
    ∙ range_front c.args.entry.now (drop 84 c.args.field.now)
