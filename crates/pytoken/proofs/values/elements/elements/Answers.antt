use Rattle.std.proofs.Common.{◌++◌, map, sym, ap, ◌∙◌, Some}
use Rattle.std.specs.Str.{chars}
use Rattle.pyfstring.specs.Parts.{part_of, spec_parts, body_parts}
use Rattle.pytoken.specs.FormattedStrings.{body_part_elements}
use Rattle.pytoken.specs.Inner.Pushing.{element_of}
use Rattle.pytoken.proofs.values.ElementLemmas.{elements_cut, told_elements, told_on}
use Rattle.pytoken.proofs.values.elements.elements.Goals as goal

pub returns-in_err-pieces-clause-malformed : goal.returns-in_err-pieces-clause-malformed
returns-in_err-pieces-clause-malformed c =
    told_on _ c.from_residual.result _ c.from_residual.ensures.1
    (told_elements c.args.is_nested c.is_raw-is_raw.result (chars c.args.text.now) (chars c.body.result.now) _
    c.is_raw-is_raw.ensures c.body.ensures c.in_err-pieces.ensures.malformed)

pub returns-in-Ok-clause-cut : goal.returns-in-Ok-clause-cut
returns-in-Ok-clause-cut c =
    let raw = c.is_raw-is_raw.result in
    elements_cut c.args.is_nested raw (chars c.args.text.now) (chars c.body.result.now) (body_parts c.in_ok-pieces.pieces)
    c.is_raw-is_raw.ensures c.body.ensures c.in_ok-pieces.ensures.cut
    ∙ ap Some (sym (c.in-Ok.ensures
    ∙ ap (λ xs. map element_of xs ++ body_part_elements raw (map (part_of spec_parts) c.deref.result.now)) c.new-out.ensures.items
    ∙ ap (λ xs. body_part_elements raw (map (part_of spec_parts) xs)) c.deref.ensures.value))
