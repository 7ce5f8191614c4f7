use Rattle.std.proofs.Common.{◌++◌, ◌∷◌, drop, ap, ◌∙◌, arith}
use Rattle.std.specs.Prelude.{decimal}
use Rattle.pylex.proofs.Texts.LinesLemmas.{place_front, place_length}
use Rattle.pylex.proofs.lines.put_place.Goals as goal

pub returns-clause-start : goal.returns-clause-start
returns-clause-start c =
    omega (arith, c.put_number-column.ensures.start, c.put_sign-comma.ensures.start, c.put_number.ensures.start, place_length c.args.place)

pub returns-clause-written : goal.returns-clause-written
returns-clause-written c =
    c.put_number.ensures.written ∙ ap (λ t. decimal c.args.place.row ++ t) (c.put_sign-comma.ensures.written
    ∙ ap (λ t. 44 ∷ t) c.put_number-column.ensures.written)
    ∙ place_front c.args.place (drop c.args.end c.args.field.now)
