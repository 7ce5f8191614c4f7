use Rattle.std.proofs.Common.{map, [], ◌∷◌, ap, ◌∙◌}
use Rattle.std.proofs.lemmas.List.{map-append}
use Rattle.pytoken.specs.Inner.Pushing.{element_of}
use Rattle.pytoken.proofs.values.elements.push.Goals as goal

pub returns : goal.returns
returns c = ap (map element_of) c.in_ok-push.ensures.items ∙ map-append element_of c.args.out.now.items (c.args.element ∷ [])
