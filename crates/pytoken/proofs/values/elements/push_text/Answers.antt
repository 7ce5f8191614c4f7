use Rattle.std.proofs.Common.{[], ◌∷◌, subst}
use Rattle.std.specs.Prelude.{OnOk}
use Rattle.pytoken.specs.FormattedStrings as elements
use Rattle.pytoken.specs.FormattedStrings.{TextPart}
use Rattle.pytoken.specs.Inner.Pushing.{element_of, Grows}
use Rattle.pytoken.proofs.values.elements.push_text.Goals as goal

pub returns : goal.returns
returns c =
    subst (λ (p : TextPart). OnOk c.push.result (Grows element_of c.args.out.now.items c.push.new.out.items (elements.Text p ∷ [])))
    c.new.ensures c.push.ensures
