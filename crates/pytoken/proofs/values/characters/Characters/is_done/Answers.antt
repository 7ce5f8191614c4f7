use Rattle.std.proofs.Common.{length, sym, ◌∙◌}
use Rattle.std.proofs.lemmas.Bool.{eqb-true}
use Rattle.pytoken.proofs.values.Filtered.{nothing_left}
use Rattle.pytoken.proofs.values.characters.Characters.is_done.Goals as goal

pub returns : goal.returns
returns c = λ done.
    sym c.self.view_is ∙ nothing_left c.self.inside.rest.now (eqb-true (length c.self.inside.rest.now) 0 (sym c.is_empty.ensures ∙ done))
