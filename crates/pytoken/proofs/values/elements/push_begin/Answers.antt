use Rattle.pytoken.specs.Inner.Pushing.{element_of}
use Rattle.pytoken.proofs.values.PushLemmas.{then_grows}
use Rattle.pytoken.proofs.values.elements.push_begin.Goals as goal

pub returns : goal.returns
returns c = then_grows element_of _ _ _ _ _ c.push.result c.in_ok-push_kept.ensures c.push.ensures
