use Rattle.std.proofs.Common.{◌∙◌, ap}
use Rattle.pyplaces.specs.Steps.{State}
use Rattle.pyplaces.proofs.StackLemmas.{all_placed}
use Rattle.pyplaces.proofs.place_stack.PlaceStack.finish.Goals as goal

pub returns-clause-ok : goal.returns-clause-ok
returns-clause-ok c = ap (λ (s : State). s.spans) c.in_ok-settle.ensures

pub returns-clause-placed : goal.returns-clause-placed
returns-clause-placed c = λ xs zs ss b k. ap (λ (s : State). s.spans) c.in_ok-settle.ensures ∙ all_placed xs zs ss b c.args.self k
