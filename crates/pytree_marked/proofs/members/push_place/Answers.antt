use Rattle.pytree_marked.proofs.MemberLemmas.{place_ended, place_shown}
use Rattle.pytree_marked.proofs.members.push_place.Goals as goal
use Rattle.std.proofs.lemmas.Result.{on_ok_weaker}

pub returns-in-None-clause-text : goal.returns-in-None-clause-text
returns-in-None-clause-text g c = λ s. place_ended _ _ s _ _ _ c.next.ensures.place c.in-None.is

pub returns-in-Some-clause-text : goal.returns-in-Some-clause-text
returns-in-Some-clause-text g c = on_ok_weaker c.push_members.result
    (λ grown s. place_shown _ _ _ s _ _ _ _ c.next.ensures.place c.in-Some.is (grown s))
    c.push_members.ensures
