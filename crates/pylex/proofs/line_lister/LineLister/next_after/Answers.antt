use Rattle.std.proofs.Common.{ap, ◌∙◌, None}
use Rattle.std.proofs.lemmas.Result.{err_from_is_err_and}
use Rattle.pylex.proofs.LineByLine.Steppings.{drop_last, place_held, steps_unread}
use Rattle.pylex.specs.Streamed.{Streamed}
use Rattle.pylex.proofs.line_lister.LineLister.next_after.Goals as goal

pub find-requires-clause-streaming : goal.find-requires-clause-streaming
find-requires-clause-streaming g c = drop_last c.self.inside.machine c.self.inside.chunk c.self.inside.last c.self.invariant

pub returns-in_err-found-clause-steps : goal.returns-in_err-found-clause-steps
returns-in_err-found-clause-steps g c =
    let e = err_from_is_err_and c.from_residual.result c.from_residual.ensures.1 in
    rw (e.1, e.2, ← c.self.view_is, ap (λ (v : Streamed). v.last) c.self.view_is ∙ c.requires.last)
    (steps_unread _ _ c.self.inside.machine c.find.new.machine c.self.inside.chunk c.find.new.chunk None c.in_err-found.ensures.searches
    _ (c.in_err-found.ensures.awaits))

pub returns-clause-steps : goal.returns-clause-steps
returns-clause-steps g c = rw (← c.self.view_is, ap (λ (v : Streamed). v.last) c.self.view_is ∙ c.requires.last)
    (c.pass.ensures.passes _ _ c.self.inside.machine c.self.inside.chunk None c.in_ok-found.ensures.searches
    (rw (← ap (λ (v : Streamed). v.shown.given) c.self.view_is) at c.requires.given) c.in_ok-found.ensures.ahead)

pub returns-in_err-found-clause-given : goal.returns-in_err-found-clause-given
returns-in_err-found-clause-given g c = (place_held _ _ _ c.in_err-found.ensures.searches.streaming).given

pub returns-clause-given : goal.returns-clause-given
returns-clause-given g c = (place_held _ _ _ c.pass.ensures.streaming).given
