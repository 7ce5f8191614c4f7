use Rattle.std.proofs.Common.{refl}
use Rattle.std.proofs.lemmas.Result.{err_from_is_err_and}
use Rattle.pyast_command.proofs.StartLemmas.{starts, starts_at, refused, unresumed}
use Rattle.pyast_command.proofs.listings.begin.Goals as goal

pub returns-in_ok-new-in-None-clause-starts : goal.returns-in_ok-new-in-None-clause-starts
returns-in_ok-new-in-None-clause-starts g c =
    rw c.in-None.is (starts _ _ _ _ 0 c.in_ok-new-in-None.ensures.begins.begins c.in_ok-new-in-None.ensures.given (λ p more broken s. refl))

pub returns-in_ok-resume_checked-in-Some-clause-starts :
    goal.returns-in_ok-resume_checked-in-Some-clause-starts
returns-in_ok-resume_checked-in-Some-clause-starts g c =
    rw c.in-Some.is (starts_at _ _ _ _ c.in_ok-resume_checked-in-Some.ensures.begins c.in_ok-resume_checked-in-Some.ensures.shown)

pub returns-in_err-new-in-None-clause-refused : goal.returns-in_err-new-in-None-clause-refused
returns-in_err-new-in-None-clause-refused g c =
    let p = err_from_is_err_and c.from_residual.result c.from_residual.ensures.1 in
    rw (p.1, p.2) (λ exact count taken. refused exact count _ _ _ c.in_err-new-in-None.field-0.0 taken c.in_err-new-in-None.ensures.refuses)

pub returns-in_err-resume_checked-in-Some-clause-refused :
    goal.returns-in_err-resume_checked-in-Some-clause-refused
returns-in_err-resume_checked-in-Some-clause-refused g c =
    let p = err_from_is_err_and c.from_residual-in_err-resume_checked-in-Some.result
    c.from_residual-in_err-resume_checked-in-Some.ensures.1 in
    rw (p.1, p.2, c.in-Some.is) (λ exact count taken. unresumed exact count _ _ _ c.in_err-resume_checked-in-Some.field-0.0 taken
    c.in_err-resume_checked-in-Some.ensures.misses)
