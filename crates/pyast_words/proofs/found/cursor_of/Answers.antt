use Rattle.std.proofs.Common.{◌∙◌, codes}
use Rattle.std.proofs.lemmas.Result.{err_from_is_err_and}
use Rattle.clap.specs.Matches.{found_of}
use Rattle.clap.specs.Walk.{rows_of}
use Rattle.clap.proofs.WalkLemmas.{first_value-rows}
use Rattle.pyast_words.proofs.WordsLemmas.{misses_cursor}
use Rattle.pyast_words.proofs.found.cursor_of.Goals as goal

pub returns-in_ok-from_text-in-Some-clause-given :
    goal.returns-in_ok-from_text-in-Some-clause-given
returns-in_ok-from_text-in-Some-clause-given c = rw c.in_ok-from_text-in-Some.ensures.read (c.in-Some.ensures
    ∙ first_value-rows (found_of c.args.matches.now) (codes "resume"))

pub returns-in-None-clause-given : goal.returns-in-None-clause-given
returns-in-None-clause-given c = c.in-None.ensures ∙ first_value-rows (found_of c.args.matches.now) (codes "resume")

pub returns-in_err-from_text-in-Some-clause-refused :
    goal.returns-in_err-from_text-in-Some-clause-refused
returns-in_err-from_text-in-Some-clause-refused c =
    let e = err_from_is_err_and c.from_residual.result c.from_residual.ensures.1 in
    rw (e.1, e.2) (misses_cursor (rows_of (found_of c.args.matches.now)) c.in-Some.text.now c.in_err-from_text-in-Some.field-0.0
    (c.in-Some.ensures ∙ first_value-rows (found_of c.args.matches.now) (codes "resume"))
    c.in_err-from_text-in-Some.ensures.fault c.in_err-from_text-in-Some.ensures.malformed)
