use Rattle.std.proofs.Common.{map, subst}
use Rattle.std.proofs.lemmas.Result.{IfOk-weaker, IfErr-weaker}
use Rattle.pyast_words.specs.Words.{IsCommand}
use Rattle.pyast_words.proofs.WordsLemmas.{failed_err, found_ok, refuses_found, refuses_kind}
use Rattle.pyast_words.proofs.command.read_words.Goals as goal

pub returns-in-Ok-clause-gives : goal.returns-in-Ok-clause-gives
returns-in-Ok-clause-gives g c =
    let ok = found_ok c.in_ok-grammar.grammar (map g.S.AsStr.text c.args.words.now) c.try_get_matches_from.result c.in-Ok.matches
    c.in_ok-grammar.ensures c.in-Ok.is c.try_get_matches_from.ensures.kinds c.try_get_matches_from.ensures.matches in
    IfOk-weaker c.command_of.result _ _ (λ command h. (ok.0, subst (λ s. IsCommand s command) ok.1 h)) c.command_of.ensures.given

pub returns-in-Ok-clause-refuses : goal.returns-in-Ok-clause-refuses
returns-in-Ok-clause-refuses g c =
    let words = map g.S.AsStr.text c.args.words.now in
    let ok = found_ok c.in_ok-grammar.grammar words c.try_get_matches_from.result c.in-Ok.matches c.in_ok-grammar.ensures c.in-Ok.is
    c.try_get_matches_from.ensures.kinds c.try_get_matches_from.ensures.matches in
    IfErr-weaker c.command_of.result _ _ (λ fault h. refuses_found words _ fault ok.0 ok.1 h) c.command_of.ensures.refused

pub returns-in-Err-clause-refuses : goal.returns-in-Err-clause-refuses
returns-in-Err-clause-refuses g c =
    let words = map g.S.AsStr.text c.args.words.now in
    refuses_kind words _ c.usage_fault.result c.usage_fault.ensures (failed_err c.in_ok-grammar.grammar words c.try_get_matches_from.result
    c.in-Err.error c.in_ok-grammar.ensures c.in-Err.is c.try_get_matches_from.ensures.kinds)
