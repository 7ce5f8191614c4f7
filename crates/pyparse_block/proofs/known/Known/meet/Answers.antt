use Rattle.std.proofs.Common.{◌+◌, ◌++◌, ◌∷◌, ◌∙◌, [], refl, subst, sym}
use Rattle.pygrammar.specs.Lines.{line}
use Rattle.pygrammar.specs.FormOf.{form_of}
use Rattle.pyparse_block.specs.Known.{IsKnown}
use Rattle.pyparse_block.proofs.Callers.ProgressLemmas.{deep_on, sound_faulty, deep_next, deep_faulty, faulty_next, unread_next}
use Rattle.pyparse_block.proofs.known.Known.meet.Goals as goal

pub returns-in-Ok-false-clause-known : goal.returns-in-Ok-false-clause-known
returns-in-Ok-false-clause-known c profile s k forms was comes = record {
  was = c.in-Sound.outline;
  sound = subst (IsKnown profile s k forms) c.in-Sound.is was;
  follows = λ xs f. (c.in-Ok-false.ensures.ok xs f, sym c.in-Ok-false.field-0-test ∙ c.in-Ok-false.ensures.deep xs f);
}

pub returns-in-Ok-true-clause-known : goal.returns-in-Ok-true-clause-known
returns-in-Ok-true-clause-known c profile s k forms was comes =
    subst (IsKnown profile s (k + 1) (forms ++ line c.args.level (form_of c.args.form.now) ∷ []))
    (sym (c.sink.ensures c.step.new.self c.in-Sound.blocks refl))
    (deep_on forms comes c.step.new.self (subst (IsKnown profile s k forms) c.in-Sound.is was) c.in-Ok-true.field-0
    c.in-Ok-true.field-0-test
    (λ xs was. (c.in-Ok-true.ensures.ok xs was, c.in-Ok-true.ensures.deep xs was)))

pub returns-in_ok-fail-in-Err-clause-known : goal.returns-in_ok-fail-in-Err-clause-known
returns-in_ok-fail-in-Err-clause-known c profile s k forms was comes =
    sound_faulty forms comes c.in-Err.stop c.fail.new.self (subst (IsKnown profile s k forms) c.in-Sound.is was)
    c.in_ok-fail-in-Err.ensures c.in-Err.ensures.blamed

pub returns-in-Ok-clause-known : goal.returns-in-Ok-clause-known
returns-in-Ok-clause-known c profile s k forms was comes =
    deep_next forms comes c.step-in-Deep.new.self (subst (IsKnown profile s k forms) c.in-Deep.is was) c.in-Ok.field-0
    (λ xs was. (c.in-Ok.ensures.ok xs was, c.in-Ok.ensures.deep xs was))

pub returns-in_ok-fail-in-Err-step-clause-known : goal.returns-in_ok-fail-in-Err-step-clause-known
returns-in_ok-fail-in-Err-step-clause-known c profile s k forms was comes =
    deep_faulty forms comes c.in-Err-step.stop c.fail-in-Err-step.new.self (subst (IsKnown profile s k forms) c.in-Deep.is was)
    c.in_ok-fail-in-Err-step.ensures c.in-Err-step.ensures.blamed

pub returns-in-Faulty-clause-known : goal.returns-in-Faulty-clause-known
returns-in-Faulty-clause-known c profile s k forms was comes =
    subst (IsKnown profile s (k + 1) (forms ++ line c.args.level (form_of c.args.form.now) ∷ [])) (sym c.in-Faulty.is)
    (faulty_next forms comes (subst (IsKnown profile s k forms) c.in-Faulty.is was))

pub returns-in-Unread-clause-known : goal.returns-in-Unread-clause-known
returns-in-Unread-clause-known c profile s k forms was comes =
    subst (IsKnown profile s (k + 1) (forms ++ line c.args.level (form_of c.args.form.now) ∷ [])) (sym c.in-Unread.is)
    (unread_next comes.line comes.stands (subst (IsKnown profile s k forms) c.in-Unread.is was))
