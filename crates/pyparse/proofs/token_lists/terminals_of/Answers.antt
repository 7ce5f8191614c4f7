use Rattle.std.proofs.Common.{rules}
use Rattle.pyparse.proofs.TokenListLemmas.{told_first, none_more, terminals_more}
use Rattle.pyparse.proofs.token_lists.terminals_of.Goals as goal

pub returns-in_err-push_token-clause-refused : goal.returns-in_err-push_token-clause-refused
returns-in_err-push_token-clause-refused c =
    let t = told_first c.args.tokens.now c.loop-token.token-index _ c.in_err-push_token.field-0.0 c.loop-token-test.true
    c.loop-token.invariant.sound c.in_err-push_token.ensures.refused in
    search (rules, t)

pub loop-token-preserved : goal.loop-token-preserved
loop-token-preserved c = record {
  made =
      terminals_more c.args.tokens.now c.loop-token.token-index _ _ _ c.loop-token-test.true c.loop-token.invariant.made
      c.in_ok-push_token.ensures.terminals;
  sound = none_more c.args.tokens.now c.loop-token.token-index _ c.loop-token-test.true c.loop-token.invariant.sound
      c.in_ok-push_token.ensures.sound;
}
