use Rattle.std.proofs.Common.{refl}
use Rattle.pyparse_expr.proofs.Places.Signs.{one_sign}
use Rattle.pyparse_expr.proofs.Recorders.Chains.{one_placed, not_in_placed, is_placed, is_not_placed}
use Rattle.pyparse_expr.proofs.chains.compared_at.Goals as goal

pub returns-in-Some-clause-answered : goal.returns-in-Some-clause-answered
returns-in-Some-clause-answered c = one_sign c.args.tokens.now c.args.at _ c.in-Some.ensures.is c.in-Some.ensures.within refl

pub returns-in-Some-clause-placed : goal.returns-in-Some-clause-placed
returns-in-Some-clause-placed c = one_placed c.args.tokens.now c.args.at c.in-Some.op c.in-Some.ensures.is

pub returns-then-is_word-clause-placed : goal.returns-then-is_word-clause-placed
returns-then-is_word-clause-placed c = not_in_placed c.args.tokens.now c.args.at c.if-is_word.ensures c.if-not-is_word.ensures

pub returns-then-not-is_word-2-clause-placed : goal.returns-then-not-is_word-2-clause-placed
returns-then-not-is_word-2-clause-placed c = record {
  no_sign = c.in_default.ensures.is;
  no_not = c.if-is_word.ensures;
  no_is = c.if-not-is_word-2.ensures;
}

pub returns-then-is_word-2-clause-placed : goal.returns-then-is_word-2-clause-placed
returns-then-is_word-2-clause-placed c = is_not_placed c.args.tokens.now c.args.at c.if-not-is_word-2.ensures c.if-is_word-2.ensures

pub returns-else-is_word-2-clause-placed : goal.returns-else-is_word-2-clause-placed
returns-else-is_word-2-clause-placed c = is_placed c.args.tokens.now c.args.at c.if-not-is_word-2.ensures
