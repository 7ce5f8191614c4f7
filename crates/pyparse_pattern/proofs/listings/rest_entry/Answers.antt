use Rattle.std.proofs.Common.{◌+◌, arith, refl, sym}
use Rattle.pygrammar.specs.PatternEntries.{Rest}
use Rattle.pyparse_pattern.proofs.LevelSteps.{rest_found}
use Rattle.pyparse_pattern.proofs.Recorders.Entries.{rest_read}
use Rattle.pyparse_pattern.proofs.listings.rest_entry.Goals as goal

pub returns-else-is_wildcard-clause-answered : goal.returns-else-is_wildcard-clause-answered
returns-else-is_wildcard-clause-answered c = record {
  ahead = omega arith;
  within = omega (arith, c.in-Some.ensures.within);
  low = omega arith;
  is = rest_found c.args.tokens.now c.args.at _ c.in-Some.ensures.is c.in-Some.ensures.within c.in_ok-name-in-Some.name
      c.in_ok-name-in-Some.ensures (sym c.if-is_wildcard.ensures);
}

pub returns-else-is_wildcard-clause-placed : goal.returns-else-is_wildcard-clause-placed
returns-else-is_wildcard-clause-placed c = λ begin q.
    rest_read c.args.tokens.now begin c.args.at _ c.in_ok-name-in-Some.name (Rest c.in_ok-name-in-Some.name) (c.args.at + 1) q
    c.in-Some.ensures.is c.in_ok-name-in-Some.ensures (sym c.if-is_wildcard.ensures) refl refl
