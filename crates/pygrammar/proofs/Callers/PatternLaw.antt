-- On: the laws of the grammar of patterns.
--
-- Carries: what other crates cite.
use Rattle.pygrammar.specs.PatternLaws.{PatternsAreLawful}
use Rattle.pygrammar.proofs.Pattern.Bound.{bounded}
use Rattle.pygrammar.proofs.Pattern.Values.{values}
use Rattle.pygrammar.proofs.Pattern.Law.{unique, decided, limited, meets}

pub patterns_are_lawful : PatternsAreLawful
patterns_are_lawful = record {
  unique = unique;
  decided = decided;
  bounded = bounded;
  limited = limited;
  meets = meets;
  values = values;
}
