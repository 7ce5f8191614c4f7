use Rattle.std.proofs.Common.{◌≤◌, ◌<◌, ◌-◌, ◌+◌, length}
use Rattle.pyast_words.proofs.bad_words.first_bad.Given as goal

abbrev pub invariant-loop-bad : goal.invariant-loop-bad
invariant-loop-bad l = record {
  apart : l.good < l.bad;
  within : l.bad ≤ length l.words + 1;
}

abbrev pub decreases-loop-bad : goal.decreases-loop-bad
decreases-loop-bad l = l.bad - l.good
