use Rattle.std.proofs.Common.{◌≡◌, length}
use Rattle.std.specs.Str.{chars, IsUtf8}
use Rattle.pytoken.proofs.values.LiteralLemmas.{after_prefix}
use Rattle.pytoken.proofs.values.bodies.following_prefix.Given as goal

abbrev pub invariant-prefix : goal.invariant-prefix
invariant-prefix l = record {
  same : after_prefix (chars l.rest) ≡ after_prefix (chars l.fn.text);
  utf8 : IsUtf8 l.rest;
}

abbrev pub decreases-prefix : goal.decreases-prefix
decreases-prefix l = length l.rest
