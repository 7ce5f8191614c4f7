use Rattle.std.proofs.Common.{◌≡◌}
use Rattle.std.specs.Str.{chars}
use denote.Text.{Utf8}
use denote.Shadow.{shadow}
use Rattle.pytoken.specs.StringValues.{without_last}
use Rattle.pytoken.proofs.values.bodies.without_last.Given as goal

abbrev pub invariant-back : goal.invariant-back
invariant-back l = record {
  same : chars l.rest ≡ without_last l._back (chars l.initial.rest);
  utf8 : shadow (Utf8 l.rest);
}
