use Rattle.std.proofs.Common.{◌≡◌, drop}
use Rattle.std.specs.Str.{chars}
use denote.Text.{Utf8}
use denote.Shadow.{shadow}
use Rattle.pytoken.proofs.values.bodies.following.Given as goal

abbrev pub invariant-front : goal.invariant-front
invariant-front l = record {
  same : chars l.rest ≡ drop l._front (chars l.initial.rest);
  utf8 : shadow (Utf8 l.rest);
}
