use Rattle.std.proofs.Common.{◌≡◌, false}
use Rattle.std.specs.Str.{chars, IsUtf8}
use Rattle.std.specs.Str.Iter.{chars_rest}
use Rattle.pytoken.specs.Inner.Readings.{is_calm}
use Rattle.pytoken.proofs.values.strings.is_calm.Given as goal

abbrev pub invariant-loop-c : goal.invariant-loop-c
invariant-loop-c l = record {
  same : is_calm l.bytes l.following (chars (chars_rest l.c-iterator)) ≡ is_calm l.bytes false (chars l.fn.text);
  utf8 : IsUtf8 (chars_rest l.c-iterator);
}
