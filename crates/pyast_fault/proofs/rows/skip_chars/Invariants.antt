use Rattle.std.proofs.Common.{◌≡◌, drop}
use Rattle.std.specs.Prelude.{IsUtf8}
use Rattle.std.specs.Str.{chars}
use Rattle.std.specs.Str.Iter.{chars_rest}
use Rattle.pyast_fault.proofs.rows.skip_chars.Given as goal

abbrev pub invariant-loop : goal.invariant-loop
invariant-loop l = record {
  same : chars (chars_rest l.left) ≡ drop l.counter (chars l.text);
  utf8 : IsUtf8 (chars_rest l.left);
}
