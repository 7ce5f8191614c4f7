use Rattle.std.proofs.Common.{◌≡◌, ◌++◌, ◌-◌}
use Rattle.std.specs.Prelude.{IsUtf8}
use Rattle.std.specs.Str.{chars}
use Rattle.std.specs.Str.Iter.{chars_rest}
use Rattle.std.specs.String.{string_bytes}
use Rattle.pyast_fault.specs.Rows.{below}
use Rattle.pyast_fault.proofs.rows.push_below.Given as goal

abbrev pub invariant-loop : goal.invariant-loop
invariant-loop l = record {
  output : string_bytes l.out ++ below (l.count - l.counter) (chars (chars_rest l.left)) ≡ string_bytes l.fn.out ++ below l.count (chars l.text);
  utf8 : IsUtf8 (chars_rest l.left);
}
