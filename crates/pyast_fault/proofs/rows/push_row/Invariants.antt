use Rattle.std.proofs.Common.{◌≡◌, ◌++◌, ◌-◌, take}
use Rattle.std.specs.Prelude.{IsUtf8}
use Rattle.std.specs.List.{flat_map}
use Rattle.std.specs.Str.{chars, encode_utf8_all}
use Rattle.std.specs.Str.Iter.{chars_rest}
use Rattle.std.specs.String.{string_bytes}
use Rattle.pyast_fault.specs.Rows.{shown_char}
use Rattle.pyast_fault.proofs.rows.push_row.Given as goal

abbrev pub invariant-loop : goal.invariant-loop
invariant-loop l = record {
  output : string_bytes l.out ++ encode_utf8_all (flat_map shown_char (take (l.most - l.counter) (chars (chars_rest l.left))))
      ≡ string_bytes l.fn.out ++ encode_utf8_all (flat_map shown_char (take l.most (chars l.text)));
  utf8 : IsUtf8 (chars_rest l.left);
}
