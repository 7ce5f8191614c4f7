use Rattle.std.proofs.Common.{◌≡◌, drop}
use Rattle.std.specs.List.{list_all}
use Rattle.std.specs.Str.Parse.{digits_value_after}
use Rattle.pytoken.specs.Inner.Readings.{is_decimal_digit}
use Rattle.pytoken.proofs.values.numbers.short_value.Given as goal

abbrev pub invariant-loop-byte : goal.invariant-loop-byte
invariant-loop-byte l = record {
  value : digits_value_after 10 l.value (drop l.byte-index l.byte-items) ≡ digits_value_after 10 0 l.byte-items;
  digits : list_all is_decimal_digit (drop l.byte-index l.byte-items) ≡ list_all is_decimal_digit l.byte-items;
}
