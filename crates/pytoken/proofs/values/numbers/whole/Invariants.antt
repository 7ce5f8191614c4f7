use Rattle.std.proofs.Common.{◌≡◌, ◌^◌, ◌<◌, drop}
use Rattle.pytoken.proofs.values.NumberLemmas.{value_on}
use Rattle.pytoken.proofs.values.numbers.whole.Given as goal

abbrev pub invariant-loop-byte : goal.invariant-loop-byte
invariant-loop-byte l = record {
  value : value_on l.radix l.value (drop l.byte-index l.digits) ≡ value_on l.radix 0 l.digits;
  fits : l.value < 2 ^ 128;
}
