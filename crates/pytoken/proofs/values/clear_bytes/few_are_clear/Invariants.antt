use Rattle.pytoken.specs.Inner.Readings.{IsClearBetween}
use Rattle.pytoken.proofs.values.clear_bytes.few_are_clear.Given as goal

abbrev pub invariant-loop-byte : goal.invariant-loop-byte
invariant-loop-byte l = IsClearBetween l.one l.other l.bytes 0 l.byte-index
