use Rattle.std.proofs.Common.{◌≡◌, take}
use Rattle.pynumber.specs.FloatValues.{numeral_text}
use Rattle.pynumber.proofs.values.numeral_text.Given as goal

abbrev pub invariant-loop-byte : goal.invariant-loop-byte
invariant-loop-byte l = l.kept.items ≡ numeral_text (take l.byte-index l.fn.text)
