use Rattle.std.proofs.Common.{◌≡◌, drop}
use Rattle.std.specs.List.{list_any}
use Rattle.pylex_lexeme.specs.Numbers.{is_j}
use Rattle.pytoken.proofs.values.numbers.is_complex.Given as goal

abbrev pub invariant-loop-byte : goal.invariant-loop-byte
invariant-loop-byte l = list_any is_j (drop l.byte-index l.text) ≡ list_any is_j l.text
