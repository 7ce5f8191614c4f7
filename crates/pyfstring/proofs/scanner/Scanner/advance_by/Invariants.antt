use Rattle.std.proofs.Common.{◌≡◌, drop}
use Rattle.pyfstring.proofs.scanner.Scanner.advance_by.Given as goal

abbrev pub invariant-loop : goal.invariant-loop
invariant-loop l = l.self ≡ drop l.counter l.initial.self
