use Rattle.std.proofs.Common.{◌≡◌, drop}
use Rattle.pylex_lexeme.proofs.scanner.Scanner.bump_count.Given as goal

abbrev pub invariant-loop : goal.invariant-loop
invariant-loop l = l.self ≡ drop l.counter l.initial.self
