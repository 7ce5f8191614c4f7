use Rattle.std.proofs.Common.{◌≡◌, length}
use Rattle.pyfstring.specs.Texts.{after_text}
use Rattle.pyfstring.proofs.scanner.Scanner.text.Given as goal

abbrev pub invariant-loop : goal.invariant-loop
invariant-loop l = after_text l.is_raw l.has_pairs l.initial.self ≡ after_text l.is_raw l.has_pairs l.self

abbrev pub decreases-loop : goal.decreases-loop
decreases-loop l = length l.self
