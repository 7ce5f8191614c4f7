use Rattle.std.proofs.Common.{◌≡◌, length}
use Rattle.pyfstring.specs.Pieces.{is_blank_or_tabulation}
use Rattle.pyfstring.proofs.Stepping.{after_run}
use Rattle.pyfstring.proofs.scanner.Scanner.pass_blanks.Given as goal

abbrev pub invariant-loop-c : goal.invariant-loop-c
invariant-loop-c l = after_run is_blank_or_tabulation l.self ≡ after_run is_blank_or_tabulation l.initial.self

abbrev pub decreases-loop-c : goal.decreases-loop-c
decreases-loop-c l = length l.self
