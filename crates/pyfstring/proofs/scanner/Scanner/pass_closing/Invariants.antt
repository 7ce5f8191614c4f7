use Rattle.std.proofs.Common.{◌≡◌, length}
use Rattle.pyfstring.specs.Texts.{is_no_closing}
use Rattle.pyfstring.proofs.Stepping.{after_run}
use Rattle.pyfstring.proofs.scanner.Scanner.pass_closing.Given as goal

abbrev pub invariant-loop-c : goal.invariant-loop-c
invariant-loop-c l = after_run is_no_closing l.self ≡ after_run is_no_closing l.initial.self

abbrev pub decreases-loop-c : goal.decreases-loop-c
decreases-loop-c l = length l.self
