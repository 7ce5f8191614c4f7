use Rattle.std.proofs.Common.{◌≡◌, ◌≤◌, List, length}
use Rattle.pyfstring.specs.declared.expressions.Bracket.{Bracket}
use Rattle.pyfstring.specs.Expressions.{shortstring, scan}
use Rattle.pyfstring.proofs.scanner.Scanner.pass_short.Given as goal

abbrev pub invariant-loop-c : goal.invariant-loop-c
invariant-loop-c l = record {
  same : (bs : List Bracket) → scan (shortstring l.quote) bs 0 l.initial.self ≡ scan (shortstring l.quote) bs 0
      l.self;
  shorter : length l.self ≤ length l.initial.self;
}

abbrev pub decreases-loop-c : goal.decreases-loop-c
decreases-loop-c l = length l.self
