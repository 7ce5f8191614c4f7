use Rattle.std.proofs.Common.{◌≡◌, [], length}
use Rattle.pyfstring.specs.Expressions.{expression, scan}
use Rattle.pyfstring.proofs.scanner.Scanner.pass_expression.Given as goal

abbrev pub invariant-loop-opened : goal.invariant-loop-opened
invariant-loop-opened l = scan expression [] 0 l.initial.self ≡ scan expression l.opened.items 0 l.self

abbrev pub decreases-loop-opened : goal.decreases-loop-opened
decreases-loop-opened l = length l.self
