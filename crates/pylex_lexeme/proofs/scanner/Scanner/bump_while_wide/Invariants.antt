use Rattle.std.proofs.Common.{◌≡◌, length}
use Rattle.pylex_lexeme.specs.Chars.{has}
use Rattle.pylex_lexeme.proofs.Fronts.Texts.{after_run}
use Rattle.pylex_lexeme.proofs.scanner.Scanner.bump_while_wide.Given as goal

abbrev pub invariant-loop-first : goal.invariant-loop-first
invariant-loop-first l = after_run (has l.set) l.ahead ≡ after_run (has l.initial.set) l.initial.ahead

abbrev pub decreases-loop-first : goal.decreases-loop-first
decreases-loop-first l = length l.ahead
