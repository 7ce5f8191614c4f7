use Rattle.std.proofs.Common.{◌≡◌, length, drop}
use Rattle.pylex_lexeme.specs.Chars.{has}
use Rattle.pylex_lexeme.specs.Lengths.{joined_len}
use Rattle.pylex_lexeme.proofs.scanner.Scanner.bump_joined.Given as goal

abbrev pub invariant-loop-self : goal.invariant-loop-self
invariant-loop-self l = drop (joined_len (has l.digits) l.self) l.self ≡ drop (joined_len (has l.digits) l.initial.self) l.initial.self

abbrev pub decreases-loop-self : goal.decreases-loop-self
decreases-loop-self l = length l.self
