use Rattle.std.proofs.Common.{◌≡◌, length}
use Rattle.pylex_lexeme.specs.Strings.{units, quote_char}
use Rattle.pylex_lexeme.specs.Lexemes.{ends_by_join}
use Rattle.pylex_lexeme.proofs.string.ends_by_join.Given as goal

abbrev pub invariant-loop-quote : goal.invariant-loop-quote
invariant-loop-quote l = ends_by_join (quote_char l.quote) (units l.text) ≡ ends_by_join (quote_char l.quote) (units l.initial.text)

abbrev pub decreases-loop-quote : goal.decreases-loop-quote
decreases-loop-quote l = length l.text
