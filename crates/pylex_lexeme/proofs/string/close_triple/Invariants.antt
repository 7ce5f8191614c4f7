use Rattle.std.proofs.Common.{◌≡◌, length}
use Rattle.pylex_lexeme.specs.Strings.{quote_char}
use Rattle.pylex_lexeme.specs.Lengths.{triple_len}
use Rattle.pylex_lexeme.proofs.Strings.Units.{left_of}
use Rattle.pylex_lexeme.proofs.string.close_triple.Given as goal

abbrev pub invariant-loop-quote : goal.invariant-loop-quote
invariant-loop-quote l = left_of (triple_len (quote_char l.quote) l.text) l.text ≡ left_of
    (triple_len (quote_char l.quote) l.initial.text) l.initial.text

abbrev pub decreases-loop-quote : goal.decreases-loop-quote
decreases-loop-quote l = length l.text
