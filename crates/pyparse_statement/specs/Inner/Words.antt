-- What one terminal is: a word.
use Rattle.std.specs.Prelude.{Option, Some, None}
use Rattle.pytoken.specs.declared.keywords.Keyword.{Keyword}
use Rattle.pytoken.specs.Terminals.{Terminal, Word}

abbrev pub word_in : Terminal → Option Keyword
word_in (Word w) = Some w
word_in _ = None
