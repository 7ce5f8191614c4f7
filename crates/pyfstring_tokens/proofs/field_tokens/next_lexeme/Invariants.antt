use Rattle.std.proofs.Common.{◌≤◌, length}
use denote.Text.{Utf8}
use denote.Shadow.{shadow}
use Rattle.pyfstring_tokens.specs.Inner.Passing.{Passes}
use Rattle.pyfstring_tokens.proofs.field_tokens.next_lexeme.Given as goal

abbrev pub invariant-lexemes : goal.invariant-lexemes
invariant-lexemes l = record {
  utf8 : shadow (Utf8 l.rest);
  passes : Passes l.fn.text l.rest;
  shorter : length l.rest ≤ length l.fn.text;
}

abbrev pub decreases-lexemes : goal.decreases-lexemes
decreases-lexemes l = length l.rest
