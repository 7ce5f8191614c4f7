use Rattle.std.proofs.Common.{◌≡◌, length}
use Rattle.std.specs.Str.{chars, IsUtf8}
use Rattle.pylex_lexeme.specs.Lexemes.{cut}
use Rattle.pyparse_marks.specs.TokenSpans.{past_each, past_lexeme, over}
use Rattle.pyparse_marks.proofs.expressions.pass_expression.Given as goal

abbrev pub invariant-lexemes : goal.invariant-lexemes
invariant-lexemes g l = record {
  utf8 : IsUtf8 l.rest;
  same : past_each (past_lexeme g.T.Tokens.past) (cut (chars l.rest)) l.walker
      ≡ past_each (past_lexeme g.T.Tokens.past) (cut (chars l.fn.text)) (over 1 l.fn.walker);
}

abbrev pub decreases-lexemes : goal.decreases-lexemes
decreases-lexemes g l = length l.rest
