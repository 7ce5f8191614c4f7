use Rattle.std.proofs.Common.{◌≡◌, length}
use Rattle.std.specs.Str.{chars, IsUtf8}
use Rattle.pytoken.specs.StringValues.{with_line_feeds}
use Rattle.pytoken.proofs.values.characters.front_of_any.Given as goal

abbrev pub invariant-loop-last : goal.invariant-loop-last
invariant-loop-last l = record {
  same : with_line_feeds (chars l.text) ≡ with_line_feeds (chars l.initial.text);
  utf8 : IsUtf8 l.text;
}

abbrev pub decreases-loop-last : goal.decreases-loop-last
decreases-loop-last l = length l.text
