use Rattle.std.proofs.Common.{◌≡◌, length}
use Rattle.std.specs.Str.{chars, IsUtf8}
use Rattle.std.specs.Str.Iter.{chars_rest}
use Rattle.pytoken.specs.StringValues.{with_line_feeds}
use Rattle.pytoken.proofs.values.characters.first_of_any.Given as goal

abbrev pub invariant-loop-first : goal.invariant-loop-first
invariant-loop-first l = record {
  same : with_line_feeds (chars (chars_rest l.left)) ≡ with_line_feeds (chars l.fn.text);
  utf8 : IsUtf8 (chars_rest l.left);
}

abbrev pub decreases-loop-first : goal.decreases-loop-first
decreases-loop-first l = length (chars_rest l.left)
