use Rattle.std.proofs.Common.{◌≡◌, ◌+◌, ◌*◌, ◌≤◌, length}
use Rattle.std.specs.Str.{chars, IsUtf8}
use Rattle.std.specs.Str.Iter.{chars_rest}
use Rattle.pylex_listing.specs.Indentation.{width_from}
use Rattle.pylex.proofs.measures.width_after.Given as goal

abbrev pub invariant-loop-c : goal.invariant-loop-c
invariant-loop-c l = record {
  widens : width_from l.width (chars (chars_rest l.c-iterator)) ≡ width_from l.initial.width (chars l.fn.blanks);
  utf8 : IsUtf8 (chars_rest l.c-iterator);
  room : l.width + 8 * length (chars_rest l.c-iterator) ≤ l.initial.width + 8 * length l.fn.blanks;
}
