use Rattle.std.proofs.Common.{◌≡◌, ◌+◌, ◌≤◌, length}
use Rattle.std.specs.Str.{chars, IsUtf8}
use Rattle.std.specs.Str.Iter.{chars_rest}
use Rattle.pylex_listing.specs.Machine.{place_past, lead_after}
use Rattle.pylex.proofs.leading_char.walk_chars.Given as goal

abbrev pub invariant-loop-c : goal.invariant-loop-c
invariant-loop-c l = record {
  advances : place_past l.place (chars (chars_rest l.c-iterator)) ≡ place_past l.initial.place (chars l.fn.text);
  begins : lead_after l.lead (chars (chars_rest l.c-iterator)) ≡ lead_after l.initial.lead (chars l.fn.text);
  utf8 : IsUtf8 (chars_rest l.c-iterator);
  row : l.place.row + length (chars_rest l.c-iterator) ≤ l.initial.place.row + length l.fn.text;
  column : l.place.column + length (chars_rest l.c-iterator) ≤ l.initial.place.column + length l.fn.text;
}
