use Rattle.std.proofs.Common.{◌≡◌, ◌+◌, ◌*◌, ◌≤◌, length}
use Rattle.std.specs.Str.{chars, IsUtf8}
use Rattle.std.specs.Str.Iter.{chars_rest}
use Rattle.pylex_listing.specs.Indentation.{width_from}
use Rattle.pylex_listing.specs.Margins.{width_by_one, blanks_of}
use Rattle.pylex.proofs.measures.widths_in.Given as goal

abbrev pub invariant-loop-c : goal.invariant-loop-c
invariant-loop-c l = record {
  eight : width_from l.eight (blanks_of (chars (chars_rest l.c-iterator))) ≡ width_from 0 (blanks_of (chars l.fn.text));
  one : width_by_one l.one (blanks_of (chars (chars_rest l.c-iterator))) ≡ width_by_one 0 (blanks_of (chars l.fn.text));
  utf8 : IsUtf8 (chars_rest l.c-iterator);
  eight_fits : l.eight + 8 * length (chars_rest l.c-iterator) ≤ 8 * length l.fn.text;
  one_fits : l.one + 8 * length (chars_rest l.c-iterator) ≤ 8 * length l.fn.text;
}
