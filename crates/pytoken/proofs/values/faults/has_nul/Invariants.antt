use Rattle.std.proofs.Common.{◌≡◌}
use Rattle.std.specs.List.{list_any}
use Rattle.std.specs.Str.{chars, IsUtf8}
use Rattle.std.specs.Str.Iter.{chars_rest}
use Rattle.std.specs.Prelude.{◌==◌}
use Rattle.pytoken.proofs.values.faults.has_nul.Given as goal

abbrev pub invariant-loop-c : goal.invariant-loop-c
invariant-loop-c l = record {
  same : list_any (λ x. x == 0) (chars (chars_rest l.c-iterator)) ≡ list_any (λ x. x == 0) (chars l.fn.text);
  utf8 : IsUtf8 (chars_rest l.c-iterator);
}
