use Rattle.std.proofs.Common.{◌≡◌, length}
use Rattle.std.specs.Prelude.{◌||◌}
use Rattle.std.specs.List.{list_any}
use Rattle.pytoken.specs.Escapes.{meanings, is_named_escape, is_bad_escape}
use Rattle.pytoken.proofs.values.strings.escape_fault.Given as goal

abbrev pub invariant-loop-meaning : goal.invariant-loop-meaning
invariant-loop-meaning l = record {
  named : (l.named || list_any is_named_escape (meanings l.raw l.bytes l.left)) ≡ list_any is_named_escape
      (meanings l.raw l.bytes l.initial.left);
  bad : (l.bad || list_any is_bad_escape (meanings l.raw l.bytes l.left)) ≡ list_any is_bad_escape (meanings l.raw l.bytes l.initial.left);
}

abbrev pub decreases-loop-meaning : goal.decreases-loop-meaning
decreases-loop-meaning l = length l.left
