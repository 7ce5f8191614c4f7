use Rattle.std.proofs.Common.{◌≡◌, ◌++◌, length}
use Rattle.std.specs.Str.{chars}
use Rattle.std.specs.String.{string_bytes}
use Rattle.pyfstring.specs.Singles.{single}
use Rattle.pyfstring.proofs.singles.single.Given as goal

abbrev pub invariant-loop-left : goal.invariant-loop-left
invariant-loop-left l = single l.fn.is_raw (chars l.fn.text) ≡ chars (string_bytes l.out) ++ single l.is_raw l.left

abbrev pub decreases-loop-left : goal.decreases-loop-left
decreases-loop-left l = length l.left
