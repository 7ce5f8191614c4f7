use Rattle.std.proofs.Common.{◌≡◌, ◌≤◌, ◌+◌, ◌-◌, ◌++◌, true, length, take}
use Rattle.std.specs.List.{list_all}
use Rattle.std.specs.Prelude.{vec_capacity, vec_len}
use Rattle.pysource.specs.Reprs.{is_plain}
use Rattle.pysource.proofs.reprs.fill_plain.Given as goal

abbrev pub invariant-loop-count : goal.invariant-loop-count
invariant-loop-count l = record {
  within : l.count ≤ length l.points;
  plain : list_all is_plain (take l.count l.points) ≡ true;
  items : l.bytes.items ≡ l.initial.bytes.items ++ take l.count l.points;
  len : vec_len l.bytes ≡ vec_len l.initial.bytes + l.count;
  capacity : vec_capacity l.bytes ≡ vec_capacity l.initial.bytes;
}

abbrev pub decreases-loop-count : goal.decreases-loop-count
decreases-loop-count l = length l.points - l.count
