use Rattle.std.proofs.Common.{◌≡◌, ◌+◌, ◌≤◌, ◌++◌, length, take, vec_len, vec_capacity}
use Rattle.pytree_node.proofs.points.Points.push_bytes.Given as goal

abbrev pub invariant-loop-byte : goal.invariant-loop-byte
invariant-loop-byte l = record {
  so_far : l.self-inside.points.items ≡ l.initial.self-inside.points.items ++ take l.byte-index l.bytes;
  len : vec_len l.self-inside.points ≡ vec_len l.initial.self-inside.points + l.byte-index;
  room : vec_len l.initial.self-inside.points + length l.bytes ≤ vec_capacity l.self-inside.points;
}
