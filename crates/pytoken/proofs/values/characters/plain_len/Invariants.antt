use Rattle.std.proofs.Common.{◌≡◌, ◌+◌, drop}
use Rattle.std.specs.List.{prefix_len}
use Rattle.pytoken.specs.Inner.Readings.{stands}
use Rattle.pytoken.proofs.values.characters.plain_len.Given as goal

abbrev pub invariant-loop-byte : goal.invariant-loop-byte
invariant-loop-byte l = record {
  place : l.len ≡ l.byte-index;
  whole : l.len + prefix_len (stands l.raw) (drop l.len l.bytes) ≡ prefix_len (stands l.raw) l.bytes;
}
