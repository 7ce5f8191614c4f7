use Rattle.std.proofs.Common.{◌≡◌, ◌∷◌, ◌++◌, take}
use Rattle.std.specs.List.{flat_map}
use Rattle.std.specs.String.{string_bytes}
use Rattle.pysource.specs.Reprs.{escaped, is_unprintable_byte}
use Rattle.pysource.proofs.reprs.push_repr_bytes.Given as goal

abbrev pub invariant-loop-byte : goal.invariant-loop-byte
invariant-loop-byte l = string_bytes l.out ≡ string_bytes l.fn.out ++ 98 ∷ l.quote ∷ flat_map (escaped is_unprintable_byte l.quote)
    (take l.byte-index l.bytes)
