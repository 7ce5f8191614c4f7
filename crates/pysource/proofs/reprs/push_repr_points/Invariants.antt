use Rattle.std.proofs.Common.{◌≡◌, ◌∷◌, ◌++◌, length}
use Rattle.std.specs.Io.{StartsWith}
use Rattle.std.specs.List.{flat_map}
use Rattle.std.specs.Str.{encode_utf8_all}
use Rattle.std.specs.String.{string_bytes}
use Rattle.pysource.specs.Reprs.{escaped, is_unprintable}
use Rattle.pysource.proofs.Printing.PushReprLemmas.{between}
use Rattle.pysource.proofs.reprs.push_repr_points.Given as goal

abbrev pub invariant-runs : goal.invariant-runs
invariant-runs l = record {
  front : StartsWith (string_bytes l.out) (string_bytes l.fn.out);
  output : string_bytes l.out ++ between l.quote l.rest
      ≡ string_bytes l.fn.out ++ encode_utf8_all (l.quote ∷ flat_map (escaped is_unprintable l.quote) l.points);
}

abbrev pub decreases-runs : goal.decreases-runs
decreases-runs l = length l.rest
