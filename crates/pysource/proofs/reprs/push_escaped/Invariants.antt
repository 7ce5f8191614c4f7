use Rattle.std.proofs.Common.{◌≡◌, ◌∷◌, ◌++◌, length}
use Rattle.std.specs.Prelude.{IsUtf8}
use Rattle.std.specs.Io.{StartsWith}
use Rattle.std.specs.List.{flat_map}
use Rattle.std.specs.Str.{chars, encode_utf8_all}
use Rattle.std.specs.String.{string_bytes}
use Rattle.pysource.specs.Reprs.{escaped, is_unprintable}
use Rattle.pysource.proofs.Printing.PushReprLemmas.{inner}
use Rattle.pysource.proofs.reprs.push_escaped.Given as goal

abbrev pub invariant-loop-characters : goal.invariant-loop-characters
invariant-loop-characters l = record {
  text : IsUtf8 l.rest;
  front : StartsWith (string_bytes l.out) (string_bytes l.fn.out);
  output : string_bytes l.out ++ inner l.quote l.rest
      ≡ string_bytes l.fn.out ++ encode_utf8_all (l.quote ∷ flat_map (escaped is_unprintable l.quote) (chars l.text));
}

abbrev pub decreases-loop-characters : goal.decreases-loop-characters
decreases-loop-characters l = length l.rest
