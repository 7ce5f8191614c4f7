use Rattle.std.proofs.Common.{arith, sym, ◌<◌, ◌∙◌, get_or}
use Rattle.std.proofs.lemmas.Str.{IsCharBoundary-after_ascii}
use Rattle.pysource.proofs.Offsets.PlacesLemmas.{after_last_found, after_last_nowhere}
use Rattle.pysource.proofs.places.last_line.Goals as goal

pub range_from-requires : goal.range_from-requires
range_from-requires c =
    let found = after_last_found _ _ _ _ c.as_bytes.ensures.value c.memrchr.ensures c.in-Some.is in
    let ascii : get_or c.args.text.now c.in-Some.at 0 < 128 = omega (arith, found.1) in
    λ _. IsCharBoundary-after_ascii c.args.text.now c.in-Some.at c.utf8.text found.0 ascii

pub returns-in-Some : goal.returns-in-Some
returns-in-Some c =
    let found = after_last_found _ _ _ _ c.as_bytes.ensures.value c.memrchr.ensures c.in-Some.is in
    c.range_from.ensures.value ∙ sym found.2

pub returns-in-None : goal.returns-in-None
returns-in-None c = sym (after_last_nowhere _ _ _ c.as_bytes.ensures.value c.memrchr.ensures c.in-None.is)
