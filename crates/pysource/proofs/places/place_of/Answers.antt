use Rattle.std.proofs.Common.{◌≡◌, length, rules, take, count_by}
use Rattle.std.specs.List.{after_last}
use Rattle.std.specs.Str.{chars}
use Rattle.std.proofs.lemmas.Str.{chars_from_encodes, IsUtf8-take}
use Rattle.pysource.specs.Places.{is_lf}
use Rattle.pysource.proofs.Offsets.CharPlaces.{place_by_bytes}
use Rattle.pysource.proofs.places.place_of.Goals as goal

pub returns : goal.returns
returns c =
    let before = take c.args.offset c.args.text.now in
    let rows : c.count.result ≡ count_by is_lf before = search rules in
    let columns : c.count-2.result ≡ length (chars c.last_line.result.now) = search (rules, chars_from_encodes) in
    let line : c.last_line.result.now ≡ after_last is_lf before = search rules in
    let bytes = place_by_bytes before (IsUtf8-take c.args.text.now c.args.offset c.utf8.text c.requires) in
    simp (rows, columns, line, bytes)
