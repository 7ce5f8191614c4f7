use Rattle.std.proofs.Common.{sym, ◌∙◌, ◌≡◌, ◌-◌, ap, ℕ, List, Some, None, Option, arith, rules, take, length, take-take}
use Rattle.std.specs.List.{after_last}
use Rattle.std.specs.Str.{chars}
use Rattle.std.proofs.lemmas.List.{length-take-le}
use Rattle.pysource.specs.Places.{is_lf, place_after}
use Rattle.pysource.specs.declared.places.Place.{Place}
use Rattle.pysource.specs.declared.faults.LineFault.{LineFault}
use Rattle.pysource.proofs.Offsets.CharPlaces.{place_by_bytes}
use Rattle.pysource.proofs.FaultyLines.CutLemmas.{told_all, last_boundary}
use Rattle.pysource.proofs.sources.good_part.Goals as goal

pub range-requires-clause-end_boundary : goal.range-requires-clause-end_boundary
range-requires-clause-end_boundary c =
    let inside = c.in-Some.ensures.front.0 in
    let size : length c.from_utf8_unchecked-before.result.now ≡ c.in-Some.at = ap length c.from_utf8_unchecked-before.ensures
    ∙ length-take-le c.in-Some.at c.args.bytes.now (omega (arith, inside)) in
    last_boundary c.from_utf8_unchecked-before.result.now c.last_line.result.now c.in-Some.at size c.last_line.ensures c.last_line.utf8

pub returns-in-None-clause-text : goal.returns-in-None-clause-text
returns-in-None-clause-text c = c.from_utf8_unchecked.ensures
    ∙ sym (told_all c.args.charset 1 c.args.bytes.now None c.in-None.ensures.value).0

pub returns-in-None-clause-fault : goal.returns-in-None-clause-fault
returns-in-None-clause-fault c = sym (told_all c.args.charset 1 c.args.bytes.now None c.in-None.ensures.value).1

pub returns-in-Some-clause-text : goal.returns-in-Some-clause-text
returns-in-Some-clause-text c =
    let at = c.in-Some.at in
    let t = c.args.bytes.now in
    let told = (told_all c.args.charset 1 t (Some (at, c.in-Some.code)) c.in-Some.ensures.value).0 in
    let before = c.from_utf8_unchecked-before.ensures in
    let start : at - length c.last_line.result.now ≡ at - length (after_last is_lf (take at t)) =
    ap (λ (x : List ℕ). at - length x) (c.last_line.ensures ∙ ap (after_last is_lf) before) in
    let cut : c.range.result.now ≡ take (at - length c.last_line.result.now) c.from_utf8_unchecked-before.result.now = search rules in
    cut ∙ ap (take (at - length c.last_line.result.now)) before ∙ take-take (at - length c.last_line.result.now) at t (omega arith)
    ∙ ap (λ (n : ℕ). take n t) start ∙ sym told

pub returns-in-Some-clause-fault : goal.returns-in-Some-clause-fault
returns-in-Some-clause-fault c =
    let at = c.in-Some.at in
    let t = c.args.bytes.now in
    let told = (told_all c.args.charset 1 t (Some (at, c.in-Some.code)) c.in-Some.ensures.value).1 in
    let before : take at c.from_utf8_unchecked-before.result.now ≡ take at t = ap (take at) c.from_utf8_unchecked-before.ensures
    ∙ take-take at at t (omega arith) in
    let place = c.place_of-place.ensures ∙ ap (λ (x : List ℕ). place_after (chars x)) before
    ∙ place_by_bytes (take at t) c.in-Some.ensures.front.1 in
    ap (λ (p : Place). let f : Option LineFault = Some (record { code = c.in-Some.code; place = p }) in f) place ∙ sym told
