use Rattle.std.proofs.Common.{◌≡◌, ℕ, List, length, take, sym, ap, refl, ◌∙◌, rules}
use Rattle.std.specs.Str.{chars}
use Rattle.std.proofs.lemmas.Str.{chars_from_encodes}
use Rattle.pysource.specs.declared.faults.LineFault.{LineFault}
use Rattle.pysource.proofs.line_reader.push_line.Goals as goal

pub returns-in-Some : goal.returns-in-Some
returns-in-Some c =
    let at = c.in-Some.at in
    let before : c.from_utf8_unchecked-before.result.now ≡ take at c.args.line.now = search rules in
    let count : c.count.result ≡ length (chars c.from_utf8_unchecked-before.result.now) = search (rules, chars_from_encodes) in
    let column = count ∙ ap (λ (x : List ℕ). length (chars x)) before in (
      (at, c.in-Some.code),
      sym c.in-Some.ensures.value,
      ap (λ (n : ℕ). let f : LineFault = record { code = c.in-Some.code; place = record { row = c.args.row; column = n } } in f) column,
      refl,
    )
