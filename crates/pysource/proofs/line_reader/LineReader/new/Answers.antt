use Rattle.std.proofs.Common.{◌≡◌, ◌-◌, ℕ, List, true, false, take, drop, sym, ap, ◌∙◌}
use Rattle.std.proofs.lemmas.Result.{err_from_is_err_and}
use Rattle.pysource.specs.Cookies.{encoding_of, has_mark}
use Rattle.pysource.specs.declared.buffers.Intake.{Intake}
use Rattle.pysource.proofs.LineReading.OpenLemmas.{opens, unmarked, unmarked_skip, unmarked_same, refuses_source, refuses_head}
use Rattle.pysource.proofs.line_reader.LineReader.new.Goals as goal
use Rattle.pysource.proofs.line_reader.LineReader.new.Goals.{then-has_mark, else-has_mark}

pub returns-in_err-first : goal.returns-in_err-first
returns-in_err-first g c =
    let p = err_from_is_err_and c.from_residual.result c.from_residual.ensures.1 in
    record {
      opening = rw (p.1, p.2) (refuses_head c.read_head.new.intake c.in_err-first.field-0.0 c.in_err-first.ensures.takes
          c.in_err-first.ensures.found);
    }

pub returns-in_err-encoding : goal.returns-in_err-encoding
returns-in_err-encoding g c =
    let at = c.in_ok-first in
    let e = at.ensures in
    let p = err_from_is_err_and c.from_residual-in_err-encoding.result c.from_residual-in_err-encoding.ensures.1 in
    let said = ap (λ (x : List ℕ). encoding_of (take at.first x) (take (at.second - at.first) (drop at.first x)))
    (sym c.bytes-bytes.ensures) ∙ sym c.encoding_of.ensures ∙ c.in_err-encoding.was in
    record {
      opening = rw (p.1, p.2) (refuses_source c.read_head.new.intake at.first at.second
          c.in_err-encoding.field-0.0 e.takes e.found said);
    }

pub returns : goal.returns
returns g c =
    let i = c.read_head.new.intake in
    let same : c.if-has_mark.intake ≡ unmarked i = elim c.if-has_mark.branch [
      | then-has_mark w ↦
          let marked : has_mark i.buffer ≡ true = ap has_mark (sym c.bytes-bytes.ensures)
          ∙ sym c.has_mark.ensures.value ∙ w.if-has_mark.true in
          w.intake-is ∙ ap (λ (b : List ℕ). let x : Intake = record { buffer = b; reach = i.reach; count = i.count } in x) (w.skip.ensures
          ∙ unmarked_skip i marked)
      | else-has_mark w ↦
          let plain : has_mark i.buffer ≡ false = ap has_mark (sym c.bytes-bytes.ensures) ∙ sym c.has_mark.ensures.value
          ∙ w.if-has_mark.false in
          w.intake-is ∙ ap (λ (b : List ℕ). let x : Intake = record { buffer = b; reach = i.reach; count = i.count } in
          x) (unmarked_same i plain)
    ] in
    let at = c.in_ok-first in
    let e = at.ensures in
    let said = ap (λ (x : List ℕ). encoding_of (take at.first x) (take (at.second - at.first) (drop at.first x)))
    (sym c.bytes-bytes.ensures) ∙ sym c.encoding_of.ensures ∙ c.in_ok-encoding.was in
    record { opening = rw same (opens i at.first at.second c.in_ok-encoding.encoding e.takes e.within e.found said) }
