use Rattle.std.proofs.Common.{ℕ, List, sym, ap, ◌∙◌}
use Rattle.pytoken.specs.NumberValues.{number_fault}
use Rattle.pytoken.proofs.NumberKinds.{fault_complex, fault_real, fault_large, fault_none}
use Rattle.pytoken.proofs.values.ShortLemmas.{read_faultless}
use Rattle.pytoken.proofs.values.numbers.number_fault.Goals as goal

pub returns-then-is_some : goal.returns-then-is_some
returns-then-is_some c =
    sym (read_faultless c.args.extent c.args.text.now c.short_value.result c.short_value.ensures c.if-is_some.ensures)

pub returns-then-is_complex : goal.returns-then-is_complex
returns-then-is_complex c =
    c.in_plain.ensures ∙ sym (fault_complex c.args.extent c.as_bytes-bytes.result.now (sym c.if-is_complex.ensures))
    ∙ ap (λ (t : List ℕ). number_fault c.args.extent t) c.as_bytes-bytes.ensures.value

pub returns-then-is_real : goal.returns-then-is_real
returns-then-is_real c =
    c.in_plain-then-is_real.ensures
    ∙ sym (fault_real c.args.extent c.as_bytes-bytes.result.now (sym c.if-is_complex.ensures) (sym c.if-is_real.ensures))
    ∙ ap (λ (t : List ℕ). number_fault c.args.extent t) c.as_bytes-bytes.ensures.value

pub returns-then-branch : goal.returns-then-branch
returns-then-branch c =
    sym (fault_large c.args.extent c.as_bytes-bytes.result.now (sym c.if-is_complex.ensures) (sym c.if-is_real.ensures)
    (sym c.in_ok-is_too_large.ensures ∙ c.if-branch.true))
    ∙ ap (λ (t : List ℕ). number_fault c.args.extent t) c.as_bytes-bytes.ensures.value

pub returns : goal.returns
returns c =
    sym (fault_none c.args.extent c.as_bytes-bytes.result.now (sym c.if-is_complex.ensures) (sym c.if-is_real.ensures)
    (sym c.in_ok-is_too_large.ensures ∙ c.if-branch.false))
    ∙ ap (λ (t : List ℕ). number_fault c.args.extent t) c.as_bytes-bytes.ensures.value
