use Rattle.std.proofs.Common.{◌≡◌, ℕ, List, None, sym, ap, subst, ◌∙◌}
use Rattle.pytree_node.specs.Values as value
use Rattle.pytree_node.specs.declared.profiles.Extent.TheVariants.{Whole}
use Rattle.pytoken.specs.NumberValues.{number_value, number_fault}
use Rattle.pytoken.proofs.NumberKinds.{value_complex, value_real, value_whole, below_limit}
use Rattle.pytoken.proofs.values.numbers.constant_value.Goals as goal

pub returns-then-is_complex : goal.returns-then-is_complex
returns-then-is_complex c =
    ap value.Imaginary c.in_ok-read.ensures ∙ sym (value_complex c.as_bytes-bytes.result.now (sym c.if-is_complex.ensures))
    ∙ ap number_value c.as_bytes-bytes.ensures.value

pub returns-then-is_real : goal.returns-then-is_real
returns-then-is_real c =
    ap value.Float c.in_ok-read-2.ensures
    ∙ sym (value_real c.as_bytes-bytes.result.now (sym c.if-is_complex.ensures) (sym c.if-is_real.ensures))
    ∙ ap number_value c.as_bytes-bytes.ensures.value

pub integer-requires : goal.integer-requires
integer-requires c =
    below_limit Whole c.as_bytes-bytes.result.now (sym c.if-is_complex.ensures) (sym c.if-is_real.ensures)
    (subst (λ (t : List ℕ). number_fault Whole t ≡ None) (sym c.as_bytes-bytes.ensures.value) c.requires)

pub returns : goal.returns
returns c =
    ap value.Int c.in_ok-integer.ensures
    ∙ sym (value_whole c.as_bytes-bytes.result.now (sym c.if-is_complex.ensures) (sym c.if-is_real.ensures))
    ∙ ap number_value c.as_bytes-bytes.ensures.value
