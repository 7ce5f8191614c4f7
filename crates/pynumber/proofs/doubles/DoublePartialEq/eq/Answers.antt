use Rattle.std.proofs.Common.{◌==◌, sym, ap, ◌∙◌, eqb-true, eq-eqb}
use Rattle.std.specs.Bool.{one_answer}
use Rattle.std.specs.Float.Ieee.{binary64, of_bits}
use Rattle.pynumber.specs.SameFloats.{float_same, same_floats}
use Rattle.pynumber.specs.Inner.Bits.{same_bits}
use Rattle.pynumber.proofs.doubles.DoublePartialEq.eq.Goals as goal

pub returns : goal.returns
returns c =
    let a = c.self.inside.bits in
    let b = c.other.inside.bits in
    one_answer (a == b) (float_same c.args.self.now c.args.other.now) (
      λ h. sym c.self.view_is ∙ ap (of_bits binary64) (eqb-true a b h) ∙ c.other.view_is,
      λ h. eq-eqb a b (same_bits a b c.self.invariant c.other.invariant (c.self.view_is ∙ h ∙ sym c.other.view_is)),
    )
    (same_floats c.args.self.now c.args.other.now)
