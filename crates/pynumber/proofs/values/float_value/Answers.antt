use Rattle.std.proofs.Common.{refl}
use Rattle.pynumber.specs.FloatValues.{float_value}
use Rattle.pynumber.proofs.values.float_value.Goals as goal

pub returns : goal.returns
unfolding float_value
returns c = rw (c.to_float.ensures, c.scan.ensures.parts, c.as_slice.ensures.value, c.in_ok-kept.ensures) refl
