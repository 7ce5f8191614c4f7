use Rattle.pynumber.specs.FloatValues.{float_value}
use Rattle.pynumber.proofs.Readings.{round_not_nan, round_bits, round_back}
use Rattle.pynumber.proofs.doubles.Double.read.Goals as goal

pub float_to_bits-result : goal.float_to_bits-result
unfolding float_value
float_to_bits-result c = rw c.in_ok-value.ensures (round_not_nan _ _)

pub invariant_of-result : goal.invariant_of-result
unfolding float_value
invariant_of-result c = rw c.in_ok-value.ensures (round_bits _ _)

pub returns : goal.returns
unfolding float_value
returns c = rw c.in_ok-value.ensures (round_back _ _)
