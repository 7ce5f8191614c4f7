use Rattle.pynumber.specs.Inner.Bits.{not_nan}
use Rattle.pynumber.proofs.doubles.DoubleDebug.fmt.Goals as goal

pub float_from_bits-self-inside : goal.float_from_bits-self-inside
float_from_bits-self-inside g c = not_nan c.self.inside.bits c.self.invariant
