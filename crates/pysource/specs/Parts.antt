-- What a `Source` holds: its encoding, the text of the lines before the first faulty one, and that line's fault.
-- Python language reference, 2.1.2 "Physical lines" and 2.1.4 "Encoding declarations".
use Rattle.std.specs.Prelude.{ℕ, List, Option}
use Rattle.pysource.specs.Names.{Named}
use Rattle.pysource.specs.declared.faults.LineFault.{LineFault}

-- an encoding, a text as its bytes, and a fault
pub record Parts : Type 0 where
  pub encoding : Named
  pub text : List ℕ
  pub fault : Option LineFault
