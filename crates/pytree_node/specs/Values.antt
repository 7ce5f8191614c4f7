-- The values of constants, with no addresses.
use Rattle.std.specs.Prelude.{ℕ, List}
use Rattle.std.specs.Prelude as prelude
use Rattle.std.specs.Float.Ieee as ieee

-- the value of a Constant, with its kind
pub data Value : Type 0 where
  None : Value
  Ellipsis : Value
  Bool : prelude.Bool → Value
  Int : ℕ → Value
  Float : ieee.Float → Value
  Imaginary : ieee.Float → Value  -- its imaginary part
  Str : List ℕ → prelude.Bool → Value  -- its code points; whether its kind is u
  Bytes : List ℕ → Value
