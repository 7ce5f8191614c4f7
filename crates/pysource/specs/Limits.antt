-- How large a source may be.
use Rattle.std.specs.Prelude.{ℕ}

-- the most bytes that a source may have
abbrev pub source_limit : ℕ
source_limit = 1_073_741_824
