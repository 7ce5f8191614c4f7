-- What an `Encoding` says. Python language reference, 2.1.4 "Encoding declarations".
use Rattle.std.specs.Prelude.{ℕ, List}
use Rattle.pysource.specs.declared.encodings.Charset.{Charset}

-- a character set, and its name as a listing shows it
pub record Named : Type 0 where
  pub charset : Charset
  pub name : List ℕ
