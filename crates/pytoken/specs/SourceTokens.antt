-- Tokens as a source can have them.
use Rattle.std.specs.Prelude.{◌≡◌, true}
use Rattle.std.specs.Str.{all_scalars}
use Rattle.pytoken.specs.Terminals.{IsSound}
use Rattle.pytoken.specs.Tokens.{Token}

-- a token of Unicode characters that is what its type says, and has no fault
abbrev pub IsOfSource : Token → Type 0
IsOfSource t = (all_scalars t.text ≡ true) × IsSound t.kind t.text
