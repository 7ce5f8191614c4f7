-- The law of a field's tokens.
--
-- Carries: what crates above cite of the tokens of a field. On: Places, OwnTokens.
use Rattle.std.proofs.Common.{◌≡◌, ℕ, true, List}
use Rattle.std.specs.Str.{all_scalars}
use Rattle.pyfstring_tokens.specs.Laws.{HasOwnTokens}
use Rattle.pyfstring_tokens.proofs.Places.{begins}
use Rattle.pyfstring_tokens.proofs.OwnTokens.{own_tokens}

pub tokens_are_own : (text : List ℕ) → all_scalars text ≡ true → HasOwnTokens text
tokens_are_own text u = own_tokens text (begins text u)
