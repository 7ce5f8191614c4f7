-- What the answers for a source say.
use Rattle.std.specs.Prelude.{◌≡◌, Option, Some}
use Rattle.std.specs.Str.{chars}
use Rattle.pytoken.specs.declared.refusals.Refusal.{Refusal}
use Rattle.pytoken.specs.Tokens
use Rattle.pyparse_tokens.specs.declared.faults.ParseFault.{ParseFault}
use Rattle.pyparse_tokens.specs.declared.faults.ParseFault.TheVariants.{Refused, Grammar, Memory}
use Rattle.pyparse_tokens.specs.declared.tokens.Token.{Token}

-- a token, its text as characters
abbrev pub token_of : Token → Tokens.Token
token_of t = record { kind = t.kind; start = t.start; text = chars t.text.now }

-- a fault is the reason why a source has no tokens, or memory was wanting, as it may be at any point
abbrev pub Tells : Option Refusal → ParseFault → Type 0
Tells reason (Refused r) = reason ≡ Some r
Tells reason (Grammar error place) = ⊥
Tells reason Memory = Unit {0}
