-- What a list of tokens is to the grammar.
use Rattle.std.specs.Prelude.{List, [], ◌∷◌, Option, Some, None}
use Rattle.std.specs.List.{flat_map}
use Rattle.std.specs.Option.{option_or}
use Rattle.std.specs.Str.{chars}
use Rattle.pysource.specs.declared.places.Place.{Place}
use Rattle.pytree_node.specs.declared.profiles.Extent.TheVariants.{Whole}
use Rattle.pytoken.specs.declared.refusals.Refusal.{Refusal}
use Rattle.pytoken.specs.declared.refusals.Refusal.TheVariants as refusals
use Rattle.pytoken.specs.Terminals.{Terminal, terminals_of, fault_of}
use Rattle.pyparse_tokens.specs.declared.tokens.Token.{Token}

-- what a token is to the grammar, one terminal but for an f-string; and what tokens are
abbrev pub token_terminals : Token → List Terminal
token_terminals t = terminals_of t.kind (chars t.text.now)

abbrev pub terminals : List Token → List Terminal
terminals ts = flat_map token_terminals ts

-- where the first one starts; without one, where a source does
abbrev pub first_place : List Token → Place
first_place [] = record { row = 1; column = 0 }
first_place (t ∷ ts) = t.start

-- the fault of a token by itself in the whole language, and that of the first token that has one
abbrev pub token_refusal : Token → Option Refusal
token_refusal t = elim (fault_of Whole t.kind (chars t.text.now)) [ Some x ↦ Some (refusals.Token x t.start) | None ↦ None ]

abbrev pub first_refusal : List Token → Option Refusal
first_refusal [] = None
first_refusal (t ∷ ts) = option_or (token_refusal t) (first_refusal ts)
