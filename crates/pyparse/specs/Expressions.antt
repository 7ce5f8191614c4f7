-- What the answer says for tokens that are to be an expression.
use Rattle.std.specs.Prelude.{◌≡◌, List, Some, None}
use Rattle.pygrammar.specs.declared.levels.Level.{Level}
use Rattle.pygrammar.specs.Meets.{Shapeless, High}
use Rattle.pyparse_tokens.specs.declared.faults.GrammarError.TheVariants.{Syntax, TooDeep}
use Rattle.pyparse_tokens.specs.declared.faults.ParseFault.{ParseFault}
use Rattle.pyparse_tokens.specs.declared.faults.ParseFault.TheVariants.{Refused, Grammar, Memory}
use Rattle.pyparse_tokens.specs.declared.tokens.Token.{Token}
use Rattle.pyparse.specs.TokenLists.{terminals, first_place, first_refusal}

-- Why tokens are not read as an expression of a level: the first that is faulty by itself in the whole language; or they are none; or only
-- one higher than 500,
-- where a list that is none and counts more than 500 may be told so too; or memory was wanting, as it may be at any point.
abbrev pub Refuses : Level → List Token → ParseFault → Type 0
Refuses l ts (Refused r) = first_refusal ts ≡ Some r
Refuses l ts (Grammar Syntax p) = (first_refusal ts ≡ None) × Shapeless l (terminals ts) × (p ≡ first_place ts)
Refuses l ts (Grammar TooDeep p) = (first_refusal ts ≡ None) × High 500 l (terminals ts) × (p ≡ first_place ts)
Refuses l ts (Grammar _ p) = ⊥
Refuses l ts Memory = Unit {0}
