-- What the answer says for tokens that are to be a pattern.
use Rattle.std.specs.Prelude.{◌≡◌, List, Some, None}
use Rattle.pygrammar.specs.declared.pattern_levels.PatternLevel.{PatternLevel}
use Rattle.pygrammar.specs.PatternMeets.{Patternless, HighPattern}
use Rattle.pyparse_tokens.specs.declared.faults.GrammarError.TheVariants.{Syntax, TooDeep}
use Rattle.pyparse_tokens.specs.declared.faults.ParseFault.{ParseFault}
use Rattle.pyparse_tokens.specs.declared.faults.ParseFault.TheVariants.{Refused, Grammar, Memory}
use Rattle.pyparse_tokens.specs.declared.tokens.Token.{Token}
use Rattle.pyparse.specs.TokenLists.{terminals, first_place, first_refusal}

-- Why tokens are not read as a pattern of a level: the first that is faulty by itself in the whole language; or they are none; or only one
-- higher than 500,
-- where a list that is none and counts 500 or more may be told so too; or memory was wanting, as it may be at any point.
abbrev pub RefusesPattern : PatternLevel → List Token → ParseFault → Type 0
RefusesPattern l ts (Refused r) = first_refusal ts ≡ Some r
RefusesPattern l ts (Grammar Syntax p) = (first_refusal ts ≡ None) × Patternless l (terminals ts) × (p ≡ first_place ts)
RefusesPattern l ts (Grammar TooDeep p) = (first_refusal ts ≡ None) × HighPattern 500 l (terminals ts) × (p ≡ first_place ts)
RefusesPattern l ts (Grammar _ p) = ⊥
RefusesPattern l ts Memory = Unit {0}
