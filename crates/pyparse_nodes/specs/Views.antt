-- What stands at a place of a list of terminals.
use Rattle.std.specs.Prelude.{◌≡◌, ◌+◌, ◌<◌, ℕ, List, [], ◌∷◌, Option, Some, None, map, drop, length}
use Rattle.pytoken.specs.Terminals as tokens
use Rattle.pygrammar.specs.Precedence.{lead}
use Rattle.pylex_lexeme.specs.declared.kinds.Exact.{Exact}
use Rattle.pygrammar.specs.Reader.{on_some, on_name_with}
use Rattle.pytoken.specs.declared.values.terminals.Terminal.{Terminal}
use Rattle.pytoken.specs.TerminalOf.{terminal}

-- what the grammar sees of a list from a place on
abbrev pub seen : List Terminal → ℕ → List tokens.Terminal
seen ts at = drop at (map terminal ts)

abbrev pub first_of : {A : Type 0} → List A → Option A
first_of [] = None
first_of (t ∷ ts) = Some t

-- what a test says of the first terminal
abbrev pub first_is : {A : Type 0} → (tokens.Terminal → Option A) → List tokens.Terminal → Option A
first_is f r = on_some (first_of r) f None

-- a terminal stands at a place
pub record Stands (t : tokens.Terminal) (ts : List Terminal) (at : ℕ) : Type 0 where
  pub within : at < length ts
  pub is : seen ts at ≡ t ∷ seen ts (at + 1)

-- a name and a sign stand at a place; or they don't
pub record IsNamed (sign : Exact) (x : List ℕ) (ts : List Terminal) (at : ℕ) : Type 0 where
  pub within : at + 1 < length ts
  pub name : tokens.Spelled
  pub form : name.form ≡ x
  pub is : seen ts at ≡ tokens.Ident name ∷ tokens.Op sign ∷ seen ts (at + 2)

pub record IsNotNamed (sign : Exact) (ts : List Terminal) (at : ℕ) : Type 0 where
  pub is : None ≡ on_name_with sign (seen ts at) (λ x r. Some x) None

abbrev pub lead_of : List tokens.Terminal → ℕ
lead_of r = on_some (first_of r) lead 0
