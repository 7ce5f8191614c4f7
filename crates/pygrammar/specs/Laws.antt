-- What holds of the grammar of expressions.
use Rattle.std.specs.Prelude.{◌≡◌, ◌↔◌, ◌⊎◌, ℕ, ◌+◌, ◌≤◌, List, []}
use Rattle.pygrammar.specs.Lengths.{slack, weight}
use Rattle.pygrammar.specs.declared.levels.Level.{Level}
use Rattle.pytree_node.specs.Trees.{Expr}
use Rattle.pytree_height.specs.Heights.{height}
use Rattle.pytoken.specs.Terminals.{Terminal}
use Rattle.pygrammar.specs.Grammar.{Derives}
use Rattle.pygrammar.specs.Reader.{Found, reads}
use Rattle.pygrammar.specs.Capped.{limit}
use Rattle.pygrammar.specs.Meets.{Shapeless, Meets}

-- at a level a list of terminals is at most one expression
abbrev pub ExpressionsAreUnique : Type 0
ExpressionsAreUnique = (l : Level) (ts : List Terminal) (a b : Expr) → Derives l ts a → Derives l ts b → a ≡ b

-- at a level a list of terminals is an expression, or none
abbrev pub ExpressionsAreDecided : Type 0
ExpressionsAreDecided = (l : Level) (ts : List Terminal) → ((e : Expr) × Derives l ts e) ⊎ Shapeless l ts

-- an expression is no higher than its terminals count
abbrev pub HeightsAreBounded : Type 0
HeightsAreBounded = (l : Level) (ts : List Terminal) (e : Expr) → Derives l ts e → height e ≤ slack l + weight ts

-- the reader gives a list's expression, and none where there is none
abbrev pub ReaderIsExact : Type 0
ReaderIsExact = (l : Level) (ts : List Terminal) (e : Expr) → Derives l ts e ↔ (reads l ts ≡ Found e [])

-- within a height it gives a list's expression exactly where that is no higher
abbrev pub LimitIsExact : Type 0
LimitIsExact = (d : ℕ) (l : Level) (ts : List Terminal) (e : Expr) → (Derives l ts e × (height e ≤ d)) ↔ (limit d l ts ≡ Found e [])

-- and each of its answers means what `Meets` says
abbrev pub LimitMeets : Type 0
LimitMeets = (d : ℕ) (l : Level) (ts : List Terminal) → Meets d l ts (limit d l ts)

-- the laws of the grammar of expressions
pub record GrammarIsLawful : Type 0 where
  pub unique : ExpressionsAreUnique
  pub decided : ExpressionsAreDecided
  pub bounded : HeightsAreBounded
  pub exact : ReaderIsExact
  pub limited : LimitIsExact
  pub meets : LimitMeets
