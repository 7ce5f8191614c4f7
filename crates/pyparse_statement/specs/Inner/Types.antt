-- The parts of parameters of types and of `type`, as the program reads them.
use Rattle.std.specs.Prelude.{◌≡◌, ◌+◌, ◌<◌, ℕ, List, Bool, true, false, length}
use Rattle.pylex_lexeme.specs.declared.kinds.Exact.TheVariants.{Colon, DoubleStar, Star}
use Rattle.pytree_node.specs.declared.profiles.Profile.{Profile}
use Rattle.pytree_node.specs.Trees.{Identifier, Stmt, TypeParam, TypeVar}
use Rattle.pytoken.specs.Terminals as tokens
use Rattle.pytoken.specs.Terminals.{Ident, Op}
use Rattle.pytoken.specs.declared.values.terminals.Terminal.{Terminal}
use Rattle.pygrammar.specs.declared.levels.Level.TheVariants.{Expression}
use Rattle.pygrammar.specs.LineReader.{after, on_type}
use Rattle.pygrammar.specs.Reader.{Answer, Found, Reads, and_then}
use Rattle.pyparse_nodes.specs.Views.{seen}

-- a parameter with no star, after its name
abbrev pub type_var : Reads → Identifier → List tokens.Terminal → Answer TypeParam
type_var self x i = and_then (after self (Op Colon) Expression i) (λ bound r. Found (TypeVar x bound) r)

abbrev pub begins_type_param : tokens.Terminal → Bool
begins_type_param (Ident x) = true
begins_type_param (Op Star) = true
begins_type_param (Op DoubleStar) = true
begins_type_param t = false

-- `type` and a name stand at a place, in a version that has types; or they don't
pub record HasTypeName (profile : Profile) (x : Identifier) (ts : List Terminal) (at : ℕ) : Type 0 where
  pub within : at + 1 < length ts
  pub is : (hit : Identifier → List tokens.Terminal → Answer Stmt) (miss : Answer Stmt)
      → on_type profile (seen ts at) hit miss ≡ hit x (seen ts (at + 2))

pub record HasNoTypeName (profile : Profile) (ts : List Terminal) (at : ℕ) : Type 0 where
  pub is : (hit : Identifier → List tokens.Terminal → Answer Stmt) (miss : Answer Stmt) → on_type profile (seen ts at) hit miss ≡ miss
