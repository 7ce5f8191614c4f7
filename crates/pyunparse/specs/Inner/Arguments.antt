-- Arguments by name, one by one.
use Rattle.std.specs.Prelude.{List, [], ◌∷◌, ◌++◌, Option, Some, None}
use Rattle.pylex_lexeme.specs.declared.kinds.Exact.TheVariants.{DoubleStar, Equal}
use Rattle.pygrammar.specs.declared.levels.Level.TheVariants.{Expression}
use Rattle.pytree_node.specs.Trees.{Identifier, Keyword}
use Rattle.pytoken.specs.Terminals.{in_form}
use Rattle.pyunparse_text.specs.Written.{free, leading, tight}
use Rattle.pyunparse_text.specs.Pieces.{Sited, piece, pieces}

-- a name and `=`, or `**`
abbrev pub argument_name : Option Identifier → List Sited
argument_name None = leading piece DoubleStar ∷ []
argument_name (Some x) = free piece (in_form x) ∷ (tight piece Equal ∷ [])

abbrev pub argument : Keyword → List Sited
argument k = argument_name k.arg ++ pieces Expression k.value
