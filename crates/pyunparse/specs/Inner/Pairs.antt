-- The pairs of a dictionary, one by one.
use Rattle.std.specs.Prelude.{List, ◌∷◌, ◌++◌, Option, Some, None}
use Rattle.pylex_lexeme.specs.declared.kinds.Exact.TheVariants.{Colon, DoubleStar}
use Rattle.pytree_node.specs.Trees.{Expr}
use Rattle.pygrammar.specs.declared.levels.Level.TheVariants.{BitOr, Expression}
use Rattle.pyunparse_text.specs.Written.{leading, trailing}
use Rattle.pyunparse_text.specs.Pieces.{Sited, piece, pieces}

-- a key and its value, or `**` and a value
abbrev pub pair : Option Expr → Expr → List Sited
pair None e = leading piece DoubleStar ∷ pieces BitOr e
pair (Some k) e = pieces Expression k ++ (trailing piece Colon ∷ pieces Expression e)
