-- The targets of an assignment, one by one.
use Rattle.std.specs.Prelude.{List, [], ◌∷◌, ◌++◌}
use Rattle.pylex_lexeme.specs.declared.kinds.Exact.TheVariants.{Equal}
use Rattle.pytree_node.specs.Trees.{Expr}
use Rattle.pygrammar.specs.declared.levels.Level.TheVariants.{Stars}
use Rattle.pytoken.specs.Terminals.{Op}
use Rattle.pyunparse_text.specs.Written.{free}
use Rattle.pyunparse_text.specs.Pieces.{Sited, piece, pieces}

-- one with its `=`
abbrev pub assigned : Expr → List Sited
assigned e = pieces Stars e ++ free piece (Op Equal) ∷ []
