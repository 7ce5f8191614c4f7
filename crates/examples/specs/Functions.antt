-- The functions that a module defines.
use Rattle.std.specs.Prelude.{List, [], ◌∷◌, ◌++◌}
use Rattle.std.specs.Borrow.{Bor}
use Rattle.pytree_node.specs.declared.statements.FunctionDef.{FunctionDef}
use Rattle.pytree_node.specs.TreeOf.{function_def_of}
use Rattle.pytree_node.specs.Trees
use Rattle.pytree_node.specs.Trees.{function_def, stmts}

-- the statement that the fields of a function make; that of an `async def` is taken for a `def`
abbrev pub function_of : Bor FunctionDef → Trees.Stmt
function_of def = function_def (function_def_of def.now)

-- the functions in a statement: itself if it is one, and after it those inside
abbrev mutual
  pub functions_in : Trees.Stmt → List Trees.Stmt
  functions_in (Trees.FunctionDef name args body decorators returns parameters) =
      Trees.FunctionDef name args body decorators returns parameters ∷ functions_in_all body
  functions_in (Trees.AsyncFunctionDef name args body decorators returns parameters) =
      Trees.FunctionDef name args body decorators returns parameters ∷ functions_in_all body
  functions_in (Trees.ClassDef name bases keywords body decorators parameters) = functions_in_all body
  functions_in (Trees.For target iter body orelse) = functions_in_all body ++ functions_in_all orelse
  functions_in (Trees.AsyncFor target iter body orelse) = functions_in_all body ++ functions_in_all orelse
  functions_in (Trees.While test body orelse) = functions_in_all body ++ functions_in_all orelse
  functions_in (Trees.If test body orelse) = functions_in_all body ++ functions_in_all orelse
  functions_in (Trees.With items body) = functions_in_all body
  functions_in (Trees.AsyncWith items body) = functions_in_all body
  functions_in (Trees.Match subject cases) = functions_in_cases cases
  functions_in (Trees.Try body handlers orelse finalbody) =
      functions_in_all body ++ (functions_in_handlers handlers ++ (functions_in_all orelse ++ functions_in_all finalbody))
  functions_in (Trees.TryStar body handlers orelse finalbody) =
      functions_in_all body ++ (functions_in_handlers handlers ++ (functions_in_all orelse ++ functions_in_all finalbody))
  functions_in _ = []

  pub functions_in_all : Trees.Stmts → List Trees.Stmt
  functions_in_all Trees.no_stmt = []
  functions_in_all (Trees.a_stmt s ss) = functions_in s ++ functions_in_all ss

  pub functions_in_cases : Trees.Cases → List Trees.Stmt
  functions_in_cases Trees.no_case = []
  functions_in_cases (Trees.a_case pattern guard body cs) = functions_in_all body ++ functions_in_cases cs

  pub functions_in_handlers : Trees.Handlers → List Trees.Stmt
  functions_in_handlers Trees.no_handler = []
  functions_in_handlers (Trees.a_handler class name body hs) = functions_in_all body ++ functions_in_handlers hs

-- the functions of a module
abbrev pub functions_of : Trees.Module → List Trees.Stmt
functions_of m = functions_in_all (stmts m.body)
