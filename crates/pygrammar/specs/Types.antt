-- Which modules have nothing of the types that are new in Python 3.12: no parameters of types, and no statement `type`.
use Rattle.std.specs.Prelude.{Bool, true, false, ◌&&◌}
use Rattle.pytree_node.specs.Trees
use Rattle.pytree_node.specs.Trees.{stmts}
use Rattle.pygrammar.specs.Lines.{no_types}

abbrev mutual
  pub is_untyped : Trees.Stmt → Bool
  is_untyped (Trees.FunctionDef name args body decorators returns parameters) = no_types parameters && are_untyped body
  is_untyped (Trees.AsyncFunctionDef name args body decorators returns parameters) = no_types parameters && are_untyped body
  is_untyped (Trees.ClassDef name bases keywords body decorators parameters) = no_types parameters && are_untyped body
  is_untyped (Trees.TypeAlias name parameters value) = false
  is_untyped (Trees.For target iter body orelse) = are_untyped body && are_untyped orelse
  is_untyped (Trees.AsyncFor target iter body orelse) = are_untyped body && are_untyped orelse
  is_untyped (Trees.While test body orelse) = are_untyped body && are_untyped orelse
  is_untyped (Trees.If test body orelse) = are_untyped body && are_untyped orelse
  is_untyped (Trees.With items body) = are_untyped body
  is_untyped (Trees.AsyncWith items body) = are_untyped body
  is_untyped (Trees.Match subject cases) = are_cases_untyped cases
  is_untyped (Trees.Try body handlers orelse finalbody) =
      are_untyped body && (are_handlers_untyped handlers && (are_untyped orelse && are_untyped finalbody))
  is_untyped (Trees.TryStar body handlers orelse finalbody) =
      are_untyped body && (are_handlers_untyped handlers && (are_untyped orelse && are_untyped finalbody))
  is_untyped _ = true

  pub are_untyped : Trees.Stmts → Bool
  are_untyped Trees.no_stmt = true
  are_untyped (Trees.a_stmt s ss) = is_untyped s && are_untyped ss

  pub are_cases_untyped : Trees.Cases → Bool
  are_cases_untyped Trees.no_case = true
  are_cases_untyped (Trees.a_case pattern guard body cs) = are_untyped body && are_cases_untyped cs

  pub are_handlers_untyped : Trees.Handlers → Bool
  are_handlers_untyped Trees.no_handler = true
  are_handlers_untyped (Trees.a_handler class name body hs) = are_untyped body && are_handlers_untyped hs

abbrev pub is_module_untyped : Trees.Module → Bool
is_module_untyped m = are_untyped (stmts m.body)
