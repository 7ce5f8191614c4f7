-- Worked statements with types, of Python 3.12: the text of each. The trees are those
-- of Python's module `ast`.
--
-- Carries: no contract; its rows are computed as it is checked. On: WorkedRows.
use Rattle.std.proofs.Common.{refl, [], ◌∷◌, Some, None}
use Rattle.std.specs.Prelude.{codes}
use Rattle.pynumber.specs.Decimals.{decimal_text}
use Rattle.pytree_node.specs.declared.operators.Context.TheVariants.{Load, Store}
use Rattle.pytree_node.specs.Values
use Rattle.pytree_node.specs.Trees.{Lambda, IfExp, Call, Constant, Subscript, Starred, Name, Tuple, exprs, no_exprs, present, no_optional}
use Rattle.pytree_node.specs.Trees.{arg, args}
use Rattle.pytree_node.specs.Trees.{no_arg, absent_arg, present_arg, arguments, no_keyword, a_keyword, FunctionDef, AsyncFunctionDef}
use Rattle.pytree_node.specs.Trees.{ClassDef}
use Rattle.pytree_node.specs.Trees.{Return, Assign, TypeAlias, ExprOf, Pass, stmts, TypeVar, ParamSpec, TypeVarTuple}
use Rattle.pygrammar.specs.Parameters.{no_arguments}
use Rattle.pyunparse_text.specs.Levels.{leads, reaches}
use Rattle.pyunparse_text.specs.Written.{fit, written}
use Rattle.pyunparse_text.specs.Modules.{lines_of, statement_lines, alternative, clause, handler_lines}
use Rattle.pyunparse_text.proofs.WorkedRows.{row, AreWritten, a, b, c, d, e}

-- Parameters of types keep close to the name before them.
types : AreWritten (
    row (TypeAlias (Name (codes "A") Store) [] b ∷ []) (codes "type A = b" ∷ []) ∷
    row
    (TypeAlias (Name (codes "A") Store) (TypeVar (codes "T") (Some (Name (codes "int") Load)) ∷ TypeVarTuple (codes "Ts") ∷ ParamSpec
    (codes "P") ∷ []) (Subscript (Name (codes "list") Load) (Name (codes "T") Load) Load) ∷ [])
    (codes "type A[T: int, *Ts, **P] = list[T]" ∷ []) ∷
    row (TypeAlias (Name (codes "A") Store) (TypeVar (codes "T") (Some (Tuple (exprs (a ∷ b ∷ [])) Load)) ∷ [])
    (Lambda no_arguments c) ∷ [])
    (codes "type A[T: (a, b)] = lambda: c" ∷ []) ∷
    row
    (FunctionDef (codes "f") (arguments no_arg (args ((arg (codes "a") (present (Name (codes "T") Load))) ∷ [])) absent_arg no_arg
    no_optional absent_arg no_exprs) (stmts (Return (Some a) ∷ [])) [] (Some (Name (codes "T") Load))
    (TypeVar (codes "T") None ∷ []) ∷ [])
    (codes "def f[T](a: T) -> T:" ∷ codes "    return a" ∷ []) ∷
    row (FunctionDef (codes "f") no_arguments (stmts (Pass ∷ [])) [] None (TypeVar (codes "T") None ∷ ParamSpec (codes "P") ∷ []) ∷ [])
    (codes "def f[T, **P]():" ∷ codes "    pass" ∷ []) ∷
    row
    (AsyncFunctionDef (codes "f") (arguments no_arg no_arg (present_arg (arg (codes "b") (present (Starred (Name (codes "Ts") Load) Load))))
    no_arg no_optional absent_arg no_exprs) (stmts (ExprOf c ∷ [])) (a ∷ []) None (TypeVarTuple (codes "Ts") ∷ []) ∷ [])
    (codes "@a" ∷ codes "async def f[*Ts](*b: *Ts):" ∷ codes "    c" ∷ []) ∷
    row (ClassDef (codes "A") [] no_keyword (stmts (Pass ∷ [])) [] (TypeVar (codes "T") None ∷ []) ∷ [])
    (codes "class A[T]:" ∷ codes "    pass" ∷ []) ∷
    row
    (ClassDef (codes "A") (b ∷ []) (a_keyword (Some (codes "k")) d no_keyword) (stmts (ExprOf e ∷ [])) []
    (TypeVar (codes "T") (Some (IfExp b a c)) ∷ []) ∷ [])
    (codes "class A[T: a if b else c](b, k=d):" ∷ codes "    e" ∷ []) ∷
    row (Assign ((Name (codes "type") Store) ∷ []) (Constant (Values.Int 1)) ∷ []) (codes "type = 1" ∷ []) ∷
    row (ExprOf (Call (Name (codes "type") Load) (exprs (a ∷ [])) no_keyword) ∷ []) (codes "type(a)" ∷ []) ∷ [])
unfolding lines_of statement_lines alternative clause handler_lines written fit reaches leads decimal_text
types = refl
