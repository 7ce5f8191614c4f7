-- Worked simple statements: the text of each. The trees are those of Python's module `ast`.
--
-- Carries: no contract; its rows are computed as it is checked. On: WorkedRows.
use Rattle.std.proofs.Common.{refl, [], ◌∷◌, Some, None, true, false}
use Rattle.std.specs.Prelude.{codes}
use Rattle.pynumber.specs.Decimals.{decimal_text}
use Rattle.pytree_node.specs.declared.operators.Operator.TheVariants as Bin
use Rattle.pytree_node.specs.declared.operators.Context.TheVariants.{Load, Store, Del}
use Rattle.pytree_node.specs.Values
use Rattle.pytree_node.specs.Trees.{NamedExpr, Lambda, Yield, Constant, Attribute, Subscript, Starred, Name, ListOf, Tuple, exprs, no_exprs}
use Rattle.pytree_node.specs.Trees.{absent}
use Rattle.pytree_node.specs.Trees.{present, Return, Delete, Assign, AugAssign, AnnAssign, Raise, Assert, ImportFrom, ExprOf, Break}
use Rattle.pytree_node.specs.Trees.{Continue}
use Rattle.pygrammar.specs.Parameters.{no_arguments}
use Rattle.pygrammar.specs.Forms.{alias}
use Rattle.pyunparse_text.specs.Levels.{leads, reaches}
use Rattle.pyunparse_text.specs.Written.{fit, written}
use Rattle.pyunparse_text.specs.Modules.{lines_of, statement_lines, alternative, clause, handler_lines}
use Rattle.pyunparse_text.proofs.WorkedRows.{row, AreWritten, a, b, c, d, f, g}

-- Assignments.
assignments : AreWritten (
    row (Assign ((Name (codes "a") Store) ∷ (Name (codes "b") Store) ∷ []) (Tuple (exprs (c ∷ d ∷ [])) Load) ∷ [])
    (codes "a = b = c, d" ∷ []) ∷
    row (Assign ((Tuple (exprs ((Name (codes "a") Store) ∷ (Starred (Name (codes "b") Store) Store) ∷ [])) Store) ∷ []) c ∷ [])
    (codes "a, *b = c" ∷ []) ∷
    row (Assign ((Tuple (exprs ((Starred (Name (codes "a") Store) Store) ∷ [])) Store) ∷ []) b ∷ []) (codes "*a, = b" ∷ []) ∷
    row (Assign ((Name (codes "a") Store) ∷ []) (Yield (present b)) ∷ []) (codes "a = yield b" ∷ []) ∷
    row (Assign ((Name (codes "a") Store) ∷ []) (NamedExpr (Name (codes "b") Store) (Constant (Values.Int 1))) ∷ [])
    (codes "a = (b := 1)" ∷ []) ∷
    row
    (Assign ((Tuple (exprs
    ((Tuple (exprs ((Name (codes "a") Store) ∷
    (ListOf (exprs ((Name (codes "b") Store) ∷ (Starred (Name (codes "c") Store) Store) ∷ [])) Store) ∷ [])) Store) ∷
    (Attribute d (codes "e") Store) ∷ (Subscript f (Constant (Values.Int 0)) Store) ∷ [])) Store) ∷ []) g ∷ [])
    (codes "(a, [b, *c]), d.e, f[0] = g" ∷ []) ∷
    row (AnnAssign (Name (codes "a") Store) b (Some (Tuple (exprs (c ∷ d ∷ [])) Load)) true ∷ []) (codes "a: b = c, d" ∷ []) ∷
    row (AnnAssign (Name (codes "a") Store) b (Some (Yield absent)) false ∷ []) (codes "(a): b = yield" ∷ []) ∷
    row (AnnAssign (Attribute a (codes "b") Store) c None false ∷ []) (codes "a.b: c" ∷ []) ∷
    row
    (AugAssign (Attribute a (codes "b") Store) Bin.Sub (Constant (Values.Int 1)) ∷ AugAssign (Name (codes "a") Store) Bin.Mult
    (Constant (Values.Int 1)) ∷ AugAssign (Subscript a (Constant (Values.Int 0)) Store) Bin.MatMult (Tuple (exprs (b ∷ c ∷ [])) Load) ∷
    AugAssign (Name (codes "a") Store) Bin.Div (Constant (Values.Int 1)) ∷ AugAssign (Name (codes "a") Store) Bin.Mod
    (Constant (Values.Int 1)) ∷ AugAssign (Name (codes "a") Store) Bin.BitAnd (Constant (Values.Int 1)) ∷ [])
    (codes "a.b -= 1" ∷ codes "a *= 1" ∷ codes "a[0] @= b, c" ∷ codes "a /= 1" ∷ codes "a %= 1" ∷ codes "a &= 1" ∷ []) ∷
    row (AugAssign (Name (codes "a") Store) Bin.BitOr (Constant (Values.Int 1)) ∷ AugAssign (Name (codes "a") Store) Bin.BitXor
    (Constant (Values.Int 1)) ∷ AugAssign (Name (codes "a") Store) Bin.LShift (Constant (Values.Int 1)) ∷ AugAssign
    (Name (codes "a") Store) Bin.RShift (Constant (Values.Int 1)) ∷ AugAssign (Name (codes "a") Store) Bin.Pow (Constant (Values.Int 2))
    ∷ AugAssign (Name (codes "a") Store) Bin.FloorDiv b ∷ []) (codes "a |= 1" ∷ codes "a ^= 1" ∷ codes "a <<= 1" ∷ codes "a >>= 1" ∷
    codes "a **= 2" ∷ codes "a //= b" ∷ []) ∷ [])
unfolding lines_of statement_lines alternative clause handler_lines written fit reaches leads decimal_text
assignments = refl

-- Imports: three dots are one token, and dots keep close to one another and to the module.
imports : AreWritten (
    row (ImportFrom (Some (codes "a.b")) (alias (codes "c") (Some (codes "d")) ∷ alias (codes "e") None ∷ []) 0 ∷ [])
    (codes "from a.b import c as d, e" ∷ []) ∷
    row (ImportFrom None (alias (codes "*") None ∷ []) 3 ∷ []) (codes "from ... import *" ∷ []) ∷
    row (ImportFrom None (alias (codes "a") None ∷ []) 4 ∷ []) (codes "from .... import a" ∷ []) ∷
    row (ImportFrom None (alias (codes "a") None ∷ []) 5 ∷ []) (codes "from ..... import a" ∷ []) ∷
    row (ImportFrom None (alias (codes "a") None ∷ []) 6 ∷ []) (codes "from ...... import a" ∷ []) ∷
    row (ImportFrom (Some (codes "a.b")) (alias (codes "*") None ∷ []) 7 ∷ []) (codes "from .......a.b import *" ∷ []) ∷ [])
unfolding lines_of statement_lines alternative clause handler_lines written fit reaches leads decimal_text
imports = refl

-- The others.
others : AreWritten (
    row (ExprOf a ∷ []) (codes "a" ∷ []) ∷
    row (ExprOf (Tuple (exprs ((Yield absent) ∷ [])) Load) ∷ []) (codes "(yield)," ∷ []) ∷
    row (ExprOf (Lambda no_arguments (Constant (Values.Int 0))) ∷ []) (codes "lambda: 0" ∷ []) ∷
    row (Break ∷ Continue ∷ []) (codes "break" ∷ codes "continue" ∷ []) ∷
    row (Return (Some (Tuple (exprs (a ∷ (NamedExpr (Name (codes "b") Store) (Constant (Values.Int 1))) ∷ [])) Load)) ∷ [])
    (codes "return (a, b := 1)" ∷ []) ∷
    row (Raise (Some (Yield absent)) None ∷ []) (codes "raise (yield)" ∷ []) ∷
    row (Assert (Tuple (exprs (a ∷ b ∷ [])) Load) (Some c) ∷ []) (codes "assert (a, b), c" ∷ []) ∷
    row (Delete ((Name (codes "a") Del) ∷ []) ∷ []) (codes "del a" ∷ []) ∷
    row
    (Delete ((Name (codes "a") Del) ∷ (Attribute b (codes "c") Del) ∷
    (Tuple (exprs ((Name (codes "d") Del) ∷ (ListOf (exprs ((Name (codes "e") Del) ∷ [])) Del) ∷ [])) Del) ∷
    (Subscript f (Constant (Values.Int 0)) Del) ∷ []) ∷ [])
    (codes "del a, b.c, (d, [e]), f[0]" ∷ []) ∷
    row (Delete ((Tuple no_exprs Del) ∷ []) ∷ []) (codes "del ()" ∷ []) ∷ [])
unfolding lines_of statement_lines alternative clause handler_lines written fit reaches leads decimal_text
others = refl
