-- Worked modules: each has this text. The trees are those of Python's module `ast`.
--
-- Carries: no contract; its rows are computed as it is checked.
use Rattle.std.proofs.Common.{◌≡◌, refl, List, [], ◌∷◌, map, Option, Some, None, true, false, ℕ}
use Rattle.std.specs.Prelude.{codes}
use Rattle.pynumber.specs.Decimals.{decimal_text}
use Rattle.pytree_node.specs.declared.operators.Operator.TheVariants as Bin
use Rattle.pytree_node.specs.declared.operators.Context.TheVariants.{Load, Store, Del}
use Rattle.pytree_node.specs.Values
use Rattle.pytree_node.specs.Trees.{Identifier, Expr, Stmt, Alias, Item, NamedExpr, Lambda, GeneratorExp, Await, Yield, Call, Constant}
use Rattle.pytree_node.specs.Trees.{Attribute}
use Rattle.pytree_node.specs.Trees.{Subscript, Starred, Name, Tuple, exprs, no_exprs, absent, present, optionals, no_optional, arg, args}
use Rattle.pytree_node.specs.Trees.{no_arg}
use Rattle.pytree_node.specs.Trees.{absent_arg, present_arg, arguments, no_comprehension, a_comprehension, no_keyword, a_keyword}
use Rattle.pytree_node.specs.Trees.{FunctionDef}
use Rattle.pytree_node.specs.Trees.{AsyncFunctionDef, ClassDef, Return, Delete, Assign, TypeAlias, AugAssign, AnnAssign, For, AsyncFor}
use Rattle.pytree_node.specs.Trees.{While, If}
use Rattle.pytree_node.specs.Trees.{With, AsyncWith, Raise, Try, TryStar, Assert, Import, ImportFrom, Global, Nonlocal, ExprOf, Pass, Break}
use Rattle.pytree_node.specs.Trees.{Continue}
use Rattle.pytree_node.specs.Trees.{stmts, no_stmt, no_handler, a_handler, TypeVar, ParamSpec, TypeVarTuple}
use Rattle.pyunparse_text.specs.Levels.{leads, reaches}
use Rattle.pyunparse_text.specs.Written.{fit, written}
use Rattle.pyunparse_text.specs.Modules.{lines_of, module_text}

abbrev item : Expr → Option Expr → Item
item e t = record { context_expr = e; optional_vars = t }

abbrev alias : Identifier → Option Identifier → Alias
alias x a = record { name = x; asname = a }

record Row : Type 0 where
  body : List Stmt
  text : List ℕ

abbrev row : List Stmt → List ℕ → Row
row ss t = record { body = ss; text = t }

abbrev AreWritten : List Row → Type 0
AreWritten rows = map (λ r. module_text (record { body = r.body })) rows ≡ map (λ r. r.text) rows

abbrev a : Expr
a = Name (codes "a") Load

abbrev b : Expr
b = Name (codes "b") Load

abbrev c : Expr
c = Name (codes "c") Load

abbrev d : Expr
d = Name (codes "d") Load

abbrev e : Expr
e = Name (codes "e") Load

abbrev f : Expr
f = Name (codes "f") Load

abbrev g : Expr
g = Name (codes "g") Load

abbrev x : Expr
x = Name (codes "x") Load

abbrev y : Expr
y = Name (codes "y") Load

abbrev z : Expr
z = Name (codes "z") Load

-- Assignments.
assignments : AreWritten (
    row (
    (Assign ((Name (codes "x") Store) ∷ (Name (codes "y") Store) ∷ [])
    (Tuple (exprs ((Constant (Values.Int 1)) ∷ (Constant (Values.Int 2)) ∷ [])) Load)) ∷
    (Assign ((Tuple (exprs ((Starred (Name (codes "a") Store) Store) ∷ (Name (codes "b") Store) ∷ [])) Store) ∷ []) c) ∷
    (AnnAssign (Name (codes "x") Store) a None true) ∷
    (AnnAssign (Name (codes "x") Store) a (Some (Constant (Values.Int 1))) false) ∷
    (AnnAssign (Attribute x (codes "y") Store) a (Some (Yield absent)) false) ∷
    (AnnAssign (Subscript x (Constant (Values.Int 0)) Store) a (Some (Tuple (exprs ((Starred b Load) ∷ c ∷ [])) Load)) false) ∷
    [])
    (codes "x = y = 1, 2\n*a, b = c\nx: a\n(x): a = 1\nx.y: a = yield\nx[0]: a = *b, c\n") ∷
    row (
    (AugAssign (Name (codes "x") Store) Bin.Add (Yield absent)) ∷
    (AugAssign (Name (codes "x") Store) Bin.Sub (Constant (Values.Int 1))) ∷
    (AugAssign (Name (codes "x") Store) Bin.Mult (Constant (Values.Int 1))) ∷
    (AugAssign (Name (codes "x") Store) Bin.MatMult y) ∷
    (AugAssign (Name (codes "x") Store) Bin.Div (Constant (Values.Int 1))) ∷
    (AugAssign (Name (codes "x") Store) Bin.Mod (Constant (Values.Int 1))) ∷
    (AugAssign (Name (codes "x") Store) Bin.BitAnd (Constant (Values.Int 1))) ∷
    (AugAssign (Name (codes "x") Store) Bin.BitOr (Constant (Values.Int 1))) ∷
    (AugAssign (Name (codes "x") Store) Bin.BitXor (Constant (Values.Int 1))) ∷
    (AugAssign (Name (codes "x") Store) Bin.LShift (Constant (Values.Int 1))) ∷
    (AugAssign (Name (codes "x") Store) Bin.RShift (Constant (Values.Int 1))) ∷
    (AugAssign (Name (codes "x") Store) Bin.Pow (Constant (Values.Int 2))) ∷
    (AugAssign (Name (codes "x") Store) Bin.FloorDiv (Tuple (exprs (y ∷ z ∷ [])) Load)) ∷
    [])
    (codes "x += yield\nx -= 1\nx *= 1\nx @= y\nx /= 1\nx %= 1\nx &= 1\nx |= 1\nx ^= 1\nx <<= 1\nx >>= 1\nx **= 2\nx //= y, z\n") ∷
    [])
unfolding lines_of written fit reaches leads decimal_text
assignments = refl

-- Other simple statements.
simples : AreWritten (
    row (
    (Delete ((Name (codes "a") Del) ∷ (Tuple (exprs ((Name (codes "b") Del) ∷ (Name (codes "c") Del) ∷ [])) Del) ∷
    (Subscript d (Constant (Values.Int 0)) Del) ∷ [])) ∷
    (Return None) ∷
    (Return (Some (Tuple (exprs (a ∷ (Starred b Load) ∷ [])) Load))) ∷
    (Return (Some (Yield absent))) ∷
    (Raise None None) ∷
    (Raise (Some a) None) ∷
    (Raise (Some a) (Some b)) ∷
    (Assert a None) ∷
    (Assert a (Some (Tuple (exprs (b ∷ c ∷ [])) Load))) ∷
    Pass ∷
    Break ∷
    Continue ∷
    [])
    (codes "del a, (b, c), d[0]\nreturn\nreturn a, *b\nreturn (yield)\nraise\nraise a\nraise a from b\nassert a\nassert a, (b, c)\npass\nbreak\ncontinue\n") ∷
    row (
    (Global ((codes "a") ∷ (codes "b") ∷ [])) ∷
    (Nonlocal ((codes "a") ∷ [])) ∷
    (ExprOf (Call f (exprs (x ∷ [])) no_keyword)) ∷
    (ExprOf (Yield absent)) ∷
    (ExprOf (Await x)) ∷
    (ExprOf (NamedExpr (Name (codes "a") Store) (Constant (Values.Int 1)))) ∷
    [])
    (codes "global a, b\nnonlocal a\nf(x)\nyield\nawait x\n(a := 1)\n") ∷
    [])
unfolding lines_of written fit reaches leads decimal_text
simples = refl

-- Imports.
imports : AreWritten (
    row
    ((Import ((alias (codes "a") None) ∷ [])) ∷ (Import ((alias (codes "a.b.c") (Some (codes "d"))) ∷ (alias (codes "e") None) ∷ [])) ∷
    (ImportFrom (Some (codes "a")) ((alias (codes "b") None) ∷ []) 0) ∷ [])
    (codes "import a\nimport a.b.c as d, e\nfrom a import b\n") ∷
    row (
    (ImportFrom None ((alias (codes "b") None) ∷ []) 1) ∷
    (ImportFrom None ((alias (codes "b") (Some (codes "c"))) ∷ (alias (codes "d") None) ∷ []) 2) ∷
    (ImportFrom (Some (codes "a.b")) ((alias (codes "c") None) ∷ []) 3) ∷
    (ImportFrom (Some (codes "x")) ((alias (codes "y") None) ∷ []) 5) ∷
    (ImportFrom None ((alias (codes "*") None) ∷ []) 4) ∷
    (ImportFrom (Some (codes "a.b")) ((alias (codes "*") None) ∷ []) 0) ∷
    (ImportFrom (Some (codes "a")) ((alias (codes "b") None) ∷ []) 1) ∷
    [])
    (codes "from . import b\nfrom .. import b as c, d\nfrom ...a.b import c\nfrom .....x import y\nfrom .... import *\nfrom a.b import *\nfrom .a import b\n") ∷
    [])
unfolding lines_of written fit reaches leads decimal_text
imports = refl

-- `if` and the loops.
choices : AreWritten (
    row ((If a (stmts ((ExprOf b) ∷ [])) no_stmt) ∷ [])
    (codes "if a:\n    b\n") ∷
    row
    ((If a (stmts ((ExprOf b) ∷ []))
    (stmts ((If c (stmts ((ExprOf d) ∷ [])) (stmts ((If e (stmts ((ExprOf f) ∷ [])) (stmts ((ExprOf g) ∷ []))) ∷ []))) ∷ []))) ∷ [])
    (codes "if a:\n    b\nelif c:\n    d\nelif e:\n    f\nelse:\n    g\n") ∷
    row ((If a (stmts ((ExprOf b) ∷ [])) (stmts ((If c (stmts ((ExprOf d) ∷ [])) no_stmt) ∷ (ExprOf e) ∷ []))) ∷ [])
    (codes "if a:\n    b\nelse:\n    if c:\n        d\n    e\n") ∷
    row ((While (NamedExpr (Name (codes "x") Store) a) (stmts ((ExprOf b) ∷ [])) (stmts ((ExprOf c) ∷ []))) ∷ [])
    (codes "while x := a:\n    b\nelse:\n    c\n") ∷
    row ((For (Name (codes "x") Store) (Tuple (exprs (a ∷ [])) Load) (stmts ((ExprOf b) ∷ [])) no_stmt) ∷ [])
    (codes "for x in a,:\n    b\n") ∷
    row
    ((For (Tuple (exprs ((Starred (Name (codes "x") Store) Store) ∷ (Name (codes "y") Store) ∷ [])) Store)
    (Tuple (exprs ((Starred a Load) ∷ b ∷ [])) Load) (stmts ((ExprOf c) ∷ [])) (stmts ((ExprOf d) ∷ []))) ∷ [])
    (codes "for *x, y in *a, b:\n    c\nelse:\n    d\n") ∷
    row ((AsyncFor (Name (codes "x") Store) y (stmts ((ExprOf z) ∷ [])) no_stmt) ∷ [])
    (codes "async for x in y:\n    z\n") ∷
    [])
unfolding lines_of written fit reaches leads decimal_text
choices = refl

-- `with`, and the brackets that would be read as its own.
items : AreWritten (
    row ((With ((item a None) ∷ []) (stmts ((ExprOf b) ∷ []))) ∷ [])
    (codes "with a:\n    b\n") ∷
    row ((With ((item a (Some (Name (codes "b") Store))) ∷ (item c None) ∷ []) (stmts ((ExprOf d) ∷ []))) ∷ [])
    (codes "with a as b, c:\n    d\n") ∷
    row ((With ((item a None) ∷ (item b None) ∷ []) (stmts ((ExprOf c) ∷ []))) ∷ [])
    (codes "with a, b:\n    c\n") ∷
    row ((With ((item (Tuple (exprs (a ∷ b ∷ [])) Load) None) ∷ []) (stmts ((ExprOf c) ∷ []))) ∷ [])
    (codes "with ((a, b)):\n    c\n") ∷
    row ((With ((item (Tuple (exprs (a ∷ (Starred b Load) ∷ [])) Load) None) ∷ []) (stmts ((ExprOf c) ∷ []))) ∷ [])
    (codes "with (a, *b):\n    c\n") ∷
    row ((With ((item (Tuple (exprs (a ∷ b ∷ [])) Load) (Some (Name (codes "c") Store))) ∷ []) (stmts ((ExprOf d) ∷ []))) ∷ [])
    (codes "with (a, b) as c:\n    d\n") ∷
    row
    ((With ((item (Tuple (exprs (a ∷ (NamedExpr (Name (codes "b") Store) (Constant (Values.Int 1))) ∷ [])) Load) None) ∷ [])
    (stmts ((ExprOf c) ∷ []))) ∷ [])
    (codes "with (a, b := 1):\n    c\n") ∷
    row
    ((With ((item a (Some (Tuple (exprs ((Name (codes "b") Store) ∷ (Name (codes "c") Store) ∷ [])) Store))) ∷ [])
    (stmts ((ExprOf d) ∷ []))) ∷ [])
    (codes "with a as (b, c):\n    d\n") ∷
    row ((With ((item a (Some (Starred (Name (codes "b") Store) Store))) ∷ (item c None) ∷ []) (stmts ((ExprOf d) ∷ []))) ∷ [])
    (codes "with a as *b, c:\n    d\n") ∷
    row ((AsyncWith ((item a (Some (Name (codes "b") Store))) ∷ []) (stmts ((ExprOf c) ∷ []))) ∷ [])
    (codes "async with a as b:\n    c\n") ∷
    row ((With ((item (Tuple no_exprs Load) None) ∷ []) (stmts ((ExprOf a) ∷ []))) ∷ [])
    (codes "with ():\n    a\n") ∷
    [])
unfolding lines_of written fit reaches leads decimal_text
items = refl

-- `try`.
tries : AreWritten (
    row ((Try (stmts ((ExprOf a) ∷ [])) (a_handler None None (stmts ((ExprOf b) ∷ [])) no_handler) no_stmt no_stmt) ∷ [])
    (codes "try:\n    a\nexcept:\n    b\n") ∷
    row
    ((Try (stmts ((ExprOf a) ∷ [])) (a_handler (Some b) None (stmts ((ExprOf c) ∷ [])) (a_handler (Some (Tuple (exprs (b ∷ c ∷ [])) Load))
    (Some (codes "d")) (stmts ((ExprOf e) ∷ [])) no_handler)) (stmts ((ExprOf f) ∷ [])) (stmts ((ExprOf g) ∷ []))) ∷ [])
    (codes "try:\n    a\nexcept b:\n    c\nexcept (b, c) as d:\n    e\nelse:\n    f\nfinally:\n    g\n") ∷
    row ((Try (stmts ((ExprOf a) ∷ [])) no_handler no_stmt (stmts ((ExprOf b) ∷ []))) ∷ [])
    (codes "try:\n    a\nfinally:\n    b\n") ∷
    row
    ((TryStar (stmts ((ExprOf a) ∷ [])) (a_handler (Some b) (Some (codes "c")) (stmts ((ExprOf d) ∷ []))
    (a_handler (Some (Tuple (exprs (b ∷ c ∷ [])) Load)) None (stmts ((ExprOf e) ∷ [])) no_handler)) no_stmt no_stmt) ∷ [])
    (codes "try:\n    a\nexcept *b as c:\n    d\nexcept *(b, c):\n    e\n") ∷
    [])
unfolding lines_of written fit reaches leads decimal_text
tries = refl

-- Definitions.
definitions : AreWritten (
    row
    ((FunctionDef (codes "f") (arguments no_arg no_arg absent_arg no_arg no_optional absent_arg no_exprs)
    (stmts ((ExprOf a) ∷ [])) [] None []) ∷ [])
    (codes "def f():\n    a\n") ∷
    row
    ((FunctionDef (codes "f") (arguments (args ((arg (codes "x") absent) ∷ [])) (args ((arg (codes "y") (present a)) ∷ []))
    (present_arg (arg (codes "z") (present (Starred b Load)))) (args ((arg (codes "k") (present c)) ∷ (arg (codes "d") absent) ∷ []))
    (optionals ((Some (Constant (Values.Int 2))) ∷ None ∷ [])) (present_arg (arg (codes "e") absent))
    (exprs ((Constant (Values.Int 1)) ∷ []))) (stmts ((Return (Some x)) ∷ []))
    (a ∷ (Call (Attribute b (codes "c") Load) (exprs (d ∷ [])) no_keyword) ∷ []) (Some f) []) ∷ [])
    (codes "@a\n@b.c(d)\ndef f(x, /, y: a=1, *z: *b, k: c=2, d, **e) -> f:\n    return x\n") ∷
    row
    ((AsyncFunctionDef (codes "f") (arguments no_arg no_arg absent_arg (args ((arg (codes "a") absent) ∷ [])) (optionals (None ∷ []))
    absent_arg no_exprs) (stmts ((ExprOf (Await b)) ∷ [])) [] None []) ∷ [])
    (codes "async def f(*, a):\n    await b\n") ∷
    row ((ClassDef (codes "A") [] no_keyword (stmts ((ExprOf a) ∷ [])) [] []) ∷ [])
    (codes "class A:\n    a\n") ∷
    row ((ClassDef (codes "A") [] no_keyword (stmts (Pass ∷ [])) [] []) ∷ [])
    (codes "class A:\n    pass\n") ∷
    row
    ((ClassDef (codes "A") (b ∷ (Starred c Load) ∷ []) (a_keyword (Some (codes "k")) d (a_keyword None e no_keyword))
    (stmts ((Assign ((Name (codes "x") Store) ∷ []) (Constant (Values.Int 1))) ∷
    (FunctionDef (codes "f") (arguments no_arg (args ((arg (codes "self") absent) ∷ [])) absent_arg no_arg no_optional absent_arg
    no_exprs) (stmts (Pass ∷ [])) [] None []) ∷ [])) (a ∷ []) []) ∷ [])
    (codes "@a\nclass A(b, *c, k=d, **e):\n    x = 1\n    def f(self):\n        pass\n") ∷
    row
    ((ClassDef (codes "A") ((GeneratorExp x (a_comprehension (Name (codes "x") Store) y no_exprs false no_comprehension)) ∷ []) no_keyword
    (stmts (Pass ∷ [])) [] []) ∷ [])
    (codes "class A((x for x in y)):\n    pass\n") ∷
    [])
unfolding lines_of written fit reaches leads decimal_text
definitions = refl

-- Types of Python 3.12.
types : AreWritten (
    row
    ((TypeAlias (Name (codes "X") Store) ((TypeVar (codes "T") (Some a)) ∷ (TypeVarTuple (codes "Ts")) ∷ (ParamSpec (codes "P")) ∷ [])
    (Subscript b c Load)) ∷ [])
    (codes "type X[T: a, *Ts, **P] = b[c]\n") ∷
    row
    ((FunctionDef (codes "f") (arguments no_arg (args ((arg (codes "a") absent) ∷ [])) absent_arg no_arg no_optional absent_arg no_exprs)
    (stmts ((Return (Some a)) ∷ [])) [] None ((TypeVar (codes "T") None) ∷ [])) ∷ [])
    (codes "def f[T](a):\n    return a\n") ∷
    row
    ((ClassDef (codes "A") [] no_keyword (stmts (Pass ∷ [])) [] ((TypeVar (codes "T") None) ∷ [])) ∷
    (ClassDef (codes "B") (a ∷ []) no_keyword (stmts (Pass ∷ [])) [] ((TypeVarTuple (codes "Ts")) ∷ (ParamSpec (codes "P")) ∷ [])) ∷ [])
    (codes "class A[T]:\n    pass\nclass B[*Ts, **P](a):\n    pass\n") ∷
    row
    ((TypeAlias (Name (codes "X") Store) [] (Lambda (arguments no_arg no_arg absent_arg no_arg no_optional absent_arg no_exprs)
    (Constant (Values.Int 0)))) ∷ [])
    (codes "type X = lambda: 0\n") ∷
    [])
unfolding lines_of written fit reaches leads decimal_text
types = refl
