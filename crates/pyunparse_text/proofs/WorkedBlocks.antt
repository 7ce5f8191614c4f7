-- Worked statements with blocks: the text of each. The trees are those of Python's module `ast`.
--
-- Carries: no contract; its rows are computed as it is checked. On: WorkedRows.
use Rattle.std.proofs.Common.{refl, [], ◌∷◌, Some, None, true, false}
use Rattle.std.specs.Prelude.{codes}
use Rattle.pynumber.specs.Decimals.{decimal_text}
use Rattle.pytree_node.specs.declared.operators.Context.TheVariants.{Load, Store}
use Rattle.pytree_node.specs.Values
use Rattle.pytree_node.specs.Trees.{NamedExpr, GeneratorExp, Yield, Call, Constant, Attribute, Starred, Name, ListOf, Tuple, exprs}
use Rattle.pytree_node.specs.Trees.{no_exprs, absent}
use Rattle.pytree_node.specs.Trees.{present, optionals, no_optional, arg, args, no_arg, absent_arg, present_arg, arguments}
use Rattle.pytree_node.specs.Trees.{no_comprehension}
use Rattle.pytree_node.specs.Trees.{a_comprehension, no_keyword, a_keyword, FunctionDef, AsyncFunctionDef, ClassDef, Return, AnnAssign, For}
use Rattle.pytree_node.specs.Trees.{While}
use Rattle.pytree_node.specs.Trees.{If, With, AsyncWith, Try, TryStar, ExprOf, Pass, stmts, no_stmt, a_handler, no_handler}
use Rattle.pygrammar.specs.Parameters.{no_arguments}
use Rattle.pygrammar.specs.Forms.{item}
use Rattle.pyunparse_text.specs.Levels.{leads, reaches}
use Rattle.pyunparse_text.specs.Written.{fit, written}
use Rattle.pyunparse_text.specs.Modules.{lines_of, statement_lines, alternative, clause, handler_lines}
use Rattle.pyunparse_text.proofs.WorkedRows.{row, AreWritten, a, b, c, d, e, f, g, h, i, j, k, l, m}

-- `if`: an If alone in an `orelse` is an `elif`.
branches : AreWritten (
    row (If a (stmts (ExprOf b ∷ ExprOf c ∷ [])) no_stmt ∷ []) (codes "if a:" ∷ codes "    b" ∷ codes "    c" ∷ []) ∷
    row (If a (stmts (ExprOf b ∷ [])) (stmts (If c (stmts (ExprOf d ∷ [])) no_stmt ∷ [])) ∷ [])
    (codes "if a:" ∷ codes "    b" ∷ codes "elif c:" ∷ codes "    d" ∷ []) ∷
    row (If a (stmts (ExprOf b ∷ [])) (stmts (While c (stmts (ExprOf d ∷ [])) no_stmt ∷ [])) ∷ [])
    (codes "if a:" ∷ codes "    b" ∷ codes "else:" ∷ codes "    while c:" ∷ codes "        d" ∷ []) ∷
    row (If (NamedExpr (Name (codes "a") Store) b) (stmts (Pass ∷ [])) no_stmt ∷ []) (codes "if a := b:" ∷ codes "    pass" ∷ []) ∷
    row (If (Yield absent) (stmts (Pass ∷ [])) no_stmt ∷ []) (codes "if (yield):" ∷ codes "    pass" ∷ []) ∷
    row (If a (stmts (If b (stmts (ExprOf c ∷ [])) no_stmt ∷ ExprOf d ∷ [])) no_stmt ∷ ExprOf e ∷ [])
    (codes "if a:" ∷ codes "    if b:" ∷ codes "        c" ∷ codes "    d" ∷ codes "e" ∷ []) ∷ [])
unfolding lines_of statement_lines alternative clause handler_lines written fit reaches leads decimal_text
branches = refl

-- `while` and `for`.
loops : AreWritten (
    row (While (Tuple (exprs (a ∷ b ∷ [])) Load) (stmts (ExprOf c ∷ [])) no_stmt ∷ []) (codes "while (a, b):" ∷ codes "    c" ∷ []) ∷
    row (For (Name (codes "a") Store) b (stmts (ExprOf c ∷ [])) no_stmt ∷ []) (codes "for a in b:" ∷ codes "    c" ∷ []) ∷
    row
    (For (Tuple (exprs ((Name (codes "a") Store) ∷ (Starred (Name (codes "b") Store) Store) ∷ [])) Store)
    (Tuple (exprs (c ∷ (Starred d Load) ∷ [])) Load) (stmts (ExprOf e ∷ [])) no_stmt ∷ [])
    (codes "for a, *b in c, *d:" ∷ codes "    e" ∷ []) ∷
    row
    (For (Tuple (exprs ((Name (codes "a") Store) ∷ [])) Store) (Tuple (exprs (b ∷ [])) Load) (stmts (ExprOf c ∷ []))
    (stmts (If d (stmts (ExprOf e ∷ [])) no_stmt ∷ [])) ∷ [])
    (codes "for a, in b,:" ∷ codes "    c" ∷ codes "else:" ∷ codes "    if d:" ∷ codes "        e" ∷ []) ∷
    row (For (Starred (Name (codes "a") Store) Store) b (stmts (ExprOf c ∷ [])) no_stmt ∷ []) (codes "for *a in b:" ∷ codes "    c" ∷ []) ∷
    row (For (Tuple (exprs
    ((Attribute a (codes "b") Store) ∷ (ListOf (exprs ((Name (codes "c") Store) ∷ (Starred (Name (codes "d") Store) Store) ∷ [])) Store)
    ∷ [])) Store) e (stmts (ExprOf f ∷ [])) no_stmt ∷ []) (codes "for a.b, [c, *d] in e:" ∷ codes "    f" ∷ []) ∷ [])
unfolding lines_of statement_lines alternative clause handler_lines written fit reaches leads decimal_text
loops = refl

-- `with`: the items have brackets of their own only where those of a Tuple would be read as theirs.
contexts : AreWritten (
    row (With (item (Tuple (exprs (a ∷ [])) Load) None ∷ []) (stmts (ExprOf b ∷ [])) ∷ []) (codes "with ((a,)):" ∷ codes "    b" ∷ []) ∷
    row (With (item (NamedExpr (Name (codes "a") Store) (Constant (Values.Int 1))) None ∷ item b None ∷ []) (stmts (ExprOf c ∷ [])) ∷ [])
    (codes "with (a := 1), b:" ∷ codes "    c" ∷ []) ∷
    row
    (With (item (Tuple (exprs ((NamedExpr (Name (codes "a") Store) (Constant (Values.Int 1))) ∷ b ∷ [])) Load) None ∷ [])
    (stmts (ExprOf c ∷ [])) ∷ [])
    (codes "with (a := 1, b):" ∷ codes "    c" ∷ []) ∷
    row (With (item (Yield absent) None ∷ []) (stmts (ExprOf a ∷ [])) ∷ []) (codes "with (yield):" ∷ codes "    a" ∷ []) ∷
    row (With (item (Attribute (Tuple (exprs (a ∷ b ∷ [])) Load) (codes "c") Load) None ∷ []) (stmts (ExprOf d ∷ [])) ∷ [])
    (codes "with (a, b).c:" ∷ codes "    d" ∷ []) ∷
    row
    (With (item a (Some (Tuple (exprs ((Name (codes "b") Store) ∷ (Starred (Name (codes "c") Store) Store) ∷ [])) Store)) ∷ item d
    (Some (ListOf (exprs ((Name (codes "e") Store) ∷ [])) Store)) ∷ []) (stmts (ExprOf f ∷ [])) ∷ [])
    (codes "with a as (b, *c), d as [e]:" ∷ codes "    f" ∷ []) ∷
    row (With (item a (Some (Starred (Name (codes "b") Store) Store)) ∷ []) (stmts (ExprOf c ∷ [])) ∷ [])
    (codes "with a as *b:" ∷ codes "    c" ∷ []) ∷
    row (AsyncWith (item a (Some (Attribute b (codes "c") Store)) ∷ []) (stmts (ExprOf d ∷ [])) ∷ [])
    (codes "async with a as b.c:" ∷ codes "    d" ∷ []) ∷ [])
unfolding lines_of statement_lines alternative clause handler_lines written fit reaches leads decimal_text
contexts = refl

-- `try`.
handlers : AreWritten (
    row
    (Try (stmts (ExprOf a ∷ [])) (a_handler (Some b) None (stmts (ExprOf c ∷ [])) (a_handler (Some (Tuple (exprs (d ∷ e ∷ [])) Load))
    (Some (codes "f")) (stmts (ExprOf g ∷ [])) (a_handler None None (stmts (ExprOf h ∷ [])) no_handler))) (stmts (ExprOf i ∷ []))
    (stmts (ExprOf j ∷ [])) ∷ [])
    (codes "try:" ∷ codes "    a" ∷ codes "except b:" ∷ codes "    c" ∷ codes "except (d, e) as f:" ∷ codes "    g" ∷ codes "except:" ∷
    codes "    h" ∷ codes "else:" ∷ codes "    i" ∷ codes "finally:" ∷ codes "    j" ∷ []) ∷
    row
    (TryStar (stmts (ExprOf a ∷ [])) (a_handler (Some b) None (stmts (ExprOf c ∷ [])) (a_handler (Some (Tuple (exprs (d ∷ e ∷ [])) Load))
    (Some (codes "f")) (stmts (ExprOf g ∷ [])) no_handler)) no_stmt no_stmt ∷ [])
    (codes "try:" ∷ codes "    a" ∷ codes "except *b:" ∷ codes "    c" ∷ codes "except *(d, e) as f:" ∷ codes "    g" ∷ []) ∷
    row (Try (stmts (Try (stmts (ExprOf a ∷ [])) no_handler no_stmt (stmts (ExprOf b ∷ [])) ∷ []))
    (a_handler (Some c) None (stmts (If d (stmts (ExprOf e ∷ [])) no_stmt ∷ [])) no_handler) no_stmt no_stmt ∷ [])
    (codes "try:" ∷ codes "    try:" ∷ codes "        a" ∷ codes "    finally:" ∷ codes "        b" ∷ codes "except c:" ∷ codes
    "    if d:" ∷ codes "        e" ∷ []) ∷ [])
unfolding lines_of statement_lines alternative clause handler_lines written fit reaches leads decimal_text
handlers = refl

-- `def` and `class`: each decorator has a line.
definitions : AreWritten (
    row
    (FunctionDef (codes "f") (arguments (args ((arg (codes "a") absent) ∷ [])) (args ((arg (codes "b") (present c)) ∷ []))
    (present_arg (arg (codes "d") (present e))) (args ((arg (codes "g") absent) ∷ (arg (codes "h") (present i)) ∷ []))
    (optionals (None ∷ (Some (Constant (Values.Int 2))) ∷ [])) (present_arg (arg (codes "j") (present k)))
    (exprs ((Constant (Values.Int 1)) ∷ []))) (stmts (ExprOf m ∷ [])) [] (Some l) [] ∷ [])
    (codes "def f(a, /, b: c=1, *d: e, g, h: i=2, **j: k) -> l:" ∷ codes "    m" ∷ []) ∷
    row
    (FunctionDef (codes "f") (arguments no_arg no_arg (present_arg (arg (codes "a") (present (Starred b Load)))) no_arg no_optional
    absent_arg no_exprs) (stmts (ExprOf c ∷ [])) [] None [] ∷ [])
    (codes "def f(*a: *b):" ∷ codes "    c" ∷ []) ∷
    row
    (FunctionDef (codes "f") (arguments no_arg no_arg absent_arg (args ((arg (codes "a") absent) ∷ []))
    (optionals ((Some (Constant (Values.Int 1))) ∷ [])) absent_arg no_exprs) (stmts (ExprOf b ∷ [])) [] None [] ∷ [])
    (codes "def f(*, a=1):" ∷ codes "    b" ∷ []) ∷
    row
    (AsyncFunctionDef (codes "f") (arguments no_arg (args ((arg (codes "a") absent) ∷ [])) absent_arg no_arg no_optional absent_arg
    no_exprs) (stmts (ExprOf d ∷ [])) [] (Some (Tuple (exprs (b ∷ c ∷ [])) Load)) [] ∷ [])
    (codes "async def f(a) -> (b, c):" ∷ codes "    d" ∷ []) ∷
    row
    (FunctionDef (codes "g") no_arguments (stmts (ExprOf h ∷ [])) (a ∷ (Call (Attribute b (codes "c") Load) (exprs (d ∷ [])) no_keyword) ∷
    (NamedExpr (Name (codes "e") Store) f) ∷ []) None [] ∷ [])
    (codes "@a" ∷ codes "@b.c(d)" ∷ codes "@e := f" ∷ codes "def g():" ∷ codes "    h" ∷ []) ∷
    row
    (ClassDef (codes "A") (b ∷ (Starred c Load) ∷ []) (a_keyword (Some (codes "d")) e (a_keyword None f no_keyword))
    (stmts (ExprOf g ∷ [])) [] [] ∷ [])
    (codes "class A(b, *c, d=e, **f):" ∷ codes "    g" ∷ []) ∷
    row
    (ClassDef (codes "A") ((GeneratorExp b (a_comprehension (Name (codes "b") Store) c no_exprs false no_comprehension)) ∷ []) no_keyword
    (stmts (ExprOf d ∷ [])) [] [] ∷ [])
    (codes "class A((b for b in c)):" ∷ codes "    d" ∷ []) ∷
    row (ClassDef (codes "A") (b ∷ []) (a_keyword (Some (codes "k")) (Yield absent) no_keyword)
    (stmts (AnnAssign (Name (codes "c") Store) d (Some (Constant (Values.Int 1))) true ∷ AsyncFunctionDef (codes "f")
    (arguments no_arg (args ((arg (codes "self") absent) ∷ [])) absent_arg no_arg no_optional absent_arg no_exprs)
    (stmts (Return (Some g) ∷ [])) (e ∷ []) None [] ∷ [])) (a ∷ []) [] ∷ []) (codes "@a" ∷ codes "class A(b, k=(yield)):" ∷ codes
    "    c: d = 1" ∷ codes "    @e" ∷ codes "    async def f(self):" ∷ codes "        return g" ∷ []) ∷ [])
unfolding lines_of statement_lines alternative clause handler_lines written fit reaches leads decimal_text
definitions = refl
