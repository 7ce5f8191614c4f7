-- Worked expressions: each is written so at its level. The trees are those
-- of Python's module `ast`.
--
-- Carries: no contract; its rows are computed as it is checked.
use Rattle.std.proofs.Common.{◌≡◌, refl, List, [], ◌∷◌, map, Some, None, true, false, ℕ}
use Rattle.std.specs.Prelude.{codes}
use Rattle.std.specs.Float.{float_zero}
use Rattle.std.specs.Float.Ieee.{inf}
use Rattle.pynumber.specs.Decimals.{decimal_text}
use Rattle.pynumber.specs.FloatTexts.{float_text}
use Rattle.pytree_node.specs.declared.operators.Operator.TheVariants as Bin
use Rattle.pytree_node.specs.declared.operators.UnaryOperator.TheVariants as Un
use Rattle.pytree_node.specs.declared.operators.BoolOperator.TheVariants as Join
use Rattle.pytree_node.specs.declared.operators.Comparison.TheVariants as Is
use Rattle.pytree_node.specs.declared.operators.Context.TheVariants.{Load, Store}
use Rattle.pytree_node.specs.Values
use Rattle.pytree_node.specs.Trees.{Expr, BoolOp, NamedExpr, BinOp, UnaryOp, Lambda, IfExp, Dict, Set, ListComp, SetComp, DictComp}
use Rattle.pytree_node.specs.Trees.{GeneratorExp}
use Rattle.pytree_node.specs.Trees.{Await, Yield, YieldFrom, Compare, Call, Constant, Attribute, Subscript, Starred, Name, ListOf, Tuple}
use Rattle.pytree_node.specs.Trees.{Slice}
use Rattle.pytree_node.specs.Trees.{exprs, no_exprs, absent, present, optionals, no_optional, arg, args, no_arg, absent_arg, present_arg}
use Rattle.pytree_node.specs.Trees.{arguments}
use Rattle.pytree_node.specs.Trees.{no_comprehension, a_comprehension, no_keyword, a_keyword}
use Rattle.pygrammar.specs.declared.levels.Level.{Level}
use Rattle.pygrammar.specs.declared.levels.Level.TheVariants as At
use Rattle.pyunparse_text.specs.Spacing.{spaced}
use Rattle.pyunparse_text.specs.Levels.{leads, reaches}
use Rattle.pyunparse_text.specs.Written.{fit, written}
use Rattle.pyunparse_text.specs.Pieces.{outside, pieces}

record Row : Type 0 where
  level : Level
  tree : Expr
  text : List ℕ

abbrev row : Level → Expr → List ℕ → Row
row l e t = record { level = l; tree = e; text = t }

abbrev AreWritten : List Row → Type 0
AreWritten rows = map (λ r. spaced (outside (pieces r.level r.tree))) rows ≡ map (λ r. r.text) rows

abbrev a : Expr
a = Name (codes "a") Load

abbrev b : Expr
b = Name (codes "b") Load

abbrev c : Expr
c = Name (codes "c") Load

abbrev d : Expr
d = Name (codes "d") Load

abbrev e : Expr
e = Name (codes "e") Load

abbrev f : Expr
f = Name (codes "f") Load

abbrev g : Expr
g = Name (codes "g") Load

abbrev x : Expr
x = Name (codes "x") Load

abbrev y : Expr
y = Name (codes "y") Load

abbrev z : Expr
z = Name (codes "z") Load

-- Operators, each in the brackets that its level asks for.
operators : AreWritten (
    row At.Value (BinOp a Bin.Add (BinOp b Bin.Mult c)) (codes "a + b * c") ∷
    row At.Value (BinOp (BinOp a Bin.Add b) Bin.Mult c) (codes "(a + b) * c") ∷
    row At.Atom (BinOp a Bin.Sub (BinOp b Bin.Sub c)) (codes "(a - (b - c))") ∷
    row At.Sum (BinOp (BinOp a Bin.Sub b) Bin.Sub c) (codes "a - b - c") ∷
    row At.Value (UnaryOp Un.USub (BinOp a Bin.Pow (UnaryOp Un.USub b))) (codes "-a ** -b") ∷
    row At.Value (BinOp (UnaryOp Un.USub a) Bin.Pow b) (codes "(-a) ** b") ∷
    row At.Power (BinOp a Bin.Pow (BinOp b Bin.Pow c)) (codes "a ** b ** c") ∷
    row At.Factor (BinOp (BinOp a Bin.Pow b) Bin.Pow c) (codes "(a ** b) ** c") ∷
    row At.BitOr (BinOp (UnaryOp Un.Invert a) Bin.BitOr
    (BinOp (BinOp b Bin.BitAnd c) Bin.BitXor (BinOp (BinOp d Bin.LShift e) Bin.RShift f)))
    (codes "~a | b & c ^ d << e >> f") ∷
    row At.Term (BinOp (BinOp (BinOp a Bin.MatMult b) Bin.FloorDiv c) Bin.Mod d) (codes "a @ b // c % d") ∷
    row At.Compare (UnaryOp Un.Not a) (codes "(not a)") ∷
    row At.Value (UnaryOp Un.Not (UnaryOp Un.Not a)) (codes "not not a") ∷
    row At.Value (UnaryOp Un.USub (UnaryOp Un.UAdd (UnaryOp Un.Invert a))) (codes "-+~a") ∷
    row At.Value (BinOp (Await a) Bin.Pow b) (codes "await a ** b") ∷
    row At.Value (Await (BinOp a Bin.Pow b)) (codes "await (a ** b)") ∷
    row At.Value (Call (Await a) (exprs (b ∷ [])) no_keyword) (codes "(await a)(b)") ∷ [])
unfolding written fit reaches leads decimal_text
operators = refl

-- Tests and comparisons.
tests : AreWritten (
    row At.Value (UnaryOp Un.Not (Compare a (Is.Within ∷ []) (exprs (b ∷ [])))) (codes "not a in b") ∷
    row At.Value (Compare (UnaryOp Un.Not a) (Is.Within ∷ []) (exprs (b ∷ []))) (codes "(not a) in b") ∷
    row At.Or (Compare a (Is.IsNot ∷ Is.Lt ∷ Is.NotIn ∷ []) (exprs (b ∷ c ∷ d ∷ []))) (codes "a is not b < c not in d") ∷
    row At.Value (Compare (Compare a (Is.Lt ∷ []) (exprs (b ∷ []))) (Is.Lt ∷ []) (exprs (c ∷ []))) (codes "(a < b) < c") ∷
    row At.BitOr (Compare a (Is.Eq ∷ Is.NotEq ∷ Is.LtE ∷ Is.GtE ∷ Is.Gt ∷ Is.Is ∷ Is.Within ∷ []) (exprs (b ∷ c ∷ d ∷ e ∷ f ∷ g ∷ x ∷ [])))
    (codes "(a == b != c <= d >= e > f is g in x)") ∷
    row At.Value (BoolOp Join.Or (exprs ((BoolOp Join.And (exprs ((BoolOp Join.And (exprs (a ∷ b ∷ []))) ∷ c ∷ []))) ∷ d ∷ [])))
    (codes "(a and b) and c or d") ∷
    row At.And (BoolOp Join.And (exprs ((BoolOp Join.Or (exprs (a ∷ b ∷ []))) ∷ c ∷ []))) (codes "(a or b) and c") ∷
    row At.Value (IfExp b a (IfExp d c e)) (codes "a if b else c if d else e") ∷
    row At.Elem (IfExp d (IfExp b a c) e) (codes "(a if b else c) if d else e") ∷
    row At.Or (Lambda (arguments no_arg no_arg absent_arg no_arg no_optional absent_arg no_exprs) (Constant (Values.Int 0)))
    (codes "(lambda: 0)") ∷
    row At.Named (IfExp b a (Lambda (arguments no_arg no_arg absent_arg no_arg no_optional absent_arg no_exprs) c))
    (codes "a if b else lambda: c") ∷ [])
unfolding written fit reaches leads decimal_text
tests = refl

-- Floats and imaginary numbers. No literal reads `inf`.
numbers : AreWritten (
    row At.Value (Attribute (Constant (Values.Float (inf false))) (codes "c") Load) (codes "1e309 .c") ∷
    row At.Value (BinOp (Constant (Values.Float float_zero)) Bin.Add (Constant (Values.Imaginary (inf false)))) (codes "0.0 + 1e309j") ∷
    row At.Value (Subscript a (Constant (Values.Imaginary float_zero)) Load) (codes "a[0j]") ∷ [])
unfolding written fit reaches leads decimal_text float_text
numbers = refl

-- Primaries and constants.
primaries : AreWritten (
    row At.Value (Attribute (BinOp a Bin.Add b) (codes "c") Load) (codes "(a + b).c") ∷
    row At.Value (Attribute (Constant (Values.Int 1)) (codes "c") Load) (codes "1 .c") ∷
    row At.Atom (Subscript (Attribute (Call (Call f (exprs (a ∷ [])) no_keyword) (exprs (b ∷ [])) no_keyword) (codes "c") Load) d Load)
    (codes "(f(a)(b).c[d])") ∷
    row At.Value
    (Compare (Constant Values.None) (Is.Is ∷ Is.IsNot ∷ []) (exprs ((Constant (Values.Bool true)) ∷ (Constant (Values.Bool false)) ∷ [])))
    (codes "None is True is not False") ∷
    row At.Value (Compare (Constant Values.Ellipsis) (Is.Is ∷ []) (exprs ((Constant Values.None) ∷ []))) (codes "... is None") ∷
    row At.Value (Constant (Values.Bytes (97 ∷ 10 ∷ 39 ∷ 0 ∷ []))) (codes "b\"a\\n'\\x00\"") ∷
    row At.Value
    (Call (Lambda (arguments no_arg no_arg absent_arg no_arg no_optional absent_arg no_exprs) (Constant (Values.Int 0))) no_exprs
    no_keyword)
    (codes "(lambda: 0)()") ∷
    row At.Value (Call f (exprs (a ∷ (Starred b Load) ∷ [])) (a_keyword (Some (codes "c")) d (a_keyword None e no_keyword)))
    (codes "f(a, *b, c=d, **e)") ∷
    row At.Value (Call f (exprs ((Starred c Load) ∷ [])) (a_keyword (Some (codes "a")) b no_keyword)) (codes "f(*c, a=b)") ∷
    row At.Value (Call f (exprs ((GeneratorExp x (a_comprehension (Name (codes "x") Store) y no_exprs false no_comprehension)) ∷ []))
    no_keyword)
    (codes "f(x for x in y)") ∷
    row At.Value (Call f (exprs ((GeneratorExp x (a_comprehension (Name (codes "x") Store) y no_exprs false no_comprehension)) ∷ z ∷ []))
    no_keyword)
    (codes "f((x for x in y), z)") ∷
    row At.Value
    (Call f (exprs ((GeneratorExp x (a_comprehension (Name (codes "x") Store) y no_exprs false no_comprehension)) ∷ []))
    (a_keyword (Some (codes "a")) (Constant (Values.Int 1)) no_keyword))
    (codes "f((x for x in y), a=1)") ∷
    row At.Value
    (Call f (exprs ((GeneratorExp
    (Call g (exprs ((GeneratorExp x (a_comprehension (Name (codes "x") Store) y no_exprs false no_comprehension)) ∷ [])) no_keyword)
    (a_comprehension (Name (codes "x") Store) z no_exprs false no_comprehension)) ∷ [])) no_keyword)
    (codes "f(g(x for x in y) for x in z)") ∷
    row At.Value
    (Call f (exprs ((NamedExpr (Name (codes "a") Store) (Constant (Values.Int 1))) ∷ (Starred (BoolOp Join.Or (exprs (b ∷ c ∷ []))) Load) ∷
    [])) (a_keyword (Some (codes "d")) (Yield absent) no_keyword))
    (codes "f(a := 1, *b or c, d=(yield))") ∷
    row At.Value (Call f (exprs ((Starred (IfExp b a c) Load) ∷ [])) no_keyword) (codes "f(*a if b else c)") ∷ [])
unfolding written fit reaches leads decimal_text
primaries = refl

-- Subscripts and slices.
subscripts : AreWritten (
    row At.Value (Subscript a b Load) (codes "a[b]") ∷
    row At.Value
    (Subscript a (Tuple (exprs ((Slice (present (Constant (Values.Int 1))) (present (Constant (Values.Int 2))) absent) ∷
    (Starred b Load) ∷ [])) Load) Load)
    (codes "a[1:2, *b]") ∷
    row At.Value (Subscript a (Tuple (exprs ((Starred b Load) ∷ [])) Load) Load) (codes "a[*b]") ∷
    row At.Value (Subscript a (Tuple (exprs ((Starred (IfExp c b d) Load) ∷ [])) Load) Load) (codes "a[*b if c else d]") ∷
    row At.Value (Subscript a (Slice absent absent absent) Load) (codes "a[:]") ∷
    row At.Value (Subscript a (Slice (present (Constant (Values.Int 1))) absent (present (Constant (Values.Int 2)))) Load) (codes "a[1::2]")
    ∷
    row At.Value (Subscript a (Tuple (exprs ((Slice absent absent absent) ∷ b ∷ (Slice absent absent (present c)) ∷ [])) Load) Load)
    (codes "a[:, b, ::c]") ∷
    row At.Value (Subscript a (Tuple (exprs ((Constant (Values.Int 1)) ∷ (Constant (Values.Int 2)) ∷ [])) Load) Load) (codes "a[1, 2]") ∷
    row At.Value (Subscript a (Tuple (exprs ((Constant (Values.Int 1)) ∷ [])) Load) Load) (codes "a[1,]") ∷
    row At.Value (Subscript a (Tuple no_exprs Load) Load) (codes "a[()]") ∷
    row At.Value (Subscript a (NamedExpr (Name (codes "b") Store) (Constant (Values.Int 1))) Load) (codes "a[b := 1]") ∷
    row At.Value
    (Subscript a (Slice (present (NamedExpr (Name (codes "b") Store) (Constant (Values.Int 1)))) (present (Constant (Values.Int 2))) absent)
    Load)
    (codes "a[(b := 1):2]") ∷
    row At.Value
    (Subscript a (Tuple (exprs ((NamedExpr (Name (codes "b") Store) (Constant (Values.Int 1))) ∷ (Constant (Values.Int 2)) ∷ [])) Load)
    Load)
    (codes "a[b := 1, 2]") ∷
    row At.Value (Subscript a
    (Tuple (exprs ((Tuple (exprs ((Constant (Values.Int 1)) ∷ (Constant (Values.Int 2)) ∷ [])) Load) ∷ (Constant (Values.Int 3)) ∷ []))
    Load) Load) (codes "a[(1, 2), 3]") ∷ [])
unfolding written fit reaches leads decimal_text
subscripts = refl

-- Tuples, lists, sets and dicts, by their places.
displays : AreWritten (
    row At.Value (Tuple (exprs (a ∷ b ∷ [])) Load) (codes "a, b") ∷
    row At.Named (Tuple (exprs (a ∷ b ∷ [])) Load) (codes "(a, b)") ∷
    row At.Stars (Tuple (exprs (a ∷ [])) Load) (codes "a,") ∷
    row At.Value (Tuple no_exprs Load) (codes "()") ∷
    row At.Value (Tuple (exprs ((Starred a Load) ∷ [])) Load) (codes "*a,") ∷
    row At.Value (Tuple (exprs ((Starred (Tuple (exprs (a ∷ b ∷ [])) Load) Load) ∷ c ∷ [])) Load) (codes "*(a, b), c") ∷
    row At.Value (Tuple (exprs ((NamedExpr (Name (codes "a") Store) (Constant (Values.Int 1))) ∷ b ∷ [])) Load) (codes "(a := 1, b)") ∷
    row At.Elem (Tuple (exprs ((NamedExpr (Name (codes "a") Store) (Constant (Values.Int 1))) ∷ [])) Load) (codes "(a := 1,)") ∷
    row At.Value (ListOf (exprs ((Starred (BoolOp Join.Or (exprs (a ∷ b ∷ []))) Load) ∷ c ∷ [])) Load) (codes "[*(a or b), c]") ∷
    row At.Value (ListOf (exprs ((Tuple (exprs (a ∷ (NamedExpr (Name (codes "b") Store) (Constant (Values.Int 1))) ∷ [])) Load) ∷ [])) Load)
    (codes "[(a, b := 1)]") ∷
    row At.Value (Set (exprs (a ∷ (Starred b Load) ∷ []))) (codes "{a, *b}") ∷
    row At.Value (Dict (optionals (None ∷ (Some b) ∷ [])) (exprs (a ∷ c ∷ []))) (codes "{**a, b: c}") ∷
    row At.Value
    (Dict (optionals (None ∷ (Some (Yield absent)) ∷ []))
    (exprs ((BoolOp Join.Or (exprs (a ∷ b ∷ []))) ∷ (NamedExpr (Name (codes "c") Store) (Constant (Values.Int 1))) ∷ [])))
    (codes "{**(a or b), (yield): (c := 1)}") ∷
    row At.Value (ListOf no_exprs Load) (codes "[]") ∷
    row At.Value (Dict no_optional no_exprs) (codes "{}") ∷ [])
unfolding written fit reaches leads decimal_text
displays = refl

-- Yields, lambdas and comprehensions.
clauses : AreWritten (
    row At.Value (Yield absent) (codes "yield") ∷
    row At.Stars (Yield absent) (codes "(yield)") ∷
    row At.Value (Yield (present (Tuple (exprs (a ∷ (Starred b Load) ∷ [])) Load))) (codes "yield a, *b") ∷
    row At.Value (Yield (present (Tuple (exprs (a ∷ (NamedExpr (Name (codes "b") Store) (Constant (Values.Int 1))) ∷ [])) Load)))
    (codes "yield (a, b := 1)") ∷
    row At.Value (Subscript (YieldFrom a) b Load) (codes "(yield from a)[b]") ∷
    row At.Value
    (Lambda (arguments (args ((arg (codes "x") absent) ∷ [])) (args ((arg (codes "z") absent) ∷ [])) absent_arg
    (args ((arg (codes "y") absent) ∷ [])) (optionals ((Some (Constant (Values.Int 2))) ∷ [])) (present_arg (arg (codes "a") absent))
    (exprs ((Constant (Values.Int 1)) ∷ []))) x)
    (codes "lambda x, /, z=1, *, y=2, **a: x") ∷
    row At.Value
    (Lambda (arguments (args ((arg (codes "x") absent) ∷ (arg (codes "y") absent) ∷ [])) (args ((arg (codes "z") absent) ∷ [])) absent_arg
    no_arg no_optional absent_arg (exprs ((Constant (Values.Int 1)) ∷ (Constant (Values.Int 2)) ∷ []))) x)
    (codes "lambda x, y=1, /, z=2: x") ∷
    row At.Value
    (Lambda (arguments no_arg no_arg (present_arg (arg (codes "a") absent)) (args ((arg (codes "b") absent) ∷ []))
    (optionals (None ∷ [])) absent_arg no_exprs) a)
    (codes "lambda *a, b: a") ∷
    row At.Value
    (Lambda (arguments no_arg no_arg absent_arg (args ((arg (codes "b") absent) ∷ (arg (codes "c") absent) ∷ []))
    (optionals (None ∷ (Some (Constant (Values.Int 1))) ∷ [])) absent_arg no_exprs) a)
    (codes "lambda *, b, c=1: a") ∷
    row At.Value
    (Lambda (arguments (args ((arg (codes "x") absent) ∷ [])) no_arg (present_arg (arg (codes "b") absent)) no_arg no_optional
    (present_arg (arg (codes "c") absent)) no_exprs) (Yield absent))
    (codes "lambda x, /, *b, **c: (yield)") ∷
    row At.Value
    (ListComp x (a_comprehension (Tuple (exprs ((Name (codes "x") Store) ∷ [])) Store) (Tuple (exprs (a ∷ b ∷ [])) Load) no_exprs
    false no_comprehension))
    (codes "[x for x, in (a, b)]") ∷
    row At.Value
    (DictComp x y (a_comprehension (Tuple (exprs ((Name (codes "x") Store) ∷ (Starred (Name (codes "y") Store) Store) ∷ [])) Store) z
    (exprs (a ∷ b ∷ [])) false no_comprehension))
    (codes "{x: y for x, *y in z if a if b}") ∷
    row At.Value (SetComp (Yield absent) (a_comprehension (Name (codes "x") Store) y no_exprs false no_comprehension))
    (codes "{(yield) for x in y}") ∷
    row At.Value
    (ListComp x (a_comprehension (Attribute x (codes "a") Store) (IfExp b a c) no_exprs true
    (a_comprehension (Subscript y (Constant (Values.Int 0)) Store) d
    (exprs ((Lambda (arguments no_arg no_arg absent_arg no_arg no_optional absent_arg no_exprs) x) ∷ [])) false no_comprehension)))
    (codes "[x async for x.a in (a if b else c) for y[0] in d if (lambda: x)]") ∷
    row At.Atom (GeneratorExp (Tuple (exprs (a ∷ b ∷ [])) Load) (a_comprehension (Name (codes "a") Store) b no_exprs false
    no_comprehension)) (codes "((a, b) for a in b)") ∷ [])
unfolding written fit reaches leads decimal_text
clauses = refl
