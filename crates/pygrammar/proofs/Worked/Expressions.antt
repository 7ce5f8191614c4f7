-- Worked expressions: the tree of each is that of Python's ast.
--
-- Carries: no contract; its rows are computed as it is checked.
use Rattle.std.proofs.Common.{◌≡◌, refl, [], ◌∷◌, Some, None, true, false, Bool}
use Rattle.pylex_lexeme.specs.declared.kinds.Exact.TheVariants.{Amper, Circumflex, Colon, ColonEqual, Comma, Dot, DoubleStar, Ellipsis}
use Rattle.pylex_lexeme.specs.declared.kinds.Exact.TheVariants.{EqEqual, Equal, LBrace, LeftShift, Less, LPar, LSqb, Minus, Plus, RBrace}
use Rattle.pylex_lexeme.specs.declared.kinds.Exact.TheVariants.{RightShift, RPar, RSqb, Slash, Star, Tilde, VBar}
use Rattle.pytoken.specs.declared.keywords.Keyword.TheVariants as Key
use Rattle.pytree_node.specs.declared.operators.Operator.TheVariants as Bin
use Rattle.pytree_node.specs.declared.operators.UnaryOperator.TheVariants as Un
use Rattle.pytree_node.specs.declared.operators.BoolOperator.TheVariants as Join
use Rattle.pytree_node.specs.declared.operators.Comparison.TheVariants as Is
use Rattle.pytree_node.specs.declared.operators.Context.TheVariants.{Load, Store}
use Rattle.pygrammar.specs.declared.levels.Level.TheVariants.{Value}
use Rattle.pytree_node.specs.Trees
use Rattle.pytree_node.specs.Values
use Rattle.pytoken.specs.Terminals.{Op, Word, in_form, whole, Literal}
use Rattle.pygrammar.specs.Reader.{Answer, Found, NoForm, TooDeep, read}

abbrev refused : Answer Trees.Expr → Bool
refused (Found e []) = false
refused (Found e (t ∷ r)) = true
refused NoForm = true
refused TooDeep = false

-- a + b * c
worked_1 : read 12 Value (in_form (97 ∷ []) ∷ Op Plus ∷ in_form (98 ∷ []) ∷ Op Star ∷ in_form (99 ∷ []) ∷ []) ≡ Found
    (Trees.BinOp (Trees.Name (97 ∷ []) Load) Bin.Add (Trees.BinOp (Trees.Name (98 ∷ []) Load) Bin.Mult (Trees.Name (99 ∷ []) Load))) []
worked_1 = refl

-- a * b + c
worked_2 : read 12 Value (in_form (97 ∷ []) ∷ Op Star ∷ in_form (98 ∷ []) ∷ Op Plus ∷ in_form (99 ∷ []) ∷ []) ≡ Found
    (Trees.BinOp (Trees.BinOp (Trees.Name (97 ∷ []) Load) Bin.Mult (Trees.Name (98 ∷ []) Load)) Bin.Add (Trees.Name (99 ∷ []) Load)) []
worked_2 = refl

-- not a in b
worked_3 : read 12 Value (Word Key.Not ∷ in_form (97 ∷ []) ∷ Word Key.In ∷ in_form (98 ∷ []) ∷ []) ≡ Found
    (Trees.UnaryOp Un.Not (Trees.Compare (Trees.Name (97 ∷ []) Load) (Is.Within ∷ [])
    (Trees.an_expr (Trees.Name (98 ∷ []) Load) Trees.no_exprs))) []
worked_3 = refl

-- x if y else z
worked_4 : read 12 Value (in_form (120 ∷ []) ∷ Word Key.If ∷ in_form (121 ∷ []) ∷ Word Key.Else ∷ in_form (122 ∷ []) ∷ []) ≡ Found
    (Trees.IfExp (Trees.Name (121 ∷ []) Load) (Trees.Name (120 ∷ []) Load) (Trees.Name (122 ∷ []) Load)) []
worked_4 = refl

-- -x ** -y
worked_5 : read 12 Value (Op Minus ∷ in_form (120 ∷ []) ∷ Op DoubleStar ∷ Op Minus ∷ in_form (121 ∷ []) ∷ []) ≡ Found
    (Trees.UnaryOp Un.USub (Trees.BinOp (Trees.Name (120 ∷ []) Load) Bin.Pow (Trees.UnaryOp Un.USub (Trees.Name (121 ∷ []) Load)))) []
worked_5 = refl

-- (a and b) and c or d
worked_6 : read 12 Value (Op LPar ∷ in_form (97 ∷ []) ∷ Word Key.And ∷ in_form (98 ∷ []) ∷ Op RPar ∷ Word Key.And ∷ in_form (99 ∷ []) ∷ Word
    Key.Or ∷ in_form (100 ∷ []) ∷ []) ≡ Found
    (Trees.BoolOp Join.Or
    (Trees.an_expr (Trees.BoolOp Join.And
    (Trees.an_expr (Trees.BoolOp Join.And
    (Trees.an_expr (Trees.Name (97 ∷ []) Load) (Trees.an_expr (Trees.Name (98 ∷ []) Load) Trees.no_exprs)))
    (Trees.an_expr (Trees.Name (99 ∷ []) Load) Trees.no_exprs))) (Trees.an_expr (Trees.Name (100 ∷ []) Load) Trees.no_exprs))) []
worked_6 = refl

-- f(x for x in y)
worked_7 : read 12 Value (in_form (102 ∷ []) ∷ Op LPar ∷ in_form (120 ∷ []) ∷ Word Key.For ∷ in_form (120 ∷ []) ∷ Word Key.In ∷ in_form
    (121 ∷ []) ∷ Op RPar ∷ []) ≡ Found
    (Trees.Call (Trees.Name (102 ∷ []) Load)
    (Trees.an_expr (Trees.GeneratorExp (Trees.Name (120 ∷ []) Load) (Trees.a_comprehension (Trees.Name (120 ∷ []) Store)
    (Trees.Name (121 ∷ []) Load) Trees.no_exprs false Trees.no_comprehension)) Trees.no_exprs) Trees.no_keyword) []
worked_7 = refl

-- {**a, b: c}
worked_8 : read 12 Value (Op LBrace ∷ Op DoubleStar ∷ in_form (97 ∷ []) ∷ Op Comma ∷ in_form (98 ∷ []) ∷ Op Colon ∷ in_form (99 ∷ []) ∷ Op
    RBrace ∷ []) ≡ Found
    (Trees.Dict (Trees.an_optional Trees.absent (Trees.an_optional (Trees.present (Trees.Name (98 ∷ []) Load)) Trees.no_optional))
    (Trees.an_expr (Trees.Name (97 ∷ []) Load) (Trees.an_expr (Trees.Name (99 ∷ []) Load) Trees.no_exprs))) []
worked_8 = refl

-- a[1:2, *b]
worked_9 : read 12 Value (in_form (97 ∷ []) ∷ Op LSqb ∷ whole 1 ∷ Op Colon ∷ whole 2 ∷ Op Comma ∷ Op Star ∷ in_form (98 ∷ []) ∷ Op RSqb ∷
    []) ≡ Found (Trees.Subscript (Trees.Name (97 ∷ []) Load)
    (Trees.Tuple (Trees.an_expr (Trees.Slice (Trees.present (Trees.Constant (Values.Int 1))) (Trees.present (Trees.Constant (Values.Int 2)))
    Trees.absent) (Trees.an_expr (Trees.Starred (Trees.Name (98 ∷ []) Load) Load) Trees.no_exprs)) Load) Load) []
worked_9 = refl

-- a[*b]
worked_10 : read 12 Value (in_form (97 ∷ []) ∷ Op LSqb ∷ Op Star ∷ in_form (98 ∷ []) ∷ Op RSqb ∷ []) ≡ Found
    (Trees.Subscript (Trees.Name (97 ∷ []) Load)
    (Trees.Tuple (Trees.an_expr (Trees.Starred (Trees.Name (98 ∷ []) Load) Load) Trees.no_exprs) Load) Load) []
worked_10 = refl

-- a[:]
worked_11 : read 12 Value (in_form (97 ∷ []) ∷ Op LSqb ∷ Op Colon ∷ Op RSqb ∷ []) ≡ Found
    (Trees.Subscript (Trees.Name (97 ∷ []) Load) (Trees.Slice Trees.absent Trees.absent Trees.absent) Load) []
worked_11 = refl

-- a[1::2]
worked_12 : read 12 Value (in_form (97 ∷ []) ∷ Op LSqb ∷ whole 1 ∷ Op Colon ∷ Op Colon ∷ whole 2 ∷ Op RSqb ∷ []) ≡ Found
    (Trees.Subscript (Trees.Name (97 ∷ []) Load) (Trees.Slice (Trees.present (Trees.Constant (Values.Int 1))) Trees.absent
    (Trees.present (Trees.Constant (Values.Int 2)))) Load) []
worked_12 = refl

-- lambda x, /, z=1, *, y=1, **k: x
worked_13 : read 12 Value (Word Key.Lambda ∷ in_form (120 ∷ []) ∷ Op Comma ∷ Op Slash ∷ Op Comma ∷ in_form (122 ∷ []) ∷ Op Equal ∷ whole 1 ∷
    Op Comma ∷ Op Star ∷ Op Comma ∷ in_form (121 ∷ []) ∷ Op Equal ∷ whole 1 ∷ Op Comma ∷ Op DoubleStar ∷ in_form (107 ∷ []) ∷ Op Colon ∷
    in_form (120 ∷ []) ∷ []) ≡ Found
    (Trees.Lambda (Trees.arguments (Trees.an_arg (Trees.arg (120 ∷ []) Trees.absent) Trees.no_arg)
    (Trees.an_arg (Trees.arg (122 ∷ []) Trees.absent) Trees.no_arg) Trees.absent_arg
    (Trees.an_arg (Trees.arg (121 ∷ []) Trees.absent) Trees.no_arg) (Trees.an_optional (Trees.present (Trees.Constant (Values.Int 1)))
    Trees.no_optional) (Trees.present_arg (Trees.arg (107 ∷ []) Trees.absent))
    (Trees.an_expr (Trees.Constant (Values.Int 1)) Trees.no_exprs)) (Trees.Name (120 ∷ []) Load)) []
worked_13 = refl

-- lambda: 0
worked_14 : read 12 Value (Word Key.Lambda ∷ Op Colon ∷ whole 0 ∷ []) ≡ Found
    (Trees.Lambda (Trees.arguments Trees.no_arg Trees.no_arg Trees.absent_arg Trees.no_arg Trees.no_optional Trees.absent_arg
    Trees.no_exprs) (Trees.Constant (Values.Int 0))) []
worked_14 = refl

-- lambda *a, b: a
worked_15 : read 12 Value (Word Key.Lambda ∷ Op Star ∷ in_form (97 ∷ []) ∷ Op Comma ∷ in_form (98 ∷ []) ∷ Op Colon ∷ in_form (97 ∷ []) ∷ [])
    ≡ Found (Trees.Lambda (Trees.arguments Trees.no_arg Trees.no_arg (Trees.present_arg (Trees.arg (97 ∷ []) Trees.absent))
    (Trees.an_arg (Trees.arg (98 ∷ []) Trees.absent) Trees.no_arg) (Trees.an_optional Trees.absent Trees.no_optional) Trees.absent_arg
    Trees.no_exprs) (Trees.Name (97 ∷ []) Load)) []
worked_15 = refl

-- (yield)
worked_16 : read 12 Value (Op LPar ∷ Word Key.Yield ∷ Op RPar ∷ []) ≡ Found (Trees.Yield Trees.absent) []
worked_16 = refl

-- (yield from a)
worked_17 : read 12 Value (Op LPar ∷ Word Key.Yield ∷ Word Key.From ∷ in_form (97 ∷ []) ∷ Op RPar ∷ []) ≡ Found
    (Trees.YieldFrom (Trees.Name (97 ∷ []) Load)) []
worked_17 = refl

-- (yield a, *b)
worked_18 : read 12 Value (Op LPar ∷ Word Key.Yield ∷ in_form (97 ∷ []) ∷ Op Comma ∷ Op Star ∷ in_form (98 ∷ []) ∷ Op RPar ∷ []) ≡ Found
    (Trees.Yield (Trees.present
    (Trees.Tuple (Trees.an_expr (Trees.Name (97 ∷ []) Load) (Trees.an_expr (Trees.Starred (Trees.Name (98 ∷ []) Load) Load) Trees.no_exprs))
    Load))) []
worked_18 = refl

-- [*a, b]
worked_19 : read 12 Value (Op LSqb ∷ Op Star ∷ in_form (97 ∷ []) ∷ Op Comma ∷ in_form (98 ∷ []) ∷ Op RSqb ∷ []) ≡ Found
    (Trees.ListOf (Trees.an_expr (Trees.Starred (Trees.Name (97 ∷ []) Load) Load)
    (Trees.an_expr (Trees.Name (98 ∷ []) Load) Trees.no_exprs)) Load) []
worked_19 = refl

-- {x: y for x in z if a if b}
worked_20 : read 12 Value (Op LBrace ∷ in_form (120 ∷ []) ∷ Op Colon ∷ in_form (121 ∷ []) ∷ Word Key.For ∷ in_form (120 ∷ []) ∷ Word Key.In
    ∷ in_form (122 ∷ []) ∷ Word Key.If ∷ in_form (97 ∷ []) ∷ Word Key.If ∷ in_form (98 ∷ []) ∷ Op RBrace ∷ []) ≡ Found
    (Trees.DictComp (Trees.Name (120 ∷ []) Load) (Trees.Name (121 ∷ []) Load) (Trees.a_comprehension (Trees.Name (120 ∷ []) Store)
    (Trees.Name (122 ∷ []) Load) (Trees.an_expr (Trees.Name (97 ∷ []) Load) (Trees.an_expr (Trees.Name (98 ∷ []) Load) Trees.no_exprs))
    false Trees.no_comprehension)) []
worked_20 = refl

-- await f(x, *y, k=1, **d).g
worked_21 : read 12 Value (Word Key.Await ∷ in_form (102 ∷ []) ∷ Op LPar ∷ in_form (120 ∷ []) ∷ Op Comma ∷ Op Star ∷ in_form (121 ∷ []) ∷ Op
    Comma ∷ in_form (107 ∷ []) ∷ Op Equal ∷ whole 1 ∷ Op Comma ∷ Op DoubleStar ∷ in_form (100 ∷ []) ∷ Op RPar ∷ Op Dot ∷ in_form (103 ∷ [])
    ∷ []) ≡ Found (Trees.Await
    (Trees.Attribute (Trees.Call (Trees.Name (102 ∷ []) Load)
    (Trees.an_expr (Trees.Name (120 ∷ []) Load) (Trees.an_expr (Trees.Starred (Trees.Name (121 ∷ []) Load) Load) Trees.no_exprs))
    (Trees.a_keyword (Some (107 ∷ [])) (Trees.Constant (Values.Int 1)) (Trees.a_keyword None (Trees.Name (100 ∷ []) Load)
    Trees.no_keyword))) (103 ∷ []) Load)) []
worked_21 = refl

-- a is not b < c not in d
worked_22 : read 12 Value (in_form (97 ∷ []) ∷ Word Key.Is ∷ Word Key.Not ∷ in_form (98 ∷ []) ∷ Op Less ∷ in_form (99 ∷ []) ∷ Word Key.Not ∷
    Word Key.In ∷ in_form (100 ∷ []) ∷ []) ≡ Found (Trees.Compare (Trees.Name (97 ∷ []) Load) (Is.IsNot ∷ Is.Lt ∷ Is.NotIn ∷ [])
    (Trees.an_expr (Trees.Name (98 ∷ []) Load)
    (Trees.an_expr (Trees.Name (99 ∷ []) Load) (Trees.an_expr (Trees.Name (100 ∷ []) Load) Trees.no_exprs)))) []
worked_22 = refl

-- (a,)
worked_23 : read 12 Value (Op LPar ∷ in_form (97 ∷ []) ∷ Op Comma ∷ Op RPar ∷ []) ≡ Found
    (Trees.Tuple (Trees.an_expr (Trees.Name (97 ∷ []) Load) Trees.no_exprs) Load) []
worked_23 = refl

-- ()
worked_24 : read 12 Value (Op LPar ∷ Op RPar ∷ []) ≡ Found (Trees.Tuple Trees.no_exprs Load) []
worked_24 = refl

-- []
worked_25 : read 12 Value (Op LSqb ∷ Op RSqb ∷ []) ≡ Found (Trees.ListOf Trees.no_exprs Load) []
worked_25 = refl

-- {}
worked_26 : read 12 Value (Op LBrace ∷ Op RBrace ∷ []) ≡ Found (Trees.Dict Trees.no_optional Trees.no_exprs) []
worked_26 = refl

-- {a, *b,}
worked_27 : read 12 Value (Op LBrace ∷ in_form (97 ∷ []) ∷ Op Comma ∷ Op Star ∷ in_form (98 ∷ []) ∷ Op Comma ∷ Op RBrace ∷ []) ≡ Found
    (Trees.Set (Trees.an_expr (Trees.Name (97 ∷ []) Load) (Trees.an_expr (Trees.Starred (Trees.Name (98 ∷ []) Load) Load) Trees.no_exprs)))
    []
worked_27 = refl

-- [x async for x, *y in z for q in r]
worked_28 : read 12 Value (Op LSqb ∷ in_form (120 ∷ []) ∷ Word Key.Async ∷ Word Key.For ∷ in_form (120 ∷ []) ∷ Op Comma ∷ Op Star ∷ in_form
    (121 ∷ []) ∷ Word Key.In ∷ in_form (122 ∷ []) ∷ Word Key.For ∷ in_form (113 ∷ []) ∷ Word Key.In ∷ in_form (114 ∷ []) ∷ Op RSqb ∷ []) ≡
    Found (Trees.ListComp (Trees.Name (120 ∷ []) Load)
    (Trees.a_comprehension
    (Trees.Tuple (Trees.an_expr (Trees.Name (120 ∷ []) Store) (Trees.an_expr (Trees.Starred (Trees.Name (121 ∷ []) Store) Store)
    Trees.no_exprs)) Store) (Trees.Name (122 ∷ []) Load) Trees.no_exprs true (Trees.a_comprehension (Trees.Name (113 ∷ []) Store)
    (Trees.Name (114 ∷ []) Load) Trees.no_exprs false Trees.no_comprehension))) []
worked_28 = refl

-- (x := 1)
worked_29 : read 12 Value (Op LPar ∷ in_form (120 ∷ []) ∷ Op ColonEqual ∷ whole 1 ∷ Op RPar ∷ []) ≡ Found
    (Trees.NamedExpr (Trees.Name (120 ∷ []) Store) (Trees.Constant (Values.Int 1))) []
worked_29 = refl

-- a, b
worked_30 : read 12 Value (in_form (97 ∷ []) ∷ Op Comma ∷ in_form (98 ∷ []) ∷ []) ≡ Found
    (Trees.Tuple (Trees.an_expr (Trees.Name (97 ∷ []) Load) (Trees.an_expr (Trees.Name (98 ∷ []) Load) Trees.no_exprs)) Load) []
worked_30 = refl

-- *a,
worked_31 : read 12 Value (Op Star ∷ in_form (97 ∷ []) ∷ Op Comma ∷ []) ≡ Found
    (Trees.Tuple (Trees.an_expr (Trees.Starred (Trees.Name (97 ∷ []) Load) Load) Trees.no_exprs) Load) []
worked_31 = refl

-- a < b == c
worked_32 : read 12 Value (in_form (97 ∷ []) ∷ Op Less ∷ in_form (98 ∷ []) ∷ Op EqEqual ∷ in_form (99 ∷ []) ∷ []) ≡ Found
    (Trees.Compare (Trees.Name (97 ∷ []) Load) (Is.Lt ∷ Is.Eq ∷ [])
    (Trees.an_expr (Trees.Name (98 ∷ []) Load) (Trees.an_expr (Trees.Name (99 ∷ []) Load) Trees.no_exprs))) []
worked_32 = refl

-- a - b - c
worked_33 : read 12 Value (in_form (97 ∷ []) ∷ Op Minus ∷ in_form (98 ∷ []) ∷ Op Minus ∷ in_form (99 ∷ []) ∷ []) ≡ Found
    (Trees.BinOp (Trees.BinOp (Trees.Name (97 ∷ []) Load) Bin.Sub (Trees.Name (98 ∷ []) Load)) Bin.Sub (Trees.Name (99 ∷ []) Load)) []
worked_33 = refl

-- ~a | b & c ^ d << e >> f
worked_34 : read 12 Value (Op Tilde ∷ in_form (97 ∷ []) ∷ Op VBar ∷ in_form (98 ∷ []) ∷ Op Amper ∷ in_form (99 ∷ []) ∷ Op Circumflex ∷
    in_form (100 ∷ []) ∷ Op LeftShift ∷ in_form (101 ∷ []) ∷ Op RightShift ∷ in_form (102 ∷ []) ∷ []) ≡ Found
    (Trees.BinOp (Trees.UnaryOp Un.Invert (Trees.Name (97 ∷ []) Load)) Bin.BitOr
    (Trees.BinOp (Trees.BinOp (Trees.Name (98 ∷ []) Load) Bin.BitAnd (Trees.Name (99 ∷ []) Load)) Bin.BitXor
    (Trees.BinOp (Trees.BinOp (Trees.Name (100 ∷ []) Load) Bin.LShift (Trees.Name (101 ∷ []) Load)) Bin.RShift
    (Trees.Name (102 ∷ []) Load)))) []
worked_34 = refl

-- "a" "b"
worked_35 : read 12 Value (Literal (Values.Str (97 ∷ []) false) ∷ Literal (Values.Str (98 ∷ []) false) ∷ []) ≡ Found
    (Trees.Constant (Values.Str (97 ∷ 98 ∷ []) false)) []
worked_35 = refl

-- f(a)(b).c[d]
worked_36 : read 12 Value (in_form (102 ∷ []) ∷ Op LPar ∷ in_form (97 ∷ []) ∷ Op RPar ∷ Op LPar ∷ in_form (98 ∷ []) ∷ Op RPar ∷ Op Dot ∷
    in_form (99 ∷ []) ∷ Op LSqb ∷ in_form (100 ∷ []) ∷ Op RSqb ∷ []) ≡ Found
    (Trees.Subscript (Trees.Attribute
    (Trees.Call (Trees.Call (Trees.Name (102 ∷ []) Load) (Trees.an_expr (Trees.Name (97 ∷ []) Load) Trees.no_exprs) Trees.no_keyword)
    (Trees.an_expr (Trees.Name (98 ∷ []) Load) Trees.no_exprs) Trees.no_keyword) (99 ∷ []) Load) (Trees.Name (100 ∷ []) Load) Load) []
worked_36 = refl

-- a ** b ** c
worked_37 : read 12 Value (in_form (97 ∷ []) ∷ Op DoubleStar ∷ in_form (98 ∷ []) ∷ Op DoubleStar ∷ in_form (99 ∷ []) ∷ []) ≡ Found
    (Trees.BinOp (Trees.Name (97 ∷ []) Load) Bin.Pow (Trees.BinOp (Trees.Name (98 ∷ []) Load) Bin.Pow (Trees.Name (99 ∷ []) Load))) []
worked_37 = refl

-- not not a
worked_38 : read 12 Value (Word Key.Not ∷ Word Key.Not ∷ in_form (97 ∷ []) ∷ []) ≡ Found
    (Trees.UnaryOp Un.Not (Trees.UnaryOp Un.Not (Trees.Name (97 ∷ []) Load))) []
worked_38 = refl

-- {(x := 1): 2}
worked_39 : read 12 Value (Op LBrace ∷ Op LPar ∷ in_form (120 ∷ []) ∷ Op ColonEqual ∷ whole 1 ∷ Op RPar ∷ Op Colon ∷ whole 2 ∷ Op RBrace ∷
    []) ≡ Found (Trees.Dict
    (Trees.an_optional (Trees.present (Trees.NamedExpr (Trees.Name (120 ∷ []) Store) (Trees.Constant (Values.Int 1)))) Trees.no_optional)
    (Trees.an_expr (Trees.Constant (Values.Int 2)) Trees.no_exprs)) []
worked_39 = refl

-- a if b else lambda: c
worked_40 : read 12 Value (in_form (97 ∷ []) ∷ Word Key.If ∷ in_form (98 ∷ []) ∷ Word Key.Else ∷ Word Key.Lambda ∷ Op Colon ∷ in_form
    (99 ∷ []) ∷ []) ≡ Found (Trees.IfExp (Trees.Name (98 ∷ []) Load) (Trees.Name (97 ∷ []) Load)
    (Trees.Lambda (Trees.arguments Trees.no_arg Trees.no_arg Trees.absent_arg Trees.no_arg Trees.no_optional Trees.absent_arg
    Trees.no_exprs) (Trees.Name (99 ∷ []) Load))) []
worked_40 = refl

-- yield a
worked_41 : read 12 Value (Word Key.Yield ∷ in_form (97 ∷ []) ∷ []) ≡ Found (Trees.Yield (Trees.present (Trees.Name (97 ∷ []) Load))) []
worked_41 = refl

-- f(**a, b=c)
worked_42 : read 12 Value (in_form (102 ∷ []) ∷ Op LPar ∷ Op DoubleStar ∷ in_form (97 ∷ []) ∷ Op Comma ∷ in_form (98 ∷ []) ∷ Op Equal ∷
    in_form (99 ∷ []) ∷ Op RPar ∷ []) ≡ Found (Trees.Call (Trees.Name (102 ∷ []) Load) Trees.no_exprs
    (Trees.a_keyword None (Trees.Name (97 ∷ []) Load) (Trees.a_keyword (Some (98 ∷ [])) (Trees.Name (99 ∷ []) Load) Trees.no_keyword))) []
worked_42 = refl

-- (lambda x: x)(y)
worked_43 : read 12 Value (Op LPar ∷ Word Key.Lambda ∷ in_form (120 ∷ []) ∷ Op Colon ∷ in_form (120 ∷ []) ∷ Op RPar ∷ Op LPar ∷ in_form
    (121 ∷ []) ∷ Op RPar ∷ []) ≡ Found
    (Trees.Call (Trees.Lambda (Trees.arguments Trees.no_arg (Trees.an_arg (Trees.arg (120 ∷ []) Trees.absent) Trees.no_arg) Trees.absent_arg
    Trees.no_arg Trees.no_optional Trees.absent_arg Trees.no_exprs) (Trees.Name (120 ∷ []) Load))
    (Trees.an_expr (Trees.Name (121 ∷ []) Load) Trees.no_exprs) Trees.no_keyword) []
worked_43 = refl

-- ... is None
worked_44 : read 12 Value (Op Ellipsis ∷ Word Key.Is ∷ Word Key.None ∷ []) ≡ Found (Trees.Compare (Trees.Constant (Values.Ellipsis))
    (Is.Is ∷ []) (Trees.an_expr (Trees.Constant (Values.None)) Trees.no_exprs)) []
worked_44 = refl

-- {lambda: x: y}
worked_45 : read 12 Value (Op LBrace ∷ Word Key.Lambda ∷ Op Colon ∷ in_form (120 ∷ []) ∷ Op Colon ∷ in_form (121 ∷ []) ∷ Op RBrace ∷ []) ≡
    Found (Trees.Dict (Trees.an_optional
    (Trees.present (Trees.Lambda (Trees.arguments Trees.no_arg Trees.no_arg Trees.absent_arg Trees.no_arg Trees.no_optional Trees.absent_arg
    Trees.no_exprs) (Trees.Name (120 ∷ []) Load))) Trees.no_optional) (Trees.an_expr (Trees.Name (121 ∷ []) Load) Trees.no_exprs)) []
worked_45 = refl

-- a[lambda: x : y]
worked_46 : read 12 Value (in_form (97 ∷ []) ∷ Op LSqb ∷ Word Key.Lambda ∷ Op Colon ∷ in_form (120 ∷ []) ∷ Op Colon ∷ in_form (121 ∷ []) ∷
    Op RSqb ∷ []) ≡ Found
    (Trees.Subscript (Trees.Name (97 ∷ []) Load)
    (Trees.Slice (Trees.present (Trees.Lambda (Trees.arguments Trees.no_arg Trees.no_arg Trees.absent_arg Trees.no_arg Trees.no_optional
    Trees.absent_arg Trees.no_exprs) (Trees.Name (120 ∷ []) Load))) (Trees.present (Trees.Name (121 ∷ []) Load)) Trees.absent) Load) []
worked_46 = refl

-- a or not b and c
worked_47 : read 12 Value (in_form (97 ∷ []) ∷ Word Key.Or ∷ Word Key.Not ∷ in_form (98 ∷ []) ∷ Word Key.And ∷ in_form (99 ∷ []) ∷ []) ≡
    Found (Trees.BoolOp Join.Or
    (Trees.an_expr (Trees.Name (97 ∷ []) Load)
    (Trees.an_expr (Trees.BoolOp Join.And (Trees.an_expr (Trees.UnaryOp Un.Not (Trees.Name (98 ∷ []) Load))
    (Trees.an_expr (Trees.Name (99 ∷ []) Load) Trees.no_exprs))) Trees.no_exprs))) []
worked_47 = refl

-- a[x:=1]
worked_48 : read 12 Value (in_form (97 ∷ []) ∷ Op LSqb ∷ in_form (120 ∷ []) ∷ Op ColonEqual ∷ whole 1 ∷ Op RSqb ∷ []) ≡ Found
    (Trees.Subscript (Trees.Name (97 ∷ []) Load) (Trees.NamedExpr (Trees.Name (120 ∷ []) Store) (Trees.Constant (Values.Int 1))) Load) []
worked_48 = refl

-- (x for (a.b, [c]) in y)
worked_49 : read 12 Value (Op LPar ∷ in_form (120 ∷ []) ∷ Word Key.For ∷ Op LPar ∷ in_form (97 ∷ []) ∷ Op Dot ∷ in_form (98 ∷ []) ∷ Op Comma
    ∷ Op LSqb ∷ in_form (99 ∷ []) ∷ Op RSqb ∷ Op RPar ∷ Word Key.In ∷ in_form (121 ∷ []) ∷ Op RPar ∷ []) ≡ Found
    (Trees.GeneratorExp (Trees.Name (120 ∷ []) Load)
    (Trees.a_comprehension
    (Trees.Tuple (Trees.an_expr (Trees.Attribute (Trees.Name (97 ∷ []) Load) (98 ∷ []) Store)
    (Trees.an_expr (Trees.ListOf (Trees.an_expr (Trees.Name (99 ∷ []) Store) Trees.no_exprs) Store) Trees.no_exprs)) Store)
    (Trees.Name (121 ∷ []) Load) Trees.no_exprs false Trees.no_comprehension)) []
worked_49 = refl

-- f(*a, b)
worked_50 : read 12 Value (in_form (102 ∷ []) ∷ Op LPar ∷ Op Star ∷ in_form (97 ∷ []) ∷ Op Comma ∷ in_form (98 ∷ []) ∷ Op RPar ∷ []) ≡ Found
    (Trees.Call (Trees.Name (102 ∷ []) Load) (Trees.an_expr (Trees.Starred (Trees.Name (97 ∷ []) Load) Load)
    (Trees.an_expr (Trees.Name (98 ∷ []) Load) Trees.no_exprs)) Trees.no_keyword) []
worked_50 = refl

-- no form: a b
worked_51 : refused (read 12 Value (in_form (97 ∷ []) ∷ in_form (98 ∷ []) ∷ [])) ≡ true
worked_51 = refl

-- no form: a +
worked_52 : refused (read 12 Value (in_form (97 ∷ []) ∷ Op Plus ∷ [])) ≡ true
worked_52 = refl

-- no form: f(a=1, b)
worked_53 : refused (read 12 Value (in_form (102 ∷ []) ∷ Op LPar ∷ in_form (97 ∷ []) ∷ Op Equal ∷ whole 1 ∷ Op Comma ∷ in_form
    (98 ∷ []) ∷ Op RPar ∷ [])) ≡ true
worked_53 = refl

-- no form: f(**a, *b)
worked_54 : refused (read 12 Value (in_form (102 ∷ []) ∷ Op LPar ∷ Op DoubleStar ∷ in_form (97 ∷ []) ∷ Op Comma ∷ Op Star ∷ in_form
    (98 ∷ []) ∷ Op RPar ∷ [])) ≡ true
worked_54 = refl

-- no form: (*a)
worked_55 : refused (read 12 Value (Op LPar ∷ Op Star ∷ in_form (97 ∷ []) ∷ Op RPar ∷ [])) ≡ true
worked_55 = refl

-- no form: {x := 1: 2}
worked_56 : refused (read 12 Value (Op LBrace ∷ in_form (120 ∷ []) ∷ Op ColonEqual ∷ whole 1 ∷ Op Colon ∷ whole 2 ∷ Op RBrace ∷ [])) ≡ true
worked_56 = refl

-- no form: a not b
worked_57 : refused (read 12 Value (in_form (97 ∷ []) ∷ Word Key.Not ∷ in_form (98 ∷ []) ∷ [])) ≡ true
worked_57 = refl

-- no form: lambda *: x
worked_58 : refused (read 12 Value (Word Key.Lambda ∷ Op Star ∷ Op Colon ∷ in_form (120 ∷ []) ∷ [])) ≡ true
worked_58 = refl

-- no form: lambda a=1, b: x
worked_59 : refused (read 12 Value (Word Key.Lambda ∷ in_form (97 ∷ []) ∷ Op Equal ∷ whole 1 ∷ Op Comma ∷ in_form (98 ∷ []) ∷ Op Colon ∷
    in_form (120 ∷ []) ∷ [])) ≡ true
worked_59 = refl

-- no form: 1 + not a
worked_60 : refused (read 12 Value (whole 1 ∷ Op Plus ∷ Word Key.Not ∷ in_form (97 ∷ []) ∷ [])) ≡ true
worked_60 = refl

-- no form: (x for x + y in z)
worked_61 : refused (read 12 Value (Op LPar ∷ in_form (120 ∷ []) ∷ Word Key.For ∷ in_form (120 ∷ []) ∷ Op Plus ∷ in_form (121 ∷ []) ∷ Word
    Key.In ∷ in_form (122 ∷ []) ∷ Op RPar ∷ [])) ≡ true
worked_61 = refl

-- no form: ()()(
worked_62 : refused (read 12 Value (Op LPar ∷ Op RPar ∷ Op LPar ∷ Op RPar ∷ Op LPar ∷ [])) ≡ true
worked_62 = refl

-- no form: [*a for a in b]
worked_63 : refused (read 12 Value (Op LSqb ∷ Op Star ∷ in_form (97 ∷ []) ∷ Word Key.For ∷ in_form (97 ∷ []) ∷ Word Key.In ∷ in_form
    (98 ∷ []) ∷ Op RSqb ∷ [])) ≡ true
worked_63 = refl

-- no form: a[x:=1:2]
worked_64 : refused (read 12 Value (in_form (97 ∷ []) ∷ Op LSqb ∷ in_form (120 ∷ []) ∷ Op ColonEqual ∷ whole 1 ∷ Op Colon ∷ whole
    2 ∷ Op RSqb ∷ [])) ≡ true
worked_64 = refl

-- no form: f(x for x in y, z)
worked_65 : refused (read 12 Value (in_form (102 ∷ []) ∷ Op LPar ∷ in_form (120 ∷ []) ∷ Word Key.For ∷ in_form (120 ∷ []) ∷ Word Key.In ∷
    in_form (121 ∷ []) ∷ Op Comma ∷ in_form (122 ∷ []) ∷ Op RPar ∷ [])) ≡ true
worked_65 = refl
