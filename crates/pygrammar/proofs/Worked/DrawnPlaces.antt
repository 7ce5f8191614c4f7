-- Lists of terminals drawn at random, each at the level of a place in a statement: the tree of each, or that it has
-- none.
--
-- Carries: no contract; its rows are computed as it is checked.
use Rattle.std.proofs.Common.{◌≡◌, refl, [], ◌∷◌, Some, None, true, false, Bool}
use Rattle.pylex_lexeme.specs.declared.kinds.Exact.TheVariants.{Amper, Circumflex, Colon, ColonEqual, Comma, DoubleStar, EqEqual, Equal}
use Rattle.pylex_lexeme.specs.declared.kinds.Exact.TheVariants.{LBrace, LeftShift, Less, LPar, LSqb, Minus, Plus, RBrace, RightShift, RPar}
use Rattle.pylex_lexeme.specs.declared.kinds.Exact.TheVariants.{RSqb, Star, Tilde, VBar, Ellipsis, Slash}
use Rattle.pytoken.specs.declared.keywords.Keyword.TheVariants as Key
use Rattle.pytree_node.specs.declared.operators.Operator.TheVariants as Bin
use Rattle.pytree_node.specs.declared.operators.UnaryOperator.TheVariants as Un
use Rattle.pytree_node.specs.declared.operators.BoolOperator.TheVariants as Join
use Rattle.pytree_node.specs.declared.operators.Comparison.TheVariants as Is
use Rattle.pytree_node.specs.declared.operators.Context.TheVariants.{Load, Store}
use Rattle.pygrammar.specs.declared.levels.Level.TheVariants.{Value, Stars, StarItem, Named, Expression, Subject}
use Rattle.pytree_node.specs.Trees
use Rattle.pytree_node.specs.Values
use Rattle.pytoken.specs.Terminals.{Op, Word, in_form, whole, Literal}
use Rattle.pygrammar.specs.Reader.{Answer, Found, NoForm, TooDeep, read}

abbrev refused : Answer Trees.Expr → Bool
refused (Found e []) = false
refused (Found e (t ∷ r)) = true
refused NoForm = true
refused TooDeep = false

-- Named: [
case_1 : refused (read 20 Named (Op LSqb ∷ [])) ≡ true
case_1 = refl

-- Stars: c ^ [ d e
case_5 : refused (read 20 Stars (in_form (99 ∷ []) ∷ Op Circumflex ∷ Op LSqb ∷ in_form (100 ∷ []) ∷ in_form (101 ∷ []) ∷ [])) ≡ true
case_5 = refl

-- Stars: yield not { a , * b , a
case_7 : refused (read 20 Stars (Word Key.Yield ∷ Word Key.Not ∷ Op LBrace ∷ in_form (97 ∷ []) ∷ Op Comma ∷ Op Star ∷ in_form (98 ∷ []) ∷ Op
    Comma ∷ in_form (97 ∷ []) ∷ [])) ≡ true
case_7 = refl

-- Value: a [ x := 1 ]
case_21 : read 20 Value (in_form (97 ∷ []) ∷ Op LSqb ∷ in_form (120 ∷ []) ∷ Op ColonEqual ∷ whole 1 ∷ Op RSqb ∷ []) ≡ Found
    (Trees.Subscript (Trees.Name (97 ∷ []) Load) (Trees.NamedExpr (Trees.Name (120 ∷ []) Store) (Trees.Constant (Values.Int 1))) Load) []
case_21 = refl

-- Expression: x : x
case_30 : refused (read 20 Expression (in_form (120 ∷ []) ∷ Op Colon ∷ in_form (120 ∷ []) ∷ [])) ≡ true
case_30 = refl

-- Stars: a < b == c
case_32 : read 20 Stars (in_form (97 ∷ []) ∷ Op Less ∷ in_form (98 ∷ []) ∷ Op EqEqual ∷ in_form (99 ∷ []) ∷ []) ≡ Found
    (Trees.Compare (Trees.Name (97 ∷ []) Load) (Is.Lt ∷ Is.Eq ∷ [])
    (Trees.an_expr (Trees.Name (98 ∷ []) Load) (Trees.an_expr (Trees.Name (99 ∷ []) Load) Trees.no_exprs))) []
case_32 = refl

-- Value: ( lambda x : x ) ( y )
case_35 : read 20 Value (Op LPar ∷ Word Key.Lambda ∷ in_form (120 ∷ []) ∷ Op Colon ∷ in_form (120 ∷ []) ∷ Op RPar ∷ Op LPar ∷ in_form
    (121 ∷ []) ∷ Op RPar ∷ []) ≡ Found
    (Trees.Call (Trees.Lambda (Trees.arguments Trees.no_arg (Trees.an_arg (Trees.arg (120 ∷ []) Trees.absent) Trees.no_arg) Trees.absent_arg
    Trees.no_arg Trees.no_optional Trees.absent_arg Trees.no_exprs) (Trees.Name (120 ∷ []) Load))
    (Trees.an_expr (Trees.Name (121 ∷ []) Load) Trees.no_exprs) Trees.no_keyword) []
case_35 = refl

-- Value: a
case_37 : read 20 Value (in_form (97 ∷ []) ∷ []) ≡ Found (Trees.Name (97 ∷ []) Load) []
case_37 = refl

-- Expression: a is not b < c not in d
case_38 : read 20 Expression (in_form (97 ∷ []) ∷ Word Key.Is ∷ Word Key.Not ∷ in_form (98 ∷ []) ∷ Op Less ∷ in_form (99 ∷ []) ∷ Word
    Key.Not ∷ Word Key.In ∷ in_form (100 ∷ []) ∷ []) ≡ Found (Trees.Compare (Trees.Name (97 ∷ []) Load) (Is.IsNot ∷ Is.Lt ∷ Is.NotIn ∷ [])
    (Trees.an_expr (Trees.Name (98 ∷ []) Load)
    (Trees.an_expr (Trees.Name (99 ∷ []) Load) (Trees.an_expr (Trees.Name (100 ∷ []) Load) Trees.no_exprs)))) []
case_38 = refl

-- StarItem: ( a and b ) and c and d
case_46 : read 20 StarItem (Op LPar ∷ in_form (97 ∷ []) ∷ Word Key.And ∷ in_form (98 ∷ []) ∷ Op RPar ∷ Word Key.And ∷ in_form (99 ∷ []) ∷
    Word Key.And ∷ in_form (100 ∷ []) ∷ []) ≡ Found
    (Trees.BoolOp Join.And
    (Trees.an_expr (Trees.BoolOp Join.And
    (Trees.an_expr (Trees.Name (97 ∷ []) Load) (Trees.an_expr (Trees.Name (98 ∷ []) Load) Trees.no_exprs)))
    (Trees.an_expr (Trees.Name (99 ∷ []) Load) (Trees.an_expr (Trees.Name (100 ∷ []) Load) Trees.no_exprs)))) []
case_46 = refl

-- Stars: c x for
case_55 : refused (read 20 Stars (in_form (99 ∷ []) ∷ in_form (120 ∷ []) ∷ Word Key.For ∷ [])) ≡ true
case_55 = refl

-- Value: * b ) and
case_61 : refused (read 20 Value (Op Star ∷ in_form (98 ∷ []) ∷ Op RPar ∷ Word Key.And ∷ [])) ≡ true
case_61 = refl

-- Named: a
case_67 : read 20 Named (in_form (97 ∷ []) ∷ []) ≡ Found (Trees.Name (97 ∷ []) Load) []
case_67 = refl

-- Value: b * b +
case_79 : refused (read 20 Value (in_form (98 ∷ []) ∷ Op Star ∷ in_form (98 ∷ []) ∷ Op Plus ∷ [])) ≡ true
case_79 = refl

-- StarItem: a a [ lambda : x : y ] ** < b **
case_80 : refused (read 20 StarItem (in_form (97 ∷ []) ∷ in_form (97 ∷ []) ∷ Op LSqb ∷ Word Key.Lambda ∷ Op Colon ∷ in_form (120 ∷ []) ∷ Op
    Colon ∷ in_form (121 ∷ []) ∷ Op RSqb ∷ Op DoubleStar ∷ Op Less ∷ in_form (98 ∷ []) ∷ Op DoubleStar ∷ [])) ≡ true
case_80 = refl

-- Expression: x
case_88 : read 20 Expression (in_form (120 ∷ []) ∷ []) ≡ Found (Trees.Name (120 ∷ []) Load) []
case_88 = refl

-- StarItem: ( yield
case_98 : refused (read 20 StarItem (Op LPar ∷ Word Key.Yield ∷ [])) ≡ true
case_98 = refl

-- Stars: ~ a | b and a & c ^ d << e >> f
case_100 : read 20 Stars (Op Tilde ∷ in_form (97 ∷ []) ∷ Op VBar ∷ in_form (98 ∷ []) ∷ Word Key.And ∷ in_form (97 ∷ []) ∷ Op Amper ∷ in_form
    (99 ∷ []) ∷ Op Circumflex ∷ in_form (100 ∷ []) ∷ Op LeftShift ∷ in_form (101 ∷ []) ∷ Op RightShift ∷ in_form (102 ∷ []) ∷ []) ≡ Found
    (Trees.BoolOp Join.And
    (Trees.an_expr (Trees.BinOp (Trees.UnaryOp Un.Invert (Trees.Name (97 ∷ []) Load)) Bin.BitOr (Trees.Name (98 ∷ []) Load))
    (Trees.an_expr (Trees.BinOp (Trees.BinOp (Trees.Name (97 ∷ []) Load) Bin.BitAnd (Trees.Name (99 ∷ []) Load)) Bin.BitXor
    (Trees.BinOp (Trees.BinOp (Trees.Name (100 ∷ []) Load) Bin.LShift (Trees.Name (101 ∷ []) Load)) Bin.RShift
    (Trees.Name (102 ∷ []) Load))) Trees.no_exprs))) []
case_100 = refl

-- Expression: x yield : y for x in / x if y else z
case_101 : refused (read 20 Expression (in_form (120 ∷ []) ∷ Word Key.Yield ∷ Op Colon ∷ in_form (121 ∷ []) ∷ Word Key.For ∷ in_form
    (120 ∷ []) ∷ Word Key.In ∷ Op Slash ∷ in_form (120 ∷ []) ∷ Word Key.If ∷ in_form (121 ∷ []) ∷ Word Key.Else ∷ in_form (122 ∷ []) ∷ []))
    ≡ true
case_101 = refl

-- Expression: lambda a if b else lambda : : ^
case_104 : refused (read 20 Expression (Word Key.Lambda ∷ in_form (97 ∷ []) ∷ Word Key.If ∷ in_form (98 ∷ []) ∷ Word Key.Else ∷ Word
    Key.Lambda ∷ Op Colon ∷ Op Colon ∷ Op Circumflex ∷ [])) ≡ true
case_104 = refl

-- Stars: b x :
case_108 : refused (read 20 Stars (in_form (98 ∷ []) ∷ in_form (120 ∷ []) ∷ Op Colon ∷ [])) ≡ true
case_108 = refl

-- StarItem: , ]
case_111 : refused (read 20 StarItem (Op Comma ∷ Op RSqb ∷ [])) ≡ true
case_111 = refl

-- StarItem: lambda : 0 not
case_113 : refused (read 20 StarItem (Word Key.Lambda ∷ Op Colon ∷ whole 0 ∷ Word Key.Not ∷ [])) ≡ true
case_113 = refl

-- Value: , < await "b"
case_117 : refused (read 20 Value (Op Comma ∷ Op Less ∷ Word Key.Await ∷ Literal (Values.Str (98 ∷ []) false) ∷ [])) ≡ true
case_117 = refl

-- Named: ... } None
case_119 : refused (read 20 Named (Op Ellipsis ∷ Op RBrace ∷ Word Key.None ∷ [])) ≡ true
case_119 = refl

-- StarItem: == c
case_124 : refused (read 20 StarItem (Op EqEqual ∷ in_form (99 ∷ []) ∷ [])) ≡ true
case_124 = refl

-- Stars: ( x := )
case_126 : refused (read 20 Stars (Op LPar ∷ in_form (120 ∷ []) ∷ Op ColonEqual ∷ Op RPar ∷ [])) ≡ true
case_126 = refl

-- Value: not not - x lambda : 0
case_129 : refused (read 20 Value (Word Key.Not ∷ Word Key.Not ∷ Op Minus ∷ in_form (120 ∷ []) ∷ Word Key.Lambda ∷ Op Colon ∷ whole 0 ∷ []))
    ≡ true
case_129 = refl

-- Value: lambda * * a , b 1 [ a
case_133 : refused (read 20 Value (Word Key.Lambda ∷ Op Star ∷ Op Star ∷ in_form (97 ∷ []) ∷ Op Comma ∷ in_form (98 ∷ []) ∷ whole 1 ∷ Op
    LSqb ∷ in_form (97 ∷ []) ∷ [])) ≡ true
case_133 = refl

-- Value: [ x : x , y in z for q in r ]
case_144 : refused (read 20 Value (Op LSqb ∷ in_form (120 ∷ []) ∷ Op Colon ∷ in_form (120 ∷ []) ∷ Op Comma ∷ in_form (121 ∷ []) ∷ Word
    Key.In ∷ in_form (122 ∷ []) ∷ Word Key.For ∷ in_form (113 ∷ []) ∷ Word Key.In ∷ in_form (114 ∷ []) ∷ Op RSqb ∷ [])) ≡ true
case_144 = refl

-- StarItem: ( lambda x : x ) ( y )
case_148 : read 20 StarItem (Op LPar ∷ Word Key.Lambda ∷ in_form (120 ∷ []) ∷ Op Colon ∷ in_form (120 ∷ []) ∷ Op RPar ∷ Op LPar ∷ in_form
    (121 ∷ []) ∷ Op RPar ∷ []) ≡ Found
    (Trees.Call (Trees.Lambda (Trees.arguments Trees.no_arg (Trees.an_arg (Trees.arg (120 ∷ []) Trees.absent) Trees.no_arg) Trees.absent_arg
    Trees.no_arg Trees.no_optional Trees.absent_arg Trees.no_exprs) (Trees.Name (120 ∷ []) Load))
    (Trees.an_expr (Trees.Name (121 ∷ []) Load) Trees.no_exprs) Trees.no_keyword) []
case_148 = refl

-- Stars: ( f :
case_162 : refused (read 20 Stars (Op LPar ∷ in_form (102 ∷ []) ∷ Op Colon ∷ [])) ≡ true
case_162 = refl

-- StarItem: - x ** - y
case_173 : read 20 StarItem (Op Minus ∷ in_form (120 ∷ []) ∷ Op DoubleStar ∷ Op Minus ∷ in_form (121 ∷ []) ∷ []) ≡ Found
    (Trees.UnaryOp Un.USub (Trees.BinOp (Trees.Name (120 ∷ []) Load) Bin.Pow (Trees.UnaryOp Un.USub (Trees.Name (121 ∷ []) Load)))) []
case_173 = refl

-- Stars: c
case_177 : read 20 Stars (in_form (99 ∷ []) ∷ []) ≡ Found (Trees.Name (99 ∷ []) Load) []
case_177 = refl

-- Stars: ... is None
case_184 : read 20 Stars (Op Ellipsis ∷ Word Key.Is ∷ Word Key.None ∷ []) ≡ Found
    (Trees.Compare (Trees.Constant (Values.Ellipsis)) (Is.Is ∷ []) (Trees.an_expr (Trees.Constant (Values.None)) Trees.no_exprs)) []
case_184 = refl

-- Named: [ * a , b ]
case_191 : read 20 Named (Op LSqb ∷ Op Star ∷ in_form (97 ∷ []) ∷ Op Comma ∷ in_form (98 ∷ []) ∷ Op RSqb ∷ []) ≡ Found
    (Trees.ListOf (Trees.an_expr (Trees.Starred (Trees.Name (97 ∷ []) Load) Load)
    (Trees.an_expr (Trees.Name (98 ∷ []) Load) Trees.no_exprs)) Load) []
case_191 = refl

-- StarItem: r
case_193 : read 20 StarItem (in_form (114 ∷ []) ∷ []) ≡ Found (Trees.Name (114 ∷ []) Load) []
case_193 = refl

-- Value: not "a" * "b"
case_194 : read 20 Value (Word Key.Not ∷ Literal (Values.Str (97 ∷ []) false) ∷ Op Star ∷ Literal (Values.Str (98 ∷ []) false) ∷ []) ≡ Found
    (Trees.UnaryOp Un.Not (Trees.BinOp (Trees.Constant (Values.Str (97 ∷ []) false)) Bin.Mult
    (Trees.Constant (Values.Str (98 ∷ []) false)))) []
case_194 = refl

-- Stars: a [ x := y ]
case_196 : read 20 Stars (in_form (97 ∷ []) ∷ Op LSqb ∷ in_form (120 ∷ []) ∷ Op ColonEqual ∷ in_form (121 ∷ []) ∷ Op RSqb ∷ []) ≡ Found
    (Trees.Subscript (Trees.Name (97 ∷ []) Load) (Trees.NamedExpr (Trees.Name (120 ∷ []) Store) (Trees.Name (121 ∷ []) Load)) Load) []
case_196 = refl

-- StarItem: not a
case_197 : read 20 StarItem (Word Key.Not ∷ in_form (97 ∷ []) ∷ []) ≡ Found (Trees.UnaryOp Un.Not (Trees.Name (97 ∷ []) Load)) []
case_197 = refl

-- Value: b
case_198 : read 20 Value (in_form (98 ∷ []) ∷ []) ≡ Found (Trees.Name (98 ∷ []) Load) []
case_198 = refl

-- Named: a if b else lambda : x
case_203 : read 20 Named (in_form (97 ∷ []) ∷ Word Key.If ∷ in_form (98 ∷ []) ∷ Word Key.Else ∷ Word Key.Lambda ∷ Op Colon ∷ in_form
    (120 ∷ []) ∷ []) ≡ Found (Trees.IfExp (Trees.Name (98 ∷ []) Load) (Trees.Name (97 ∷ []) Load)
    (Trees.Lambda (Trees.arguments Trees.no_arg Trees.no_arg Trees.absent_arg Trees.no_arg Trees.no_optional Trees.absent_arg
    Trees.no_exprs) (Trees.Name (120 ∷ []) Load))) []
case_203 = refl

-- Value: a - b - c
case_209 : read 20 Value (in_form (97 ∷ []) ∷ Op Minus ∷ in_form (98 ∷ []) ∷ Op Minus ∷ in_form (99 ∷ []) ∷ []) ≡ Found
    (Trees.BinOp (Trees.BinOp (Trees.Name (97 ∷ []) Load) Bin.Sub (Trees.Name (98 ∷ []) Load)) Bin.Sub (Trees.Name (99 ∷ []) Load)) []
case_209 = refl

-- Named: a [ 1 : 2 , * b ]
case_210 : read 20 Named (in_form (97 ∷ []) ∷ Op LSqb ∷ whole 1 ∷ Op Colon ∷ whole 2 ∷ Op Comma ∷ Op Star ∷ in_form (98 ∷ []) ∷ Op RSqb ∷
    []) ≡ Found (Trees.Subscript (Trees.Name (97 ∷ []) Load)
    (Trees.Tuple (Trees.an_expr (Trees.Slice (Trees.present (Trees.Constant (Values.Int 1))) (Trees.present (Trees.Constant (Values.Int 2)))
    Trees.absent) (Trees.an_expr (Trees.Starred (Trees.Name (98 ∷ []) Load) Load) Trees.no_exprs)) Load) Load) []
case_210 = refl

-- Value: x
case_211 : read 20 Value (in_form (120 ∷ []) ∷ []) ≡ Found (Trees.Name (120 ∷ []) Load) []
case_211 = refl

-- Named: { a , * b , }
case_213 : read 20 Named (Op LBrace ∷ in_form (97 ∷ []) ∷ Op Comma ∷ Op Star ∷ in_form (98 ∷ []) ∷ Op Comma ∷ Op RBrace ∷ []) ≡ Found
    (Trees.Set (Trees.an_expr (Trees.Name (97 ∷ []) Load) (Trees.an_expr (Trees.Starred (Trees.Name (98 ∷ []) Load) Load) Trees.no_exprs)))
    []
case_213 = refl

-- Stars: { }
case_216 : read 20 Stars (Op LBrace ∷ Op RBrace ∷ []) ≡ Found (Trees.Dict Trees.no_optional Trees.no_exprs) []
case_216 = refl

-- Value: x ( a and b ) and not c or d
case_226 : read 20 Value (in_form (120 ∷ []) ∷ Op LPar ∷ in_form (97 ∷ []) ∷ Word Key.And ∷ in_form (98 ∷ []) ∷ Op RPar ∷ Word Key.And ∷
    Word Key.Not ∷ in_form (99 ∷ []) ∷ Word Key.Or ∷ in_form (100 ∷ []) ∷ []) ≡ Found
    (Trees.BoolOp Join.Or
    (Trees.an_expr (Trees.BoolOp Join.And
    (Trees.an_expr (Trees.Call (Trees.Name (120 ∷ []) Load)
    (Trees.an_expr (Trees.BoolOp Join.And
    (Trees.an_expr (Trees.Name (97 ∷ []) Load) (Trees.an_expr (Trees.Name (98 ∷ []) Load) Trees.no_exprs))) Trees.no_exprs)
    Trees.no_keyword) (Trees.an_expr (Trees.UnaryOp Un.Not (Trees.Name (99 ∷ []) Load)) Trees.no_exprs)))
    (Trees.an_expr (Trees.Name (100 ∷ []) Load) Trees.no_exprs))) []
case_226 = refl

-- StarItem: [ x async for x , * y in z for q in r ]
case_230 : read 20 StarItem (Op LSqb ∷ in_form (120 ∷ []) ∷ Word Key.Async ∷ Word Key.For ∷ in_form (120 ∷ []) ∷ Op Comma ∷ Op Star ∷
    in_form (121 ∷ []) ∷ Word Key.In ∷ in_form (122 ∷ []) ∷ Word Key.For ∷ in_form (113 ∷ []) ∷ Word Key.In ∷ in_form (114 ∷ []) ∷ Op RSqb ∷
    []) ≡ Found (Trees.ListComp (Trees.Name (120 ∷ []) Load)
    (Trees.a_comprehension
    (Trees.Tuple (Trees.an_expr (Trees.Name (120 ∷ []) Store) (Trees.an_expr (Trees.Starred (Trees.Name (121 ∷ []) Store) Store)
    Trees.no_exprs)) Store) (Trees.Name (122 ∷ []) Load) Trees.no_exprs true (Trees.a_comprehension (Trees.Name (113 ∷ []) Store)
    (Trees.Name (114 ∷ []) Load) Trees.no_exprs false Trees.no_comprehension))) []
case_230 = refl

-- Stars: None
case_234 : read 20 Stars (Word Key.None ∷ []) ≡ Found (Trees.Constant (Values.None)) []
case_234 = refl

-- Expression: z
case_238 : read 20 Expression (in_form (122 ∷ []) ∷ []) ≡ Found (Trees.Name (122 ∷ []) Load) []
case_238 = refl

-- Expression: f ( ** a , b = c )
case_240 : read 20 Expression (in_form (102 ∷ []) ∷ Op LPar ∷ Op DoubleStar ∷ in_form (97 ∷ []) ∷ Op Comma ∷ in_form (98 ∷ []) ∷ Op Equal ∷
    in_form (99 ∷ []) ∷ Op RPar ∷ []) ≡ Found (Trees.Call (Trees.Name (102 ∷ []) Load) Trees.no_exprs
    (Trees.a_keyword None (Trees.Name (97 ∷ []) Load) (Trees.a_keyword (Some (98 ∷ [])) (Trees.Name (99 ∷ []) Load) Trees.no_keyword))) []
case_240 = refl

-- StarItem: a [ : ( a and b ) and c ]
case_243 : read 20 StarItem (in_form (97 ∷ []) ∷ Op LSqb ∷ Op Colon ∷ Op LPar ∷ in_form (97 ∷ []) ∷ Word Key.And ∷ in_form (98 ∷ []) ∷ Op
    RPar ∷ Word Key.And ∷ in_form (99 ∷ []) ∷ Op RSqb ∷ []) ≡ Found
    (Trees.Subscript (Trees.Name (97 ∷ []) Load)
    (Trees.Slice Trees.absent
    (Trees.present (Trees.BoolOp Join.And
    (Trees.an_expr (Trees.BoolOp Join.And
    (Trees.an_expr (Trees.Name (97 ∷ []) Load) (Trees.an_expr (Trees.Name (98 ∷ []) Load) Trees.no_exprs)))
    (Trees.an_expr (Trees.Name (99 ∷ []) Load) Trees.no_exprs)))) Trees.absent) Load) []
case_243 = refl

-- Value: lambda * a , b : a
case_246 : read 20 Value (Word Key.Lambda ∷ Op Star ∷ in_form (97 ∷ []) ∷ Op Comma ∷ in_form (98 ∷ []) ∷ Op Colon ∷ in_form (97 ∷ []) ∷ [])
    ≡ Found (Trees.Lambda (Trees.arguments Trees.no_arg Trees.no_arg (Trees.present_arg (Trees.arg (97 ∷ []) Trees.absent))
    (Trees.an_arg (Trees.arg (98 ∷ []) Trees.absent) Trees.no_arg) (Trees.an_optional Trees.absent Trees.no_optional) Trees.absent_arg
    Trees.no_exprs) (Trees.Name (97 ∷ []) Load)) []
case_246 = refl

-- StarItem: [ x async for x , * y in z for q in x ]
case_249 : read 20 StarItem (Op LSqb ∷ in_form (120 ∷ []) ∷ Word Key.Async ∷ Word Key.For ∷ in_form (120 ∷ []) ∷ Op Comma ∷ Op Star ∷
    in_form (121 ∷ []) ∷ Word Key.In ∷ in_form (122 ∷ []) ∷ Word Key.For ∷ in_form (113 ∷ []) ∷ Word Key.In ∷ in_form (120 ∷ []) ∷ Op RSqb ∷
    []) ≡ Found (Trees.ListComp (Trees.Name (120 ∷ []) Load)
    (Trees.a_comprehension
    (Trees.Tuple (Trees.an_expr (Trees.Name (120 ∷ []) Store) (Trees.an_expr (Trees.Starred (Trees.Name (121 ∷ []) Store) Store)
    Trees.no_exprs)) Store) (Trees.Name (122 ∷ []) Load) Trees.no_exprs true (Trees.a_comprehension (Trees.Name (113 ∷ []) Store)
    (Trees.Name (120 ∷ []) Load) Trees.no_exprs false Trees.no_comprehension))) []
case_249 = refl

-- Expression: ~ a | b & c ^ d << e >> f
case_256 : read 20 Expression (Op Tilde ∷ in_form (97 ∷ []) ∷ Op VBar ∷ in_form (98 ∷ []) ∷ Op Amper ∷ in_form (99 ∷ []) ∷ Op Circumflex ∷
    in_form (100 ∷ []) ∷ Op LeftShift ∷ in_form (101 ∷ []) ∷ Op RightShift ∷ in_form (102 ∷ []) ∷ []) ≡ Found
    (Trees.BinOp (Trees.UnaryOp Un.Invert (Trees.Name (97 ∷ []) Load)) Bin.BitOr
    (Trees.BinOp (Trees.BinOp (Trees.Name (98 ∷ []) Load) Bin.BitAnd (Trees.Name (99 ∷ []) Load)) Bin.BitXor
    (Trees.BinOp (Trees.BinOp (Trees.Name (100 ∷ []) Load) Bin.LShift (Trees.Name (101 ∷ []) Load)) Bin.RShift
    (Trees.Name (102 ∷ []) Load)))) []
case_256 = refl

-- Expression: { lambda : x : y }
case_259 : read 20 Expression (Op LBrace ∷ Word Key.Lambda ∷ Op Colon ∷ in_form (120 ∷ []) ∷ Op Colon ∷ in_form (121 ∷ []) ∷ Op RBrace ∷ [])
    ≡ Found (Trees.Dict (Trees.an_optional
    (Trees.present (Trees.Lambda (Trees.arguments Trees.no_arg Trees.no_arg Trees.absent_arg Trees.no_arg Trees.no_optional Trees.absent_arg
    Trees.no_exprs) (Trees.Name (120 ∷ []) Load))) Trees.no_optional) (Trees.an_expr (Trees.Name (121 ∷ []) Load) Trees.no_exprs)) []
case_259 = refl

-- Stars: ( lambda x : x ) ( y )
case_263 : read 20 Stars (Op LPar ∷ Word Key.Lambda ∷ in_form (120 ∷ []) ∷ Op Colon ∷ in_form (120 ∷ []) ∷ Op RPar ∷ Op LPar ∷ in_form
    (121 ∷ []) ∷ Op RPar ∷ []) ≡ Found
    (Trees.Call (Trees.Lambda (Trees.arguments Trees.no_arg (Trees.an_arg (Trees.arg (120 ∷ []) Trees.absent) Trees.no_arg) Trees.absent_arg
    Trees.no_arg Trees.no_optional Trees.absent_arg Trees.no_exprs) (Trees.Name (120 ∷ []) Load))
    (Trees.an_expr (Trees.Name (121 ∷ []) Load) Trees.no_exprs) Trees.no_keyword) []
case_263 = refl

-- Stars: a [ 1 : : 2 ]
case_288 : read 20 Stars (in_form (97 ∷ []) ∷ Op LSqb ∷ whole 1 ∷ Op Colon ∷ Op Colon ∷ whole 2 ∷ Op RSqb ∷ []) ≡ Found
    (Trees.Subscript (Trees.Name (97 ∷ []) Load) (Trees.Slice (Trees.present (Trees.Constant (Values.Int 1))) Trees.absent
    (Trees.present (Trees.Constant (Values.Int 2)))) Load) []
case_288 = refl

-- StarItem: ( a and b ) and c or d
case_290 : read 20 StarItem (Op LPar ∷ in_form (97 ∷ []) ∷ Word Key.And ∷ in_form (98 ∷ []) ∷ Op RPar ∷ Word Key.And ∷ in_form (99 ∷ []) ∷
    Word Key.Or ∷ in_form (100 ∷ []) ∷ []) ≡ Found
    (Trees.BoolOp Join.Or
    (Trees.an_expr (Trees.BoolOp Join.And
    (Trees.an_expr (Trees.BoolOp Join.And
    (Trees.an_expr (Trees.Name (97 ∷ []) Load) (Trees.an_expr (Trees.Name (98 ∷ []) Load) Trees.no_exprs)))
    (Trees.an_expr (Trees.Name (99 ∷ []) Load) Trees.no_exprs))) (Trees.an_expr (Trees.Name (100 ∷ []) Load) Trees.no_exprs))) []
case_290 = refl

-- StarItem: c < b == c
case_294 : read 20 StarItem (in_form (99 ∷ []) ∷ Op Less ∷ in_form (98 ∷ []) ∷ Op EqEqual ∷ in_form (99 ∷ []) ∷ []) ≡ Found
    (Trees.Compare (Trees.Name (99 ∷ []) Load) (Is.Lt ∷ Is.Eq ∷ [])
    (Trees.an_expr (Trees.Name (98 ∷ []) Load) (Trees.an_expr (Trees.Name (99 ∷ []) Load) Trees.no_exprs))) []
case_294 = refl

-- Stars: "a" "b"
case_295 : read 20 Stars (Literal (Values.Str (97 ∷ []) false) ∷ Literal (Values.Str (98 ∷ []) false) ∷ []) ≡ Found
    (Trees.Constant (Values.Str (97 ∷ 98 ∷ []) false)) []
case_295 = refl

-- Subject: a , * b
case_301 : read 20 Subject (in_form (97 ∷ []) ∷ Op Comma ∷ Op Star ∷ in_form (98 ∷ []) ∷ []) ≡ Found
    (Trees.Tuple (Trees.an_expr (Trees.Name (97 ∷ []) Load) (Trees.an_expr (Trees.Starred (Trees.Name (98 ∷ []) Load) Load) Trees.no_exprs))
    Load) []
case_301 = refl

-- Subject: * a ,
case_302 : read 20 Subject (Op Star ∷ in_form (97 ∷ []) ∷ Op Comma ∷ []) ≡ Found
    (Trees.Tuple (Trees.an_expr (Trees.Starred (Trees.Name (97 ∷ []) Load) Load) Trees.no_exprs) Load) []
case_302 = refl

-- Subject: a := 1, and a colon after it
case_303 : read 20 Subject (in_form (97 ∷ []) ∷ Op ColonEqual ∷ whole 1 ∷ Op Colon ∷ []) ≡ Found
    (Trees.NamedExpr (Trees.Name (97 ∷ []) Store) (Trees.Constant (Values.Int 1))) (Op Colon ∷ [])
case_303 = refl

-- Subject: * a
case_304 : refused (read 20 Subject (Op Star ∷ in_form (97 ∷ []) ∷ [])) ≡ true
case_304 = refl

-- Subject: a , ,
case_305 : refused (read 20 Subject (in_form (97 ∷ []) ∷ Op Comma ∷ Op Comma ∷ [])) ≡ true
case_305 = refl
