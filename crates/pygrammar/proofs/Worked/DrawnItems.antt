-- Lists of terminals drawn at random, each at the level of an item in brackets: the tree of each, or that it has none.
--
-- Carries: no contract; its rows are computed as it is checked.
use Rattle.std.proofs.Common.{◌≡◌, refl, [], ◌∷◌, true, false, Bool}
use Rattle.pylex_lexeme.specs.declared.kinds.Exact.TheVariants.{Colon, ColonEqual, Comma, Dot, DoubleStar, EqEqual, Equal, LBrace, Less}
use Rattle.pylex_lexeme.specs.declared.kinds.Exact.TheVariants.{LPar, LSqb, Minus, Plus, RBrace, RPar, RSqb, Star, Ellipsis}
use Rattle.pytoken.specs.declared.keywords.Keyword.TheVariants as Key
use Rattle.pytree_node.specs.declared.operators.Operator.TheVariants as Bin
use Rattle.pytree_node.specs.declared.operators.UnaryOperator.TheVariants as Un
use Rattle.pytree_node.specs.declared.operators.Comparison.TheVariants as Is
use Rattle.pytree_node.specs.declared.operators.Context.TheVariants.{Load, Store}
use Rattle.pygrammar.specs.declared.levels.Level.TheVariants.{Elem, Slices, Part, Slice}
use Rattle.pytree_node.specs.Trees
use Rattle.pytree_node.specs.Values
use Rattle.pytoken.specs.Terminals.{Op, Word, in_form, whole, Literal}
use Rattle.pygrammar.specs.Reader.{Answer, Found, NoForm, TooDeep, read}

abbrev refused : Answer Trees.Expr → Bool
refused (Found e []) = false
refused (Found e (t ∷ r)) = true
refused NoForm = true
refused TooDeep = false

-- Part: yield
case_19 : refused (read 20 Part (Word Key.Yield ∷ [])) ≡ true
case_19 = refl

-- Elem: { a , * b , "b" }
case_20 : read 20 Elem (Op LBrace ∷ in_form (97 ∷ []) ∷ Op Comma ∷ Op Star ∷ in_form (98 ∷ []) ∷ Op Comma ∷ Literal
    (Values.Str (98 ∷ []) false) ∷ Op RBrace ∷ []) ≡ Found
    (Trees.Set (Trees.an_expr (Trees.Name (97 ∷ []) Load) (Trees.an_expr (Trees.Starred (Trees.Name (98 ∷ []) Load) Load)
    (Trees.an_expr (Trees.Constant (Values.Str (98 ∷ []) false)) Trees.no_exprs)))) []
case_20 = refl

-- Slice: < ( == =
case_22 : refused (read 20 Slice (Op Less ∷ Op LPar ∷ Op EqEqual ∷ Op Equal ∷ [])) ≡ true
case_22 = refl

-- Slice: ( x :=
case_42 : refused (read 20 Slice (Op LPar ∷ in_form (120 ∷ []) ∷ Op ColonEqual ∷ [])) ≡ true
case_42 = refl

-- Slice: a and b ) and c or d
case_48 : refused (read 20 Slice (in_form (97 ∷ []) ∷ Word Key.And ∷ in_form (98 ∷ []) ∷ Op RPar ∷ Word Key.And ∷ in_form (99 ∷ []) ∷ Word
    Key.Or ∷ in_form (100 ∷ []) ∷ [])) ≡ true
case_48 = refl

-- Slice: a + b * c
case_56 : read 20 Slice (in_form (97 ∷ []) ∷ Op Plus ∷ in_form (98 ∷ []) ∷ Op Star ∷ in_form (99 ∷ []) ∷ []) ≡ Found
    (Trees.BinOp (Trees.Name (97 ∷ []) Load) Bin.Add (Trees.BinOp (Trees.Name (98 ∷ []) Load) Bin.Mult (Trees.Name (99 ∷ []) Load))) []
case_56 = refl

-- Part: "a" , **
case_66 : refused (read 20 Part (Literal (Values.Str (97 ∷ []) false) ∷ Op Comma ∷ Op DoubleStar ∷ [])) ≡ true
case_66 = refl

-- Part: { lambda in : x : y }
case_69 : refused (read 20 Part (Op LBrace ∷ Word Key.Lambda ∷ Word Key.In ∷ Op Colon ∷ in_form (120 ∷ []) ∷ Op Colon ∷ in_form (121 ∷ [])
    ∷ Op RBrace ∷ [])) ≡ true
case_69 = refl

-- Slices: a ** d b
case_70 : refused (read 20 Slices (in_form (97 ∷ []) ∷ Op DoubleStar ∷ in_form (100 ∷ []) ∷ in_form (98 ∷ []) ∷ [])) ≡ true
case_70 = refl

-- Elem: not a in b
case_71 : read 20 Elem (Word Key.Not ∷ in_form (97 ∷ []) ∷ Word Key.In ∷ in_form (98 ∷ []) ∷ []) ≡ Found
    (Trees.UnaryOp Un.Not (Trees.Compare (Trees.Name (97 ∷ []) Load) (Is.Within ∷ [])
    (Trees.an_expr (Trees.Name (98 ∷ []) Load) Trees.no_exprs))) []
case_71 = refl

-- Slice: a [ 1 : 2 , * b ]
case_72 : read 20 Slice (in_form (97 ∷ []) ∷ Op LSqb ∷ whole 1 ∷ Op Colon ∷ whole 2 ∷ Op Comma ∷ Op Star ∷ in_form (98 ∷ []) ∷ Op RSqb ∷ [])
    ≡ Found (Trees.Subscript (Trees.Name (97 ∷ []) Load)
    (Trees.Tuple (Trees.an_expr (Trees.Slice (Trees.present (Trees.Constant (Values.Int 1))) (Trees.present (Trees.Constant (Values.Int 2)))
    Trees.absent) (Trees.an_expr (Trees.Starred (Trees.Name (98 ∷ []) Load) Load) Trees.no_exprs)) Load) Load) []
case_72 = refl

-- Elem: a ( x for ( a . b , ** [ c , c
case_73 : refused (read 20 Elem (in_form (97 ∷ []) ∷ Op LPar ∷ in_form (120 ∷ []) ∷ Word Key.For ∷ Op LPar ∷ in_form (97 ∷ []) ∷ Op Dot ∷
    in_form (98 ∷ []) ∷ Op Comma ∷ Op DoubleStar ∷ Op LSqb ∷ in_form (99 ∷ []) ∷ Op Comma ∷ in_form (99 ∷ []) ∷ [])) ≡ true
case_73 = refl

-- Part: { ( x := 1 ) : a 2 }
case_74 : refused (read 20 Part (Op LBrace ∷ Op LPar ∷ in_form (120 ∷ []) ∷ Op ColonEqual ∷ whole 1 ∷ Op RPar ∷ Op Colon ∷ in_form (97 ∷ [])
    ∷ whole 2 ∷ Op RBrace ∷ [])) ≡ true
case_74 = refl

-- Part: b : )
case_87 : refused (read 20 Part (in_form (98 ∷ []) ∷ Op Colon ∷ Op RPar ∷ [])) ≡ true
case_87 = refl

-- Slice: ( x := 1 )
case_90 : read 20 Slice (Op LPar ∷ in_form (120 ∷ []) ∷ Op ColonEqual ∷ whole 1 ∷ Op RPar ∷ []) ≡ Found
    (Trees.NamedExpr (Trees.Name (120 ∷ []) Store) (Trees.Constant (Values.Int 1))) []
case_90 = refl

-- Slices: a ( )
case_94 : read 20 Slices (in_form (97 ∷ []) ∷ Op LPar ∷ Op RPar ∷ []) ≡ Found
    (Trees.Call (Trees.Name (97 ∷ []) Load) Trees.no_exprs Trees.no_keyword) []
case_94 = refl

-- Slices: f y ( ) ** a , b = c )
case_106 : refused (read 20 Slices (in_form (102 ∷ []) ∷ in_form (121 ∷ []) ∷ Op LPar ∷ Op RPar ∷ Op DoubleStar ∷ in_form (97 ∷ []) ∷ Op
    Comma ∷ in_form (98 ∷ []) ∷ Op Equal ∷ in_form (99 ∷ []) ∷ Op RPar ∷ [])) ≡ true
case_106 = refl

-- Slices: and and
case_112 : refused (read 20 Slices (Word Key.And ∷ Word Key.And ∷ [])) ≡ true
case_112 = refl

-- Elem: a , and
case_115 : refused (read 20 Elem (in_form (97 ∷ []) ∷ Op Comma ∷ Word Key.And ∷ [])) ≡ true
case_115 = refl

-- Elem: yield a * b b + c
case_118 : refused (read 20 Elem (Word Key.Yield ∷ in_form (97 ∷ []) ∷ Op Star ∷ in_form (98 ∷ []) ∷ in_form (98 ∷ []) ∷ Op Plus ∷
    in_form (99 ∷ []) ∷ [])) ≡ true
case_118 = refl

-- Elem: a b else lambda : c
case_125 : refused (read 20 Elem (in_form (97 ∷ []) ∷ in_form (98 ∷ []) ∷ Word Key.Else ∷ Word Key.Lambda ∷ Op Colon ∷
    in_form (99 ∷ []) ∷ [])) ≡ true
case_125 = refl

-- Slice: ... : is
case_132 : refused (read 20 Slice (Op Ellipsis ∷ Op Colon ∷ Word Key.Is ∷ [])) ≡ true
case_132 = refl

-- Slice: a [ 1
case_135 : refused (read 20 Slice (in_form (97 ∷ []) ∷ Op LSqb ∷ whole 1 ∷ [])) ≡ true
case_135 = refl

-- Elem: { lambda : 1 : y }
case_143 : read 20 Elem (Op LBrace ∷ Word Key.Lambda ∷ Op Colon ∷ whole 1 ∷ Op Colon ∷ in_form (121 ∷ []) ∷ Op RBrace ∷ []) ≡ Found
    (Trees.Dict (Trees.an_optional
    (Trees.present (Trees.Lambda (Trees.arguments Trees.no_arg Trees.no_arg Trees.absent_arg Trees.no_arg Trees.no_optional Trees.absent_arg
    Trees.no_exprs) (Trees.Constant (Values.Int 1)))) Trees.no_optional) (Trees.an_expr (Trees.Name (121 ∷ []) Load) Trees.no_exprs)) []
case_143 = refl

-- Slice: ( )
case_147 : read 20 Slice (Op LPar ∷ Op RPar ∷ []) ≡ Found (Trees.Tuple Trees.no_exprs Load) []
case_147 = refl

-- Slices: x : x a if ) ( y )
case_151 : refused (read 20 Slices (in_form (120 ∷ []) ∷ Op Colon ∷ in_form (120 ∷ []) ∷ in_form (97 ∷ []) ∷ Word Key.If ∷ Op RPar ∷ Op LPar
    ∷ in_form (121 ∷ []) ∷ Op RPar ∷ [])) ≡ true
case_151 = refl

-- Elem: f ( a ) ( b ) . c [ d ]
case_155 : read 20 Elem (in_form (102 ∷ []) ∷ Op LPar ∷ in_form (97 ∷ []) ∷ Op RPar ∷ Op LPar ∷ in_form (98 ∷ []) ∷ Op RPar ∷ Op Dot ∷
    in_form (99 ∷ []) ∷ Op LSqb ∷ in_form (100 ∷ []) ∷ Op RSqb ∷ []) ≡ Found
    (Trees.Subscript (Trees.Attribute
    (Trees.Call (Trees.Call (Trees.Name (102 ∷ []) Load) (Trees.an_expr (Trees.Name (97 ∷ []) Load) Trees.no_exprs) Trees.no_keyword)
    (Trees.an_expr (Trees.Name (98 ∷ []) Load) Trees.no_exprs) Trees.no_keyword) (99 ∷ []) Load) (Trees.Name (100 ∷ []) Load) Load) []
case_155 = refl

-- Part: , is { ** a (
case_164 : refused (read 20 Part (Op Comma ∷ Word Key.Is ∷ Op LBrace ∷ Op DoubleStar ∷ in_form (97 ∷ []) ∷ Op LPar ∷ [])) ≡ true
case_164 = refl

-- Elem: f ( x for x in y )
case_165 : read 20 Elem (in_form (102 ∷ []) ∷ Op LPar ∷ in_form (120 ∷ []) ∷ Word Key.For ∷ in_form (120 ∷ []) ∷ Word Key.In ∷ in_form
    (121 ∷ []) ∷ Op RPar ∷ []) ≡ Found
    (Trees.Call (Trees.Name (102 ∷ []) Load)
    (Trees.an_expr (Trees.GeneratorExp (Trees.Name (120 ∷ []) Load) (Trees.a_comprehension (Trees.Name (120 ∷ []) Store)
    (Trees.Name (121 ∷ []) Load) Trees.no_exprs false Trees.no_comprehension)) Trees.no_exprs) Trees.no_keyword) []
case_165 = refl

-- Slices: a ,
case_168 : read 20 Slices (in_form (97 ∷ []) ∷ Op Comma ∷ []) ≡ Found
    (Trees.Tuple (Trees.an_expr (Trees.Name (97 ∷ []) Load) Trees.no_exprs) Load) []
case_168 = refl

-- Part: { a , * b , }
case_181 : read 20 Part (Op LBrace ∷ in_form (97 ∷ []) ∷ Op Comma ∷ Op Star ∷ in_form (98 ∷ []) ∷ Op Comma ∷ Op RBrace ∷ []) ≡ Found
    (Trees.Set (Trees.an_expr (Trees.Name (97 ∷ []) Load) (Trees.an_expr (Trees.Starred (Trees.Name (98 ∷ []) Load) Load) Trees.no_exprs)))
    []
case_181 = refl

-- Slices: ( yield from a )
case_188 : read 20 Slices (Op LPar ∷ Word Key.Yield ∷ Word Key.From ∷ in_form (97 ∷ []) ∷ Op RPar ∷ []) ≡ Found
    (Trees.YieldFrom (Trees.Name (97 ∷ []) Load)) []
case_188 = refl

-- Part: ( a )
case_189 : read 20 Part (Op LPar ∷ in_form (97 ∷ []) ∷ Op RPar ∷ []) ≡ Found (Trees.Name (97 ∷ []) Load) []
case_189 = refl

-- Elem: ( lambda x : x ) ( y )
case_199 : read 20 Elem (Op LPar ∷ Word Key.Lambda ∷ in_form (120 ∷ []) ∷ Op Colon ∷ in_form (120 ∷ []) ∷ Op RPar ∷ Op LPar ∷ in_form
    (121 ∷ []) ∷ Op RPar ∷ []) ≡ Found
    (Trees.Call (Trees.Lambda (Trees.arguments Trees.no_arg (Trees.an_arg (Trees.arg (120 ∷ []) Trees.absent) Trees.no_arg) Trees.absent_arg
    Trees.no_arg Trees.no_optional Trees.absent_arg Trees.no_exprs) (Trees.Name (120 ∷ []) Load))
    (Trees.an_expr (Trees.Name (121 ∷ []) Load) Trees.no_exprs) Trees.no_keyword) []
case_199 = refl

-- Part: ( a ) ( b ) . c [ d ]
case_220 : read 20 Part (Op LPar ∷ in_form (97 ∷ []) ∷ Op RPar ∷ Op LPar ∷ in_form (98 ∷ []) ∷ Op RPar ∷ Op Dot ∷ in_form (99 ∷ []) ∷ Op
    LSqb ∷ in_form (100 ∷ []) ∷ Op RSqb ∷ []) ≡ Found
    (Trees.Subscript (Trees.Attribute (Trees.Call (Trees.Name (97 ∷ []) Load) (Trees.an_expr (Trees.Name (98 ∷ []) Load) Trees.no_exprs)
    Trees.no_keyword) (99 ∷ []) Load) (Trees.Name (100 ∷ []) Load) Load) []
case_220 = refl

-- Part: f ( * a , b )
case_223 : read 20 Part (in_form (102 ∷ []) ∷ Op LPar ∷ Op Star ∷ in_form (97 ∷ []) ∷ Op Comma ∷ in_form (98 ∷ []) ∷ Op RPar ∷ []) ≡ Found
    (Trees.Call (Trees.Name (102 ∷ []) Load) (Trees.an_expr (Trees.Starred (Trees.Name (97 ∷ []) Load) Load)
    (Trees.an_expr (Trees.Name (98 ∷ []) Load) Trees.no_exprs)) Trees.no_keyword) []
case_223 = refl

-- Elem: { ( x := 1 ) : 2 }
case_224 : read 20 Elem (Op LBrace ∷ Op LPar ∷ in_form (120 ∷ []) ∷ Op ColonEqual ∷ whole 1 ∷ Op RPar ∷ Op Colon ∷ whole 2 ∷ Op RBrace ∷ [])
    ≡ Found (Trees.Dict (Trees.an_optional (Trees.present (Trees.NamedExpr (Trees.Name (120 ∷ []) Store) (Trees.Constant (Values.Int 1))))
    Trees.no_optional) (Trees.an_expr (Trees.Constant (Values.Int 2)) Trees.no_exprs)) []
case_224 = refl

-- Part: a
case_239 : read 20 Part (in_form (97 ∷ []) ∷ []) ≡ Found (Trees.Name (97 ∷ []) Load) []
case_239 = refl

-- Slices: 0
case_242 : read 20 Slices (whole 0 ∷ []) ≡ Found (Trees.Constant (Values.Int 0)) []
case_242 = refl

-- Slices: c
case_250 : read 20 Slices (in_form (99 ∷ []) ∷ []) ≡ Found (Trees.Name (99 ∷ []) Load) []
case_250 = refl

-- Elem: { x : y for x in z if a if b }
case_260 : read 20 Elem (Op LBrace ∷ in_form (120 ∷ []) ∷ Op Colon ∷ in_form (121 ∷ []) ∷ Word Key.For ∷ in_form (120 ∷ []) ∷ Word Key.In ∷
    in_form (122 ∷ []) ∷ Word Key.If ∷ in_form (97 ∷ []) ∷ Word Key.If ∷ in_form (98 ∷ []) ∷ Op RBrace ∷ []) ≡ Found
    (Trees.DictComp (Trees.Name (120 ∷ []) Load) (Trees.Name (121 ∷ []) Load) (Trees.a_comprehension (Trees.Name (120 ∷ []) Store)
    (Trees.Name (122 ∷ []) Load) (Trees.an_expr (Trees.Name (97 ∷ []) Load) (Trees.an_expr (Trees.Name (98 ∷ []) Load) Trees.no_exprs))
    false Trees.no_comprehension)) []
case_260 = refl

-- Part: c
case_264 : read 20 Part (in_form (99 ∷ []) ∷ []) ≡ Found (Trees.Name (99 ∷ []) Load) []
case_264 = refl

-- Part: d
case_266 : read 20 Part (in_form (100 ∷ []) ∷ []) ≡ Found (Trees.Name (100 ∷ []) Load) []
case_266 = refl

-- Slice: ( yield from a )
case_268 : read 20 Slice (Op LPar ∷ Word Key.Yield ∷ Word Key.From ∷ in_form (97 ∷ []) ∷ Op RPar ∷ []) ≡ Found
    (Trees.YieldFrom (Trees.Name (97 ∷ []) Load)) []
case_268 = refl

-- Slice: :
case_274 : read 20 Slice (Op Colon ∷ []) ≡ Found (Trees.Slice Trees.absent Trees.absent Trees.absent) []
case_274 = refl

-- Part: lambda * a , b : a
case_276 : read 20 Part (Word Key.Lambda ∷ Op Star ∷ in_form (97 ∷ []) ∷ Op Comma ∷ in_form (98 ∷ []) ∷ Op Colon ∷ in_form (97 ∷ []) ∷ []) ≡
    Found (Trees.Lambda (Trees.arguments Trees.no_arg Trees.no_arg (Trees.present_arg (Trees.arg (97 ∷ []) Trees.absent))
    (Trees.an_arg (Trees.arg (98 ∷ []) Trees.absent) Trees.no_arg) (Trees.an_optional Trees.absent Trees.no_optional) Trees.absent_arg
    Trees.no_exprs) (Trees.Name (97 ∷ []) Load)) []
case_276 = refl

-- Slices: a - b - c
case_281 : read 20 Slices (in_form (97 ∷ []) ∷ Op Minus ∷ in_form (98 ∷ []) ∷ Op Minus ∷ in_form (99 ∷ []) ∷ []) ≡ Found
    (Trees.BinOp (Trees.BinOp (Trees.Name (97 ∷ []) Load) Bin.Sub (Trees.Name (98 ∷ []) Load)) Bin.Sub (Trees.Name (99 ∷ []) Load)) []
case_281 = refl

-- Elem: { ** a , b : c }
case_283 : read 20 Elem (Op LBrace ∷ Op DoubleStar ∷ in_form (97 ∷ []) ∷ Op Comma ∷ in_form (98 ∷ []) ∷ Op Colon ∷ in_form (99 ∷ []) ∷ Op
    RBrace ∷ []) ≡ Found
    (Trees.Dict (Trees.an_optional Trees.absent (Trees.an_optional (Trees.present (Trees.Name (98 ∷ []) Load)) Trees.no_optional))
    (Trees.an_expr (Trees.Name (97 ∷ []) Load) (Trees.an_expr (Trees.Name (99 ∷ []) Load) Trees.no_exprs))) []
case_283 = refl

-- Elem: a [ : ]
case_286 : read 20 Elem (in_form (97 ∷ []) ∷ Op LSqb ∷ Op Colon ∷ Op RSqb ∷ []) ≡ Found
    (Trees.Subscript (Trees.Name (97 ∷ []) Load) (Trees.Slice Trees.absent Trees.absent Trees.absent) Load) []
case_286 = refl

-- Slices: * b
case_289 : read 20 Slices (Op Star ∷ in_form (98 ∷ []) ∷ []) ≡ Found
    (Trees.Tuple (Trees.an_expr (Trees.Starred (Trees.Name (98 ∷ []) Load) Load) Trees.no_exprs) Load) []
case_289 = refl

-- Slices: ( a , a )
case_291 : read 20 Slices (Op LPar ∷ in_form (97 ∷ []) ∷ Op Comma ∷ in_form (97 ∷ []) ∷ Op RPar ∷ []) ≡ Found
    (Trees.Tuple (Trees.an_expr (Trees.Name (97 ∷ []) Load) (Trees.an_expr (Trees.Name (97 ∷ []) Load) Trees.no_exprs)) Load) []
case_291 = refl

-- Slice: c
case_298 : read 20 Slice (in_form (99 ∷ []) ∷ []) ≡ Found (Trees.Name (99 ∷ []) Load) []
case_298 = refl
