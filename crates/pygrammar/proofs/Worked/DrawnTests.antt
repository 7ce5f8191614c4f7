-- Lists of terminals drawn at random, each at a level from `or` to `&`: the tree of each, or that it has none.
--
-- Carries: no contract; its rows are computed as it is checked.
use Rattle.std.proofs.Common.{◌≡◌, refl, [], ◌∷◌, Some, None, true, false, Bool}
use Rattle.pylex_lexeme.specs.declared.kinds.Exact.TheVariants.{Amper, Circumflex, Colon, ColonEqual, Comma, Dot, DoubleStar, EqEqual}
use Rattle.pylex_lexeme.specs.declared.kinds.Exact.TheVariants.{Equal, LBrace, LeftShift, Less, LPar, LSqb, Minus, Plus, RBrace, RightShift}
use Rattle.pylex_lexeme.specs.declared.kinds.Exact.TheVariants.{RPar, RSqb, Star, Tilde, VBar, Ellipsis}
use Rattle.pytoken.specs.declared.keywords.Keyword.TheVariants as Key
use Rattle.pytree_node.specs.declared.operators.Operator.TheVariants as Bin
use Rattle.pytree_node.specs.declared.operators.UnaryOperator.TheVariants as Un
use Rattle.pytree_node.specs.declared.operators.BoolOperator.TheVariants as Join
use Rattle.pytree_node.specs.declared.operators.Comparison.TheVariants as Is
use Rattle.pytree_node.specs.declared.operators.Context.TheVariants.{Load, Store}
use Rattle.pygrammar.specs.declared.levels.Level.TheVariants.{Or, And, Not, Compare, BitOr, BitXor, BitAnd}
use Rattle.pytree_node.specs.Trees
use Rattle.pytree_node.specs.Values
use Rattle.pytoken.specs.Terminals.{Op, Word, in_form, whole, Literal}
use Rattle.pygrammar.specs.Reader.{Answer, Found, NoForm, TooDeep, read}

abbrev refused : Answer Trees.Expr → Bool
refused (Found e []) = false
refused (Found e (t ∷ r)) = true
refused NoForm = true
refused TooDeep = false

-- BitOr: for q in
case_2 : refused (read 20 BitOr (Word Key.For ∷ in_form (113 ∷ []) ∷ Word Key.In ∷ [])) ≡ true
case_2 = refl

-- Compare: a is not b < c not in d
case_3 : read 20 Compare (in_form (97 ∷ []) ∷ Word Key.Is ∷ Word Key.Not ∷ in_form (98 ∷ []) ∷ Op Less ∷ in_form (99 ∷ []) ∷ Word Key.Not ∷
    Word Key.In ∷ in_form (100 ∷ []) ∷ []) ≡ Found (Trees.Compare (Trees.Name (97 ∷ []) Load) (Is.IsNot ∷ Is.Lt ∷ Is.NotIn ∷ [])
    (Trees.an_expr (Trees.Name (98 ∷ []) Load)
    (Trees.an_expr (Trees.Name (99 ∷ []) Load) (Trees.an_expr (Trees.Name (100 ∷ []) Load) Trees.no_exprs)))) []
case_3 = refl

-- BitXor: c c
case_8 : refused (read 20 BitXor (in_form (99 ∷ []) ∷ in_form (99 ∷ []) ∷ [])) ≡ true
case_8 = refl

-- BitOr: a a , b
case_11 : refused (read 20 BitOr (in_form (97 ∷ []) ∷ in_form (97 ∷ []) ∷ Op Comma ∷ in_form (98 ∷ []) ∷ [])) ≡ true
case_11 = refl

-- And: == ( x := 1 { : 2
case_13 : refused (read 20 And (Op EqEqual ∷ Op LPar ∷ in_form (120 ∷ []) ∷ Op ColonEqual ∷ whole 1 ∷ Op LBrace ∷ Op Colon ∷ whole 2 ∷ []))
    ≡ true
case_13 = refl

-- Compare: ( yield :
case_14 : refused (read 20 Compare (Op LPar ∷ Word Key.Yield ∷ Op Colon ∷ [])) ≡ true
case_14 = refl

-- Not: f ( x lambda x a , b )
case_16 : refused (read 20 Not (in_form (102 ∷ []) ∷ Op LPar ∷ in_form (120 ∷ []) ∷ Word Key.Lambda ∷ in_form (120 ∷ []) ∷ in_form (97 ∷ [])
    ∷ Op Comma ∷ in_form (98 ∷ []) ∷ Op RPar ∷ [])) ≡ true
case_16 = refl

-- Compare: f ( ** a , b = c )
case_18 : read 20 Compare (in_form (102 ∷ []) ∷ Op LPar ∷ Op DoubleStar ∷ in_form (97 ∷ []) ∷ Op Comma ∷ in_form (98 ∷ []) ∷ Op Equal ∷
    in_form (99 ∷ []) ∷ Op RPar ∷ []) ≡ Found (Trees.Call (Trees.Name (102 ∷ []) Load) Trees.no_exprs
    (Trees.a_keyword None (Trees.Name (97 ∷ []) Load) (Trees.a_keyword (Some (98 ∷ [])) (Trees.Name (99 ∷ []) Load) Trees.no_keyword))) []
case_18 = refl

-- BitXor: { f ** a , x c }
case_24 : refused (read 20 BitXor (Op LBrace ∷ in_form (102 ∷ []) ∷ Op DoubleStar ∷ in_form (97 ∷ []) ∷ Op Comma ∷ in_form (120 ∷ []) ∷
    in_form (99 ∷ []) ∷ Op RBrace ∷ [])) ≡ true
case_24 = refl

-- Not: [ * a , b f ( x for x in y ]
case_28 : refused (read 20 Not (Op LSqb ∷ Op Star ∷ in_form (97 ∷ []) ∷ Op Comma ∷ in_form (98 ∷ []) ∷ in_form (102 ∷ []) ∷ Op LPar ∷
    in_form (120 ∷ []) ∷ Word Key.For ∷ in_form (120 ∷ []) ∷ Word Key.In ∷ in_form (121 ∷ []) ∷ Op RSqb ∷ [])) ≡ true
case_28 = refl

-- BitOr: ( a , yield : a
case_34 : refused (read 20 BitOr (Op LPar ∷ in_form (97 ∷ []) ∷ Op Comma ∷ Word Key.Yield ∷ Op Colon ∷ in_form (97 ∷ []) ∷ [])) ≡ true
case_34 = refl

-- Not: x
case_40 : read 20 Not (in_form (120 ∷ []) ∷ []) ≡ Found (Trees.Name (120 ∷ []) Load) []
case_40 = refl

-- Compare: * a < ,
case_41 : refused (read 20 Compare (Op Star ∷ in_form (97 ∷ []) ∷ Op Less ∷ Op Comma ∷ [])) ≡ true
case_41 = refl

-- BitXor: ( yield a
case_43 : refused (read 20 BitXor (Op LPar ∷ Word Key.Yield ∷ in_form (97 ∷ []) ∷ [])) ≡ true
case_43 = refl

-- BitOr: )
case_44 : refused (read 20 BitOr (Op RPar ∷ [])) ≡ true
case_44 = refl

-- Not: else * , b z
case_51 : refused (read 20 Not (Word Key.Else ∷ Op Star ∷ Op Comma ∷ in_form (98 ∷ []) ∷ in_form (122 ∷ []) ∷ [])) ≡ true
case_51 = refl

-- Or: a [ lambda
case_52 : refused (read 20 Or (in_form (97 ∷ []) ∷ Op LSqb ∷ Word Key.Lambda ∷ [])) ≡ true
case_52 = refl

-- Not: ( yield a , * )
case_54 : refused (read 20 Not (Op LPar ∷ Word Key.Yield ∷ in_form (97 ∷ []) ∷ Op Comma ∷ Op Star ∷ Op RPar ∷ [])) ≡ true
case_54 = refl

-- BitOr: lambda x : 0
case_57 : refused (read 20 BitOr (Word Key.Lambda ∷ in_form (120 ∷ []) ∷ Op Colon ∷ whole 0 ∷ [])) ≡ true
case_57 = refl

-- And: a [ * b } ( ]
case_58 : refused (read 20 And (in_form (97 ∷ []) ∷ Op LSqb ∷ Op Star ∷ in_form (98 ∷ []) ∷ Op RBrace ∷ Op LPar ∷ Op RSqb ∷ [])) ≡ true
case_58 = refl

-- And: in a
case_62 : refused (read 20 And (Word Key.In ∷ in_form (97 ∷ []) ∷ [])) ≡ true
case_62 = refl

-- Compare: f ( x [ for x x in y )
case_63 : refused (read 20 Compare (in_form (102 ∷ []) ∷ Op LPar ∷ in_form (120 ∷ []) ∷ Op LSqb ∷ Word Key.For ∷ in_form (120 ∷ []) ∷
    in_form (120 ∷ []) ∷ Word Key.In ∷ in_form (121 ∷ []) ∷ Op RPar ∷ [])) ≡ true
case_63 = refl

-- BitOr: b , **
case_68 : refused (read 20 BitOr (in_form (98 ∷ []) ∷ Op Comma ∷ Op DoubleStar ∷ [])) ≡ true
case_68 = refl

-- BitXor: ~ a | b & c ^ d << e >> f
case_76 : refused (read 20 BitXor (Op Tilde ∷ in_form (97 ∷ []) ∷ Op VBar ∷ in_form (98 ∷ []) ∷ Op Amper ∷ in_form (99 ∷ []) ∷ Op Circumflex
    ∷ in_form (100 ∷ []) ∷ Op LeftShift ∷ in_form (101 ∷ []) ∷ Op RightShift ∷ in_form (102 ∷ []) ∷ [])) ≡ true
case_76 = refl

-- Or: - * 2 < c
case_82 : refused (read 20 Or (Op Minus ∷ Op Star ∷ whole 2 ∷ Op Less ∷ in_form (99 ∷ []) ∷ [])) ≡ true
case_82 = refl

-- BitXor: a or * b and c
case_83 : refused (read 20 BitXor (in_form (97 ∷ []) ∷ Word Key.Or ∷ Op Star ∷ in_form (98 ∷ []) ∷ Word Key.And ∷ in_form (99 ∷ []) ∷ [])) ≡
    true
case_83 = refl

-- BitOr: x a < b )
case_85 : refused (read 20 BitOr (in_form (120 ∷ []) ∷ in_form (97 ∷ []) ∷ Op Less ∷ in_form (98 ∷ []) ∷ Op RPar ∷ [])) ≡ true
case_85 = refl

-- And: - lambda x , x * y
case_89 : refused (read 20 And (Op Minus ∷ Word Key.Lambda ∷ in_form (120 ∷ []) ∷ Op Comma ∷ in_form (120 ∷ []) ∷ Op Star ∷ in_form
    (121 ∷ []) ∷ [])) ≡ true
case_89 = refl

-- Compare: { ** in , b : c ,
case_92 : refused (read 20 Compare (Op LBrace ∷ Op DoubleStar ∷ Word Key.In ∷ Op Comma ∷ in_form (98 ∷ []) ∷ Op Colon ∷ in_form (99 ∷ [])
    ∷ Op Comma ∷ [])) ≡ true
case_92 = refl

-- BitOr: * b
case_93 : refused (read 20 BitOr (Op Star ∷ in_form (98 ∷ []) ∷ [])) ≡ true
case_93 = refl

-- Or: b yield a
case_95 : refused (read 20 Or (in_form (98 ∷ []) ∷ Word Key.Yield ∷ in_form (97 ∷ []) ∷ [])) ≡ true
case_95 = refl

-- And: or x y for x in z if a if b }
case_96 : refused (read 20 And (Word Key.Or ∷ in_form (120 ∷ []) ∷ in_form (121 ∷ []) ∷ Word Key.For ∷ in_form (120 ∷ []) ∷ Word Key.In ∷
    in_form (122 ∷ []) ∷ Word Key.If ∷ in_form (97 ∷ []) ∷ Word Key.If ∷ in_form (98 ∷ []) ∷ Op RBrace ∷ [])) ≡ true
case_96 = refl

-- BitXor: a if a b else lambda : c
case_102 : refused (read 20 BitXor (in_form (97 ∷ []) ∷ Word Key.If ∷ in_form (97 ∷ []) ∷ in_form (98 ∷ []) ∷ Word Key.Else ∷ Word
    Key.Lambda ∷ Op Colon ∷ in_form (99 ∷ []) ∷ [])) ≡ true
case_102 = refl

-- BitAnd: f ( x for x in y )
case_110 : read 20 BitAnd (in_form (102 ∷ []) ∷ Op LPar ∷ in_form (120 ∷ []) ∷ Word Key.For ∷ in_form (120 ∷ []) ∷ Word Key.In ∷ in_form
    (121 ∷ []) ∷ Op RPar ∷ []) ≡ Found
    (Trees.Call (Trees.Name (102 ∷ []) Load)
    (Trees.an_expr (Trees.GeneratorExp (Trees.Name (120 ∷ []) Load) (Trees.a_comprehension (Trees.Name (120 ∷ []) Store)
    (Trees.Name (121 ∷ []) Load) Trees.no_exprs false Trees.no_comprehension)) Trees.no_exprs) Trees.no_keyword) []
case_110 = refl

-- BitXor: yield ( ) )
case_116 : refused (read 20 BitXor (Word Key.Yield ∷ Op LPar ∷ Op RPar ∷ Op RPar ∷ [])) ≡ true
case_116 = refl

-- Or: a , f ( * b
case_122 : refused (read 20 Or (in_form (97 ∷ []) ∷ Op Comma ∷ in_form (102 ∷ []) ∷ Op LPar ∷ Op Star ∷ in_form (98 ∷ []) ∷ [])) ≡ true
case_122 = refl

-- And: , * y in ( a for q in
case_128 : refused (read 20 And (Op Comma ∷ Op Star ∷ in_form (121 ∷ []) ∷ Word Key.In ∷ Op LPar ∷ in_form (97 ∷ []) ∷ Word Key.For ∷
    in_form (113 ∷ []) ∷ Word Key.In ∷ [])) ≡ true
case_128 = refl

-- BitOr: ( b a , * b )
case_130 : refused (read 20 BitOr (Op LPar ∷ in_form (98 ∷ []) ∷ in_form (97 ∷ []) ∷ Op Comma ∷ Op Star ∷ in_form (98 ∷ []) ∷ Op RPar ∷ []))
    ≡ true
case_130 = refl

-- BitOr: b ** ** c
case_137 : refused (read 20 BitOr (in_form (98 ∷ []) ∷ Op DoubleStar ∷ Op DoubleStar ∷ in_form (99 ∷ []) ∷ [])) ≡ true
case_137 = refl

-- BitOr: [ ,
case_139 : refused (read 20 BitOr (Op LSqb ∷ Op Comma ∷ [])) ≡ true
case_139 = refl

-- BitXor: f ( lambda x ( ** a , b in
case_140 : refused (read 20 BitXor (in_form (102 ∷ []) ∷ Op LPar ∷ Word Key.Lambda ∷ in_form (120 ∷ []) ∷ Op LPar ∷ Op DoubleStar ∷ in_form
    (97 ∷ []) ∷ Op Comma ∷ in_form (98 ∷ []) ∷ Word Key.In ∷ [])) ≡ true
case_140 = refl

-- Compare: )
case_141 : refused (read 20 Compare (Op RPar ∷ [])) ≡ true
case_141 = refl

-- BitXor: a
case_146 : read 20 BitXor (in_form (97 ∷ []) ∷ []) ≡ Found (Trees.Name (97 ∷ []) Load) []
case_146 = refl

-- And: , x if y b
case_149 : refused (read 20 And (Op Comma ∷ in_form (120 ∷ []) ∷ Word Key.If ∷ in_form (121 ∷ []) ∷ in_form (98 ∷ []) ∷ [])) ≡ true
case_149 = refl

-- And: ) }
case_150 : refused (read 20 And (Op RPar ∷ Op RBrace ∷ [])) ≡ true
case_150 = refl

-- BitXor: [ x async for x , * y in z for q in r ] )
case_152 : refused (read 20 BitXor (Op LSqb ∷ in_form (120 ∷ []) ∷ Word Key.Async ∷ Word Key.For ∷ in_form (120 ∷ []) ∷ Op Comma ∷ Op Star ∷
    in_form (121 ∷ []) ∷ Word Key.In ∷ in_form (122 ∷ []) ∷ Word Key.For ∷ in_form (113 ∷ []) ∷ Word Key.In ∷ in_form (114 ∷ []) ∷ Op
    RSqb ∷ Op RPar ∷ [])) ≡ true
case_152 = refl

-- Not: lambda 0
case_154 : refused (read 20 Not (Word Key.Lambda ∷ whole 0 ∷ [])) ≡ true
case_154 = refl

-- Not: ,
case_157 : refused (read 20 Not (Op Comma ∷ [])) ≡ true
case_157 = refl

-- BitOr: b == c
case_159 : refused (read 20 BitOr (in_form (98 ∷ []) ∷ Op EqEqual ∷ in_form (99 ∷ []) ∷ [])) ≡ true
case_159 = refl

-- Or: not a
case_161 : read 20 Or (Word Key.Not ∷ in_form (97 ∷ []) ∷ []) ≡ Found (Trees.UnaryOp Un.Not (Trees.Name (97 ∷ []) Load)) []
case_161 = refl

-- BitAnd: [
case_163 : refused (read 20 BitAnd (Op LSqb ∷ [])) ≡ true
case_163 = refl

-- Not: a < c
case_167 : read 20 Not (in_form (97 ∷ []) ∷ Op Less ∷ in_form (99 ∷ []) ∷ []) ≡ Found
    (Trees.Compare (Trees.Name (97 ∷ []) Load) (Is.Lt ∷ []) (Trees.an_expr (Trees.Name (99 ∷ []) Load) Trees.no_exprs)) []
case_167 = refl

-- And: c in c
case_170 : read 20 And (in_form (99 ∷ []) ∷ Word Key.In ∷ in_form (99 ∷ []) ∷ []) ≡ Found
    (Trees.Compare (Trees.Name (99 ∷ []) Load) (Is.Within ∷ []) (Trees.an_expr (Trees.Name (99 ∷ []) Load) Trees.no_exprs)) []
case_170 = refl

-- BitAnd: a [ * b ]
case_171 : read 20 BitAnd (in_form (97 ∷ []) ∷ Op LSqb ∷ Op Star ∷ in_form (98 ∷ []) ∷ Op RSqb ∷ []) ≡ Found
    (Trees.Subscript (Trees.Name (97 ∷ []) Load)
    (Trees.Tuple (Trees.an_expr (Trees.Starred (Trees.Name (98 ∷ []) Load) Load) Trees.no_exprs) Load) Load) []
case_171 = refl

-- And: a [ 1 ( ) : : 2 ]
case_172 : read 20 And (in_form (97 ∷ []) ∷ Op LSqb ∷ whole 1 ∷ Op LPar ∷ Op RPar ∷ Op Colon ∷ Op Colon ∷ whole 2 ∷ Op RSqb ∷ []) ≡ Found
    (Trees.Subscript (Trees.Name (97 ∷ []) Load)
    (Trees.Slice (Trees.present (Trees.Call (Trees.Constant (Values.Int 1)) Trees.no_exprs Trees.no_keyword)) Trees.absent
    (Trees.present (Trees.Constant (Values.Int 2)))) Load) []
case_172 = refl

-- Or: ... is None
case_174 : read 20 Or (Op Ellipsis ∷ Word Key.Is ∷ Word Key.None ∷ []) ≡ Found (Trees.Compare (Trees.Constant (Values.Ellipsis))
    (Is.Is ∷ []) (Trees.an_expr (Trees.Constant (Values.None)) Trees.no_exprs)) []
case_174 = refl

-- Not: a [ * b ]
case_179 : read 20 Not (in_form (97 ∷ []) ∷ Op LSqb ∷ Op Star ∷ in_form (98 ∷ []) ∷ Op RSqb ∷ []) ≡ Found
    (Trees.Subscript (Trees.Name (97 ∷ []) Load)
    (Trees.Tuple (Trees.an_expr (Trees.Starred (Trees.Name (98 ∷ []) Load) Load) Trees.no_exprs) Load) Load) []
case_179 = refl

-- Not: c
case_180 : read 20 Not (in_form (99 ∷ []) ∷ []) ≡ Found (Trees.Name (99 ∷ []) Load) []
case_180 = refl

-- Compare: a * b + c
case_182 : read 20 Compare (in_form (97 ∷ []) ∷ Op Star ∷ in_form (98 ∷ []) ∷ Op Plus ∷ in_form (99 ∷ []) ∷ []) ≡ Found
    (Trees.BinOp (Trees.BinOp (Trees.Name (97 ∷ []) Load) Bin.Mult (Trees.Name (98 ∷ []) Load)) Bin.Add (Trees.Name (99 ∷ []) Load)) []
case_182 = refl

-- Not: a [ 1 : 2 , * b ] is b
case_185 : read 20 Not (in_form (97 ∷ []) ∷ Op LSqb ∷ whole 1 ∷ Op Colon ∷ whole 2 ∷ Op Comma ∷ Op Star ∷ in_form (98 ∷ []) ∷ Op RSqb ∷ Word
    Key.Is ∷ in_form (98 ∷ []) ∷ []) ≡ Found
    (Trees.Compare (Trees.Subscript (Trees.Name (97 ∷ []) Load)
    (Trees.Tuple (Trees.an_expr (Trees.Slice (Trees.present (Trees.Constant (Values.Int 1))) (Trees.present (Trees.Constant (Values.Int 2)))
    Trees.absent) (Trees.an_expr (Trees.Starred (Trees.Name (98 ∷ []) Load) Load) Trees.no_exprs)) Load) Load) (Is.Is ∷ [])
    (Trees.an_expr (Trees.Name (98 ∷ []) Load) Trees.no_exprs)) []
case_185 = refl

-- BitAnd: "b"
case_187 : read 20 BitAnd (Literal (Values.Str (98 ∷ []) false) ∷ []) ≡ Found (Trees.Constant (Values.Str (98 ∷ []) false)) []
case_187 = refl

-- And: a + b * c
case_190 : read 20 And (in_form (97 ∷ []) ∷ Op Plus ∷ in_form (98 ∷ []) ∷ Op Star ∷ in_form (99 ∷ []) ∷ []) ≡ Found
    (Trees.BinOp (Trees.Name (97 ∷ []) Load) Bin.Add (Trees.BinOp (Trees.Name (98 ∷ []) Load) Bin.Mult (Trees.Name (99 ∷ []) Load))) []
case_190 = refl

-- BitAnd: f ( a ) ( ) . c [ d ]
case_200 : read 20 BitAnd (in_form (102 ∷ []) ∷ Op LPar ∷ in_form (97 ∷ []) ∷ Op RPar ∷ Op LPar ∷ Op RPar ∷ Op Dot ∷ in_form (99 ∷ []) ∷ Op
    LSqb ∷ in_form (100 ∷ []) ∷ Op RSqb ∷ []) ≡ Found
    (Trees.Subscript (Trees.Attribute
    (Trees.Call (Trees.Call (Trees.Name (102 ∷ []) Load) (Trees.an_expr (Trees.Name (97 ∷ []) Load) Trees.no_exprs) Trees.no_keyword)
    Trees.no_exprs Trees.no_keyword) (99 ∷ []) Load) (Trees.Name (100 ∷ []) Load) Load) []
case_200 = refl

-- Or: 1
case_201 : read 20 Or (whole 1 ∷ []) ≡ Found (Trees.Constant (Values.Int 1)) []
case_201 = refl

-- Or: a [ b : x : y ]
case_204 : read 20 Or (in_form (97 ∷ []) ∷ Op LSqb ∷ in_form (98 ∷ []) ∷ Op Colon ∷ in_form (120 ∷ []) ∷ Op Colon ∷ in_form (121 ∷ []) ∷ Op
    RSqb ∷ []) ≡ Found (Trees.Subscript (Trees.Name (97 ∷ []) Load) (Trees.Slice (Trees.present (Trees.Name (98 ∷ []) Load))
    (Trees.present (Trees.Name (120 ∷ []) Load)) (Trees.present (Trees.Name (121 ∷ []) Load))) Load) []
case_204 = refl

-- Or: { }
case_205 : read 20 Or (Op LBrace ∷ Op RBrace ∷ []) ≡ Found (Trees.Dict Trees.no_optional Trees.no_exprs) []
case_205 = refl

-- Not: [ ]
case_207 : read 20 Not (Op LSqb ∷ Op RSqb ∷ []) ≡ Found (Trees.ListOf Trees.no_exprs Load) []
case_207 = refl

-- And: not a in b
case_208 : read 20 And (Word Key.Not ∷ in_form (97 ∷ []) ∷ Word Key.In ∷ in_form (98 ∷ []) ∷ []) ≡ Found
    (Trees.UnaryOp Un.Not (Trees.Compare (Trees.Name (97 ∷ []) Load) (Is.Within ∷ [])
    (Trees.an_expr (Trees.Name (98 ∷ []) Load) Trees.no_exprs))) []
case_208 = refl

-- Not: ( x for ( a . b , [ c ] ) in y )
case_212 : read 20 Not (Op LPar ∷ in_form (120 ∷ []) ∷ Word Key.For ∷ Op LPar ∷ in_form (97 ∷ []) ∷ Op Dot ∷ in_form (98 ∷ []) ∷ Op Comma ∷
    Op LSqb ∷ in_form (99 ∷ []) ∷ Op RSqb ∷ Op RPar ∷ Word Key.In ∷ in_form (121 ∷ []) ∷ Op RPar ∷ []) ≡ Found
    (Trees.GeneratorExp (Trees.Name (120 ∷ []) Load)
    (Trees.a_comprehension
    (Trees.Tuple (Trees.an_expr (Trees.Attribute (Trees.Name (97 ∷ []) Load) (98 ∷ []) Store)
    (Trees.an_expr (Trees.ListOf (Trees.an_expr (Trees.Name (99 ∷ []) Store) Trees.no_exprs) Store) Trees.no_exprs)) Store)
    (Trees.Name (121 ∷ []) Load) Trees.no_exprs false Trees.no_comprehension)) []
case_212 = refl

-- Not: [ x async for x , * y in z for q in r ]
case_215 : read 20 Not (Op LSqb ∷ in_form (120 ∷ []) ∷ Word Key.Async ∷ Word Key.For ∷ in_form (120 ∷ []) ∷ Op Comma ∷ Op Star ∷ in_form
    (121 ∷ []) ∷ Word Key.In ∷ in_form (122 ∷ []) ∷ Word Key.For ∷ in_form (113 ∷ []) ∷ Word Key.In ∷ in_form (114 ∷ []) ∷ Op RSqb ∷ []) ≡
    Found (Trees.ListComp (Trees.Name (120 ∷ []) Load)
    (Trees.a_comprehension
    (Trees.Tuple (Trees.an_expr (Trees.Name (120 ∷ []) Store) (Trees.an_expr (Trees.Starred (Trees.Name (121 ∷ []) Store) Store)
    Trees.no_exprs)) Store) (Trees.Name (122 ∷ []) Load) Trees.no_exprs true (Trees.a_comprehension (Trees.Name (113 ∷ []) Store)
    (Trees.Name (114 ∷ []) Load) Trees.no_exprs false Trees.no_comprehension))) []
case_215 = refl

-- BitAnd: a ** b ** c
case_219 : read 20 BitAnd (in_form (97 ∷ []) ∷ Op DoubleStar ∷ in_form (98 ∷ []) ∷ Op DoubleStar ∷ in_form (99 ∷ []) ∷ []) ≡ Found
    (Trees.BinOp (Trees.Name (97 ∷ []) Load) Bin.Pow (Trees.BinOp (Trees.Name (98 ∷ []) Load) Bin.Pow (Trees.Name (99 ∷ []) Load))) []
case_219 = refl

-- BitXor: 0
case_222 : read 20 BitXor (whole 0 ∷ []) ≡ Found (Trees.Constant (Values.Int 0)) []
case_222 = refl

-- BitOr: ( yield a , * b )
case_227 : read 20 BitOr (Op LPar ∷ Word Key.Yield ∷ in_form (97 ∷ []) ∷ Op Comma ∷ Op Star ∷ in_form (98 ∷ []) ∷ Op RPar ∷ []) ≡ Found
    (Trees.Yield (Trees.present
    (Trees.Tuple (Trees.an_expr (Trees.Name (97 ∷ []) Load) (Trees.an_expr (Trees.Starred (Trees.Name (98 ∷ []) Load) Load) Trees.no_exprs))
    Load))) []
case_227 = refl

-- Compare: ( a and b )
case_229 : read 20 Compare (Op LPar ∷ in_form (97 ∷ []) ∷ Word Key.And ∷ in_form (98 ∷ []) ∷ Op RPar ∷ []) ≡ Found
    (Trees.BoolOp Join.And (Trees.an_expr (Trees.Name (97 ∷ []) Load) (Trees.an_expr (Trees.Name (98 ∷ []) Load) Trees.no_exprs))) []
case_229 = refl

-- And: { a , * b , }
case_232 : read 20 And (Op LBrace ∷ in_form (97 ∷ []) ∷ Op Comma ∷ Op Star ∷ in_form (98 ∷ []) ∷ Op Comma ∷ Op RBrace ∷ []) ≡ Found
    (Trees.Set (Trees.an_expr (Trees.Name (97 ∷ []) Load) (Trees.an_expr (Trees.Starred (Trees.Name (98 ∷ []) Load) Load) Trees.no_exprs)))
    []
case_232 = refl

-- BitAnd: a - b - c
case_233 : read 20 BitAnd (in_form (97 ∷ []) ∷ Op Minus ∷ in_form (98 ∷ []) ∷ Op Minus ∷ in_form (99 ∷ []) ∷ []) ≡ Found
    (Trees.BinOp (Trees.BinOp (Trees.Name (97 ∷ []) Load) Bin.Sub (Trees.Name (98 ∷ []) Load)) Bin.Sub (Trees.Name (99 ∷ []) Load)) []
case_233 = refl

-- And: a - a - a
case_241 : read 20 And (in_form (97 ∷ []) ∷ Op Minus ∷ in_form (97 ∷ []) ∷ Op Minus ∷ in_form (97 ∷ []) ∷ []) ≡ Found
    (Trees.BinOp (Trees.BinOp (Trees.Name (97 ∷ []) Load) Bin.Sub (Trees.Name (97 ∷ []) Load)) Bin.Sub (Trees.Name (97 ∷ []) Load)) []
case_241 = refl

-- Or: b
case_248 : read 20 Or (in_form (98 ∷ []) ∷ []) ≡ Found (Trees.Name (98 ∷ []) Load) []
case_248 = refl

-- And: { ( x := 1 ) : 2 }
case_251 : read 20 And (Op LBrace ∷ Op LPar ∷ in_form (120 ∷ []) ∷ Op ColonEqual ∷ whole 1 ∷ Op RPar ∷ Op Colon ∷ whole 2 ∷ Op RBrace ∷ [])
    ≡ Found (Trees.Dict (Trees.an_optional (Trees.present (Trees.NamedExpr (Trees.Name (120 ∷ []) Store) (Trees.Constant (Values.Int 1))))
    Trees.no_optional) (Trees.an_expr (Trees.Constant (Values.Int 2)) Trees.no_exprs)) []
case_251 = refl

-- BitOr: ( lambda x : a or x ) ( y )
case_252 : read 20 BitOr (Op LPar ∷ Word Key.Lambda ∷ in_form (120 ∷ []) ∷ Op Colon ∷ in_form (97 ∷ []) ∷ Word Key.Or ∷ in_form (120 ∷ []) ∷
    Op RPar ∷ Op LPar ∷ in_form (121 ∷ []) ∷ Op RPar ∷ []) ≡ Found
    (Trees.Call (Trees.Lambda (Trees.arguments Trees.no_arg (Trees.an_arg (Trees.arg (120 ∷ []) Trees.absent) Trees.no_arg) Trees.absent_arg
    Trees.no_arg Trees.no_optional Trees.absent_arg Trees.no_exprs)
    (Trees.BoolOp Join.Or (Trees.an_expr (Trees.Name (97 ∷ []) Load) (Trees.an_expr (Trees.Name (120 ∷ []) Load) Trees.no_exprs))))
    (Trees.an_expr (Trees.Name (121 ∷ []) Load) Trees.no_exprs) Trees.no_keyword) []
case_252 = refl

-- Not: 1
case_255 : read 20 Not (whole 1 ∷ []) ≡ Found (Trees.Constant (Values.Int 1)) []
case_255 = refl

-- Not: a [ 1 : 2 , * b ]
case_257 : read 20 Not (in_form (97 ∷ []) ∷ Op LSqb ∷ whole 1 ∷ Op Colon ∷ whole 2 ∷ Op Comma ∷ Op Star ∷ in_form (98 ∷ []) ∷ Op RSqb ∷ [])
    ≡ Found (Trees.Subscript (Trees.Name (97 ∷ []) Load)
    (Trees.Tuple (Trees.an_expr (Trees.Slice (Trees.present (Trees.Constant (Values.Int 1))) (Trees.present (Trees.Constant (Values.Int 2)))
    Trees.absent) (Trees.an_expr (Trees.Starred (Trees.Name (98 ∷ []) Load) Load) Trees.no_exprs)) Load) Load) []
case_257 = refl

-- BitXor: f ( a ) ( b ) . c [ d ]
case_258 : read 20 BitXor (in_form (102 ∷ []) ∷ Op LPar ∷ in_form (97 ∷ []) ∷ Op RPar ∷ Op LPar ∷ in_form (98 ∷ []) ∷ Op RPar ∷ Op Dot ∷
    in_form (99 ∷ []) ∷ Op LSqb ∷ in_form (100 ∷ []) ∷ Op RSqb ∷ []) ≡ Found
    (Trees.Subscript (Trees.Attribute
    (Trees.Call (Trees.Call (Trees.Name (102 ∷ []) Load) (Trees.an_expr (Trees.Name (97 ∷ []) Load) Trees.no_exprs) Trees.no_keyword)
    (Trees.an_expr (Trees.Name (98 ∷ []) Load) Trees.no_exprs) Trees.no_keyword) (99 ∷ []) Load) (Trees.Name (100 ∷ []) Load) Load) []
case_258 = refl

-- Not: f ( a ) ( b ) . c [ d ]
case_261 : read 20 Not (in_form (102 ∷ []) ∷ Op LPar ∷ in_form (97 ∷ []) ∷ Op RPar ∷ Op LPar ∷ in_form (98 ∷ []) ∷ Op RPar ∷ Op Dot ∷
    in_form (99 ∷ []) ∷ Op LSqb ∷ in_form (100 ∷ []) ∷ Op RSqb ∷ []) ≡ Found
    (Trees.Subscript (Trees.Attribute
    (Trees.Call (Trees.Call (Trees.Name (102 ∷ []) Load) (Trees.an_expr (Trees.Name (97 ∷ []) Load) Trees.no_exprs) Trees.no_keyword)
    (Trees.an_expr (Trees.Name (98 ∷ []) Load) Trees.no_exprs) Trees.no_keyword) (99 ∷ []) Load) (Trees.Name (100 ∷ []) Load) Load) []
case_261 = refl

-- And: 1
case_265 : read 20 And (whole 1 ∷ []) ≡ Found (Trees.Constant (Values.Int 1)) []
case_265 = refl

-- BitAnd: a [ x := 1 ]
case_269 : read 20 BitAnd (in_form (97 ∷ []) ∷ Op LSqb ∷ in_form (120 ∷ []) ∷ Op ColonEqual ∷ whole 1 ∷ Op RSqb ∷ []) ≡ Found
    (Trees.Subscript (Trees.Name (97 ∷ []) Load) (Trees.NamedExpr (Trees.Name (120 ∷ []) Store) (Trees.Constant (Values.Int 1))) Load) []
case_269 = refl

-- Compare: f ( * a , b := x )
case_270 : read 20 Compare (in_form (102 ∷ []) ∷ Op LPar ∷ Op Star ∷ in_form (97 ∷ []) ∷ Op Comma ∷ in_form (98 ∷ []) ∷ Op ColonEqual ∷
    in_form (120 ∷ []) ∷ Op RPar ∷ []) ≡ Found
    (Trees.Call (Trees.Name (102 ∷ []) Load) (Trees.an_expr (Trees.Starred (Trees.Name (97 ∷ []) Load) Load)
    (Trees.an_expr (Trees.NamedExpr (Trees.Name (98 ∷ []) Store) (Trees.Name (120 ∷ []) Load)) Trees.no_exprs)) Trees.no_keyword) []
case_270 = refl

-- BitOr: f ( x for x in y )
case_271 : read 20 BitOr (in_form (102 ∷ []) ∷ Op LPar ∷ in_form (120 ∷ []) ∷ Word Key.For ∷ in_form (120 ∷ []) ∷ Word Key.In ∷ in_form
    (121 ∷ []) ∷ Op RPar ∷ []) ≡ Found
    (Trees.Call (Trees.Name (102 ∷ []) Load)
    (Trees.an_expr (Trees.GeneratorExp (Trees.Name (120 ∷ []) Load) (Trees.a_comprehension (Trees.Name (120 ∷ []) Store)
    (Trees.Name (121 ∷ []) Load) Trees.no_exprs false Trees.no_comprehension)) Trees.no_exprs) Trees.no_keyword) []
case_271 = refl

-- Compare: [ x async for x , * y in a for q in r ]
case_272 : read 20 Compare (Op LSqb ∷ in_form (120 ∷ []) ∷ Word Key.Async ∷ Word Key.For ∷ in_form (120 ∷ []) ∷ Op Comma ∷ Op Star ∷ in_form
    (121 ∷ []) ∷ Word Key.In ∷ in_form (97 ∷ []) ∷ Word Key.For ∷ in_form (113 ∷ []) ∷ Word Key.In ∷ in_form (114 ∷ []) ∷ Op RSqb ∷ []) ≡
    Found (Trees.ListComp (Trees.Name (120 ∷ []) Load)
    (Trees.a_comprehension
    (Trees.Tuple (Trees.an_expr (Trees.Name (120 ∷ []) Store) (Trees.an_expr (Trees.Starred (Trees.Name (121 ∷ []) Store) Store)
    Trees.no_exprs)) Store) (Trees.Name (97 ∷ []) Load) Trees.no_exprs true (Trees.a_comprehension (Trees.Name (113 ∷ []) Store)
    (Trees.Name (114 ∷ []) Load) Trees.no_exprs false Trees.no_comprehension))) []
case_272 = refl

-- BitOr: a ** f ** c
case_275 : read 20 BitOr (in_form (97 ∷ []) ∷ Op DoubleStar ∷ in_form (102 ∷ []) ∷ Op DoubleStar ∷ in_form (99 ∷ []) ∷ []) ≡ Found
    (Trees.BinOp (Trees.Name (97 ∷ []) Load) Bin.Pow (Trees.BinOp (Trees.Name (102 ∷ []) Load) Bin.Pow (Trees.Name (99 ∷ []) Load))) []
case_275 = refl

-- Compare: b & c
case_278 : read 20 Compare (in_form (98 ∷ []) ∷ Op Amper ∷ in_form (99 ∷ []) ∷ []) ≡ Found
    (Trees.BinOp (Trees.Name (98 ∷ []) Load) Bin.BitAnd (Trees.Name (99 ∷ []) Load)) []
case_278 = refl

-- Not: { ( x := 1 ) : 2 }
case_279 : read 20 Not (Op LBrace ∷ Op LPar ∷ in_form (120 ∷ []) ∷ Op ColonEqual ∷ whole 1 ∷ Op RPar ∷ Op Colon ∷ whole 2 ∷ Op RBrace ∷ [])
    ≡ Found (Trees.Dict (Trees.an_optional (Trees.present (Trees.NamedExpr (Trees.Name (120 ∷ []) Store) (Trees.Constant (Values.Int 1))))
    Trees.no_optional) (Trees.an_expr (Trees.Constant (Values.Int 2)) Trees.no_exprs)) []
case_279 = refl

-- BitXor: "a"
case_287 : read 20 BitXor (Literal (Values.Str (97 ∷ []) false) ∷ []) ≡ Found (Trees.Constant (Values.Str (97 ∷ []) false)) []
case_287 = refl

-- Or: f
case_292 : read 20 Or (in_form (102 ∷ []) ∷ []) ≡ Found (Trees.Name (102 ∷ []) Load) []
case_292 = refl

-- And: 2
case_299 : read 20 And (whole 2 ∷ []) ≡ Found (Trees.Constant (Values.Int 2)) []
case_299 = refl
