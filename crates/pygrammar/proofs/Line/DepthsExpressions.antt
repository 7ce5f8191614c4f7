-- Worked lines that begin with an expression: the depth that is enough for each.
--
-- Carries: no contract; its rows are computed as it is checked.
use Rattle.std.proofs.Common.{◌≡◌, refl, [], ◌∷◌, Some, None, true, false}
use Rattle.pylex_lexeme.specs.declared.kinds.Exact.TheVariants as Sign
use Rattle.pytoken.specs.declared.keywords.Keyword.TheVariants as Key
use Rattle.pytree_node.specs.declared.operators.Operator.TheVariants as Bin
use Rattle.pytree_node.specs.declared.operators.Context.TheVariants.{Load, Store}
use Rattle.pytree_node.specs.Profiles.{plain_311 as Py311}
use Rattle.pytree_node.specs.Trees as Trees
use Rattle.pytree_node.specs.Values as Values
use Rattle.pytoken.specs.Terminals.{Op, Word, in_form, whole, Literal}
use Rattle.pygrammar.specs.Reader.{Found}
use Rattle.pytree_node.specs.Trees.{Assign, AugAssign, AnnAssign, ExprOf}
use Rattle.pygrammar.specs.Lines.{simple_form}
use Rattle.pygrammar.specs.LineReader.{read_line_to}
use Rattle.pytree_node.specs.declared.operators.UnaryOperator.TheVariants as Un
use Rattle.pytree_node.specs.declared.operators.Comparison.TheVariants as Is
use Rattle.pytree_node.specs.declared.operators.BoolOperator.TheVariants as Join

-- x
depth_0 : read_line_to Py311 false 1 (in_form (120 ∷ []) ∷ []) ≡ Found (simple_form (ExprOf (Trees.Name (120 ∷ []) Load) ∷ [])) []
depth_0 = refl

-- x ; y
depth_1 : read_line_to Py311 false 1 (in_form (120 ∷ []) ∷ Op Sign.Semi ∷ in_form (121 ∷ []) ∷ []) ≡ Found
    (simple_form (ExprOf (Trees.Name (120 ∷ []) Load) ∷ ExprOf (Trees.Name (121 ∷ []) Load) ∷ [])) []
depth_1 = refl

-- x ;
depth_2 : read_line_to Py311 false 1 (in_form (120 ∷ []) ∷ Op Sign.Semi ∷ []) ≡ Found
    (simple_form (ExprOf (Trees.Name (120 ∷ []) Load) ∷ [])) []
depth_2 = refl

-- x = y
depth_3 : read_line_to Py311 false 1 (in_form (120 ∷ []) ∷ Op Sign.Equal ∷ in_form (121 ∷ []) ∷ []) ≡ Found
    (simple_form (Assign ((Trees.Name (120 ∷ []) Store) ∷ []) (Trees.Name (121 ∷ []) Load) ∷ [])) []
depth_3 = refl

-- x = y = z , * w
depth_4 : read_line_to Py311 false 3 (in_form (120 ∷ []) ∷ Op Sign.Equal ∷ in_form (121 ∷ []) ∷ Op Sign.Equal ∷ in_form (122 ∷ []) ∷ Op
    Sign.Comma ∷ Op Sign.Star ∷ in_form (119 ∷ []) ∷ []) ≡ Found
    (simple_form (Assign ((Trees.Name (120 ∷ []) Store) ∷ (Trees.Name (121 ∷ []) Store) ∷ [])
    (Trees.Tuple (Trees.an_expr (Trees.Name (122 ∷ []) Load) (Trees.an_expr (Trees.Starred (Trees.Name (119 ∷ []) Load) Load)
    Trees.no_exprs)) Load) ∷ [])) []
depth_4 = refl

-- a = yield
depth_5 : read_line_to Py311 false 1 (in_form (97 ∷ []) ∷ Op Sign.Equal ∷ Word Key.Yield ∷ []) ≡ Found
    (simple_form (Assign ((Trees.Name (97 ∷ []) Store) ∷ []) (Trees.Yield Trees.absent) ∷ [])) []
depth_5 = refl

-- a = yield b
depth_6 : read_line_to Py311 false 2 (in_form (97 ∷ []) ∷ Op Sign.Equal ∷ Word Key.Yield ∷ in_form (98 ∷ []) ∷ []) ≡ Found
    (simple_form (Assign ((Trees.Name (97 ∷ []) Store) ∷ []) (Trees.Yield (Trees.present (Trees.Name (98 ∷ []) Load))) ∷ [])) []
depth_6 = refl

-- ( x ) = 1
depth_7 : read_line_to Py311 false 2 (Op Sign.LPar ∷ in_form (120 ∷ []) ∷ Op Sign.RPar ∷ Op Sign.Equal ∷ whole 1 ∷ []) ≡ Found
    (simple_form (Assign ((Trees.Name (120 ∷ []) Store) ∷ []) (Trees.Constant (Values.Int 1)) ∷ [])) []
depth_7 = refl

-- [ a , * b ] = c
depth_8 : read_line_to Py311 false 4 (Op Sign.LSqb ∷ in_form (97 ∷ []) ∷ Op Sign.Comma ∷ Op Sign.Star ∷ in_form (98 ∷ []) ∷ Op Sign.RSqb ∷
    Op Sign.Equal ∷ in_form (99 ∷ []) ∷ []) ≡ Found
    (simple_form (Assign
    ((Trees.ListOf (Trees.an_expr (Trees.Name (97 ∷ []) Store) (Trees.an_expr (Trees.Starred (Trees.Name (98 ∷ []) Store) Store)
    Trees.no_exprs)) Store) ∷ []) (Trees.Name (99 ∷ []) Load) ∷ [])) []
depth_8 = refl

-- ( a , b ) , c = d
depth_9 : read_line_to Py311 false 4 (Op Sign.LPar ∷ in_form (97 ∷ []) ∷ Op Sign.Comma ∷ in_form (98 ∷ []) ∷ Op Sign.RPar ∷ Op Sign.Comma ∷
    in_form (99 ∷ []) ∷ Op Sign.Equal ∷ in_form (100 ∷ []) ∷ []) ≡ Found
    (simple_form (Assign
    ((Trees.Tuple (Trees.an_expr
    (Trees.Tuple (Trees.an_expr (Trees.Name (97 ∷ []) Store) (Trees.an_expr (Trees.Name (98 ∷ []) Store) Trees.no_exprs)) Store)
    (Trees.an_expr (Trees.Name (99 ∷ []) Store) Trees.no_exprs)) Store) ∷ []) (Trees.Name (100 ∷ []) Load) ∷ [])) []
depth_9 = refl

-- * a , b = c
depth_10 : read_line_to Py311 false 3 (Op Sign.Star ∷ in_form (97 ∷ []) ∷ Op Sign.Comma ∷ in_form (98 ∷ []) ∷ Op Sign.Equal ∷ in_form
    (99 ∷ []) ∷ []) ≡ Found
    (simple_form (Assign
    ((Trees.Tuple (Trees.an_expr (Trees.Starred (Trees.Name (97 ∷ []) Store) Store)
    (Trees.an_expr (Trees.Name (98 ∷ []) Store) Trees.no_exprs)) Store) ∷ []) (Trees.Name (99 ∷ []) Load) ∷ [])) []
depth_10 = refl

-- * a = b
depth_11 : read_line_to Py311 false 2 (Op Sign.Star ∷ in_form (97 ∷ []) ∷ Op Sign.Equal ∷ in_form (98 ∷ []) ∷ []) ≡ Found
    (simple_form (Assign ((Trees.Starred (Trees.Name (97 ∷ []) Store) Store) ∷ []) (Trees.Name (98 ∷ []) Load) ∷ [])) []
depth_11 = refl

-- a , = b
depth_12 : read_line_to Py311 false 2 (in_form (97 ∷ []) ∷ Op Sign.Comma ∷ Op Sign.Equal ∷ in_form (98 ∷ []) ∷ []) ≡ Found
    (simple_form (Assign ((Trees.Tuple (Trees.an_expr (Trees.Name (97 ∷ []) Store) Trees.no_exprs) Store) ∷ [])
    (Trees.Name (98 ∷ []) Load) ∷ [])) []
depth_12 = refl

-- x += 1
depth_13 : read_line_to Py311 false 1 (in_form (120 ∷ []) ∷ Op Sign.PlusEqual ∷ whole 1 ∷ []) ≡ Found
    (simple_form (AugAssign (Trees.Name (120 ∷ []) Store) Bin.Add (Trees.Constant (Values.Int 1)) ∷ [])) []
depth_13 = refl

-- ( x ) += 1
depth_14 : read_line_to Py311 false 2 (Op Sign.LPar ∷ in_form (120 ∷ []) ∷ Op Sign.RPar ∷ Op Sign.PlusEqual ∷ whole 1 ∷ []) ≡ Found
    (simple_form (AugAssign (Trees.Name (120 ∷ []) Store) Bin.Add (Trees.Constant (Values.Int 1)) ∷ [])) []
depth_14 = refl

-- a . b **= yield c
depth_15 : read_line_to Py311 false 2 (in_form (97 ∷ []) ∷ Op Sign.Dot ∷ in_form (98 ∷ []) ∷ Op Sign.DoubleStarEqual ∷ Word Key.Yield ∷
    in_form (99 ∷ []) ∷ []) ≡ Found
    (simple_form (AugAssign (Trees.Attribute (Trees.Name (97 ∷ []) Load) (98 ∷ []) Store) Bin.Pow
    (Trees.Yield (Trees.present (Trees.Name (99 ∷ []) Load))) ∷ [])) []
depth_15 = refl

-- x : int
depth_16 : read_line_to Py311 false 1 (in_form (120 ∷ []) ∷ Op Sign.Colon ∷ in_form (105 ∷ 110 ∷ 116 ∷ []) ∷ []) ≡ Found
    (simple_form (AnnAssign (Trees.Name (120 ∷ []) Store) (Trees.Name (105 ∷ 110 ∷ 116 ∷ []) Load) None true ∷ [])) []
depth_16 = refl

-- x : int = 5
depth_17 : read_line_to Py311 false 1 (in_form (120 ∷ []) ∷ Op Sign.Colon ∷ in_form (105 ∷ 110 ∷ 116 ∷ []) ∷ Op Sign.Equal ∷ whole 5 ∷ []) ≡
    Found (simple_form (AnnAssign (Trees.Name (120 ∷ []) Store) (Trees.Name (105 ∷ 110 ∷ 116 ∷ []) Load)
    (Some (Trees.Constant (Values.Int 5))) true ∷ [])) []
depth_17 = refl

-- x : y = z
depth_18 : read_line_to Py311 false 1 (in_form (120 ∷ []) ∷ Op Sign.Colon ∷ in_form (121 ∷ []) ∷ Op Sign.Equal ∷ in_form (122 ∷ []) ∷ []) ≡
    Found (simple_form (AnnAssign (Trees.Name (120 ∷ []) Store) (Trees.Name (121 ∷ []) Load) (Some (Trees.Name (122 ∷ []) Load)) true ∷ []))
    []
depth_18 = refl

-- x : int = yield
depth_19 : read_line_to Py311 false 1 (in_form (120 ∷ []) ∷ Op Sign.Colon ∷ in_form (105 ∷ 110 ∷ 116 ∷ []) ∷ Op Sign.Equal ∷ Word Key.Yield
    ∷ []) ≡ Found (simple_form (AnnAssign (Trees.Name (120 ∷ []) Store) (Trees.Name (105 ∷ 110 ∷ 116 ∷ []) Load)
    (Some (Trees.Yield Trees.absent)) true ∷ [])) []
depth_19 = refl

-- ( x ) : int
depth_20 : read_line_to Py311 false 2 (Op Sign.LPar ∷ in_form (120 ∷ []) ∷ Op Sign.RPar ∷ Op Sign.Colon ∷ in_form (105 ∷ 110 ∷ 116 ∷ []) ∷
    []) ≡ Found (simple_form (AnnAssign (Trees.Name (120 ∷ []) Store) (Trees.Name (105 ∷ 110 ∷ 116 ∷ []) Load) None false ∷ [])) []
depth_20 = refl

-- ( ( x ) ) : int
depth_21 : read_line_to Py311 false 3 (Op Sign.LPar ∷ Op Sign.LPar ∷ in_form (120 ∷ []) ∷ Op Sign.RPar ∷ Op Sign.RPar ∷ Op Sign.Colon ∷
    in_form (105 ∷ 110 ∷ 116 ∷ []) ∷ []) ≡ Found
    (simple_form (AnnAssign (Trees.Name (120 ∷ []) Store) (Trees.Name (105 ∷ 110 ∷ 116 ∷ []) Load) None false ∷ [])) []
depth_21 = refl

-- ( a . b ) : c
depth_22 : read_line_to Py311 false 3 (Op Sign.LPar ∷ in_form (97 ∷ []) ∷ Op Sign.Dot ∷ in_form (98 ∷ []) ∷ Op Sign.RPar ∷ Op Sign.Colon ∷
    in_form (99 ∷ []) ∷ []) ≡ Found
    (simple_form (AnnAssign (Trees.Attribute (Trees.Name (97 ∷ []) Load) (98 ∷ []) Store) (Trees.Name (99 ∷ []) Load) None false ∷ [])) []
depth_22 = refl

-- a . b : c
depth_23 : read_line_to Py311 false 2 (in_form (97 ∷ []) ∷ Op Sign.Dot ∷ in_form (98 ∷ []) ∷ Op Sign.Colon ∷ in_form (99 ∷ []) ∷ []) ≡ Found
    (simple_form (AnnAssign (Trees.Attribute (Trees.Name (97 ∷ []) Load) (98 ∷ []) Store) (Trees.Name (99 ∷ []) Load) None false ∷ [])) []
depth_23 = refl

-- a [ b ] : c = d
depth_24 : read_line_to Py311 false 3 (in_form (97 ∷ []) ∷ Op Sign.LSqb ∷ in_form (98 ∷ []) ∷ Op Sign.RSqb ∷ Op Sign.Colon ∷ in_form
    (99 ∷ []) ∷ Op Sign.Equal ∷ in_form (100 ∷ []) ∷ []) ≡ Found
    (simple_form (AnnAssign (Trees.Subscript (Trees.Name (97 ∷ []) Load) (Trees.Name (98 ∷ []) Load) Store) (Trees.Name (99 ∷ []) Load)
    (Some (Trees.Name (100 ∷ []) Load)) false ∷ [])) []
depth_24 = refl

-- ( a ) . b : c
depth_25 : read_line_to Py311 false 3 (Op Sign.LPar ∷ in_form (97 ∷ []) ∷ Op Sign.RPar ∷ Op Sign.Dot ∷ in_form (98 ∷ []) ∷ Op Sign.Colon ∷
    in_form (99 ∷ []) ∷ []) ≡ Found
    (simple_form (AnnAssign (Trees.Attribute (Trees.Name (97 ∷ []) Load) (98 ∷ []) Store) (Trees.Name (99 ∷ []) Load) None false ∷ [])) []
depth_25 = refl

-- lambda : x
depth_26 : read_line_to Py311 false 2 (Word Key.Lambda ∷ Op Sign.Colon ∷ in_form (120 ∷ []) ∷ []) ≡ Found
    (simple_form (ExprOf (Trees.Lambda (Trees.arguments Trees.no_arg Trees.no_arg Trees.absent_arg Trees.no_arg Trees.no_optional
    Trees.absent_arg Trees.no_exprs) (Trees.Name (120 ∷ []) Load)) ∷ [])) []
depth_26 = refl

-- x = lambda : y
depth_27 : read_line_to Py311 false 2 (in_form (120 ∷ []) ∷ Op Sign.Equal ∷ Word Key.Lambda ∷ Op Sign.Colon ∷ in_form (121 ∷ []) ∷ []) ≡
    Found (simple_form (Assign ((Trees.Name (120 ∷ []) Store) ∷ [])
    (Trees.Lambda (Trees.arguments Trees.no_arg Trees.no_arg Trees.absent_arg Trees.no_arg Trees.no_optional Trees.absent_arg
    Trees.no_exprs) (Trees.Name (121 ∷ []) Load)) ∷ [])) []
depth_27 = refl

-- x : lambda : y = z
depth_28 : read_line_to Py311 false 2 (in_form (120 ∷ []) ∷ Op Sign.Colon ∷ Word Key.Lambda ∷ Op Sign.Colon ∷ in_form (121 ∷ []) ∷ Op
    Sign.Equal ∷ in_form (122 ∷ []) ∷ []) ≡ Found
    (simple_form (AnnAssign (Trees.Name (120 ∷ []) Store)
    (Trees.Lambda (Trees.arguments Trees.no_arg Trees.no_arg Trees.absent_arg Trees.no_arg Trees.no_optional Trees.absent_arg
    Trees.no_exprs) (Trees.Name (121 ∷ []) Load)) (Some (Trees.Name (122 ∷ []) Load)) true ∷ [])) []
depth_28 = refl

-- print >> x , y
depth_29 : read_line_to Py311 false 3 (in_form (112 ∷ 114 ∷ 105 ∷ 110 ∷ 116 ∷ []) ∷ Op Sign.RightShift ∷ in_form (120 ∷ []) ∷ Op Sign.Comma
    ∷ in_form (121 ∷ []) ∷ []) ≡ Found
    (simple_form (ExprOf
    (Trees.Tuple (Trees.an_expr (Trees.BinOp (Trees.Name (112 ∷ 114 ∷ 105 ∷ 110 ∷ 116 ∷ []) Load) Bin.RShift (Trees.Name (120 ∷ []) Load))
    (Trees.an_expr (Trees.Name (121 ∷ []) Load) Trees.no_exprs)) Load) ∷ [])) []
depth_29 = refl

-- a . b = c [ d ] = e
depth_124 : read_line_to Py311 false 3 (in_form (97 ∷ []) ∷ Op Sign.Dot ∷ in_form (98 ∷ []) ∷ Op Sign.Equal ∷ in_form (99 ∷ []) ∷ Op
    Sign.LSqb ∷ in_form (100 ∷ []) ∷ Op Sign.RSqb ∷ Op Sign.Equal ∷ in_form (101 ∷ []) ∷ []) ≡ Found
    (simple_form (Assign ((Trees.Attribute (Trees.Name (97 ∷ []) Load) (98 ∷ []) Store) ∷
    (Trees.Subscript (Trees.Name (99 ∷ []) Load) (Trees.Name (100 ∷ []) Load) Store) ∷ []) (Trees.Name (101 ∷ []) Load) ∷ [])) []
depth_124 = refl

-- a [ b : c ] = d
depth_125 : read_line_to Py311 false 4 (in_form (97 ∷ []) ∷ Op Sign.LSqb ∷ in_form (98 ∷ []) ∷ Op Sign.Colon ∷ in_form (99 ∷ []) ∷ Op
    Sign.RSqb ∷ Op Sign.Equal ∷ in_form (100 ∷ []) ∷ []) ≡ Found
    (simple_form (Assign
    ((Trees.Subscript (Trees.Name (97 ∷ []) Load) (Trees.Slice (Trees.present (Trees.Name (98 ∷ []) Load))
    (Trees.present (Trees.Name (99 ∷ []) Load)) Trees.absent) Store) ∷ []) (Trees.Name (100 ∷ []) Load) ∷ [])) []
depth_125 = refl

-- "x" "y"
depth_126 : read_line_to Py311 false 1 (Literal (Values.Str (120 ∷ []) false) ∷ Literal (Values.Str (121 ∷ []) false) ∷ []) ≡ Found
    (simple_form (ExprOf (Trees.Constant (Values.Str (120 ∷ 121 ∷ []) false)) ∷ [])) []
depth_126 = refl

-- x == y
depth_127 : read_line_to Py311 false 2 (in_form (120 ∷ []) ∷ Op Sign.EqEqual ∷ in_form (121 ∷ []) ∷ []) ≡ Found
    (simple_form (ExprOf (Trees.Compare (Trees.Name (120 ∷ []) Load) (Is.Eq ∷ [])
    (Trees.an_expr (Trees.Name (121 ∷ []) Load) Trees.no_exprs)) ∷ [])) []
depth_127 = refl

-- not x
depth_128 : read_line_to Py311 false 2 (Word Key.Not ∷ in_form (120 ∷ []) ∷ []) ≡ Found
    (simple_form (ExprOf (Trees.UnaryOp Un.Not (Trees.Name (120 ∷ []) Load)) ∷ [])) []
depth_128 = refl

-- await x
depth_129 : read_line_to Py311 false 2 (Word Key.Await ∷ in_form (120 ∷ []) ∷ []) ≡ Found
    (simple_form (ExprOf (Trees.Await (Trees.Name (120 ∷ []) Load)) ∷ [])) []
depth_129 = refl

-- { x : y }
depth_130 : read_line_to Py311 false 3 (Op Sign.LBrace ∷ in_form (120 ∷ []) ∷ Op Sign.Colon ∷ in_form (121 ∷ []) ∷ Op Sign.RBrace ∷ []) ≡
    Found (simple_form (ExprOf (Trees.Dict (Trees.an_optional (Trees.present (Trees.Name (120 ∷ []) Load)) Trees.no_optional)
    (Trees.an_expr (Trees.Name (121 ∷ []) Load) Trees.no_exprs)) ∷ [])) []
depth_130 = refl

-- { x : y } [ z ] : w
depth_131 : read_line_to Py311 false 4 (Op Sign.LBrace ∷ in_form (120 ∷ []) ∷ Op Sign.Colon ∷ in_form (121 ∷ []) ∷ Op Sign.RBrace ∷ Op
    Sign.LSqb ∷ in_form (122 ∷ []) ∷ Op Sign.RSqb ∷ Op Sign.Colon ∷ in_form (119 ∷ []) ∷ []) ≡ Found
    (simple_form (AnnAssign (Trees.Subscript (Trees.Dict (Trees.an_optional (Trees.present (Trees.Name (120 ∷ []) Load)) Trees.no_optional)
    (Trees.an_expr (Trees.Name (121 ∷ []) Load) Trees.no_exprs)) (Trees.Name (122 ∷ []) Load) Store)
    (Trees.Name (119 ∷ []) Load) None false ∷ [])) []
depth_131 = refl

-- x . y . z @= w
depth_132 : read_line_to Py311 false 3 (in_form (120 ∷ []) ∷ Op Sign.Dot ∷ in_form (121 ∷ []) ∷ Op Sign.Dot ∷ in_form (122 ∷ []) ∷ Op
    Sign.AtEqual ∷ in_form (119 ∷ []) ∷ []) ≡ Found
    (simple_form (AugAssign (Trees.Attribute (Trees.Attribute (Trees.Name (120 ∷ []) Load) (121 ∷ []) Load) (122 ∷ []) Store) Bin.MatMult
    (Trees.Name (119 ∷ []) Load) ∷ [])) []
depth_132 = refl

-- x @ y
depth_133 : read_line_to Py311 false 2 (in_form (120 ∷ []) ∷ Op Sign.At ∷ in_form (121 ∷ []) ∷ []) ≡ Found
    (simple_form (ExprOf (Trees.BinOp (Trees.Name (120 ∷ []) Load) Bin.MatMult (Trees.Name (121 ∷ []) Load)) ∷ [])) []
depth_133 = refl

-- x : int ; y : str = z
depth_134 : read_line_to Py311 false 1 (in_form (120 ∷ []) ∷ Op Sign.Colon ∷ in_form (105 ∷ 110 ∷ 116 ∷ []) ∷ Op Sign.Semi ∷ in_form
    (121 ∷ []) ∷ Op Sign.Colon ∷ in_form (115 ∷ 116 ∷ 114 ∷ []) ∷ Op Sign.Equal ∷ in_form (122 ∷ []) ∷ []) ≡ Found
    (simple_form (AnnAssign (Trees.Name (120 ∷ []) Store) (Trees.Name (105 ∷ 110 ∷ 116 ∷ []) Load) None true ∷ AnnAssign
    (Trees.Name (121 ∷ []) Store) (Trees.Name (115 ∷ 116 ∷ 114 ∷ []) Load) (Some (Trees.Name (122 ∷ []) Load)) true ∷ [])) []
depth_134 = refl

-- x = * y ,
depth_139 : read_line_to Py311 false 3 (in_form (120 ∷ []) ∷ Op Sign.Equal ∷ Op Sign.Star ∷ in_form (121 ∷ []) ∷ Op Sign.Comma ∷ []) ≡ Found
    (simple_form (Assign ((Trees.Name (120 ∷ []) Store) ∷ [])
    (Trees.Tuple (Trees.an_expr (Trees.Starred (Trees.Name (121 ∷ []) Load) Load) Trees.no_exprs) Load) ∷ [])) []
depth_139 = refl

-- x = * y
depth_140 : read_line_to Py311 false 2 (in_form (120 ∷ []) ∷ Op Sign.Equal ∷ Op Sign.Star ∷ in_form (121 ∷ []) ∷ []) ≡ Found
    (simple_form (Assign ((Trees.Name (120 ∷ []) Store) ∷ []) (Trees.Starred (Trees.Name (121 ∷ []) Load) Load) ∷ [])) []
depth_140 = refl

-- x += * y , z
depth_141 : read_line_to Py311 false 3 (in_form (120 ∷ []) ∷ Op Sign.PlusEqual ∷ Op Sign.Star ∷ in_form (121 ∷ []) ∷ Op Sign.Comma ∷ in_form
    (122 ∷ []) ∷ []) ≡ Found
    (simple_form (AugAssign (Trees.Name (120 ∷ []) Store) Bin.Add
    (Trees.Tuple (Trees.an_expr (Trees.Starred (Trees.Name (121 ∷ []) Load) Load)
    (Trees.an_expr (Trees.Name (122 ∷ []) Load) Trees.no_exprs)) Load) ∷ [])) []
depth_141 = refl

-- - - - x
depth_143 : read_line_to Py311 false 4 (Op Sign.Minus ∷ Op Sign.Minus ∷ Op Sign.Minus ∷ in_form (120 ∷ []) ∷ []) ≡ Found
    (simple_form (ExprOf (Trees.UnaryOp Un.USub (Trees.UnaryOp Un.USub (Trees.UnaryOp Un.USub (Trees.Name (120 ∷ []) Load)))) ∷ [])) []
depth_143 = refl

-- not not not x
depth_144 : read_line_to Py311 false 4 (Word Key.Not ∷ Word Key.Not ∷ Word Key.Not ∷ in_form (120 ∷ []) ∷ []) ≡ Found
    (simple_form (ExprOf (Trees.UnaryOp Un.Not (Trees.UnaryOp Un.Not (Trees.UnaryOp Un.Not (Trees.Name (120 ∷ []) Load)))) ∷ [])) []
depth_144 = refl

-- ( ( ( ( x ) ) ) )
depth_145 : read_line_to Py311 false 5 (Op Sign.LPar ∷ Op Sign.LPar ∷ Op Sign.LPar ∷ Op Sign.LPar ∷ in_form (120 ∷ []) ∷ Op Sign.RPar ∷ Op
    Sign.RPar ∷ Op Sign.RPar ∷ Op Sign.RPar ∷ []) ≡ Found (simple_form (ExprOf (Trees.Name (120 ∷ []) Load) ∷ [])) []
depth_145 = refl

-- - ( - ( - ( x ) ) )
depth_146 : read_line_to Py311 false 7 (Op Sign.Minus ∷ Op Sign.LPar ∷ Op Sign.Minus ∷ Op Sign.LPar ∷ Op Sign.Minus ∷ Op Sign.LPar ∷ in_form
    (120 ∷ []) ∷ Op Sign.RPar ∷ Op Sign.RPar ∷ Op Sign.RPar ∷ []) ≡ Found
    (simple_form (ExprOf (Trees.UnaryOp Un.USub (Trees.UnaryOp Un.USub (Trees.UnaryOp Un.USub (Trees.Name (120 ∷ []) Load)))) ∷ [])) []
depth_146 = refl

-- lambda : lambda : lambda : x
depth_147 : read_line_to Py311 false 4 (Word Key.Lambda ∷ Op Sign.Colon ∷ Word Key.Lambda ∷ Op Sign.Colon ∷ Word Key.Lambda ∷ Op Sign.Colon
    ∷ in_form (120 ∷ []) ∷ []) ≡ Found
    (simple_form (ExprOf (Trees.Lambda (Trees.arguments Trees.no_arg Trees.no_arg Trees.absent_arg Trees.no_arg Trees.no_optional
    Trees.absent_arg Trees.no_exprs)
    (Trees.Lambda (Trees.arguments Trees.no_arg Trees.no_arg Trees.absent_arg Trees.no_arg Trees.no_optional Trees.absent_arg
    Trees.no_exprs) (Trees.Lambda (Trees.arguments Trees.no_arg Trees.no_arg Trees.absent_arg Trees.no_arg Trees.no_optional
    Trees.absent_arg Trees.no_exprs) (Trees.Name (120 ∷ []) Load)))) ∷ [])) []
depth_147 = refl

-- a if b else c if d else e
depth_148 : read_line_to Py311 false 3 (in_form (97 ∷ []) ∷ Word Key.If ∷ in_form (98 ∷ []) ∷ Word Key.Else ∷ in_form (99 ∷ []) ∷ Word
    Key.If ∷ in_form (100 ∷ []) ∷ Word Key.Else ∷ in_form (101 ∷ []) ∷ []) ≡ Found
    (simple_form (ExprOf (Trees.IfExp (Trees.Name (98 ∷ []) Load) (Trees.Name (97 ∷ []) Load)
    (Trees.IfExp (Trees.Name (100 ∷ []) Load) (Trees.Name (99 ∷ []) Load) (Trees.Name (101 ∷ []) Load))) ∷ [])) []
depth_148 = refl

-- a ** b ** c ** d
depth_149 : read_line_to Py311 false 4 (in_form (97 ∷ []) ∷ Op Sign.DoubleStar ∷ in_form (98 ∷ []) ∷ Op Sign.DoubleStar ∷ in_form (99 ∷ [])
    ∷ Op Sign.DoubleStar ∷ in_form (100 ∷ []) ∷ []) ≡ Found
    (simple_form (ExprOf
    (Trees.BinOp (Trees.Name (97 ∷ []) Load) Bin.Pow
    (Trees.BinOp (Trees.Name (98 ∷ []) Load) Bin.Pow (Trees.BinOp (Trees.Name (99 ∷ []) Load) Bin.Pow (Trees.Name (100 ∷ []) Load)))) ∷ []))
    []
depth_149 = refl

-- a [ b [ c [ d ] ] ]
depth_150 : read_line_to Py311 false 7 (in_form (97 ∷ []) ∷ Op Sign.LSqb ∷ in_form (98 ∷ []) ∷ Op Sign.LSqb ∷ in_form (99 ∷ []) ∷ Op
    Sign.LSqb ∷ in_form (100 ∷ []) ∷ Op Sign.RSqb ∷ Op Sign.RSqb ∷ Op Sign.RSqb ∷ []) ≡ Found
    (simple_form (ExprOf
    (Trees.Subscript (Trees.Name (97 ∷ []) Load)
    (Trees.Subscript (Trees.Name (98 ∷ []) Load) (Trees.Subscript (Trees.Name (99 ∷ []) Load) (Trees.Name (100 ∷ []) Load) Load) Load) Load)
    ∷ [])) []
depth_150 = refl

-- f ( f ( f ( x ) ) )
depth_151 : read_line_to Py311 false 7 (in_form (102 ∷ []) ∷ Op Sign.LPar ∷ in_form (102 ∷ []) ∷ Op Sign.LPar ∷ in_form (102 ∷ []) ∷ Op
    Sign.LPar ∷ in_form (120 ∷ []) ∷ Op Sign.RPar ∷ Op Sign.RPar ∷ Op Sign.RPar ∷ []) ≡ Found
    (simple_form (ExprOf
    (Trees.Call (Trees.Name (102 ∷ []) Load)
    (Trees.an_expr (Trees.Call (Trees.Name (102 ∷ []) Load)
    (Trees.an_expr (Trees.Call (Trees.Name (102 ∷ []) Load) (Trees.an_expr (Trees.Name (120 ∷ []) Load) Trees.no_exprs) Trees.no_keyword)
    Trees.no_exprs) Trees.no_keyword) Trees.no_exprs) Trees.no_keyword) ∷ [])) []
depth_151 = refl

-- [ [ [ [ ] ] ] ]
depth_152 : read_line_to Py311 false 8 (Op Sign.LSqb ∷ Op Sign.LSqb ∷ Op Sign.LSqb ∷ Op Sign.LSqb ∷ Op Sign.RSqb ∷ Op Sign.RSqb ∷ Op
    Sign.RSqb ∷ Op Sign.RSqb ∷ []) ≡ Found
    (simple_form (ExprOf
    (Trees.ListOf (Trees.an_expr
    (Trees.ListOf (Trees.an_expr (Trees.ListOf (Trees.an_expr (Trees.ListOf Trees.no_exprs Load) Trees.no_exprs) Load) Trees.no_exprs) Load)
    Trees.no_exprs) Load) ∷ [])) []
depth_152 = refl

-- { a : { b : { c : d } } }
depth_153 : read_line_to Py311 false 7 (Op Sign.LBrace ∷ in_form (97 ∷ []) ∷ Op Sign.Colon ∷ Op Sign.LBrace ∷ in_form (98 ∷ []) ∷ Op
    Sign.Colon ∷ Op Sign.LBrace ∷ in_form (99 ∷ []) ∷ Op Sign.Colon ∷ in_form (100 ∷ []) ∷ Op Sign.RBrace ∷ Op Sign.RBrace ∷ Op Sign.RBrace
    ∷ []) ≡ Found (simple_form (ExprOf (Trees.Dict (Trees.an_optional (Trees.present (Trees.Name (97 ∷ []) Load)) Trees.no_optional)
    (Trees.an_expr (Trees.Dict (Trees.an_optional (Trees.present (Trees.Name (98 ∷ []) Load)) Trees.no_optional)
    (Trees.an_expr (Trees.Dict (Trees.an_optional (Trees.present (Trees.Name (99 ∷ []) Load)) Trees.no_optional)
    (Trees.an_expr (Trees.Name (100 ∷ []) Load) Trees.no_exprs)) Trees.no_exprs)) Trees.no_exprs)) ∷ [])) []
depth_153 = refl

-- a [ b : c [ d : e ] ]
depth_154 : read_line_to Py311 false 7 (in_form (97 ∷ []) ∷ Op Sign.LSqb ∷ in_form (98 ∷ []) ∷ Op Sign.Colon ∷ in_form (99 ∷ []) ∷ Op
    Sign.LSqb ∷ in_form (100 ∷ []) ∷ Op Sign.Colon ∷ in_form (101 ∷ []) ∷ Op Sign.RSqb ∷ Op Sign.RSqb ∷ []) ≡ Found
    (simple_form (ExprOf (Trees.Subscript (Trees.Name (97 ∷ []) Load) (Trees.Slice (Trees.present (Trees.Name (98 ∷ []) Load))
    (Trees.present (Trees.Subscript (Trees.Name (99 ∷ []) Load) (Trees.Slice (Trees.present (Trees.Name (100 ∷ []) Load))
    (Trees.present (Trees.Name (101 ∷ []) Load)) Trees.absent) Load)) Trees.absent) Load) ∷ [])) []
depth_154 = refl

-- ( yield ( yield ( yield ) ) )
depth_155 : read_line_to Py311 false 6 (Op Sign.LPar ∷ Word Key.Yield ∷ Op Sign.LPar ∷ Word Key.Yield ∷ Op Sign.LPar ∷ Word Key.Yield ∷ Op
    Sign.RPar ∷ Op Sign.RPar ∷ Op Sign.RPar ∷ []) ≡ Found
    (simple_form (ExprOf (Trees.Yield (Trees.present (Trees.Yield (Trees.present (Trees.Yield Trees.absent))))) ∷ [])) []
depth_155 = refl

-- [ a for b in [ c for d in e ] ]
depth_156 : read_line_to Py311 false 5 (Op Sign.LSqb ∷ in_form (97 ∷ []) ∷ Word Key.For ∷ in_form (98 ∷ []) ∷ Word Key.In ∷ Op Sign.LSqb ∷
    in_form (99 ∷ []) ∷ Word Key.For ∷ in_form (100 ∷ []) ∷ Word Key.In ∷ in_form (101 ∷ []) ∷ Op Sign.RSqb ∷ Op Sign.RSqb ∷ []) ≡ Found
    (simple_form (ExprOf
    (Trees.ListComp (Trees.Name (97 ∷ []) Load) (Trees.a_comprehension (Trees.Name (98 ∷ []) Store)
    (Trees.ListComp (Trees.Name (99 ∷ []) Load) (Trees.a_comprehension (Trees.Name (100 ∷ []) Store) (Trees.Name (101 ∷ []) Load)
    Trees.no_exprs false Trees.no_comprehension)) Trees.no_exprs false Trees.no_comprehension)) ∷ [])) []
depth_156 = refl

-- x = y = ( ( a ) )
depth_157 : read_line_to Py311 false 3 (in_form (120 ∷ []) ∷ Op Sign.Equal ∷ in_form (121 ∷ []) ∷ Op Sign.Equal ∷ Op Sign.LPar ∷ Op
    Sign.LPar ∷ in_form (97 ∷ []) ∷ Op Sign.RPar ∷ Op Sign.RPar ∷ []) ≡ Found
    (simple_form (Assign ((Trees.Name (120 ∷ []) Store) ∷ (Trees.Name (121 ∷ []) Store) ∷ []) (Trees.Name (97 ∷ []) Load) ∷ [])) []
depth_157 = refl

-- a : ( ( b ) ) = ( ( c ) )
depth_158 : read_line_to Py311 false 3 (in_form (97 ∷ []) ∷ Op Sign.Colon ∷ Op Sign.LPar ∷ Op Sign.LPar ∷ in_form (98 ∷ []) ∷ Op Sign.RPar ∷
    Op Sign.RPar ∷ Op Sign.Equal ∷ Op Sign.LPar ∷ Op Sign.LPar ∷ in_form (99 ∷ []) ∷ Op Sign.RPar ∷ Op Sign.RPar ∷ []) ≡ Found
    (simple_form (AnnAssign (Trees.Name (97 ∷ []) Store) (Trees.Name (98 ∷ []) Load) (Some (Trees.Name (99 ∷ []) Load)) true ∷ [])) []
depth_158 = refl

-- await await_
depth_169 : read_line_to Py311 false 2 (Word Key.Await ∷ in_form (97 ∷ 119 ∷ 97 ∷ 105 ∷ 116 ∷ 95 ∷ []) ∷ []) ≡ Found
    (simple_form (ExprOf (Trees.Await (Trees.Name (97 ∷ 119 ∷ 97 ∷ 105 ∷ 116 ∷ 95 ∷ []) Load)) ∷ [])) []
depth_169 = refl

-- ( await x ) ** - ( y )
depth_170 : read_line_to Py311 false 4 (Op Sign.LPar ∷ Word Key.Await ∷ in_form (120 ∷ []) ∷ Op Sign.RPar ∷ Op Sign.DoubleStar ∷ Op
    Sign.Minus ∷ Op Sign.LPar ∷ in_form (121 ∷ []) ∷ Op Sign.RPar ∷ []) ≡ Found
    (simple_form (ExprOf (Trees.BinOp (Trees.Await (Trees.Name (120 ∷ []) Load)) Bin.Pow
    (Trees.UnaryOp Un.USub (Trees.Name (121 ∷ []) Load))) ∷ [])) []
depth_170 = refl

-- - - x ** - - y
depth_171 : read_line_to Py311 false 6 (Op Sign.Minus ∷ Op Sign.Minus ∷ in_form (120 ∷ []) ∷ Op Sign.DoubleStar ∷ Op Sign.Minus ∷ Op
    Sign.Minus ∷ in_form (121 ∷ []) ∷ []) ≡ Found
    (simple_form (ExprOf
    (Trees.UnaryOp Un.USub
    (Trees.UnaryOp Un.USub (Trees.BinOp (Trees.Name (120 ∷ []) Load) Bin.Pow
    (Trees.UnaryOp Un.USub (Trees.UnaryOp Un.USub (Trees.Name (121 ∷ []) Load)))))) ∷ [])) []
depth_171 = refl

-- f ( * a , ** b ) ( c ) [ d ] ( e )
depth_172 : read_line_to Py311 false 7 (in_form (102 ∷ []) ∷ Op Sign.LPar ∷ Op Sign.Star ∷ in_form (97 ∷ []) ∷ Op Sign.Comma ∷ Op
    Sign.DoubleStar ∷ in_form (98 ∷ []) ∷ Op Sign.RPar ∷ Op Sign.LPar ∷ in_form (99 ∷ []) ∷ Op Sign.RPar ∷ Op Sign.LSqb ∷ in_form (100 ∷ [])
    ∷ Op Sign.RSqb ∷ Op Sign.LPar ∷ in_form (101 ∷ []) ∷ Op Sign.RPar ∷ []) ≡ Found
    (simple_form (ExprOf
    (Trees.Call (Trees.Subscript
    (Trees.Call (Trees.Call (Trees.Name (102 ∷ []) Load) (Trees.an_expr (Trees.Starred (Trees.Name (97 ∷ []) Load) Load) Trees.no_exprs)
    (Trees.a_keyword None (Trees.Name (98 ∷ []) Load) Trees.no_keyword)) (Trees.an_expr (Trees.Name (99 ∷ []) Load) Trees.no_exprs)
    Trees.no_keyword) (Trees.Name (100 ∷ []) Load) Load) (Trees.an_expr (Trees.Name (101 ∷ []) Load) Trees.no_exprs) Trees.no_keyword) ∷
    [])) []
depth_172 = refl

-- a . b . c . d . e . f
depth_173 : read_line_to Py311 false 6 (in_form (97 ∷ []) ∷ Op Sign.Dot ∷ in_form (98 ∷ []) ∷ Op Sign.Dot ∷ in_form (99 ∷ []) ∷ Op Sign.Dot
    ∷ in_form (100 ∷ []) ∷ Op Sign.Dot ∷ in_form (101 ∷ []) ∷ Op Sign.Dot ∷ in_form (102 ∷ []) ∷ []) ≡ Found
    (simple_form (ExprOf
    (Trees.Attribute (Trees.Attribute
    (Trees.Attribute (Trees.Attribute (Trees.Attribute (Trees.Name (97 ∷ []) Load) (98 ∷ []) Load) (99 ∷ []) Load) (100 ∷ []) Load)
    (101 ∷ []) Load) (102 ∷ []) Load) ∷ [])) []
depth_173 = refl

-- x + y + z + w
depth_174 : read_line_to Py311 false 4 (in_form (120 ∷ []) ∷ Op Sign.Plus ∷ in_form (121 ∷ []) ∷ Op Sign.Plus ∷ in_form (122 ∷ []) ∷ Op
    Sign.Plus ∷ in_form (119 ∷ []) ∷ []) ≡ Found
    (simple_form (ExprOf (Trees.BinOp (Trees.BinOp (Trees.BinOp (Trees.Name (120 ∷ []) Load) Bin.Add (Trees.Name (121 ∷ []) Load)) Bin.Add
    (Trees.Name (122 ∷ []) Load)) Bin.Add (Trees.Name (119 ∷ []) Load)) ∷ [])) []
depth_174 = refl

-- a < b < c
depth_175 : read_line_to Py311 false 2 (in_form (97 ∷ []) ∷ Op Sign.Less ∷ in_form (98 ∷ []) ∷ Op Sign.Less ∷ in_form (99 ∷ []) ∷ []) ≡
    Found (simple_form (ExprOf (Trees.Compare (Trees.Name (97 ∷ []) Load) (Is.Lt ∷ Is.Lt ∷ [])
    (Trees.an_expr (Trees.Name (98 ∷ []) Load) (Trees.an_expr (Trees.Name (99 ∷ []) Load) Trees.no_exprs))) ∷ [])) []
depth_175 = refl

-- x or y or z
depth_176 : read_line_to Py311 false 2 (in_form (120 ∷ []) ∷ Word Key.Or ∷ in_form (121 ∷ []) ∷ Word Key.Or ∷ in_form (122 ∷ []) ∷ []) ≡
    Found (simple_form (ExprOf
    (Trees.BoolOp Join.Or
    (Trees.an_expr (Trees.Name (120 ∷ []) Load)
    (Trees.an_expr (Trees.Name (121 ∷ []) Load) (Trees.an_expr (Trees.Name (122 ∷ []) Load) Trees.no_exprs)))) ∷ [])) []
depth_176 = refl

-- lambda a = ( b ) : c
depth_177 : read_line_to Py311 false 3 (Word Key.Lambda ∷ in_form (97 ∷ []) ∷ Op Sign.Equal ∷ Op Sign.LPar ∷ in_form (98 ∷ []) ∷ Op
    Sign.RPar ∷ Op Sign.Colon ∷ in_form (99 ∷ []) ∷ []) ≡ Found
    (simple_form (ExprOf (Trees.Lambda (Trees.arguments Trees.no_arg (Trees.an_arg (Trees.arg (97 ∷ []) Trees.absent) Trees.no_arg)
    Trees.absent_arg Trees.no_arg Trees.no_optional Trees.absent_arg (Trees.an_expr (Trees.Name (98 ∷ []) Load) Trees.no_exprs))
    (Trees.Name (99 ∷ []) Load)) ∷ [])) []
depth_177 = refl

-- [ * ( ( a ) ) ]
depth_178 : read_line_to Py311 false 6 (Op Sign.LSqb ∷ Op Sign.Star ∷ Op Sign.LPar ∷ Op Sign.LPar ∷ in_form (97 ∷ []) ∷ Op Sign.RPar ∷ Op
    Sign.RPar ∷ Op Sign.RSqb ∷ []) ≡ Found
    (simple_form (ExprOf (Trees.ListOf (Trees.an_expr (Trees.Starred (Trees.Name (97 ∷ []) Load) Load) Trees.no_exprs) Load) ∷ [])) []
depth_178 = refl

-- { ** ( ( a ) ) }
depth_179 : read_line_to Py311 false 5 (Op Sign.LBrace ∷ Op Sign.DoubleStar ∷ Op Sign.LPar ∷ Op Sign.LPar ∷ in_form (97 ∷ []) ∷ Op Sign.RPar
    ∷ Op Sign.RPar ∷ Op Sign.RBrace ∷ []) ≡ Found
    (simple_form (ExprOf (Trees.Dict (Trees.an_optional Trees.absent Trees.no_optional)
    (Trees.an_expr (Trees.Name (97 ∷ []) Load) Trees.no_exprs)) ∷ [])) []
depth_179 = refl

-- a [ * ( ( b ) ) ]
depth_180 : read_line_to Py311 false 7 (in_form (97 ∷ []) ∷ Op Sign.LSqb ∷ Op Sign.Star ∷ Op Sign.LPar ∷ Op Sign.LPar ∷ in_form (98 ∷ []) ∷
    Op Sign.RPar ∷ Op Sign.RPar ∷ Op Sign.RSqb ∷ []) ≡ Found
    (simple_form (ExprOf
    (Trees.Subscript (Trees.Name (97 ∷ []) Load)
    (Trees.Tuple (Trees.an_expr (Trees.Starred (Trees.Name (98 ∷ []) Load) Load) Trees.no_exprs) Load) Load) ∷ [])) []
depth_180 = refl

-- a [ ( ( b ) ) : ( ( c ) ) : ( ( d ) ) ]
depth_181 : read_line_to Py311 false 6 (in_form (97 ∷ []) ∷ Op Sign.LSqb ∷ Op Sign.LPar ∷ Op Sign.LPar ∷ in_form (98 ∷ []) ∷ Op Sign.RPar ∷
    Op Sign.RPar ∷ Op Sign.Colon ∷ Op Sign.LPar ∷ Op Sign.LPar ∷ in_form (99 ∷ []) ∷ Op Sign.RPar ∷ Op Sign.RPar ∷ Op Sign.Colon ∷ Op
    Sign.LPar ∷ Op Sign.LPar ∷ in_form (100 ∷ []) ∷ Op Sign.RPar ∷ Op Sign.RPar ∷ Op Sign.RSqb ∷ []) ≡ Found
    (simple_form (ExprOf (Trees.Subscript (Trees.Name (97 ∷ []) Load) (Trees.Slice (Trees.present (Trees.Name (98 ∷ []) Load))
    (Trees.present (Trees.Name (99 ∷ []) Load)) (Trees.present (Trees.Name (100 ∷ []) Load))) Load) ∷ [])) []
depth_181 = refl

-- ( a := ( ( b ) ) )
depth_182 : read_line_to Py311 false 5 (Op Sign.LPar ∷ in_form (97 ∷ []) ∷ Op Sign.ColonEqual ∷ Op Sign.LPar ∷ Op Sign.LPar ∷ in_form
    (98 ∷ []) ∷ Op Sign.RPar ∷ Op Sign.RPar ∷ Op Sign.RPar ∷ []) ≡ Found
    (simple_form (ExprOf (Trees.NamedExpr (Trees.Name (97 ∷ []) Store) (Trees.Name (98 ∷ []) Load)) ∷ [])) []
depth_182 = refl

-- not a in not_
depth_183 : read_line_to Py311 false 3 (Word Key.Not ∷ in_form (97 ∷ []) ∷ Word Key.In ∷ in_form (110 ∷ 111 ∷ 116 ∷ 95 ∷ []) ∷ []) ≡ Found
    (simple_form (ExprOf
    (Trees.UnaryOp Un.Not (Trees.Compare (Trees.Name (97 ∷ []) Load) (Is.Within ∷ [])
    (Trees.an_expr (Trees.Name (110 ∷ 111 ∷ 116 ∷ 95 ∷ []) Load) Trees.no_exprs))) ∷ [])) []
depth_183 = refl

-- f ( ( a ) for b in c )
depth_187 : read_line_to Py311 false 5 (in_form (102 ∷ []) ∷ Op Sign.LPar ∷ Op Sign.LPar ∷ in_form (97 ∷ []) ∷ Op Sign.RPar ∷ Word Key.For ∷
    in_form (98 ∷ []) ∷ Word Key.In ∷ in_form (99 ∷ []) ∷ Op Sign.RPar ∷ []) ≡ Found
    (simple_form (ExprOf
    (Trees.Call (Trees.Name (102 ∷ []) Load)
    (Trees.an_expr (Trees.GeneratorExp (Trees.Name (97 ∷ []) Load) (Trees.a_comprehension (Trees.Name (98 ∷ []) Store)
    (Trees.Name (99 ∷ []) Load) Trees.no_exprs false Trees.no_comprehension)) Trees.no_exprs) Trees.no_keyword) ∷ [])) []
depth_187 = refl

-- { ( ( a ) ) : ( ( b ) ) for c in ( ( d ) ) if ( ( e ) ) }
depth_188 : read_line_to Py311 false 5 (Op Sign.LBrace ∷ Op Sign.LPar ∷ Op Sign.LPar ∷ in_form (97 ∷ []) ∷ Op Sign.RPar ∷ Op Sign.RPar ∷ Op
    Sign.Colon ∷ Op Sign.LPar ∷ Op Sign.LPar ∷ in_form (98 ∷ []) ∷ Op Sign.RPar ∷ Op Sign.RPar ∷ Word Key.For ∷ in_form (99 ∷ []) ∷ Word
    Key.In ∷ Op Sign.LPar ∷ Op Sign.LPar ∷ in_form (100 ∷ []) ∷ Op Sign.RPar ∷ Op Sign.RPar ∷ Word Key.If ∷ Op Sign.LPar ∷ Op Sign.LPar ∷
    in_form (101 ∷ []) ∷ Op Sign.RPar ∷ Op Sign.RPar ∷ Op Sign.RBrace ∷ []) ≡ Found
    (simple_form (ExprOf (Trees.DictComp (Trees.Name (97 ∷ []) Load) (Trees.Name (98 ∷ []) Load)
    (Trees.a_comprehension (Trees.Name (99 ∷ []) Store) (Trees.Name (100 ∷ []) Load)
    (Trees.an_expr (Trees.Name (101 ∷ []) Load) Trees.no_exprs) false Trees.no_comprehension)) ∷ [])) []
depth_188 = refl

-- f ( a ) ( b ) ( c )
depth_189 : read_line_to Py311 false 5 (in_form (102 ∷ []) ∷ Op Sign.LPar ∷ in_form (97 ∷ []) ∷ Op Sign.RPar ∷ Op Sign.LPar ∷ in_form
    (98 ∷ []) ∷ Op Sign.RPar ∷ Op Sign.LPar ∷ in_form (99 ∷ []) ∷ Op Sign.RPar ∷ []) ≡ Found
    (simple_form (ExprOf
    (Trees.Call (Trees.Call (Trees.Call (Trees.Name (102 ∷ []) Load) (Trees.an_expr (Trees.Name (97 ∷ []) Load) Trees.no_exprs)
    Trees.no_keyword) (Trees.an_expr (Trees.Name (98 ∷ []) Load) Trees.no_exprs) Trees.no_keyword)
    (Trees.an_expr (Trees.Name (99 ∷ []) Load) Trees.no_exprs) Trees.no_keyword) ∷ [])) []
depth_189 = refl

-- x [ ( a ) ] ( b )
depth_190 : read_line_to Py311 false 5 (in_form (120 ∷ []) ∷ Op Sign.LSqb ∷ Op Sign.LPar ∷ in_form (97 ∷ []) ∷ Op Sign.RPar ∷ Op Sign.RSqb ∷
    Op Sign.LPar ∷ in_form (98 ∷ []) ∷ Op Sign.RPar ∷ []) ≡ Found
    (simple_form (ExprOf (Trees.Call (Trees.Subscript (Trees.Name (120 ∷ []) Load) (Trees.Name (97 ∷ []) Load) Load)
    (Trees.an_expr (Trees.Name (98 ∷ []) Load) Trees.no_exprs) Trees.no_keyword) ∷ [])) []
depth_190 = refl

-- print ( ( a ) , end = ( b ) )
depth_191 : read_line_to Py311 false 4 (in_form (112 ∷ 114 ∷ 105 ∷ 110 ∷ 116 ∷ []) ∷ Op Sign.LPar ∷ Op Sign.LPar ∷ in_form (97 ∷ []) ∷ Op
    Sign.RPar ∷ Op Sign.Comma ∷ in_form (101 ∷ 110 ∷ 100 ∷ []) ∷ Op Sign.Equal ∷ Op Sign.LPar ∷ in_form (98 ∷ []) ∷ Op Sign.RPar ∷ Op
    Sign.RPar ∷ []) ≡ Found
    (simple_form (ExprOf (Trees.Call (Trees.Name (112 ∷ 114 ∷ 105 ∷ 110 ∷ 116 ∷ []) Load)
    (Trees.an_expr (Trees.Name (97 ∷ []) Load) Trees.no_exprs) (Trees.a_keyword (Some (101 ∷ 110 ∷ 100 ∷ [])) (Trees.Name (98 ∷ []) Load)
    Trees.no_keyword)) ∷ [])) []
depth_191 = refl

-- ( ( ( a ) ) ) += ( ( ( b ) ) )
depth_192 : read_line_to Py311 false 4 (Op Sign.LPar ∷ Op Sign.LPar ∷ Op Sign.LPar ∷ in_form (97 ∷ []) ∷ Op Sign.RPar ∷ Op Sign.RPar ∷ Op
    Sign.RPar ∷ Op Sign.PlusEqual ∷ Op Sign.LPar ∷ Op Sign.LPar ∷ Op Sign.LPar ∷ in_form (98 ∷ []) ∷ Op Sign.RPar ∷ Op Sign.RPar ∷ Op
    Sign.RPar ∷ []) ≡ Found (simple_form (AugAssign (Trees.Name (97 ∷ []) Store) Bin.Add (Trees.Name (98 ∷ []) Load) ∷ [])) []
depth_192 = refl

-- ( ( a ) ) . b : ( ( c ) )
depth_193 : read_line_to Py311 false 4 (Op Sign.LPar ∷ Op Sign.LPar ∷ in_form (97 ∷ []) ∷ Op Sign.RPar ∷ Op Sign.RPar ∷ Op Sign.Dot ∷
    in_form (98 ∷ []) ∷ Op Sign.Colon ∷ Op Sign.LPar ∷ Op Sign.LPar ∷ in_form (99 ∷ []) ∷ Op Sign.RPar ∷ Op Sign.RPar ∷ []) ≡ Found
    (simple_form (AnnAssign (Trees.Attribute (Trees.Name (97 ∷ []) Load) (98 ∷ []) Store) (Trees.Name (99 ∷ []) Load) None false ∷ [])) []
depth_193 = refl

-- ( ( a ) ) : ( ( b ) )
depth_194 : read_line_to Py311 false 3 (Op Sign.LPar ∷ Op Sign.LPar ∷ in_form (97 ∷ []) ∷ Op Sign.RPar ∷ Op Sign.RPar ∷ Op Sign.Colon ∷ Op
    Sign.LPar ∷ Op Sign.LPar ∷ in_form (98 ∷ []) ∷ Op Sign.RPar ∷ Op Sign.RPar ∷ []) ≡ Found
    (simple_form (AnnAssign (Trees.Name (97 ∷ []) Store) (Trees.Name (98 ∷ []) Load) None false ∷ [])) []
depth_194 = refl
