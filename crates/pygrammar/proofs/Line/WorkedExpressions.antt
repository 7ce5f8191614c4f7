-- Worked lines that begin with an expression: the reader computes their forms.
--
-- Carries: no contract; its rows are computed as it is checked.
use Rattle.std.proofs.Common.{◌≡◌, refl, [], ◌∷◌, Some, None, true, false}
use Rattle.pylex_lexeme.specs.declared.kinds.Exact.TheVariants as Sign
use Rattle.pytoken.specs.declared.keywords.Keyword.TheVariants as Key
use Rattle.pytree_node.specs.declared.operators.Operator.TheVariants as Bin
use Rattle.pytree_node.specs.declared.operators.Context.TheVariants.{Load, Store}
use Rattle.pytree_node.specs.Profiles.{plain_311 as Py311}
use Rattle.pytree_node.specs.Trees as Trees
use Rattle.pytree_node.specs.Values as Values
use Rattle.pytoken.specs.Terminals.{Op, Word, in_form, whole, Literal}
use Rattle.pygrammar.specs.Reader.{Found, NoForm}
use Rattle.pytree_node.specs.Trees.{Assign, AugAssign, AnnAssign, ExprOf}
use Rattle.pygrammar.specs.Lines.{simple_form}
use Rattle.pygrammar.specs.LineReader.{read_line}
use Rattle.pytree_node.specs.declared.operators.Comparison.TheVariants as Is
use Rattle.pytree_node.specs.declared.operators.UnaryOperator.TheVariants as Un

-- x
row_0 : read_line Py311 false (in_form (120 ∷ []) ∷ []) ≡ Found (simple_form (ExprOf (Trees.Name (120 ∷ []) Load) ∷ [])) []
row_0 = refl

-- x; y
row_1 : read_line Py311 false (in_form (120 ∷ []) ∷ Op Sign.Semi ∷ in_form (121 ∷ []) ∷ []) ≡ Found
    (simple_form (ExprOf (Trees.Name (120 ∷ []) Load) ∷ ExprOf (Trees.Name (121 ∷ []) Load) ∷ [])) []
row_1 = refl

-- x;
row_2 : read_line Py311 false (in_form (120 ∷ []) ∷ Op Sign.Semi ∷ []) ≡ Found (simple_form (ExprOf (Trees.Name (120 ∷ []) Load) ∷ [])) []
row_2 = refl

-- x = y
row_3 : read_line Py311 false (in_form (120 ∷ []) ∷ Op Sign.Equal ∷ in_form (121 ∷ []) ∷ []) ≡ Found
    (simple_form (Assign ((Trees.Name (120 ∷ []) Store) ∷ []) (Trees.Name (121 ∷ []) Load) ∷ [])) []
row_3 = refl

-- x = y = z, *w
row_4 : read_line Py311 false (in_form (120 ∷ []) ∷ Op Sign.Equal ∷ in_form (121 ∷ []) ∷ Op Sign.Equal ∷ in_form (122 ∷ []) ∷ Op Sign.Comma
    ∷ Op Sign.Star ∷ in_form (119 ∷ []) ∷ []) ≡ Found
    (simple_form (Assign ((Trees.Name (120 ∷ []) Store) ∷ (Trees.Name (121 ∷ []) Store) ∷ [])
    (Trees.Tuple (Trees.an_expr (Trees.Name (122 ∷ []) Load) (Trees.an_expr (Trees.Starred (Trees.Name (119 ∷ []) Load) Load)
    Trees.no_exprs)) Load) ∷ [])) []
row_4 = refl

-- a = yield
row_5 : read_line Py311 false (in_form (97 ∷ []) ∷ Op Sign.Equal ∷ Word Key.Yield ∷ []) ≡ Found
    (simple_form (Assign ((Trees.Name (97 ∷ []) Store) ∷ []) (Trees.Yield Trees.absent) ∷ [])) []
row_5 = refl

-- a = yield b
row_6 : read_line Py311 false (in_form (97 ∷ []) ∷ Op Sign.Equal ∷ Word Key.Yield ∷ in_form (98 ∷ []) ∷ []) ≡ Found
    (simple_form (Assign ((Trees.Name (97 ∷ []) Store) ∷ []) (Trees.Yield (Trees.present (Trees.Name (98 ∷ []) Load))) ∷ [])) []
row_6 = refl

-- yield = 1
row_7 : read_line Py311 false (Word Key.Yield ∷ Op Sign.Equal ∷ whole 1 ∷ []) ≡ NoForm
row_7 = refl

-- (x) = 1
row_8 : read_line Py311 false (Op Sign.LPar ∷ in_form (120 ∷ []) ∷ Op Sign.RPar ∷ Op Sign.Equal ∷ whole 1 ∷ []) ≡ Found
    (simple_form (Assign ((Trees.Name (120 ∷ []) Store) ∷ []) (Trees.Constant (Values.Int 1)) ∷ [])) []
row_8 = refl

-- [a, *b] = c
row_9 : read_line Py311 false (Op Sign.LSqb ∷ in_form (97 ∷ []) ∷ Op Sign.Comma ∷ Op Sign.Star ∷ in_form (98 ∷ []) ∷ Op Sign.RSqb ∷ Op
    Sign.Equal ∷ in_form (99 ∷ []) ∷ []) ≡ Found
    (simple_form (Assign
    ((Trees.ListOf (Trees.an_expr (Trees.Name (97 ∷ []) Store) (Trees.an_expr (Trees.Starred (Trees.Name (98 ∷ []) Store) Store)
    Trees.no_exprs)) Store) ∷ []) (Trees.Name (99 ∷ []) Load) ∷ [])) []
row_9 = refl

-- (a, b), c = d
row_10 : read_line Py311 false (Op Sign.LPar ∷ in_form (97 ∷ []) ∷ Op Sign.Comma ∷ in_form (98 ∷ []) ∷ Op Sign.RPar ∷ Op Sign.Comma ∷
    in_form (99 ∷ []) ∷ Op Sign.Equal ∷ in_form (100 ∷ []) ∷ []) ≡ Found
    (simple_form (Assign
    ((Trees.Tuple (Trees.an_expr
    (Trees.Tuple (Trees.an_expr (Trees.Name (97 ∷ []) Store) (Trees.an_expr (Trees.Name (98 ∷ []) Store) Trees.no_exprs)) Store)
    (Trees.an_expr (Trees.Name (99 ∷ []) Store) Trees.no_exprs)) Store) ∷ []) (Trees.Name (100 ∷ []) Load) ∷ [])) []
row_10 = refl

-- *a, b = c
row_11 : read_line Py311 false (Op Sign.Star ∷ in_form (97 ∷ []) ∷ Op Sign.Comma ∷ in_form (98 ∷ []) ∷ Op Sign.Equal ∷ in_form (99 ∷ []) ∷
    []) ≡ Found (simple_form
    (Assign ((Trees.Tuple (Trees.an_expr (Trees.Starred (Trees.Name (97 ∷ []) Store) Store)
    (Trees.an_expr (Trees.Name (98 ∷ []) Store) Trees.no_exprs)) Store) ∷ []) (Trees.Name (99 ∷ []) Load) ∷ [])) []
row_11 = refl

-- *a = b
row_12 : read_line Py311 false (Op Sign.Star ∷ in_form (97 ∷ []) ∷ Op Sign.Equal ∷ in_form (98 ∷ []) ∷ []) ≡ Found
    (simple_form (Assign ((Trees.Starred (Trees.Name (97 ∷ []) Store) Store) ∷ []) (Trees.Name (98 ∷ []) Load) ∷ [])) []
row_12 = refl

-- a, = b
row_13 : read_line Py311 false (in_form (97 ∷ []) ∷ Op Sign.Comma ∷ Op Sign.Equal ∷ in_form (98 ∷ []) ∷ []) ≡ Found
    (simple_form (Assign ((Trees.Tuple (Trees.an_expr (Trees.Name (97 ∷ []) Store) Trees.no_exprs) Store) ∷ [])
    (Trees.Name (98 ∷ []) Load) ∷ [])) []
row_13 = refl

-- x += 1
row_14 : read_line Py311 false (in_form (120 ∷ []) ∷ Op Sign.PlusEqual ∷ whole 1 ∷ []) ≡ Found
    (simple_form (AugAssign (Trees.Name (120 ∷ []) Store) Bin.Add (Trees.Constant (Values.Int 1)) ∷ [])) []
row_14 = refl

-- (x) += 1
row_15 : read_line Py311 false (Op Sign.LPar ∷ in_form (120 ∷ []) ∷ Op Sign.RPar ∷ Op Sign.PlusEqual ∷ whole 1 ∷ []) ≡ Found
    (simple_form (AugAssign (Trees.Name (120 ∷ []) Store) Bin.Add (Trees.Constant (Values.Int 1)) ∷ [])) []
row_15 = refl

-- a.b **= yield c
row_16 : read_line Py311 false (in_form (97 ∷ []) ∷ Op Sign.Dot ∷ in_form (98 ∷ []) ∷ Op Sign.DoubleStarEqual ∷ Word Key.Yield ∷ in_form
    (99 ∷ []) ∷ []) ≡ Found
    (simple_form (AugAssign (Trees.Attribute (Trees.Name (97 ∷ []) Load) (98 ∷ []) Store) Bin.Pow
    (Trees.Yield (Trees.present (Trees.Name (99 ∷ []) Load))) ∷ [])) []
row_16 = refl

-- a, b += 1
row_17 : read_line Py311 false (in_form (97 ∷ []) ∷ Op Sign.Comma ∷ in_form (98 ∷ []) ∷ Op Sign.PlusEqual ∷ whole 1 ∷ []) ≡ NoForm
row_17 = refl

-- x: int
row_18 : read_line Py311 false (in_form (120 ∷ []) ∷ Op Sign.Colon ∷ in_form (105 ∷ 110 ∷ 116 ∷ []) ∷ []) ≡ Found
    (simple_form (AnnAssign (Trees.Name (120 ∷ []) Store) (Trees.Name (105 ∷ 110 ∷ 116 ∷ []) Load) None true ∷ [])) []
row_18 = refl

-- x: int = 5
row_19 : read_line Py311 false (in_form (120 ∷ []) ∷ Op Sign.Colon ∷ in_form (105 ∷ 110 ∷ 116 ∷ []) ∷ Op Sign.Equal ∷ whole 5 ∷ []) ≡ Found
    (simple_form (AnnAssign (Trees.Name (120 ∷ []) Store) (Trees.Name (105 ∷ 110 ∷ 116 ∷ []) Load)
    (Some (Trees.Constant (Values.Int 5))) true ∷ [])) []
row_19 = refl

-- x: y = z
row_20 : read_line Py311 false (in_form (120 ∷ []) ∷ Op Sign.Colon ∷ in_form (121 ∷ []) ∷ Op Sign.Equal ∷ in_form (122 ∷ []) ∷ []) ≡ Found
    (simple_form (AnnAssign (Trees.Name (120 ∷ []) Store) (Trees.Name (121 ∷ []) Load) (Some (Trees.Name (122 ∷ []) Load)) true ∷ [])) []
row_20 = refl

-- x: int = yield
row_21 : read_line Py311 false (in_form (120 ∷ []) ∷ Op Sign.Colon ∷ in_form (105 ∷ 110 ∷ 116 ∷ []) ∷ Op Sign.Equal ∷ Word Key.Yield ∷ []) ≡
    Found (simple_form (AnnAssign (Trees.Name (120 ∷ []) Store) (Trees.Name (105 ∷ 110 ∷ 116 ∷ []) Load)
    (Some (Trees.Yield Trees.absent)) true ∷ [])) []
row_21 = refl

-- (x): int
row_22 : read_line Py311 false (Op Sign.LPar ∷ in_form (120 ∷ []) ∷ Op Sign.RPar ∷ Op Sign.Colon ∷ in_form (105 ∷ 110 ∷ 116 ∷ []) ∷ []) ≡
    Found (simple_form (AnnAssign (Trees.Name (120 ∷ []) Store) (Trees.Name (105 ∷ 110 ∷ 116 ∷ []) Load) None false ∷ [])) []
row_22 = refl

-- ((x)): int
row_23 : read_line Py311 false (Op Sign.LPar ∷ Op Sign.LPar ∷ in_form (120 ∷ []) ∷ Op Sign.RPar ∷ Op Sign.RPar ∷ Op Sign.Colon ∷ in_form
    (105 ∷ 110 ∷ 116 ∷ []) ∷ []) ≡ Found
    (simple_form (AnnAssign (Trees.Name (120 ∷ []) Store) (Trees.Name (105 ∷ 110 ∷ 116 ∷ []) Load) None false ∷ [])) []
row_23 = refl

-- (a.b): c
row_24 : read_line Py311 false (Op Sign.LPar ∷ in_form (97 ∷ []) ∷ Op Sign.Dot ∷ in_form (98 ∷ []) ∷ Op Sign.RPar ∷ Op Sign.Colon ∷ in_form
    (99 ∷ []) ∷ []) ≡ Found
    (simple_form (AnnAssign (Trees.Attribute (Trees.Name (97 ∷ []) Load) (98 ∷ []) Store) (Trees.Name (99 ∷ []) Load) None false ∷ [])) []
row_24 = refl

-- a.b: c
row_25 : read_line Py311 false (in_form (97 ∷ []) ∷ Op Sign.Dot ∷ in_form (98 ∷ []) ∷ Op Sign.Colon ∷ in_form (99 ∷ []) ∷ []) ≡ Found
    (simple_form (AnnAssign (Trees.Attribute (Trees.Name (97 ∷ []) Load) (98 ∷ []) Store) (Trees.Name (99 ∷ []) Load) None false ∷ [])) []
row_25 = refl

-- a[b]: c = d
row_26 : read_line Py311 false (in_form (97 ∷ []) ∷ Op Sign.LSqb ∷ in_form (98 ∷ []) ∷ Op Sign.RSqb ∷ Op Sign.Colon ∷ in_form (99 ∷ []) ∷ Op
    Sign.Equal ∷ in_form (100 ∷ []) ∷ []) ≡ Found
    (simple_form (AnnAssign (Trees.Subscript (Trees.Name (97 ∷ []) Load) (Trees.Name (98 ∷ []) Load) Store) (Trees.Name (99 ∷ []) Load)
    (Some (Trees.Name (100 ∷ []) Load)) false ∷ [])) []
row_26 = refl

-- (a).b: c
row_27 : read_line Py311 false (Op Sign.LPar ∷ in_form (97 ∷ []) ∷ Op Sign.RPar ∷ Op Sign.Dot ∷ in_form (98 ∷ []) ∷ Op Sign.Colon ∷ in_form
    (99 ∷ []) ∷ []) ≡ Found
    (simple_form (AnnAssign (Trees.Attribute (Trees.Name (97 ∷ []) Load) (98 ∷ []) Store) (Trees.Name (99 ∷ []) Load) None false ∷ [])) []
row_27 = refl

-- x, y: int
row_28 : read_line Py311 false (in_form (120 ∷ []) ∷ Op Sign.Comma ∷ in_form (121 ∷ []) ∷ Op Sign.Colon ∷ in_form
    (105 ∷ 110 ∷ 116 ∷ []) ∷ []) ≡ NoForm
row_28 = refl

-- [a]: b
row_29 : read_line Py311 false (Op Sign.LSqb ∷ in_form (97 ∷ []) ∷ Op Sign.RSqb ∷ Op Sign.Colon ∷ in_form (98 ∷ []) ∷ []) ≡ NoForm
row_29 = refl

-- a: b: c
row_30 : read_line Py311 false (in_form (97 ∷ []) ∷ Op Sign.Colon ∷ in_form (98 ∷ []) ∷ Op Sign.Colon ∷ in_form (99 ∷ []) ∷ []) ≡ NoForm
row_30 = refl

-- a = b: c
row_31 : read_line Py311 false (in_form (97 ∷ []) ∷ Op Sign.Equal ∷ in_form (98 ∷ []) ∷ Op Sign.Colon ∷ in_form (99 ∷ []) ∷ []) ≡ NoForm
row_31 = refl

-- lambda: x
row_32 : read_line Py311 false (Word Key.Lambda ∷ Op Sign.Colon ∷ in_form (120 ∷ []) ∷ []) ≡ Found
    (simple_form (ExprOf (Trees.Lambda (Trees.arguments Trees.no_arg Trees.no_arg Trees.absent_arg Trees.no_arg Trees.no_optional
    Trees.absent_arg Trees.no_exprs) (Trees.Name (120 ∷ []) Load)) ∷ [])) []
row_32 = refl

-- x = lambda: y
row_33 : read_line Py311 false (in_form (120 ∷ []) ∷ Op Sign.Equal ∷ Word Key.Lambda ∷ Op Sign.Colon ∷ in_form (121 ∷ []) ∷ []) ≡ Found
    (simple_form (Assign ((Trees.Name (120 ∷ []) Store) ∷ [])
    (Trees.Lambda (Trees.arguments Trees.no_arg Trees.no_arg Trees.absent_arg Trees.no_arg Trees.no_optional Trees.absent_arg
    Trees.no_exprs) (Trees.Name (121 ∷ []) Load)) ∷ [])) []
row_33 = refl

-- x: lambda: y = z
row_34 : read_line Py311 false (in_form (120 ∷ []) ∷ Op Sign.Colon ∷ Word Key.Lambda ∷ Op Sign.Colon ∷ in_form (121 ∷ []) ∷ Op Sign.Equal ∷
    in_form (122 ∷ []) ∷ []) ≡ Found
    (simple_form (AnnAssign (Trees.Name (120 ∷ []) Store)
    (Trees.Lambda (Trees.arguments Trees.no_arg Trees.no_arg Trees.absent_arg Trees.no_arg Trees.no_optional Trees.absent_arg
    Trees.no_exprs) (Trees.Name (121 ∷ []) Load)) (Some (Trees.Name (122 ∷ []) Load)) true ∷ [])) []
row_34 = refl

-- print >> x, y
row_35 : read_line Py311 false (in_form (112 ∷ 114 ∷ 105 ∷ 110 ∷ 116 ∷ []) ∷ Op Sign.RightShift ∷ in_form (120 ∷ []) ∷ Op Sign.Comma ∷
    in_form (121 ∷ []) ∷ []) ≡ Found
    (simple_form (ExprOf
    (Trees.Tuple (Trees.an_expr (Trees.BinOp (Trees.Name (112 ∷ 114 ∷ 105 ∷ 110 ∷ 116 ∷ []) Load) Bin.RShift (Trees.Name (120 ∷ []) Load))
    (Trees.an_expr (Trees.Name (121 ∷ []) Load) Trees.no_exprs)) Load) ∷ [])) []
row_35 = refl

-- ;
row_63 : read_line Py311 false (Op Sign.Semi ∷ []) ≡ NoForm
row_63 = refl

-- match x: pass
row_168 : read_line Py311 false (in_form (109 ∷ 97 ∷ 116 ∷ 99 ∷ 104 ∷ []) ∷ in_form (120 ∷ []) ∷ Op Sign.Colon ∷ Word Key.Pass ∷ []) ≡
    NoForm
row_168 = refl

-- a: b = c = d
row_169 : read_line Py311 false (in_form (97 ∷ []) ∷ Op Sign.Colon ∷ in_form (98 ∷ []) ∷ Op Sign.Equal ∷ in_form (99 ∷ []) ∷ Op Sign.Equal ∷
    in_form (100 ∷ []) ∷ []) ≡ NoForm
row_169 = refl

-- x: *a
row_170 : read_line Py311 false (in_form (120 ∷ []) ∷ Op Sign.Colon ∷ Op Sign.Star ∷ in_form (97 ∷ []) ∷ []) ≡ NoForm
row_170 = refl

-- a if b else c = d
row_171 : read_line Py311 false (in_form (97 ∷ []) ∷ Word Key.If ∷ in_form (98 ∷ []) ∷ Word Key.Else ∷ in_form (99 ∷ []) ∷ Op Sign.Equal ∷
    in_form (100 ∷ []) ∷ []) ≡ NoForm
row_171 = refl

-- f() = 1
row_172 : read_line Py311 false (in_form (102 ∷ []) ∷ Op Sign.LPar ∷ Op Sign.RPar ∷ Op Sign.Equal ∷ whole 1 ∷ []) ≡ NoForm
row_172 = refl

-- None = 1
row_173 : read_line Py311 false (Word Key.None ∷ Op Sign.Equal ∷ whole 1 ∷ []) ≡ NoForm
row_173 = refl

-- a.b = c[d] = e
row_174 : read_line Py311 false (in_form (97 ∷ []) ∷ Op Sign.Dot ∷ in_form (98 ∷ []) ∷ Op Sign.Equal ∷ in_form (99 ∷ []) ∷ Op Sign.LSqb ∷
    in_form (100 ∷ []) ∷ Op Sign.RSqb ∷ Op Sign.Equal ∷ in_form (101 ∷ []) ∷ []) ≡ Found
    (simple_form (Assign ((Trees.Attribute (Trees.Name (97 ∷ []) Load) (98 ∷ []) Store) ∷
    (Trees.Subscript (Trees.Name (99 ∷ []) Load) (Trees.Name (100 ∷ []) Load) Store) ∷ []) (Trees.Name (101 ∷ []) Load) ∷ [])) []
row_174 = refl

-- a[b:c] = d
row_175 : read_line Py311 false (in_form (97 ∷ []) ∷ Op Sign.LSqb ∷ in_form (98 ∷ []) ∷ Op Sign.Colon ∷ in_form (99 ∷ []) ∷ Op Sign.RSqb ∷
    Op Sign.Equal ∷ in_form (100 ∷ []) ∷ []) ≡ Found
    (simple_form (Assign
    ((Trees.Subscript (Trees.Name (97 ∷ []) Load) (Trees.Slice (Trees.present (Trees.Name (98 ∷ []) Load))
    (Trees.present (Trees.Name (99 ∷ []) Load)) Trees.absent) Store) ∷ []) (Trees.Name (100 ∷ []) Load) ∷ [])) []
row_175 = refl

-- "x" "y"
row_176 : read_line Py311 false (Literal (Values.Str (120 ∷ []) false) ∷ Literal (Values.Str (121 ∷ []) false) ∷ []) ≡ Found
    (simple_form (ExprOf (Trees.Constant (Values.Str (120 ∷ 121 ∷ []) false)) ∷ [])) []
row_176 = refl

-- x == y
row_177 : read_line Py311 false (in_form (120 ∷ []) ∷ Op Sign.EqEqual ∷ in_form (121 ∷ []) ∷ []) ≡ Found
    (simple_form (ExprOf (Trees.Compare (Trees.Name (120 ∷ []) Load) (Is.Eq ∷ [])
    (Trees.an_expr (Trees.Name (121 ∷ []) Load) Trees.no_exprs)) ∷ [])) []
row_177 = refl

-- not x
row_178 : read_line Py311 false (Word Key.Not ∷ in_form (120 ∷ []) ∷ []) ≡ Found
    (simple_form (ExprOf (Trees.UnaryOp Un.Not (Trees.Name (120 ∷ []) Load)) ∷ [])) []
row_178 = refl

-- await x
row_179 : read_line Py311 false (Word Key.Await ∷ in_form (120 ∷ []) ∷ []) ≡ Found
    (simple_form (ExprOf (Trees.Await (Trees.Name (120 ∷ []) Load)) ∷ [])) []
row_179 = refl

-- {x: y}
row_180 : read_line Py311 false (Op Sign.LBrace ∷ in_form (120 ∷ []) ∷ Op Sign.Colon ∷ in_form (121 ∷ []) ∷ Op Sign.RBrace ∷ []) ≡ Found
    (simple_form (ExprOf (Trees.Dict (Trees.an_optional (Trees.present (Trees.Name (120 ∷ []) Load)) Trees.no_optional)
    (Trees.an_expr (Trees.Name (121 ∷ []) Load) Trees.no_exprs)) ∷ [])) []
row_180 = refl

-- {x: y}[z]: w
row_181 : read_line Py311 false (Op Sign.LBrace ∷ in_form (120 ∷ []) ∷ Op Sign.Colon ∷ in_form (121 ∷ []) ∷ Op Sign.RBrace ∷ Op Sign.LSqb ∷
    in_form (122 ∷ []) ∷ Op Sign.RSqb ∷ Op Sign.Colon ∷ in_form (119 ∷ []) ∷ []) ≡ Found
    (simple_form (AnnAssign (Trees.Subscript (Trees.Dict (Trees.an_optional (Trees.present (Trees.Name (120 ∷ []) Load)) Trees.no_optional)
    (Trees.an_expr (Trees.Name (121 ∷ []) Load) Trees.no_exprs)) (Trees.Name (122 ∷ []) Load) Store)
    (Trees.Name (119 ∷ []) Load) None false ∷ [])) []
row_181 = refl

-- x.y.z @= w
row_182 : read_line Py311 false (in_form (120 ∷ []) ∷ Op Sign.Dot ∷ in_form (121 ∷ []) ∷ Op Sign.Dot ∷ in_form (122 ∷ []) ∷ Op Sign.AtEqual
    ∷ in_form (119 ∷ []) ∷ []) ≡ Found
    (simple_form (AugAssign (Trees.Attribute (Trees.Attribute (Trees.Name (120 ∷ []) Load) (121 ∷ []) Load) (122 ∷ []) Store) Bin.MatMult
    (Trees.Name (119 ∷ []) Load) ∷ [])) []
row_182 = refl

-- x @ y
row_183 : read_line Py311 false (in_form (120 ∷ []) ∷ Op Sign.At ∷ in_form (121 ∷ []) ∷ []) ≡ Found
    (simple_form (ExprOf (Trees.BinOp (Trees.Name (120 ∷ []) Load) Bin.MatMult (Trees.Name (121 ∷ []) Load)) ∷ [])) []
row_183 = refl

-- 1: int
row_184 : read_line Py311 false (whole 1 ∷ Op Sign.Colon ∷ in_form (105 ∷ 110 ∷ 116 ∷ []) ∷ []) ≡ NoForm
row_184 = refl

-- x: int; y: str = z
row_185 : read_line Py311 false (in_form (120 ∷ []) ∷ Op Sign.Colon ∷ in_form (105 ∷ 110 ∷ 116 ∷ []) ∷ Op Sign.Semi ∷ in_form (121 ∷ []) ∷
    Op Sign.Colon ∷ in_form (115 ∷ 116 ∷ 114 ∷ []) ∷ Op Sign.Equal ∷ in_form (122 ∷ []) ∷ []) ≡ Found
    (simple_form (AnnAssign (Trees.Name (120 ∷ []) Store) (Trees.Name (105 ∷ 110 ∷ 116 ∷ []) Load) None true ∷ AnnAssign
    (Trees.Name (121 ∷ []) Store) (Trees.Name (115 ∷ 116 ∷ 114 ∷ []) Load) (Some (Trees.Name (122 ∷ []) Load)) true ∷ [])) []
row_185 = refl

-- lambda: (yield): x
row_195 : read_line Py311 false (Word Key.Lambda ∷ Op Sign.Colon ∷ Op Sign.LPar ∷ Word Key.Yield ∷ Op Sign.RPar ∷ Op Sign.Colon ∷ in_form
    (120 ∷ []) ∷ []) ≡ NoForm
row_195 = refl

-- x = *y,
row_197 : read_line Py311 false (in_form (120 ∷ []) ∷ Op Sign.Equal ∷ Op Sign.Star ∷ in_form (121 ∷ []) ∷ Op Sign.Comma ∷ []) ≡ Found
    (simple_form (Assign ((Trees.Name (120 ∷ []) Store) ∷ [])
    (Trees.Tuple (Trees.an_expr (Trees.Starred (Trees.Name (121 ∷ []) Load) Load) Trees.no_exprs) Load) ∷ [])) []
row_197 = refl

-- x = *y
row_198 : read_line Py311 false (in_form (120 ∷ []) ∷ Op Sign.Equal ∷ Op Sign.Star ∷ in_form (121 ∷ []) ∷ []) ≡ Found
    (simple_form (Assign ((Trees.Name (120 ∷ []) Store) ∷ []) (Trees.Starred (Trees.Name (121 ∷ []) Load) Load) ∷ [])) []
row_198 = refl

-- x += *y, z
row_199 : read_line Py311 false (in_form (120 ∷ []) ∷ Op Sign.PlusEqual ∷ Op Sign.Star ∷ in_form (121 ∷ []) ∷ Op Sign.Comma ∷ in_form
    (122 ∷ []) ∷ []) ≡ Found
    (simple_form (AugAssign (Trees.Name (120 ∷ []) Store) Bin.Add
    (Trees.Tuple (Trees.an_expr (Trees.Starred (Trees.Name (121 ∷ []) Load) Load)
    (Trees.an_expr (Trees.Name (122 ∷ []) Load) Trees.no_exprs)) Load) ∷ [])) []
row_199 = refl
