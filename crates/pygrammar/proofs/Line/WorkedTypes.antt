-- Worked lines with types: the reader computes their forms in both versions.
--
-- Carries: no contract; its rows are computed as it is checked.
use Rattle.std.proofs.Common.{◌≡◌, refl, [], ◌∷◌, Some, None, true, false}
use Rattle.pylex_lexeme.specs.declared.kinds.Exact.TheVariants as Sign
use Rattle.pytoken.specs.declared.keywords.Keyword.TheVariants as Key
use Rattle.pytree_node.specs.declared.operators.Operator.TheVariants as Bin
use Rattle.pytree_node.specs.declared.operators.Context.TheVariants.{Load, Store}
use Rattle.pytree_node.specs.Profiles.{plain_311 as Py311, plain_312 as Py312}
use Rattle.pytree_node.specs.Trees as Trees
use Rattle.pytree_node.specs.Values as Values
use Rattle.pytoken.specs.Terminals.{Op, Word, Ident, in_form, whole}
use Rattle.pygrammar.specs.Reader.{Found, NoForm}
use Rattle.pytree_node.specs.Trees.{TypeVar, ParamSpec, TypeVarTuple, TypeAlias, Assign, AugAssign, AnnAssign, ExprOf, Pass}
use Rattle.pygrammar.specs.Lines.{simple_form, header_form, if_header, def_header, function_head, class_head}
use Rattle.pygrammar.specs.LineReader.{read_line}

-- type X = int
row_0_312 : read_line Py312 false (in_form (116 ∷ 121 ∷ 112 ∷ 101 ∷ []) ∷ in_form (88 ∷ []) ∷ Op Sign.Equal ∷ in_form (105 ∷ 110 ∷ 116 ∷ [])
    ∷ []) ≡ Found (simple_form (TypeAlias (Trees.Name (88 ∷ []) Store) ([]) (Trees.Name (105 ∷ 110 ∷ 116 ∷ []) Load) ∷ [])) []
row_0_312 = refl

row_0_311 : read_line Py311 false (in_form (116 ∷ 121 ∷ 112 ∷ 101 ∷ []) ∷ in_form (88 ∷ []) ∷ Op Sign.Equal ∷ in_form
    (105 ∷ 110 ∷ 116 ∷ []) ∷ []) ≡ NoForm
row_0_311 = refl

-- type X[T: int, *Ts, **P] = y
row_1_312 : read_line Py312 false (in_form (116 ∷ 121 ∷ 112 ∷ 101 ∷ []) ∷ in_form (88 ∷ []) ∷ Op Sign.LSqb ∷ in_form (84 ∷ []) ∷ Op
    Sign.Colon ∷ in_form (105 ∷ 110 ∷ 116 ∷ []) ∷ Op Sign.Comma ∷ Op Sign.Star ∷ in_form (84 ∷ 115 ∷ []) ∷ Op Sign.Comma ∷ Op
    Sign.DoubleStar ∷ in_form (80 ∷ []) ∷ Op Sign.RSqb ∷ Op Sign.Equal ∷ in_form (121 ∷ []) ∷ []) ≡ Found
    (simple_form (TypeAlias (Trees.Name (88 ∷ []) Store) (TypeVar (84 ∷ []) (Some (Trees.Name (105 ∷ 110 ∷ 116 ∷ []) Load)) ∷ TypeVarTuple
    (84 ∷ 115 ∷ []) ∷ ParamSpec (80 ∷ []) ∷ []) (Trees.Name (121 ∷ []) Load) ∷ [])) []
row_1_312 = refl

row_1_311 : read_line Py311 false (in_form (116 ∷ 121 ∷ 112 ∷ 101 ∷ []) ∷ in_form (88 ∷ []) ∷ Op Sign.LSqb ∷ in_form (84 ∷ []) ∷ Op
    Sign.Colon ∷ in_form (105 ∷ 110 ∷ 116 ∷ []) ∷ Op Sign.Comma ∷ Op Sign.Star ∷ in_form (84 ∷ 115 ∷ []) ∷ Op Sign.Comma ∷ Op
    Sign.DoubleStar ∷ in_form (80 ∷ []) ∷ Op Sign.RSqb ∷ Op Sign.Equal ∷ in_form (121 ∷ []) ∷ []) ≡ NoForm
row_1_311 = refl

-- type X[T,] = y
row_2_312 : read_line Py312 false (in_form (116 ∷ 121 ∷ 112 ∷ 101 ∷ []) ∷ in_form (88 ∷ []) ∷ Op Sign.LSqb ∷ in_form (84 ∷ []) ∷ Op
    Sign.Comma ∷ Op Sign.RSqb ∷ Op Sign.Equal ∷ in_form (121 ∷ []) ∷ []) ≡ Found
    (simple_form (TypeAlias (Trees.Name (88 ∷ []) Store) (TypeVar (84 ∷ []) None ∷ []) (Trees.Name (121 ∷ []) Load) ∷ [])) []
row_2_312 = refl

row_2_311 : read_line Py311 false (in_form (116 ∷ 121 ∷ 112 ∷ 101 ∷ []) ∷ in_form (88 ∷ []) ∷ Op Sign.LSqb ∷ in_form (84 ∷ []) ∷ Op
    Sign.Comma ∷ Op Sign.RSqb ∷ Op Sign.Equal ∷ in_form (121 ∷ []) ∷ []) ≡ NoForm
row_2_311 = refl

-- type type = type
row_3_312 : read_line Py312 false (in_form (116 ∷ 121 ∷ 112 ∷ 101 ∷ []) ∷ in_form (116 ∷ 121 ∷ 112 ∷ 101 ∷ []) ∷ Op Sign.Equal ∷ in_form
    (116 ∷ 121 ∷ 112 ∷ 101 ∷ []) ∷ []) ≡ Found
    (simple_form (TypeAlias (Trees.Name (116 ∷ 121 ∷ 112 ∷ 101 ∷ []) Store) ([]) (Trees.Name (116 ∷ 121 ∷ 112 ∷ 101 ∷ []) Load) ∷ [])) []
row_3_312 = refl

row_3_311 : read_line Py311 false (in_form (116 ∷ 121 ∷ 112 ∷ 101 ∷ []) ∷ in_form (116 ∷ 121 ∷ 112 ∷ 101 ∷ []) ∷ Op Sign.Equal ∷ in_form
    (116 ∷ 121 ∷ 112 ∷ 101 ∷ []) ∷ []) ≡ NoForm
row_3_311 = refl

-- type X = 1; y
row_4_312 : read_line Py312 false (in_form (116 ∷ 121 ∷ 112 ∷ 101 ∷ []) ∷ in_form (88 ∷ []) ∷ Op Sign.Equal ∷ whole 1 ∷ Op Sign.Semi ∷
    in_form (121 ∷ []) ∷ []) ≡ Found
    (simple_form (TypeAlias (Trees.Name (88 ∷ []) Store) ([]) (Trees.Constant (Values.Int 1)) ∷ ExprOf (Trees.Name (121 ∷ []) Load) ∷ []))
    []
row_4_312 = refl

row_4_311 : read_line Py311 false (in_form (116 ∷ 121 ∷ 112 ∷ 101 ∷ []) ∷ in_form (88 ∷ []) ∷ Op Sign.Equal ∷ whole 1 ∷ Op Sign.Semi ∷
    in_form (121 ∷ []) ∷ []) ≡ NoForm
row_4_311 = refl

-- if x: type X = y
row_5_312 : read_line Py312 false (Word Key.If ∷ in_form (120 ∷ []) ∷ Op Sign.Colon ∷ in_form (116 ∷ 121 ∷ 112 ∷ 101 ∷ []) ∷ in_form
    (88 ∷ []) ∷ Op Sign.Equal ∷ in_form (121 ∷ []) ∷ []) ≡ Found (header_form (if_header (Trees.Name (120 ∷ []) Load))
    (Some (TypeAlias (Trees.Name (88 ∷ []) Store) ([]) (Trees.Name (121 ∷ []) Load) ∷ []))) []
row_5_312 = refl

row_5_311 : read_line Py311 false (Word Key.If ∷ in_form (120 ∷ []) ∷ Op Sign.Colon ∷ in_form (116 ∷ 121 ∷ 112 ∷ 101 ∷ []) ∷ in_form
    (88 ∷ []) ∷ Op Sign.Equal ∷ in_form (121 ∷ []) ∷ []) ≡ NoForm
row_5_311 = refl

-- type = 1
row_6_312 : read_line Py312 false (in_form (116 ∷ 121 ∷ 112 ∷ 101 ∷ []) ∷ Op Sign.Equal ∷ whole 1 ∷ []) ≡ Found
    (simple_form (Assign ((Trees.Name (116 ∷ 121 ∷ 112 ∷ 101 ∷ []) Store) ∷ []) (Trees.Constant (Values.Int 1)) ∷ [])) []
row_6_312 = refl

row_6_311 : read_line Py311 false (in_form (116 ∷ 121 ∷ 112 ∷ 101 ∷ []) ∷ Op Sign.Equal ∷ whole 1 ∷ []) ≡ Found
    (simple_form (Assign ((Trees.Name (116 ∷ 121 ∷ 112 ∷ 101 ∷ []) Store) ∷ []) (Trees.Constant (Values.Int 1)) ∷ [])) []
row_6_311 = refl

-- type: int
row_7_312 : read_line Py312 false (in_form (116 ∷ 121 ∷ 112 ∷ 101 ∷ []) ∷ Op Sign.Colon ∷ in_form (105 ∷ 110 ∷ 116 ∷ []) ∷ []) ≡ Found
    (simple_form (AnnAssign (Trees.Name (116 ∷ 121 ∷ 112 ∷ 101 ∷ []) Store) (Trees.Name (105 ∷ 110 ∷ 116 ∷ []) Load) None true ∷ [])) []
row_7_312 = refl

row_7_311 : read_line Py311 false (in_form (116 ∷ 121 ∷ 112 ∷ 101 ∷ []) ∷ Op Sign.Colon ∷ in_form (105 ∷ 110 ∷ 116 ∷ []) ∷ []) ≡ Found
    (simple_form (AnnAssign (Trees.Name (116 ∷ 121 ∷ 112 ∷ 101 ∷ []) Store) (Trees.Name (105 ∷ 110 ∷ 116 ∷ []) Load) None true ∷ [])) []
row_7_311 = refl

-- type(x)
row_8_312 : read_line Py312 false (in_form (116 ∷ 121 ∷ 112 ∷ 101 ∷ []) ∷ Op Sign.LPar ∷ in_form (120 ∷ []) ∷ Op Sign.RPar ∷ []) ≡ Found
    (simple_form (ExprOf (Trees.Call (Trees.Name (116 ∷ 121 ∷ 112 ∷ 101 ∷ []) Load)
    (Trees.an_expr (Trees.Name (120 ∷ []) Load) Trees.no_exprs) Trees.no_keyword) ∷ [])) []
row_8_312 = refl

row_8_311 : read_line Py311 false (in_form (116 ∷ 121 ∷ 112 ∷ 101 ∷ []) ∷ Op Sign.LPar ∷ in_form (120 ∷ []) ∷ Op Sign.RPar ∷ []) ≡ Found
    (simple_form (ExprOf (Trees.Call (Trees.Name (116 ∷ 121 ∷ 112 ∷ 101 ∷ []) Load)
    (Trees.an_expr (Trees.Name (120 ∷ []) Load) Trees.no_exprs) Trees.no_keyword) ∷ [])) []
row_8_311 = refl

-- type[x] = y
row_9_312 : read_line Py312 false (in_form (116 ∷ 121 ∷ 112 ∷ 101 ∷ []) ∷ Op Sign.LSqb ∷ in_form (120 ∷ []) ∷ Op Sign.RSqb ∷ Op Sign.Equal ∷
    in_form (121 ∷ []) ∷ []) ≡ Found
    (simple_form (Assign ((Trees.Subscript (Trees.Name (116 ∷ 121 ∷ 112 ∷ 101 ∷ []) Load) (Trees.Name (120 ∷ []) Load) Store) ∷ [])
    (Trees.Name (121 ∷ []) Load) ∷ [])) []
row_9_312 = refl

row_9_311 : read_line Py311 false (in_form (116 ∷ 121 ∷ 112 ∷ 101 ∷ []) ∷ Op Sign.LSqb ∷ in_form (120 ∷ []) ∷ Op Sign.RSqb ∷ Op Sign.Equal ∷
    in_form (121 ∷ []) ∷ []) ≡ Found
    (simple_form (Assign ((Trees.Subscript (Trees.Name (116 ∷ 121 ∷ 112 ∷ 101 ∷ []) Load) (Trees.Name (120 ∷ []) Load) Store) ∷ [])
    (Trees.Name (121 ∷ []) Load) ∷ [])) []
row_9_311 = refl

-- type += y
row_10_312 : read_line Py312 false (in_form (116 ∷ 121 ∷ 112 ∷ 101 ∷ []) ∷ Op Sign.PlusEqual ∷ in_form (121 ∷ []) ∷ []) ≡ Found
    (simple_form (AugAssign (Trees.Name (116 ∷ 121 ∷ 112 ∷ 101 ∷ []) Store) Bin.Add (Trees.Name (121 ∷ []) Load) ∷ [])) []
row_10_312 = refl

row_10_311 : read_line Py311 false (in_form (116 ∷ 121 ∷ 112 ∷ 101 ∷ []) ∷ Op Sign.PlusEqual ∷ in_form (121 ∷ []) ∷ []) ≡ Found
    (simple_form (AugAssign (Trees.Name (116 ∷ 121 ∷ 112 ∷ 101 ∷ []) Store) Bin.Add (Trees.Name (121 ∷ []) Load) ∷ [])) []
row_10_311 = refl

-- type if x else y
row_11_312 : read_line Py312 false (in_form (116 ∷ 121 ∷ 112 ∷ 101 ∷ []) ∷ Word Key.If ∷ in_form (120 ∷ []) ∷ Word Key.Else ∷ in_form
    (121 ∷ []) ∷ []) ≡ Found
    (simple_form (ExprOf (Trees.IfExp (Trees.Name (120 ∷ []) Load) (Trees.Name (116 ∷ 121 ∷ 112 ∷ 101 ∷ []) Load)
    (Trees.Name (121 ∷ []) Load)) ∷ [])) []
row_11_312 = refl

row_11_311 : read_line Py311 false (in_form (116 ∷ 121 ∷ 112 ∷ 101 ∷ []) ∷ Word Key.If ∷ in_form (120 ∷ []) ∷ Word Key.Else ∷ in_form
    (121 ∷ []) ∷ []) ≡ Found
    (simple_form (ExprOf (Trees.IfExp (Trees.Name (120 ∷ []) Load) (Trees.Name (116 ∷ 121 ∷ 112 ∷ 101 ∷ []) Load)
    (Trees.Name (121 ∷ []) Load)) ∷ [])) []
row_11_311 = refl

-- type X[] = y
row_12_312 : read_line Py312 false (in_form (116 ∷ 121 ∷ 112 ∷ 101 ∷ []) ∷ in_form (88 ∷ []) ∷ Op Sign.LSqb ∷ Op Sign.RSqb ∷ Op Sign.Equal ∷
    in_form (121 ∷ []) ∷ []) ≡ NoForm
row_12_312 = refl

row_12_311 : read_line Py311 false (in_form (116 ∷ 121 ∷ 112 ∷ 101 ∷ []) ∷ in_form (88 ∷ []) ∷ Op Sign.LSqb ∷ Op Sign.RSqb ∷ Op Sign.Equal ∷
    in_form (121 ∷ []) ∷ []) ≡ NoForm
row_12_311 = refl

-- type X[,] = y
row_13_312 : read_line Py312 false (in_form (116 ∷ 121 ∷ 112 ∷ 101 ∷ []) ∷ in_form (88 ∷ []) ∷ Op Sign.LSqb ∷ Op Sign.Comma ∷ Op Sign.RSqb ∷
    Op Sign.Equal ∷ in_form (121 ∷ []) ∷ []) ≡ NoForm
row_13_312 = refl

row_13_311 : read_line Py311 false (in_form (116 ∷ 121 ∷ 112 ∷ 101 ∷ []) ∷ in_form (88 ∷ []) ∷ Op Sign.LSqb ∷ Op Sign.Comma ∷ Op Sign.RSqb ∷
    Op Sign.Equal ∷ in_form (121 ∷ []) ∷ []) ≡ NoForm
row_13_311 = refl

-- type X[T = int] = y
row_14_312 : read_line Py312 false (in_form (116 ∷ 121 ∷ 112 ∷ 101 ∷ []) ∷ in_form (88 ∷ []) ∷ Op Sign.LSqb ∷ in_form (84 ∷ []) ∷ Op
    Sign.Equal ∷ in_form (105 ∷ 110 ∷ 116 ∷ []) ∷ Op Sign.RSqb ∷ Op Sign.Equal ∷ in_form (121 ∷ []) ∷ []) ≡ NoForm
row_14_312 = refl

row_14_311 : read_line Py311 false (in_form (116 ∷ 121 ∷ 112 ∷ 101 ∷ []) ∷ in_form (88 ∷ []) ∷ Op Sign.LSqb ∷ in_form (84 ∷ []) ∷ Op
    Sign.Equal ∷ in_form (105 ∷ 110 ∷ 116 ∷ []) ∷ Op Sign.RSqb ∷ Op Sign.Equal ∷ in_form (121 ∷ []) ∷ []) ≡ NoForm
row_14_311 = refl

-- type X[*T: int] = y
row_15_312 : read_line Py312 false (in_form (116 ∷ 121 ∷ 112 ∷ 101 ∷ []) ∷ in_form (88 ∷ []) ∷ Op Sign.LSqb ∷ Op Sign.Star ∷ in_form
    (84 ∷ []) ∷ Op Sign.Colon ∷ in_form (105 ∷ 110 ∷ 116 ∷ []) ∷ Op Sign.RSqb ∷ Op Sign.Equal ∷ in_form (121 ∷ []) ∷ []) ≡ NoForm
row_15_312 = refl

row_15_311 : read_line Py311 false (in_form (116 ∷ 121 ∷ 112 ∷ 101 ∷ []) ∷ in_form (88 ∷ []) ∷ Op Sign.LSqb ∷ Op Sign.Star ∷ in_form
    (84 ∷ []) ∷ Op Sign.Colon ∷ in_form (105 ∷ 110 ∷ 116 ∷ []) ∷ Op Sign.RSqb ∷ Op Sign.Equal ∷ in_form (121 ∷ []) ∷ []) ≡ NoForm
row_15_311 = refl

-- type X[T: yield] = y
row_16_312 : read_line Py312 false (in_form (116 ∷ 121 ∷ 112 ∷ 101 ∷ []) ∷ in_form (88 ∷ []) ∷ Op Sign.LSqb ∷ in_form (84 ∷ []) ∷ Op
    Sign.Colon ∷ Word Key.Yield ∷ Op Sign.RSqb ∷ Op Sign.Equal ∷ in_form (121 ∷ []) ∷ []) ≡ NoForm
row_16_312 = refl

row_16_311 : read_line Py311 false (in_form (116 ∷ 121 ∷ 112 ∷ 101 ∷ []) ∷ in_form (88 ∷ []) ∷ Op Sign.LSqb ∷ in_form (84 ∷ []) ∷ Op
    Sign.Colon ∷ Word Key.Yield ∷ Op Sign.RSqb ∷ Op Sign.Equal ∷ in_form (121 ∷ []) ∷ []) ≡ NoForm
row_16_311 = refl

-- type X = yield
row_17_312 : read_line Py312 false (in_form (116 ∷ 121 ∷ 112 ∷ 101 ∷ []) ∷ in_form (88 ∷ []) ∷ Op Sign.Equal ∷ Word Key.Yield ∷ []) ≡ NoForm
row_17_312 = refl

row_17_311 : read_line Py311 false (in_form (116 ∷ 121 ∷ 112 ∷ 101 ∷ []) ∷ in_form (88 ∷ []) ∷ Op Sign.Equal ∷ Word Key.Yield ∷ []) ≡ NoForm
row_17_311 = refl

-- type X = a, b
row_18_312 : read_line Py312 false (in_form (116 ∷ 121 ∷ 112 ∷ 101 ∷ []) ∷ in_form (88 ∷ []) ∷ Op Sign.Equal ∷ in_form (97 ∷ []) ∷ Op
    Sign.Comma ∷ in_form (98 ∷ []) ∷ []) ≡ NoForm
row_18_312 = refl

row_18_311 : read_line Py311 false (in_form (116 ∷ 121 ∷ 112 ∷ 101 ∷ []) ∷ in_form (88 ∷ []) ∷ Op Sign.Equal ∷ in_form (97 ∷ []) ∷ Op
    Sign.Comma ∷ in_form (98 ∷ []) ∷ []) ≡ NoForm
row_18_311 = refl

-- type X = *a
row_19_312 : read_line Py312 false (in_form (116 ∷ 121 ∷ 112 ∷ 101 ∷ []) ∷ in_form (88 ∷ []) ∷ Op Sign.Equal ∷ Op Sign.Star ∷ in_form
    (97 ∷ []) ∷ []) ≡ NoForm
row_19_312 = refl

row_19_311 : read_line Py311 false (in_form (116 ∷ 121 ∷ 112 ∷ 101 ∷ []) ∷ in_form (88 ∷ []) ∷ Op Sign.Equal ∷ Op Sign.Star ∷ in_form
    (97 ∷ []) ∷ []) ≡ NoForm
row_19_311 = refl

-- type X = a = b
row_20_312 : read_line Py312 false (in_form (116 ∷ 121 ∷ 112 ∷ 101 ∷ []) ∷ in_form (88 ∷ []) ∷ Op Sign.Equal ∷ in_form (97 ∷ []) ∷ Op
    Sign.Equal ∷ in_form (98 ∷ []) ∷ []) ≡ NoForm
row_20_312 = refl

row_20_311 : read_line Py311 false (in_form (116 ∷ 121 ∷ 112 ∷ 101 ∷ []) ∷ in_form (88 ∷ []) ∷ Op Sign.Equal ∷ in_form (97 ∷ []) ∷ Op
    Sign.Equal ∷ in_form (98 ∷ []) ∷ []) ≡ NoForm
row_20_311 = refl

-- type X
row_21_312 : read_line Py312 false (in_form (116 ∷ 121 ∷ 112 ∷ 101 ∷ []) ∷ in_form (88 ∷ []) ∷ []) ≡ NoForm
row_21_312 = refl

row_21_311 : read_line Py311 false (in_form (116 ∷ 121 ∷ 112 ∷ 101 ∷ []) ∷ in_form (88 ∷ []) ∷ []) ≡ NoForm
row_21_311 = refl

-- type X[T]: int
row_22_312 : read_line Py312 false (in_form (116 ∷ 121 ∷ 112 ∷ 101 ∷ []) ∷ in_form (88 ∷ []) ∷ Op Sign.LSqb ∷ in_form (84 ∷ []) ∷ Op
    Sign.RSqb ∷ Op Sign.Colon ∷ in_form (105 ∷ 110 ∷ 116 ∷ []) ∷ []) ≡ NoForm
row_22_312 = refl

row_22_311 : read_line Py311 false (in_form (116 ∷ 121 ∷ 112 ∷ 101 ∷ []) ∷ in_form (88 ∷ []) ∷ Op Sign.LSqb ∷ in_form (84 ∷ []) ∷ Op
    Sign.RSqb ∷ Op Sign.Colon ∷ in_form (105 ∷ 110 ∷ 116 ∷ []) ∷ []) ≡ NoForm
row_22_311 = refl

-- type x.y = z
row_23_312 : read_line Py312 false (in_form (116 ∷ 121 ∷ 112 ∷ 101 ∷ []) ∷ in_form (120 ∷ []) ∷ Op Sign.Dot ∷ in_form (121 ∷ []) ∷ Op
    Sign.Equal ∷ in_form (122 ∷ []) ∷ []) ≡ NoForm
row_23_312 = refl

row_23_311 : read_line Py311 false (in_form (116 ∷ 121 ∷ 112 ∷ 101 ∷ []) ∷ in_form (120 ∷ []) ∷ Op Sign.Dot ∷ in_form (121 ∷ []) ∷ Op
    Sign.Equal ∷ in_form (122 ∷ []) ∷ []) ≡ NoForm
row_23_311 = refl

-- types X = y
row_24_312 : read_line Py312 false (in_form (116 ∷ 121 ∷ 112 ∷ 101 ∷ 115 ∷ []) ∷ in_form (88 ∷ []) ∷ Op Sign.Equal ∷ in_form
    (121 ∷ []) ∷ []) ≡ NoForm
row_24_312 = refl

row_24_311 : read_line Py311 false (in_form (116 ∷ 121 ∷ 112 ∷ 101 ∷ 115 ∷ []) ∷ in_form (88 ∷ []) ∷ Op Sign.Equal ∷ in_form
    (121 ∷ []) ∷ []) ≡ NoForm
row_24_311 = refl

-- def f[](): pass
row_25_312 : read_line Py312 false (Word Key.Def ∷ in_form (102 ∷ []) ∷ Op Sign.LSqb ∷ Op Sign.RSqb ∷ Op Sign.LPar ∷ Op Sign.RPar ∷ Op
    Sign.Colon ∷ Word Key.Pass ∷ []) ≡ NoForm
row_25_312 = refl

row_25_311 : read_line Py311 false (Word Key.Def ∷ in_form (102 ∷ []) ∷ Op Sign.LSqb ∷ Op Sign.RSqb ∷ Op Sign.LPar ∷ Op Sign.RPar ∷ Op
    Sign.Colon ∷ Word Key.Pass ∷ []) ≡ NoForm
row_25_311 = refl

-- def f[T]: pass
row_26_312 : read_line Py312 false (Word Key.Def ∷ in_form (102 ∷ []) ∷ Op Sign.LSqb ∷ in_form (84 ∷ []) ∷ Op Sign.RSqb ∷ Op Sign.Colon ∷
    Word Key.Pass ∷ []) ≡ NoForm
row_26_312 = refl

row_26_311 : read_line Py311 false (Word Key.Def ∷ in_form (102 ∷ []) ∷ Op Sign.LSqb ∷ in_form (84 ∷ []) ∷ Op Sign.RSqb ∷ Op Sign.Colon ∷
    Word Key.Pass ∷ []) ≡ NoForm
row_26_311 = refl

-- def f[T](a): pass
row_27_312 : read_line Py312 false (Word Key.Def ∷ in_form (102 ∷ []) ∷ Op Sign.LSqb ∷ in_form (84 ∷ []) ∷ Op Sign.RSqb ∷ Op Sign.LPar ∷
    in_form (97 ∷ []) ∷ Op Sign.RPar ∷ Op Sign.Colon ∷ Word Key.Pass ∷ []) ≡ Found
    (header_form (def_header (function_head false (102 ∷ []) (TypeVar (84 ∷ []) None ∷ [])
    (Trees.arguments Trees.no_arg (Trees.an_arg (Trees.arg (97 ∷ []) Trees.absent) Trees.no_arg) Trees.absent_arg Trees.no_arg
    Trees.no_optional Trees.absent_arg Trees.no_exprs) None)) (Some (Pass ∷ []))) []
row_27_312 = refl

row_27_311 : read_line Py311 false (Word Key.Def ∷ in_form (102 ∷ []) ∷ Op Sign.LSqb ∷ in_form (84 ∷ []) ∷ Op Sign.RSqb ∷ Op Sign.LPar ∷
    in_form (97 ∷ []) ∷ Op Sign.RPar ∷ Op Sign.Colon ∷ Word Key.Pass ∷ []) ≡ NoForm
row_27_311 = refl

-- def f[T: int, **P](a) -> T:
row_28_312 : read_line Py312 false (Word Key.Def ∷ in_form (102 ∷ []) ∷ Op Sign.LSqb ∷ in_form (84 ∷ []) ∷ Op Sign.Colon ∷ in_form
    (105 ∷ 110 ∷ 116 ∷ []) ∷ Op Sign.Comma ∷ Op Sign.DoubleStar ∷ in_form (80 ∷ []) ∷ Op Sign.RSqb ∷ Op Sign.LPar ∷ in_form (97 ∷ []) ∷ Op
    Sign.RPar ∷ Op Sign.RArrow ∷ in_form (84 ∷ []) ∷ Op Sign.Colon ∷ []) ≡ Found
    (header_form (def_header (function_head false (102 ∷ []) (TypeVar (84 ∷ []) (Some (Trees.Name (105 ∷ 110 ∷ 116 ∷ []) Load)) ∷ ParamSpec
    (80 ∷ []) ∷ []) (Trees.arguments Trees.no_arg (Trees.an_arg (Trees.arg (97 ∷ []) Trees.absent) Trees.no_arg) Trees.absent_arg
    Trees.no_arg Trees.no_optional Trees.absent_arg Trees.no_exprs) (Some (Trees.Name (84 ∷ []) Load)))) None) []
row_28_312 = refl

row_28_311 : read_line Py311 false (Word Key.Def ∷ in_form (102 ∷ []) ∷ Op Sign.LSqb ∷ in_form (84 ∷ []) ∷ Op Sign.Colon ∷ in_form
    (105 ∷ 110 ∷ 116 ∷ []) ∷ Op Sign.Comma ∷ Op Sign.DoubleStar ∷ in_form (80 ∷ []) ∷ Op Sign.RSqb ∷ Op Sign.LPar ∷ in_form (97 ∷ []) ∷ Op
    Sign.RPar ∷ Op Sign.RArrow ∷ in_form (84 ∷ []) ∷ Op Sign.Colon ∷ []) ≡ NoForm
row_28_311 = refl

-- async def f[*Ts,](): pass
row_29_312 : read_line Py312 false (Word Key.Async ∷ Word Key.Def ∷ in_form (102 ∷ []) ∷ Op Sign.LSqb ∷ Op Sign.Star ∷ in_form
    (84 ∷ 115 ∷ []) ∷ Op Sign.Comma ∷ Op Sign.RSqb ∷ Op Sign.LPar ∷ Op Sign.RPar ∷ Op Sign.Colon ∷ Word Key.Pass ∷ []) ≡ Found
    (header_form (def_header (function_head true (102 ∷ []) (TypeVarTuple (84 ∷ 115 ∷ []) ∷ [])
    (Trees.arguments Trees.no_arg Trees.no_arg Trees.absent_arg Trees.no_arg Trees.no_optional Trees.absent_arg Trees.no_exprs) None))
    (Some (Pass ∷ []))) []
row_29_312 = refl

row_29_311 : read_line Py311 false (Word Key.Async ∷ Word Key.Def ∷ in_form (102 ∷ []) ∷ Op Sign.LSqb ∷ Op Sign.Star ∷ in_form
    (84 ∷ 115 ∷ []) ∷ Op Sign.Comma ∷ Op Sign.RSqb ∷ Op Sign.LPar ∷ Op Sign.RPar ∷ Op Sign.Colon ∷ Word Key.Pass ∷ []) ≡ NoForm
row_29_311 = refl

-- class C[T]: pass
row_30_312 : read_line Py312 false (Word Key.Class ∷ in_form (67 ∷ []) ∷ Op Sign.LSqb ∷ in_form (84 ∷ []) ∷ Op Sign.RSqb ∷ Op Sign.Colon ∷
    Word Key.Pass ∷ []) ≡ Found
    (header_form (def_header (class_head (67 ∷ []) (TypeVar (84 ∷ []) None ∷ []) ([]) Trees.no_keyword)) (Some (Pass ∷ []))) []
row_30_312 = refl

row_30_311 : read_line Py311 false (Word Key.Class ∷ in_form (67 ∷ []) ∷ Op Sign.LSqb ∷ in_form (84 ∷ []) ∷ Op Sign.RSqb ∷ Op Sign.Colon ∷
    Word Key.Pass ∷ []) ≡ NoForm
row_30_311 = refl

-- class C[T](B): pass
row_31_312 : read_line Py312 false (Word Key.Class ∷ in_form (67 ∷ []) ∷ Op Sign.LSqb ∷ in_form (84 ∷ []) ∷ Op Sign.RSqb ∷ Op Sign.LPar ∷
    in_form (66 ∷ []) ∷ Op Sign.RPar ∷ Op Sign.Colon ∷ Word Key.Pass ∷ []) ≡ Found
    (header_form (def_header (class_head (67 ∷ []) (TypeVar (84 ∷ []) None ∷ []) ((Trees.Name (66 ∷ []) Load) ∷ []) Trees.no_keyword))
    (Some (Pass ∷ []))) []
row_31_312 = refl

row_31_311 : read_line Py311 false (Word Key.Class ∷ in_form (67 ∷ []) ∷ Op Sign.LSqb ∷ in_form (84 ∷ []) ∷ Op Sign.RSqb ∷ Op Sign.LPar ∷
    in_form (66 ∷ []) ∷ Op Sign.RPar ∷ Op Sign.Colon ∷ Word Key.Pass ∷ []) ≡ NoForm
row_31_311 = refl

-- class C[T]():
row_32_312 : read_line Py312 false (Word Key.Class ∷ in_form (67 ∷ []) ∷ Op Sign.LSqb ∷ in_form (84 ∷ []) ∷ Op Sign.RSqb ∷ Op Sign.LPar ∷ Op
    Sign.RPar ∷ Op Sign.Colon ∷ []) ≡ Found
    (header_form (def_header (class_head (67 ∷ []) (TypeVar (84 ∷ []) None ∷ []) ([]) Trees.no_keyword)) None) []
row_32_312 = refl

row_32_311 : read_line Py311 false (Word Key.Class ∷ in_form (67 ∷ []) ∷ Op Sign.LSqb ∷ in_form (84 ∷ []) ∷ Op Sign.RSqb ∷ Op Sign.LPar ∷ Op
    Sign.RPar ∷ Op Sign.Colon ∷ []) ≡ NoForm
row_32_311 = refl

-- class C[]: pass
row_33_312 : read_line Py312 false (Word Key.Class ∷ in_form (67 ∷ []) ∷ Op Sign.LSqb ∷ Op Sign.RSqb ∷ Op Sign.Colon ∷ Word Key.Pass ∷ []) ≡
    NoForm
row_33_312 = refl

row_33_311 : read_line Py311 false (Word Key.Class ∷ in_form (67 ∷ []) ∷ Op Sign.LSqb ∷ Op Sign.RSqb ∷ Op Sign.Colon ∷ Word Key.Pass ∷ []) ≡
    NoForm
row_33_311 = refl

-- class C(B)[T]: pass
row_34_312 : read_line Py312 false (Word Key.Class ∷ in_form (67 ∷ []) ∷ Op Sign.LPar ∷ in_form (66 ∷ []) ∷ Op Sign.RPar ∷ Op Sign.LSqb ∷
    in_form (84 ∷ []) ∷ Op Sign.RSqb ∷ Op Sign.Colon ∷ Word Key.Pass ∷ []) ≡ NoForm
row_34_312 = refl

row_34_311 : read_line Py311 false (Word Key.Class ∷ in_form (67 ∷ []) ∷ Op Sign.LPar ∷ in_form (66 ∷ []) ∷ Op Sign.RPar ∷ Op Sign.LSqb ∷
    in_form (84 ∷ []) ∷ Op Sign.RSqb ∷ Op Sign.Colon ∷ Word Key.Pass ∷ []) ≡ NoForm
row_34_311 = refl

-- \uff54ype X = y: its form is `type`, its spelling isn't
row_35_312 : read_line Py312 false (Ident (record { spelling = 65364 ∷ 121 ∷ 112 ∷ 101 ∷ []; form = 116 ∷ 121 ∷ 112 ∷ 101 ∷ [] }) ∷ in_form
    (88 ∷ []) ∷ Op Sign.Equal ∷ in_form (121 ∷ []) ∷ []) ≡ NoForm
row_35_312 = refl

row_35_311 : read_line Py311 false (Ident (record { spelling = 65364 ∷ 121 ∷ 112 ∷ 101 ∷ []; form = 116 ∷ 121 ∷ 112 ∷ 101 ∷ [] }) ∷ in_form
    (88 ∷ []) ∷ Op Sign.Equal ∷ in_form (121 ∷ []) ∷ []) ≡ NoForm
row_35_311 = refl

-- \uff54ype = y
row_36_312 : read_line Py312 false (Ident (record { spelling = 65364 ∷ 121 ∷ 112 ∷ 101 ∷ []; form = 116 ∷ 121 ∷ 112 ∷ 101 ∷ [] }) ∷ Op
    Sign.Equal ∷ in_form (121 ∷ []) ∷ []) ≡ Found
    (simple_form (Assign ((Trees.Name (116 ∷ 121 ∷ 112 ∷ 101 ∷ []) Store) ∷ []) (Trees.Name (121 ∷ []) Load) ∷ [])) []
row_36_312 = refl

row_36_311 : read_line Py311 false (Ident (record { spelling = 65364 ∷ 121 ∷ 112 ∷ 101 ∷ []; form = 116 ∷ 121 ∷ 112 ∷ 101 ∷ [] }) ∷ Op
    Sign.Equal ∷ in_form (121 ∷ []) ∷ []) ≡ Found
    (simple_form (Assign ((Trees.Name (116 ∷ 121 ∷ 112 ∷ 101 ∷ []) Store) ∷ []) (Trees.Name (121 ∷ []) Load) ∷ [])) []
row_36_311 = refl

-- type \uff38 = y
row_37_312 : read_line Py312 false (in_form (116 ∷ 121 ∷ 112 ∷ 101 ∷ []) ∷ Ident (record { spelling = 65336 ∷ []; form = 88 ∷ [] }) ∷ Op
    Sign.Equal ∷ in_form (121 ∷ []) ∷ []) ≡ Found
    (simple_form (TypeAlias (Trees.Name (88 ∷ []) Store) ([]) (Trees.Name (121 ∷ []) Load) ∷ [])) []
row_37_312 = refl

row_37_311 : read_line Py311 false (in_form (116 ∷ 121 ∷ 112 ∷ 101 ∷ []) ∷ Ident (record { spelling = 65336 ∷ []; form = 88 ∷ [] }) ∷ Op
    Sign.Equal ∷ in_form (121 ∷ []) ∷ []) ≡ NoForm
row_37_311 = refl
