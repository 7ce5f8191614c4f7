-- Lists of terminals drawn at random that begin with no keyword of a statement: the reader computes their forms, or
-- that they have none.
--
-- Carries: no contract; its rows are computed as it is checked.
use Rattle.std.proofs.Common.{◌≡◌, refl, [], ◌∷◌, Some, None, true, false}
use Rattle.pylex_lexeme.specs.declared.kinds.Exact.TheVariants as Sign
use Rattle.pytoken.specs.declared.keywords.Keyword.TheVariants as Key
use Rattle.pytree_node.specs.declared.operators.Operator.TheVariants as Bin
use Rattle.pytree_node.specs.declared.operators.Context.TheVariants.{Load, Store}
use Rattle.pytree_node.specs.Profiles.{plain_311 as Py311}
use Rattle.pytree_node.specs.Trees as Trees
use Rattle.pytree_node.specs.Values as Values
use Rattle.pytoken.specs.Terminals.{Op, Word, in_form, whole, Literal}
use Rattle.pygrammar.specs.Reader.{Found, NoForm}
use Rattle.pytree_node.specs.Trees.{AnnAssign, ExprOf, Pass, Assign, AugAssign}
use Rattle.pygrammar.specs.Lines.{simple_form}
use Rattle.pygrammar.specs.LineReader.{read_line}
use Rattle.pytree_node.specs.declared.operators.Comparison.TheVariants as Is
use Rattle.pytree_node.specs.declared.operators.UnaryOperator.TheVariants as Un

-- ( ) += 1
case_2 : read_line Py311 false (Op Sign.LPar ∷ Op Sign.RPar ∷ Op Sign.PlusEqual ∷ whole 1 ∷ []) ≡ NoForm
case_2 = refl

-- x ; pass
case_5 : read_line Py311 false (in_form (120 ∷ []) ∷ Op Sign.Semi ∷ Word Key.Pass ∷ []) ≡ Found
    (simple_form (ExprOf (Trees.Name (120 ∷ []) Load) ∷ Pass ∷ [])) []
case_5 = refl

-- a + b
case_7 : read_line Py311 false (in_form (97 ∷ []) ∷ Op Sign.Plus ∷ in_form (98 ∷ []) ∷ []) ≡ Found
    (simple_form (ExprOf (Trees.BinOp (Trees.Name (97 ∷ []) Load) Bin.Add (Trees.Name (98 ∷ []) Load)) ∷ [])) []
case_7 = refl

-- a , = : b :
case_8 : read_line Py311 false (in_form (97 ∷ []) ∷ Op Sign.Comma ∷ Op Sign.Equal ∷ Op Sign.Colon ∷ in_form (98 ∷ []) ∷ Op
    Sign.Colon ∷ []) ≡ NoForm
case_8 = refl

-- : from . import
case_13 : read_line Py311 false (Op Sign.Colon ∷ Word Key.From ∷ Op Sign.Dot ∷ Word Key.Import ∷ []) ≡ NoForm
case_13 = refl

-- ) return a , * b
case_14 : read_line Py311 false (Op Sign.RPar ∷ Word Key.Return ∷ in_form (97 ∷ []) ∷ Op Sign.Comma ∷ Op Sign.Star ∷ in_form
    (98 ∷ []) ∷ []) ≡ NoForm
case_14 = refl

-- x = ( a ) ( b ) : pass
case_16 : read_line Py311 false (in_form (120 ∷ []) ∷ Op Sign.Equal ∷ Op Sign.LPar ∷ in_form (97 ∷ []) ∷ Op Sign.RPar ∷ Op Sign.LPar ∷
    in_form (98 ∷ []) ∷ Op Sign.RPar ∷ Op Sign.Colon ∷ Word Key.Pass ∷ []) ≡ NoForm
case_16 = refl

-- * a : pass
case_18 : read_line Py311 false (Op Sign.Star ∷ in_form (97 ∷ []) ∷ Op Sign.Colon ∷ Word Key.Pass ∷ []) ≡ NoForm
case_18 = refl

-- x : with pass y
case_24 : read_line Py311 false (in_form (120 ∷ []) ∷ Op Sign.Colon ∷ Word Key.With ∷ Word Key.Pass ∷ in_form (121 ∷ []) ∷ []) ≡ NoForm
case_24 = refl

-- ) ( x ) = 1
case_25 : read_line Py311 false (Op Sign.RPar ∷ Op Sign.LPar ∷ in_form (120 ∷ []) ∷ Op Sign.RPar ∷ Op Sign.Equal ∷ whole 1 ∷ []) ≡ NoForm
case_25 = refl

-- d async : y
case_30 : read_line Py311 false (in_form (100 ∷ []) ∷ Word Key.Async ∷ Op Sign.Colon ∷ in_form (121 ∷ []) ∷ []) ≡ NoForm
case_30 = refl

-- d x : lambda : y = z
case_36 : read_line Py311 false (in_form (100 ∷ []) ∷ in_form (120 ∷ []) ∷ Op Sign.Colon ∷ Word Key.Lambda ∷ Op Sign.Colon ∷ in_form
    (121 ∷ []) ∷ Op Sign.Equal ∷ in_form (122 ∷ []) ∷ []) ≡ NoForm
case_36 = refl

-- 1
case_39 : read_line Py311 false (whole 1 ∷ []) ≡ Found (simple_form (ExprOf (Trees.Constant (Values.Int 1)) ∷ [])) []
case_39 = refl

-- x += * y , ,
case_42 : read_line Py311 false (in_form (120 ∷ []) ∷ Op Sign.PlusEqual ∷ Op Sign.Star ∷ in_form (121 ∷ []) ∷ Op Sign.Comma ∷ Op
    Sign.Comma ∷ []) ≡ NoForm
case_42 = refl

-- a [ b : c ] =
case_44 : read_line Py311 false (in_form (97 ∷ []) ∷ Op Sign.LSqb ∷ in_form (98 ∷ []) ∷ Op Sign.Colon ∷ in_form (99 ∷ []) ∷ Op Sign.RSqb ∷
    Op Sign.Equal ∷ []) ≡ NoForm
case_44 = refl

-- x . y . @= w
case_46 : read_line Py311 false (in_form (120 ∷ []) ∷ Op Sign.Dot ∷ in_form (121 ∷ []) ∷ Op Sign.Dot ∷ Op Sign.AtEqual ∷ in_form
    (119 ∷ []) ∷ []) ≡ NoForm
case_46 = refl

-- x += : y @ , z
case_47 : read_line Py311 false (in_form (120 ∷ []) ∷ Op Sign.PlusEqual ∷ Op Sign.Colon ∷ in_form (121 ∷ []) ∷ Op Sign.At ∷ Op Sign.Comma ∷
    in_form (122 ∷ []) ∷ []) ≡ NoForm
case_47 = refl

-- await x )
case_48 : read_line Py311 false (Word Key.Await ∷ in_form (120 ∷ []) ∷ Op Sign.RPar ∷ []) ≡ NoForm
case_48 = refl

-- x = lambda : @ y z
case_49 : read_line Py311 false (in_form (120 ∷ []) ∷ Op Sign.Equal ∷ Word Key.Lambda ∷ Op Sign.Colon ∷ Op Sign.At ∷ in_form (121 ∷ []) ∷
    in_form (122 ∷ []) ∷ []) ≡ NoForm
case_49 = refl

-- :
case_51 : read_line Py311 false (Op Sign.Colon ∷ []) ≡ NoForm
case_51 = refl

-- . C assert a )
case_54 : read_line Py311 false (Op Sign.Dot ∷ in_form (67 ∷ []) ∷ Word Key.Assert ∷ in_form (97 ∷ []) ∷ Op Sign.RPar ∷ []) ≡ NoForm
case_54 = refl

-- = x ; y ( a if b else c ) d : d
case_58 : read_line Py311 false (Op Sign.Equal ∷ in_form (120 ∷ []) ∷ Op Sign.Semi ∷ in_form (121 ∷ []) ∷ Op Sign.LPar ∷ in_form (97 ∷ []) ∷
    Word Key.If ∷ in_form (98 ∷ []) ∷ Word Key.Else ∷ in_form (99 ∷ []) ∷ Op Sign.RPar ∷ in_form (100 ∷ []) ∷ Op Sign.Colon ∷ in_form
    (100 ∷ []) ∷ []) ≡ NoForm
case_58 = refl

-- a . b **= yield c :
case_59 : read_line Py311 false (in_form (97 ∷ []) ∷ Op Sign.Dot ∷ in_form (98 ∷ []) ∷ Op Sign.DoubleStarEqual ∷ Word Key.Yield ∷ in_form
    (99 ∷ []) ∷ Op Sign.Colon ∷ []) ≡ NoForm
case_59 = refl

-- . ( a : global , ( b ) : pass
case_60 : read_line Py311 false (Op Sign.Dot ∷ Op Sign.LPar ∷ in_form (97 ∷ []) ∷ Op Sign.Colon ∷ Word Key.Global ∷ Op Sign.Comma ∷ Op
    Sign.LPar ∷ in_form (98 ∷ []) ∷ Op Sign.RPar ∷ Op Sign.Colon ∷ Word Key.Pass ∷ []) ≡ NoForm
case_60 = refl

-- x lambda : y = z
case_65 : read_line Py311 false (in_form (120 ∷ []) ∷ Word Key.Lambda ∷ Op Sign.Colon ∷ in_form (121 ∷ []) ∷ Op Sign.Equal ∷ in_form
    (122 ∷ []) ∷ []) ≡ NoForm
case_65 = refl

-- a ( b , c as d , ) (
case_69 : read_line Py311 false (in_form (97 ∷ []) ∷ Op Sign.LPar ∷ in_form (98 ∷ []) ∷ Op Sign.Comma ∷ in_form (99 ∷ []) ∷ Word Key.As ∷
    in_form (100 ∷ []) ∷ Op Sign.Comma ∷ Op Sign.RPar ∷ Op Sign.LPar ∷ []) ≡ NoForm
case_69 = refl

-- x , d , y
case_71 : read_line Py311 false (in_form (120 ∷ []) ∷ Op Sign.Comma ∷ in_form (100 ∷ []) ∷ Op Sign.Comma ∷ in_form (121 ∷ []) ∷ []) ≡ Found
    (simple_form (ExprOf
    (Trees.Tuple (Trees.an_expr (Trees.Name (120 ∷ []) Load)
    (Trees.an_expr (Trees.Name (100 ∷ []) Load) (Trees.an_expr (Trees.Name (121 ∷ []) Load) Trees.no_exprs))) Load) ∷ [])) []
case_71 = refl

-- ( a . b ) d
case_72 : read_line Py311 false (Op Sign.LPar ∷ in_form (97 ∷ []) ∷ Op Sign.Dot ∷ in_form (98 ∷ []) ∷ Op Sign.RPar ∷ in_form
    (100 ∷ []) ∷ []) ≡ NoForm
case_72 = refl

-- lambda ( yield ) : x
case_73 : read_line Py311 false (Word Key.Lambda ∷ Op Sign.LPar ∷ Word Key.Yield ∷ Op Sign.RPar ∷ Op Sign.Colon ∷ in_form (120 ∷ []) ∷ []) ≡
    NoForm
case_73 = refl

-- x : lambda : y b : c
case_74 : read_line Py311 false (in_form (120 ∷ []) ∷ Op Sign.Colon ∷ Word Key.Lambda ∷ Op Sign.Colon ∷ in_form (121 ∷ []) ∷ in_form
    (98 ∷ []) ∷ Op Sign.Colon ∷ in_form (99 ∷ []) ∷ []) ≡ NoForm
case_74 = refl

-- 1 :
case_75 : read_line Py311 false (whole 1 ∷ Op Sign.Colon ∷ []) ≡ NoForm
case_75 = refl

-- x
case_76 : read_line Py311 false (in_form (120 ∷ []) ∷ []) ≡ Found (simple_form (ExprOf (Trees.Name (120 ∷ []) Load) ∷ [])) []
case_76 = refl

-- : * with a
case_77 : read_line Py311 false (Op Sign.Colon ∷ Op Sign.Star ∷ Word Key.With ∷ in_form (97 ∷ []) ∷ []) ≡ NoForm
case_77 = refl

-- x del a c b
case_78 : read_line Py311 false (in_form (120 ∷ []) ∷ Word Key.Del ∷ in_form (97 ∷ []) ∷ in_form (99 ∷ []) ∷ in_form (98 ∷ []) ∷ []) ≡
    NoForm
case_78 = refl

-- ** with ( lambda : a ) : b
case_81 : read_line Py311 false (Op Sign.DoubleStar ∷ Word Key.With ∷ Op Sign.LPar ∷ Word Key.Lambda ∷ Op Sign.Colon ∷ in_form (97 ∷ []) ∷
    Op Sign.RPar ∷ Op Sign.Colon ∷ in_form (98 ∷ []) ∷ []) ≡ NoForm
case_81 = refl

-- x as = y
case_85 : read_line Py311 false (in_form (120 ∷ []) ∷ Word Key.As ∷ Op Sign.Equal ∷ in_form (121 ∷ []) ∷ []) ≡ NoForm
case_85 = refl

-- print >> x , : == :
case_89 : read_line Py311 false (in_form (112 ∷ 114 ∷ 105 ∷ 110 ∷ 116 ∷ []) ∷ Op Sign.RightShift ∷ in_form (120 ∷ []) ∷ Op Sign.Comma ∷ Op
    Sign.Colon ∷ Op Sign.EqEqual ∷ Op Sign.Colon ∷ []) ≡ NoForm
case_89 = refl

-- print in , y
case_90 : read_line Py311 false (in_form (112 ∷ 114 ∷ 105 ∷ 110 ∷ 116 ∷ []) ∷ Word Key.In ∷ Op Sign.Comma ∷ in_form (121 ∷ []) ∷ []) ≡
    NoForm
case_90 = refl

-- : a C : b
case_93 : read_line Py311 false (Op Sign.Colon ∷ in_form (97 ∷ []) ∷ in_form (67 ∷ []) ∷ Op Sign.Colon ∷ in_form (98 ∷ []) ∷ []) ≡ NoForm
case_93 = refl

-- a : b
case_95 : read_line Py311 false (in_form (97 ∷ []) ∷ Op Sign.Colon ∷ in_form (98 ∷ []) ∷ []) ≡ Found
    (simple_form (AnnAssign (Trees.Name (97 ∷ []) Store) (Trees.Name (98 ∷ []) Load) None true ∷ [])) []
case_95 = refl

-- a : = = d (
case_100 : read_line Py311 false (in_form (97 ∷ []) ∷ Op Sign.Colon ∷ Op Sign.Equal ∷ Op Sign.Equal ∷ in_form (100 ∷ []) ∷ Op
    Sign.LPar ∷ []) ≡ NoForm
case_100 = refl

-- = yield b
case_107 : read_line Py311 false (Op Sign.Equal ∷ Word Key.Yield ∷ in_form (98 ∷ []) ∷ []) ≡ NoForm
case_107 = refl

-- ( a . b ) : b with
case_108 : read_line Py311 false (Op Sign.LPar ∷ in_form (97 ∷ []) ∷ Op Sign.Dot ∷ in_form (98 ∷ []) ∷ Op Sign.RPar ∷ Op Sign.Colon ∷
    in_form (98 ∷ []) ∷ Word Key.With ∷ []) ≡ NoForm
case_108 = refl

-- { with ( a ) : lambda : b
case_110 : read_line Py311 false (Op Sign.LBrace ∷ Word Key.With ∷ Op Sign.LPar ∷ in_form (97 ∷ []) ∷ Op Sign.RPar ∷ Op Sign.Colon ∷ Word
    Key.Lambda ∷ Op Sign.Colon ∷ in_form (98 ∷ []) ∷ []) ≡ NoForm
case_110 = refl

-- * a = b
case_117 : read_line Py311 false (Op Sign.Star ∷ in_form (97 ∷ []) ∷ Op Sign.Equal ∷ in_form (98 ∷ []) ∷ []) ≡ Found
    (simple_form (Assign ((Trees.Starred (Trees.Name (97 ∷ []) Store) Store) ∷ []) (Trees.Name (98 ∷ []) Load) ∷ [])) []
case_117 = refl

-- in = * in yield :
case_118 : read_line Py311 false (Word Key.In ∷ Op Sign.Equal ∷ Op Sign.Star ∷ Word Key.In ∷ Word Key.Yield ∷ Op Sign.Colon ∷ []) ≡ NoForm
case_118 = refl

-- g = 1 ,
case_119 : read_line Py311 false (in_form (103 ∷ []) ∷ Op Sign.Equal ∷ whole 1 ∷ Op Sign.Comma ∷ []) ≡ Found
    (simple_form (Assign ((Trees.Name (103 ∷ []) Store) ∷ [])
    (Trees.Tuple (Trees.an_expr (Trees.Constant (Values.Int 1)) Trees.no_exprs) Load) ∷ [])) []
case_119 = refl

-- * x
case_123 : read_line Py311 false (Op Sign.Star ∷ in_form (120 ∷ []) ∷ []) ≡ Found
    (simple_form (ExprOf (Trees.Starred (Trees.Name (120 ∷ []) Load) Load) ∷ [])) []
case_123 = refl

-- w
case_128 : read_line Py311 false (in_form (119 ∷ []) ∷ []) ≡ Found (simple_form (ExprOf (Trees.Name (119 ∷ []) Load) ∷ [])) []
case_128 = refl

-- e
case_131 : read_line Py311 false (in_form (101 ∷ []) ∷ []) ≡ Found (simple_form (ExprOf (Trees.Name (101 ∷ []) Load) ∷ [])) []
case_131 = refl

-- a ,
case_132 : read_line Py311 false (in_form (97 ∷ []) ∷ Op Sign.Comma ∷ []) ≡ Found
    (simple_form (ExprOf (Trees.Tuple (Trees.an_expr (Trees.Name (97 ∷ []) Load) Trees.no_exprs) Load) ∷ [])) []
case_132 = refl

-- x == d
case_133 : read_line Py311 false (in_form (120 ∷ []) ∷ Op Sign.EqEqual ∷ in_form (100 ∷ []) ∷ []) ≡ Found
    (simple_form (ExprOf (Trees.Compare (Trees.Name (120 ∷ []) Load) (Is.Eq ∷ [])
    (Trees.an_expr (Trees.Name (100 ∷ []) Load) Trees.no_exprs)) ∷ [])) []
case_133 = refl

-- a
case_136 : read_line Py311 false (in_form (97 ∷ []) ∷ []) ≡ Found (simple_form (ExprOf (Trees.Name (97 ∷ []) Load) ∷ [])) []
case_136 = refl

-- f
case_140 : read_line Py311 false (in_form (102 ∷ []) ∷ []) ≡ Found (simple_form (ExprOf (Trees.Name (102 ∷ []) Load) ∷ [])) []
case_140 = refl

-- lambda : ( yield )
case_142 : read_line Py311 false (Word Key.Lambda ∷ Op Sign.Colon ∷ Op Sign.LPar ∷ Word Key.Yield ∷ Op Sign.RPar ∷ []) ≡ Found
    (simple_form (ExprOf (Trees.Lambda (Trees.arguments Trees.no_arg Trees.no_arg Trees.absent_arg Trees.no_arg Trees.no_optional
    Trees.absent_arg Trees.no_exprs) (Trees.Yield Trees.absent)) ∷ [])) []
case_142 = refl

-- a , = 1
case_144 : read_line Py311 false (in_form (97 ∷ []) ∷ Op Sign.Comma ∷ Op Sign.Equal ∷ whole 1 ∷ []) ≡ Found
    (simple_form (Assign ((Trees.Tuple (Trees.an_expr (Trees.Name (97 ∷ []) Store) Trees.no_exprs) Store) ∷ [])
    (Trees.Constant (Values.Int 1)) ∷ [])) []
case_144 = refl

-- ( yield ) ;
case_146 : read_line Py311 false (Op Sign.LPar ∷ Word Key.Yield ∷ Op Sign.RPar ∷ Op Sign.Semi ∷ []) ≡ Found
    (simple_form (ExprOf (Trees.Yield Trees.absent) ∷ [])) []
case_146 = refl

-- b
case_147 : read_line Py311 false (in_form (98 ∷ []) ∷ []) ≡ Found (simple_form (ExprOf (Trees.Name (98 ∷ []) Load) ∷ [])) []
case_147 = refl

-- c
case_150 : read_line Py311 false (in_form (99 ∷ []) ∷ []) ≡ Found (simple_form (ExprOf (Trees.Name (99 ∷ []) Load) ∷ [])) []
case_150 = refl

-- * None
case_151 : read_line Py311 false (Op Sign.Star ∷ Word Key.None ∷ []) ≡ Found
    (simple_form (ExprOf (Trees.Starred (Trees.Constant (Values.None)) Load) ∷ [])) []
case_151 = refl

-- x : int = b
case_152 : read_line Py311 false (in_form (120 ∷ []) ∷ Op Sign.Colon ∷ in_form (105 ∷ 110 ∷ 116 ∷ []) ∷ Op Sign.Equal ∷ in_form (98 ∷ []) ∷
    []) ≡ Found (simple_form (AnnAssign (Trees.Name (120 ∷ []) Store) (Trees.Name (105 ∷ 110 ∷ 116 ∷ []) Load)
    (Some (Trees.Name (98 ∷ []) Load)) true ∷ [])) []
case_152 = refl

-- y = z
case_154 : read_line Py311 false (in_form (121 ∷ []) ∷ Op Sign.Equal ∷ in_form (122 ∷ []) ∷ []) ≡ Found
    (simple_form (Assign ((Trees.Name (121 ∷ []) Store) ∷ []) (Trees.Name (122 ∷ []) Load) ∷ [])) []
case_154 = refl

-- a , b
case_155 : read_line Py311 false (in_form (97 ∷ []) ∷ Op Sign.Comma ∷ in_form (98 ∷ []) ∷ []) ≡ Found
    (simple_form (ExprOf
    (Trees.Tuple (Trees.an_expr (Trees.Name (97 ∷ []) Load) (Trees.an_expr (Trees.Name (98 ∷ []) Load) Trees.no_exprs)) Load) ∷ [])) []
case_155 = refl

-- x , y , int , * y
case_156 : read_line Py311 false (in_form (120 ∷ []) ∷ Op Sign.Comma ∷ in_form (121 ∷ []) ∷ Op Sign.Comma ∷ in_form (105 ∷ 110 ∷ 116 ∷ []) ∷
    Op Sign.Comma ∷ Op Sign.Star ∷ in_form (121 ∷ []) ∷ []) ≡ Found
    (simple_form (ExprOf
    (Trees.Tuple (Trees.an_expr (Trees.Name (120 ∷ []) Load)
    (Trees.an_expr (Trees.Name (121 ∷ []) Load) (Trees.an_expr (Trees.Name (105 ∷ 110 ∷ 116 ∷ []) Load)
    (Trees.an_expr (Trees.Starred (Trees.Name (121 ∷ []) Load) Load) Trees.no_exprs)))) Load) ∷ [])) []
case_156 = refl

-- print >> x , ;
case_159 : read_line Py311 false (in_form (112 ∷ 114 ∷ 105 ∷ 110 ∷ 116 ∷ []) ∷ Op Sign.RightShift ∷ in_form (120 ∷ []) ∷ Op Sign.Comma ∷ Op
    Sign.Semi ∷ []) ≡ Found
    (simple_form (ExprOf
    (Trees.Tuple (Trees.an_expr (Trees.BinOp (Trees.Name (112 ∷ 114 ∷ 105 ∷ 110 ∷ 116 ∷ []) Load) Bin.RShift (Trees.Name (120 ∷ []) Load))
    Trees.no_exprs) Load) ∷ [])) []
case_159 = refl

-- ( ) . b : c
case_160 : read_line Py311 false (Op Sign.LPar ∷ Op Sign.RPar ∷ Op Sign.Dot ∷ in_form (98 ∷ []) ∷ Op Sign.Colon ∷ in_form (99 ∷ []) ∷ []) ≡
    Found (simple_form (AnnAssign (Trees.Attribute (Trees.Tuple Trees.no_exprs Load) (98 ∷ []) Store)
    (Trees.Name (99 ∷ []) Load) None false ∷ [])) []
case_160 = refl

-- * b
case_162 : read_line Py311 false (Op Sign.Star ∷ in_form (98 ∷ []) ∷ []) ≡ Found
    (simple_form (ExprOf (Trees.Starred (Trees.Name (98 ∷ []) Load) Load) ∷ [])) []
case_162 = refl

-- x += 1 ,
case_165 : read_line Py311 false (in_form (120 ∷ []) ∷ Op Sign.PlusEqual ∷ whole 1 ∷ Op Sign.Comma ∷ []) ≡ Found
    (simple_form (AugAssign (Trees.Name (120 ∷ []) Store) Bin.Add
    (Trees.Tuple (Trees.an_expr (Trees.Constant (Values.Int 1)) Trees.no_exprs) Load) ∷ [])) []
case_165 = refl

-- a @ a
case_167 : read_line Py311 false (in_form (97 ∷ []) ∷ Op Sign.At ∷ in_form (97 ∷ []) ∷ []) ≡ Found
    (simple_form (ExprOf (Trees.BinOp (Trees.Name (97 ∷ []) Load) Bin.MatMult (Trees.Name (97 ∷ []) Load)) ∷ [])) []
case_167 = refl

-- ( x )
case_169 : read_line Py311 false (Op Sign.LPar ∷ in_form (120 ∷ []) ∷ Op Sign.RPar ∷ []) ≡ Found
    (simple_form (ExprOf (Trees.Name (120 ∷ []) Load) ∷ [])) []
case_169 = refl

-- x = y = z , * w
case_172 : read_line Py311 false (in_form (120 ∷ []) ∷ Op Sign.Equal ∷ in_form (121 ∷ []) ∷ Op Sign.Equal ∷ in_form (122 ∷ []) ∷ Op
    Sign.Comma ∷ Op Sign.Star ∷ in_form (119 ∷ []) ∷ []) ≡ Found
    (simple_form (Assign ((Trees.Name (120 ∷ []) Store) ∷ (Trees.Name (121 ∷ []) Store) ∷ [])
    (Trees.Tuple (Trees.an_expr (Trees.Name (122 ∷ []) Load) (Trees.an_expr (Trees.Starred (Trees.Name (119 ∷ []) Load) Load)
    Trees.no_exprs)) Load) ∷ [])) []
case_172 = refl

-- x = c
case_173 : read_line Py311 false (in_form (120 ∷ []) ∷ Op Sign.Equal ∷ in_form (99 ∷ []) ∷ []) ≡ Found
    (simple_form (Assign ((Trees.Name (120 ∷ []) Store) ∷ []) (Trees.Name (99 ∷ []) Load) ∷ [])) []
case_173 = refl

-- x : y
case_174 : read_line Py311 false (in_form (120 ∷ []) ∷ Op Sign.Colon ∷ in_form (121 ∷ []) ∷ []) ≡ Found
    (simple_form (AnnAssign (Trees.Name (120 ∷ []) Store) (Trees.Name (121 ∷ []) Load) None true ∷ [])) []
case_174 = refl

-- a , y
case_175 : read_line Py311 false (in_form (97 ∷ []) ∷ Op Sign.Comma ∷ in_form (121 ∷ []) ∷ []) ≡ Found
    (simple_form (ExprOf
    (Trees.Tuple (Trees.an_expr (Trees.Name (97 ∷ []) Load) (Trees.an_expr (Trees.Name (121 ∷ []) Load) Trees.no_exprs)) Load) ∷ [])) []
case_175 = refl

-- a , = b , ; w ;
case_176 : read_line Py311 false (in_form (97 ∷ []) ∷ Op Sign.Comma ∷ Op Sign.Equal ∷ in_form (98 ∷ []) ∷ Op Sign.Comma ∷ Op Sign.Semi ∷
    in_form (119 ∷ []) ∷ Op Sign.Semi ∷ []) ≡ Found
    (simple_form (Assign ((Trees.Tuple (Trees.an_expr (Trees.Name (97 ∷ []) Store) Trees.no_exprs) Store) ∷ [])
    (Trees.Tuple (Trees.an_expr (Trees.Name (98 ∷ []) Load) Trees.no_exprs) Load) ∷ ExprOf (Trees.Name (119 ∷ []) Load) ∷ [])) []
case_176 = refl

-- not c
case_179 : read_line Py311 false (Word Key.Not ∷ in_form (99 ∷ []) ∷ []) ≡ Found
    (simple_form (ExprOf (Trees.UnaryOp Un.Not (Trees.Name (99 ∷ []) Load)) ∷ [])) []
case_179 = refl

-- "x" "y"
case_181 : read_line Py311 false (Literal (Values.Str (120 ∷ []) false) ∷ Literal (Values.Str (121 ∷ []) false) ∷ []) ≡ Found
    (simple_form (ExprOf (Trees.Constant (Values.Str (120 ∷ 121 ∷ []) false)) ∷ [])) []
case_181 = refl

-- x : int
case_182 : read_line Py311 false (in_form (120 ∷ []) ∷ Op Sign.Colon ∷ in_form (105 ∷ 110 ∷ 116 ∷ []) ∷ []) ≡ Found
    (simple_form (AnnAssign (Trees.Name (120 ∷ []) Store) (Trees.Name (105 ∷ 110 ∷ 116 ∷ []) Load) None true ∷ [])) []
case_182 = refl

-- c : d
case_183 : read_line Py311 false (in_form (99 ∷ []) ∷ Op Sign.Colon ∷ in_form (100 ∷ []) ∷ []) ≡ Found
    (simple_form (AnnAssign (Trees.Name (99 ∷ []) Store) (Trees.Name (100 ∷ []) Load) None true ∷ [])) []
case_183 = refl

-- x @ y
case_184 : read_line Py311 false (in_form (120 ∷ []) ∷ Op Sign.At ∷ in_form (121 ∷ []) ∷ []) ≡ Found
    (simple_form (ExprOf (Trees.BinOp (Trees.Name (120 ∷ []) Load) Bin.MatMult (Trees.Name (121 ∷ []) Load)) ∷ [])) []
case_184 = refl

-- int = yield
case_185 : read_line Py311 false (in_form (105 ∷ 110 ∷ 116 ∷ []) ∷ Op Sign.Equal ∷ Word Key.Yield ∷ []) ≡ Found
    (simple_form (Assign ((Trees.Name (105 ∷ 110 ∷ 116 ∷ []) Store) ∷ []) (Trees.Yield Trees.absent) ∷ [])) []
case_185 = refl

-- ( ) = 1
case_186 : read_line Py311 false (Op Sign.LPar ∷ Op Sign.RPar ∷ Op Sign.Equal ∷ whole 1 ∷ []) ≡ Found
    (simple_form (Assign ((Trees.Tuple Trees.no_exprs Store) ∷ []) (Trees.Constant (Values.Int 1)) ∷ [])) []
case_186 = refl

-- x ;
case_190 : read_line Py311 false (in_form (120 ∷ []) ∷ Op Sign.Semi ∷ []) ≡ Found
    (simple_form (ExprOf (Trees.Name (120 ∷ []) Load) ∷ [])) []
case_190 = refl
