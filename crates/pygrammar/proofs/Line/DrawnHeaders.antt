-- Lists of terminals drawn at random that begin as a header or a decorator: the reader computes their forms, or that
-- they have none.
--
-- Carries: no contract; its rows are computed as it is checked.
use Rattle.std.proofs.Common.{◌≡◌, refl, [], ◌∷◌, Some, None, true, false}
use Rattle.pylex_lexeme.specs.declared.kinds.Exact.TheVariants as Sign
use Rattle.pytoken.specs.declared.keywords.Keyword.TheVariants as Key
use Rattle.pytree_node.specs.declared.operators.Operator.TheVariants as Bin
use Rattle.pytree_node.specs.declared.operators.Context.TheVariants.{Load, Store}
use Rattle.pytree_node.specs.Profiles.{plain_311 as Py311}
use Rattle.pytree_node.specs.Trees as Trees
use Rattle.pytree_node.specs.Values as Values
use Rattle.pytoken.specs.Terminals.{Op, Word, in_form, whole}
use Rattle.pygrammar.specs.Reader.{Found, NoForm}
use Rattle.pytree_node.specs.Trees.{AnnAssign, ExprOf, Pass, Return}
use Rattle.pygrammar.specs.Lines.{header_form, else_header, with_header, def_header, function_head, if_header, loop_header, try_header}
use Rattle.pygrammar.specs.Lines.{for_head, decorator_form, except_header, while_head, class_head}
use Rattle.pygrammar.specs.Forms.{item}
use Rattle.pygrammar.specs.LineReader.{read_line}
use Rattle.pytree_node.specs.declared.operators.Comparison.TheVariants as Is

-- with y a
case_0 : read_line Py311 false (Word Key.With ∷ in_form (121 ∷ []) ∷ in_form (97 ∷ []) ∷ []) ≡ NoForm
case_0 = refl

-- with ( a ) as b pass : c x
case_1 : read_line Py311 false (Word Key.With ∷ Op Sign.LPar ∷ in_form (97 ∷ []) ∷ Op Sign.RPar ∷ Word Key.As ∷ in_form (98 ∷ []) ∷ Word
    Key.Pass ∷ Op Sign.Colon ∷ in_form (99 ∷ []) ∷ in_form (120 ∷ []) ∷ []) ≡ NoForm
case_1 = refl

-- def f :
case_3 : read_line Py311 false (Word Key.Def ∷ in_form (102 ∷ []) ∷ Op Sign.Colon ∷ []) ≡ NoForm
case_3 = refl

-- def f ( * y ) : pass
case_4 : read_line Py311 false (Word Key.Def ∷ in_form (102 ∷ []) ∷ Op Sign.LPar ∷ Op Sign.Star ∷ in_form (121 ∷ []) ∷ Op Sign.RPar ∷ Op
    Sign.Colon ∷ Word Key.Pass ∷ []) ≡ Found
    (header_form (def_header
    (function_head false (102 ∷ []) [] (Trees.arguments Trees.no_arg Trees.no_arg (Trees.present_arg (Trees.arg (121 ∷ []) Trees.absent))
    Trees.no_arg Trees.no_optional Trees.absent_arg Trees.no_exprs) None)) (Some (Pass ∷ []))) []
case_4 = refl

-- with a as b . c a d ] e
case_6 : read_line Py311 false (Word Key.With ∷ in_form (97 ∷ []) ∷ Word Key.As ∷ in_form (98 ∷ []) ∷ Op Sign.Dot ∷ in_form (99 ∷ []) ∷
    in_form (97 ∷ []) ∷ in_form (100 ∷ []) ∷ Op Sign.RSqb ∷ in_form (101 ∷ []) ∷ []) ≡ NoForm
case_6 = refl

-- with a
case_11 : read_line Py311 false (Word Key.With ∷ in_form (97 ∷ []) ∷ []) ≡ NoForm
case_11 = refl

-- async def f x ( ) : pass
case_12 : read_line Py311 false (Word Key.Async ∷ Word Key.Def ∷ in_form (102 ∷ []) ∷ in_form (120 ∷ []) ∷ Op Sign.LPar ∷ Op Sign.RPar ∷ Op
    Sign.Colon ∷ Word Key.Pass ∷ []) ≡ NoForm
case_12 = refl

-- if ; y : str = z
case_17 : read_line Py311 false (Word Key.If ∷ Op Sign.Semi ∷ in_form (121 ∷ []) ∷ Op Sign.Colon ∷ in_form (115 ∷ 116 ∷ 114 ∷ []) ∷ Op
    Sign.Equal ∷ in_form (122 ∷ []) ∷ []) ≡ NoForm
case_17 = refl

-- with a as b . c [ d ] e (
case_19 : read_line Py311 false (Word Key.With ∷ in_form (97 ∷ []) ∷ Word Key.As ∷ in_form (98 ∷ []) ∷ Op Sign.Dot ∷ in_form (99 ∷ []) ∷ Op
    Sign.LSqb ∷ in_form (100 ∷ []) ∷ Op Sign.RSqb ∷ in_form (101 ∷ []) ∷ Op Sign.LPar ∷ []) ≡ NoForm
case_19 = refl

-- with a ( a for a in b : c
case_20 : read_line Py311 false (Word Key.With ∷ in_form (97 ∷ []) ∷ Op Sign.LPar ∷ in_form (97 ∷ []) ∷ Word Key.For ∷ in_form (97 ∷ []) ∷
    Word Key.In ∷ in_form (98 ∷ []) ∷ Op Sign.Colon ∷ in_form (99 ∷ []) ∷ []) ≡ NoForm
case_20 = refl

-- @ with a as b : : d
case_21 : read_line Py311 false (Op Sign.At ∷ Word Key.With ∷ in_form (97 ∷ []) ∷ Word Key.As ∷ in_form (98 ∷ []) ∷ Op Sign.Colon ∷ Op
    Sign.Colon ∷ in_form (100 ∷ []) ∷ []) ≡ NoForm
case_21 = refl

-- with ( ) as b : c
case_22 : read_line Py311 false (Word Key.With ∷ Op Sign.LPar ∷ Op Sign.RPar ∷ Word Key.As ∷ in_form (98 ∷ []) ∷ Op Sign.Colon ∷ in_form
    (99 ∷ []) ∷ []) ≡ Found
    (header_form (with_header false (item (Trees.Tuple Trees.no_exprs Load) (Some (Trees.Name (98 ∷ []) Store)) ∷ []))
    (Some (ExprOf (Trees.Name (99 ∷ []) Load) ∷ []))) []
case_22 = refl

-- else : x
case_27 : read_line Py311 false (Word Key.Else ∷ Op Sign.Colon ∷ in_form (120 ∷ []) ∷ []) ≡ Found
    (header_form (else_header) (Some (ExprOf (Trees.Name (120 ∷ []) Load) ∷ []))) []
case_27 = refl

-- with ( a , b ) : c : d
case_28 : read_line Py311 false (Word Key.With ∷ Op Sign.LPar ∷ in_form (97 ∷ []) ∷ Op Sign.Comma ∷ in_form (98 ∷ []) ∷ Op Sign.RPar ∷ Op
    Sign.Colon ∷ in_form (99 ∷ []) ∷ Op Sign.Colon ∷ in_form (100 ∷ []) ∷ []) ≡ Found
    (header_form (with_header false (item (Trees.Name (97 ∷ []) Load) None ∷ item (Trees.Name (98 ∷ []) Load) None ∷ []))
    (Some (AnnAssign (Trees.Name (99 ∷ []) Store) (Trees.Name (100 ∷ []) Load) None true ∷ []))) []
case_28 = refl

-- @ x := import c ; pass
case_29 : read_line Py311 false (Op Sign.At ∷ in_form (120 ∷ []) ∷ Op Sign.ColonEqual ∷ Word Key.Import ∷ in_form (99 ∷ []) ∷ Op Sign.Semi ∷
    Word Key.Pass ∷ []) ≡ NoForm
case_29 = refl

-- def , f :
case_31 : read_line Py311 false (Word Key.Def ∷ Op Sign.Comma ∷ in_form (102 ∷ []) ∷ Op Sign.Colon ∷ []) ≡ NoForm
case_31 = refl

-- with ( a = b a . b import c as d
case_32 : read_line Py311 false (Word Key.With ∷ Op Sign.LPar ∷ in_form (97 ∷ []) ∷ Op Sign.Equal ∷ in_form (98 ∷ []) ∷ in_form (97 ∷ []) ∷
    Op Sign.Dot ∷ in_form (98 ∷ []) ∷ Word Key.Import ∷ in_form (99 ∷ []) ∷ Word Key.As ∷ in_form (100 ∷ []) ∷ []) ≡ NoForm
case_32 = refl

-- for a
case_34 : read_line Py311 false (Word Key.For ∷ in_form (97 ∷ []) ∷ []) ≡ NoForm
case_34 = refl

-- async def f ( ) x : pass
case_35 : read_line Py311 false (Word Key.Async ∷ Word Key.Def ∷ in_form (102 ∷ []) ∷ Op Sign.LPar ∷ Op Sign.RPar ∷ in_form (120 ∷ []) ∷ Op
    Sign.Colon ∷ Word Key.Pass ∷ []) ≡ NoForm
case_35 = refl

-- with ( a , b ) * c : c d
case_40 : read_line Py311 false (Word Key.With ∷ Op Sign.LPar ∷ in_form (97 ∷ []) ∷ Op Sign.Comma ∷ in_form (98 ∷ []) ∷ Op Sign.RPar ∷ Op
    Sign.Star ∷ in_form (99 ∷ []) ∷ Op Sign.Colon ∷ in_form (99 ∷ []) ∷ in_form (100 ∷ []) ∷ []) ≡ NoForm
case_40 = refl

-- with ( a ) as lambda : c
case_43 : read_line Py311 false (Word Key.With ∷ Op Sign.LPar ∷ in_form (97 ∷ []) ∷ Op Sign.RPar ∷ Word Key.As ∷ Word Key.Lambda ∷ Op
    Sign.Colon ∷ in_form (99 ∷ []) ∷ []) ≡ NoForm
case_43 = refl

-- else , : x = 1 @ lambda : x
case_50 : read_line Py311 false (Word Key.Else ∷ Op Sign.Comma ∷ Op Sign.Colon ∷ in_form (120 ∷ []) ∷ Op Sign.Equal ∷ whole 1 ∷ Op Sign.At ∷
    Word Key.Lambda ∷ Op Sign.Colon ∷ in_form (120 ∷ []) ∷ []) ≡ NoForm
case_50 = refl

-- except * :
case_53 : read_line Py311 false (Word Key.Except ∷ Op Sign.Star ∷ Op Sign.Colon ∷ []) ≡ NoForm
case_53 = refl

-- with a : : pass a (
case_55 : read_line Py311 false (Word Key.With ∷ in_form (97 ∷ []) ∷ Op Sign.Colon ∷ Op Sign.Colon ∷ Word Key.Pass ∷ in_form (97 ∷ []) ∷ Op
    Sign.LPar ∷ []) ≡ NoForm
case_55 = refl

-- with a ( a := b ) : c
case_57 : read_line Py311 false (Word Key.With ∷ in_form (97 ∷ []) ∷ Op Sign.LPar ∷ in_form (97 ∷ []) ∷ Op Sign.ColonEqual ∷ in_form
    (98 ∷ []) ∷ Op Sign.RPar ∷ Op Sign.Colon ∷ in_form (99 ∷ []) ∷ []) ≡ Found
    (header_form (with_header false
    (item (Trees.Call (Trees.Name (97 ∷ []) Load) (Trees.an_expr (Trees.NamedExpr (Trees.Name (97 ∷ []) Store) (Trees.Name (98 ∷ []) Load))
    Trees.no_exprs) Trees.no_keyword) None ∷ [])) (Some (ExprOf (Trees.Name (99 ∷ []) Load) ∷ []))) []
case_57 = refl

-- if ( x := 1 ) : , pass
case_62 : read_line Py311 false (Word Key.If ∷ Op Sign.LPar ∷ in_form (120 ∷ []) ∷ Op Sign.ColonEqual ∷ whole 1 ∷ Op Sign.RPar ∷ Op
    Sign.Colon ∷ Op Sign.Comma ∷ Word Key.Pass ∷ []) ≡ NoForm
case_62 = refl

-- @ a * a :
case_63 : read_line Py311 false (Op Sign.At ∷ in_form (97 ∷ []) ∷ Op Sign.Star ∷ in_form (97 ∷ []) ∷ Op Sign.Colon ∷ []) ≡ NoForm
case_63 = refl

-- with ( a , b ) [ ( ) . b : c
case_68 : read_line Py311 false (Word Key.With ∷ Op Sign.LPar ∷ in_form (97 ∷ []) ∷ Op Sign.Comma ∷ in_form (98 ∷ []) ∷ Op Sign.RPar ∷ Op
    Sign.LSqb ∷ Op Sign.LPar ∷ Op Sign.RPar ∷ Op Sign.Dot ∷ in_form (98 ∷ []) ∷ Op Sign.Colon ∷ in_form (99 ∷ []) ∷ []) ≡ NoForm
case_68 = refl

-- if x := 1 with as :
case_70 : read_line Py311 false (Word Key.If ∷ in_form (120 ∷ []) ∷ Op Sign.ColonEqual ∷ whole 1 ∷ Word Key.With ∷ Word Key.As ∷ Op
    Sign.Colon ∷ []) ≡ NoForm
case_70 = refl

-- if x :
case_79 : read_line Py311 false (Word Key.If ∷ in_form (120 ∷ []) ∷ Op Sign.Colon ∷ []) ≡ Found
    (header_form (if_header (Trees.Name (120 ∷ []) Load)) None) []
case_79 = refl

-- with ( a , b ) [ 0 ] : b
case_80 : read_line Py311 false (Word Key.With ∷ Op Sign.LPar ∷ in_form (97 ∷ []) ∷ Op Sign.Comma ∷ in_form (98 ∷ []) ∷ Op Sign.RPar ∷ Op
    Sign.LSqb ∷ whole 0 ∷ Op Sign.RSqb ∷ Op Sign.Colon ∷ in_form (98 ∷ []) ∷ []) ≡ Found
    (header_form (with_header false
    (item (Trees.Subscript
    (Trees.Tuple (Trees.an_expr (Trees.Name (97 ∷ []) Load) (Trees.an_expr (Trees.Name (98 ∷ []) Load) Trees.no_exprs)) Load)
    (Trees.Constant (Values.Int 0)) Load) None ∷ [])) (Some (ExprOf (Trees.Name (98 ∷ []) Load) ∷ []))) []
case_80 = refl

-- async def a f ( ) : pass
case_82 : read_line Py311 false (Word Key.Async ∷ Word Key.Def ∷ in_form (97 ∷ []) ∷ in_form (102 ∷ []) ∷ Op Sign.LPar ∷ Op Sign.RPar ∷ Op
    Sign.Colon ∷ Word Key.Pass ∷ []) ≡ NoForm
case_82 = refl

-- with ( a ) : x lambda a : ( b
case_83 : read_line Py311 false (Word Key.With ∷ Op Sign.LPar ∷ in_form (97 ∷ []) ∷ Op Sign.RPar ∷ Op Sign.Colon ∷ in_form (120 ∷ []) ∷ Word
    Key.Lambda ∷ in_form (97 ∷ []) ∷ Op Sign.Colon ∷ Op Sign.LPar ∷ in_form (98 ∷ []) ∷ []) ≡ NoForm
case_83 = refl

-- with b as 1 b
case_86 : read_line Py311 false (Word Key.With ∷ in_form (98 ∷ []) ∷ Word Key.As ∷ whole 1 ∷ in_form (98 ∷ []) ∷ []) ≡ NoForm
case_86 = refl

-- except f ( ) -> * a :
case_87 : read_line Py311 false (Word Key.Except ∷ in_form (102 ∷ []) ∷ Op Sign.LPar ∷ Op Sign.RPar ∷ Op Sign.RArrow ∷ Op Sign.Star ∷
    in_form (97 ∷ []) ∷ Op Sign.Colon ∷ []) ≡ NoForm
case_87 = refl

-- else * a : b
case_88 : read_line Py311 false (Word Key.Else ∷ Op Sign.Star ∷ in_form (97 ∷ []) ∷ Op Sign.Colon ∷ in_form (98 ∷ []) ∷ []) ≡ NoForm
case_88 = refl

-- with a as , : c
case_92 : read_line Py311 false (Word Key.With ∷ in_form (97 ∷ []) ∷ Word Key.As ∷ Op Sign.Comma ∷ Op Sign.Colon ∷ in_form (99 ∷ []) ∷ []) ≡
    NoForm
case_92 = refl

-- with ( : a ) . as c : pass
case_94 : read_line Py311 false (Word Key.With ∷ Op Sign.LPar ∷ Op Sign.Colon ∷ in_form (97 ∷ []) ∷ Op Sign.RPar ∷ Op Sign.Dot ∷ Word Key.As
    ∷ in_form (99 ∷ []) ∷ Op Sign.Colon ∷ Word Key.Pass ∷ []) ≡ NoForm
case_94 = refl

-- with a * as b : c : d .
case_96 : read_line Py311 false (Word Key.With ∷ in_form (97 ∷ []) ∷ Op Sign.Star ∷ Word Key.As ∷ in_form (98 ∷ []) ∷ Op Sign.Colon ∷
    in_form (99 ∷ []) ∷ Op Sign.Colon ∷ in_form (100 ∷ []) ∷ Op Sign.Dot ∷ []) ≡ NoForm
case_96 = refl

-- with lambda : ( a ) : * b
case_98 : read_line Py311 false (Word Key.With ∷ Word Key.Lambda ∷ Op Sign.Colon ∷ Op Sign.LPar ∷ in_form (97 ∷ []) ∷ Op Sign.RPar ∷ Op
    Sign.Colon ∷ Op Sign.Star ∷ in_form (98 ∷ []) ∷ []) ≡ Found
    (header_form (with_header false
    (item (Trees.Lambda (Trees.arguments Trees.no_arg Trees.no_arg Trees.absent_arg Trees.no_arg Trees.no_optional Trees.absent_arg
    Trees.no_exprs) (Trees.Name (97 ∷ []) Load)) None ∷ [])) (Some (ExprOf (Trees.Starred (Trees.Name (98 ∷ []) Load) Load) ∷ []))) []
case_98 = refl

-- def as f int = yield
case_102 : read_line Py311 false (Word Key.Def ∷ Word Key.As ∷ in_form (102 ∷ []) ∷ in_form (105 ∷ 110 ∷ 116 ∷ []) ∷ Op Sign.Equal ∷ Word
    Key.Yield ∷ []) ≡ NoForm
case_102 = refl

-- for x in y in z ( : pass
case_103 : read_line Py311 false (Word Key.For ∷ in_form (120 ∷ []) ∷ Word Key.In ∷ in_form (121 ∷ []) ∷ Word Key.In ∷ in_form (122 ∷ []) ∷
    Op Sign.LPar ∷ Op Sign.Colon ∷ Word Key.Pass ∷ []) ≡ NoForm
case_103 = refl

-- async with
case_104 : read_line Py311 false (Word Key.Async ∷ Word Key.With ∷ []) ≡ NoForm
case_104 = refl

-- with ( assert a , b
case_105 : read_line Py311 false (Word Key.With ∷ Op Sign.LPar ∷ Word Key.Assert ∷ in_form (97 ∷ []) ∷ Op Sign.Comma ∷ in_form
    (98 ∷ []) ∷ []) ≡ NoForm
case_105 = refl

-- with a as b . = yield
case_106 : read_line Py311 false (Word Key.With ∷ in_form (97 ∷ []) ∷ Word Key.As ∷ in_form (98 ∷ []) ∷ Op Sign.Dot ∷ Op Sign.Equal ∷ Word
    Key.Yield ∷ []) ≡ NoForm
case_106 = refl

-- while x ( ) b = 1
case_109 : read_line Py311 false (Word Key.While ∷ in_form (120 ∷ []) ∷ Op Sign.LPar ∷ Op Sign.RPar ∷ in_form (98 ∷ []) ∷ Op Sign.Equal
    ∷ whole 1 ∷ []) ≡ NoForm
case_109 = refl

-- with ( ] , a ) as c , d : pass
case_112 : read_line Py311 false (Word Key.With ∷ Op Sign.LPar ∷ Op Sign.RSqb ∷ Op Sign.Comma ∷ in_form (97 ∷ []) ∷ Op Sign.RPar ∷ Word
    Key.As ∷ in_form (99 ∷ []) ∷ Op Sign.Comma ∷ in_form (100 ∷ []) ∷ Op Sign.Colon ∷ Word Key.Pass ∷ []) ≡ NoForm
case_112 = refl

-- with a as x b , : c **=
case_113 : read_line Py311 false (Word Key.With ∷ in_form (97 ∷ []) ∷ Word Key.As ∷ in_form (120 ∷ []) ∷ in_form (98 ∷ []) ∷ Op Sign.Comma ∷
    Op Sign.Colon ∷ in_form (99 ∷ []) ∷ Op Sign.DoubleStarEqual ∷ []) ≡ NoForm
case_113 = refl

-- for x , * y in z , * , w : pass
case_114 : read_line Py311 false (Word Key.For ∷ in_form (120 ∷ []) ∷ Op Sign.Comma ∷ Op Sign.Star ∷ in_form (121 ∷ []) ∷ Word Key.In ∷
    in_form (122 ∷ []) ∷ Op Sign.Comma ∷ Op Sign.Star ∷ Op Sign.Comma ∷ in_form (119 ∷ []) ∷ Op Sign.Colon ∷ Word Key.Pass ∷ []) ≡ NoForm
case_114 = refl

-- def ( a a . b as c : pass
case_115 : read_line Py311 false (Word Key.Def ∷ Op Sign.LPar ∷ in_form (97 ∷ []) ∷ in_form (97 ∷ []) ∷ Op Sign.Dot ∷ in_form (98 ∷ []) ∷
    Word Key.As ∷ in_form (99 ∷ []) ∷ Op Sign.Colon ∷ Word Key.Pass ∷ []) ≡ NoForm
case_115 = refl

-- with ( : as b = c = d
case_116 : read_line Py311 false (Word Key.With ∷ Op Sign.LPar ∷ Op Sign.Colon ∷ Word Key.As ∷ in_form (98 ∷ []) ∷ Op Sign.Equal ∷ in_form
    (99 ∷ []) ∷ Op Sign.Equal ∷ in_form (100 ∷ []) ∷ []) ≡ NoForm
case_116 = refl

-- for x in y in c : pass
case_120 : read_line Py311 false (Word Key.For ∷ in_form (120 ∷ []) ∷ Word Key.In ∷ in_form (121 ∷ []) ∷ Word Key.In ∷ in_form (99 ∷ []) ∷
    Op Sign.Colon ∷ Word Key.Pass ∷ []) ≡ Found
    (header_form (loop_header (for_head false (Trees.Name (120 ∷ []) Store) (Trees.Compare (Trees.Name (121 ∷ []) Load) (Is.Within ∷ [])
    (Trees.an_expr (Trees.Name (99 ∷ []) Load) Trees.no_exprs)))) (Some (Pass ∷ []))) []
case_120 = refl

-- try : x
case_121 : read_line Py311 false (Word Key.Try ∷ Op Sign.Colon ∷ in_form (120 ∷ []) ∷ []) ≡ Found
    (header_form (try_header) (Some (ExprOf (Trees.Name (120 ∷ []) Load) ∷ []))) []
case_121 = refl

-- with ( a , b ) as c , d :
case_122 : read_line Py311 false (Word Key.With ∷ Op Sign.LPar ∷ in_form (97 ∷ []) ∷ Op Sign.Comma ∷ in_form (98 ∷ []) ∷ Op Sign.RPar ∷ Word
    Key.As ∷ in_form (99 ∷ []) ∷ Op Sign.Comma ∷ in_form (100 ∷ []) ∷ Op Sign.Colon ∷ []) ≡ Found
    (header_form (with_header false
    (item (Trees.Tuple (Trees.an_expr (Trees.Name (97 ∷ []) Load) (Trees.an_expr (Trees.Name (98 ∷ []) Load) Trees.no_exprs)) Load)
    (Some (Trees.Name (99 ∷ []) Store)) ∷ item (Trees.Name (100 ∷ []) Load) None ∷ [])) None) []
case_122 = refl

-- async def f ( ) : None
case_125 : read_line Py311 false (Word Key.Async ∷ Word Key.Def ∷ in_form (102 ∷ []) ∷ Op Sign.LPar ∷ Op Sign.RPar ∷ Op Sign.Colon ∷ Word
    Key.None ∷ []) ≡ Found
    (header_form (def_header (function_head true (102 ∷ []) [] (Trees.arguments Trees.no_arg Trees.no_arg Trees.absent_arg Trees.no_arg
    Trees.no_optional Trees.absent_arg Trees.no_exprs) None)) (Some (ExprOf (Trees.Constant (Values.None)) ∷ []))) []
case_125 = refl

-- else : x : y
case_127 : read_line Py311 false (Word Key.Else ∷ Op Sign.Colon ∷ in_form (120 ∷ []) ∷ Op Sign.Colon ∷ in_form (121 ∷ []) ∷ []) ≡ Found
    (header_form (else_header) (Some (AnnAssign (Trees.Name (120 ∷ []) Store) (Trees.Name (121 ∷ []) Load) None true ∷ []))) []
case_127 = refl

-- with a as b . c [ : d ] : e
case_129 : read_line Py311 false (Word Key.With ∷ in_form (97 ∷ []) ∷ Word Key.As ∷ in_form (98 ∷ []) ∷ Op Sign.Dot ∷ in_form (99 ∷ []) ∷ Op
    Sign.LSqb ∷ Op Sign.Colon ∷ in_form (100 ∷ []) ∷ Op Sign.RSqb ∷ Op Sign.Colon ∷ in_form (101 ∷ []) ∷ []) ≡ Found
    (header_form (with_header false
    (item (Trees.Name (97 ∷ []) Load)
    (Some (Trees.Subscript (Trees.Attribute (Trees.Name (98 ∷ []) Load) (99 ∷ []) Load)
    (Trees.Slice Trees.absent (Trees.present (Trees.Name (100 ∷ []) Load)) Trees.absent) Store)) ∷ []))
    (Some (ExprOf (Trees.Name (101 ∷ []) Load) ∷ []))) []
case_129 = refl

-- with ( a := b ) : c
case_130 : read_line Py311 false (Word Key.With ∷ Op Sign.LPar ∷ in_form (97 ∷ []) ∷ Op Sign.ColonEqual ∷ in_form (98 ∷ []) ∷ Op Sign.RPar ∷
    Op Sign.Colon ∷ in_form (99 ∷ []) ∷ []) ≡ Found
    (header_form (with_header false (item (Trees.NamedExpr (Trees.Name (97 ∷ []) Store) (Trees.Name (98 ∷ []) Load)) None ∷ []))
    (Some (ExprOf (Trees.Name (99 ∷ []) Load) ∷ []))) []
case_130 = refl

-- with ( ( a , ) ) : pass
case_134 : read_line Py311 false (Word Key.With ∷ Op Sign.LPar ∷ Op Sign.LPar ∷ in_form (97 ∷ []) ∷ Op Sign.Comma ∷ Op Sign.RPar ∷ Op
    Sign.RPar ∷ Op Sign.Colon ∷ Word Key.Pass ∷ []) ≡ Found
    (header_form (with_header false (item (Trees.Tuple (Trees.an_expr (Trees.Name (97 ∷ []) Load) Trees.no_exprs) Load) None ∷ []))
    (Some (Pass ∷ []))) []
case_134 = refl

-- for x in y : pass
case_135 : read_line Py311 false (Word Key.For ∷ in_form (120 ∷ []) ∷ Word Key.In ∷ in_form (121 ∷ []) ∷ Op Sign.Colon ∷ Word Key.Pass ∷ [])
    ≡ Found (header_form (loop_header (for_head false (Trees.Name (120 ∷ []) Store) (Trees.Name (121 ∷ []) Load))) (Some (Pass ∷ []))) []
case_135 = refl

-- with ( a , b ) + c : d
case_137 : read_line Py311 false (Word Key.With ∷ Op Sign.LPar ∷ in_form (97 ∷ []) ∷ Op Sign.Comma ∷ in_form (98 ∷ []) ∷ Op Sign.RPar ∷ Op
    Sign.Plus ∷ in_form (99 ∷ []) ∷ Op Sign.Colon ∷ in_form (100 ∷ []) ∷ []) ≡ Found
    (header_form (with_header false
    (item (Trees.BinOp (Trees.Tuple (Trees.an_expr (Trees.Name (97 ∷ []) Load) (Trees.an_expr (Trees.Name (98 ∷ []) Load) Trees.no_exprs))
    Load) Bin.Add (Trees.Name (99 ∷ []) Load)) None ∷ [])) (Some (ExprOf (Trees.Name (100 ∷ []) Load) ∷ []))) []
case_137 = refl

-- except a as b : pass
case_138 : read_line Py311 false (Word Key.Except ∷ in_form (97 ∷ []) ∷ Word Key.As ∷ in_form (98 ∷ []) ∷ Op Sign.Colon ∷ Word Key.Pass ∷
    []) ≡ Found (header_form (except_header false (Some (Trees.Name (97 ∷ []) Load)) (Some (98 ∷ []))) (Some (Pass ∷ []))) []
case_138 = refl

-- def f ( a = 1 , ) :
case_141 : read_line Py311 false (Word Key.Def ∷ in_form (102 ∷ []) ∷ Op Sign.LPar ∷ in_form (97 ∷ []) ∷ Op Sign.Equal ∷ whole 1 ∷ Op
    Sign.Comma ∷ Op Sign.RPar ∷ Op Sign.Colon ∷ []) ≡ Found
    (header_form (def_header
    (function_head false (102 ∷ []) [] (Trees.arguments Trees.no_arg (Trees.an_arg (Trees.arg (97 ∷ []) Trees.absent) Trees.no_arg)
    Trees.absent_arg Trees.no_arg Trees.no_optional Trees.absent_arg (Trees.an_expr (Trees.Constant (Values.Int 1)) Trees.no_exprs)) None))
    None) []
case_141 = refl

-- @ y
case_143 : read_line Py311 false (Op Sign.At ∷ in_form (121 ∷ []) ∷ []) ≡ Found (decorator_form (Trees.Name (121 ∷ []) Load)) []
case_143 = refl

-- with a as b . c , [ d ] : e
case_145 : read_line Py311 false (Word Key.With ∷ in_form (97 ∷ []) ∷ Word Key.As ∷ in_form (98 ∷ []) ∷ Op Sign.Dot ∷ in_form (99 ∷ []) ∷ Op
    Sign.Comma ∷ Op Sign.LSqb ∷ in_form (100 ∷ []) ∷ Op Sign.RSqb ∷ Op Sign.Colon ∷ in_form (101 ∷ []) ∷ []) ≡ Found
    (header_form (with_header false (item (Trees.Name (97 ∷ []) Load) (Some (Trees.Attribute (Trees.Name (98 ∷ []) Load) (99 ∷ []) Store)) ∷
    item (Trees.ListOf (Trees.an_expr (Trees.Name (100 ∷ []) Load) Trees.no_exprs) Load) None ∷ []))
    (Some (ExprOf (Trees.Name (101 ∷ []) Load) ∷ []))) []
case_145 = refl

-- @ a
case_148 : read_line Py311 false (Op Sign.At ∷ in_form (97 ∷ []) ∷ []) ≡ Found (decorator_form (Trees.Name (97 ∷ []) Load)) []
case_148 = refl

-- with ( ) : pass
case_149 : read_line Py311 false (Word Key.With ∷ Op Sign.LPar ∷ Op Sign.RPar ∷ Op Sign.Colon ∷ Word Key.Pass ∷ []) ≡ Found
    (header_form (with_header false (item (Trees.Tuple Trees.no_exprs Load) None ∷ [])) (Some (Pass ∷ []))) []
case_149 = refl

-- class C : x : b
case_153 : read_line Py311 false (Word Key.Class ∷ in_form (67 ∷ []) ∷ Op Sign.Colon ∷ in_form (120 ∷ []) ∷ Op Sign.Colon ∷ in_form
    (98 ∷ []) ∷ []) ≡ Found (header_form (def_header (class_head (67 ∷ []) [] ([]) Trees.no_keyword))
    (Some (AnnAssign (Trees.Name (120 ∷ []) Store) (Trees.Name (98 ∷ []) Load) None true ∷ []))) []
case_153 = refl

-- with ( a as b ) :
case_157 : read_line Py311 false (Word Key.With ∷ Op Sign.LPar ∷ in_form (97 ∷ []) ∷ Word Key.As ∷ in_form (98 ∷ []) ∷ Op Sign.RPar ∷ Op
    Sign.Colon ∷ []) ≡ Found
    (header_form (with_header false (item (Trees.Name (97 ∷ []) Load) (Some (Trees.Name (98 ∷ []) Store)) ∷ [])) None) []
case_157 = refl

-- with a as * b : c
case_161 : read_line Py311 false (Word Key.With ∷ in_form (97 ∷ []) ∷ Word Key.As ∷ Op Sign.Star ∷ in_form (98 ∷ []) ∷ Op Sign.Colon ∷
    in_form (99 ∷ []) ∷ []) ≡ Found
    (header_form (with_header false (item (Trees.Name (97 ∷ []) Load) (Some (Trees.Starred (Trees.Name (98 ∷ []) Store) Store)) ∷ []))
    (Some (ExprOf (Trees.Name (99 ∷ []) Load) ∷ []))) []
case_161 = refl

-- with ( a as * b ) : c
case_163 : read_line Py311 false (Word Key.With ∷ Op Sign.LPar ∷ in_form (97 ∷ []) ∷ Word Key.As ∷ Op Sign.Star ∷ in_form (98 ∷ []) ∷ Op
    Sign.RPar ∷ Op Sign.Colon ∷ in_form (99 ∷ []) ∷ []) ≡ Found
    (header_form (with_header false (item (Trees.Name (97 ∷ []) Load) (Some (Trees.Starred (Trees.Name (98 ∷ []) Store) Store)) ∷ []))
    (Some (ExprOf (Trees.Name (99 ∷ []) Load) ∷ []))) []
case_163 = refl

-- with ( d ) . b as c : pass
case_166 : read_line Py311 false (Word Key.With ∷ Op Sign.LPar ∷ in_form (100 ∷ []) ∷ Op Sign.RPar ∷ Op Sign.Dot ∷ in_form (98 ∷ []) ∷ Word
    Key.As ∷ in_form (99 ∷ []) ∷ Op Sign.Colon ∷ Word Key.Pass ∷ []) ≡ Found
    (header_form (with_header false (item (Trees.Attribute (Trees.Name (100 ∷ []) Load) (98 ∷ []) Load) (Some (Trees.Name (99 ∷ []) Store))
    ∷ [])) (Some (Pass ∷ []))) []
case_166 = refl

-- with ( ) :
case_168 : read_line Py311 false (Word Key.With ∷ Op Sign.LPar ∷ Op Sign.RPar ∷ Op Sign.Colon ∷ []) ≡ Found
    (header_form (with_header false (item (Trees.Tuple Trees.no_exprs Load) None ∷ [])) None) []
case_168 = refl

-- @ z . b ( c )
case_170 : read_line Py311 false (Op Sign.At ∷ in_form (122 ∷ []) ∷ Op Sign.Dot ∷ in_form (98 ∷ []) ∷ Op Sign.LPar ∷ in_form (99 ∷ []) ∷ Op
    Sign.RPar ∷ []) ≡ Found
    (decorator_form (Trees.Call (Trees.Attribute (Trees.Name (122 ∷ []) Load) (98 ∷ []) Load)
    (Trees.an_expr (Trees.Name (99 ∷ []) Load) Trees.no_exprs) Trees.no_keyword)) []
case_170 = refl

-- if lambda : c : y
case_171 : read_line Py311 false (Word Key.If ∷ Word Key.Lambda ∷ Op Sign.Colon ∷ in_form (99 ∷ []) ∷ Op Sign.Colon ∷ in_form (121 ∷ []) ∷
    []) ≡ Found (header_form
    (if_header (Trees.Lambda (Trees.arguments Trees.no_arg Trees.no_arg Trees.absent_arg Trees.no_arg Trees.no_optional Trees.absent_arg
    Trees.no_exprs) (Trees.Name (99 ∷ []) Load))) (Some (ExprOf (Trees.Name (121 ∷ []) Load) ∷ []))) []
case_171 = refl

-- def f ( ) : pass
case_177 : read_line Py311 false (Word Key.Def ∷ in_form (102 ∷ []) ∷ Op Sign.LPar ∷ Op Sign.RPar ∷ Op Sign.Colon ∷ Word Key.Pass ∷ []) ≡
    Found (header_form (def_header
    (function_head false (102 ∷ []) [] (Trees.arguments Trees.no_arg Trees.no_arg Trees.absent_arg Trees.no_arg Trees.no_optional
    Trees.absent_arg Trees.no_exprs) None)) (Some (Pass ∷ []))) []
case_177 = refl

-- for x in y : a
case_178 : read_line Py311 false (Word Key.For ∷ in_form (120 ∷ []) ∷ Word Key.In ∷ in_form (121 ∷ []) ∷ Op Sign.Colon ∷ in_form (97 ∷ []) ∷
    []) ≡ Found (header_form (loop_header (for_head false (Trees.Name (120 ∷ []) Store) (Trees.Name (121 ∷ []) Load)))
    (Some (ExprOf (Trees.Name (97 ∷ []) Load) ∷ []))) []
case_178 = refl

-- for x in y : z ; return w ;
case_187 : read_line Py311 false (Word Key.For ∷ in_form (120 ∷ []) ∷ Word Key.In ∷ in_form (121 ∷ []) ∷ Op Sign.Colon ∷ in_form (122 ∷ [])
    ∷ Op Sign.Semi ∷ Word Key.Return ∷ in_form (119 ∷ []) ∷ Op Sign.Semi ∷ []) ≡ Found
    (header_form (loop_header (for_head false (Trees.Name (120 ∷ []) Store) (Trees.Name (121 ∷ []) Load)))
    (Some (ExprOf (Trees.Name (122 ∷ []) Load) ∷ Return (Some (Trees.Name (119 ∷ []) Load)) ∷ []))) []
case_187 = refl

-- async for x in y : pass
case_188 : read_line Py311 false (Word Key.Async ∷ Word Key.For ∷ in_form (120 ∷ []) ∷ Word Key.In ∷ in_form (121 ∷ []) ∷ Op Sign.Colon ∷
    Word Key.Pass ∷ []) ≡ Found
    (header_form (loop_header (for_head true (Trees.Name (120 ∷ []) Store) (Trees.Name (121 ∷ []) Load))) (Some (Pass ∷ []))) []
case_188 = refl

-- with ( a , ) + c : d
case_189 : read_line Py311 false (Word Key.With ∷ Op Sign.LPar ∷ in_form (97 ∷ []) ∷ Op Sign.Comma ∷ Op Sign.RPar ∷ Op Sign.Plus ∷ in_form
    (99 ∷ []) ∷ Op Sign.Colon ∷ in_form (100 ∷ []) ∷ []) ≡ Found
    (header_form (with_header false (item (Trees.BinOp (Trees.Tuple (Trees.an_expr (Trees.Name (97 ∷ []) Load) Trees.no_exprs) Load) Bin.Add
    (Trees.Name (99 ∷ []) Load)) None ∷ [])) (Some (ExprOf (Trees.Name (100 ∷ []) Load) ∷ []))) []
case_189 = refl

-- with a ( b , c ) : d
case_192 : read_line Py311 false (Word Key.With ∷ in_form (97 ∷ []) ∷ Op Sign.LPar ∷ in_form (98 ∷ []) ∷ Op Sign.Comma ∷ in_form (99 ∷ []) ∷
    Op Sign.RPar ∷ Op Sign.Colon ∷ in_form (100 ∷ []) ∷ []) ≡ Found
    (header_form (with_header false
    (item (Trees.Call (Trees.Name (97 ∷ []) Load)
    (Trees.an_expr (Trees.Name (98 ∷ []) Load) (Trees.an_expr (Trees.Name (99 ∷ []) Load) Trees.no_exprs)) Trees.no_keyword) None ∷ []))
    (Some (ExprOf (Trees.Name (100 ∷ []) Load) ∷ []))) []
case_192 = refl

-- with lambda : ( ) : b
case_193 : read_line Py311 false (Word Key.With ∷ Word Key.Lambda ∷ Op Sign.Colon ∷ Op Sign.LPar ∷ Op Sign.RPar ∷ Op Sign.Colon ∷ in_form
    (98 ∷ []) ∷ []) ≡ Found
    (header_form (with_header false
    (item (Trees.Lambda (Trees.arguments Trees.no_arg Trees.no_arg Trees.absent_arg Trees.no_arg Trees.no_optional Trees.absent_arg
    Trees.no_exprs) (Trees.Tuple Trees.no_exprs Load)) None ∷ [])) (Some (ExprOf (Trees.Name (98 ∷ []) Load) ∷ []))) []
case_193 = refl

-- with ( a := b , ) : pass
case_195 : read_line Py311 false (Word Key.With ∷ Op Sign.LPar ∷ in_form (97 ∷ []) ∷ Op Sign.ColonEqual ∷ in_form (98 ∷ []) ∷ Op Sign.Comma
    ∷ Op Sign.RPar ∷ Op Sign.Colon ∷ Word Key.Pass ∷ []) ≡ Found
    (header_form (with_header false
    (item (Trees.Tuple (Trees.an_expr (Trees.NamedExpr (Trees.Name (97 ∷ []) Store) (Trees.Name (98 ∷ []) Load)) Trees.no_exprs) Load) None
    ∷ [])) (Some (Pass ∷ []))) []
case_195 = refl

-- while x : pass
case_196 : read_line Py311 false (Word Key.While ∷ in_form (120 ∷ []) ∷ Op Sign.Colon ∷ Word Key.Pass ∷ []) ≡ Found
    (header_form (loop_header (while_head (Trees.Name (120 ∷ []) Load))) (Some (Pass ∷ []))) []
case_196 = refl

-- class C ( 1 , b ) : pass
case_197 : read_line Py311 false (Word Key.Class ∷ in_form (67 ∷ []) ∷ Op Sign.LPar ∷ whole 1 ∷ Op Sign.Comma ∷ in_form (98 ∷ []) ∷ Op
    Sign.RPar ∷ Op Sign.Colon ∷ Word Key.Pass ∷ []) ≡ Found
    (header_form (def_header (class_head (67 ∷ []) [] ((Trees.Constant (Values.Int 1)) ∷ (Trees.Name (98 ∷ []) Load) ∷ [])
    Trees.no_keyword)) (Some (Pass ∷ []))) []
case_197 = refl

-- try :
case_198 : read_line Py311 false (Word Key.Try ∷ Op Sign.Colon ∷ []) ≡ Found (header_form (try_header) None) []
case_198 = refl

-- if x : a
case_199 : read_line Py311 false (Word Key.If ∷ in_form (120 ∷ []) ∷ Op Sign.Colon ∷ in_form (97 ∷ []) ∷ []) ≡ Found
    (header_form (if_header (Trees.Name (120 ∷ []) Load)) (Some (ExprOf (Trees.Name (97 ∷ []) Load) ∷ []))) []
case_199 = refl
