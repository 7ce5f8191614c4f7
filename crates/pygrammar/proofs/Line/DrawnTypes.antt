-- Lists of terminals drawn at random: the reader computes their forms with
-- types, or that they have none.
--
-- Carries: no contract; its rows are computed as it is checked.
use Rattle.std.proofs.Common.{◌≡◌, refl, [], ◌∷◌, Some, None, true, false}
use Rattle.pylex_lexeme.specs.declared.kinds.Exact.TheVariants as Sign
use Rattle.pytoken.specs.declared.keywords.Keyword.TheVariants as Key
use Rattle.pytree_node.specs.declared.operators.Operator.TheVariants as Bin
use Rattle.pytree_node.specs.declared.operators.Context.TheVariants.{Load, Store}
use Rattle.pytree_node.specs.Profiles.{plain_311 as Py311, plain_312 as Py312}
use Rattle.pytree_node.specs.Trees as Trees
use Rattle.pytree_node.specs.Values as Values
use Rattle.pytoken.specs.Terminals.{Op, Word, in_form, whole}
use Rattle.pygrammar.specs.Reader.{Found, NoForm}
use Rattle.pytree_node.specs.Trees.{TypeVar, ParamSpec, TypeAlias, Assign, AugAssign, AnnAssign, ExprOf, Pass}
use Rattle.pygrammar.specs.Lines.{simple_form, header_form, if_header, def_header, function_head, class_head}
use Rattle.pygrammar.specs.LineReader.{read_line}

-- type X = y
case_0 : read_line Py312 false (in_form (116 ∷ 121 ∷ 112 ∷ 101 ∷ []) ∷ in_form (88 ∷ []) ∷ Op Sign.Equal ∷ in_form (121 ∷ []) ∷ []) ≡ Found
    (simple_form (TypeAlias (Trees.Name (88 ∷ []) Store) ([]) (Trees.Name (121 ∷ []) Load) ∷ [])) []
case_0 = refl

old_0 : read_line Py311 false (in_form (116 ∷ 121 ∷ 112 ∷ 101 ∷ []) ∷ in_form (88 ∷ []) ∷ Op Sign.Equal ∷ in_form (121 ∷ []) ∷ []) ≡ NoForm
old_0 = refl

-- lambda
case_1 : read_line Py312 false (Word Key.Lambda ∷ []) ≡ NoForm
case_1 = refl

-- class [ T ] : pass
case_2 : read_line Py312 false (Word Key.Class ∷ Op Sign.LSqb ∷ in_form (84 ∷ []) ∷ Op Sign.RSqb ∷ Op Sign.Colon ∷ Word Key.Pass ∷ []) ≡
    NoForm
case_2 = refl

-- class C type ( B ) : x = y
case_3 : read_line Py312 false (Word Key.Class ∷ in_form (67 ∷ []) ∷ in_form (116 ∷ 121 ∷ 112 ∷ 101 ∷ []) ∷ Op Sign.LPar ∷ in_form (66 ∷ [])
    ∷ Op Sign.RPar ∷ Op Sign.Colon ∷ in_form (120 ∷ []) ∷ Op Sign.Equal ∷ in_form (121 ∷ []) ∷ []) ≡ NoForm
case_3 = refl

-- def f [ int , * Ts , ** P ] = y
case_4 : read_line Py312 false (Word Key.Def ∷ in_form (102 ∷ []) ∷ Op Sign.LSqb ∷ in_form (105 ∷ 110 ∷ 116 ∷ []) ∷ Op Sign.Comma ∷ Op
    Sign.Star ∷ in_form (84 ∷ 115 ∷ []) ∷ Op Sign.Comma ∷ Op Sign.DoubleStar ∷ in_form (80 ∷ []) ∷ Op Sign.RSqb ∷ Op Sign.Equal ∷ in_form
    (121 ∷ []) ∷ []) ≡ NoForm
case_4 = refl

-- type : = type
case_5 : read_line Py312 false (in_form (116 ∷ 121 ∷ 112 ∷ 101 ∷ []) ∷ Op Sign.Colon ∷ Op Sign.Equal ∷ in_form
    (116 ∷ 121 ∷ 112 ∷ 101 ∷ []) ∷ []) ≡ NoForm
case_5 = refl

-- x , [ y ] = z X , ] ( ) : pass
case_6 : read_line Py312 false (in_form (120 ∷ []) ∷ Op Sign.Comma ∷ Op Sign.LSqb ∷ in_form (121 ∷ []) ∷ Op Sign.RSqb ∷ Op Sign.Equal ∷
    in_form (122 ∷ []) ∷ in_form (88 ∷ []) ∷ Op Sign.Comma ∷ Op Sign.RSqb ∷ Op Sign.LPar ∷ Op Sign.RPar ∷ Op Sign.Colon ∷
    Word Key.Pass ∷ []) ≡ NoForm
case_6 = refl

-- class T ( ) :
case_7 : read_line Py312 false (Word Key.Class ∷ in_form (84 ∷ []) ∷ Op Sign.LPar ∷ Op Sign.RPar ∷ Op Sign.Colon ∷ []) ≡ Found
    (header_form (def_header (class_head (84 ∷ []) ([]) ([]) Trees.no_keyword)) None) []
case_7 = refl

old_7 : read_line Py311 false (Word Key.Class ∷ in_form (84 ∷ []) ∷ Op Sign.LPar ∷ Op Sign.RPar ∷ Op Sign.Colon ∷ []) ≡ Found
    (header_form (def_header (class_head (84 ∷ []) ([]) ([]) Trees.no_keyword)) None) []
old_7 = refl

-- type += if
case_8 : read_line Py312 false (in_form (116 ∷ 121 ∷ 112 ∷ 101 ∷ []) ∷ Op Sign.PlusEqual ∷ Word Key.If ∷ []) ≡ NoForm
case_8 = refl

-- type y
case_9 : read_line Py312 false (in_form (116 ∷ 121 ∷ 112 ∷ 101 ∷ []) ∷ in_form (121 ∷ []) ∷ []) ≡ NoForm
case_9 = refl

-- type yield ) ] = y
case_10 : read_line Py312 false (in_form (116 ∷ 121 ∷ 112 ∷ 101 ∷ []) ∷ Word Key.Yield ∷ Op Sign.RPar ∷ Op Sign.RSqb ∷ Op Sign.Equal ∷
    in_form (121 ∷ []) ∷ []) ≡ NoForm
case_10 = refl

-- class C : = type
case_11 : read_line Py312 false (Word Key.Class ∷ in_form (67 ∷ []) ∷ Op Sign.Colon ∷ Op Sign.Equal ∷ in_form
    (116 ∷ 121 ∷ 112 ∷ 101 ∷ []) ∷ []) ≡ NoForm
case_11 = refl

-- type X [ T a , ] = y
case_12 : read_line Py312 false (in_form (116 ∷ 121 ∷ 112 ∷ 101 ∷ []) ∷ in_form (88 ∷ []) ∷ Op Sign.LSqb ∷ in_form (84 ∷ []) ∷ in_form
    (97 ∷ []) ∷ Op Sign.Comma ∷ Op Sign.RSqb ∷ Op Sign.Equal ∷ in_form (121 ∷ []) ∷ []) ≡ NoForm
case_12 = refl

-- ] : type , X ] y
case_13 : read_line Py312 false (Op Sign.RSqb ∷ Op Sign.Colon ∷ in_form (116 ∷ 121 ∷ 112 ∷ 101 ∷ []) ∷ Op Sign.Comma ∷ in_form (88 ∷ []) ∷
    Op Sign.RSqb ∷ in_form (121 ∷ []) ∷ []) ≡ NoForm
case_13 = refl

-- , [ y ] = z
case_14 : read_line Py312 false (Op Sign.Comma ∷ Op Sign.LSqb ∷ in_form (121 ∷ []) ∷ Op Sign.RSqb ∷ Op Sign.Equal ∷ in_form
    (122 ∷ []) ∷ []) ≡ NoForm
case_14 = refl

-- type [ a : T , * b : y ) -> T :
case_15 : read_line Py312 false (in_form (116 ∷ 121 ∷ 112 ∷ 101 ∷ []) ∷ Op Sign.LSqb ∷ in_form (97 ∷ []) ∷ Op Sign.Colon ∷ in_form (84 ∷ [])
    ∷ Op Sign.Comma ∷ Op Sign.Star ∷ in_form (98 ∷ []) ∷ Op Sign.Colon ∷ in_form (121 ∷ []) ∷ Op Sign.RPar ∷ Op Sign.RArrow ∷ in_form
    (84 ∷ []) ∷ Op Sign.Colon ∷ []) ≡ NoForm
case_15 = refl

-- class ( ) : pass
case_16 : read_line Py312 false (Word Key.Class ∷ Op Sign.LPar ∷ Op Sign.RPar ∷ Op Sign.Colon ∷ Word Key.Pass ∷ []) ≡ NoForm
case_16 = refl

-- async def f [ * Ts , [ ( ) : pass
case_17 : read_line Py312 false (Word Key.Async ∷ Word Key.Def ∷ in_form (102 ∷ []) ∷ Op Sign.LSqb ∷ Op Sign.Star ∷ in_form (84 ∷ 115 ∷ [])
    ∷ Op Sign.Comma ∷ Op Sign.LSqb ∷ Op Sign.LPar ∷ Op Sign.RPar ∷ Op Sign.Colon ∷ Word Key.Pass ∷ []) ≡ NoForm
case_17 = refl

-- class C : . [
case_18 : read_line Py312 false (Word Key.Class ∷ in_form (67 ∷ []) ∷ Op Sign.Colon ∷ Op Sign.Dot ∷ Op Sign.LSqb ∷ []) ≡ NoForm
case_18 = refl

-- type X
case_19 : read_line Py312 false (in_form (116 ∷ 121 ∷ 112 ∷ 101 ∷ []) ∷ in_form (88 ∷ []) ∷ []) ≡ NoForm
case_19 = refl

-- class x ( B b : x = y
case_20 : read_line Py312 false (Word Key.Class ∷ in_form (120 ∷ []) ∷ Op Sign.LPar ∷ in_form (66 ∷ []) ∷ in_form (98 ∷ []) ∷ Op Sign.Colon
    ∷ in_form (120 ∷ []) ∷ Op Sign.Equal ∷ in_form (121 ∷ []) ∷ []) ≡ NoForm
case_20 = refl

-- = class int C [ T ] ( ) :
case_21 : read_line Py312 false (Op Sign.Equal ∷ Word Key.Class ∷ in_form (105 ∷ 110 ∷ 116 ∷ []) ∷ in_form (67 ∷ []) ∷ Op Sign.LSqb ∷
    in_form (84 ∷ []) ∷ Op Sign.RSqb ∷ Op Sign.LPar ∷ Op Sign.RPar ∷ Op Sign.Colon ∷ []) ≡ NoForm
case_21 = refl

-- if x : type X = [ x ] = y
case_22 : read_line Py312 false (Word Key.If ∷ in_form (120 ∷ []) ∷ Op Sign.Colon ∷ in_form (116 ∷ 121 ∷ 112 ∷ 101 ∷ []) ∷ in_form (88 ∷ [])
    ∷ Op Sign.Equal ∷ Op Sign.LSqb ∷ in_form (120 ∷ []) ∷ Op Sign.RSqb ∷ Op Sign.Equal ∷ in_form (121 ∷ []) ∷ []) ≡ NoForm
case_22 = refl

-- : : y , U ] pass
case_23 : read_line Py312 false (Op Sign.Colon ∷ Op Sign.Colon ∷ in_form (121 ∷ []) ∷ Op Sign.Comma ∷ in_form (85 ∷ []) ∷ Op Sign.RSqb ∷
    Word Key.Pass ∷ []) ≡ NoForm
case_23 = refl

-- def type [ a ) : pass
case_24 : read_line Py312 false (Word Key.Def ∷ in_form (116 ∷ 121 ∷ 112 ∷ 101 ∷ []) ∷ Op Sign.LSqb ∷ in_form (97 ∷ []) ∷ Op Sign.RPar ∷ Op
    Sign.Colon ∷ Word Key.Pass ∷ []) ≡ NoForm
case_24 = refl

-- type ( ] x ) y ) : pass
case_25 : read_line Py312 false (in_form (116 ∷ 121 ∷ 112 ∷ 101 ∷ []) ∷ Op Sign.LPar ∷ Op Sign.RSqb ∷ in_form (120 ∷ []) ∷ Op Sign.RPar ∷
    in_form (121 ∷ []) ∷ Op Sign.RPar ∷ Op Sign.Colon ∷ Word Key.Pass ∷ []) ≡ NoForm
case_25 = refl

-- class type [ T ] : type X , = y
case_26 : read_line Py312 false (Word Key.Class ∷ in_form (116 ∷ 121 ∷ 112 ∷ 101 ∷ []) ∷ Op Sign.LSqb ∷ in_form (84 ∷ []) ∷ Op Sign.RSqb ∷
    Op Sign.Colon ∷ in_form (116 ∷ 121 ∷ 112 ∷ 101 ∷ []) ∷ in_form (88 ∷ []) ∷ Op Sign.Comma ∷ Op Sign.Equal ∷ in_form (121 ∷ []) ∷ []) ≡
    NoForm
case_26 = refl

-- type int . x = y = z
case_27 : read_line Py312 false (in_form (116 ∷ 121 ∷ 112 ∷ 101 ∷ []) ∷ in_form (105 ∷ 110 ∷ 116 ∷ []) ∷ Op Sign.Dot ∷ in_form (120 ∷ []) ∷
    Op Sign.Equal ∷ in_form (121 ∷ []) ∷ Op Sign.Equal ∷ in_form (122 ∷ []) ∷ []) ≡ NoForm
case_27 = refl

-- class C [ T = y ; z
case_28 : read_line Py312 false (Word Key.Class ∷ in_form (67 ∷ []) ∷ Op Sign.LSqb ∷ in_form (84 ∷ []) ∷ Op Sign.Equal ∷ in_form (121 ∷ [])
    ∷ Op Sign.Semi ∷ in_form (122 ∷ []) ∷ []) ≡ NoForm
case_28 = refl

-- class C [ T ] :
case_29 : read_line Py312 false (Word Key.Class ∷ in_form (67 ∷ []) ∷ Op Sign.LSqb ∷ in_form (84 ∷ []) ∷ Op Sign.RSqb ∷ Op Sign.Colon ∷ [])
    ≡ Found (header_form (def_header (class_head (67 ∷ []) (TypeVar (84 ∷ []) None ∷ []) ([]) Trees.no_keyword)) None) []
case_29 = refl

old_29 : read_line Py311 false (Word Key.Class ∷ in_form (67 ∷ []) ∷ Op Sign.LSqb ∷ in_form (84 ∷ []) ∷ Op Sign.RSqb ∷ Op Sign.Colon ∷ []) ≡
    NoForm
old_29 = refl

-- type += x
case_30 : read_line Py312 false (in_form (116 ∷ 121 ∷ 112 ∷ 101 ∷ []) ∷ Op Sign.PlusEqual ∷ in_form (120 ∷ []) ∷ []) ≡ Found
    (simple_form (AugAssign (Trees.Name (116 ∷ 121 ∷ 112 ∷ 101 ∷ []) Store) Bin.Add (Trees.Name (120 ∷ []) Load) ∷ [])) []
case_30 = refl

old_30 : read_line Py311 false (in_form (116 ∷ 121 ∷ 112 ∷ 101 ∷ []) ∷ Op Sign.PlusEqual ∷ in_form (120 ∷ []) ∷ []) ≡ Found
    (simple_form (AugAssign (Trees.Name (116 ∷ 121 ∷ 112 ∷ 101 ∷ []) Store) Bin.Add (Trees.Name (120 ∷ []) Load) ∷ [])) []
old_30 = refl

-- class b [ T ] : pass
case_31 : read_line Py312 false (Word Key.Class ∷ in_form (98 ∷ []) ∷ Op Sign.LSqb ∷ in_form (84 ∷ []) ∷ Op Sign.RSqb ∷ Op Sign.Colon ∷ Word
    Key.Pass ∷ []) ≡ Found
    (header_form (def_header (class_head (98 ∷ []) (TypeVar (84 ∷ []) None ∷ []) ([]) Trees.no_keyword)) (Some (Pass ∷ []))) []
case_31 = refl

old_31 : read_line Py311 false (Word Key.Class ∷ in_form (98 ∷ []) ∷ Op Sign.LSqb ∷ in_form (84 ∷ []) ∷ Op Sign.RSqb ∷ Op Sign.Colon ∷
    Word Key.Pass ∷ []) ≡ NoForm
old_31 = refl

-- type X = int
case_32 : read_line Py312 false (in_form (116 ∷ 121 ∷ 112 ∷ 101 ∷ []) ∷ in_form (88 ∷ []) ∷ Op Sign.Equal ∷ in_form (105 ∷ 110 ∷ 116 ∷ []) ∷
    []) ≡ Found (simple_form (TypeAlias (Trees.Name (88 ∷ []) Store) ([]) (Trees.Name (105 ∷ 110 ∷ 116 ∷ []) Load) ∷ [])) []
case_32 = refl

old_32 : read_line Py311 false (in_form (116 ∷ 121 ∷ 112 ∷ 101 ∷ []) ∷ in_form (88 ∷ []) ∷ Op Sign.Equal ∷ in_form
    (105 ∷ 110 ∷ 116 ∷ []) ∷ []) ≡ NoForm
old_32 = refl

-- type x [ y ] = type
case_33 : read_line Py312 false (in_form (116 ∷ 121 ∷ 112 ∷ 101 ∷ []) ∷ in_form (120 ∷ []) ∷ Op Sign.LSqb ∷ in_form (121 ∷ []) ∷ Op
    Sign.RSqb ∷ Op Sign.Equal ∷ in_form (116 ∷ 121 ∷ 112 ∷ 101 ∷ []) ∷ []) ≡ Found
    (simple_form (TypeAlias (Trees.Name (120 ∷ []) Store) (TypeVar (121 ∷ []) None ∷ [])
    (Trees.Name (116 ∷ 121 ∷ 112 ∷ 101 ∷ []) Load) ∷ [])) []
case_33 = refl

old_33 : read_line Py311 false (in_form (116 ∷ 121 ∷ 112 ∷ 101 ∷ []) ∷ in_form (120 ∷ []) ∷ Op Sign.LSqb ∷ in_form (121 ∷ []) ∷ Op Sign.RSqb
    ∷ Op Sign.Equal ∷ in_form (116 ∷ 121 ∷ 112 ∷ 101 ∷ []) ∷ []) ≡ NoForm
old_33 = refl

-- [ ] = z
case_34 : read_line Py312 false (Op Sign.LSqb ∷ Op Sign.RSqb ∷ Op Sign.Equal ∷ in_form (122 ∷ []) ∷ []) ≡ Found
    (simple_form (Assign ((Trees.ListOf Trees.no_exprs Store) ∷ []) (Trees.Name (122 ∷ []) Load) ∷ [])) []
case_34 = refl

old_34 : read_line Py311 false (Op Sign.LSqb ∷ Op Sign.RSqb ∷ Op Sign.Equal ∷ in_form (122 ∷ []) ∷ []) ≡ Found
    (simple_form (Assign ((Trees.ListOf Trees.no_exprs Store) ∷ []) (Trees.Name (122 ∷ []) Load) ∷ [])) []
old_34 = refl

-- type x [ T ] = y
case_35 : read_line Py312 false (in_form (116 ∷ 121 ∷ 112 ∷ 101 ∷ []) ∷ in_form (120 ∷ []) ∷ Op Sign.LSqb ∷ in_form (84 ∷ []) ∷ Op Sign.RSqb
    ∷ Op Sign.Equal ∷ in_form (121 ∷ []) ∷ []) ≡ Found
    (simple_form (TypeAlias (Trees.Name (120 ∷ []) Store) (TypeVar (84 ∷ []) None ∷ []) (Trees.Name (121 ∷ []) Load) ∷ [])) []
case_35 = refl

old_35 : read_line Py311 false (in_form (116 ∷ 121 ∷ 112 ∷ 101 ∷ []) ∷ in_form (120 ∷ []) ∷ Op Sign.LSqb ∷ in_form (84 ∷ []) ∷ Op Sign.RSqb
    ∷ Op Sign.Equal ∷ in_form (121 ∷ []) ∷ []) ≡ NoForm
old_35 = refl

-- type X [ T ] = z [ T ]
case_36 : read_line Py312 false (in_form (116 ∷ 121 ∷ 112 ∷ 101 ∷ []) ∷ in_form (88 ∷ []) ∷ Op Sign.LSqb ∷ in_form (84 ∷ []) ∷ Op Sign.RSqb
    ∷ Op Sign.Equal ∷ in_form (122 ∷ []) ∷ Op Sign.LSqb ∷ in_form (84 ∷ []) ∷ Op Sign.RSqb ∷ []) ≡ Found
    (simple_form (TypeAlias (Trees.Name (88 ∷ []) Store) (TypeVar (84 ∷ []) None ∷ [])
    (Trees.Subscript (Trees.Name (122 ∷ []) Load) (Trees.Name (84 ∷ []) Load) Load) ∷ [])) []
case_36 = refl

old_36 : read_line Py311 false (in_form (116 ∷ 121 ∷ 112 ∷ 101 ∷ []) ∷ in_form (88 ∷ []) ∷ Op Sign.LSqb ∷ in_form (84 ∷ []) ∷ Op Sign.RSqb ∷
    Op Sign.Equal ∷ in_form (122 ∷ []) ∷ Op Sign.LSqb ∷ in_form (84 ∷ []) ∷ Op Sign.RSqb ∷ []) ≡ NoForm
old_36 = refl

-- [ x ] = y
case_37 : read_line Py312 false (Op Sign.LSqb ∷ in_form (120 ∷ []) ∷ Op Sign.RSqb ∷ Op Sign.Equal ∷ in_form (121 ∷ []) ∷ []) ≡ Found
    (simple_form (Assign ((Trees.ListOf (Trees.an_expr (Trees.Name (120 ∷ []) Store) Trees.no_exprs) Store) ∷ [])
    (Trees.Name (121 ∷ []) Load) ∷ [])) []
case_37 = refl

old_37 : read_line Py311 false (Op Sign.LSqb ∷ in_form (120 ∷ []) ∷ Op Sign.RSqb ∷ Op Sign.Equal ∷ in_form (121 ∷ []) ∷ []) ≡ Found
    (simple_form (Assign ((Trees.ListOf (Trees.an_expr (Trees.Name (120 ∷ []) Store) Trees.no_exprs) Store) ∷ [])
    (Trees.Name (121 ∷ []) Load) ∷ [])) []
old_37 = refl

-- y
case_38 : read_line Py312 false (in_form (121 ∷ []) ∷ []) ≡ Found (simple_form (ExprOf (Trees.Name (121 ∷ []) Load) ∷ [])) []
case_38 = refl

old_38 : read_line Py311 false (in_form (121 ∷ []) ∷ []) ≡ Found (simple_form (ExprOf (Trees.Name (121 ∷ []) Load) ∷ [])) []
old_38 = refl

-- type ( x ) ,
case_39 : read_line Py312 false (in_form (116 ∷ 121 ∷ 112 ∷ 101 ∷ []) ∷ Op Sign.LPar ∷ in_form (120 ∷ []) ∷ Op Sign.RPar ∷ Op Sign.Comma ∷
    []) ≡ Found (simple_form
    (ExprOf (Trees.Tuple
    (Trees.an_expr (Trees.Call (Trees.Name (116 ∷ 121 ∷ 112 ∷ 101 ∷ []) Load) (Trees.an_expr (Trees.Name (120 ∷ []) Load) Trees.no_exprs)
    Trees.no_keyword) Trees.no_exprs) Load) ∷ [])) []
case_39 = refl

old_39 : read_line Py311 false (in_form (116 ∷ 121 ∷ 112 ∷ 101 ∷ []) ∷ Op Sign.LPar ∷ in_form (120 ∷ []) ∷ Op Sign.RPar ∷ Op Sign.Comma ∷
    []) ≡ Found (simple_form
    (ExprOf (Trees.Tuple
    (Trees.an_expr (Trees.Call (Trees.Name (116 ∷ 121 ∷ 112 ∷ 101 ∷ []) Load) (Trees.an_expr (Trees.Name (120 ∷ []) Load) Trees.no_exprs)
    Trees.no_keyword) Trees.no_exprs) Load) ∷ [])) []
old_39 = refl

-- type X [ T : int * Ts , ** P ] = y
case_40 : read_line Py312 false (in_form (116 ∷ 121 ∷ 112 ∷ 101 ∷ []) ∷ in_form (88 ∷ []) ∷ Op Sign.LSqb ∷ in_form (84 ∷ []) ∷ Op Sign.Colon
    ∷ in_form (105 ∷ 110 ∷ 116 ∷ []) ∷ Op Sign.Star ∷ in_form (84 ∷ 115 ∷ []) ∷ Op Sign.Comma ∷ Op Sign.DoubleStar ∷ in_form (80 ∷ []) ∷ Op
    Sign.RSqb ∷ Op Sign.Equal ∷ in_form (121 ∷ []) ∷ []) ≡ Found
    (simple_form (TypeAlias (Trees.Name (88 ∷ []) Store)
    (TypeVar (84 ∷ []) (Some (Trees.BinOp (Trees.Name (105 ∷ 110 ∷ 116 ∷ []) Load) Bin.Mult (Trees.Name (84 ∷ 115 ∷ []) Load))) ∷ ParamSpec
    (80 ∷ []) ∷ []) (Trees.Name (121 ∷ []) Load) ∷ [])) []
case_40 = refl

old_40 : read_line Py311 false (in_form (116 ∷ 121 ∷ 112 ∷ 101 ∷ []) ∷ in_form (88 ∷ []) ∷ Op Sign.LSqb ∷ in_form (84 ∷ []) ∷ Op Sign.Colon
    ∷ in_form (105 ∷ 110 ∷ 116 ∷ []) ∷ Op Sign.Star ∷ in_form (84 ∷ 115 ∷ []) ∷ Op Sign.Comma ∷ Op Sign.DoubleStar ∷ in_form (80 ∷ []) ∷ Op
    Sign.RSqb ∷ Op Sign.Equal ∷ in_form (121 ∷ []) ∷ []) ≡ NoForm
old_40 = refl

-- X [ T : lambda : y , U ] = z
case_41 : read_line Py312 false (in_form (88 ∷ []) ∷ Op Sign.LSqb ∷ in_form (84 ∷ []) ∷ Op Sign.Colon ∷ Word Key.Lambda ∷ Op Sign.Colon ∷
    in_form (121 ∷ []) ∷ Op Sign.Comma ∷ in_form (85 ∷ []) ∷ Op Sign.RSqb ∷ Op Sign.Equal ∷ in_form (122 ∷ []) ∷ []) ≡ Found
    (simple_form (Assign
    ((Trees.Subscript (Trees.Name (88 ∷ []) Load)
    (Trees.Tuple (Trees.an_expr (Trees.Slice (Trees.present (Trees.Name (84 ∷ []) Load))
    (Trees.present (Trees.Lambda (Trees.arguments Trees.no_arg Trees.no_arg Trees.absent_arg Trees.no_arg Trees.no_optional Trees.absent_arg
    Trees.no_exprs) (Trees.Name (121 ∷ []) Load))) Trees.absent) (Trees.an_expr (Trees.Name (85 ∷ []) Load) Trees.no_exprs)) Load) Store) ∷
    []) (Trees.Name (122 ∷ []) Load) ∷ [])) []
case_41 = refl

old_41 : read_line Py311 false (in_form (88 ∷ []) ∷ Op Sign.LSqb ∷ in_form (84 ∷ []) ∷ Op Sign.Colon ∷ Word Key.Lambda ∷ Op Sign.Colon ∷
    in_form (121 ∷ []) ∷ Op Sign.Comma ∷ in_form (85 ∷ []) ∷ Op Sign.RSqb ∷ Op Sign.Equal ∷ in_form (122 ∷ []) ∷ []) ≡ Found
    (simple_form (Assign
    ((Trees.Subscript (Trees.Name (88 ∷ []) Load)
    (Trees.Tuple (Trees.an_expr (Trees.Slice (Trees.present (Trees.Name (84 ∷ []) Load))
    (Trees.present (Trees.Lambda (Trees.arguments Trees.no_arg Trees.no_arg Trees.absent_arg Trees.no_arg Trees.no_optional Trees.absent_arg
    Trees.no_exprs) (Trees.Name (121 ∷ []) Load))) Trees.absent) (Trees.an_expr (Trees.Name (85 ∷ []) Load) Trees.no_exprs)) Load) Store) ∷
    []) (Trees.Name (122 ∷ []) Load) ∷ [])) []
old_41 = refl

-- def f [ T : int , type ] ( type ) : type
case_42 : read_line Py312 false (Word Key.Def ∷ in_form (102 ∷ []) ∷ Op Sign.LSqb ∷ in_form (84 ∷ []) ∷ Op Sign.Colon ∷ in_form
    (105 ∷ 110 ∷ 116 ∷ []) ∷ Op Sign.Comma ∷ in_form (116 ∷ 121 ∷ 112 ∷ 101 ∷ []) ∷ Op Sign.RSqb ∷ Op Sign.LPar ∷ in_form
    (116 ∷ 121 ∷ 112 ∷ 101 ∷ []) ∷ Op Sign.RPar ∷ Op Sign.Colon ∷ in_form (116 ∷ 121 ∷ 112 ∷ 101 ∷ []) ∷ []) ≡ Found
    (header_form (def_header (function_head false (102 ∷ []) (TypeVar (84 ∷ []) (Some (Trees.Name (105 ∷ 110 ∷ 116 ∷ []) Load)) ∷ TypeVar
    (116 ∷ 121 ∷ 112 ∷ 101 ∷ []) None ∷ [])
    (Trees.arguments Trees.no_arg (Trees.an_arg (Trees.arg (116 ∷ 121 ∷ 112 ∷ 101 ∷ []) Trees.absent) Trees.no_arg) Trees.absent_arg
    Trees.no_arg Trees.no_optional Trees.absent_arg Trees.no_exprs) None))
    (Some (ExprOf (Trees.Name (116 ∷ 121 ∷ 112 ∷ 101 ∷ []) Load) ∷ []))) []
case_42 = refl

old_42 : read_line Py311 false (Word Key.Def ∷ in_form (102 ∷ []) ∷ Op Sign.LSqb ∷ in_form (84 ∷ []) ∷ Op Sign.Colon ∷ in_form
    (105 ∷ 110 ∷ 116 ∷ []) ∷ Op Sign.Comma ∷ in_form (116 ∷ 121 ∷ 112 ∷ 101 ∷ []) ∷ Op Sign.RSqb ∷ Op Sign.LPar ∷ in_form
    (116 ∷ 121 ∷ 112 ∷ 101 ∷ []) ∷ Op Sign.RPar ∷ Op Sign.Colon ∷ in_form (116 ∷ 121 ∷ 112 ∷ 101 ∷ []) ∷ []) ≡ NoForm
old_42 = refl

-- type : int = x
case_43 : read_line Py312 false (in_form (116 ∷ 121 ∷ 112 ∷ 101 ∷ []) ∷ Op Sign.Colon ∷ in_form (105 ∷ 110 ∷ 116 ∷ []) ∷ Op Sign.Equal ∷
    in_form (120 ∷ []) ∷ []) ≡ Found
    (simple_form (AnnAssign (Trees.Name (116 ∷ 121 ∷ 112 ∷ 101 ∷ []) Store) (Trees.Name (105 ∷ 110 ∷ 116 ∷ []) Load)
    (Some (Trees.Name (120 ∷ []) Load)) true ∷ [])) []
case_43 = refl

old_43 : read_line Py311 false (in_form (116 ∷ 121 ∷ 112 ∷ 101 ∷ []) ∷ Op Sign.Colon ∷ in_form (105 ∷ 110 ∷ 116 ∷ []) ∷ Op Sign.Equal ∷
    in_form (120 ∷ []) ∷ []) ≡ Found
    (simple_form (AnnAssign (Trees.Name (116 ∷ 121 ∷ 112 ∷ 101 ∷ []) Store) (Trees.Name (105 ∷ 110 ∷ 116 ∷ []) Load)
    (Some (Trees.Name (120 ∷ []) Load)) true ∷ [])) []
old_43 = refl

-- type type = type
case_44 : read_line Py312 false (in_form (116 ∷ 121 ∷ 112 ∷ 101 ∷ []) ∷ in_form (116 ∷ 121 ∷ 112 ∷ 101 ∷ []) ∷ Op Sign.Equal ∷ in_form
    (116 ∷ 121 ∷ 112 ∷ 101 ∷ []) ∷ []) ≡ Found
    (simple_form (TypeAlias (Trees.Name (116 ∷ 121 ∷ 112 ∷ 101 ∷ []) Store) ([]) (Trees.Name (116 ∷ 121 ∷ 112 ∷ 101 ∷ []) Load) ∷ [])) []
case_44 = refl

old_44 : read_line Py311 false (in_form (116 ∷ 121 ∷ 112 ∷ 101 ∷ []) ∷ in_form (116 ∷ 121 ∷ 112 ∷ 101 ∷ []) ∷ Op Sign.Equal ∷ in_form
    (116 ∷ 121 ∷ 112 ∷ 101 ∷ []) ∷ []) ≡ NoForm
old_44 = refl

-- type type = y [ T ]
case_45 : read_line Py312 false (in_form (116 ∷ 121 ∷ 112 ∷ 101 ∷ []) ∷ in_form (116 ∷ 121 ∷ 112 ∷ 101 ∷ []) ∷ Op Sign.Equal ∷ in_form
    (121 ∷ []) ∷ Op Sign.LSqb ∷ in_form (84 ∷ []) ∷ Op Sign.RSqb ∷ []) ≡ Found
    (simple_form (TypeAlias (Trees.Name (116 ∷ 121 ∷ 112 ∷ 101 ∷ []) Store) ([])
    (Trees.Subscript (Trees.Name (121 ∷ []) Load) (Trees.Name (84 ∷ []) Load) Load) ∷ [])) []
case_45 = refl

old_45 : read_line Py311 false (in_form (116 ∷ 121 ∷ 112 ∷ 101 ∷ []) ∷ in_form (116 ∷ 121 ∷ 112 ∷ 101 ∷ []) ∷ Op Sign.Equal ∷ in_form
    (121 ∷ []) ∷ Op Sign.LSqb ∷ in_form (84 ∷ []) ∷ Op Sign.RSqb ∷ []) ≡ NoForm
old_45 = refl

-- type = type
case_46 : read_line Py312 false (in_form (116 ∷ 121 ∷ 112 ∷ 101 ∷ []) ∷ Op Sign.Equal ∷ in_form (116 ∷ 121 ∷ 112 ∷ 101 ∷ []) ∷ []) ≡ Found
    (simple_form (Assign ((Trees.Name (116 ∷ 121 ∷ 112 ∷ 101 ∷ []) Store) ∷ []) (Trees.Name (116 ∷ 121 ∷ 112 ∷ 101 ∷ []) Load) ∷ [])) []
case_46 = refl

old_46 : read_line Py311 false (in_form (116 ∷ 121 ∷ 112 ∷ 101 ∷ []) ∷ Op Sign.Equal ∷ in_form (116 ∷ 121 ∷ 112 ∷ 101 ∷ []) ∷ []) ≡ Found
    (simple_form (Assign ((Trees.Name (116 ∷ 121 ∷ 112 ∷ 101 ∷ []) Store) ∷ []) (Trees.Name (116 ∷ 121 ∷ 112 ∷ 101 ∷ []) Load) ∷ [])) []
old_46 = refl

-- type X [ T : ( yield ) ] = y
case_47 : read_line Py312 false (in_form (116 ∷ 121 ∷ 112 ∷ 101 ∷ []) ∷ in_form (88 ∷ []) ∷ Op Sign.LSqb ∷ in_form (84 ∷ []) ∷ Op Sign.Colon
    ∷ Op Sign.LPar ∷ Word Key.Yield ∷ Op Sign.RPar ∷ Op Sign.RSqb ∷ Op Sign.Equal ∷ in_form (121 ∷ []) ∷ []) ≡ Found
    (simple_form (TypeAlias (Trees.Name (88 ∷ []) Store) (TypeVar (84 ∷ []) (Some (Trees.Yield Trees.absent)) ∷ [])
    (Trees.Name (121 ∷ []) Load) ∷ [])) []
case_47 = refl

old_47 : read_line Py311 false (in_form (116 ∷ 121 ∷ 112 ∷ 101 ∷ []) ∷ in_form (88 ∷ []) ∷ Op Sign.LSqb ∷ in_form (84 ∷ []) ∷ Op Sign.Colon
    ∷ Op Sign.LPar ∷ Word Key.Yield ∷ Op Sign.RPar ∷ Op Sign.RSqb ∷ Op Sign.Equal ∷ in_form (121 ∷ []) ∷ []) ≡ NoForm
old_47 = refl

-- x : X = y
case_48 : read_line Py312 false (in_form (120 ∷ []) ∷ Op Sign.Colon ∷ in_form (88 ∷ []) ∷ Op Sign.Equal ∷ in_form (121 ∷ []) ∷ []) ≡ Found
    (simple_form (AnnAssign (Trees.Name (120 ∷ []) Store) (Trees.Name (88 ∷ []) Load) (Some (Trees.Name (121 ∷ []) Load)) true ∷ [])) []
case_48 = refl

old_48 : read_line Py311 false (in_form (120 ∷ []) ∷ Op Sign.Colon ∷ in_form (88 ∷ []) ∷ Op Sign.Equal ∷ in_form (121 ∷ []) ∷ []) ≡ Found
    (simple_form (AnnAssign (Trees.Name (120 ∷ []) Store) (Trees.Name (88 ∷ []) Load) (Some (Trees.Name (121 ∷ []) Load)) true ∷ [])) []
old_48 = refl

-- X = lambda x : y
case_49 : read_line Py312 false (in_form (88 ∷ []) ∷ Op Sign.Equal ∷ Word Key.Lambda ∷ in_form (120 ∷ []) ∷ Op Sign.Colon ∷ in_form
    (121 ∷ []) ∷ []) ≡ Found
    (simple_form (Assign ((Trees.Name (88 ∷ []) Store) ∷ [])
    (Trees.Lambda (Trees.arguments Trees.no_arg (Trees.an_arg (Trees.arg (120 ∷ []) Trees.absent) Trees.no_arg) Trees.absent_arg
    Trees.no_arg Trees.no_optional Trees.absent_arg Trees.no_exprs) (Trees.Name (121 ∷ []) Load)) ∷ [])) []
case_49 = refl

old_49 : read_line Py311 false (in_form (88 ∷ []) ∷ Op Sign.Equal ∷ Word Key.Lambda ∷ in_form (120 ∷ []) ∷ Op Sign.Colon ∷ in_form
    (121 ∷ []) ∷ []) ≡ Found
    (simple_form (Assign ((Trees.Name (88 ∷ []) Store) ∷ [])
    (Trees.Lambda (Trees.arguments Trees.no_arg (Trees.an_arg (Trees.arg (120 ∷ []) Trees.absent) Trees.no_arg) Trees.absent_arg
    Trees.no_arg Trees.no_optional Trees.absent_arg Trees.no_exprs) (Trees.Name (121 ∷ []) Load)) ∷ [])) []
old_49 = refl

-- type type = 1
case_50 : read_line Py312 false (in_form (116 ∷ 121 ∷ 112 ∷ 101 ∷ []) ∷ in_form (116 ∷ 121 ∷ 112 ∷ 101 ∷ []) ∷ Op Sign.Equal ∷ whole 1 ∷ [])
    ≡ Found (simple_form (TypeAlias (Trees.Name (116 ∷ 121 ∷ 112 ∷ 101 ∷ []) Store) ([]) (Trees.Constant (Values.Int 1)) ∷ [])) []
case_50 = refl

old_50 : read_line Py311 false (in_form (116 ∷ 121 ∷ 112 ∷ 101 ∷ []) ∷ in_form (116 ∷ 121 ∷ 112 ∷ 101 ∷ []) ∷ Op Sign.Equal
    ∷ whole 1 ∷ []) ≡ NoForm
old_50 = refl

-- X = x ; z
case_51 : read_line Py312 false (in_form (88 ∷ []) ∷ Op Sign.Equal ∷ in_form (120 ∷ []) ∷ Op Sign.Semi ∷ in_form (122 ∷ []) ∷ []) ≡ Found
    (simple_form (Assign ((Trees.Name (88 ∷ []) Store) ∷ []) (Trees.Name (120 ∷ []) Load) ∷ ExprOf (Trees.Name (122 ∷ []) Load) ∷ [])) []
case_51 = refl

old_51 : read_line Py311 false (in_form (88 ∷ []) ∷ Op Sign.Equal ∷ in_form (120 ∷ []) ∷ Op Sign.Semi ∷ in_form (122 ∷ []) ∷ []) ≡ Found
    (simple_form (Assign ((Trees.Name (88 ∷ []) Store) ∷ []) (Trees.Name (120 ∷ []) Load) ∷ ExprOf (Trees.Name (122 ∷ []) Load) ∷ [])) []
old_51 = refl

-- async def f [ Ts , ] ( ) : pass
case_52 : read_line Py312 false (Word Key.Async ∷ Word Key.Def ∷ in_form (102 ∷ []) ∷ Op Sign.LSqb ∷ in_form (84 ∷ 115 ∷ []) ∷ Op Sign.Comma
    ∷ Op Sign.RSqb ∷ Op Sign.LPar ∷ Op Sign.RPar ∷ Op Sign.Colon ∷ Word Key.Pass ∷ []) ≡ Found
    (header_form (def_header (function_head true (102 ∷ []) (TypeVar (84 ∷ 115 ∷ []) None ∷ [])
    (Trees.arguments Trees.no_arg Trees.no_arg Trees.absent_arg Trees.no_arg Trees.no_optional Trees.absent_arg Trees.no_exprs) None))
    (Some (Pass ∷ []))) []
case_52 = refl

old_52 : read_line Py311 false (Word Key.Async ∷ Word Key.Def ∷ in_form (102 ∷ []) ∷ Op Sign.LSqb ∷ in_form (84 ∷ 115 ∷ []) ∷ Op Sign.Comma
    ∷ Op Sign.RSqb ∷ Op Sign.LPar ∷ Op Sign.RPar ∷ Op Sign.Colon ∷ Word Key.Pass ∷ []) ≡ NoForm
old_52 = refl

-- type += y
case_53 : read_line Py312 false (in_form (116 ∷ 121 ∷ 112 ∷ 101 ∷ []) ∷ Op Sign.PlusEqual ∷ in_form (121 ∷ []) ∷ []) ≡ Found
    (simple_form (AugAssign (Trees.Name (116 ∷ 121 ∷ 112 ∷ 101 ∷ []) Store) Bin.Add (Trees.Name (121 ∷ []) Load) ∷ [])) []
case_53 = refl

old_53 : read_line Py311 false (in_form (116 ∷ 121 ∷ 112 ∷ 101 ∷ []) ∷ Op Sign.PlusEqual ∷ in_form (121 ∷ []) ∷ []) ≡ Found
    (simple_form (AugAssign (Trees.Name (116 ∷ 121 ∷ 112 ∷ 101 ∷ []) Store) Bin.Add (Trees.Name (121 ∷ []) Load) ∷ [])) []
old_53 = refl

-- C
case_54 : read_line Py312 false (in_form (67 ∷ []) ∷ []) ≡ Found (simple_form (ExprOf (Trees.Name (67 ∷ []) Load) ∷ [])) []
case_54 = refl

old_54 : read_line Py311 false (in_form (67 ∷ []) ∷ []) ≡ Found (simple_form (ExprOf (Trees.Name (67 ∷ []) Load) ∷ [])) []
old_54 = refl

-- if x : X = type
case_55 : read_line Py312 false (Word Key.If ∷ in_form (120 ∷ []) ∷ Op Sign.Colon ∷ in_form (88 ∷ []) ∷ Op Sign.Equal ∷ in_form
    (116 ∷ 121 ∷ 112 ∷ 101 ∷ []) ∷ []) ≡ Found (header_form (if_header (Trees.Name (120 ∷ []) Load))
    (Some (Assign ((Trees.Name (88 ∷ []) Store) ∷ []) (Trees.Name (116 ∷ 121 ∷ 112 ∷ 101 ∷ []) Load) ∷ []))) []
case_55 = refl

old_55 : read_line Py311 false (Word Key.If ∷ in_form (120 ∷ []) ∷ Op Sign.Colon ∷ in_form (88 ∷ []) ∷ Op Sign.Equal ∷ in_form
    (116 ∷ 121 ∷ 112 ∷ 101 ∷ []) ∷ []) ≡ Found (header_form (if_header (Trees.Name (120 ∷ []) Load))
    (Some (Assign ((Trees.Name (88 ∷ []) Store) ∷ []) (Trees.Name (116 ∷ 121 ∷ 112 ∷ 101 ∷ []) Load) ∷ []))) []
old_55 = refl

-- class C [ T ] ( ) :
case_56 : read_line Py312 false (Word Key.Class ∷ in_form (67 ∷ []) ∷ Op Sign.LSqb ∷ in_form (84 ∷ []) ∷ Op Sign.RSqb ∷ Op Sign.LPar ∷ Op
    Sign.RPar ∷ Op Sign.Colon ∷ []) ≡ Found
    (header_form (def_header (class_head (67 ∷ []) (TypeVar (84 ∷ []) None ∷ []) ([]) Trees.no_keyword)) None) []
case_56 = refl

old_56 : read_line Py311 false (Word Key.Class ∷ in_form (67 ∷ []) ∷ Op Sign.LSqb ∷ in_form (84 ∷ []) ∷ Op Sign.RSqb ∷ Op Sign.LPar ∷ Op
    Sign.RPar ∷ Op Sign.Colon ∷ []) ≡ NoForm
old_56 = refl

-- type = y
case_57 : read_line Py312 false (in_form (116 ∷ 121 ∷ 112 ∷ 101 ∷ []) ∷ Op Sign.Equal ∷ in_form (121 ∷ []) ∷ []) ≡ Found
    (simple_form (Assign ((Trees.Name (116 ∷ 121 ∷ 112 ∷ 101 ∷ []) Store) ∷ []) (Trees.Name (121 ∷ []) Load) ∷ [])) []
case_57 = refl

old_57 : read_line Py311 false (in_form (116 ∷ 121 ∷ 112 ∷ 101 ∷ []) ∷ Op Sign.Equal ∷ in_form (121 ∷ []) ∷ []) ≡ Found
    (simple_form (Assign ((Trees.Name (116 ∷ 121 ∷ 112 ∷ 101 ∷ []) Store) ∷ []) (Trees.Name (121 ∷ []) Load) ∷ [])) []
old_57 = refl

-- type z = y ; z
case_58 : read_line Py312 false (in_form (116 ∷ 121 ∷ 112 ∷ 101 ∷ []) ∷ in_form (122 ∷ []) ∷ Op Sign.Equal ∷ in_form (121 ∷ []) ∷ Op
    Sign.Semi ∷ in_form (122 ∷ []) ∷ []) ≡ Found
    (simple_form (TypeAlias (Trees.Name (122 ∷ []) Store) ([]) (Trees.Name (121 ∷ []) Load) ∷ ExprOf (Trees.Name (122 ∷ []) Load) ∷ [])) []
case_58 = refl

old_58 : read_line Py311 false (in_form (116 ∷ 121 ∷ 112 ∷ 101 ∷ []) ∷ in_form (122 ∷ []) ∷ Op Sign.Equal ∷ in_form (121 ∷ []) ∷ Op
    Sign.Semi ∷ in_form (122 ∷ []) ∷ []) ≡ NoForm
old_58 = refl

-- type X [ T : ( yield ) ] = 1
case_59 : read_line Py312 false (in_form (116 ∷ 121 ∷ 112 ∷ 101 ∷ []) ∷ in_form (88 ∷ []) ∷ Op Sign.LSqb ∷ in_form (84 ∷ []) ∷ Op Sign.Colon
    ∷ Op Sign.LPar ∷ Word Key.Yield ∷ Op Sign.RPar ∷ Op Sign.RSqb ∷ Op Sign.Equal ∷ whole 1 ∷ []) ≡ Found
    (simple_form (TypeAlias (Trees.Name (88 ∷ []) Store) (TypeVar (84 ∷ []) (Some (Trees.Yield Trees.absent)) ∷ [])
    (Trees.Constant (Values.Int 1)) ∷ [])) []
case_59 = refl

old_59 : read_line Py311 false (in_form (116 ∷ 121 ∷ 112 ∷ 101 ∷ []) ∷ in_form (88 ∷ []) ∷ Op Sign.LSqb ∷ in_form (84 ∷ []) ∷ Op Sign.Colon
    ∷ Op Sign.LPar ∷ Word Key.Yield ∷ Op Sign.RPar ∷ Op Sign.RSqb ∷ Op Sign.Equal ∷ whole 1 ∷ []) ≡ NoForm
old_59 = refl

-- class C ( B ) : type x = y
case_60 : read_line Py312 false (Word Key.Class ∷ in_form (67 ∷ []) ∷ Op Sign.LPar ∷ in_form (66 ∷ []) ∷ Op Sign.RPar ∷ Op Sign.Colon ∷
    in_form (116 ∷ 121 ∷ 112 ∷ 101 ∷ []) ∷ in_form (120 ∷ []) ∷ Op Sign.Equal ∷ in_form (121 ∷ []) ∷ []) ≡ Found
    (header_form (def_header (class_head (67 ∷ []) ([]) ((Trees.Name (66 ∷ []) Load) ∷ []) Trees.no_keyword))
    (Some (TypeAlias (Trees.Name (120 ∷ []) Store) ([]) (Trees.Name (121 ∷ []) Load) ∷ []))) []
case_60 = refl

old_60 : read_line Py311 false (Word Key.Class ∷ in_form (67 ∷ []) ∷ Op Sign.LPar ∷ in_form (66 ∷ []) ∷ Op Sign.RPar ∷ Op Sign.Colon ∷
    in_form (116 ∷ 121 ∷ 112 ∷ 101 ∷ []) ∷ in_form (120 ∷ []) ∷ Op Sign.Equal ∷ in_form (121 ∷ []) ∷ []) ≡ NoForm
old_60 = refl

-- X [ T , ] = T
case_61 : read_line Py312 false (in_form (88 ∷ []) ∷ Op Sign.LSqb ∷ in_form (84 ∷ []) ∷ Op Sign.Comma ∷ Op Sign.RSqb ∷ Op Sign.Equal ∷
    in_form (84 ∷ []) ∷ []) ≡ Found
    (simple_form (Assign
    ((Trees.Subscript (Trees.Name (88 ∷ []) Load) (Trees.Tuple (Trees.an_expr (Trees.Name (84 ∷ []) Load) Trees.no_exprs) Load) Store) ∷ [])
    (Trees.Name (84 ∷ []) Load) ∷ [])) []
case_61 = refl

old_61 : read_line Py311 false (in_form (88 ∷ []) ∷ Op Sign.LSqb ∷ in_form (84 ∷ []) ∷ Op Sign.Comma ∷ Op Sign.RSqb ∷ Op Sign.Equal ∷
    in_form (84 ∷ []) ∷ []) ≡ Found
    (simple_form (Assign
    ((Trees.Subscript (Trees.Name (88 ∷ []) Load) (Trees.Tuple (Trees.an_expr (Trees.Name (84 ∷ []) Load) Trees.no_exprs) Load) Store) ∷ [])
    (Trees.Name (84 ∷ []) Load) ∷ [])) []
old_61 = refl

-- if x : type X = T
case_62 : read_line Py312 false (Word Key.If ∷ in_form (120 ∷ []) ∷ Op Sign.Colon ∷ in_form (116 ∷ 121 ∷ 112 ∷ 101 ∷ []) ∷ in_form (88 ∷ [])
    ∷ Op Sign.Equal ∷ in_form (84 ∷ []) ∷ []) ≡ Found (header_form (if_header (Trees.Name (120 ∷ []) Load))
    (Some (TypeAlias (Trees.Name (88 ∷ []) Store) ([]) (Trees.Name (84 ∷ []) Load) ∷ []))) []
case_62 = refl

old_62 : read_line Py311 false (Word Key.If ∷ in_form (120 ∷ []) ∷ Op Sign.Colon ∷ in_form (116 ∷ 121 ∷ 112 ∷ 101 ∷ []) ∷ in_form (88 ∷ [])
    ∷ Op Sign.Equal ∷ in_form (84 ∷ []) ∷ []) ≡ NoForm
old_62 = refl

-- type [ T : ( yield ) ] = y
case_63 : read_line Py312 false (in_form (116 ∷ 121 ∷ 112 ∷ 101 ∷ []) ∷ Op Sign.LSqb ∷ in_form (84 ∷ []) ∷ Op Sign.Colon ∷ Op Sign.LPar ∷
    Word Key.Yield ∷ Op Sign.RPar ∷ Op Sign.RSqb ∷ Op Sign.Equal ∷ in_form (121 ∷ []) ∷ []) ≡ Found
    (simple_form (Assign
    ((Trees.Subscript (Trees.Name (116 ∷ 121 ∷ 112 ∷ 101 ∷ []) Load) (Trees.Slice (Trees.present (Trees.Name (84 ∷ []) Load))
    (Trees.present (Trees.Yield Trees.absent)) Trees.absent) Store) ∷ []) (Trees.Name (121 ∷ []) Load) ∷ [])) []
case_63 = refl

old_63 : read_line Py311 false (in_form (116 ∷ 121 ∷ 112 ∷ 101 ∷ []) ∷ Op Sign.LSqb ∷ in_form (84 ∷ []) ∷ Op Sign.Colon ∷ Op Sign.LPar ∷
    Word Key.Yield ∷ Op Sign.RPar ∷ Op Sign.RSqb ∷ Op Sign.Equal ∷ in_form (121 ∷ []) ∷ []) ≡ Found
    (simple_form (Assign
    ((Trees.Subscript (Trees.Name (116 ∷ 121 ∷ 112 ∷ 101 ∷ []) Load) (Trees.Slice (Trees.present (Trees.Name (84 ∷ []) Load))
    (Trees.present (Trees.Yield Trees.absent)) Trees.absent) Store) ∷ []) (Trees.Name (121 ∷ []) Load) ∷ [])) []
old_63 = refl

-- type , = y
case_64 : read_line Py312 false (in_form (116 ∷ 121 ∷ 112 ∷ 101 ∷ []) ∷ Op Sign.Comma ∷ Op Sign.Equal ∷ in_form (121 ∷ []) ∷ []) ≡ Found
    (simple_form (Assign ((Trees.Tuple (Trees.an_expr (Trees.Name (116 ∷ 121 ∷ 112 ∷ 101 ∷ []) Store) Trees.no_exprs) Store) ∷ [])
    (Trees.Name (121 ∷ []) Load) ∷ [])) []
case_64 = refl

old_64 : read_line Py311 false (in_form (116 ∷ 121 ∷ 112 ∷ 101 ∷ []) ∷ Op Sign.Comma ∷ Op Sign.Equal ∷ in_form (121 ∷ []) ∷ []) ≡ Found
    (simple_form (Assign ((Trees.Tuple (Trees.an_expr (Trees.Name (116 ∷ 121 ∷ 112 ∷ 101 ∷ []) Store) Trees.no_exprs) Store) ∷ [])
    (Trees.Name (121 ∷ []) Load) ∷ [])) []
old_64 = refl

-- type
case_65 : read_line Py312 false (in_form (116 ∷ 121 ∷ 112 ∷ 101 ∷ []) ∷ []) ≡ Found
    (simple_form (ExprOf (Trees.Name (116 ∷ 121 ∷ 112 ∷ 101 ∷ []) Load) ∷ [])) []
case_65 = refl

old_65 : read_line Py311 false (in_form (116 ∷ 121 ∷ 112 ∷ 101 ∷ []) ∷ []) ≡ Found
    (simple_form (ExprOf (Trees.Name (116 ∷ 121 ∷ 112 ∷ 101 ∷ []) Load) ∷ [])) []
old_65 = refl
