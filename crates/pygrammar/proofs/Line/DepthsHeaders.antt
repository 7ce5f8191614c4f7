-- Worked lines that begin as a header or a decorator: the depth that is enough for each.
--
-- Carries: no contract; its rows are computed as it is checked.
use Rattle.std.proofs.Common.{◌≡◌, refl, [], ◌∷◌, Some, None, true, false}
use Rattle.pylex_lexeme.specs.declared.kinds.Exact.TheVariants as Sign
use Rattle.pytoken.specs.declared.keywords.Keyword.TheVariants as Key
use Rattle.pytree_node.specs.declared.operators.Operator.TheVariants as Bin
use Rattle.pytree_node.specs.declared.operators.Context.TheVariants.{Load, Store}
use Rattle.pytree_node.specs.declared.profiles.Extent.TheVariants.{Whole}
use Rattle.pytree_node.specs.declared.profiles.Profile.{Profile}
use Rattle.pytree_node.specs.declared.profiles.Version.TheVariants as versions
use Rattle.pytree_node.specs.Profiles.{python, plain_311 as Py311}
use Rattle.pytree_node.specs.Trees as Trees
use Rattle.pytree_node.specs.Values as Values
use Rattle.pytoken.specs.Terminals.{Op, Word, in_form, whole}
use Rattle.pygrammar.specs.Reader.{Found, TooDeep}
use Rattle.pytree_node.specs.Trees.{Assign, AnnAssign, ExprOf, Pass, MatchAs, MatchSequence, MatchValue, absent_pattern, no_pattern}
use Rattle.pytree_node.specs.Trees.{a_pattern}
use Rattle.pygrammar.specs.Lines.{header_form, if_header, elif_header, else_header, loop_header, while_head, decorator_form, with_header}
use Rattle.pygrammar.specs.Lines.{try_header, except_header, finally_header, def_header, for_head, function_head, class_head, match_header}
use Rattle.pygrammar.specs.Lines.{case_header}
use Rattle.pygrammar.specs.Forms.{item, match_name, match_word, case_name, case_word}
use Rattle.pygrammar.specs.LineReader.{read_line_to}
use Rattle.pytree_node.specs.declared.operators.Comparison.TheVariants as Is

-- if x : pass
depth_55 : read_line_to Py311 false 1 (Word Key.If ∷ in_form (120 ∷ []) ∷ Op Sign.Colon ∷ Word Key.Pass ∷ []) ≡ Found
    (header_form (if_header (Trees.Name (120 ∷ []) Load)) (Some (Pass ∷ []))) []
depth_55 = refl

-- if x :
depth_56 : read_line_to Py311 false 1 (Word Key.If ∷ in_form (120 ∷ []) ∷ Op Sign.Colon ∷ []) ≡ Found
    (header_form (if_header (Trees.Name (120 ∷ []) Load)) None) []
depth_56 = refl

-- if x : y : int
depth_57 : read_line_to Py311 false 1 (Word Key.If ∷ in_form (120 ∷ []) ∷ Op Sign.Colon ∷ in_form (121 ∷ []) ∷ Op Sign.Colon ∷ in_form
    (105 ∷ 110 ∷ 116 ∷ []) ∷ []) ≡ Found (header_form (if_header (Trees.Name (120 ∷ []) Load))
    (Some (AnnAssign (Trees.Name (121 ∷ []) Store) (Trees.Name (105 ∷ 110 ∷ 116 ∷ []) Load) None true ∷ []))) []
depth_57 = refl

-- if lambda : x : y
depth_58 : read_line_to Py311 false 2 (Word Key.If ∷ Word Key.Lambda ∷ Op Sign.Colon ∷ in_form (120 ∷ []) ∷ Op Sign.Colon ∷ in_form
    (121 ∷ []) ∷ []) ≡ Found
    (header_form (if_header (Trees.Lambda (Trees.arguments Trees.no_arg Trees.no_arg Trees.absent_arg Trees.no_arg Trees.no_optional
    Trees.absent_arg Trees.no_exprs) (Trees.Name (120 ∷ []) Load))) (Some (ExprOf (Trees.Name (121 ∷ []) Load) ∷ []))) []
depth_58 = refl

-- if ( x := 1 ) : pass
depth_59 : read_line_to Py311 false 3 (Word Key.If ∷ Op Sign.LPar ∷ in_form (120 ∷ []) ∷ Op Sign.ColonEqual ∷ whole 1 ∷ Op Sign.RPar ∷ Op
    Sign.Colon ∷ Word Key.Pass ∷ []) ≡ Found
    (header_form (if_header (Trees.NamedExpr (Trees.Name (120 ∷ []) Store) (Trees.Constant (Values.Int 1)))) (Some (Pass ∷ []))) []
depth_59 = refl

-- if x := 1 :
depth_60 : read_line_to Py311 false 2 (Word Key.If ∷ in_form (120 ∷ []) ∷ Op Sign.ColonEqual ∷ whole 1 ∷ Op Sign.Colon ∷ []) ≡ Found
    (header_form (if_header (Trees.NamedExpr (Trees.Name (120 ∷ []) Store) (Trees.Constant (Values.Int 1)))) None) []
depth_60 = refl

-- elif a : b ; c
depth_61 : read_line_to Py311 false 1 (Word Key.Elif ∷ in_form (97 ∷ []) ∷ Op Sign.Colon ∷ in_form (98 ∷ []) ∷ Op Sign.Semi ∷ in_form
    (99 ∷ []) ∷ []) ≡ Found (header_form (elif_header (Trees.Name (97 ∷ []) Load))
    (Some (ExprOf (Trees.Name (98 ∷ []) Load) ∷ ExprOf (Trees.Name (99 ∷ []) Load) ∷ []))) []
depth_61 = refl

-- else :
depth_62 : read_line_to Py311 false 0 (Word Key.Else ∷ Op Sign.Colon ∷ []) ≡ Found (header_form (else_header) None) []
depth_62 = refl

-- else : x = 1
depth_63 : read_line_to Py311 false 1 (Word Key.Else ∷ Op Sign.Colon ∷ in_form (120 ∷ []) ∷ Op Sign.Equal ∷ whole 1 ∷ []) ≡ Found
    (header_form (else_header) (Some (Assign ((Trees.Name (120 ∷ []) Store) ∷ []) (Trees.Constant (Values.Int 1)) ∷ []))) []
depth_63 = refl

-- while x : pass
depth_64 : read_line_to Py311 false 1 (Word Key.While ∷ in_form (120 ∷ []) ∷ Op Sign.Colon ∷ Word Key.Pass ∷ []) ≡ Found
    (header_form (loop_header (while_head (Trees.Name (120 ∷ []) Load))) (Some (Pass ∷ []))) []
depth_64 = refl

-- for x in y : pass
depth_65 : read_line_to Py311 false 1 (Word Key.For ∷ in_form (120 ∷ []) ∷ Word Key.In ∷ in_form (121 ∷ []) ∷ Op Sign.Colon ∷ Word Key.Pass
    ∷ []) ≡ Found (header_form (loop_header (for_head false (Trees.Name (120 ∷ []) Store) (Trees.Name (121 ∷ []) Load))) (Some (Pass ∷ [])))
    []
depth_65 = refl

-- for x , * y in z , * w : pass
depth_66 : read_line_to Py311 false 3 (Word Key.For ∷ in_form (120 ∷ []) ∷ Op Sign.Comma ∷ Op Sign.Star ∷ in_form (121 ∷ []) ∷ Word Key.In ∷
    in_form (122 ∷ []) ∷ Op Sign.Comma ∷ Op Sign.Star ∷ in_form (119 ∷ []) ∷ Op Sign.Colon ∷ Word Key.Pass ∷ []) ≡ Found
    (header_form (loop_header
    (for_head false (Trees.Tuple
    (Trees.an_expr (Trees.Name (120 ∷ []) Store) (Trees.an_expr (Trees.Starred (Trees.Name (121 ∷ []) Store) Store) Trees.no_exprs)) Store)
    (Trees.Tuple (Trees.an_expr (Trees.Name (122 ∷ []) Load) (Trees.an_expr (Trees.Starred (Trees.Name (119 ∷ []) Load) Load)
    Trees.no_exprs)) Load))) (Some (Pass ∷ []))) []
depth_66 = refl

-- for ( a . b ) , [ c ] in d :
depth_67 : read_line_to Py311 false 4 (Word Key.For ∷ Op Sign.LPar ∷ in_form (97 ∷ []) ∷ Op Sign.Dot ∷ in_form (98 ∷ []) ∷ Op Sign.RPar ∷ Op
    Sign.Comma ∷ Op Sign.LSqb ∷ in_form (99 ∷ []) ∷ Op Sign.RSqb ∷ Word Key.In ∷ in_form (100 ∷ []) ∷ Op Sign.Colon ∷ []) ≡ Found
    (header_form (loop_header
    (for_head false (Trees.Tuple (Trees.an_expr (Trees.Attribute (Trees.Name (97 ∷ []) Load) (98 ∷ []) Store)
    (Trees.an_expr (Trees.ListOf (Trees.an_expr (Trees.Name (99 ∷ []) Store) Trees.no_exprs) Store) Trees.no_exprs)) Store)
    (Trees.Name (100 ∷ []) Load))) None) []
depth_67 = refl

-- for x in y in z : pass
depth_68 : read_line_to Py311 false 2 (Word Key.For ∷ in_form (120 ∷ []) ∷ Word Key.In ∷ in_form (121 ∷ []) ∷ Word Key.In ∷ in_form
    (122 ∷ []) ∷ Op Sign.Colon ∷ Word Key.Pass ∷ []) ≡ Found
    (header_form (loop_header (for_head false (Trees.Name (120 ∷ []) Store) (Trees.Compare (Trees.Name (121 ∷ []) Load) (Is.Within ∷ [])
    (Trees.an_expr (Trees.Name (122 ∷ []) Load) Trees.no_exprs)))) (Some (Pass ∷ []))) []
depth_68 = refl

-- async for x in y : pass
depth_69 : read_line_to Py311 false 1 (Word Key.Async ∷ Word Key.For ∷ in_form (120 ∷ []) ∷ Word Key.In ∷ in_form (121 ∷ []) ∷ Op Sign.Colon
    ∷ Word Key.Pass ∷ []) ≡ Found
    (header_form (loop_header (for_head true (Trees.Name (120 ∷ []) Store) (Trees.Name (121 ∷ []) Load))) (Some (Pass ∷ []))) []
depth_69 = refl

-- async with a as b , c : pass
depth_70 : read_line_to Py311 false 1 (Word Key.Async ∷ Word Key.With ∷ in_form (97 ∷ []) ∷ Word Key.As ∷ in_form (98 ∷ []) ∷ Op Sign.Comma
    ∷ in_form (99 ∷ []) ∷ Op Sign.Colon ∷ Word Key.Pass ∷ []) ≡ Found
    (header_form (with_header true (item (Trees.Name (97 ∷ []) Load) (Some (Trees.Name (98 ∷ []) Store)) ∷ item (Trees.Name (99 ∷ []) Load)
    None ∷ [])) (Some (Pass ∷ []))) []
depth_70 = refl

-- async def f ( ) : pass
depth_71 : read_line_to Py311 false 1 (Word Key.Async ∷ Word Key.Def ∷ in_form (102 ∷ []) ∷ Op Sign.LPar ∷ Op Sign.RPar ∷ Op Sign.Colon ∷
    Word Key.Pass ∷ []) ≡ Found
    (header_form (def_header (function_head true (102 ∷ []) [] (Trees.arguments Trees.no_arg Trees.no_arg Trees.absent_arg Trees.no_arg
    Trees.no_optional Trees.absent_arg Trees.no_exprs) None)) (Some (Pass ∷ []))) []
depth_71 = refl

-- try :
depth_72 : read_line_to Py311 false 0 (Word Key.Try ∷ Op Sign.Colon ∷ []) ≡ Found (header_form (try_header) None) []
depth_72 = refl

-- try : pass
depth_73 : read_line_to Py311 false 0 (Word Key.Try ∷ Op Sign.Colon ∷ Word Key.Pass ∷ []) ≡ Found
    (header_form (try_header) (Some (Pass ∷ []))) []
depth_73 = refl

-- finally :
depth_74 : read_line_to Py311 false 0 (Word Key.Finally ∷ Op Sign.Colon ∷ []) ≡ Found (header_form (finally_header) None) []
depth_74 = refl

-- except :
depth_75 : read_line_to Py311 false 0 (Word Key.Except ∷ Op Sign.Colon ∷ []) ≡ Found (header_form (except_header false None None) None) []
depth_75 = refl

-- except a :
depth_76 : read_line_to Py311 false 1 (Word Key.Except ∷ in_form (97 ∷ []) ∷ Op Sign.Colon ∷ []) ≡ Found
    (header_form (except_header false (Some (Trees.Name (97 ∷ []) Load)) None) None) []
depth_76 = refl

-- except a as b : pass
depth_77 : read_line_to Py311 false 1 (Word Key.Except ∷ in_form (97 ∷ []) ∷ Word Key.As ∷ in_form (98 ∷ []) ∷ Op Sign.Colon ∷ Word Key.Pass
    ∷ []) ≡ Found (header_form (except_header false (Some (Trees.Name (97 ∷ []) Load)) (Some (98 ∷ []))) (Some (Pass ∷ []))) []
depth_77 = refl

-- except * a : pass
depth_78 : read_line_to Py311 false 1 (Word Key.Except ∷ Op Sign.Star ∷ in_form (97 ∷ []) ∷ Op Sign.Colon ∷ Word Key.Pass ∷ []) ≡ Found
    (header_form (except_header true (Some (Trees.Name (97 ∷ []) Load)) None) (Some (Pass ∷ []))) []
depth_78 = refl

-- except * a as b :
depth_79 : read_line_to Py311 false 1 (Word Key.Except ∷ Op Sign.Star ∷ in_form (97 ∷ []) ∷ Word Key.As ∷ in_form (98 ∷ []) ∷ Op Sign.Colon
    ∷ []) ≡ Found (header_form (except_header true (Some (Trees.Name (97 ∷ []) Load)) (Some (98 ∷ []))) None) []
depth_79 = refl

-- except ( a , b ) :
depth_80 : read_line_to Py311 false 3 (Word Key.Except ∷ Op Sign.LPar ∷ in_form (97 ∷ []) ∷ Op Sign.Comma ∷ in_form (98 ∷ []) ∷ Op Sign.RPar
    ∷ Op Sign.Colon ∷ []) ≡ Found
    (header_form (except_header false
    (Some (Trees.Tuple (Trees.an_expr (Trees.Name (97 ∷ []) Load) (Trees.an_expr (Trees.Name (98 ∷ []) Load) Trees.no_exprs)) Load)) None)
    None) []
depth_80 = refl

-- with a : pass
depth_81 : read_line_to Py311 false 1 (Word Key.With ∷ in_form (97 ∷ []) ∷ Op Sign.Colon ∷ Word Key.Pass ∷ []) ≡ Found
    (header_form (with_header false (item (Trees.Name (97 ∷ []) Load) None ∷ [])) (Some (Pass ∷ []))) []
depth_81 = refl

-- with ( a ) : pass
depth_82 : read_line_to Py311 false 2 (Word Key.With ∷ Op Sign.LPar ∷ in_form (97 ∷ []) ∷ Op Sign.RPar ∷ Op Sign.Colon ∷ Word Key.Pass ∷ [])
    ≡ Found (header_form (with_header false (item (Trees.Name (97 ∷ []) Load) None ∷ [])) (Some (Pass ∷ []))) []
depth_82 = refl

-- with ( a ) as b : c
depth_83 : read_line_to Py311 false 2 (Word Key.With ∷ Op Sign.LPar ∷ in_form (97 ∷ []) ∷ Op Sign.RPar ∷ Word Key.As ∷ in_form (98 ∷ []) ∷
    Op Sign.Colon ∷ in_form (99 ∷ []) ∷ []) ≡ Found
    (header_form (with_header false (item (Trees.Name (97 ∷ []) Load) (Some (Trees.Name (98 ∷ []) Store)) ∷ []))
    (Some (ExprOf (Trees.Name (99 ∷ []) Load) ∷ []))) []
depth_83 = refl

-- with ( a , b ) : pass
depth_84 : read_line_to Py311 false 2 (Word Key.With ∷ Op Sign.LPar ∷ in_form (97 ∷ []) ∷ Op Sign.Comma ∷ in_form (98 ∷ []) ∷ Op Sign.RPar ∷
    Op Sign.Colon ∷ Word Key.Pass ∷ []) ≡ Found
    (header_form (with_header false (item (Trees.Name (97 ∷ []) Load) None ∷ item (Trees.Name (98 ∷ []) Load) None ∷ []))
    (Some (Pass ∷ []))) []
depth_84 = refl

-- with ( ( a , b ) ) : pass
depth_85 : read_line_to Py311 false 4 (Word Key.With ∷ Op Sign.LPar ∷ Op Sign.LPar ∷ in_form (97 ∷ []) ∷ Op Sign.Comma ∷ in_form (98 ∷ []) ∷
    Op Sign.RPar ∷ Op Sign.RPar ∷ Op Sign.Colon ∷ Word Key.Pass ∷ []) ≡ Found
    (header_form (with_header false
    (item (Trees.Tuple (Trees.an_expr (Trees.Name (97 ∷ []) Load) (Trees.an_expr (Trees.Name (98 ∷ []) Load) Trees.no_exprs)) Load) None ∷
    [])) (Some (Pass ∷ []))) []
depth_85 = refl

-- with ( a , b ) as c : d
depth_86 : read_line_to Py311 false 3 (Word Key.With ∷ Op Sign.LPar ∷ in_form (97 ∷ []) ∷ Op Sign.Comma ∷ in_form (98 ∷ []) ∷ Op Sign.RPar ∷
    Word Key.As ∷ in_form (99 ∷ []) ∷ Op Sign.Colon ∷ in_form (100 ∷ []) ∷ []) ≡ Found
    (header_form (with_header false
    (item (Trees.Tuple (Trees.an_expr (Trees.Name (97 ∷ []) Load) (Trees.an_expr (Trees.Name (98 ∷ []) Load) Trees.no_exprs)) Load)
    (Some (Trees.Name (99 ∷ []) Store)) ∷ [])) (Some (ExprOf (Trees.Name (100 ∷ []) Load) ∷ []))) []
depth_86 = refl

-- with ( a as b ) : c
depth_87 : read_line_to Py311 false 2 (Word Key.With ∷ Op Sign.LPar ∷ in_form (97 ∷ []) ∷ Word Key.As ∷ in_form (98 ∷ []) ∷ Op Sign.RPar ∷
    Op Sign.Colon ∷ in_form (99 ∷ []) ∷ []) ≡ Found
    (header_form (with_header false (item (Trees.Name (97 ∷ []) Load) (Some (Trees.Name (98 ∷ []) Store)) ∷ []))
    (Some (ExprOf (Trees.Name (99 ∷ []) Load) ∷ []))) []
depth_87 = refl

-- with ( a as b , c as d , ) : pass
depth_88 : read_line_to Py311 false 2 (Word Key.With ∷ Op Sign.LPar ∷ in_form (97 ∷ []) ∷ Word Key.As ∷ in_form (98 ∷ []) ∷ Op Sign.Comma ∷
    in_form (99 ∷ []) ∷ Word Key.As ∷ in_form (100 ∷ []) ∷ Op Sign.Comma ∷ Op Sign.RPar ∷ Op Sign.Colon ∷ Word Key.Pass ∷ []) ≡ Found
    (header_form (with_header false (item (Trees.Name (97 ∷ []) Load) (Some (Trees.Name (98 ∷ []) Store)) ∷ item (Trees.Name (99 ∷ []) Load)
    (Some (Trees.Name (100 ∷ []) Store)) ∷ [])) (Some (Pass ∷ []))) []
depth_88 = refl

-- with ( a , b ) as c , d : pass
depth_89 : read_line_to Py311 false 3 (Word Key.With ∷ Op Sign.LPar ∷ in_form (97 ∷ []) ∷ Op Sign.Comma ∷ in_form (98 ∷ []) ∷ Op Sign.RPar ∷
    Word Key.As ∷ in_form (99 ∷ []) ∷ Op Sign.Comma ∷ in_form (100 ∷ []) ∷ Op Sign.Colon ∷ Word Key.Pass ∷ []) ≡ Found
    (header_form (with_header false
    (item (Trees.Tuple (Trees.an_expr (Trees.Name (97 ∷ []) Load) (Trees.an_expr (Trees.Name (98 ∷ []) Load) Trees.no_exprs)) Load)
    (Some (Trees.Name (99 ∷ []) Store)) ∷ item (Trees.Name (100 ∷ []) Load) None ∷ [])) (Some (Pass ∷ []))) []
depth_89 = refl

-- with ( a ) , ( b ) : pass
depth_90 : read_line_to Py311 false 2 (Word Key.With ∷ Op Sign.LPar ∷ in_form (97 ∷ []) ∷ Op Sign.RPar ∷ Op Sign.Comma ∷ Op Sign.LPar ∷
    in_form (98 ∷ []) ∷ Op Sign.RPar ∷ Op Sign.Colon ∷ Word Key.Pass ∷ []) ≡ Found
    (header_form (with_header false (item (Trees.Name (97 ∷ []) Load) None ∷ item (Trees.Name (98 ∷ []) Load) None ∷ []))
    (Some (Pass ∷ []))) []
depth_90 = refl

-- with ( a ) . b as c : pass
depth_91 : read_line_to Py311 false 3 (Word Key.With ∷ Op Sign.LPar ∷ in_form (97 ∷ []) ∷ Op Sign.RPar ∷ Op Sign.Dot ∷ in_form (98 ∷ []) ∷
    Word Key.As ∷ in_form (99 ∷ []) ∷ Op Sign.Colon ∷ Word Key.Pass ∷ []) ≡ Found
    (header_form (with_header false (item (Trees.Attribute (Trees.Name (97 ∷ []) Load) (98 ∷ []) Load) (Some (Trees.Name (99 ∷ []) Store)) ∷
    [])) (Some (Pass ∷ []))) []
depth_91 = refl

-- with ( yield ) : pass
depth_92 : read_line_to Py311 false 2 (Word Key.With ∷ Op Sign.LPar ∷ Word Key.Yield ∷ Op Sign.RPar ∷ Op Sign.Colon ∷ Word Key.Pass ∷ []) ≡
    Found (header_form (with_header false (item (Trees.Yield Trees.absent) None ∷ [])) (Some (Pass ∷ []))) []
depth_92 = refl

-- with ( a for a in b ) : c
depth_93 : read_line_to Py311 false 3 (Word Key.With ∷ Op Sign.LPar ∷ in_form (97 ∷ []) ∷ Word Key.For ∷ in_form (97 ∷ []) ∷ Word Key.In ∷
    in_form (98 ∷ []) ∷ Op Sign.RPar ∷ Op Sign.Colon ∷ in_form (99 ∷ []) ∷ []) ≡ Found
    (header_form (with_header false
    (item (Trees.GeneratorExp (Trees.Name (97 ∷ []) Load) (Trees.a_comprehension (Trees.Name (97 ∷ []) Store) (Trees.Name (98 ∷ []) Load)
    Trees.no_exprs false Trees.no_comprehension)) None ∷ [])) (Some (ExprOf (Trees.Name (99 ∷ []) Load) ∷ []))) []
depth_93 = refl

-- with ( * a , b ) : c
depth_94 : read_line_to Py311 false 4 (Word Key.With ∷ Op Sign.LPar ∷ Op Sign.Star ∷ in_form (97 ∷ []) ∷ Op Sign.Comma ∷ in_form (98 ∷ []) ∷
    Op Sign.RPar ∷ Op Sign.Colon ∷ in_form (99 ∷ []) ∷ []) ≡ Found
    (header_form (with_header false
    (item (Trees.Tuple (Trees.an_expr (Trees.Starred (Trees.Name (97 ∷ []) Load) Load)
    (Trees.an_expr (Trees.Name (98 ∷ []) Load) Trees.no_exprs)) Load) None ∷ [])) (Some (ExprOf (Trees.Name (99 ∷ []) Load) ∷ []))) []
depth_94 = refl

-- with ( a := b ) : c
depth_95 : read_line_to Py311 false 3 (Word Key.With ∷ Op Sign.LPar ∷ in_form (97 ∷ []) ∷ Op Sign.ColonEqual ∷ in_form (98 ∷ []) ∷ Op
    Sign.RPar ∷ Op Sign.Colon ∷ in_form (99 ∷ []) ∷ []) ≡ Found
    (header_form (with_header false (item (Trees.NamedExpr (Trees.Name (97 ∷ []) Store) (Trees.Name (98 ∷ []) Load)) None ∷ []))
    (Some (ExprOf (Trees.Name (99 ∷ []) Load) ∷ []))) []
depth_95 = refl

-- with ( a := b , c ) : d
depth_96 : read_line_to Py311 false 4 (Word Key.With ∷ Op Sign.LPar ∷ in_form (97 ∷ []) ∷ Op Sign.ColonEqual ∷ in_form (98 ∷ []) ∷ Op
    Sign.Comma ∷ in_form (99 ∷ []) ∷ Op Sign.RPar ∷ Op Sign.Colon ∷ in_form (100 ∷ []) ∷ []) ≡ Found
    (header_form (with_header false
    (item (Trees.Tuple (Trees.an_expr (Trees.NamedExpr (Trees.Name (97 ∷ []) Store) (Trees.Name (98 ∷ []) Load))
    (Trees.an_expr (Trees.Name (99 ∷ []) Load) Trees.no_exprs)) Load) None ∷ [])) (Some (ExprOf (Trees.Name (100 ∷ []) Load) ∷ []))) []
depth_96 = refl

-- with ( a , b ) [ 0 ] : c
depth_97 : read_line_to Py311 false 4 (Word Key.With ∷ Op Sign.LPar ∷ in_form (97 ∷ []) ∷ Op Sign.Comma ∷ in_form (98 ∷ []) ∷ Op Sign.RPar ∷
    Op Sign.LSqb ∷ whole 0 ∷ Op Sign.RSqb ∷ Op Sign.Colon ∷ in_form (99 ∷ []) ∷ []) ≡ Found
    (header_form (with_header false
    (item (Trees.Subscript
    (Trees.Tuple (Trees.an_expr (Trees.Name (97 ∷ []) Load) (Trees.an_expr (Trees.Name (98 ∷ []) Load) Trees.no_exprs)) Load)
    (Trees.Constant (Values.Int 0)) Load) None ∷ [])) (Some (ExprOf (Trees.Name (99 ∷ []) Load) ∷ []))) []
depth_97 = refl

-- with a as ( b , c ) : d
depth_98 : read_line_to Py311 false 3 (Word Key.With ∷ in_form (97 ∷ []) ∷ Word Key.As ∷ Op Sign.LPar ∷ in_form (98 ∷ []) ∷ Op Sign.Comma ∷
    in_form (99 ∷ []) ∷ Op Sign.RPar ∷ Op Sign.Colon ∷ in_form (100 ∷ []) ∷ []) ≡ Found
    (header_form (with_header false
    (item (Trees.Name (97 ∷ []) Load)
    (Some (Trees.Tuple (Trees.an_expr (Trees.Name (98 ∷ []) Store) (Trees.an_expr (Trees.Name (99 ∷ []) Store) Trees.no_exprs)) Store)) ∷
    [])) (Some (ExprOf (Trees.Name (100 ∷ []) Load) ∷ []))) []
depth_98 = refl

-- with a as b . c [ d ] : e
depth_99 : read_line_to Py311 false 4 (Word Key.With ∷ in_form (97 ∷ []) ∷ Word Key.As ∷ in_form (98 ∷ []) ∷ Op Sign.Dot ∷ in_form (99 ∷ [])
    ∷ Op Sign.LSqb ∷ in_form (100 ∷ []) ∷ Op Sign.RSqb ∷ Op Sign.Colon ∷ in_form (101 ∷ []) ∷ []) ≡ Found
    (header_form (with_header false
    (item (Trees.Name (97 ∷ []) Load)
    (Some (Trees.Subscript (Trees.Attribute (Trees.Name (98 ∷ []) Load) (99 ∷ []) Load) (Trees.Name (100 ∷ []) Load) Store)) ∷ []))
    (Some (ExprOf (Trees.Name (101 ∷ []) Load) ∷ []))) []
depth_99 = refl

-- with a as * b : c
depth_100 : read_line_to Py311 false 2 (Word Key.With ∷ in_form (97 ∷ []) ∷ Word Key.As ∷ Op Sign.Star ∷ in_form (98 ∷ []) ∷ Op Sign.Colon ∷
    in_form (99 ∷ []) ∷ []) ≡ Found
    (header_form (with_header false (item (Trees.Name (97 ∷ []) Load) (Some (Trees.Starred (Trees.Name (98 ∷ []) Store) Store)) ∷ []))
    (Some (ExprOf (Trees.Name (99 ∷ []) Load) ∷ []))) []
depth_100 = refl

-- with a as * ( b , * c ) : d
depth_101 : read_line_to Py311 false 5 (Word Key.With ∷ in_form (97 ∷ []) ∷ Word Key.As ∷ Op Sign.Star ∷ Op Sign.LPar ∷ in_form (98 ∷ []) ∷
    Op Sign.Comma ∷ Op Sign.Star ∷ in_form (99 ∷ []) ∷ Op Sign.RPar ∷ Op Sign.Colon ∷ in_form (100 ∷ []) ∷ []) ≡ Found
    (header_form (with_header false
    (item (Trees.Name (97 ∷ []) Load)
    (Some (Trees.Starred
    (Trees.Tuple (Trees.an_expr (Trees.Name (98 ∷ []) Store) (Trees.an_expr (Trees.Starred (Trees.Name (99 ∷ []) Store) Store)
    Trees.no_exprs)) Store) Store)) ∷ [])) (Some (ExprOf (Trees.Name (100 ∷ []) Load) ∷ []))) []
depth_101 = refl

-- with ( a as * b ) : c
depth_102 : read_line_to Py311 false 3 (Word Key.With ∷ Op Sign.LPar ∷ in_form (97 ∷ []) ∷ Word Key.As ∷ Op Sign.Star ∷ in_form (98 ∷ []) ∷
    Op Sign.RPar ∷ Op Sign.Colon ∷ in_form (99 ∷ []) ∷ []) ≡ Found
    (header_form (with_header false (item (Trees.Name (97 ∷ []) Load) (Some (Trees.Starred (Trees.Name (98 ∷ []) Store) Store)) ∷ []))
    (Some (ExprOf (Trees.Name (99 ∷ []) Load) ∷ []))) []
depth_102 = refl

-- with ( ) : pass
depth_103 : read_line_to Py311 false 2 (Word Key.With ∷ Op Sign.LPar ∷ Op Sign.RPar ∷ Op Sign.Colon ∷ Word Key.Pass ∷ []) ≡ Found
    (header_form (with_header false (item (Trees.Tuple Trees.no_exprs Load) None ∷ [])) (Some (Pass ∷ []))) []
depth_103 = refl

-- with ( a ) : b : c
depth_104 : read_line_to Py311 false 2 (Word Key.With ∷ Op Sign.LPar ∷ in_form (97 ∷ []) ∷ Op Sign.RPar ∷ Op Sign.Colon ∷ in_form (98 ∷ [])
    ∷ Op Sign.Colon ∷ in_form (99 ∷ []) ∷ []) ≡ Found (header_form (with_header false (item (Trees.Name (97 ∷ []) Load) None ∷ []))
    (Some (AnnAssign (Trees.Name (98 ∷ []) Store) (Trees.Name (99 ∷ []) Load) None true ∷ []))) []
depth_104 = refl

-- with ( a ) : lambda : b
depth_105 : read_line_to Py311 false 3 (Word Key.With ∷ Op Sign.LPar ∷ in_form (97 ∷ []) ∷ Op Sign.RPar ∷ Op Sign.Colon ∷ Word Key.Lambda ∷
    Op Sign.Colon ∷ in_form (98 ∷ []) ∷ []) ≡ Found (header_form (with_header false (item (Trees.Name (97 ∷ []) Load) None ∷ []))
    (Some (ExprOf (Trees.Lambda (Trees.arguments Trees.no_arg Trees.no_arg Trees.absent_arg Trees.no_arg Trees.no_optional Trees.absent_arg
    Trees.no_exprs) (Trees.Name (98 ∷ []) Load)) ∷ []))) []
depth_105 = refl

-- with lambda : ( a ) : b
depth_106 : read_line_to Py311 false 3 (Word Key.With ∷ Word Key.Lambda ∷ Op Sign.Colon ∷ Op Sign.LPar ∷ in_form (97 ∷ []) ∷ Op Sign.RPar ∷
    Op Sign.Colon ∷ in_form (98 ∷ []) ∷ []) ≡ Found
    (header_form (with_header false
    (item (Trees.Lambda (Trees.arguments Trees.no_arg Trees.no_arg Trees.absent_arg Trees.no_arg Trees.no_optional Trees.absent_arg
    Trees.no_exprs) (Trees.Name (97 ∷ []) Load)) None ∷ [])) (Some (ExprOf (Trees.Name (98 ∷ []) Load) ∷ []))) []
depth_106 = refl

-- with ( lambda : a ) : b
depth_107 : read_line_to Py311 false 3 (Word Key.With ∷ Op Sign.LPar ∷ Word Key.Lambda ∷ Op Sign.Colon ∷ in_form (97 ∷ []) ∷ Op Sign.RPar ∷
    Op Sign.Colon ∷ in_form (98 ∷ []) ∷ []) ≡ Found
    (header_form (with_header false
    (item (Trees.Lambda (Trees.arguments Trees.no_arg Trees.no_arg Trees.absent_arg Trees.no_arg Trees.no_optional Trees.absent_arg
    Trees.no_exprs) (Trees.Name (97 ∷ []) Load)) None ∷ [])) (Some (ExprOf (Trees.Name (98 ∷ []) Load) ∷ []))) []
depth_107 = refl

-- with ( a , ) : b
depth_108 : read_line_to Py311 false 2 (Word Key.With ∷ Op Sign.LPar ∷ in_form (97 ∷ []) ∷ Op Sign.Comma ∷ Op Sign.RPar ∷ Op Sign.Colon ∷
    in_form (98 ∷ []) ∷ []) ≡ Found (header_form (with_header false (item (Trees.Name (97 ∷ []) Load) None ∷ []))
    (Some (ExprOf (Trees.Name (98 ∷ []) Load) ∷ []))) []
depth_108 = refl

-- with ( a , ) as b : c
depth_109 : read_line_to Py311 false 3 (Word Key.With ∷ Op Sign.LPar ∷ in_form (97 ∷ []) ∷ Op Sign.Comma ∷ Op Sign.RPar ∷ Word Key.As ∷
    in_form (98 ∷ []) ∷ Op Sign.Colon ∷ in_form (99 ∷ []) ∷ []) ≡ Found
    (header_form (with_header false (item (Trees.Tuple (Trees.an_expr (Trees.Name (97 ∷ []) Load) Trees.no_exprs) Load)
    (Some (Trees.Name (98 ∷ []) Store)) ∷ [])) (Some (ExprOf (Trees.Name (99 ∷ []) Load) ∷ []))) []
depth_109 = refl

-- with ( a if b else c ) : d
depth_110 : read_line_to Py311 false 3 (Word Key.With ∷ Op Sign.LPar ∷ in_form (97 ∷ []) ∷ Word Key.If ∷ in_form (98 ∷ []) ∷ Word Key.Else ∷
    in_form (99 ∷ []) ∷ Op Sign.RPar ∷ Op Sign.Colon ∷ in_form (100 ∷ []) ∷ []) ≡ Found
    (header_form (with_header false (item (Trees.IfExp (Trees.Name (98 ∷ []) Load) (Trees.Name (97 ∷ []) Load) (Trees.Name (99 ∷ []) Load))
    None ∷ [])) (Some (ExprOf (Trees.Name (100 ∷ []) Load) ∷ []))) []
depth_110 = refl

-- with ( a ) if b else c : d
depth_111 : read_line_to Py311 false 3 (Word Key.With ∷ Op Sign.LPar ∷ in_form (97 ∷ []) ∷ Op Sign.RPar ∷ Word Key.If ∷ in_form (98 ∷ []) ∷
    Word Key.Else ∷ in_form (99 ∷ []) ∷ Op Sign.Colon ∷ in_form (100 ∷ []) ∷ []) ≡ Found
    (header_form (with_header false (item (Trees.IfExp (Trees.Name (98 ∷ []) Load) (Trees.Name (97 ∷ []) Load) (Trees.Name (99 ∷ []) Load))
    None ∷ [])) (Some (ExprOf (Trees.Name (100 ∷ []) Load) ∷ []))) []
depth_111 = refl

-- with ( a , b ) + c : d
depth_112 : read_line_to Py311 false 4 (Word Key.With ∷ Op Sign.LPar ∷ in_form (97 ∷ []) ∷ Op Sign.Comma ∷ in_form (98 ∷ []) ∷ Op Sign.RPar
    ∷ Op Sign.Plus ∷ in_form (99 ∷ []) ∷ Op Sign.Colon ∷ in_form (100 ∷ []) ∷ []) ≡ Found
    (header_form (with_header false
    (item (Trees.BinOp (Trees.Tuple (Trees.an_expr (Trees.Name (97 ∷ []) Load) (Trees.an_expr (Trees.Name (98 ∷ []) Load) Trees.no_exprs))
    Load) Bin.Add (Trees.Name (99 ∷ []) Load)) None ∷ [])) (Some (ExprOf (Trees.Name (100 ∷ []) Load) ∷ []))) []
depth_112 = refl

-- with ( a , lambda : b ) : c
depth_113 : read_line_to Py311 false 3 (Word Key.With ∷ Op Sign.LPar ∷ in_form (97 ∷ []) ∷ Op Sign.Comma ∷ Word Key.Lambda ∷ Op Sign.Colon ∷
    in_form (98 ∷ []) ∷ Op Sign.RPar ∷ Op Sign.Colon ∷ in_form (99 ∷ []) ∷ []) ≡ Found
    (header_form (with_header false
    (item (Trees.Name (97 ∷ []) Load) None ∷ item
    (Trees.Lambda (Trees.arguments Trees.no_arg Trees.no_arg Trees.absent_arg Trees.no_arg Trees.no_optional Trees.absent_arg
    Trees.no_exprs) (Trees.Name (98 ∷ []) Load)) None ∷ [])) (Some (ExprOf (Trees.Name (99 ∷ []) Load) ∷ []))) []
depth_113 = refl

-- def f ( ) : pass
depth_114 : read_line_to Py311 false 1 (Word Key.Def ∷ in_form (102 ∷ []) ∷ Op Sign.LPar ∷ Op Sign.RPar ∷ Op Sign.Colon ∷ Word Key.Pass ∷
    []) ≡ Found (header_form
    (def_header (function_head false (102 ∷ []) [] (Trees.arguments Trees.no_arg Trees.no_arg Trees.absent_arg Trees.no_arg
    Trees.no_optional Trees.absent_arg Trees.no_exprs) None)) (Some (Pass ∷ []))) []
depth_114 = refl

-- def f ( a , b : int = 1 , / , * c : * d , e = 2 , ** g ) -> h : pass
depth_115 : read_line_to Py311 false 3 (Word Key.Def ∷ in_form (102 ∷ []) ∷ Op Sign.LPar ∷ in_form (97 ∷ []) ∷ Op Sign.Comma ∷ in_form
    (98 ∷ []) ∷ Op Sign.Colon ∷ in_form (105 ∷ 110 ∷ 116 ∷ []) ∷ Op Sign.Equal ∷ whole 1 ∷ Op Sign.Comma ∷ Op Sign.Slash ∷ Op Sign.Comma ∷
    Op Sign.Star ∷ in_form (99 ∷ []) ∷ Op Sign.Colon ∷ Op Sign.Star ∷ in_form (100 ∷ []) ∷ Op Sign.Comma ∷ in_form (101 ∷ []) ∷ Op
    Sign.Equal ∷ whole 2 ∷ Op Sign.Comma ∷ Op Sign.DoubleStar ∷ in_form (103 ∷ []) ∷ Op Sign.RPar ∷ Op Sign.RArrow ∷ in_form (104 ∷ []) ∷ Op
    Sign.Colon ∷ Word Key.Pass ∷ []) ≡ Found
    (header_form (def_header
    (function_head false (102 ∷ []) []
    (Trees.arguments (Trees.an_arg (Trees.arg (97 ∷ []) Trees.absent)
    (Trees.an_arg (Trees.arg (98 ∷ []) (Trees.present (Trees.Name (105 ∷ 110 ∷ 116 ∷ []) Load))) Trees.no_arg)) Trees.no_arg
    (Trees.present_arg (Trees.arg (99 ∷ []) (Trees.present (Trees.Starred (Trees.Name (100 ∷ []) Load) Load))))
    (Trees.an_arg (Trees.arg (101 ∷ []) Trees.absent) Trees.no_arg) (Trees.an_optional (Trees.present (Trees.Constant (Values.Int 2)))
    Trees.no_optional) (Trees.present_arg (Trees.arg (103 ∷ []) Trees.absent))
    (Trees.an_expr (Trees.Constant (Values.Int 1)) Trees.no_exprs)) (Some (Trees.Name (104 ∷ []) Load)))) (Some (Pass ∷ []))) []
depth_115 = refl

-- def f ( a ) :
depth_116 : read_line_to Py311 false 1 (Word Key.Def ∷ in_form (102 ∷ []) ∷ Op Sign.LPar ∷ in_form (97 ∷ []) ∷ Op Sign.RPar ∷ Op Sign.Colon
    ∷ []) ≡ Found (header_form
    (def_header (function_head false (102 ∷ []) []
    (Trees.arguments Trees.no_arg (Trees.an_arg (Trees.arg (97 ∷ []) Trees.absent) Trees.no_arg) Trees.absent_arg Trees.no_arg
    Trees.no_optional Trees.absent_arg Trees.no_exprs) None)) None) []
depth_116 = refl

-- class C : pass
depth_117 : read_line_to Py311 false 0 (Word Key.Class ∷ in_form (67 ∷ []) ∷ Op Sign.Colon ∷ Word Key.Pass ∷ []) ≡ Found
    (header_form (def_header (class_head (67 ∷ []) [] ([]) Trees.no_keyword)) (Some (Pass ∷ []))) []
depth_117 = refl

-- class C ( ) : pass
depth_118 : read_line_to Py311 false 1 (Word Key.Class ∷ in_form (67 ∷ []) ∷ Op Sign.LPar ∷ Op Sign.RPar ∷ Op Sign.Colon ∷ Word Key.Pass ∷
    []) ≡ Found (header_form (def_header (class_head (67 ∷ []) [] ([]) Trees.no_keyword)) (Some (Pass ∷ []))) []
depth_118 = refl

-- class C ( a , * b , c = d , ** e ) : pass
depth_119 : read_line_to Py311 false 3 (Word Key.Class ∷ in_form (67 ∷ []) ∷ Op Sign.LPar ∷ in_form (97 ∷ []) ∷ Op Sign.Comma ∷ Op Sign.Star
    ∷ in_form (98 ∷ []) ∷ Op Sign.Comma ∷ in_form (99 ∷ []) ∷ Op Sign.Equal ∷ in_form (100 ∷ []) ∷ Op Sign.Comma ∷ Op Sign.DoubleStar ∷
    in_form (101 ∷ []) ∷ Op Sign.RPar ∷ Op Sign.Colon ∷ Word Key.Pass ∷ []) ≡ Found
    (header_form (def_header (class_head (67 ∷ []) [] ((Trees.Name (97 ∷ []) Load) ∷ (Trees.Starred (Trees.Name (98 ∷ []) Load) Load) ∷ [])
    (Trees.a_keyword (Some (99 ∷ [])) (Trees.Name (100 ∷ []) Load) (Trees.a_keyword None (Trees.Name (101 ∷ []) Load) Trees.no_keyword))))
    (Some (Pass ∷ []))) []
depth_119 = refl

-- @ a
depth_120 : read_line_to Py311 false 1 (Op Sign.At ∷ in_form (97 ∷ []) ∷ []) ≡ Found (decorator_form (Trees.Name (97 ∷ []) Load)) []
depth_120 = refl

-- @ a . b ( c )
depth_121 : read_line_to Py311 false 4 (Op Sign.At ∷ in_form (97 ∷ []) ∷ Op Sign.Dot ∷ in_form (98 ∷ []) ∷ Op Sign.LPar ∷ in_form (99 ∷ [])
    ∷ Op Sign.RPar ∷ []) ≡ Found
    (decorator_form (Trees.Call (Trees.Attribute (Trees.Name (97 ∷ []) Load) (98 ∷ []) Load)
    (Trees.an_expr (Trees.Name (99 ∷ []) Load) Trees.no_exprs) Trees.no_keyword)) []
depth_121 = refl

-- @ x := y
depth_122 : read_line_to Py311 false 2 (Op Sign.At ∷ in_form (120 ∷ []) ∷ Op Sign.ColonEqual ∷ in_form (121 ∷ []) ∷ []) ≡ Found
    (decorator_form (Trees.NamedExpr (Trees.Name (120 ∷ []) Store) (Trees.Name (121 ∷ []) Load))) []
depth_122 = refl

-- @ lambda : x
depth_123 : read_line_to Py311 false 2 (Op Sign.At ∷ Word Key.Lambda ∷ Op Sign.Colon ∷ in_form (120 ∷ []) ∷ []) ≡ Found
    (decorator_form (Trees.Lambda (Trees.arguments Trees.no_arg Trees.no_arg Trees.absent_arg Trees.no_arg Trees.no_optional
    Trees.absent_arg Trees.no_exprs) (Trees.Name (120 ∷ []) Load))) []
depth_123 = refl

-- for x in y : z ; w ;
depth_136 : read_line_to Py311 false 1 (Word Key.For ∷ in_form (120 ∷ []) ∷ Word Key.In ∷ in_form (121 ∷ []) ∷ Op Sign.Colon ∷ in_form
    (122 ∷ []) ∷ Op Sign.Semi ∷ in_form (119 ∷ []) ∷ Op Sign.Semi ∷ []) ≡ Found
    (header_form (loop_header (for_head false (Trees.Name (120 ∷ []) Store) (Trees.Name (121 ∷ []) Load)))
    (Some (ExprOf (Trees.Name (122 ∷ []) Load) ∷ ExprOf (Trees.Name (119 ∷ []) Load) ∷ []))) []
depth_136 = refl

-- class C : x : int = 1
depth_137 : read_line_to Py311 false 1 (Word Key.Class ∷ in_form (67 ∷ []) ∷ Op Sign.Colon ∷ in_form (120 ∷ []) ∷ Op Sign.Colon ∷ in_form
    (105 ∷ 110 ∷ 116 ∷ []) ∷ Op Sign.Equal ∷ whole 1 ∷ []) ≡ Found (header_form (def_header (class_head (67 ∷ []) [] ([]) Trees.no_keyword))
    (Some (AnnAssign (Trees.Name (120 ∷ []) Store) (Trees.Name (105 ∷ 110 ∷ 116 ∷ []) Load)
    (Some (Trees.Constant (Values.Int 1))) true ∷ []))) []
depth_137 = refl

-- with a as b : c : d
depth_138 : read_line_to Py311 false 1 (Word Key.With ∷ in_form (97 ∷ []) ∷ Word Key.As ∷ in_form (98 ∷ []) ∷ Op Sign.Colon ∷ in_form
    (99 ∷ []) ∷ Op Sign.Colon ∷ in_form (100 ∷ []) ∷ []) ≡ Found
    (header_form (with_header false (item (Trees.Name (97 ∷ []) Load) (Some (Trees.Name (98 ∷ []) Store)) ∷ []))
    (Some (AnnAssign (Trees.Name (99 ∷ []) Store) (Trees.Name (100 ∷ []) Load) None true ∷ []))) []
depth_138 = refl

-- with ( ( a ) ) : b
depth_159 : read_line_to Py311 false 3 (Word Key.With ∷ Op Sign.LPar ∷ Op Sign.LPar ∷ in_form (97 ∷ []) ∷ Op Sign.RPar ∷ Op Sign.RPar ∷ Op
    Sign.Colon ∷ in_form (98 ∷ []) ∷ []) ≡ Found (header_form (with_header false (item (Trees.Name (97 ∷ []) Load) None ∷ []))
    (Some (ExprOf (Trees.Name (98 ∷ []) Load) ∷ []))) []
depth_159 = refl

-- with ( ( a ) ) as ( ( b ) ) : c
depth_160 : read_line_to Py311 false 3 (Word Key.With ∷ Op Sign.LPar ∷ Op Sign.LPar ∷ in_form (97 ∷ []) ∷ Op Sign.RPar ∷ Op Sign.RPar ∷ Word
    Key.As ∷ Op Sign.LPar ∷ Op Sign.LPar ∷ in_form (98 ∷ []) ∷ Op Sign.RPar ∷ Op Sign.RPar ∷ Op Sign.Colon ∷ in_form (99 ∷ []) ∷ []) ≡ Found
    (header_form (with_header false (item (Trees.Name (97 ∷ []) Load) (Some (Trees.Name (98 ∷ []) Store)) ∷ []))
    (Some (ExprOf (Trees.Name (99 ∷ []) Load) ∷ []))) []
depth_160 = refl

-- with ( ( ( a ) ) as ( ( b ) ) ) : c
depth_161 : read_line_to Py311 false 4 (Word Key.With ∷ Op Sign.LPar ∷ Op Sign.LPar ∷ Op Sign.LPar ∷ in_form (97 ∷ []) ∷ Op Sign.RPar ∷ Op
    Sign.RPar ∷ Word Key.As ∷ Op Sign.LPar ∷ Op Sign.LPar ∷ in_form (98 ∷ []) ∷ Op Sign.RPar ∷ Op Sign.RPar ∷ Op Sign.RPar ∷ Op Sign.Colon ∷
    in_form (99 ∷ []) ∷ []) ≡ Found
    (header_form (with_header false (item (Trees.Name (97 ∷ []) Load) (Some (Trees.Name (98 ∷ []) Store)) ∷ []))
    (Some (ExprOf (Trees.Name (99 ∷ []) Load) ∷ []))) []
depth_161 = refl

-- with ( ( ( ( a ) ) ) ) . b : c
depth_162 : read_line_to Py311 false 6 (Word Key.With ∷ Op Sign.LPar ∷ Op Sign.LPar ∷ Op Sign.LPar ∷ Op Sign.LPar ∷ in_form (97 ∷ []) ∷ Op
    Sign.RPar ∷ Op Sign.RPar ∷ Op Sign.RPar ∷ Op Sign.RPar ∷ Op Sign.Dot ∷ in_form (98 ∷ []) ∷ Op Sign.Colon ∷ in_form (99 ∷ []) ∷ []) ≡
    Found (header_form (with_header false (item (Trees.Attribute (Trees.Name (97 ∷ []) Load) (98 ∷ []) Load) None ∷ []))
    (Some (ExprOf (Trees.Name (99 ∷ []) Load) ∷ []))) []
depth_162 = refl

-- for ( ( a ) ) , [ b ] in ( ( c ) ) : d
depth_163 : read_line_to Py311 false 5 (Word Key.For ∷ Op Sign.LPar ∷ Op Sign.LPar ∷ in_form (97 ∷ []) ∷ Op Sign.RPar ∷ Op Sign.RPar ∷ Op
    Sign.Comma ∷ Op Sign.LSqb ∷ in_form (98 ∷ []) ∷ Op Sign.RSqb ∷ Word Key.In ∷ Op Sign.LPar ∷ Op Sign.LPar ∷ in_form (99 ∷ []) ∷ Op
    Sign.RPar ∷ Op Sign.RPar ∷ Op Sign.Colon ∷ in_form (100 ∷ []) ∷ []) ≡ Found
    (header_form (loop_header
    (for_head false (Trees.Tuple
    (Trees.an_expr (Trees.Name (97 ∷ []) Store)
    (Trees.an_expr (Trees.ListOf (Trees.an_expr (Trees.Name (98 ∷ []) Store) Trees.no_exprs) Store) Trees.no_exprs)) Store)
    (Trees.Name (99 ∷ []) Load))) (Some (ExprOf (Trees.Name (100 ∷ []) Load) ∷ []))) []
depth_163 = refl

-- def f ( a : ( ( b ) ) = ( ( c ) ) ) -> ( ( d ) ) : e
depth_164 : read_line_to Py311 false 4 (Word Key.Def ∷ in_form (102 ∷ []) ∷ Op Sign.LPar ∷ in_form (97 ∷ []) ∷ Op Sign.Colon ∷ Op Sign.LPar
    ∷ Op Sign.LPar ∷ in_form (98 ∷ []) ∷ Op Sign.RPar ∷ Op Sign.RPar ∷ Op Sign.Equal ∷ Op Sign.LPar ∷ Op Sign.LPar ∷ in_form (99 ∷ []) ∷ Op
    Sign.RPar ∷ Op Sign.RPar ∷ Op Sign.RPar ∷ Op Sign.RArrow ∷ Op Sign.LPar ∷ Op Sign.LPar ∷ in_form (100 ∷ []) ∷ Op Sign.RPar ∷ Op
    Sign.RPar ∷ Op Sign.Colon ∷ in_form (101 ∷ []) ∷ []) ≡ Found
    (header_form (def_header
    (function_head false (102 ∷ []) []
    (Trees.arguments Trees.no_arg (Trees.an_arg (Trees.arg (97 ∷ []) (Trees.present (Trees.Name (98 ∷ []) Load))) Trees.no_arg)
    Trees.absent_arg Trees.no_arg Trees.no_optional Trees.absent_arg (Trees.an_expr (Trees.Name (99 ∷ []) Load) Trees.no_exprs))
    (Some (Trees.Name (100 ∷ []) Load)))) (Some (ExprOf (Trees.Name (101 ∷ []) Load) ∷ []))) []
depth_164 = refl

-- class C ( ( a ) , * ( ( b ) ) , ** ( ( c ) ) ) : d
depth_165 : read_line_to Py311 false 5 (Word Key.Class ∷ in_form (67 ∷ []) ∷ Op Sign.LPar ∷ Op Sign.LPar ∷ in_form (97 ∷ []) ∷ Op Sign.RPar
    ∷ Op Sign.Comma ∷ Op Sign.Star ∷ Op Sign.LPar ∷ Op Sign.LPar ∷ in_form (98 ∷ []) ∷ Op Sign.RPar ∷ Op Sign.RPar ∷ Op Sign.Comma ∷ Op
    Sign.DoubleStar ∷ Op Sign.LPar ∷ Op Sign.LPar ∷ in_form (99 ∷ []) ∷ Op Sign.RPar ∷ Op Sign.RPar ∷ Op Sign.RPar ∷ Op Sign.Colon ∷ in_form
    (100 ∷ []) ∷ []) ≡ Found
    (header_form (def_header (class_head (67 ∷ []) [] ((Trees.Name (97 ∷ []) Load) ∷ (Trees.Starred (Trees.Name (98 ∷ []) Load) Load) ∷ [])
    (Trees.a_keyword None (Trees.Name (99 ∷ []) Load) Trees.no_keyword))) (Some (ExprOf (Trees.Name (100 ∷ []) Load) ∷ []))) []
depth_165 = refl

-- @ ( ( a ) )
depth_166 : read_line_to Py311 false 3 (Op Sign.At ∷ Op Sign.LPar ∷ Op Sign.LPar ∷ in_form (97 ∷ []) ∷ Op Sign.RPar ∷ Op Sign.RPar ∷ []) ≡
    Found (decorator_form (Trees.Name (97 ∷ []) Load)) []
depth_166 = refl

-- with ( a , ( b , ( c ) ) ) : d
depth_184 : read_line_to Py311 false 5 (Word Key.With ∷ Op Sign.LPar ∷ in_form (97 ∷ []) ∷ Op Sign.Comma ∷ Op Sign.LPar ∷ in_form (98 ∷ [])
    ∷ Op Sign.Comma ∷ Op Sign.LPar ∷ in_form (99 ∷ []) ∷ Op Sign.RPar ∷ Op Sign.RPar ∷ Op Sign.RPar ∷ Op Sign.Colon ∷ in_form (100 ∷ []) ∷
    []) ≡ Found (header_form
    (with_header false (item (Trees.Name (97 ∷ []) Load) None ∷ item
    (Trees.Tuple (Trees.an_expr (Trees.Name (98 ∷ []) Load) (Trees.an_expr (Trees.Name (99 ∷ []) Load) Trees.no_exprs)) Load) None ∷ []))
    (Some (ExprOf (Trees.Name (100 ∷ []) Load) ∷ []))) []
depth_184 = refl

-- with ( a , ( b , ( c ) ) ) [ 0 ] : d
depth_185 : read_line_to Py311 false 7 (Word Key.With ∷ Op Sign.LPar ∷ in_form (97 ∷ []) ∷ Op Sign.Comma ∷ Op Sign.LPar ∷ in_form (98 ∷ [])
    ∷ Op Sign.Comma ∷ Op Sign.LPar ∷ in_form (99 ∷ []) ∷ Op Sign.RPar ∷ Op Sign.RPar ∷ Op Sign.RPar ∷ Op Sign.LSqb ∷ whole 0 ∷ Op Sign.RSqb
    ∷ Op Sign.Colon ∷ in_form (100 ∷ []) ∷ []) ≡ Found
    (header_form (with_header false
    (item (Trees.Subscript
    (Trees.Tuple (Trees.an_expr (Trees.Name (97 ∷ []) Load)
    (Trees.an_expr (Trees.Tuple (Trees.an_expr (Trees.Name (98 ∷ []) Load) (Trees.an_expr (Trees.Name (99 ∷ []) Load) Trees.no_exprs)) Load)
    Trees.no_exprs)) Load) (Trees.Constant (Values.Int 0)) Load) None ∷ [])) (Some (ExprOf (Trees.Name (100 ∷ []) Load) ∷ []))) []
depth_185 = refl

-- with ( a if b else ( c ) ) : d
depth_186 : read_line_to Py311 false 4 (Word Key.With ∷ Op Sign.LPar ∷ in_form (97 ∷ []) ∷ Word Key.If ∷ in_form (98 ∷ []) ∷ Word Key.Else ∷
    Op Sign.LPar ∷ in_form (99 ∷ []) ∷ Op Sign.RPar ∷ Op Sign.RPar ∷ Op Sign.Colon ∷ in_form (100 ∷ []) ∷ []) ≡ Found
    (header_form (with_header false (item (Trees.IfExp (Trees.Name (98 ∷ []) Load) (Trees.Name (97 ∷ []) Load) (Trees.Name (99 ∷ []) Load))
    None ∷ [])) (Some (ExprOf (Trees.Name (100 ∷ []) Load) ∷ []))) []
depth_186 = refl

-- ---- The headers of a `match`.

abbrev extended : Profile
extended = python versions.Py311 Whole

-- match (x):
depth_match : read_line_to extended false 2 (match_word match_name ∷ Op Sign.LPar ∷ in_form (120 ∷ []) ∷ Op Sign.RPar ∷ Op Sign.Colon ∷ [])
    ≡ Found (header_form (match_header (Trees.Name (120 ∷ []) Load)) None) []
depth_match = refl

-- match (x):
depth_match_less : read_line_to extended false 1 (match_word match_name ∷ Op Sign.LPar ∷ in_form (120 ∷ []) ∷ Op Sign.RPar ∷ Op
    Sign.Colon ∷ []) ≡ TooDeep
depth_match_less = refl

-- case [1]: (y)
depth_case : read_line_to extended true 3 (case_word case_name ∷ Op Sign.LSqb ∷ whole 1 ∷ Op Sign.RSqb ∷ Op Sign.Colon ∷ Op Sign.LPar ∷
    in_form (121 ∷ []) ∷ Op Sign.RPar ∷ []) ≡ Found
    (header_form (case_header (MatchSequence (a_pattern (MatchValue (Trees.Constant (Values.Int 1))) no_pattern)) None)
    (Some (ExprOf (Trees.Name (121 ∷ []) Load) ∷ []))) []
depth_case = refl

-- case [1]: (y)
depth_case_less : read_line_to extended true 2 (case_word case_name ∷ Op Sign.LSqb ∷ whole 1 ∷ Op Sign.RSqb ∷ Op Sign.Colon ∷ Op Sign.LPar ∷
    in_form (121 ∷ []) ∷ Op Sign.RPar ∷ []) ≡ TooDeep
depth_case_less = refl

-- case (x) if ((y)):
depth_guard : read_line_to extended true 3 (case_word case_name ∷ Op Sign.LPar ∷ in_form (120 ∷ []) ∷ Op Sign.RPar ∷ Word Key.If ∷ Op
    Sign.LPar ∷ Op Sign.LPar ∷ in_form (121 ∷ []) ∷ Op Sign.RPar ∷ Op Sign.RPar ∷ Op Sign.Colon ∷ []) ≡ Found
    (header_form (case_header (MatchAs absent_pattern (Some (120 ∷ []))) (Some (Trees.Name (121 ∷ []) Load))) None) []
depth_guard = refl

-- case (x) if ((y)):
depth_guard_less : read_line_to extended true 2 (case_word case_name ∷ Op Sign.LPar ∷ in_form (120 ∷ []) ∷ Op Sign.RPar ∷ Word Key.If ∷ Op
    Sign.LPar ∷ Op Sign.LPar ∷ in_form (121 ∷ []) ∷ Op Sign.RPar ∷ Op Sign.RPar ∷ Op Sign.Colon ∷ []) ≡ TooDeep
depth_guard_less = refl
