-- Worked lines that begin as a header or a decorator: the reader computes their forms.
--
-- Carries: no contract; its rows are computed as it is checked.
use Rattle.std.proofs.Common.{◌≡◌, refl, [], ◌∷◌, Some, None, true, false}
use Rattle.pylex_lexeme.specs.declared.kinds.Exact.TheVariants as Sign
use Rattle.pytoken.specs.declared.keywords.Keyword.TheVariants as Key
use Rattle.pytree_node.specs.declared.operators.Operator.TheVariants as Bin
use Rattle.pytree_node.specs.declared.operators.Context.TheVariants.{Load, Store}
use Rattle.pytree_node.specs.Profiles.{plain_311 as Py311}
use Rattle.pytree_node.specs.Trees as Trees
use Rattle.pytree_node.specs.Values as Values
use Rattle.pytoken.specs.Terminals.{Op, Word, in_form, whole}
use Rattle.pygrammar.specs.Reader.{Found, NoForm}
use Rattle.pytree_node.specs.Trees.{Assign, AnnAssign, ExprOf, Pass}
use Rattle.pygrammar.specs.Lines.{header_form, if_header, elif_header, else_header, loop_header, with_header, try_header, except_header}
use Rattle.pygrammar.specs.Lines.{finally_header, def_header, while_head, for_head, function_head, decorator_form, class_head}
use Rattle.pygrammar.specs.Forms.{item}
use Rattle.pygrammar.specs.LineReader.{read_line}
use Rattle.pytree_node.specs.declared.operators.Comparison.TheVariants as Is

-- if x: pass
row_78 : read_line Py311 false (Word Key.If ∷ in_form (120 ∷ []) ∷ Op Sign.Colon ∷ Word Key.Pass ∷ []) ≡ Found
    (header_form (if_header (Trees.Name (120 ∷ []) Load)) (Some (Pass ∷ []))) []
row_78 = refl

-- if x:
row_79 : read_line Py311 false (Word Key.If ∷ in_form (120 ∷ []) ∷ Op Sign.Colon ∷ []) ≡ Found
    (header_form (if_header (Trees.Name (120 ∷ []) Load)) None) []
row_79 = refl

-- if x: y: int
row_80 : read_line Py311 false (Word Key.If ∷ in_form (120 ∷ []) ∷ Op Sign.Colon ∷ in_form (121 ∷ []) ∷ Op Sign.Colon ∷ in_form
    (105 ∷ 110 ∷ 116 ∷ []) ∷ []) ≡ Found (header_form (if_header (Trees.Name (120 ∷ []) Load))
    (Some (AnnAssign (Trees.Name (121 ∷ []) Store) (Trees.Name (105 ∷ 110 ∷ 116 ∷ []) Load) None true ∷ []))) []
row_80 = refl

-- if lambda: x: y
row_81 : read_line Py311 false (Word Key.If ∷ Word Key.Lambda ∷ Op Sign.Colon ∷ in_form (120 ∷ []) ∷ Op Sign.Colon ∷ in_form (121 ∷ []) ∷
    []) ≡ Found (header_form
    (if_header (Trees.Lambda (Trees.arguments Trees.no_arg Trees.no_arg Trees.absent_arg Trees.no_arg Trees.no_optional Trees.absent_arg
    Trees.no_exprs) (Trees.Name (120 ∷ []) Load))) (Some (ExprOf (Trees.Name (121 ∷ []) Load) ∷ []))) []
row_81 = refl

-- if (x := 1): pass
row_82 : read_line Py311 false (Word Key.If ∷ Op Sign.LPar ∷ in_form (120 ∷ []) ∷ Op Sign.ColonEqual ∷ whole 1 ∷ Op Sign.RPar ∷ Op
    Sign.Colon ∷ Word Key.Pass ∷ []) ≡ Found
    (header_form (if_header (Trees.NamedExpr (Trees.Name (120 ∷ []) Store) (Trees.Constant (Values.Int 1)))) (Some (Pass ∷ []))) []
row_82 = refl

-- if x := 1:
row_83 : read_line Py311 false (Word Key.If ∷ in_form (120 ∷ []) ∷ Op Sign.ColonEqual ∷ whole 1 ∷ Op Sign.Colon ∷ []) ≡ Found
    (header_form (if_header (Trees.NamedExpr (Trees.Name (120 ∷ []) Store) (Trees.Constant (Values.Int 1)))) None) []
row_83 = refl

-- elif a: b; c
row_84 : read_line Py311 false (Word Key.Elif ∷ in_form (97 ∷ []) ∷ Op Sign.Colon ∷ in_form (98 ∷ []) ∷ Op Sign.Semi ∷ in_form (99 ∷ []) ∷
    []) ≡ Found (header_form (elif_header (Trees.Name (97 ∷ []) Load))
    (Some (ExprOf (Trees.Name (98 ∷ []) Load) ∷ ExprOf (Trees.Name (99 ∷ []) Load) ∷ []))) []
row_84 = refl

-- elif *a: b
row_85 : read_line Py311 false (Word Key.Elif ∷ Op Sign.Star ∷ in_form (97 ∷ []) ∷ Op Sign.Colon ∷ in_form (98 ∷ []) ∷ []) ≡ NoForm
row_85 = refl

-- else:
row_86 : read_line Py311 false (Word Key.Else ∷ Op Sign.Colon ∷ []) ≡ Found (header_form (else_header) None) []
row_86 = refl

-- else: x = 1
row_87 : read_line Py311 false (Word Key.Else ∷ Op Sign.Colon ∷ in_form (120 ∷ []) ∷ Op Sign.Equal ∷ whole 1 ∷ []) ≡ Found
    (header_form (else_header) (Some (Assign ((Trees.Name (120 ∷ []) Store) ∷ []) (Trees.Constant (Values.Int 1)) ∷ []))) []
row_87 = refl

-- else: if x: y
row_88 : read_line Py311 false (Word Key.Else ∷ Op Sign.Colon ∷ Word Key.If ∷ in_form (120 ∷ []) ∷ Op Sign.Colon ∷ in_form
    (121 ∷ []) ∷ []) ≡ NoForm
row_88 = refl

-- while x: pass
row_89 : read_line Py311 false (Word Key.While ∷ in_form (120 ∷ []) ∷ Op Sign.Colon ∷ Word Key.Pass ∷ []) ≡ Found
    (header_form (loop_header (while_head (Trees.Name (120 ∷ []) Load))) (Some (Pass ∷ []))) []
row_89 = refl

-- for x in y: pass
row_90 : read_line Py311 false (Word Key.For ∷ in_form (120 ∷ []) ∷ Word Key.In ∷ in_form (121 ∷ []) ∷ Op Sign.Colon ∷ Word Key.Pass ∷ []) ≡
    Found (header_form (loop_header (for_head false (Trees.Name (120 ∷ []) Store) (Trees.Name (121 ∷ []) Load))) (Some (Pass ∷ []))) []
row_90 = refl

-- for x, *y in z, *w: pass
row_91 : read_line Py311 false (Word Key.For ∷ in_form (120 ∷ []) ∷ Op Sign.Comma ∷ Op Sign.Star ∷ in_form (121 ∷ []) ∷ Word Key.In ∷
    in_form (122 ∷ []) ∷ Op Sign.Comma ∷ Op Sign.Star ∷ in_form (119 ∷ []) ∷ Op Sign.Colon ∷ Word Key.Pass ∷ []) ≡ Found
    (header_form (loop_header
    (for_head false (Trees.Tuple
    (Trees.an_expr (Trees.Name (120 ∷ []) Store) (Trees.an_expr (Trees.Starred (Trees.Name (121 ∷ []) Store) Store) Trees.no_exprs)) Store)
    (Trees.Tuple (Trees.an_expr (Trees.Name (122 ∷ []) Load) (Trees.an_expr (Trees.Starred (Trees.Name (119 ∷ []) Load) Load)
    Trees.no_exprs)) Load))) (Some (Pass ∷ []))) []
row_91 = refl

-- for (a.b), [c] in d:
row_92 : read_line Py311 false (Word Key.For ∷ Op Sign.LPar ∷ in_form (97 ∷ []) ∷ Op Sign.Dot ∷ in_form (98 ∷ []) ∷ Op Sign.RPar ∷ Op
    Sign.Comma ∷ Op Sign.LSqb ∷ in_form (99 ∷ []) ∷ Op Sign.RSqb ∷ Word Key.In ∷ in_form (100 ∷ []) ∷ Op Sign.Colon ∷ []) ≡ Found
    (header_form (loop_header
    (for_head false (Trees.Tuple (Trees.an_expr (Trees.Attribute (Trees.Name (97 ∷ []) Load) (98 ∷ []) Store)
    (Trees.an_expr (Trees.ListOf (Trees.an_expr (Trees.Name (99 ∷ []) Store) Trees.no_exprs) Store) Trees.no_exprs)) Store)
    (Trees.Name (100 ∷ []) Load))) None) []
row_92 = refl

-- for x in y in z: pass
row_93 : read_line Py311 false (Word Key.For ∷ in_form (120 ∷ []) ∷ Word Key.In ∷ in_form (121 ∷ []) ∷ Word Key.In ∷ in_form (122 ∷ []) ∷ Op
    Sign.Colon ∷ Word Key.Pass ∷ []) ≡ Found
    (header_form (loop_header (for_head false (Trees.Name (120 ∷ []) Store) (Trees.Compare (Trees.Name (121 ∷ []) Load) (Is.Within ∷ [])
    (Trees.an_expr (Trees.Name (122 ∷ []) Load) Trees.no_exprs)))) (Some (Pass ∷ []))) []
row_93 = refl

-- for x + y in z: pass
row_94 : read_line Py311 false (Word Key.For ∷ in_form (120 ∷ []) ∷ Op Sign.Plus ∷ in_form (121 ∷ []) ∷ Word Key.In ∷ in_form (122 ∷ []) ∷
    Op Sign.Colon ∷ Word Key.Pass ∷ []) ≡ NoForm
row_94 = refl

-- for x.y[z] in yield:
row_95 : read_line Py311 false (Word Key.For ∷ in_form (120 ∷ []) ∷ Op Sign.Dot ∷ in_form (121 ∷ []) ∷ Op Sign.LSqb ∷ in_form (122 ∷ []) ∷
    Op Sign.RSqb ∷ Word Key.In ∷ Word Key.Yield ∷ Op Sign.Colon ∷ []) ≡ NoForm
row_95 = refl

-- async for x in y: pass
row_96 : read_line Py311 false (Word Key.Async ∷ Word Key.For ∷ in_form (120 ∷ []) ∷ Word Key.In ∷ in_form (121 ∷ []) ∷ Op Sign.Colon ∷ Word
    Key.Pass ∷ []) ≡ Found
    (header_form (loop_header (for_head true (Trees.Name (120 ∷ []) Store) (Trees.Name (121 ∷ []) Load))) (Some (Pass ∷ []))) []
row_96 = refl

-- async with a as b, c: pass
row_97 : read_line Py311 false (Word Key.Async ∷ Word Key.With ∷ in_form (97 ∷ []) ∷ Word Key.As ∷ in_form (98 ∷ []) ∷ Op Sign.Comma ∷
    in_form (99 ∷ []) ∷ Op Sign.Colon ∷ Word Key.Pass ∷ []) ≡ Found
    (header_form (with_header true (item (Trees.Name (97 ∷ []) Load) (Some (Trees.Name (98 ∷ []) Store)) ∷ item (Trees.Name (99 ∷ []) Load)
    None ∷ [])) (Some (Pass ∷ []))) []
row_97 = refl

-- async def f(): pass
row_98 : read_line Py311 false (Word Key.Async ∷ Word Key.Def ∷ in_form (102 ∷ []) ∷ Op Sign.LPar ∷ Op Sign.RPar ∷ Op Sign.Colon ∷ Word
    Key.Pass ∷ []) ≡ Found
    (header_form (def_header (function_head true (102 ∷ []) [] (Trees.arguments Trees.no_arg Trees.no_arg Trees.absent_arg Trees.no_arg
    Trees.no_optional Trees.absent_arg Trees.no_exprs) None)) (Some (Pass ∷ []))) []
row_98 = refl

-- async x
row_99 : read_line Py311 false (Word Key.Async ∷ in_form (120 ∷ []) ∷ []) ≡ NoForm
row_99 = refl

-- async
row_100 : read_line Py311 false (Word Key.Async ∷ []) ≡ NoForm
row_100 = refl

-- try:
row_101 : read_line Py311 false (Word Key.Try ∷ Op Sign.Colon ∷ []) ≡ Found (header_form (try_header) None) []
row_101 = refl

-- try: pass
row_102 : read_line Py311 false (Word Key.Try ∷ Op Sign.Colon ∷ Word Key.Pass ∷ []) ≡ Found (header_form (try_header) (Some (Pass ∷ []))) []
row_102 = refl

-- finally:
row_103 : read_line Py311 false (Word Key.Finally ∷ Op Sign.Colon ∷ []) ≡ Found (header_form (finally_header) None) []
row_103 = refl

-- except:
row_104 : read_line Py311 false (Word Key.Except ∷ Op Sign.Colon ∷ []) ≡ Found (header_form (except_header false None None) None) []
row_104 = refl

-- except a:
row_105 : read_line Py311 false (Word Key.Except ∷ in_form (97 ∷ []) ∷ Op Sign.Colon ∷ []) ≡ Found
    (header_form (except_header false (Some (Trees.Name (97 ∷ []) Load)) None) None) []
row_105 = refl

-- except a as b: pass
row_106 : read_line Py311 false (Word Key.Except ∷ in_form (97 ∷ []) ∷ Word Key.As ∷ in_form (98 ∷ []) ∷ Op Sign.Colon ∷ Word Key.Pass ∷ [])
    ≡ Found (header_form (except_header false (Some (Trees.Name (97 ∷ []) Load)) (Some (98 ∷ []))) (Some (Pass ∷ []))) []
row_106 = refl

-- except* a: pass
row_107 : read_line Py311 false (Word Key.Except ∷ Op Sign.Star ∷ in_form (97 ∷ []) ∷ Op Sign.Colon ∷ Word Key.Pass ∷ []) ≡ Found
    (header_form (except_header true (Some (Trees.Name (97 ∷ []) Load)) None) (Some (Pass ∷ []))) []
row_107 = refl

-- except *a as b:
row_108 : read_line Py311 false (Word Key.Except ∷ Op Sign.Star ∷ in_form (97 ∷ []) ∷ Word Key.As ∷ in_form (98 ∷ []) ∷ Op Sign.Colon ∷ [])
    ≡ Found (header_form (except_header true (Some (Trees.Name (97 ∷ []) Load)) (Some (98 ∷ []))) None) []
row_108 = refl

-- except *:
row_109 : read_line Py311 false (Word Key.Except ∷ Op Sign.Star ∷ Op Sign.Colon ∷ []) ≡ NoForm
row_109 = refl

-- except a, b:
row_110 : read_line Py311 false (Word Key.Except ∷ in_form (97 ∷ []) ∷ Op Sign.Comma ∷ in_form (98 ∷ []) ∷ Op Sign.Colon ∷ []) ≡ NoForm
row_110 = refl

-- except (a, b):
row_111 : read_line Py311 false (Word Key.Except ∷ Op Sign.LPar ∷ in_form (97 ∷ []) ∷ Op Sign.Comma ∷ in_form (98 ∷ []) ∷ Op Sign.RPar ∷ Op
    Sign.Colon ∷ []) ≡ Found
    (header_form (except_header false
    (Some (Trees.Tuple (Trees.an_expr (Trees.Name (97 ∷ []) Load) (Trees.an_expr (Trees.Name (98 ∷ []) Load) Trees.no_exprs)) Load)) None)
    None) []
row_111 = refl

-- with a: pass
row_112 : read_line Py311 false (Word Key.With ∷ in_form (97 ∷ []) ∷ Op Sign.Colon ∷ Word Key.Pass ∷ []) ≡ Found
    (header_form (with_header false (item (Trees.Name (97 ∷ []) Load) None ∷ [])) (Some (Pass ∷ []))) []
row_112 = refl

-- with (a): pass
row_113 : read_line Py311 false (Word Key.With ∷ Op Sign.LPar ∷ in_form (97 ∷ []) ∷ Op Sign.RPar ∷ Op Sign.Colon ∷ Word Key.Pass ∷ []) ≡
    Found (header_form (with_header false (item (Trees.Name (97 ∷ []) Load) None ∷ [])) (Some (Pass ∷ []))) []
row_113 = refl

-- with (a) as b: c
row_114 : read_line Py311 false (Word Key.With ∷ Op Sign.LPar ∷ in_form (97 ∷ []) ∷ Op Sign.RPar ∷ Word Key.As ∷ in_form (98 ∷ []) ∷ Op
    Sign.Colon ∷ in_form (99 ∷ []) ∷ []) ≡ Found
    (header_form (with_header false (item (Trees.Name (97 ∷ []) Load) (Some (Trees.Name (98 ∷ []) Store)) ∷ []))
    (Some (ExprOf (Trees.Name (99 ∷ []) Load) ∷ []))) []
row_114 = refl

-- with (a, b): pass
row_115 : read_line Py311 false (Word Key.With ∷ Op Sign.LPar ∷ in_form (97 ∷ []) ∷ Op Sign.Comma ∷ in_form (98 ∷ []) ∷ Op Sign.RPar ∷ Op
    Sign.Colon ∷ Word Key.Pass ∷ []) ≡ Found
    (header_form (with_header false (item (Trees.Name (97 ∷ []) Load) None ∷ item (Trees.Name (98 ∷ []) Load) None ∷ []))
    (Some (Pass ∷ []))) []
row_115 = refl

-- with ((a, b)): pass
row_116 : read_line Py311 false (Word Key.With ∷ Op Sign.LPar ∷ Op Sign.LPar ∷ in_form (97 ∷ []) ∷ Op Sign.Comma ∷ in_form (98 ∷ []) ∷ Op
    Sign.RPar ∷ Op Sign.RPar ∷ Op Sign.Colon ∷ Word Key.Pass ∷ []) ≡ Found
    (header_form (with_header false
    (item (Trees.Tuple (Trees.an_expr (Trees.Name (97 ∷ []) Load) (Trees.an_expr (Trees.Name (98 ∷ []) Load) Trees.no_exprs)) Load) None ∷
    [])) (Some (Pass ∷ []))) []
row_116 = refl

-- with (a, b) as c: d
row_117 : read_line Py311 false (Word Key.With ∷ Op Sign.LPar ∷ in_form (97 ∷ []) ∷ Op Sign.Comma ∷ in_form (98 ∷ []) ∷ Op Sign.RPar ∷ Word
    Key.As ∷ in_form (99 ∷ []) ∷ Op Sign.Colon ∷ in_form (100 ∷ []) ∷ []) ≡ Found
    (header_form (with_header false
    (item (Trees.Tuple (Trees.an_expr (Trees.Name (97 ∷ []) Load) (Trees.an_expr (Trees.Name (98 ∷ []) Load) Trees.no_exprs)) Load)
    (Some (Trees.Name (99 ∷ []) Store)) ∷ [])) (Some (ExprOf (Trees.Name (100 ∷ []) Load) ∷ []))) []
row_117 = refl

-- with (a as b): c
row_118 : read_line Py311 false (Word Key.With ∷ Op Sign.LPar ∷ in_form (97 ∷ []) ∷ Word Key.As ∷ in_form (98 ∷ []) ∷ Op Sign.RPar ∷ Op
    Sign.Colon ∷ in_form (99 ∷ []) ∷ []) ≡ Found
    (header_form (with_header false (item (Trees.Name (97 ∷ []) Load) (Some (Trees.Name (98 ∷ []) Store)) ∷ []))
    (Some (ExprOf (Trees.Name (99 ∷ []) Load) ∷ []))) []
row_118 = refl

-- with (a as b, c as d,): pass
row_119 : read_line Py311 false (Word Key.With ∷ Op Sign.LPar ∷ in_form (97 ∷ []) ∷ Word Key.As ∷ in_form (98 ∷ []) ∷ Op Sign.Comma ∷
    in_form (99 ∷ []) ∷ Word Key.As ∷ in_form (100 ∷ []) ∷ Op Sign.Comma ∷ Op Sign.RPar ∷ Op Sign.Colon ∷ Word Key.Pass ∷ []) ≡ Found
    (header_form (with_header false (item (Trees.Name (97 ∷ []) Load) (Some (Trees.Name (98 ∷ []) Store)) ∷ item (Trees.Name (99 ∷ []) Load)
    (Some (Trees.Name (100 ∷ []) Store)) ∷ [])) (Some (Pass ∷ []))) []
row_119 = refl

-- with (a, b) as c, d: pass
row_120 : read_line Py311 false (Word Key.With ∷ Op Sign.LPar ∷ in_form (97 ∷ []) ∷ Op Sign.Comma ∷ in_form (98 ∷ []) ∷ Op Sign.RPar ∷ Word
    Key.As ∷ in_form (99 ∷ []) ∷ Op Sign.Comma ∷ in_form (100 ∷ []) ∷ Op Sign.Colon ∷ Word Key.Pass ∷ []) ≡ Found
    (header_form (with_header false
    (item (Trees.Tuple (Trees.an_expr (Trees.Name (97 ∷ []) Load) (Trees.an_expr (Trees.Name (98 ∷ []) Load) Trees.no_exprs)) Load)
    (Some (Trees.Name (99 ∷ []) Store)) ∷ item (Trees.Name (100 ∷ []) Load) None ∷ [])) (Some (Pass ∷ []))) []
row_120 = refl

-- with (a), (b): pass
row_121 : read_line Py311 false (Word Key.With ∷ Op Sign.LPar ∷ in_form (97 ∷ []) ∷ Op Sign.RPar ∷ Op Sign.Comma ∷ Op Sign.LPar ∷ in_form
    (98 ∷ []) ∷ Op Sign.RPar ∷ Op Sign.Colon ∷ Word Key.Pass ∷ []) ≡ Found
    (header_form (with_header false (item (Trees.Name (97 ∷ []) Load) None ∷ item (Trees.Name (98 ∷ []) Load) None ∷ []))
    (Some (Pass ∷ []))) []
row_121 = refl

-- with (a).b as c: pass
row_122 : read_line Py311 false (Word Key.With ∷ Op Sign.LPar ∷ in_form (97 ∷ []) ∷ Op Sign.RPar ∷ Op Sign.Dot ∷ in_form (98 ∷ []) ∷ Word
    Key.As ∷ in_form (99 ∷ []) ∷ Op Sign.Colon ∷ Word Key.Pass ∷ []) ≡ Found
    (header_form (with_header false (item (Trees.Attribute (Trees.Name (97 ∷ []) Load) (98 ∷ []) Load) (Some (Trees.Name (99 ∷ []) Store)) ∷
    [])) (Some (Pass ∷ []))) []
row_122 = refl

-- with (a, b as c).d: pass
row_123 : read_line Py311 false (Word Key.With ∷ Op Sign.LPar ∷ in_form (97 ∷ []) ∷ Op Sign.Comma ∷ in_form (98 ∷ []) ∷ Word Key.As ∷
    in_form (99 ∷ []) ∷ Op Sign.RPar ∷ Op Sign.Dot ∷ in_form (100 ∷ []) ∷ Op Sign.Colon ∷ Word Key.Pass ∷ []) ≡ NoForm
row_123 = refl

-- with (yield): pass
row_124 : read_line Py311 false (Word Key.With ∷ Op Sign.LPar ∷ Word Key.Yield ∷ Op Sign.RPar ∷ Op Sign.Colon ∷ Word Key.Pass ∷ []) ≡ Found
    (header_form (with_header false (item (Trees.Yield Trees.absent) None ∷ [])) (Some (Pass ∷ []))) []
row_124 = refl

-- with (a for a in b): c
row_125 : read_line Py311 false (Word Key.With ∷ Op Sign.LPar ∷ in_form (97 ∷ []) ∷ Word Key.For ∷ in_form (97 ∷ []) ∷ Word Key.In ∷ in_form
    (98 ∷ []) ∷ Op Sign.RPar ∷ Op Sign.Colon ∷ in_form (99 ∷ []) ∷ []) ≡ Found
    (header_form (with_header false
    (item (Trees.GeneratorExp (Trees.Name (97 ∷ []) Load) (Trees.a_comprehension (Trees.Name (97 ∷ []) Store) (Trees.Name (98 ∷ []) Load)
    Trees.no_exprs false Trees.no_comprehension)) None ∷ [])) (Some (ExprOf (Trees.Name (99 ∷ []) Load) ∷ []))) []
row_125 = refl

-- with (*a, b): c
row_126 : read_line Py311 false (Word Key.With ∷ Op Sign.LPar ∷ Op Sign.Star ∷ in_form (97 ∷ []) ∷ Op Sign.Comma ∷ in_form (98 ∷ []) ∷ Op
    Sign.RPar ∷ Op Sign.Colon ∷ in_form (99 ∷ []) ∷ []) ≡ Found
    (header_form (with_header false
    (item (Trees.Tuple (Trees.an_expr (Trees.Starred (Trees.Name (97 ∷ []) Load) Load)
    (Trees.an_expr (Trees.Name (98 ∷ []) Load) Trees.no_exprs)) Load) None ∷ [])) (Some (ExprOf (Trees.Name (99 ∷ []) Load) ∷ []))) []
row_126 = refl

-- with (a := b): c
row_127 : read_line Py311 false (Word Key.With ∷ Op Sign.LPar ∷ in_form (97 ∷ []) ∷ Op Sign.ColonEqual ∷ in_form (98 ∷ []) ∷ Op Sign.RPar ∷
    Op Sign.Colon ∷ in_form (99 ∷ []) ∷ []) ≡ Found
    (header_form (with_header false (item (Trees.NamedExpr (Trees.Name (97 ∷ []) Store) (Trees.Name (98 ∷ []) Load)) None ∷ []))
    (Some (ExprOf (Trees.Name (99 ∷ []) Load) ∷ []))) []
row_127 = refl

-- with (a := b, c): d
row_128 : read_line Py311 false (Word Key.With ∷ Op Sign.LPar ∷ in_form (97 ∷ []) ∷ Op Sign.ColonEqual ∷ in_form (98 ∷ []) ∷ Op Sign.Comma ∷
    in_form (99 ∷ []) ∷ Op Sign.RPar ∷ Op Sign.Colon ∷ in_form (100 ∷ []) ∷ []) ≡ Found
    (header_form (with_header false
    (item (Trees.Tuple (Trees.an_expr (Trees.NamedExpr (Trees.Name (97 ∷ []) Store) (Trees.Name (98 ∷ []) Load))
    (Trees.an_expr (Trees.Name (99 ∷ []) Load) Trees.no_exprs)) Load) None ∷ [])) (Some (ExprOf (Trees.Name (100 ∷ []) Load) ∷ []))) []
row_128 = refl

-- with (a, b)[0]: c
row_129 : read_line Py311 false (Word Key.With ∷ Op Sign.LPar ∷ in_form (97 ∷ []) ∷ Op Sign.Comma ∷ in_form (98 ∷ []) ∷ Op Sign.RPar ∷ Op
    Sign.LSqb ∷ whole 0 ∷ Op Sign.RSqb ∷ Op Sign.Colon ∷ in_form (99 ∷ []) ∷ []) ≡ Found
    (header_form (with_header false
    (item (Trees.Subscript
    (Trees.Tuple (Trees.an_expr (Trees.Name (97 ∷ []) Load) (Trees.an_expr (Trees.Name (98 ∷ []) Load) Trees.no_exprs)) Load)
    (Trees.Constant (Values.Int 0)) Load) None ∷ [])) (Some (ExprOf (Trees.Name (99 ∷ []) Load) ∷ []))) []
row_129 = refl

-- with a as (b, c): d
row_130 : read_line Py311 false (Word Key.With ∷ in_form (97 ∷ []) ∷ Word Key.As ∷ Op Sign.LPar ∷ in_form (98 ∷ []) ∷ Op Sign.Comma ∷
    in_form (99 ∷ []) ∷ Op Sign.RPar ∷ Op Sign.Colon ∷ in_form (100 ∷ []) ∷ []) ≡ Found
    (header_form (with_header false
    (item (Trees.Name (97 ∷ []) Load)
    (Some (Trees.Tuple (Trees.an_expr (Trees.Name (98 ∷ []) Store) (Trees.an_expr (Trees.Name (99 ∷ []) Store) Trees.no_exprs)) Store)) ∷
    [])) (Some (ExprOf (Trees.Name (100 ∷ []) Load) ∷ []))) []
row_130 = refl

-- with a as b.c[d]: e
row_131 : read_line Py311 false (Word Key.With ∷ in_form (97 ∷ []) ∷ Word Key.As ∷ in_form (98 ∷ []) ∷ Op Sign.Dot ∷ in_form (99 ∷ []) ∷ Op
    Sign.LSqb ∷ in_form (100 ∷ []) ∷ Op Sign.RSqb ∷ Op Sign.Colon ∷ in_form (101 ∷ []) ∷ []) ≡ Found
    (header_form (with_header false
    (item (Trees.Name (97 ∷ []) Load)
    (Some (Trees.Subscript (Trees.Attribute (Trees.Name (98 ∷ []) Load) (99 ∷ []) Load) (Trees.Name (100 ∷ []) Load) Store)) ∷ []))
    (Some (ExprOf (Trees.Name (101 ∷ []) Load) ∷ []))) []
row_131 = refl

-- with a as *b: c
row_132 : read_line Py311 false (Word Key.With ∷ in_form (97 ∷ []) ∷ Word Key.As ∷ Op Sign.Star ∷ in_form (98 ∷ []) ∷ Op Sign.Colon ∷
    in_form (99 ∷ []) ∷ []) ≡ Found
    (header_form (with_header false (item (Trees.Name (97 ∷ []) Load) (Some (Trees.Starred (Trees.Name (98 ∷ []) Store) Store)) ∷ []))
    (Some (ExprOf (Trees.Name (99 ∷ []) Load) ∷ []))) []
row_132 = refl

-- with a as *(b, *c): d
row_133 : read_line Py311 false (Word Key.With ∷ in_form (97 ∷ []) ∷ Word Key.As ∷ Op Sign.Star ∷ Op Sign.LPar ∷ in_form (98 ∷ []) ∷ Op
    Sign.Comma ∷ Op Sign.Star ∷ in_form (99 ∷ []) ∷ Op Sign.RPar ∷ Op Sign.Colon ∷ in_form (100 ∷ []) ∷ []) ≡ Found
    (header_form (with_header false
    (item (Trees.Name (97 ∷ []) Load)
    (Some (Trees.Starred
    (Trees.Tuple (Trees.an_expr (Trees.Name (98 ∷ []) Store) (Trees.an_expr (Trees.Starred (Trees.Name (99 ∷ []) Store) Store)
    Trees.no_exprs)) Store) Store)) ∷ [])) (Some (ExprOf (Trees.Name (100 ∷ []) Load) ∷ []))) []
row_133 = refl

-- with (a as *b): c
row_134 : read_line Py311 false (Word Key.With ∷ Op Sign.LPar ∷ in_form (97 ∷ []) ∷ Word Key.As ∷ Op Sign.Star ∷ in_form (98 ∷ []) ∷ Op
    Sign.RPar ∷ Op Sign.Colon ∷ in_form (99 ∷ []) ∷ []) ≡ Found
    (header_form (with_header false (item (Trees.Name (97 ∷ []) Load) (Some (Trees.Starred (Trees.Name (98 ∷ []) Store) Store)) ∷ []))
    (Some (ExprOf (Trees.Name (99 ∷ []) Load) ∷ []))) []
row_134 = refl

-- with a,: b
row_135 : read_line Py311 false (Word Key.With ∷ in_form (97 ∷ []) ∷ Op Sign.Comma ∷ Op Sign.Colon ∷ in_form (98 ∷ []) ∷ []) ≡ NoForm
row_135 = refl

-- with (): pass
row_136 : read_line Py311 false (Word Key.With ∷ Op Sign.LPar ∷ Op Sign.RPar ∷ Op Sign.Colon ∷ Word Key.Pass ∷ []) ≡ Found
    (header_form (with_header false (item (Trees.Tuple Trees.no_exprs Load) None ∷ [])) (Some (Pass ∷ []))) []
row_136 = refl

-- with (a): b: c
row_137 : read_line Py311 false (Word Key.With ∷ Op Sign.LPar ∷ in_form (97 ∷ []) ∷ Op Sign.RPar ∷ Op Sign.Colon ∷ in_form (98 ∷ []) ∷ Op
    Sign.Colon ∷ in_form (99 ∷ []) ∷ []) ≡ Found (header_form (with_header false (item (Trees.Name (97 ∷ []) Load) None ∷ []))
    (Some (AnnAssign (Trees.Name (98 ∷ []) Store) (Trees.Name (99 ∷ []) Load) None true ∷ []))) []
row_137 = refl

-- with (a): lambda: b
row_138 : read_line Py311 false (Word Key.With ∷ Op Sign.LPar ∷ in_form (97 ∷ []) ∷ Op Sign.RPar ∷ Op Sign.Colon ∷ Word Key.Lambda ∷ Op
    Sign.Colon ∷ in_form (98 ∷ []) ∷ []) ≡ Found (header_form (with_header false (item (Trees.Name (97 ∷ []) Load) None ∷ []))
    (Some (ExprOf (Trees.Lambda (Trees.arguments Trees.no_arg Trees.no_arg Trees.absent_arg Trees.no_arg Trees.no_optional Trees.absent_arg
    Trees.no_exprs) (Trees.Name (98 ∷ []) Load)) ∷ []))) []
row_138 = refl

-- with lambda: (a): b
row_139 : read_line Py311 false (Word Key.With ∷ Word Key.Lambda ∷ Op Sign.Colon ∷ Op Sign.LPar ∷ in_form (97 ∷ []) ∷ Op Sign.RPar ∷ Op
    Sign.Colon ∷ in_form (98 ∷ []) ∷ []) ≡ Found
    (header_form (with_header false
    (item (Trees.Lambda (Trees.arguments Trees.no_arg Trees.no_arg Trees.absent_arg Trees.no_arg Trees.no_optional Trees.absent_arg
    Trees.no_exprs) (Trees.Name (97 ∷ []) Load)) None ∷ [])) (Some (ExprOf (Trees.Name (98 ∷ []) Load) ∷ []))) []
row_139 = refl

-- with (lambda: a): b
row_140 : read_line Py311 false (Word Key.With ∷ Op Sign.LPar ∷ Word Key.Lambda ∷ Op Sign.Colon ∷ in_form (97 ∷ []) ∷ Op Sign.RPar ∷ Op
    Sign.Colon ∷ in_form (98 ∷ []) ∷ []) ≡ Found
    (header_form (with_header false
    (item (Trees.Lambda (Trees.arguments Trees.no_arg Trees.no_arg Trees.absent_arg Trees.no_arg Trees.no_optional Trees.absent_arg
    Trees.no_exprs) (Trees.Name (97 ∷ []) Load)) None ∷ [])) (Some (ExprOf (Trees.Name (98 ∷ []) Load) ∷ []))) []
row_140 = refl

-- with (a as b) as c: d
row_141 : read_line Py311 false (Word Key.With ∷ Op Sign.LPar ∷ in_form (97 ∷ []) ∷ Word Key.As ∷ in_form (98 ∷ []) ∷ Op Sign.RPar ∷ Word
    Key.As ∷ in_form (99 ∷ []) ∷ Op Sign.Colon ∷ in_form (100 ∷ []) ∷ []) ≡ NoForm
row_141 = refl

-- with (a,): b
row_142 : read_line Py311 false (Word Key.With ∷ Op Sign.LPar ∷ in_form (97 ∷ []) ∷ Op Sign.Comma ∷ Op Sign.RPar ∷ Op Sign.Colon ∷ in_form
    (98 ∷ []) ∷ []) ≡ Found (header_form (with_header false (item (Trees.Name (97 ∷ []) Load) None ∷ []))
    (Some (ExprOf (Trees.Name (98 ∷ []) Load) ∷ []))) []
row_142 = refl

-- with (a,) as b: c
row_143 : read_line Py311 false (Word Key.With ∷ Op Sign.LPar ∷ in_form (97 ∷ []) ∷ Op Sign.Comma ∷ Op Sign.RPar ∷ Word Key.As ∷ in_form
    (98 ∷ []) ∷ Op Sign.Colon ∷ in_form (99 ∷ []) ∷ []) ≡ Found
    (header_form (with_header false (item (Trees.Tuple (Trees.an_expr (Trees.Name (97 ∷ []) Load) Trees.no_exprs) Load)
    (Some (Trees.Name (98 ∷ []) Store)) ∷ [])) (Some (ExprOf (Trees.Name (99 ∷ []) Load) ∷ []))) []
row_143 = refl

-- with (a if b else c): d
row_144 : read_line Py311 false (Word Key.With ∷ Op Sign.LPar ∷ in_form (97 ∷ []) ∷ Word Key.If ∷ in_form (98 ∷ []) ∷ Word Key.Else ∷
    in_form (99 ∷ []) ∷ Op Sign.RPar ∷ Op Sign.Colon ∷ in_form (100 ∷ []) ∷ []) ≡ Found
    (header_form (with_header false (item (Trees.IfExp (Trees.Name (98 ∷ []) Load) (Trees.Name (97 ∷ []) Load) (Trees.Name (99 ∷ []) Load))
    None ∷ [])) (Some (ExprOf (Trees.Name (100 ∷ []) Load) ∷ []))) []
row_144 = refl

-- with (a) if b else c: d
row_145 : read_line Py311 false (Word Key.With ∷ Op Sign.LPar ∷ in_form (97 ∷ []) ∷ Op Sign.RPar ∷ Word Key.If ∷ in_form (98 ∷ []) ∷ Word
    Key.Else ∷ in_form (99 ∷ []) ∷ Op Sign.Colon ∷ in_form (100 ∷ []) ∷ []) ≡ Found
    (header_form (with_header false (item (Trees.IfExp (Trees.Name (98 ∷ []) Load) (Trees.Name (97 ∷ []) Load) (Trees.Name (99 ∷ []) Load))
    None ∷ [])) (Some (ExprOf (Trees.Name (100 ∷ []) Load) ∷ []))) []
row_145 = refl

-- with (a, b) + c: d
row_146 : read_line Py311 false (Word Key.With ∷ Op Sign.LPar ∷ in_form (97 ∷ []) ∷ Op Sign.Comma ∷ in_form (98 ∷ []) ∷ Op Sign.RPar ∷ Op
    Sign.Plus ∷ in_form (99 ∷ []) ∷ Op Sign.Colon ∷ in_form (100 ∷ []) ∷ []) ≡ Found
    (header_form (with_header false
    (item (Trees.BinOp (Trees.Tuple (Trees.an_expr (Trees.Name (97 ∷ []) Load) (Trees.an_expr (Trees.Name (98 ∷ []) Load) Trees.no_exprs))
    Load) Bin.Add (Trees.Name (99 ∷ []) Load)) None ∷ [])) (Some (ExprOf (Trees.Name (100 ∷ []) Load) ∷ []))) []
row_146 = refl

-- with (a, lambda: b): c
row_147 : read_line Py311 false (Word Key.With ∷ Op Sign.LPar ∷ in_form (97 ∷ []) ∷ Op Sign.Comma ∷ Word Key.Lambda ∷ Op Sign.Colon ∷
    in_form (98 ∷ []) ∷ Op Sign.RPar ∷ Op Sign.Colon ∷ in_form (99 ∷ []) ∷ []) ≡ Found
    (header_form (with_header false
    (item (Trees.Name (97 ∷ []) Load) None ∷ item
    (Trees.Lambda (Trees.arguments Trees.no_arg Trees.no_arg Trees.absent_arg Trees.no_arg Trees.no_optional Trees.absent_arg
    Trees.no_exprs) (Trees.Name (98 ∷ []) Load)) None ∷ [])) (Some (ExprOf (Trees.Name (99 ∷ []) Load) ∷ []))) []
row_147 = refl

-- def f(): pass
row_148 : read_line Py311 false (Word Key.Def ∷ in_form (102 ∷ []) ∷ Op Sign.LPar ∷ Op Sign.RPar ∷ Op Sign.Colon ∷ Word Key.Pass ∷ []) ≡
    Found (header_form (def_header
    (function_head false (102 ∷ []) [] (Trees.arguments Trees.no_arg Trees.no_arg Trees.absent_arg Trees.no_arg Trees.no_optional
    Trees.absent_arg Trees.no_exprs) None)) (Some (Pass ∷ []))) []
row_148 = refl

-- def f(a, b: int = 1, /, *c: *d, e=2, **g) -> h: pass
row_149 : read_line Py311 false (Word Key.Def ∷ in_form (102 ∷ []) ∷ Op Sign.LPar ∷ in_form (97 ∷ []) ∷ Op Sign.Comma ∷ in_form (98 ∷ []) ∷
    Op Sign.Colon ∷ in_form (105 ∷ 110 ∷ 116 ∷ []) ∷ Op Sign.Equal ∷ whole 1 ∷ Op Sign.Comma ∷ Op Sign.Slash ∷ Op Sign.Comma ∷ Op Sign.Star
    ∷ in_form (99 ∷ []) ∷ Op Sign.Colon ∷ Op Sign.Star ∷ in_form (100 ∷ []) ∷ Op Sign.Comma ∷ in_form (101 ∷ []) ∷ Op Sign.Equal ∷ whole 2 ∷
    Op Sign.Comma ∷ Op Sign.DoubleStar ∷ in_form (103 ∷ []) ∷ Op Sign.RPar ∷ Op Sign.RArrow ∷ in_form (104 ∷ []) ∷ Op Sign.Colon ∷ Word
    Key.Pass ∷ []) ≡ Found
    (header_form (def_header
    (function_head false (102 ∷ []) []
    (Trees.arguments (Trees.an_arg (Trees.arg (97 ∷ []) Trees.absent)
    (Trees.an_arg (Trees.arg (98 ∷ []) (Trees.present (Trees.Name (105 ∷ 110 ∷ 116 ∷ []) Load))) Trees.no_arg)) Trees.no_arg
    (Trees.present_arg (Trees.arg (99 ∷ []) (Trees.present (Trees.Starred (Trees.Name (100 ∷ []) Load) Load))))
    (Trees.an_arg (Trees.arg (101 ∷ []) Trees.absent) Trees.no_arg) (Trees.an_optional (Trees.present (Trees.Constant (Values.Int 2)))
    Trees.no_optional) (Trees.present_arg (Trees.arg (103 ∷ []) Trees.absent))
    (Trees.an_expr (Trees.Constant (Values.Int 1)) Trees.no_exprs)) (Some (Trees.Name (104 ∷ []) Load)))) (Some (Pass ∷ []))) []
row_149 = refl

-- def f(a=1, b): pass
row_150 : read_line Py311 false (Word Key.Def ∷ in_form (102 ∷ []) ∷ Op Sign.LPar ∷ in_form (97 ∷ []) ∷ Op Sign.Equal ∷ whole 1 ∷ Op
    Sign.Comma ∷ in_form (98 ∷ []) ∷ Op Sign.RPar ∷ Op Sign.Colon ∷ Word Key.Pass ∷ []) ≡ NoForm
row_150 = refl

-- def f(*): pass
row_151 : read_line Py311 false (Word Key.Def ∷ in_form (102 ∷ []) ∷ Op Sign.LPar ∷ Op Sign.Star ∷ Op Sign.RPar ∷ Op Sign.Colon ∷
    Word Key.Pass ∷ []) ≡ NoForm
row_151 = refl

-- def f(a):
row_152 : read_line Py311 false (Word Key.Def ∷ in_form (102 ∷ []) ∷ Op Sign.LPar ∷ in_form (97 ∷ []) ∷ Op Sign.RPar ∷ Op Sign.Colon ∷ []) ≡
    Found (header_form (def_header
    (function_head false (102 ∷ []) [] (Trees.arguments Trees.no_arg (Trees.an_arg (Trees.arg (97 ∷ []) Trees.absent) Trees.no_arg)
    Trees.absent_arg Trees.no_arg Trees.no_optional Trees.absent_arg Trees.no_exprs) None)) None) []
row_152 = refl

-- def f:
row_153 : read_line Py311 false (Word Key.Def ∷ in_form (102 ∷ []) ∷ Op Sign.Colon ∷ []) ≡ NoForm
row_153 = refl

-- def f() -> *a:
row_154 : read_line Py311 false (Word Key.Def ∷ in_form (102 ∷ []) ∷ Op Sign.LPar ∷ Op Sign.RPar ∷ Op Sign.RArrow ∷ Op Sign.Star ∷ in_form
    (97 ∷ []) ∷ Op Sign.Colon ∷ []) ≡ NoForm
row_154 = refl

-- class C: pass
row_155 : read_line Py311 false (Word Key.Class ∷ in_form (67 ∷ []) ∷ Op Sign.Colon ∷ Word Key.Pass ∷ []) ≡ Found
    (header_form (def_header (class_head (67 ∷ []) [] ([]) Trees.no_keyword)) (Some (Pass ∷ []))) []
row_155 = refl

-- class C(): pass
row_156 : read_line Py311 false (Word Key.Class ∷ in_form (67 ∷ []) ∷ Op Sign.LPar ∷ Op Sign.RPar ∷ Op Sign.Colon ∷ Word Key.Pass ∷ []) ≡
    Found (header_form (def_header (class_head (67 ∷ []) [] ([]) Trees.no_keyword)) (Some (Pass ∷ []))) []
row_156 = refl

-- class C(a, *b, c=d, **e): pass
row_157 : read_line Py311 false (Word Key.Class ∷ in_form (67 ∷ []) ∷ Op Sign.LPar ∷ in_form (97 ∷ []) ∷ Op Sign.Comma ∷ Op Sign.Star ∷
    in_form (98 ∷ []) ∷ Op Sign.Comma ∷ in_form (99 ∷ []) ∷ Op Sign.Equal ∷ in_form (100 ∷ []) ∷ Op Sign.Comma ∷ Op Sign.DoubleStar ∷
    in_form (101 ∷ []) ∷ Op Sign.RPar ∷ Op Sign.Colon ∷ Word Key.Pass ∷ []) ≡ Found
    (header_form (def_header (class_head (67 ∷ []) [] ((Trees.Name (97 ∷ []) Load) ∷ (Trees.Starred (Trees.Name (98 ∷ []) Load) Load) ∷ [])
    (Trees.a_keyword (Some (99 ∷ [])) (Trees.Name (100 ∷ []) Load) (Trees.a_keyword None (Trees.Name (101 ∷ []) Load) Trees.no_keyword))))
    (Some (Pass ∷ []))) []
row_157 = refl

-- class C(a for a in b): pass
row_158 : read_line Py311 false (Word Key.Class ∷ in_form (67 ∷ []) ∷ Op Sign.LPar ∷ in_form (97 ∷ []) ∷ Word Key.For ∷ in_form (97 ∷ []) ∷
    Word Key.In ∷ in_form (98 ∷ []) ∷ Op Sign.RPar ∷ Op Sign.Colon ∷ Word Key.Pass ∷ []) ≡ NoForm
row_158 = refl

-- class C(a=1, b): pass
row_159 : read_line Py311 false (Word Key.Class ∷ in_form (67 ∷ []) ∷ Op Sign.LPar ∷ in_form (97 ∷ []) ∷ Op Sign.Equal ∷ whole 1 ∷ Op
    Sign.Comma ∷ in_form (98 ∷ []) ∷ Op Sign.RPar ∷ Op Sign.Colon ∷ Word Key.Pass ∷ []) ≡ NoForm
row_159 = refl

-- class C(a)(b): pass
row_160 : read_line Py311 false (Word Key.Class ∷ in_form (67 ∷ []) ∷ Op Sign.LPar ∷ in_form (97 ∷ []) ∷ Op Sign.RPar ∷ Op Sign.LPar ∷
    in_form (98 ∷ []) ∷ Op Sign.RPar ∷ Op Sign.Colon ∷ Word Key.Pass ∷ []) ≡ NoForm
row_160 = refl

-- @a
row_161 : read_line Py311 false (Op Sign.At ∷ in_form (97 ∷ []) ∷ []) ≡ Found (decorator_form (Trees.Name (97 ∷ []) Load)) []
row_161 = refl

-- @a.b(c)
row_162 : read_line Py311 false (Op Sign.At ∷ in_form (97 ∷ []) ∷ Op Sign.Dot ∷ in_form (98 ∷ []) ∷ Op Sign.LPar ∷ in_form (99 ∷ []) ∷ Op
    Sign.RPar ∷ []) ≡ Found
    (decorator_form (Trees.Call (Trees.Attribute (Trees.Name (97 ∷ []) Load) (98 ∷ []) Load)
    (Trees.an_expr (Trees.Name (99 ∷ []) Load) Trees.no_exprs) Trees.no_keyword)) []
row_162 = refl

-- @x := y
row_163 : read_line Py311 false (Op Sign.At ∷ in_form (120 ∷ []) ∷ Op Sign.ColonEqual ∷ in_form (121 ∷ []) ∷ []) ≡ Found
    (decorator_form (Trees.NamedExpr (Trees.Name (120 ∷ []) Store) (Trees.Name (121 ∷ []) Load))) []
row_163 = refl

-- @lambda: x
row_164 : read_line Py311 false (Op Sign.At ∷ Word Key.Lambda ∷ Op Sign.Colon ∷ in_form (120 ∷ []) ∷ []) ≡ Found
    (decorator_form (Trees.Lambda (Trees.arguments Trees.no_arg Trees.no_arg Trees.absent_arg Trees.no_arg Trees.no_optional
    Trees.absent_arg Trees.no_exprs) (Trees.Name (120 ∷ []) Load))) []
row_164 = refl

-- @
row_165 : read_line Py311 false (Op Sign.At ∷ []) ≡ NoForm
row_165 = refl

-- @a: b
row_166 : read_line Py311 false (Op Sign.At ∷ in_form (97 ∷ []) ∷ Op Sign.Colon ∷ in_form (98 ∷ []) ∷ []) ≡ NoForm
row_166 = refl

-- @*a
row_167 : read_line Py311 false (Op Sign.At ∷ Op Sign.Star ∷ in_form (97 ∷ []) ∷ []) ≡ NoForm
row_167 = refl

-- for x in y: z; w;
row_187 : read_line Py311 false (Word Key.For ∷ in_form (120 ∷ []) ∷ Word Key.In ∷ in_form (121 ∷ []) ∷ Op Sign.Colon ∷ in_form (122 ∷ []) ∷
    Op Sign.Semi ∷ in_form (119 ∷ []) ∷ Op Sign.Semi ∷ []) ≡ Found
    (header_form (loop_header (for_head false (Trees.Name (120 ∷ []) Store) (Trees.Name (121 ∷ []) Load)))
    (Some (ExprOf (Trees.Name (122 ∷ []) Load) ∷ ExprOf (Trees.Name (119 ∷ []) Load) ∷ []))) []
row_187 = refl

-- for x in y: ;
row_188 : read_line Py311 false (Word Key.For ∷ in_form (120 ∷ []) ∷ Word Key.In ∷ in_form (121 ∷ []) ∷ Op Sign.Colon ∷ Op Sign.Semi ∷ []) ≡
    NoForm
row_188 = refl

-- if x: ;
row_189 : read_line Py311 false (Word Key.If ∷ in_form (120 ∷ []) ∷ Op Sign.Colon ∷ Op Sign.Semi ∷ []) ≡ NoForm
row_189 = refl

-- class C: x: int = 1
row_190 : read_line Py311 false (Word Key.Class ∷ in_form (67 ∷ []) ∷ Op Sign.Colon ∷ in_form (120 ∷ []) ∷ Op Sign.Colon ∷ in_form
    (105 ∷ 110 ∷ 116 ∷ []) ∷ Op Sign.Equal ∷ whole 1 ∷ []) ≡ Found (header_form (def_header (class_head (67 ∷ []) [] ([]) Trees.no_keyword))
    (Some (AnnAssign (Trees.Name (120 ∷ []) Store) (Trees.Name (105 ∷ 110 ∷ 116 ∷ []) Load)
    (Some (Trees.Constant (Values.Int 1))) true ∷ []))) []
row_190 = refl

-- with a as b: c: d
row_191 : read_line Py311 false (Word Key.With ∷ in_form (97 ∷ []) ∷ Word Key.As ∷ in_form (98 ∷ []) ∷ Op Sign.Colon ∷ in_form (99 ∷ []) ∷
    Op Sign.Colon ∷ in_form (100 ∷ []) ∷ []) ≡ Found
    (header_form (with_header false (item (Trees.Name (97 ∷ []) Load) (Some (Trees.Name (98 ∷ []) Store)) ∷ []))
    (Some (AnnAssign (Trees.Name (99 ∷ []) Store) (Trees.Name (100 ∷ []) Load) None true ∷ []))) []
row_191 = refl

-- with a as b,: c
row_192 : read_line Py311 false (Word Key.With ∷ in_form (97 ∷ []) ∷ Word Key.As ∷ in_form (98 ∷ []) ∷ Op Sign.Comma ∷ Op Sign.Colon ∷
    in_form (99 ∷ []) ∷ []) ≡ NoForm
row_192 = refl

-- with a as 1: b
row_193 : read_line Py311 false (Word Key.With ∷ in_form (97 ∷ []) ∷ Word Key.As ∷ whole 1 ∷ Op Sign.Colon ∷ in_form (98 ∷ []) ∷ []) ≡
    NoForm
row_193 = refl

-- with a as b + c: d
row_194 : read_line Py311 false (Word Key.With ∷ in_form (97 ∷ []) ∷ Word Key.As ∷ in_form (98 ∷ []) ∷ Op Sign.Plus ∷ in_form (99 ∷ []) ∷ Op
    Sign.Colon ∷ in_form (100 ∷ []) ∷ []) ≡ NoForm
row_194 = refl

-- if a else b: c
row_196 : read_line Py311 false (Word Key.If ∷ in_form (97 ∷ []) ∷ Word Key.Else ∷ in_form (98 ∷ []) ∷ Op Sign.Colon ∷ in_form
    (99 ∷ []) ∷ []) ≡ NoForm
row_196 = refl
