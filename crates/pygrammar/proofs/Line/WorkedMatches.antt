-- Worked lines of a `match`: which begin with `match` or `case`, in a `match` and elsewhere.
--
-- Carries: no contract; its rows are computed as it is checked.
use Rattle.std.proofs.Common.{◌≡◌, refl, [], ◌∷◌, Some, None, true, false}
use Rattle.pylex_lexeme.specs.declared.kinds.Exact.TheVariants as Sign
use Rattle.pytoken.specs.declared.keywords.Keyword.TheVariants as Key
use Rattle.pytree_node.specs.declared.operators.Operator.TheVariants as Bin
use Rattle.pytree_node.specs.declared.operators.UnaryOperator.TheVariants as Un
use Rattle.pytree_node.specs.declared.operators.Comparison.TheVariants as Is
use Rattle.pytree_node.specs.declared.operators.Context.TheVariants.{Load, Store}
use Rattle.pytree_node.specs.declared.profiles.Extent.TheVariants.{Plain, Whole}
use Rattle.pytree_node.specs.declared.profiles.Profile.{Profile}
use Rattle.pytree_node.specs.declared.profiles.Version.TheVariants.{Py311, Py312}
use Rattle.pytree_node.specs.Profiles.{python}
use Rattle.pytree_node.specs.Trees as Trees
use Rattle.pytree_node.specs.Trees.{Assign, AnnAssign, ExprOf, Pass, MatchAs, MatchOr, MatchSequence, MatchStar, MatchValue, TypeAlias}
use Rattle.pytree_node.specs.Trees.{absent_pattern, present_pattern, no_pattern, a_pattern}
use Rattle.pytree_node.specs.Values as Values
use Rattle.pytoken.specs.Terminals.{Terminal, Ident, Op, Word, in_form, whole}
use Rattle.pygrammar.specs.Reader.{Found, NoForm}
use Rattle.pygrammar.specs.Lines.{simple_form, header_form, match_header, case_header}
use Rattle.pygrammar.specs.Forms.{match_name, match_word, case_name, case_word}
use Rattle.pygrammar.specs.LineReader.{read_line}

abbrev extended : Profile
extended = python Py311 Whole

abbrev match : Terminal
match = match_word match_name

abbrev case : Terminal
case = case_word case_name

-- ---- The header of a `match`.

-- match x:
header_name : read_line extended false (match ∷ in_form (120 ∷ []) ∷ Op Sign.Colon ∷ []) ≡ Found
    (header_form (match_header (Trees.Name (120 ∷ []) Load)) None) []
header_name = refl

-- match(x):
header_group : read_line extended false (match ∷ Op Sign.LPar ∷ in_form (120 ∷ []) ∷ Op Sign.RPar ∷ Op Sign.Colon ∷ []) ≡ Found
    (header_form (match_header (Trees.Name (120 ∷ []) Load)) None) []
header_group = refl

-- match [x]:
header_list : read_line extended false (match ∷ Op Sign.LSqb ∷ in_form (120 ∷ []) ∷ Op Sign.RSqb ∷ Op Sign.Colon ∷ []) ≡ Found
    (header_form (match_header (Trees.ListOf (Trees.an_expr (Trees.Name (120 ∷ []) Load) Trees.no_exprs) Load)) None) []
header_list = refl

-- match -1:
header_minus : read_line extended false (match ∷ Op Sign.Minus ∷ whole 1 ∷ Op Sign.Colon ∷ []) ≡ Found
    (header_form (match_header (Trees.UnaryOp Un.USub (Trees.Constant (Values.Int 1)))) None) []
header_minus = refl

-- match *a, b:
header_tuple : read_line extended false (match ∷ Op Sign.Star ∷ in_form (97 ∷ []) ∷ Op Sign.Comma ∷ in_form (98 ∷ []) ∷ Op Sign.Colon ∷ [])
    ≡ Found (header_form
    (match_header (Trees.Tuple (Trees.an_expr (Trees.Starred (Trees.Name (97 ∷ []) Load) Load)
    (Trees.an_expr (Trees.Name (98 ∷ []) Load) Trees.no_exprs)) Load)) None) []
header_tuple = refl

-- match x,:
header_comma : read_line extended false (match ∷ in_form (120 ∷ []) ∷ Op Sign.Comma ∷ Op Sign.Colon ∷ []) ≡ Found
    (header_form (match_header (Trees.Tuple (Trees.an_expr (Trees.Name (120 ∷ []) Load) Trees.no_exprs) Load)) None) []
header_comma = refl

-- match (yield):
header_yield : read_line extended false (match ∷ Op Sign.LPar ∷ Word Key.Yield ∷ Op Sign.RPar ∷ Op Sign.Colon ∷ []) ≡ Found
    (header_form (match_header (Trees.Yield Trees.absent)) None) []
header_yield = refl

-- match a := 1:
header_named : read_line extended false (match ∷ in_form (97 ∷ []) ∷ Op Sign.ColonEqual ∷ whole 1 ∷ Op Sign.Colon ∷ []) ≡ Found
    (header_form (match_header (Trees.NamedExpr (Trees.Name (97 ∷ []) Store) (Trees.Constant (Values.Int 1)))) None) []
header_named = refl

-- match lambda: x:
header_lambda : read_line extended false (match ∷ Word Key.Lambda ∷ Op Sign.Colon ∷ in_form (120 ∷ []) ∷ Op Sign.Colon ∷ []) ≡ Found
    (header_form (match_header (Trees.Lambda (Trees.arguments Trees.no_arg Trees.no_arg Trees.absent_arg Trees.no_arg Trees.no_optional
    Trees.absent_arg Trees.no_exprs) (Trees.Name (120 ∷ []) Load))) None) []
header_lambda = refl

-- match match:
header_match : read_line extended false (match ∷ match ∷ Op Sign.Colon ∷ []) ≡ Found
    (header_form (match_header (Trees.Name match_name Load)) None) []
header_match = refl

-- match x:
header_inside : read_line extended true (match ∷ in_form (120 ∷ []) ∷ Op Sign.Colon ∷ []) ≡ Found
    (header_form (match_header (Trees.Name (120 ∷ []) Load)) None) []
header_inside = refl

-- match x:
header_312 : read_line (python Py312 Whole) false (match ∷ in_form (120 ∷ []) ∷ Op Sign.Colon ∷ []) ≡ Found
    (header_form (match_header (Trees.Name (120 ∷ []) Load)) None) []
header_312 = refl

-- match x:
header_plain : read_line (python Py311 Plain) false (match ∷ in_form (120 ∷ []) ∷ Op Sign.Colon ∷ []) ≡ NoForm
header_plain = refl

-- ---- No header of one: simple statements.

-- match(x)
call : read_line extended false (match ∷ Op Sign.LPar ∷ in_form (120 ∷ []) ∷ Op Sign.RPar ∷ []) ≡ Found
    (simple_form (ExprOf (Trees.Call (Trees.Name match_name Load) (Trees.an_expr (Trees.Name (120 ∷ []) Load) Trees.no_exprs)
    Trees.no_keyword) ∷ [])) []
call = refl

-- match -1
difference : read_line extended false (match ∷ Op Sign.Minus ∷ whole 1 ∷ []) ≡ Found
    (simple_form (ExprOf (Trees.BinOp (Trees.Name match_name Load) Bin.Sub (Trees.Constant (Values.Int 1))) ∷ [])) []
difference = refl

-- match * a, b
product : read_line extended false (match ∷ Op Sign.Star ∷ in_form (97 ∷ []) ∷ Op Sign.Comma ∷ in_form (98 ∷ []) ∷ []) ≡ Found
    (simple_form (ExprOf (Trees.Tuple (Trees.an_expr (Trees.BinOp (Trees.Name match_name Load) Bin.Mult (Trees.Name (97 ∷ []) Load))
    (Trees.an_expr (Trees.Name (98 ∷ []) Load) Trees.no_exprs)) Load) ∷ [])) []
product = refl

-- match[x]
subscript : read_line extended false (match ∷ Op Sign.LSqb ∷ in_form (120 ∷ []) ∷ Op Sign.RSqb ∷ []) ≡ Found
    (simple_form (ExprOf (Trees.Subscript (Trees.Name match_name Load) (Trees.Name (120 ∷ []) Load) Load) ∷ [])) []
subscript = refl

-- match.x
attribute : read_line extended false (match ∷ Op Sign.Dot ∷ in_form (120 ∷ []) ∷ []) ≡ Found
    (simple_form (ExprOf (Trees.Attribute (Trees.Name match_name Load) (120 ∷ []) Load) ∷ [])) []
attribute = refl

-- match = 1
assigned : read_line extended false (match ∷ Op Sign.Equal ∷ whole 1 ∷ []) ≡ Found
    (simple_form (Assign ((Trees.Name match_name Store) ∷ []) (Trees.Constant (Values.Int 1)) ∷ [])) []
assigned = refl

-- match: int = 3
annotated : read_line extended false (match ∷ Op Sign.Colon ∷ in_form (105 ∷ 110 ∷ 116 ∷ []) ∷ Op Sign.Equal ∷ whole 3 ∷ []) ≡ Found
    (simple_form (AnnAssign (Trees.Name match_name Store) (Trees.Name (105 ∷ 110 ∷ 116 ∷ []) Load)
    (Some (Trees.Constant (Values.Int 3))) true ∷ [])) []
annotated = refl

-- match[x]: int
part_annotated : read_line extended false (match ∷ Op Sign.LSqb ∷ in_form (120 ∷ []) ∷ Op Sign.RSqb ∷ Op Sign.Colon ∷ in_form
    (105 ∷ 110 ∷ 116 ∷ []) ∷ []) ≡ Found
    (simple_form (AnnAssign (Trees.Subscript (Trees.Name match_name Load) (Trees.Name (120 ∷ []) Load) Store)
    (Trees.Name (105 ∷ 110 ∷ 116 ∷ []) Load) None false ∷ [])) []
part_annotated = refl

-- match in x
compared : read_line extended false (match ∷ Word Key.In ∷ in_form (120 ∷ []) ∷ []) ≡ Found
    (simple_form (ExprOf (Trees.Compare (Trees.Name match_name Load) (Is.Within ∷ [])
    (Trees.an_expr (Trees.Name (120 ∷ []) Load) Trees.no_exprs)) ∷ [])) []
compared = refl

-- ---- Neither.

-- match:
none_no_subject : read_line extended false (match ∷ Op Sign.Colon ∷ []) ≡ NoForm
none_no_subject = refl

-- match * a:
none_starred : read_line extended false (match ∷ Op Sign.Star ∷ in_form (97 ∷ []) ∷ Op Sign.Colon ∷ []) ≡ NoForm
none_starred = refl

-- match x,,:
none_two_commas : read_line extended false (match ∷ in_form (120 ∷ []) ∷ Op Sign.Comma ∷ Op Sign.Comma ∷ Op Sign.Colon ∷ []) ≡ NoForm
none_two_commas = refl

-- match yield:
none_yields : read_line extended false (match ∷ Word Key.Yield ∷ Op Sign.Colon ∷ []) ≡ NoForm
none_yields = refl

-- match.x:
none_attribute_colon : read_line extended false (match ∷ Op Sign.Dot ∷ in_form (120 ∷ []) ∷ Op Sign.Colon ∷ []) ≡ NoForm
none_attribute_colon = refl

-- match in x:
none_in_colon : read_line extended false (match ∷ Word Key.In ∷ in_form (120 ∷ []) ∷ Op Sign.Colon ∷ []) ≡ NoForm
none_in_colon = refl

-- match x: pass
none_inline : read_line extended false (match ∷ in_form (120 ∷ []) ∷ Op Sign.Colon ∷ Word Key.Pass ∷ []) ≡ NoForm
none_inline = refl

-- match x
none_no_colon : read_line extended false (match ∷ in_form (120 ∷ []) ∷ []) ≡ NoForm
none_no_colon = refl

-- ｍatch x:
none_other_spelling : read_line extended false (Ident (record { spelling = 65357 ∷ 97 ∷ 116 ∷ 99 ∷ 104 ∷ []; form = match_name }) ∷ in_form
    (120 ∷ []) ∷ Op Sign.Colon ∷ []) ≡ NoForm
none_other_spelling = refl

-- ---- The header of a case, in a `match`.

-- case[x]: int
case_annotation : read_line extended true (case ∷ Op Sign.LSqb ∷ in_form (120 ∷ []) ∷ Op Sign.RSqb ∷ Op Sign.Colon ∷ in_form
    (105 ∷ 110 ∷ 116 ∷ []) ∷ []) ≡ Found
    (header_form (case_header (MatchSequence (a_pattern (MatchAs absent_pattern (Some (120 ∷ []))) no_pattern)) None)
    (Some (ExprOf (Trees.Name (105 ∷ 110 ∷ 116 ∷ []) Load) ∷ []))) []
case_annotation = refl

-- case[x, y]: z; w
case_two : read_line extended true (case ∷ Op Sign.LSqb ∷ in_form (120 ∷ []) ∷ Op Sign.Comma ∷ in_form (121 ∷ []) ∷ Op Sign.RSqb ∷ Op
    Sign.Colon ∷ in_form (122 ∷ []) ∷ Op Sign.Semi ∷ in_form (119 ∷ []) ∷ []) ≡ Found
    (header_form (case_header
    (MatchSequence (a_pattern (MatchAs absent_pattern (Some (120 ∷ []))) (a_pattern (MatchAs absent_pattern (Some (121 ∷ []))) no_pattern)))
    None) (Some (ExprOf (Trees.Name (122 ∷ []) Load) ∷ ExprOf (Trees.Name (119 ∷ []) Load) ∷ []))) []
case_two = refl

-- case[x]: y = 1
case_assignment : read_line extended true (case ∷ Op Sign.LSqb ∷ in_form (120 ∷ []) ∷ Op Sign.RSqb ∷ Op Sign.Colon ∷ in_form (121 ∷ []) ∷ Op
    Sign.Equal ∷ whole 1 ∷ []) ≡ Found
    (header_form (case_header (MatchSequence (a_pattern (MatchAs absent_pattern (Some (120 ∷ []))) no_pattern)) None)
    (Some (Assign ((Trees.Name (121 ∷ []) Store) ∷ []) (Trees.Constant (Values.Int 1)) ∷ []))) []
case_assignment = refl

-- case 1: pass
case_number : read_line extended true (case ∷ whole 1 ∷ Op Sign.Colon ∷ Word Key.Pass ∷ []) ≡ Found
    (header_form (case_header (MatchValue (Trees.Constant (Values.Int 1))) None) (Some (Pass ∷ []))) []
case_number = refl

-- case (x):
case_group : read_line extended true (case ∷ Op Sign.LPar ∷ in_form (120 ∷ []) ∷ Op Sign.RPar ∷ Op Sign.Colon ∷ []) ≡ Found
    (header_form (case_header (MatchAs absent_pattern (Some (120 ∷ []))) None) None) []
case_group = refl

-- case *a, b:
case_open : read_line extended true (case ∷ Op Sign.Star ∷ in_form (97 ∷ []) ∷ Op Sign.Comma ∷ in_form (98 ∷ []) ∷ Op Sign.Colon ∷ []) ≡
    Found (header_form (case_header
    (MatchSequence (a_pattern (MatchStar (Some (97 ∷ []))) (a_pattern (MatchAs absent_pattern (Some (98 ∷ []))) no_pattern))) None) None) []
case_open = refl

-- case case:
case_case : read_line extended true (case ∷ case ∷ Op Sign.Colon ∷ []) ≡ Found
    (header_form (case_header (MatchAs absent_pattern (Some case_name)) None) None) []
case_case = refl

-- case x if y:
case_guard : read_line extended true (case ∷ in_form (120 ∷ []) ∷ Word Key.If ∷ in_form (121 ∷ []) ∷ Op Sign.Colon ∷ []) ≡ Found
    (header_form (case_header (MatchAs absent_pattern (Some (120 ∷ []))) (Some (Trees.Name (121 ∷ []) Load))) None) []
case_guard = refl

-- case x | y as z if y := 1: pass
case_guard_named : read_line extended true (case ∷ in_form (120 ∷ []) ∷ Op Sign.VBar ∷ in_form (121 ∷ []) ∷ Word Key.As ∷ in_form (122 ∷ [])
    ∷ Word Key.If ∷ in_form (121 ∷ []) ∷ Op Sign.ColonEqual ∷ whole 1 ∷ Op Sign.Colon ∷ Word Key.Pass ∷ []) ≡ Found
    (header_form (case_header
    (MatchAs (present_pattern
    (MatchOr (a_pattern (MatchAs absent_pattern (Some (120 ∷ []))) (a_pattern (MatchAs absent_pattern (Some (121 ∷ []))) no_pattern))))
    (Some (122 ∷ []))) (Some (Trees.NamedExpr (Trees.Name (121 ∷ []) Store) (Trees.Constant (Values.Int 1))))) (Some (Pass ∷ []))) []
case_guard_named = refl

-- case x: type y = z
case_type : read_line (python Py312 Whole) true (case ∷ in_form (120 ∷ []) ∷ Op Sign.Colon ∷ in_form (116 ∷ 121 ∷ 112 ∷ 101 ∷ []) ∷ in_form
    (121 ∷ []) ∷ Op Sign.Equal ∷ in_form (122 ∷ []) ∷ []) ≡ Found (header_form (case_header (MatchAs absent_pattern (Some (120 ∷ []))) None)
    (Some (TypeAlias (Trees.Name (121 ∷ []) Store) [] (Trees.Name (122 ∷ []) Load) ∷ []))) []
case_type = refl

-- case x: type y = z
case_type_311 : read_line extended true (case ∷ in_form (120 ∷ []) ∷ Op Sign.Colon ∷ in_form (116 ∷ 121 ∷ 112 ∷ 101 ∷ []) ∷ in_form
    (121 ∷ []) ∷ Op Sign.Equal ∷ in_form (122 ∷ []) ∷ []) ≡ NoForm
case_type_311 = refl

-- case(x)
none_case_called : read_line extended true (case ∷ Op Sign.LPar ∷ in_form (120 ∷ []) ∷ Op Sign.RPar ∷ []) ≡ NoForm
none_case_called = refl

-- case.a: int
none_case_attribute : read_line extended true (case ∷ Op Sign.Dot ∷ in_form (97 ∷ []) ∷ Op Sign.Colon ∷ in_form
    (105 ∷ 110 ∷ 116 ∷ []) ∷ []) ≡ NoForm
none_case_attribute = refl

-- case = 1
none_case_assigned : read_line extended true (case ∷ Op Sign.Equal ∷ whole 1 ∷ []) ≡ NoForm
none_case_assigned = refl

-- case[a:b]: c
none_case_slice : read_line extended true (case ∷ Op Sign.LSqb ∷ in_form (97 ∷ []) ∷ Op Sign.Colon ∷ in_form (98 ∷ []) ∷ Op Sign.RSqb ∷ Op
    Sign.Colon ∷ in_form (99 ∷ []) ∷ []) ≡ NoForm
none_case_slice = refl

-- case:
none_case_bare : read_line extended true (case ∷ Op Sign.Colon ∷ []) ≡ NoForm
none_case_bare = refl

-- case *a:
none_case_starred : read_line extended true (case ∷ Op Sign.Star ∷ in_form (97 ∷ []) ∷ Op Sign.Colon ∷ []) ≡ NoForm
none_case_starred = refl

-- case x: :
none_case_colon_twice : read_line extended true (case ∷ in_form (120 ∷ []) ∷ Op Sign.Colon ∷ Op Sign.Colon ∷ []) ≡ NoForm
none_case_colon_twice = refl

-- case x if y if z:
none_case_guard_twice : read_line extended true (case ∷ in_form (120 ∷ []) ∷ Word Key.If ∷ in_form (121 ∷ []) ∷ Word Key.If ∷ in_form
    (122 ∷ []) ∷ Op Sign.Colon ∷ []) ≡ NoForm
none_case_guard_twice = refl

-- x
other_inside : read_line extended true (in_form (120 ∷ []) ∷ []) ≡ Found (simple_form (ExprOf (Trees.Name (120 ∷ []) Load) ∷ [])) []
other_inside = refl

-- ---- The same elsewhere.

-- case[x]: int
annotation : read_line extended false (case ∷ Op Sign.LSqb ∷ in_form (120 ∷ []) ∷ Op Sign.RSqb ∷ Op Sign.Colon ∷ in_form
    (105 ∷ 110 ∷ 116 ∷ []) ∷ []) ≡ Found
    (simple_form (AnnAssign (Trees.Subscript (Trees.Name case_name Load) (Trees.Name (120 ∷ []) Load) Store)
    (Trees.Name (105 ∷ 110 ∷ 116 ∷ []) Load) None false ∷ [])) []
annotation = refl

-- case[x, y]: z; w
annotation_two : read_line extended false (case ∷ Op Sign.LSqb ∷ in_form (120 ∷ []) ∷ Op Sign.Comma ∷ in_form (121 ∷ []) ∷ Op Sign.RSqb ∷ Op
    Sign.Colon ∷ in_form (122 ∷ []) ∷ Op Sign.Semi ∷ in_form (119 ∷ []) ∷ []) ≡ Found
    (simple_form (AnnAssign
    (Trees.Subscript (Trees.Name case_name Load)
    (Trees.Tuple (Trees.an_expr (Trees.Name (120 ∷ []) Load) (Trees.an_expr (Trees.Name (121 ∷ []) Load) Trees.no_exprs)) Load) Store)
    (Trees.Name (122 ∷ []) Load) None false ∷ ExprOf (Trees.Name (119 ∷ []) Load) ∷ [])) []
annotation_two = refl

-- case[x]: y = 1
annotation_value : read_line extended false (case ∷ Op Sign.LSqb ∷ in_form (120 ∷ []) ∷ Op Sign.RSqb ∷ Op Sign.Colon ∷ in_form (121 ∷ []) ∷
    Op Sign.Equal ∷ whole 1 ∷ []) ≡ Found
    (simple_form (AnnAssign (Trees.Subscript (Trees.Name case_name Load) (Trees.Name (120 ∷ []) Load) Store) (Trees.Name (121 ∷ []) Load)
    (Some (Trees.Constant (Values.Int 1))) false ∷ [])) []
annotation_value = refl

-- case[x]: int
annotation_plain : read_line (python Py311 Plain) true (case ∷ Op Sign.LSqb ∷ in_form (120 ∷ []) ∷ Op Sign.RSqb ∷ Op Sign.Colon ∷ in_form
    (105 ∷ 110 ∷ 116 ∷ []) ∷ []) ≡ Found
    (simple_form (AnnAssign (Trees.Subscript (Trees.Name case_name Load) (Trees.Name (120 ∷ []) Load) Store)
    (Trees.Name (105 ∷ 110 ∷ 116 ∷ []) Load) None false ∷ [])) []
annotation_plain = refl

-- case(x)
case_call : read_line extended false (case ∷ Op Sign.LPar ∷ in_form (120 ∷ []) ∷ Op Sign.RPar ∷ []) ≡ Found
    (simple_form (ExprOf (Trees.Call (Trees.Name case_name Load) (Trees.an_expr (Trees.Name (120 ∷ []) Load) Trees.no_exprs)
    Trees.no_keyword) ∷ [])) []
case_call = refl

-- case.a: int
attribute_annotation : read_line extended false (case ∷ Op Sign.Dot ∷ in_form (97 ∷ []) ∷ Op Sign.Colon ∷ in_form (105 ∷ 110 ∷ 116 ∷ []) ∷
    []) ≡ Found (simple_form (AnnAssign (Trees.Attribute (Trees.Name case_name Load) (97 ∷ []) Store)
    (Trees.Name (105 ∷ 110 ∷ 116 ∷ []) Load) None false ∷ [])) []
attribute_annotation = refl

-- case = 1
case_assigned : read_line extended false (case ∷ Op Sign.Equal ∷ whole 1 ∷ []) ≡ Found
    (simple_form (Assign ((Trees.Name case_name Store) ∷ []) (Trees.Constant (Values.Int 1)) ∷ [])) []
case_assigned = refl

-- case[a:b]: c
slice_annotation : read_line extended false (case ∷ Op Sign.LSqb ∷ in_form (97 ∷ []) ∷ Op Sign.Colon ∷ in_form (98 ∷ []) ∷ Op Sign.RSqb ∷ Op
    Sign.Colon ∷ in_form (99 ∷ []) ∷ []) ≡ Found
    (simple_form (AnnAssign (Trees.Subscript (Trees.Name case_name Load) (Trees.Slice (Trees.present (Trees.Name (97 ∷ []) Load))
    (Trees.present (Trees.Name (98 ∷ []) Load)) Trees.absent) Store) (Trees.Name (99 ∷ []) Load) None false ∷ [])) []
slice_annotation = refl

-- case 1: pass
none_elsewhere_number : read_line extended false (case ∷ whole 1 ∷ Op Sign.Colon ∷ Word Key.Pass ∷ []) ≡ NoForm
none_elsewhere_number = refl

-- case (x):
none_elsewhere_group : read_line extended false (case ∷ Op Sign.LPar ∷ in_form (120 ∷ []) ∷ Op Sign.RPar ∷ Op Sign.Colon ∷ []) ≡ NoForm
none_elsewhere_group = refl

-- case case:
none_elsewhere_case : read_line extended false (case ∷ case ∷ Op Sign.Colon ∷ []) ≡ NoForm
none_elsewhere_case = refl
