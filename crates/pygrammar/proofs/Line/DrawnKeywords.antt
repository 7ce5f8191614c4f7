-- Lists of terminals drawn at random that begin with the keyword of a simple statement: the reader computes their
-- forms, or that they have none.
--
-- Carries: no contract; its rows are computed as it is checked.
use Rattle.std.proofs.Common.{◌≡◌, refl, [], ◌∷◌, Some, None, false}
use Rattle.pylex_lexeme.specs.declared.kinds.Exact.TheVariants as Sign
use Rattle.pytoken.specs.declared.keywords.Keyword.TheVariants as Key
use Rattle.pytree_node.specs.declared.operators.Context.TheVariants.{Load, Del}
use Rattle.pytree_node.specs.Profiles.{plain_311 as Py311}
use Rattle.pytree_node.specs.Trees as Trees
use Rattle.pytoken.specs.Terminals.{Op, Word, in_form, whole}
use Rattle.pygrammar.specs.Reader.{Found, NoForm}
use Rattle.pytree_node.specs.Trees.{Delete, Raise, Pass, Return, Assert, Import, ImportFrom}
use Rattle.pygrammar.specs.Lines.{simple_form}
use Rattle.pygrammar.specs.Forms.{alias}
use Rattle.pygrammar.specs.LineReader.{read_line}

-- pass += * y , z
case_9 : read_line Py311 false (Word Key.Pass ∷ Op Sign.PlusEqual ∷ Op Sign.Star ∷ in_form (121 ∷ []) ∷ Op Sign.Comma ∷ in_form
    (122 ∷ []) ∷ []) ≡ NoForm
case_9 = refl

-- pass
case_10 : read_line Py311 false (Word Key.Pass ∷ []) ≡ Found (simple_form (Pass ∷ [])) []
case_10 = refl

-- import a with
case_15 : read_line Py311 false (Word Key.Import ∷ in_form (97 ∷ []) ∷ Word Key.With ∷ []) ≡ NoForm
case_15 = refl

-- from a ) import ( b , ( c as d , )
case_23 : read_line Py311 false (Word Key.From ∷ in_form (97 ∷ []) ∷ Op Sign.RPar ∷ Word Key.Import ∷ Op Sign.LPar ∷ in_form (98 ∷ []) ∷ Op
    Sign.Comma ∷ Op Sign.LPar ∷ in_form (99 ∷ []) ∷ Word Key.As ∷ in_form (100 ∷ []) ∷ Op Sign.Comma ∷ Op Sign.RPar ∷ []) ≡ NoForm
case_23 = refl

-- global a b , b 1
case_26 : read_line Py311 false (Word Key.Global ∷ in_form (97 ∷ []) ∷ in_form (98 ∷ []) ∷ Op Sign.Comma ∷ in_form (98 ∷ [])
    ∷ whole 1 ∷ []) ≡ NoForm
case_26 = refl

-- raise a
case_33 : read_line Py311 false (Word Key.Raise ∷ in_form (97 ∷ []) ∷ []) ≡ Found
    (simple_form (Raise (Some (Trees.Name (97 ∷ []) Load)) None ∷ [])) []
case_33 = refl

-- from ... import a , b as
case_37 : read_line Py311 false (Word Key.From ∷ Op Sign.Ellipsis ∷ Word Key.Import ∷ in_form (97 ∷ []) ∷ Op Sign.Comma ∷ in_form (98 ∷ [])
    ∷ Word Key.As ∷ []) ≡ NoForm
case_37 = refl

-- from ... import a , b : pass
case_38 : read_line Py311 false (Word Key.From ∷ Op Sign.Ellipsis ∷ Word Key.Import ∷ in_form (97 ∷ []) ∷ Op Sign.Comma ∷ in_form (98 ∷ [])
    ∷ Op Sign.Colon ∷ Word Key.Pass ∷ []) ≡ NoForm
case_38 = refl

-- del in
case_41 : read_line Py311 false (Word Key.Del ∷ Word Key.In ∷ []) ≡ NoForm
case_41 = refl

-- import a . b . c as : , e
case_45 : read_line Py311 false (Word Key.Import ∷ in_form (97 ∷ []) ∷ Op Sign.Dot ∷ in_form (98 ∷ []) ∷ Op Sign.Dot ∷ in_form (99 ∷ []) ∷
    Word Key.As ∷ Op Sign.Colon ∷ Op Sign.Comma ∷ in_form (101 ∷ []) ∷ []) ≡ NoForm
case_45 = refl

-- import a ( a ) , ) [ 0 ] : c
case_52 : read_line Py311 false (Word Key.Import ∷ in_form (97 ∷ []) ∷ Op Sign.LPar ∷ in_form (97 ∷ []) ∷ Op Sign.RPar ∷ Op Sign.Comma ∷ Op
    Sign.RPar ∷ Op Sign.LSqb ∷ whole 0 ∷ Op Sign.RSqb ∷ Op Sign.Colon ∷ in_form (99 ∷ []) ∷ []) ≡ NoForm
case_52 = refl

-- from . a . b import c as
case_56 : read_line Py311 false (Word Key.From ∷ Op Sign.Dot ∷ in_form (97 ∷ []) ∷ Op Sign.Dot ∷ in_form (98 ∷ []) ∷ Word Key.Import ∷
    in_form (99 ∷ []) ∷ Word Key.As ∷ []) ≡ NoForm
case_56 = refl

-- del a
case_61 : read_line Py311 false (Word Key.Del ∷ in_form (97 ∷ []) ∷ []) ≡ Found
    (simple_form (Delete ((Trees.Name (97 ∷ []) Del) ∷ []) ∷ [])) []
case_61 = refl

-- del from ,
case_64 : read_line Py311 false (Word Key.Del ∷ Word Key.From ∷ Op Sign.Comma ∷ []) ≡ NoForm
case_64 = refl

-- import elif , z
case_66 : read_line Py311 false (Word Key.Import ∷ Word Key.Elif ∷ Op Sign.Comma ∷ in_form (122 ∷ []) ∷ []) ≡ NoForm
case_66 = refl

-- raise :
case_67 : read_line Py311 false (Word Key.Raise ∷ Op Sign.Colon ∷ []) ≡ NoForm
case_67 = refl

-- from a import ( , from import a
case_84 : read_line Py311 false (Word Key.From ∷ in_form (97 ∷ []) ∷ Word Key.Import ∷ Op Sign.LPar ∷ Op Sign.Comma ∷ Word Key.From ∷ Word
    Key.Import ∷ in_form (97 ∷ []) ∷ []) ≡ NoForm
case_84 = refl

-- return * , y
case_91 : read_line Py311 false (Word Key.Return ∷ Op Sign.Star ∷ Op Sign.Comma ∷ in_form (121 ∷ []) ∷ []) ≡ NoForm
case_91 = refl

-- from lambda : import b from
case_97 : read_line Py311 false (Word Key.From ∷ Word Key.Lambda ∷ Op Sign.Colon ∷ Word Key.Import ∷ in_form (98 ∷ []) ∷
    Word Key.From ∷ []) ≡ NoForm
case_97 = refl

-- from import ( * )
case_99 : read_line Py311 false (Word Key.From ∷ Word Key.Import ∷ Op Sign.LPar ∷ Op Sign.Star ∷ Op Sign.RPar ∷ []) ≡ NoForm
case_99 = refl

-- del x in y in z : 1 pass
case_101 : read_line Py311 false (Word Key.Del ∷ in_form (120 ∷ []) ∷ Word Key.In ∷ in_form (121 ∷ []) ∷ Word Key.In ∷ in_form (122 ∷ []) ∷
    Op Sign.Colon ∷ whole 1 ∷ Word Key.Pass ∷ []) ≡ NoForm
case_101 = refl

-- raise a d
case_111 : read_line Py311 false (Word Key.Raise ∷ in_form (97 ∷ []) ∷ in_form (100 ∷ []) ∷ []) ≡ NoForm
case_111 = refl

-- return int
case_124 : read_line Py311 false (Word Key.Return ∷ in_form (105 ∷ 110 ∷ 116 ∷ []) ∷ []) ≡ Found
    (simple_form (Return (Some (Trees.Name (105 ∷ 110 ∷ 116 ∷ []) Load)) ∷ [])) []
case_124 = refl

-- assert a , b
case_126 : read_line Py311 false (Word Key.Assert ∷ in_form (97 ∷ []) ∷ Op Sign.Comma ∷ in_form (98 ∷ []) ∷ []) ≡ Found
    (simple_form (Assert (Trees.Name (97 ∷ []) Load) (Some (Trees.Name (98 ∷ []) Load)) ∷ [])) []
case_126 = refl

-- return ( yield )
case_139 : read_line Py311 false (Word Key.Return ∷ Op Sign.LPar ∷ Word Key.Yield ∷ Op Sign.RPar ∷ []) ≡ Found
    (simple_form (Return (Some (Trees.Yield Trees.absent)) ∷ [])) []
case_139 = refl

-- import a
case_158 : read_line Py311 false (Word Key.Import ∷ in_form (97 ∷ []) ∷ []) ≡ Found
    (simple_form (Import (alias (97 ∷ []) None ∷ []) ∷ [])) []
case_158 = refl

-- from ... import a , b as c
case_164 : read_line Py311 false (Word Key.From ∷ Op Sign.Ellipsis ∷ Word Key.Import ∷ in_form (97 ∷ []) ∷ Op Sign.Comma ∷ in_form (98 ∷ [])
    ∷ Word Key.As ∷ in_form (99 ∷ []) ∷ []) ≡ Found
    (simple_form (ImportFrom None (alias (97 ∷ []) None ∷ alias (98 ∷ []) (Some (99 ∷ [])) ∷ []) 3 ∷ [])) []
case_164 = refl

-- from a import b
case_180 : read_line Py311 false (Word Key.From ∷ in_form (97 ∷ []) ∷ Word Key.Import ∷ in_form (98 ∷ []) ∷ []) ≡ Found
    (simple_form (ImportFrom (Some (97 ∷ [])) (alias (98 ∷ []) None ∷ []) 0 ∷ [])) []
case_180 = refl

-- from a import c
case_191 : read_line Py311 false (Word Key.From ∷ in_form (97 ∷ []) ∷ Word Key.Import ∷ in_form (99 ∷ []) ∷ []) ≡ Found
    (simple_form (ImportFrom (Some (97 ∷ [])) (alias (99 ∷ []) None ∷ []) 0 ∷ [])) []
case_191 = refl

-- del ( )
case_194 : read_line Py311 false (Word Key.Del ∷ Op Sign.LPar ∷ Op Sign.RPar ∷ []) ≡ Found
    (simple_form (Delete ((Trees.Tuple Trees.no_exprs Del) ∷ []) ∷ [])) []
case_194 = refl
