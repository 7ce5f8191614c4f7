-- Worked lines that begin with the keyword of a simple statement: the depth that is enough for each.
--
-- Carries: no contract; its rows are computed as it is checked.
use Rattle.std.proofs.Common.{◌≡◌, refl, [], ◌∷◌, Some, None, false}
use Rattle.pylex_lexeme.specs.declared.kinds.Exact.TheVariants as Sign
use Rattle.pytoken.specs.declared.keywords.Keyword.TheVariants as Key
use Rattle.pytree_node.specs.declared.operators.Context.TheVariants.{Load, Del}
use Rattle.pytree_node.specs.Profiles.{plain_311 as Py311}
use Rattle.pytree_node.specs.Trees as Trees
use Rattle.pytoken.specs.Terminals.{Op, Word, in_form}
use Rattle.pygrammar.specs.Reader.{Found}
use Rattle.pytree_node.specs.Trees.{Return, Delete, Raise, Assert, Import, ImportFrom, Global, Nonlocal, Pass, Break, Continue}
use Rattle.pygrammar.specs.Lines.{simple_form}
use Rattle.pygrammar.specs.Forms.{alias}
use Rattle.pygrammar.specs.LineReader.{read_line_to}

-- return
depth_30 : read_line_to Py311 false 0 (Word Key.Return ∷ []) ≡ Found (simple_form (Return None ∷ [])) []
depth_30 = refl

-- return a , * b
depth_31 : read_line_to Py311 false 3 (Word Key.Return ∷ in_form (97 ∷ []) ∷ Op Sign.Comma ∷ Op Sign.Star ∷ in_form (98 ∷ []) ∷ []) ≡ Found
    (simple_form (Return
    (Some (Trees.Tuple (Trees.an_expr (Trees.Name (97 ∷ []) Load) (Trees.an_expr (Trees.Starred (Trees.Name (98 ∷ []) Load) Load)
    Trees.no_exprs)) Load)) ∷ [])) []
depth_31 = refl

-- return ( yield )
depth_32 : read_line_to Py311 false 2 (Word Key.Return ∷ Op Sign.LPar ∷ Word Key.Yield ∷ Op Sign.RPar ∷ []) ≡ Found
    (simple_form (Return (Some (Trees.Yield Trees.absent)) ∷ [])) []
depth_32 = refl

-- raise
depth_33 : read_line_to Py311 false 0 (Word Key.Raise ∷ []) ≡ Found (simple_form (Raise None None ∷ [])) []
depth_33 = refl

-- raise a
depth_34 : read_line_to Py311 false 1 (Word Key.Raise ∷ in_form (97 ∷ []) ∷ []) ≡ Found
    (simple_form (Raise (Some (Trees.Name (97 ∷ []) Load)) None ∷ [])) []
depth_34 = refl

-- raise a from b
depth_35 : read_line_to Py311 false 1 (Word Key.Raise ∷ in_form (97 ∷ []) ∷ Word Key.From ∷ in_form (98 ∷ []) ∷ []) ≡ Found
    (simple_form (Raise (Some (Trees.Name (97 ∷ []) Load)) (Some (Trees.Name (98 ∷ []) Load)) ∷ [])) []
depth_35 = refl

-- assert a
depth_36 : read_line_to Py311 false 1 (Word Key.Assert ∷ in_form (97 ∷ []) ∷ []) ≡ Found
    (simple_form (Assert (Trees.Name (97 ∷ []) Load) None ∷ [])) []
depth_36 = refl

-- assert a , b
depth_37 : read_line_to Py311 false 1 (Word Key.Assert ∷ in_form (97 ∷ []) ∷ Op Sign.Comma ∷ in_form (98 ∷ []) ∷ []) ≡ Found
    (simple_form (Assert (Trees.Name (97 ∷ []) Load) (Some (Trees.Name (98 ∷ []) Load)) ∷ [])) []
depth_37 = refl

-- del a
depth_38 : read_line_to Py311 false 1 (Word Key.Del ∷ in_form (97 ∷ []) ∷ []) ≡ Found
    (simple_form (Delete ((Trees.Name (97 ∷ []) Del) ∷ []) ∷ [])) []
depth_38 = refl

-- del a ,
depth_39 : read_line_to Py311 false 1 (Word Key.Del ∷ in_form (97 ∷ []) ∷ Op Sign.Comma ∷ []) ≡ Found
    (simple_form (Delete ((Trees.Name (97 ∷ []) Del) ∷ []) ∷ [])) []
depth_39 = refl

-- del ( a ) , [ b , c . d ] , e [ f ]
depth_40 : read_line_to Py311 false 4 (Word Key.Del ∷ Op Sign.LPar ∷ in_form (97 ∷ []) ∷ Op Sign.RPar ∷ Op Sign.Comma ∷ Op Sign.LSqb ∷
    in_form (98 ∷ []) ∷ Op Sign.Comma ∷ in_form (99 ∷ []) ∷ Op Sign.Dot ∷ in_form (100 ∷ []) ∷ Op Sign.RSqb ∷ Op Sign.Comma ∷ in_form
    (101 ∷ []) ∷ Op Sign.LSqb ∷ in_form (102 ∷ []) ∷ Op Sign.RSqb ∷ []) ≡ Found
    (simple_form (Delete
    ((Trees.Name (97 ∷ []) Del) ∷
    (Trees.ListOf (Trees.an_expr (Trees.Name (98 ∷ []) Del) (Trees.an_expr (Trees.Attribute (Trees.Name (99 ∷ []) Load) (100 ∷ []) Del)
    Trees.no_exprs)) Del) ∷ (Trees.Subscript (Trees.Name (101 ∷ []) Load) (Trees.Name (102 ∷ []) Load) Del) ∷ []) ∷ [])) []
depth_40 = refl

-- del ( a , b ) ,
depth_41 : read_line_to Py311 false 3 (Word Key.Del ∷ Op Sign.LPar ∷ in_form (97 ∷ []) ∷ Op Sign.Comma ∷ in_form (98 ∷ []) ∷ Op Sign.RPar ∷
    Op Sign.Comma ∷ []) ≡ Found
    (simple_form (Delete
    ((Trees.Tuple (Trees.an_expr (Trees.Name (97 ∷ []) Del) (Trees.an_expr (Trees.Name (98 ∷ []) Del) Trees.no_exprs)) Del) ∷ []) ∷ [])) []
depth_41 = refl

-- del ( )
depth_42 : read_line_to Py311 false 2 (Word Key.Del ∷ Op Sign.LPar ∷ Op Sign.RPar ∷ []) ≡ Found
    (simple_form (Delete ((Trees.Tuple Trees.no_exprs Del) ∷ []) ∷ [])) []
depth_42 = refl

-- global a , b
depth_43 : read_line_to Py311 false 0 (Word Key.Global ∷ in_form (97 ∷ []) ∷ Op Sign.Comma ∷ in_form (98 ∷ []) ∷ []) ≡ Found
    (simple_form (Global ((97 ∷ []) ∷ (98 ∷ []) ∷ []) ∷ [])) []
depth_43 = refl

-- nonlocal x
depth_44 : read_line_to Py311 false 0 (Word Key.Nonlocal ∷ in_form (120 ∷ []) ∷ []) ≡ Found
    (simple_form (Nonlocal ((120 ∷ []) ∷ []) ∷ [])) []
depth_44 = refl

-- pass
depth_45 : read_line_to Py311 false 0 (Word Key.Pass ∷ []) ≡ Found (simple_form (Pass ∷ [])) []
depth_45 = refl

-- pass ; break ; continue ;
depth_46 : read_line_to Py311 false 0 (Word Key.Pass ∷ Op Sign.Semi ∷ Word Key.Break ∷ Op Sign.Semi ∷ Word Key.Continue ∷ Op Sign.Semi ∷ [])
    ≡ Found (simple_form (Pass ∷ Break ∷ Continue ∷ [])) []
depth_46 = refl

-- import a
depth_47 : read_line_to Py311 false 0 (Word Key.Import ∷ in_form (97 ∷ []) ∷ []) ≡ Found
    (simple_form (Import (alias (97 ∷ []) None ∷ []) ∷ [])) []
depth_47 = refl

-- import a . b . c as d , e
depth_48 : read_line_to Py311 false 0 (Word Key.Import ∷ in_form (97 ∷ []) ∷ Op Sign.Dot ∷ in_form (98 ∷ []) ∷ Op Sign.Dot ∷ in_form
    (99 ∷ []) ∷ Word Key.As ∷ in_form (100 ∷ []) ∷ Op Sign.Comma ∷ in_form (101 ∷ []) ∷ []) ≡ Found
    (simple_form (Import (alias (97 ∷ 46 ∷ 98 ∷ 46 ∷ 99 ∷ []) (Some (100 ∷ [])) ∷ alias (101 ∷ []) None ∷ []) ∷ [])) []
depth_48 = refl

-- from . import ( a )
depth_49 : read_line_to Py311 false 1 (Word Key.From ∷ Op Sign.Dot ∷ Word Key.Import ∷ Op Sign.LPar ∷ in_form (97 ∷ []) ∷ Op Sign.RPar ∷ [])
    ≡ Found (simple_form (ImportFrom None (alias (97 ∷ []) None ∷ []) 1 ∷ [])) []
depth_49 = refl

-- from . import a
depth_50 : read_line_to Py311 false 0 (Word Key.From ∷ Op Sign.Dot ∷ Word Key.Import ∷ in_form (97 ∷ []) ∷ []) ≡ Found
    (simple_form (ImportFrom None (alias (97 ∷ []) None ∷ []) 1 ∷ [])) []
depth_50 = refl

-- from ... import a , b as c
depth_51 : read_line_to Py311 false 0 (Word Key.From ∷ Op Sign.Ellipsis ∷ Word Key.Import ∷ in_form (97 ∷ []) ∷ Op Sign.Comma ∷ in_form
    (98 ∷ []) ∷ Word Key.As ∷ in_form (99 ∷ []) ∷ []) ≡ Found
    (simple_form (ImportFrom None (alias (97 ∷ []) None ∷ alias (98 ∷ []) (Some (99 ∷ [])) ∷ []) 3 ∷ [])) []
depth_51 = refl

-- from . . ... . a . b import *
depth_52 : read_line_to Py311 false 0 (Word Key.From ∷ Op Sign.Dot ∷ Op Sign.Dot ∷ Op Sign.Ellipsis ∷ Op Sign.Dot ∷ in_form (97 ∷ []) ∷ Op
    Sign.Dot ∷ in_form (98 ∷ []) ∷ Word Key.Import ∷ Op Sign.Star ∷ []) ≡ Found
    (simple_form (ImportFrom (Some (97 ∷ 46 ∷ 98 ∷ [])) (alias (42 ∷ []) None ∷ []) 6 ∷ [])) []
depth_52 = refl

-- from a import ( b , c as d , )
depth_53 : read_line_to Py311 false 1 (Word Key.From ∷ in_form (97 ∷ []) ∷ Word Key.Import ∷ Op Sign.LPar ∷ in_form (98 ∷ []) ∷ Op
    Sign.Comma ∷ in_form (99 ∷ []) ∷ Word Key.As ∷ in_form (100 ∷ []) ∷ Op Sign.Comma ∷ Op Sign.RPar ∷ []) ≡ Found
    (simple_form (ImportFrom (Some (97 ∷ [])) (alias (98 ∷ []) None ∷ alias (99 ∷ []) (Some (100 ∷ [])) ∷ []) 0 ∷ [])) []
depth_53 = refl

-- from . a . b import c as d
depth_54 : read_line_to Py311 false 0 (Word Key.From ∷ Op Sign.Dot ∷ in_form (97 ∷ []) ∷ Op Sign.Dot ∷ in_form (98 ∷ []) ∷ Word Key.Import ∷
    in_form (99 ∷ []) ∷ Word Key.As ∷ in_form (100 ∷ []) ∷ []) ≡ Found
    (simple_form (ImportFrom (Some (97 ∷ 46 ∷ 98 ∷ [])) (alias (99 ∷ []) (Some (100 ∷ [])) ∷ []) 1 ∷ [])) []
depth_54 = refl

-- import a ; from b import c ; pass
depth_135 : read_line_to Py311 false 0 (Word Key.Import ∷ in_form (97 ∷ []) ∷ Op Sign.Semi ∷ Word Key.From ∷ in_form (98 ∷ []) ∷ Word
    Key.Import ∷ in_form (99 ∷ []) ∷ Op Sign.Semi ∷ Word Key.Pass ∷ []) ≡ Found
    (simple_form (Import (alias (97 ∷ []) None ∷ []) ∷ ImportFrom (Some (98 ∷ [])) (alias (99 ∷ []) None ∷ []) 0 ∷ Pass ∷ [])) []
depth_135 = refl

-- return * a ,
depth_142 : read_line_to Py311 false 3 (Word Key.Return ∷ Op Sign.Star ∷ in_form (97 ∷ []) ∷ Op Sign.Comma ∷ []) ≡ Found
    (simple_form (Return (Some (Trees.Tuple (Trees.an_expr (Trees.Starred (Trees.Name (97 ∷ []) Load) Load) Trees.no_exprs) Load)) ∷ [])) []
depth_142 = refl

-- del ( ( a ) ) , [ [ b ] ]
depth_167 : read_line_to Py311 false 5 (Word Key.Del ∷ Op Sign.LPar ∷ Op Sign.LPar ∷ in_form (97 ∷ []) ∷ Op Sign.RPar ∷ Op Sign.RPar ∷ Op
    Sign.Comma ∷ Op Sign.LSqb ∷ Op Sign.LSqb ∷ in_form (98 ∷ []) ∷ Op Sign.RSqb ∷ Op Sign.RSqb ∷ []) ≡ Found
    (simple_form (Delete
    ((Trees.Name (97 ∷ []) Del) ∷ (Trees.ListOf (Trees.an_expr (Trees.ListOf (Trees.an_expr (Trees.Name (98 ∷ []) Del) Trees.no_exprs) Del)
    Trees.no_exprs) Del) ∷ []) ∷ [])) []
depth_167 = refl

-- raise ( ( a ) ) from ( ( b ) )
depth_168 : read_line_to Py311 false 3 (Word Key.Raise ∷ Op Sign.LPar ∷ Op Sign.LPar ∷ in_form (97 ∷ []) ∷ Op Sign.RPar ∷ Op Sign.RPar ∷
    Word Key.From ∷ Op Sign.LPar ∷ Op Sign.LPar ∷ in_form (98 ∷ []) ∷ Op Sign.RPar ∷ Op Sign.RPar ∷ []) ≡ Found
    (simple_form (Raise (Some (Trees.Name (97 ∷ []) Load)) (Some (Trees.Name (98 ∷ []) Load)) ∷ [])) []
depth_168 = refl
