-- Worked lines that begin with the keyword of a simple statement: the reader computes their forms.
--
-- Carries: no contract; its rows are computed as it is checked.
use Rattle.std.proofs.Common.{◌≡◌, refl, [], ◌∷◌, Some, None, false}
use Rattle.pylex_lexeme.specs.declared.kinds.Exact.TheVariants as Sign
use Rattle.pytoken.specs.declared.keywords.Keyword.TheVariants as Key
use Rattle.pytree_node.specs.declared.operators.Context.TheVariants.{Load, Del}
use Rattle.pytree_node.specs.Profiles.{plain_311 as Py311}
use Rattle.pytree_node.specs.Trees as Trees
use Rattle.pytoken.specs.Terminals.{Op, Word, in_form}
use Rattle.pygrammar.specs.Reader.{Found, NoForm}
use Rattle.pytree_node.specs.Trees.{Return, Delete, Raise, Assert, Import, Global, Nonlocal, Pass, Break, Continue, ImportFrom}
use Rattle.pygrammar.specs.Lines.{simple_form}
use Rattle.pygrammar.specs.Forms.{alias}
use Rattle.pygrammar.specs.LineReader.{read_line}

-- return
row_36 : read_line Py311 false (Word Key.Return ∷ []) ≡ Found (simple_form (Return None ∷ [])) []
row_36 = refl

-- return a, *b
row_37 : read_line Py311 false (Word Key.Return ∷ in_form (97 ∷ []) ∷ Op Sign.Comma ∷ Op Sign.Star ∷ in_form (98 ∷ []) ∷ []) ≡ Found
    (simple_form (Return
    (Some (Trees.Tuple (Trees.an_expr (Trees.Name (97 ∷ []) Load) (Trees.an_expr (Trees.Starred (Trees.Name (98 ∷ []) Load) Load)
    Trees.no_exprs)) Load)) ∷ [])) []
row_37 = refl

-- return (yield)
row_38 : read_line Py311 false (Word Key.Return ∷ Op Sign.LPar ∷ Word Key.Yield ∷ Op Sign.RPar ∷ []) ≡ Found
    (simple_form (Return (Some (Trees.Yield Trees.absent)) ∷ [])) []
row_38 = refl

-- return x = y
row_39 : read_line Py311 false (Word Key.Return ∷ in_form (120 ∷ []) ∷ Op Sign.Equal ∷ in_form (121 ∷ []) ∷ []) ≡ NoForm
row_39 = refl

-- raise
row_40 : read_line Py311 false (Word Key.Raise ∷ []) ≡ Found (simple_form (Raise None None ∷ [])) []
row_40 = refl

-- raise a
row_41 : read_line Py311 false (Word Key.Raise ∷ in_form (97 ∷ []) ∷ []) ≡ Found
    (simple_form (Raise (Some (Trees.Name (97 ∷ []) Load)) None ∷ [])) []
row_41 = refl

-- raise a from b
row_42 : read_line Py311 false (Word Key.Raise ∷ in_form (97 ∷ []) ∷ Word Key.From ∷ in_form (98 ∷ []) ∷ []) ≡ Found
    (simple_form (Raise (Some (Trees.Name (97 ∷ []) Load)) (Some (Trees.Name (98 ∷ []) Load)) ∷ [])) []
row_42 = refl

-- raise a, b
row_43 : read_line Py311 false (Word Key.Raise ∷ in_form (97 ∷ []) ∷ Op Sign.Comma ∷ in_form (98 ∷ []) ∷ []) ≡ NoForm
row_43 = refl

-- assert a
row_44 : read_line Py311 false (Word Key.Assert ∷ in_form (97 ∷ []) ∷ []) ≡ Found
    (simple_form (Assert (Trees.Name (97 ∷ []) Load) None ∷ [])) []
row_44 = refl

-- assert a, b
row_45 : read_line Py311 false (Word Key.Assert ∷ in_form (97 ∷ []) ∷ Op Sign.Comma ∷ in_form (98 ∷ []) ∷ []) ≡ Found
    (simple_form (Assert (Trees.Name (97 ∷ []) Load) (Some (Trees.Name (98 ∷ []) Load)) ∷ [])) []
row_45 = refl

-- assert a, b, c
row_46 : read_line Py311 false (Word Key.Assert ∷ in_form (97 ∷ []) ∷ Op Sign.Comma ∷ in_form (98 ∷ []) ∷ Op Sign.Comma ∷ in_form
    (99 ∷ []) ∷ []) ≡ NoForm
row_46 = refl

-- assert *a
row_47 : read_line Py311 false (Word Key.Assert ∷ Op Sign.Star ∷ in_form (97 ∷ []) ∷ []) ≡ NoForm
row_47 = refl

-- del a
row_48 : read_line Py311 false (Word Key.Del ∷ in_form (97 ∷ []) ∷ []) ≡ Found
    (simple_form (Delete ((Trees.Name (97 ∷ []) Del) ∷ []) ∷ [])) []
row_48 = refl

-- del a,
row_49 : read_line Py311 false (Word Key.Del ∷ in_form (97 ∷ []) ∷ Op Sign.Comma ∷ []) ≡ Found
    (simple_form (Delete ((Trees.Name (97 ∷ []) Del) ∷ []) ∷ [])) []
row_49 = refl

-- del (a), [b, c.d], e[f]
row_50 : read_line Py311 false (Word Key.Del ∷ Op Sign.LPar ∷ in_form (97 ∷ []) ∷ Op Sign.RPar ∷ Op Sign.Comma ∷ Op Sign.LSqb ∷ in_form
    (98 ∷ []) ∷ Op Sign.Comma ∷ in_form (99 ∷ []) ∷ Op Sign.Dot ∷ in_form (100 ∷ []) ∷ Op Sign.RSqb ∷ Op Sign.Comma ∷ in_form (101 ∷ []) ∷
    Op Sign.LSqb ∷ in_form (102 ∷ []) ∷ Op Sign.RSqb ∷ []) ≡ Found
    (simple_form (Delete
    ((Trees.Name (97 ∷ []) Del) ∷
    (Trees.ListOf (Trees.an_expr (Trees.Name (98 ∷ []) Del) (Trees.an_expr (Trees.Attribute (Trees.Name (99 ∷ []) Load) (100 ∷ []) Del)
    Trees.no_exprs)) Del) ∷ (Trees.Subscript (Trees.Name (101 ∷ []) Load) (Trees.Name (102 ∷ []) Load) Del) ∷ []) ∷ [])) []
row_50 = refl

-- del (a, b),
row_51 : read_line Py311 false (Word Key.Del ∷ Op Sign.LPar ∷ in_form (97 ∷ []) ∷ Op Sign.Comma ∷ in_form (98 ∷ []) ∷ Op Sign.RPar ∷ Op
    Sign.Comma ∷ []) ≡ Found
    (simple_form (Delete
    ((Trees.Tuple (Trees.an_expr (Trees.Name (97 ∷ []) Del) (Trees.an_expr (Trees.Name (98 ∷ []) Del) Trees.no_exprs)) Del) ∷ []) ∷ [])) []
row_51 = refl

-- del *a
row_52 : read_line Py311 false (Word Key.Del ∷ Op Sign.Star ∷ in_form (97 ∷ []) ∷ []) ≡ NoForm
row_52 = refl

-- del (*a,)
row_53 : read_line Py311 false (Word Key.Del ∷ Op Sign.LPar ∷ Op Sign.Star ∷ in_form (97 ∷ []) ∷ Op Sign.Comma ∷ Op Sign.RPar ∷ []) ≡ NoForm
row_53 = refl

-- del a + b
row_54 : read_line Py311 false (Word Key.Del ∷ in_form (97 ∷ []) ∷ Op Sign.Plus ∷ in_form (98 ∷ []) ∷ []) ≡ NoForm
row_54 = refl

-- del ()
row_55 : read_line Py311 false (Word Key.Del ∷ Op Sign.LPar ∷ Op Sign.RPar ∷ []) ≡ Found
    (simple_form (Delete ((Trees.Tuple Trees.no_exprs Del) ∷ []) ∷ [])) []
row_55 = refl

-- del
row_56 : read_line Py311 false (Word Key.Del ∷ []) ≡ NoForm
row_56 = refl

-- global a, b
row_57 : read_line Py311 false (Word Key.Global ∷ in_form (97 ∷ []) ∷ Op Sign.Comma ∷ in_form (98 ∷ []) ∷ []) ≡ Found
    (simple_form (Global ((97 ∷ []) ∷ (98 ∷ []) ∷ []) ∷ [])) []
row_57 = refl

-- global a,
row_58 : read_line Py311 false (Word Key.Global ∷ in_form (97 ∷ []) ∷ Op Sign.Comma ∷ []) ≡ NoForm
row_58 = refl

-- nonlocal x
row_59 : read_line Py311 false (Word Key.Nonlocal ∷ in_form (120 ∷ []) ∷ []) ≡ Found (simple_form (Nonlocal ((120 ∷ []) ∷ []) ∷ [])) []
row_59 = refl

-- pass
row_60 : read_line Py311 false (Word Key.Pass ∷ []) ≡ Found (simple_form (Pass ∷ [])) []
row_60 = refl

-- pass; break; continue;
row_61 : read_line Py311 false (Word Key.Pass ∷ Op Sign.Semi ∷ Word Key.Break ∷ Op Sign.Semi ∷ Word Key.Continue ∷ Op Sign.Semi ∷ []) ≡
    Found (simple_form (Pass ∷ Break ∷ Continue ∷ [])) []
row_61 = refl

-- pass pass
row_62 : read_line Py311 false (Word Key.Pass ∷ Word Key.Pass ∷ []) ≡ NoForm
row_62 = refl

-- import a
row_64 : read_line Py311 false (Word Key.Import ∷ in_form (97 ∷ []) ∷ []) ≡ Found (simple_form (Import (alias (97 ∷ []) None ∷ []) ∷ [])) []
row_64 = refl

-- import a.b.c as d, e
row_65 : read_line Py311 false (Word Key.Import ∷ in_form (97 ∷ []) ∷ Op Sign.Dot ∷ in_form (98 ∷ []) ∷ Op Sign.Dot ∷ in_form (99 ∷ []) ∷
    Word Key.As ∷ in_form (100 ∷ []) ∷ Op Sign.Comma ∷ in_form (101 ∷ []) ∷ []) ≡ Found
    (simple_form (Import (alias (97 ∷ 46 ∷ 98 ∷ 46 ∷ 99 ∷ []) (Some (100 ∷ [])) ∷ alias (101 ∷ []) None ∷ []) ∷ [])) []
row_65 = refl

-- import a,
row_66 : read_line Py311 false (Word Key.Import ∷ in_form (97 ∷ []) ∷ Op Sign.Comma ∷ []) ≡ NoForm
row_66 = refl

-- import a as b.c
row_67 : read_line Py311 false (Word Key.Import ∷ in_form (97 ∷ []) ∷ Word Key.As ∷ in_form (98 ∷ []) ∷ Op Sign.Dot ∷ in_form
    (99 ∷ []) ∷ []) ≡ NoForm
row_67 = refl

-- from . import (a)
row_68 : read_line Py311 false (Word Key.From ∷ Op Sign.Dot ∷ Word Key.Import ∷ Op Sign.LPar ∷ in_form (97 ∷ []) ∷ Op Sign.RPar ∷ []) ≡
    Found (simple_form (ImportFrom None (alias (97 ∷ []) None ∷ []) 1 ∷ [])) []
row_68 = refl

-- from . import a
row_69 : read_line Py311 false (Word Key.From ∷ Op Sign.Dot ∷ Word Key.Import ∷ in_form (97 ∷ []) ∷ []) ≡ Found
    (simple_form (ImportFrom None (alias (97 ∷ []) None ∷ []) 1 ∷ [])) []
row_69 = refl

-- from ... import a, b as c
row_70 : read_line Py311 false (Word Key.From ∷ Op Sign.Ellipsis ∷ Word Key.Import ∷ in_form (97 ∷ []) ∷ Op Sign.Comma ∷ in_form (98 ∷ []) ∷
    Word Key.As ∷ in_form (99 ∷ []) ∷ []) ≡ Found
    (simple_form (ImportFrom None (alias (97 ∷ []) None ∷ alias (98 ∷ []) (Some (99 ∷ [])) ∷ []) 3 ∷ [])) []
row_70 = refl

-- from .. .... a.b import *
row_71 : read_line Py311 false (Word Key.From ∷ Op Sign.Dot ∷ Op Sign.Dot ∷ Op Sign.Ellipsis ∷ Op Sign.Dot ∷ in_form (97 ∷ []) ∷ Op Sign.Dot
    ∷ in_form (98 ∷ []) ∷ Word Key.Import ∷ Op Sign.Star ∷ []) ≡ Found
    (simple_form (ImportFrom (Some (97 ∷ 46 ∷ 98 ∷ [])) (alias (42 ∷ []) None ∷ []) 6 ∷ [])) []
row_71 = refl

-- from a import (b, c as d,)
row_72 : read_line Py311 false (Word Key.From ∷ in_form (97 ∷ []) ∷ Word Key.Import ∷ Op Sign.LPar ∷ in_form (98 ∷ []) ∷ Op Sign.Comma ∷
    in_form (99 ∷ []) ∷ Word Key.As ∷ in_form (100 ∷ []) ∷ Op Sign.Comma ∷ Op Sign.RPar ∷ []) ≡ Found
    (simple_form (ImportFrom (Some (97 ∷ [])) (alias (98 ∷ []) None ∷ alias (99 ∷ []) (Some (100 ∷ [])) ∷ []) 0 ∷ [])) []
row_72 = refl

-- from a import ()
row_73 : read_line Py311 false (Word Key.From ∷ in_form (97 ∷ []) ∷ Word Key.Import ∷ Op Sign.LPar ∷ Op Sign.RPar ∷ []) ≡ NoForm
row_73 = refl

-- from a import b,
row_74 : read_line Py311 false (Word Key.From ∷ in_form (97 ∷ []) ∷ Word Key.Import ∷ in_form (98 ∷ []) ∷ Op Sign.Comma ∷ []) ≡ NoForm
row_74 = refl

-- from import a
row_75 : read_line Py311 false (Word Key.From ∷ Word Key.Import ∷ in_form (97 ∷ []) ∷ []) ≡ NoForm
row_75 = refl

-- from a import (*)
row_76 : read_line Py311 false (Word Key.From ∷ in_form (97 ∷ []) ∷ Word Key.Import ∷ Op Sign.LPar ∷ Op Sign.Star ∷ Op Sign.RPar ∷ []) ≡
    NoForm
row_76 = refl

-- from .a.b import c as d
row_77 : read_line Py311 false (Word Key.From ∷ Op Sign.Dot ∷ in_form (97 ∷ []) ∷ Op Sign.Dot ∷ in_form (98 ∷ []) ∷ Word Key.Import ∷
    in_form (99 ∷ []) ∷ Word Key.As ∷ in_form (100 ∷ []) ∷ []) ≡ Found
    (simple_form (ImportFrom (Some (97 ∷ 46 ∷ 98 ∷ [])) (alias (99 ∷ []) (Some (100 ∷ [])) ∷ []) 1 ∷ [])) []
row_77 = refl

-- import a; from b import c; pass
row_186 : read_line Py311 false (Word Key.Import ∷ in_form (97 ∷ []) ∷ Op Sign.Semi ∷ Word Key.From ∷ in_form (98 ∷ []) ∷ Word Key.Import ∷
    in_form (99 ∷ []) ∷ Op Sign.Semi ∷ Word Key.Pass ∷ []) ≡ Found
    (simple_form (Import (alias (97 ∷ []) None ∷ []) ∷ ImportFrom (Some (98 ∷ [])) (alias (99 ∷ []) None ∷ []) 0 ∷ Pass ∷ [])) []
row_186 = refl

-- return *a,
row_200 : read_line Py311 false (Word Key.Return ∷ Op Sign.Star ∷ in_form (97 ∷ []) ∷ Op Sign.Comma ∷ []) ≡ Found
    (simple_form (Return (Some (Trees.Tuple (Trees.an_expr (Trees.Starred (Trees.Name (97 ∷ []) Load) Load) Trees.no_exprs) Load)) ∷ [])) []
row_200 = refl
