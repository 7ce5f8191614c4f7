-- Lists of terminals drawn at random, each at a level from `<<` to atoms: the tree of each, or that it has none.
--
-- Carries: no contract; its rows are computed as it is checked.
use Rattle.std.proofs.Common.{◌≡◌, refl, [], ◌∷◌, true, false, Bool}
use Rattle.pylex_lexeme.specs.declared.kinds.Exact.TheVariants.{Colon, ColonEqual, Comma, Dot, DoubleStar, EqEqual, Equal, LBrace, Less}
use Rattle.pylex_lexeme.specs.declared.kinds.Exact.TheVariants.{LPar, LSqb, Minus, Plus, RBrace, RPar, RSqb, Star, Tilde, VBar, Ellipsis}
use Rattle.pytoken.specs.declared.keywords.Keyword.TheVariants as Key
use Rattle.pytree_node.specs.declared.operators.Operator.TheVariants as Bin
use Rattle.pytree_node.specs.declared.operators.UnaryOperator.TheVariants as Un
use Rattle.pytree_node.specs.declared.operators.Context.TheVariants.{Load, Store}
use Rattle.pygrammar.specs.declared.levels.Level.TheVariants.{Shift, Sum, Term, Factor, Power, Await, Primary, Atom}
use Rattle.pytree_node.specs.Trees
use Rattle.pytree_node.specs.Values
use Rattle.pytoken.specs.Terminals.{Op, Word, in_form, whole, Literal}
use Rattle.pygrammar.specs.Reader.{Answer, Found, NoForm, TooDeep, read}

abbrev refused : Answer Trees.Expr → Bool
refused (Found e []) = false
refused (Found e (t ∷ r)) = true
refused NoForm = true
refused TooDeep = false

-- Shift: ( x for ( a . b , [ c ] ) in ) y )
case_0 : refused (read 20 Shift (Op LPar ∷ in_form (120 ∷ []) ∷ Word Key.For ∷ Op LPar ∷ in_form (97 ∷ []) ∷ Op Dot ∷ in_form (98 ∷ []) ∷ Op
    Comma ∷ Op LSqb ∷ in_form (99 ∷ []) ∷ Op RSqb ∷ Op RPar ∷ Word Key.In ∷ Op RPar ∷ in_form (121 ∷ []) ∷ Op RPar ∷ [])) ≡ true
case_0 = refl

-- Shift: x if else ]
case_4 : refused (read 20 Shift (in_form (120 ∷ []) ∷ Word Key.If ∷ Word Key.Else ∷ Op RSqb ∷ [])) ≡ true
case_4 = refl

-- Term: not ~
case_6 : refused (read 20 Term (Word Key.Not ∷ Op Tilde ∷ [])) ≡ true
case_6 = refl

-- Factor: - { }
case_9 : read 20 Factor (Op Minus ∷ Op LBrace ∷ Op RBrace ∷ []) ≡ Found
    (Trees.UnaryOp Un.USub (Trees.Dict Trees.no_optional Trees.no_exprs)) []
case_9 = refl

-- Shift: - x ** - y
case_10 : read 20 Shift (Op Minus ∷ in_form (120 ∷ []) ∷ Op DoubleStar ∷ Op Minus ∷ in_form (121 ∷ []) ∷ []) ≡ Found
    (Trees.UnaryOp Un.USub (Trees.BinOp (Trees.Name (120 ∷ []) Load) Bin.Pow (Trees.UnaryOp Un.USub (Trees.Name (121 ∷ []) Load)))) []
case_10 = refl

-- Term: ( a , * b )
case_12 : read 20 Term (Op LPar ∷ in_form (97 ∷ []) ∷ Op Comma ∷ Op Star ∷ in_form (98 ∷ []) ∷ Op RPar ∷ []) ≡ Found
    (Trees.Tuple (Trees.an_expr (Trees.Name (97 ∷ []) Load) (Trees.an_expr (Trees.Starred (Trees.Name (98 ∷ []) Load) Load) Trees.no_exprs))
    Load) []
case_12 = refl

-- Shift: :
case_15 : refused (read 20 Shift (Op Colon ∷ [])) ≡ true
case_15 = refl

-- Atom: a [ := 1 ]
case_17 : refused (read 20 Atom (in_form (97 ∷ []) ∷ Op LSqb ∷ Op ColonEqual ∷ whole 1 ∷ Op RSqb ∷ [])) ≡ true
case_17 = refl

-- Shift: ) [ ]
case_23 : refused (read 20 Shift (Op RPar ∷ Op LSqb ∷ Op RSqb ∷ [])) ≡ true
case_23 = refl

-- Term: ( x := 1 )
case_25 : read 20 Term (Op LPar ∷ in_form (120 ∷ []) ∷ Op ColonEqual ∷ whole 1 ∷ Op RPar ∷ []) ≡ Found
    (Trees.NamedExpr (Trees.Name (120 ∷ []) Store) (Trees.Constant (Values.Int 1))) []
case_25 = refl

-- Shift: [ * a , b ]
case_26 : read 20 Shift (Op LSqb ∷ Op Star ∷ in_form (97 ∷ []) ∷ Op Comma ∷ in_form (98 ∷ []) ∷ Op RSqb ∷ []) ≡ Found
    (Trees.ListOf (Trees.an_expr (Trees.Starred (Trees.Name (97 ∷ []) Load) Load)
    (Trees.an_expr (Trees.Name (98 ∷ []) Load) Trees.no_exprs)) Load) []
case_26 = refl

-- Sum: not a
case_27 : refused (read 20 Sum (Word Key.Not ∷ in_form (97 ∷ []) ∷ [])) ≡ true
case_27 = refl

-- Atom: c
case_29 : read 20 Atom (in_form (99 ∷ []) ∷ []) ≡ Found (Trees.Name (99 ∷ []) Load) []
case_29 = refl

-- Atom: g - b - c
case_31 : refused (read 20 Atom (in_form (103 ∷ []) ∷ Op Minus ∷ in_form (98 ∷ []) ∷ Op Minus ∷ in_form (99 ∷ []) ∷ [])) ≡ true
case_31 = refl

-- Power: x ( ) : 0
case_33 : refused (read 20 Power (in_form (120 ∷ []) ∷ Op LPar ∷ Op RPar ∷ Op Colon ∷ whole 0 ∷ [])) ≡ true
case_33 = refl

-- Await: ( | from a )
case_36 : refused (read 20 Await (Op LPar ∷ Op VBar ∷ Word Key.From ∷ in_form (97 ∷ []) ∷ Op RPar ∷ [])) ≡ true
case_36 = refl

-- Await: b
case_39 : read 20 Await (in_form (98 ∷ []) ∷ []) ≡ Found (Trees.Name (98 ∷ []) Load) []
case_39 = refl

-- Shift: a * b + c f
case_45 : refused (read 20 Shift (in_form (97 ∷ []) ∷ Op Star ∷ in_form (98 ∷ []) ∷ Op Plus ∷ in_form (99 ∷ []) ∷ in_form (102 ∷ []) ∷ []))
    ≡ true
case_45 = refl

-- Term: { x : y for x a - b in z if a if b }
case_47 : refused (read 20 Term (Op LBrace ∷ in_form (120 ∷ []) ∷ Op Colon ∷ in_form (121 ∷ []) ∷ Word Key.For ∷ in_form (120 ∷ []) ∷
    in_form (97 ∷ []) ∷ Op Minus ∷ in_form (98 ∷ []) ∷ Word Key.In ∷ in_form (122 ∷ []) ∷ Word Key.If ∷ in_form (97 ∷ []) ∷ Word Key.If ∷
    in_form (98 ∷ []) ∷ Op RBrace ∷ [])) ≡ true
case_47 = refl

-- Sum: ,
case_49 : refused (read 20 Sum (Op Comma ∷ [])) ≡ true
case_49 = refl

-- Power: ( lambda x : x "a" "b" ) ( y )
case_50 : refused (read 20 Power (Op LPar ∷ Word Key.Lambda ∷ in_form (120 ∷ []) ∷ Op Colon ∷ in_form (120 ∷ []) ∷ Literal
    (Values.Str (97 ∷ []) false) ∷ Literal (Values.Str (98 ∷ []) false) ∷ Op RPar ∷ Op LPar ∷ in_form (121 ∷ []) ∷ Op RPar ∷ [])) ≡ true
case_50 = refl

-- Atom: in *
case_53 : refused (read 20 Atom (Word Key.In ∷ Op Star ∷ [])) ≡ true
case_53 = refl

-- Sum: a [ : ]
case_59 : read 20 Sum (in_form (97 ∷ []) ∷ Op LSqb ∷ Op Colon ∷ Op RSqb ∷ []) ≡ Found
    (Trees.Subscript (Trees.Name (97 ∷ []) Load) (Trees.Slice Trees.absent Trees.absent Trees.absent) Load) []
case_59 = refl

-- Atom: f ( ** a , b = c if
case_60 : refused (read 20 Atom (in_form (102 ∷ []) ∷ Op LPar ∷ Op DoubleStar ∷ in_form (97 ∷ []) ∷ Op Comma ∷ in_form (98 ∷ []) ∷ Op Equal
    ∷ in_form (99 ∷ []) ∷ Word Key.If ∷ [])) ≡ true
case_60 = refl

-- Await: ( x := )
case_64 : refused (read 20 Await (Op LPar ∷ in_form (120 ∷ []) ∷ Op ColonEqual ∷ Op RPar ∷ [])) ≡ true
case_64 = refl

-- Term: { a , * b , }
case_65 : read 20 Term (Op LBrace ∷ in_form (97 ∷ []) ∷ Op Comma ∷ Op Star ∷ in_form (98 ∷ []) ∷ Op Comma ∷ Op RBrace ∷ []) ≡ Found
    (Trees.Set (Trees.an_expr (Trees.Name (97 ∷ []) Load) (Trees.an_expr (Trees.Starred (Trees.Name (98 ∷ []) Load) Load) Trees.no_exprs)))
    []
case_65 = refl

-- Await: ,
case_75 : refused (read 20 Await (Op Comma ∷ [])) ≡ true
case_75 = refl

-- Primary: ( a , ) b
case_77 : refused (read 20 Primary (Op LPar ∷ in_form (97 ∷ []) ∷ Op Comma ∷ Op RPar ∷ in_form (98 ∷ []) ∷ [])) ≡ true
case_77 = refl

-- Atom: in a
case_78 : refused (read 20 Atom (Word Key.In ∷ in_form (97 ∷ []) ∷ [])) ≡ true
case_78 = refl

-- Atom: [ 1 : a , * lambda b ]
case_81 : refused (read 20 Atom (Op LSqb ∷ whole 1 ∷ Op Colon ∷ in_form (97 ∷ []) ∷ Op Comma ∷ Op Star ∷ Word Key.Lambda ∷ in_form
    (98 ∷ []) ∷ Op RSqb ∷ [])) ≡ true
case_81 = refl

-- Power: a [ 1 : : a 2 ]
case_84 : refused (read 20 Power (in_form (97 ∷ []) ∷ Op LSqb ∷ whole 1 ∷ Op Colon ∷ Op Colon ∷ in_form (97 ∷ []) ∷ whole 2 ∷ Op RSqb ∷ []))
    ≡ true
case_84 = refl

-- Power: a < b == c
case_86 : refused (read 20 Power (in_form (97 ∷ []) ∷ Op Less ∷ in_form (98 ∷ []) ∷ Op EqEqual ∷ in_form (99 ∷ []) ∷ [])) ≡ true
case_86 = refl

-- Shift: not ]
case_91 : refused (read 20 Shift (Word Key.Not ∷ Op RSqb ∷ [])) ≡ true
case_91 = refl

-- Shift: x if y [ else z
case_97 : refused (read 20 Shift (in_form (120 ∷ []) ∷ Word Key.If ∷ in_form (121 ∷ []) ∷ Op LSqb ∷ Word Key.Else ∷ in_form
    (122 ∷ []) ∷ [])) ≡ true
case_97 = refl

-- Sum: a , )
case_99 : refused (read 20 Sum (in_form (97 ∷ []) ∷ Op Comma ∷ Op RPar ∷ [])) ≡ true
case_99 = refl

-- Atom: yield y a
case_103 : refused (read 20 Atom (Word Key.Yield ∷ in_form (121 ∷ []) ∷ in_form (97 ∷ []) ∷ [])) ≡ true
case_103 = refl

-- Power: ]
case_105 : refused (read 20 Power (Op RSqb ∷ [])) ≡ true
case_105 = refl

-- Shift: { }
case_107 : read 20 Shift (Op LBrace ∷ Op RBrace ∷ []) ≡ Found (Trees.Dict Trees.no_optional Trees.no_exprs) []
case_107 = refl

-- Power: 1 y : lambda [ ,
case_109 : refused (read 20 Power (whole 1 ∷ in_form (121 ∷ []) ∷ Op Colon ∷ Word Key.Lambda ∷ Op LSqb ∷ Op Comma ∷ [])) ≡ true
case_109 = refl

-- Power: ] k [
case_114 : refused (read 20 Power (Op RSqb ∷ in_form (107 ∷ []) ∷ Op LSqb ∷ [])) ≡ true
case_114 = refl

-- Power: f ( a ) ( }
case_120 : refused (read 20 Power (in_form (102 ∷ []) ∷ Op LPar ∷ in_form (97 ∷ []) ∷ Op RPar ∷ Op LPar ∷ Op RBrace ∷ [])) ≡ true
case_120 = refl

-- Primary: [
case_121 : refused (read 20 Primary (Op LSqb ∷ [])) ≡ true
case_121 = refl

-- Factor: [ not not
case_123 : refused (read 20 Factor (Op LSqb ∷ Word Key.Not ∷ Word Key.Not ∷ [])) ≡ true
case_123 = refl

-- Factor: d c ]
case_127 : refused (read 20 Factor (in_form (100 ∷ []) ∷ in_form (99 ∷ []) ∷ Op RSqb ∷ [])) ≡ true
case_127 = refl

-- Atom: b ) c
case_131 : refused (read 20 Atom (in_form (98 ∷ []) ∷ Op RPar ∷ in_form (99 ∷ []) ∷ [])) ≡ true
case_131 = refl

-- Power: { lambda ) : x : f ( a ) y }
case_134 : refused (read 20 Power (Op LBrace ∷ Word Key.Lambda ∷ Op RPar ∷ Op Colon ∷ in_form (120 ∷ []) ∷ Op Colon ∷ in_form (102 ∷ []) ∷
    Op LPar ∷ in_form (97 ∷ []) ∷ Op RPar ∷ in_form (121 ∷ []) ∷ Op RBrace ∷ [])) ≡ true
case_134 = refl

-- Await: : ( lambda x : x ) a y )
case_136 : refused (read 20 Await (Op Colon ∷ Op LPar ∷ Word Key.Lambda ∷ in_form (120 ∷ []) ∷ Op Colon ∷ in_form (120 ∷ []) ∷ Op RPar ∷
    in_form (97 ∷ []) ∷ in_form (121 ∷ []) ∷ Op RPar ∷ [])) ≡ true
case_136 = refl

-- Shift: c yield a , * b )
case_138 : refused (read 20 Shift (in_form (99 ∷ []) ∷ Word Key.Yield ∷ in_form (97 ∷ []) ∷ Op Comma ∷ Op Star ∷ in_form
    (98 ∷ []) ∷ Op RPar ∷ [])) ≡ true
case_138 = refl

-- Factor: ) not not a
case_142 : refused (read 20 Factor (Op RPar ∷ Word Key.Not ∷ Word Key.Not ∷ in_form (97 ∷ []) ∷ [])) ≡ true
case_142 = refl

-- Primary: a [ ( : x : y ]
case_145 : refused (read 20 Primary (in_form (97 ∷ []) ∷ Op LSqb ∷ Op LPar ∷ Op Colon ∷ in_form (120 ∷ []) ∷ Op Colon ∷ in_form
    (121 ∷ []) ∷ Op RSqb ∷ [])) ≡ true
case_145 = refl

-- Shift: ( ) (
case_153 : refused (read 20 Shift (Op LPar ∷ Op RPar ∷ Op LPar ∷ [])) ≡ true
case_153 = refl

-- Power: y * c
case_156 : refused (read 20 Power (in_form (121 ∷ []) ∷ Op Star ∷ in_form (99 ∷ []) ∷ [])) ≡ true
case_156 = refl

-- Sum: ( in , y )
case_158 : refused (read 20 Sum (Op LPar ∷ Word Key.In ∷ Op Comma ∷ in_form (121 ∷ []) ∷ Op RPar ∷ [])) ≡ true
case_158 = refl

-- Power: not y b
case_160 : refused (read 20 Power (Word Key.Not ∷ in_form (121 ∷ []) ∷ in_form (98 ∷ []) ∷ [])) ≡ true
case_160 = refl

-- Term: f ( * a , b )
case_166 : read 20 Term (in_form (102 ∷ []) ∷ Op LPar ∷ Op Star ∷ in_form (97 ∷ []) ∷ Op Comma ∷ in_form (98 ∷ []) ∷ Op RPar ∷ []) ≡ Found
    (Trees.Call (Trees.Name (102 ∷ []) Load) (Trees.an_expr (Trees.Starred (Trees.Name (97 ∷ []) Load) Load)
    (Trees.an_expr (Trees.Name (98 ∷ []) Load) Trees.no_exprs)) Trees.no_keyword) []
case_166 = refl

-- Term: b
case_169 : read 20 Term (in_form (98 ∷ []) ∷ []) ≡ Found (Trees.Name (98 ∷ []) Load) []
case_169 = refl

-- Primary: ( x for ( a . b , [ c ] ) in y )
case_175 : read 20 Primary (Op LPar ∷ in_form (120 ∷ []) ∷ Word Key.For ∷ Op LPar ∷ in_form (97 ∷ []) ∷ Op Dot ∷ in_form (98 ∷ []) ∷ Op
    Comma ∷ Op LSqb ∷ in_form (99 ∷ []) ∷ Op RSqb ∷ Op RPar ∷ Word Key.In ∷ in_form (121 ∷ []) ∷ Op RPar ∷ []) ≡ Found
    (Trees.GeneratorExp (Trees.Name (120 ∷ []) Load)
    (Trees.a_comprehension
    (Trees.Tuple (Trees.an_expr (Trees.Attribute (Trees.Name (97 ∷ []) Load) (98 ∷ []) Store)
    (Trees.an_expr (Trees.ListOf (Trees.an_expr (Trees.Name (99 ∷ []) Store) Trees.no_exprs) Store) Trees.no_exprs)) Store)
    (Trees.Name (121 ∷ []) Load) Trees.no_exprs false Trees.no_comprehension)) []
case_175 = refl

-- Shift: [ ]
case_176 : read 20 Shift (Op LSqb ∷ Op RSqb ∷ []) ≡ Found (Trees.ListOf Trees.no_exprs Load) []
case_176 = refl

-- Atom: { x : y for x in z if a if b }
case_178 : read 20 Atom (Op LBrace ∷ in_form (120 ∷ []) ∷ Op Colon ∷ in_form (121 ∷ []) ∷ Word Key.For ∷ in_form (120 ∷ []) ∷ Word Key.In ∷
    in_form (122 ∷ []) ∷ Word Key.If ∷ in_form (97 ∷ []) ∷ Word Key.If ∷ in_form (98 ∷ []) ∷ Op RBrace ∷ []) ≡ Found
    (Trees.DictComp (Trees.Name (120 ∷ []) Load) (Trees.Name (121 ∷ []) Load) (Trees.a_comprehension (Trees.Name (120 ∷ []) Store)
    (Trees.Name (122 ∷ []) Load) (Trees.an_expr (Trees.Name (97 ∷ []) Load) (Trees.an_expr (Trees.Name (98 ∷ []) Load) Trees.no_exprs))
    false Trees.no_comprehension)) []
case_178 = refl

-- Shift: [ x async for x , * y in z for q in r ]
case_183 : read 20 Shift (Op LSqb ∷ in_form (120 ∷ []) ∷ Word Key.Async ∷ Word Key.For ∷ in_form (120 ∷ []) ∷ Op Comma ∷ Op Star ∷ in_form
    (121 ∷ []) ∷ Word Key.In ∷ in_form (122 ∷ []) ∷ Word Key.For ∷ in_form (113 ∷ []) ∷ Word Key.In ∷ in_form (114 ∷ []) ∷ Op RSqb ∷ []) ≡
    Found (Trees.ListComp (Trees.Name (120 ∷ []) Load)
    (Trees.a_comprehension
    (Trees.Tuple (Trees.an_expr (Trees.Name (120 ∷ []) Store) (Trees.an_expr (Trees.Starred (Trees.Name (121 ∷ []) Store) Store)
    Trees.no_exprs)) Store) (Trees.Name (122 ∷ []) Load) Trees.no_exprs true (Trees.a_comprehension (Trees.Name (113 ∷ []) Store)
    (Trees.Name (114 ∷ []) Load) Trees.no_exprs false Trees.no_comprehension))) []
case_183 = refl

-- Await: ( yield a , x * b )
case_186 : read 20 Await (Op LPar ∷ Word Key.Yield ∷ in_form (97 ∷ []) ∷ Op Comma ∷ in_form (120 ∷ []) ∷ Op Star ∷ in_form (98 ∷ []) ∷ Op
    RPar ∷ []) ≡ Found (Trees.Yield
    (Trees.present (Trees.Tuple
    (Trees.an_expr (Trees.Name (97 ∷ []) Load)
    (Trees.an_expr (Trees.BinOp (Trees.Name (120 ∷ []) Load) Bin.Mult (Trees.Name (98 ∷ []) Load)) Trees.no_exprs)) Load))) []
case_186 = refl

-- Await: a
case_192 : read 20 Await (in_form (97 ∷ []) ∷ []) ≡ Found (Trees.Name (97 ∷ []) Load) []
case_192 = refl

-- Factor: "a" "b"
case_195 : read 20 Factor (Literal (Values.Str (97 ∷ []) false) ∷ Literal (Values.Str (98 ∷ []) false) ∷ []) ≡ Found
    (Trees.Constant (Values.Str (97 ∷ 98 ∷ []) false)) []
case_195 = refl

-- Sum: b
case_202 : read 20 Sum (in_form (98 ∷ []) ∷ []) ≡ Found (Trees.Name (98 ∷ []) Load) []
case_202 = refl

-- Factor: - b ** - y
case_206 : read 20 Factor (Op Minus ∷ in_form (98 ∷ []) ∷ Op DoubleStar ∷ Op Minus ∷ in_form (121 ∷ []) ∷ []) ≡ Found
    (Trees.UnaryOp Un.USub (Trees.BinOp (Trees.Name (98 ∷ []) Load) Bin.Pow (Trees.UnaryOp Un.USub (Trees.Name (121 ∷ []) Load)))) []
case_206 = refl

-- Sum: a [ x := 1 ]
case_214 : read 20 Sum (in_form (97 ∷ []) ∷ Op LSqb ∷ in_form (120 ∷ []) ∷ Op ColonEqual ∷ whole 1 ∷ Op RSqb ∷ []) ≡ Found
    (Trees.Subscript (Trees.Name (97 ∷ []) Load) (Trees.NamedExpr (Trees.Name (120 ∷ []) Store) (Trees.Constant (Values.Int 1))) Load) []
case_214 = refl

-- Await: ( )
case_217 : read 20 Await (Op LPar ∷ Op RPar ∷ []) ≡ Found (Trees.Tuple Trees.no_exprs Load) []
case_217 = refl

-- Primary: { x : y for x in z if a if b }
case_218 : read 20 Primary (Op LBrace ∷ in_form (120 ∷ []) ∷ Op Colon ∷ in_form (121 ∷ []) ∷ Word Key.For ∷ in_form (120 ∷ []) ∷ Word Key.In
    ∷ in_form (122 ∷ []) ∷ Word Key.If ∷ in_form (97 ∷ []) ∷ Word Key.If ∷ in_form (98 ∷ []) ∷ Op RBrace ∷ []) ≡ Found
    (Trees.DictComp (Trees.Name (120 ∷ []) Load) (Trees.Name (121 ∷ []) Load) (Trees.a_comprehension (Trees.Name (120 ∷ []) Store)
    (Trees.Name (122 ∷ []) Load) (Trees.an_expr (Trees.Name (97 ∷ []) Load) (Trees.an_expr (Trees.Name (98 ∷ []) Load) Trees.no_exprs))
    false Trees.no_comprehension)) []
case_218 = refl

-- Await: "b"
case_221 : read 20 Await (Literal (Values.Str (98 ∷ []) false) ∷ []) ≡ Found (Trees.Constant (Values.Str (98 ∷ []) false)) []
case_221 = refl

-- Await: [ ]
case_225 : read 20 Await (Op LSqb ∷ Op RSqb ∷ []) ≡ Found (Trees.ListOf Trees.no_exprs Load) []
case_225 = refl

-- Power: a
case_228 : read 20 Power (in_form (97 ∷ []) ∷ []) ≡ Found (Trees.Name (97 ∷ []) Load) []
case_228 = refl

-- Shift: ( a )
case_231 : read 20 Shift (Op LPar ∷ in_form (97 ∷ []) ∷ Op RPar ∷ []) ≡ Found (Trees.Name (97 ∷ []) Load) []
case_231 = refl

-- Shift: f ( a ) ( b )
case_235 : read 20 Shift (in_form (102 ∷ []) ∷ Op LPar ∷ in_form (97 ∷ []) ∷ Op RPar ∷ Op LPar ∷ in_form (98 ∷ []) ∷ Op RPar ∷ []) ≡ Found
    (Trees.Call (Trees.Call (Trees.Name (102 ∷ []) Load) (Trees.an_expr (Trees.Name (97 ∷ []) Load) Trees.no_exprs) Trees.no_keyword)
    (Trees.an_expr (Trees.Name (98 ∷ []) Load) Trees.no_exprs) Trees.no_keyword) []
case_235 = refl

-- Factor: f ( a ) ( b ) . c [ c ]
case_236 : read 20 Factor (in_form (102 ∷ []) ∷ Op LPar ∷ in_form (97 ∷ []) ∷ Op RPar ∷ Op LPar ∷ in_form (98 ∷ []) ∷ Op RPar ∷ Op Dot ∷
    in_form (99 ∷ []) ∷ Op LSqb ∷ in_form (99 ∷ []) ∷ Op RSqb ∷ []) ≡ Found
    (Trees.Subscript (Trees.Attribute
    (Trees.Call (Trees.Call (Trees.Name (102 ∷ []) Load) (Trees.an_expr (Trees.Name (97 ∷ []) Load) Trees.no_exprs) Trees.no_keyword)
    (Trees.an_expr (Trees.Name (98 ∷ []) Load) Trees.no_exprs) Trees.no_keyword) (99 ∷ []) Load) (Trees.Name (99 ∷ []) Load) Load) []
case_236 = refl

-- Term: ...
case_237 : read 20 Term (Op Ellipsis ∷ []) ≡ Found (Trees.Constant (Values.Ellipsis)) []
case_237 = refl

-- Primary: f ( * a , b )
case_244 : read 20 Primary (in_form (102 ∷ []) ∷ Op LPar ∷ Op Star ∷ in_form (97 ∷ []) ∷ Op Comma ∷ in_form (98 ∷ []) ∷ Op RPar ∷ []) ≡
    Found (Trees.Call (Trees.Name (102 ∷ []) Load) (Trees.an_expr (Trees.Starred (Trees.Name (97 ∷ []) Load) Load)
    (Trees.an_expr (Trees.Name (98 ∷ []) Load) Trees.no_exprs)) Trees.no_keyword) []
case_244 = refl

-- Await: [ * a , await b ]
case_245 : read 20 Await (Op LSqb ∷ Op Star ∷ in_form (97 ∷ []) ∷ Op Comma ∷ Word Key.Await ∷ in_form (98 ∷ []) ∷ Op RSqb ∷ []) ≡ Found
    (Trees.ListOf (Trees.an_expr (Trees.Starred (Trees.Name (97 ∷ []) Load) Load) (Trees.an_expr (Trees.Await (Trees.Name (98 ∷ []) Load))
    Trees.no_exprs)) Load) []
case_245 = refl

-- Primary: 0
case_247 : read 20 Primary (whole 0 ∷ []) ≡ Found (Trees.Constant (Values.Int 0)) []
case_247 = refl

-- Sum: [ x async for x , * y in z for q in y ]
case_253 : read 20 Sum (Op LSqb ∷ in_form (120 ∷ []) ∷ Word Key.Async ∷ Word Key.For ∷ in_form (120 ∷ []) ∷ Op Comma ∷ Op Star ∷ in_form
    (121 ∷ []) ∷ Word Key.In ∷ in_form (122 ∷ []) ∷ Word Key.For ∷ in_form (113 ∷ []) ∷ Word Key.In ∷ in_form (121 ∷ []) ∷ Op RSqb ∷ []) ≡
    Found (Trees.ListComp (Trees.Name (120 ∷ []) Load)
    (Trees.a_comprehension
    (Trees.Tuple (Trees.an_expr (Trees.Name (120 ∷ []) Store) (Trees.an_expr (Trees.Starred (Trees.Name (121 ∷ []) Store) Store)
    Trees.no_exprs)) Store) (Trees.Name (122 ∷ []) Load) Trees.no_exprs true (Trees.a_comprehension (Trees.Name (113 ∷ []) Store)
    (Trees.Name (121 ∷ []) Load) Trees.no_exprs false Trees.no_comprehension))) []
case_253 = refl

-- Await: { a , * b , }
case_254 : read 20 Await (Op LBrace ∷ in_form (97 ∷ []) ∷ Op Comma ∷ Op Star ∷ in_form (98 ∷ []) ∷ Op Comma ∷ Op RBrace ∷ []) ≡ Found
    (Trees.Set (Trees.an_expr (Trees.Name (97 ∷ []) Load) (Trees.an_expr (Trees.Starred (Trees.Name (98 ∷ []) Load) Load) Trees.no_exprs)))
    []
case_254 = refl

-- Factor: { x : y for x in z if a if b }
case_262 : read 20 Factor (Op LBrace ∷ in_form (120 ∷ []) ∷ Op Colon ∷ in_form (121 ∷ []) ∷ Word Key.For ∷ in_form (120 ∷ []) ∷ Word Key.In
    ∷ in_form (122 ∷ []) ∷ Word Key.If ∷ in_form (97 ∷ []) ∷ Word Key.If ∷ in_form (98 ∷ []) ∷ Op RBrace ∷ []) ≡ Found
    (Trees.DictComp (Trees.Name (120 ∷ []) Load) (Trees.Name (121 ∷ []) Load) (Trees.a_comprehension (Trees.Name (120 ∷ []) Store)
    (Trees.Name (122 ∷ []) Load) (Trees.an_expr (Trees.Name (97 ∷ []) Load) (Trees.an_expr (Trees.Name (98 ∷ []) Load) Trees.no_exprs))
    false Trees.no_comprehension)) []
case_262 = refl

-- Factor: f ( a ) ( b ) . c [ d ]
case_267 : read 20 Factor (in_form (102 ∷ []) ∷ Op LPar ∷ in_form (97 ∷ []) ∷ Op RPar ∷ Op LPar ∷ in_form (98 ∷ []) ∷ Op RPar ∷ Op Dot ∷
    in_form (99 ∷ []) ∷ Op LSqb ∷ in_form (100 ∷ []) ∷ Op RSqb ∷ []) ≡ Found
    (Trees.Subscript (Trees.Attribute
    (Trees.Call (Trees.Call (Trees.Name (102 ∷ []) Load) (Trees.an_expr (Trees.Name (97 ∷ []) Load) Trees.no_exprs) Trees.no_keyword)
    (Trees.an_expr (Trees.Name (98 ∷ []) Load) Trees.no_exprs) Trees.no_keyword) (99 ∷ []) Load) (Trees.Name (100 ∷ []) Load) Load) []
case_267 = refl

-- Power: "a" "b"
case_273 : read 20 Power (Literal (Values.Str (97 ∷ []) false) ∷ Literal (Values.Str (98 ∷ []) false) ∷ []) ≡ Found
    (Trees.Constant (Values.Str (97 ∷ 98 ∷ []) false)) []
case_273 = refl

-- Term: f ( a ) ( b ) . c [ d ]
case_277 : read 20 Term (in_form (102 ∷ []) ∷ Op LPar ∷ in_form (97 ∷ []) ∷ Op RPar ∷ Op LPar ∷ in_form (98 ∷ []) ∷ Op RPar ∷ Op Dot ∷
    in_form (99 ∷ []) ∷ Op LSqb ∷ in_form (100 ∷ []) ∷ Op RSqb ∷ []) ≡ Found
    (Trees.Subscript (Trees.Attribute
    (Trees.Call (Trees.Call (Trees.Name (102 ∷ []) Load) (Trees.an_expr (Trees.Name (97 ∷ []) Load) Trees.no_exprs) Trees.no_keyword)
    (Trees.an_expr (Trees.Name (98 ∷ []) Load) Trees.no_exprs) Trees.no_keyword) (99 ∷ []) Load) (Trees.Name (100 ∷ []) Load) Load) []
case_277 = refl

-- Shift: a [ 1 : : 2 ]
case_280 : read 20 Shift (in_form (97 ∷ []) ∷ Op LSqb ∷ whole 1 ∷ Op Colon ∷ Op Colon ∷ whole 2 ∷ Op RSqb ∷ []) ≡ Found
    (Trees.Subscript (Trees.Name (97 ∷ []) Load) (Trees.Slice (Trees.present (Trees.Constant (Values.Int 1))) Trees.absent
    (Trees.present (Trees.Constant (Values.Int 2)))) Load) []
case_280 = refl

-- Sum: a * b + c
case_282 : read 20 Sum (in_form (97 ∷ []) ∷ Op Star ∷ in_form (98 ∷ []) ∷ Op Plus ∷ in_form (99 ∷ []) ∷ []) ≡ Found
    (Trees.BinOp (Trees.BinOp (Trees.Name (97 ∷ []) Load) Bin.Mult (Trees.Name (98 ∷ []) Load)) Bin.Add (Trees.Name (99 ∷ []) Load)) []
case_282 = refl

-- Shift: f ( * a , a )
case_284 : read 20 Shift (in_form (102 ∷ []) ∷ Op LPar ∷ Op Star ∷ in_form (97 ∷ []) ∷ Op Comma ∷ in_form (97 ∷ []) ∷ Op RPar ∷ []) ≡ Found
    (Trees.Call (Trees.Name (102 ∷ []) Load) (Trees.an_expr (Trees.Starred (Trees.Name (97 ∷ []) Load) Load)
    (Trees.an_expr (Trees.Name (97 ∷ []) Load) Trees.no_exprs)) Trees.no_keyword) []
case_284 = refl

-- Shift: a ** b ** c
case_285 : read 20 Shift (in_form (97 ∷ []) ∷ Op DoubleStar ∷ in_form (98 ∷ []) ∷ Op DoubleStar ∷ in_form (99 ∷ []) ∷ []) ≡ Found
    (Trees.BinOp (Trees.Name (97 ∷ []) Load) Bin.Pow (Trees.BinOp (Trees.Name (98 ∷ []) Load) Bin.Pow (Trees.Name (99 ∷ []) Load))) []
case_285 = refl

-- Factor: c
case_293 : read 20 Factor (in_form (99 ∷ []) ∷ []) ≡ Found (Trees.Name (99 ∷ []) Load) []
case_293 = refl

-- Term: { }
case_296 : read 20 Term (Op LBrace ∷ Op RBrace ∷ []) ≡ Found (Trees.Dict Trees.no_optional Trees.no_exprs) []
case_296 = refl

-- Shift: { lambda : x : y }
case_297 : read 20 Shift (Op LBrace ∷ Word Key.Lambda ∷ Op Colon ∷ in_form (120 ∷ []) ∷ Op Colon ∷ in_form (121 ∷ []) ∷ Op RBrace ∷ []) ≡
    Found (Trees.Dict (Trees.an_optional
    (Trees.present (Trees.Lambda (Trees.arguments Trees.no_arg Trees.no_arg Trees.absent_arg Trees.no_arg Trees.no_optional Trees.absent_arg
    Trees.no_exprs) (Trees.Name (120 ∷ []) Load))) Trees.no_optional) (Trees.an_expr (Trees.Name (121 ∷ []) Load) Trees.no_exprs)) []
case_297 = refl
