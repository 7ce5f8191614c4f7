-- Worked f-strings: the tree of each is that of Python's ast.
--
-- Carries: no contract; its rows are computed as it is checked.
use Rattle.std.proofs.Common.{◌≡◌, refl, ℕ, zero, suc, List, [], ◌∷◌, ◌++◌, true, false, Bool}
use Rattle.pylex_lexeme.specs.declared.kinds.Exact.TheVariants.{Comma, LPar, Minus, RPar}
use Rattle.pyfstring.specs.declared.parts.Conversion.TheVariants as By
use Rattle.pytree_node.specs.declared.operators.Context.TheVariants.{Load}
use Rattle.pygrammar.specs.declared.levels.Level.TheVariants.{Value}
use Rattle.pygrammar.specs.declared.pattern_levels.PatternLevel.TheVariants.{Patterns}
use Rattle.pytree_node.specs.Trees
use Rattle.pytree_node.specs.Trees.{Expr, absent, present, MatchValue}
use Rattle.pytree_node.specs.Values
use Rattle.pytoken.specs.Terminals.{Terminal, Op, Literal, in_form, FormattedBegin, FormattedEnd, FormattedText, FieldBegin, SpecBegin}
use Rattle.pytoken.specs.Terminals.{FieldEnd}
use Rattle.pygrammar.specs.Lengths.{weight}
use Rattle.pygrammar.specs.Reader.{Answer, Found, NoForm, TooDeep, read}
use Rattle.pygrammar.specs.Capped.{limit}
use Rattle.pygrammar.specs.PatternReader.{limit_pattern}

abbrev refused : {A : Type 0} → Answer A → Bool
refused (Found e []) = false
refused (Found e (t ∷ r)) = true
refused NoForm = true
refused TooDeep = false

abbrev x : Terminal
x = in_form (120 ∷ [])

abbrev y : Terminal
y = in_form (121 ∷ [])

-- 'a' and u'a'
abbrev plain : ℕ → Terminal
plain c = Literal (Values.Str (c ∷ []) false)

abbrev unicode : List ℕ → Terminal
unicode t = Literal (Values.Str t true)

abbrev text : List ℕ → Bool → Expr
text t u = Trees.Constant (Values.Str t u)

abbrev named : ℕ → Expr
named c = Trees.Name (c ∷ []) Load

abbrev of : List Expr → Expr
of es = Trees.JoinedStr (Trees.exprs es)

abbrev field : Expr → Expr
field e = Trees.FormattedValue e By.None absent

-- {x}
abbrev braced : Terminal → List Terminal
braced t = FieldBegin By.None ∷ Op LPar ∷ t ∷ Op RPar ∷ FieldEnd ∷ []

-- f''
worked_1 : read 12 Value (FormattedBegin ∷ FormattedEnd ∷ []) ≡ Found (of []) []
worked_1 = refl

-- f'a' 'b'
worked_2 : read 12 Value (FormattedBegin ∷ FormattedText (97 ∷ []) ∷ FormattedEnd ∷ plain 98 ∷ []) ≡ Found
    (of (text (97 ∷ 98 ∷ []) false ∷ [])) []
worked_2 = refl

-- f'{x}'
worked_3 : read 12 Value (FormattedBegin ∷ (braced x ++ FormattedEnd ∷ [])) ≡ Found (of (field (named 120) ∷ [])) []
worked_3 = refl

-- f'{x!r:>{w}}'
worked_4 : read 12 Value (FormattedBegin ∷ FieldBegin By.Repr ∷ Op LPar ∷ x ∷ Op RPar ∷ SpecBegin ∷ FormattedText (62 ∷ []) ∷
    (braced (in_form (119 ∷ [])) ++ FieldEnd ∷ FormattedEnd ∷ [])) ≡ Found
    (of (Trees.FormattedValue (named 120) By.Repr (present (of (text (62 ∷ []) false ∷ field (named 119) ∷ []))) ∷ [])) []
worked_4 = refl

-- u'a' f'{x}b'
worked_5 : read 12 Value (unicode (97 ∷ []) ∷ FormattedBegin ∷ (braced x ++ FormattedText (98 ∷ []) ∷ FormattedEnd ∷ [])) ≡ Found
    (of (text (97 ∷ []) true ∷ field (named 120) ∷ text (98 ∷ []) true ∷ [])) []
worked_5 = refl

-- u'' f'{x:a{y}b}'
worked_6 : read 12 Value (unicode [] ∷ FormattedBegin ∷ FieldBegin By.None ∷ Op LPar ∷ x ∷ Op RPar ∷ SpecBegin ∷ FormattedText (97 ∷ []) ∷
    (braced y ++ FormattedText (98 ∷ []) ∷ FieldEnd ∷ FormattedEnd ∷ [])) ≡ Found
    (of (Trees.FormattedValue (named 120) By.None (present (of (text (97 ∷ []) true ∷ field (named 121) ∷ text (98 ∷ []) false ∷ []))) ∷
    [])) []
worked_6 = refl

-- f'{x}' u'a'
worked_7 : read 12 Value (FormattedBegin ∷ (braced x ++ FormattedEnd ∷ unicode (97 ∷ []) ∷ [])) ≡ Found
    (of (field (named 120) ∷ text (97 ∷ []) false ∷ [])) []
worked_7 = refl

-- f'{x:}'
worked_8 : read 12 Value (FormattedBegin ∷ FieldBegin By.None ∷ Op LPar ∷ x ∷ Op RPar ∷ SpecBegin ∷ FieldEnd ∷ FormattedEnd ∷ []) ≡ Found
    (of (Trees.FormattedValue (named 120) By.None (present (of [])) ∷ [])) []
worked_8 = refl

-- f'{x, y}'
worked_9 : read 12 Value (FormattedBegin ∷ FieldBegin By.None ∷ Op LPar ∷ x ∷ Op Comma ∷ y ∷ Op RPar ∷ FieldEnd ∷ FormattedEnd ∷ []) ≡ Found
    (of (field (Trees.Tuple (Trees.exprs (named 120 ∷ named 121 ∷ [])) Load) ∷ [])) []
worked_9 = refl

-- no form: b'' f''
worked_10 : refused (read 12 Value (Literal (Values.Bytes []) ∷ FormattedBegin ∷ FormattedEnd ∷ [])) ≡ true
worked_10 = refl

-- no form: f'' b''
worked_11 : refused (read 12 Value (FormattedBegin ∷ FormattedEnd ∷ Literal (Values.Bytes []) ∷ [])) ≡ true
worked_11 = refl

-- no form: a field without brackets
worked_12 : refused (read 12 Value (FormattedBegin ∷ FieldBegin By.None ∷ x ∷ FieldEnd ∷ FormattedEnd ∷ [])) ≡ true
worked_12 = refl

-- no form: a field without an end
worked_13 : refused (read 12 Value (FormattedBegin ∷ FieldBegin By.None ∷ Op LPar ∷ x ∷ Op RPar ∷ FormattedEnd ∷ [])) ≡ true
worked_13 = refl

-- ---- Patterns.

-- f'{x}'
pattern_1 : limit_pattern 12 Patterns (FormattedBegin ∷ (braced x ++ FormattedEnd ∷ [])) ≡ Found
    (MatchValue (of (field (named 120) ∷ []))) []
pattern_1 = refl

-- no form: -f''
pattern_2 : refused (limit_pattern 12 Patterns (Op Minus ∷ FormattedBegin ∷ FormattedEnd ∷ [])) ≡ true
pattern_2 = refl

-- ---- Room, and what counts.

-- f'{-x}' with some signs
abbrev signed : ℕ → List Terminal
signed zero = x ∷ Op RPar ∷ FieldEnd ∷ FormattedEnd ∷ []
signed (suc n) = Op Minus ∷ signed n

abbrev is_deep : Answer Expr → Bool
is_deep TooDeep = true
is_deep _ = false

-- the f-string, its field, the signs and the name
room_1 : refused (limit 10 Value (FormattedBegin ∷ FieldBegin By.None ∷ Op LPar ∷ signed 7)) ≡ false
room_1 = refl

room_2 : is_deep (limit 10 Value (FormattedBegin ∷ FieldBegin By.None ∷ Op LPar ∷ signed 7)) ≡ false
room_2 = refl

room_3 : is_deep (limit 10 Value (FormattedBegin ∷ FieldBegin By.None ∷ Op LPar ∷ signed 8)) ≡ true
room_3 = refl

-- f'a' counts 2, and f'{x}' 5
weight_1 : weight (FormattedBegin ∷ FormattedText (97 ∷ []) ∷ FormattedEnd ∷ []) ≡ 2
weight_1 = refl

weight_2 : weight (FormattedBegin ∷ (braced x ++ FormattedEnd ∷ [])) ≡ 5
weight_2 = refl
