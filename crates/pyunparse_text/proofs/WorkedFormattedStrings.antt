-- Worked f-strings: what they are written in, as the grammar reads it and as it is written. The trees are those of Python's module `ast`.
--
-- Carries: no contract; its rows are computed as it is checked.
use Rattle.std.proofs.Common.{◌≡◌, refl, List, [], ◌∷◌, map, Some, true, false, ℕ}
use Rattle.std.specs.Prelude.{codes}
use Rattle.pynumber.specs.Decimals.{decimal_text}
use Rattle.pyfstring.specs.declared.parts.Conversion.{Conversion}
use Rattle.pyfstring.specs.declared.parts.Conversion.TheVariants as By
use Rattle.pylex_lexeme.specs.declared.kinds.Exact.TheVariants.{LPar, RPar, LBrace, RBrace}
use Rattle.pytree_node.specs.declared.operators.Comparison.TheVariants as Is
use Rattle.pytree_node.specs.declared.operators.Context.TheVariants.{Load, Store}
use Rattle.pytree_node.specs.Values
use Rattle.pytree_node.specs.Trees.{Expr, NamedExpr, Lambda, IfExp, Dict, Set, Yield, Compare, Constant, FormattedValue, JoinedStr}
use Rattle.pytree_node.specs.Trees.{Subscript}
use Rattle.pytree_node.specs.Trees.{Starred, Name, Tuple, exprs, no_exprs, absent, present, optionals, no_optional, no_arg, absent_arg}
use Rattle.pytree_node.specs.Trees.{arguments}
use Rattle.pygrammar.specs.declared.levels.Level.TheVariants as At
use Rattle.pygrammar.specs.OpenStrings.{token_count}
use Rattle.pytoken.specs.Terminals.{Terminal, Op, in_form, Literal, FormattedBegin, FormattedEnd, FormattedText, FieldBegin, SpecBegin}
use Rattle.pytoken.specs.Terminals.{FieldEnd}
use Rattle.pyunparse_text.specs.Spacing.{spaced}
use Rattle.pyunparse_text.specs.Levels.{leads, reaches}
use Rattle.pyunparse_text.specs.Written.{fit, written, elements_after}
use Rattle.pyunparse_text.specs.Terminals.{terminals}
use Rattle.pyunparse_text.specs.Pieces.{outside, pieces}

record Row : Type 0 where
  tree : Expr
  text : List ℕ

abbrev row : List Expr → List ℕ → Row
row values t = record { tree = JoinedStr (exprs values); text = t }

abbrev AreWritten : List Row → Type 0
AreWritten rows = map (λ r. spaced (outside (pieces At.Atom r.tree))) rows ≡ map (λ r. r.text) rows

-- a field, with a conversion or a format spec
abbrev by : Conversion → Expr → Expr
by c e = FormattedValue e c absent

abbrev field : Expr → Expr
field e = by By.None e

abbrev with_spec : List Expr → Conversion → Expr → Expr
with_spec values c e = FormattedValue e c (present (JoinedStr (exprs values)))

abbrev a_text : List ℕ → Expr
a_text t = Constant (Values.Str t false)

abbrev of_kind_u : List ℕ → Expr
of_kind_u t = Constant (Values.Str t true)

abbrev number : ℕ → Expr
number n = Constant (Values.Int n)

abbrev x : Expr
x = Name (codes "x") Load

abbrev y : Expr
y = Name (codes "y") Load

abbrev w : Expr
w = Name (codes "w") Load

-- Texts, conversions and format specs.
pub plain : AreWritten (
    row [] (codes "f''") ∷
    row (field x ∷ []) (codes "f'{x}'") ∷
    row (by By.Str x ∷ by By.Repr x ∷ by By.Ascii x ∷ []) (codes "f'{x!s}{x!r}{x!a}'") ∷
    row (a_text (codes "{") ∷ field x ∷ a_text (codes "}") ∷ []) (codes "f'{{{x}}}'") ∷
    row (with_spec [] By.None x ∷ []) (codes "f'{x:}'") ∷
    row (with_spec (field (Set (exprs (y ∷ []))) ∷ []) By.None x ∷ []) (codes "f'{x:{ {y}}}'") ∷
    row (with_spec (a_text (codes "{") ∷ []) By.None x ∷ []) (codes "f'{x:\\x7b}'") ∷
    row (with_spec (a_text (codes "\n") ∷ with_spec (a_text (codes "\t") ∷ []) By.Ascii w ∷ []) By.Repr x ∷ [])
    (codes "f'{x!r:\\n{w!a:\\t}}'") ∷
    row (a_text (codes "\\") ∷ field x ∷ a_text (codes "'") ∷ []) (codes "f'\\\\{x}\\''") ∷ [])
unfolding written elements_after fit reaches leads decimal_text
plain = refl

-- Expressions of fields: a blank before a brace, brackets where the level asks for them.
fields : AreWritten (
    row (field (Compare x (Is.NotEq ∷ []) (exprs (y ∷ []))) ∷ []) (codes "f'{x != y}'") ∷
    row (by By.Repr (Compare x (Is.Eq ∷ []) (exprs (y ∷ []))) ∷ []) (codes "f'{x == y!r}'") ∷
    row (field (NamedExpr (Name (codes "x") Store) (number 5)) ∷ []) (codes "f'{(x := 5)}'") ∷
    row (field (Lambda (arguments no_arg no_arg absent_arg no_arg no_optional absent_arg no_exprs) (number 1)) ∷ [])
    (codes "f'{(lambda: 1)}'") ∷
    row (field (Tuple (exprs (Starred x Load ∷ y ∷ [])) Load) ∷ []) (codes "f'{(*x, y)}'") ∷
    row (field (Yield (present x)) ∷ []) (codes "f'{(yield x)}'") ∷
    row (field (IfExp y x w) ∷ []) (codes "f'{(x if y else w)}'") ∷
    row (field (Subscript (Dict (optionals (Some (number 1) ∷ [])) (exprs (number 2 ∷ []))) (number 1) Load) ∷ [])
    (codes "f'{ {1: 2}[1]}'") ∷
    row (field (Set (exprs (number 1 ∷ []))) ∷ []) (codes "f'{ {1}}'") ∷ [])
unfolding written elements_after fit reaches leads decimal_text
fields = refl

-- Literals in fields.
literals : AreWritten (
    row (field (Subscript x (a_text (codes "a")) Load) ∷ []) (codes "f'{x[\"a\"]}'") ∷
    row (field (a_text []) ∷ []) (codes "f'{\"\"}'") ∷
    row (field (of_kind_u (codes "ab")) ∷ []) (codes "f'{u\"ab\"}'") ∷
    row (field (Constant (Values.Bytes (codes "a"))) ∷ []) (codes "f'{b\"a\"}'") ∷
    row (field (JoinedStr (exprs (field x ∷ []))) ∷ []) (codes "f'{f\"{x}\"}'") ∷
    row (field (JoinedStr (exprs (with_spec (a_text (codes ">5") ∷ []) By.Repr x ∷ a_text (codes "=") ∷ field y ∷ []))) ∷ [])
    (codes "f'{f\"{x!r:>5}={y}\"}'") ∷ [])
unfolding written elements_after fit reaches leads decimal_text
literals = refl

-- Texts of the kind u: a literal in front of the f-string has the first.
kinds : AreWritten (
    row (of_kind_u (codes "\n") ∷ []) (codes "u'\\n' f''") ∷
    row (of_kind_u (codes "\n") ∷ field x ∷ of_kind_u (codes "\t") ∷ []) (codes "u'\\n' f'{x}\\t'") ∷
    row (with_spec (of_kind_u (codes "\n") ∷ field y ∷ a_text (codes "\t") ∷ []) By.None x ∷ []) (codes "u'' f'{x:\\n{y}\\t}'") ∷
    row (of_kind_u (codes "\n") ∷ field (JoinedStr (exprs (of_kind_u (codes "b") ∷ field x ∷ []))) ∷ [])
    (codes "u'\\n' f'{u\"b\" f\"{x}\"}'") ∷ [])
unfolding written elements_after fit reaches leads decimal_text
kinds = refl

-- As the grammar reads them: the expression of a field in round brackets. Each is one token, with a literal in front of it two.
record Read : Type 0 where
  tree : Expr
  list : List Terminal
  count : ℕ

abbrev read : List Expr → List Terminal → ℕ → Read
read values ts n = record { tree = JoinedStr (exprs values); list = ts; count = n }

abbrev AreRead : List Read → Type 0
AreRead rows = map (λ r. terminals At.Atom r.tree) rows ≡ map (λ r. r.list) rows

abbrev AreTokens : List Read → Type 0
AreTokens rows = map (λ r. token_count r.list) rows ≡ map (λ r. r.count) rows

abbrev no_text : Terminal
no_text = FormattedText []

abbrev x_field : List Terminal → List Terminal
x_field ts = FieldBegin By.None ∷ Op LPar ∷ in_form (codes "x") ∷ Op RPar ∷ ts

-- A text stands before each field and at the end, perhaps an empty one.
abbrev rows : List Read
rows =
    read [] (FormattedBegin ∷ no_text ∷ FormattedEnd ∷ []) 1 ∷
    read (field x ∷ []) (FormattedBegin ∷ no_text ∷ x_field (FieldEnd ∷ no_text ∷ FormattedEnd ∷ [])) 1 ∷
    read (field x ∷ field x ∷ [])
    (FormattedBegin ∷ no_text ∷ x_field (FieldEnd ∷ no_text ∷ x_field (FieldEnd ∷ no_text ∷ FormattedEnd ∷ []))) 1 ∷
    read (a_text (codes "{") ∷ field x ∷ a_text (codes "}") ∷ [])
    (FormattedBegin ∷ FormattedText (codes "{") ∷ x_field (FieldEnd ∷ FormattedText (codes "}") ∷ FormattedEnd ∷ [])) 1 ∷
    read (with_spec (a_text (codes ">") ∷ field x ∷ []) By.None x ∷ [])
    (FormattedBegin ∷ no_text ∷ x_field
    (SpecBegin ∷ FormattedText (codes ">") ∷ x_field (FieldEnd ∷ no_text ∷ FieldEnd ∷ no_text ∷ FormattedEnd ∷ []))) 1 ∷
    read (field (Set (exprs (x ∷ []))) ∷ [])
    (FormattedBegin ∷ no_text ∷ FieldBegin By.None ∷ Op LPar ∷ Op LBrace ∷ in_form (codes "x") ∷ Op RBrace ∷ Op RPar ∷ FieldEnd ∷ no_text
    ∷ FormattedEnd ∷ []) 1 ∷
    read (of_kind_u (codes "a") ∷ field x ∷ of_kind_u (codes "b") ∷ [])
    (Literal (Values.Str (codes "a") true) ∷ FormattedBegin ∷ no_text ∷ x_field (FieldEnd ∷ FormattedText (codes "b") ∷ FormattedEnd ∷ []))
    2 ∷
    read (field (JoinedStr (exprs (of_kind_u (codes "a") ∷ []))) ∷ [])
    (FormattedBegin ∷ no_text ∷ FieldBegin By.None ∷ Op LPar ∷ Literal (Values.Str (codes "a") true) ∷ FormattedBegin ∷ no_text ∷
    FormattedEnd ∷ Op RPar ∷
    FieldEnd ∷ no_text ∷ FormattedEnd ∷ []) 1 ∷ []

lists : AreRead rows
unfolding written elements_after fit reaches leads decimal_text
lists = refl

counts : AreTokens rows
counts = refl
