-- Worked f-strings: which fit their places, and which terminals may stand where f-strings are open.
--
-- Carries: no contract; its rows are computed as it is checked.
use Rattle.std.proofs.Common.{◌≡◌, refl, ℕ, List, [], ◌∷◌, ◌++◌, Bool, true, false}
use Rattle.pylex_lexeme.specs.declared.kinds.Exact.TheVariants.{LPar, RPar}
use Rattle.pyfstring.specs.declared.parts.Conversion.TheVariants as By
use Rattle.pytree_node.specs.declared.operators.Context.TheVariants.{Load}
use Rattle.pytree_node.specs.declared.profiles.Extent.{Extent}
use Rattle.pytree_node.specs.declared.profiles.Extent.TheVariants.{Plain, Whole}
use Rattle.pytree_node.specs.Trees
use Rattle.pytree_node.specs.Trees.{Expr, exprs, absent, present}
use Rattle.pytree_node.specs.Values.{Str, Bytes}
use Rattle.pytoken.specs.Terminals.{Terminal, Op, Literal, in_form, FormattedBegin, FormattedEnd, FormattedText, FieldBegin, SpecBegin}
use Rattle.pytoken.specs.Terminals.{FieldEnd}
use Rattle.pygrammar.specs.declared.levels.Level.TheVariants.{Expression, Primary}
use Rattle.pytree_fits.specs.Tests.{Tests}
use Rattle.pytree_fits.specs.Slots.{fits_at}
use Rattle.pytree_fits.specs.PatternSlots.{literal_fits, key_fits}
use Rattle.pytree_fits.specs.Given.{all_pass}

-- each name is a name; outside f-strings
abbrev any_name : Extent → Tests
any_name extent = record { name = λ x. true; extent = extent; fields = 0 }

abbrev fits : Expr → Bool
fits e = fits_at (any_name Whole) Expression e

abbrev x : Expr
x = Trees.Name (120 ∷ []) Load

abbrev text : List ℕ → Expr
text t = Trees.Constant (Str t false)

-- of kind u
abbrev unicode : List ℕ → Expr
unicode t = Trees.Constant (Str t true)

-- 'a', and 'b'
abbrev a : Expr
a = text (97 ∷ [])

abbrev b : Expr
b = text (98 ∷ [])

abbrev string : List Expr → Expr
string es = Trees.JoinedStr (exprs es)

-- {v}, and {v:es}
abbrev field : Expr → Expr
field v = Trees.FormattedValue v By.None absent

abbrev field_with : Expr → List Expr → Expr
field_with v es = Trees.FormattedValue v By.None (present (string es))

-- ---- Values: texts that aren't empty, no two side by side, and fields, which stand only there.

-- f'', f'a', f'a{x}b'
pub fits_1 : fits (string []) ≡ true
fits_1 = refl

fits_2 : fits (string (a ∷ [])) ≡ true
fits_2 = refl

fits_3 : fits (string (a ∷ field x ∷ b ∷ [])) ≡ true
fits_3 = refl

fits_4 : fits_at (any_name Whole) Primary (string (field x ∷ field x ∷ [])) ≡ true
fits_4 = refl

fails_1 : fits (string (text [] ∷ [])) ≡ false
fails_1 = refl

fails_2 : fits (string (a ∷ b ∷ [])) ≡ false
fails_2 = refl

fails_3 : fits (string (x ∷ [])) ≡ false
fails_3 = refl

fails_4 : fits (string (string [] ∷ [])) ≡ false
fails_4 = refl

fails_5 : fits (field x) ≡ false
fails_5 = refl

-- in the plain language there is none
fails_6 : fits_at (any_name Plain) Expression (string []) ≡ false
fails_6 = refl

-- ---- A field: an expression for every level, and a spec of such values; that of a spec's field has a text at most.

-- f'{(x,)}', f'{x:}', f'{x:a}'
field_fits_1 : fits (string (field (Trees.Tuple (exprs (x ∷ [])) Load) ∷ [])) ≡ true
field_fits_1 = refl

field_fits_2 : fits (string (field_with x [] ∷ [])) ≡ true
field_fits_2 = refl

field_fits_3 : fits (string (field_with x (a ∷ []) ∷ [])) ≡ true
field_fits_3 = refl

-- f'{x:a{x}b{x:a}}'
field_fits_4 : fits (string (field_with x (a ∷ field x ∷ b ∷ field_with x (a ∷ []) ∷ []) ∷ [])) ≡ true
field_fits_4 = refl

field_fails_1 : fits (string (field (Trees.Starred x Load) ∷ [])) ≡ false
field_fails_1 = refl

field_fails_2 : fits (string (field (Trees.Slice absent absent absent) ∷ [])) ≡ false
field_fails_2 = refl

field_fails_3 : fits (string (Trees.FormattedValue x By.Repr (present a) ∷ [])) ≡ false
field_fails_3 = refl

field_fails_4 : fits (string (field_with x (a ∷ b ∷ []) ∷ [])) ≡ false
field_fails_4 = refl

-- f'{x:{x:{x}}}'
field_fails_5 : fits (string (field_with x (field_with x (field x ∷ []) ∷ []) ∷ [])) ≡ false
field_fails_5 = refl

field_fails_6 : fits (string (field_with x (field_with x (a ∷ b ∷ []) ∷ []) ∷ [])) ≡ false
field_fails_6 = refl

-- ---- Kinds.

-- u'a' f'{x}a', u'' f'{x:a{x}b}'
kind_fits_1 : fits (string (unicode (97 ∷ []) ∷ field x ∷ unicode (97 ∷ []) ∷ [])) ≡ true
kind_fits_1 = refl

kind_fits_2 : fits (string (field_with x (unicode (97 ∷ []) ∷ field x ∷ b ∷ []) ∷ [])) ≡ true
kind_fits_2 = refl

kind_fails_1 : fits (string (unicode (97 ∷ []) ∷ field x ∷ b ∷ [])) ≡ false
kind_fails_1 = refl

kind_fails_2 : fits (string (a ∷ field_with x (unicode (97 ∷ []) ∷ field x ∷ []) ∷ [])) ≡ false
kind_fails_2 = refl

-- the last value of a spec has none
kind_fails_3 : fits (string (field_with x (unicode (97 ∷ []) ∷ []) ∷ [])) ≡ false
kind_fails_3 = refl

kind_fails_4 : fits (string (unicode (97 ∷ []) ∷ field_with x (field_with x (unicode (97 ∷ []) ∷ []) ∷ []) ∷ [])) ≡ false
kind_fails_4 = refl

-- literals in fields have kinds of their own
kind_fits_3 : fits (string (a ∷ field (unicode (97 ∷ [])) ∷ [])) ≡ true
kind_fits_3 = refl

-- ---- Within a field.

-- f'{"a"}', f'{b"a"}'; f"{''}", but not f"{'\''}"
within_fits_1 : fits (string (field a ∷ field (Trees.Constant (Bytes (97 ∷ []))) ∷ field (text []) ∷ [])) ≡ true
within_fits_1 = refl

within_fails_1 : fits (string (field (text (39 ∷ [])) ∷ [])) ≡ false
within_fails_1 = refl

within_fails_2 : fits (string (field (text (0xD800 ∷ [])) ∷ [])) ≡ false
within_fails_2 = refl

within_fails_3 : fits (string (field (Trees.Constant (Bytes (0x80 ∷ []))) ∷ [])) ≡ false
within_fails_3 = refl

-- f'\n{x:\n}', whose texts stand in no field
within_fits_2 : fits (string (text (10 ∷ []) ∷ field_with x (text (10 ∷ []) ∷ []) ∷ [])) ≡ true
within_fits_2 = refl

within_fails_4 : fits (string (field (string (text (10 ∷ []) ∷ [])) ∷ [])) ≡ false
within_fails_4 = refl

within_fails_5 : fits (string (field (string (field_with x (text (10 ∷ []) ∷ []) ∷ [])) ∷ [])) ≡ false
within_fails_5 = refl

-- a brace: in a text of an f-string in a field, but in none of its specs
within_fits_3 : fits (string (field (string (text (123 ∷ []) ∷ [])) ∷ field_with x (text (123 ∷ []) ∷ []) ∷ [])) ≡ true
within_fits_3 = refl

within_fails_6 : fits (string (field (string (field_with x (text (123 ∷ []) ∷ []) ∷ [])) ∷ [])) ≡ false
within_fails_6 = refl

-- f'{f"{x}"}', but no literal in the fields of an f-string in a field
within_fits_4 : fits (string (field (string (field x ∷ [])) ∷ [])) ≡ true
within_fits_4 = refl

within_fails_7 : fits (string (field (string (field (text []) ∷ [])) ∷ [])) ≡ false
within_fails_7 = refl

within_fails_8 : fits (string (field (string (field (string []) ∷ [])) ∷ [])) ≡ false
within_fails_8 = refl

within_fails_9 : fits (string (field (string (field_with x (field (Trees.Constant (Bytes [])) ∷ []) ∷ [])) ∷ [])) ≡ false
within_fails_9 = refl

-- the values of a spec stand in the field's place, their own values in one field
within_fits_5 : fits (string (field_with x (field a ∷ []) ∷ [])) ≡ true
within_fits_5 = refl

-- ---- In patterns.

pattern_1 : literal_fits (any_name Whole) (string (a ∷ field x ∷ [])) ≡ true
pattern_1 = refl

pattern_2 : key_fits (any_name Whole) (string (text [] ∷ [])) ≡ false
pattern_2 = refl

-- ---- Terminals.

abbrev name : Terminal
name = in_form (120 ∷ [])

-- f'{ts}', and f'{x:ts}'
abbrev around : List Terminal → List Terminal
around ts = FormattedBegin ∷ FieldBegin By.None ∷ Op LPar ∷ (ts ++ (Op RPar ∷ FieldEnd ∷ FormattedEnd ∷ []))

abbrev in_spec : List Terminal → List Terminal
in_spec ts = FieldBegin By.None ∷ Op LPar ∷ name ∷ Op RPar ∷ SpecBegin ∷ (ts ++ (FieldEnd ∷ []))

abbrev passes : List Terminal → Bool
passes ts = all_pass (any_name Whole) [] ts

passes_1 : passes (around (around (name ∷ []))) ≡ true
passes_1 = refl

passes_2 : passes (around (around (around (name ∷ [])))) ≡ false
passes_2 = refl

passes_3 : passes (FormattedBegin ∷ (in_spec (in_spec (FormattedText (123 ∷ []) ∷ [])) ++ (FormattedEnd ∷ []))) ≡ true
passes_3 = refl

passes_4 : passes (FormattedBegin ∷ (in_spec (in_spec (in_spec [])) ++ (FormattedEnd ∷ []))) ≡ false
passes_4 = refl

passes_5 : passes (around (Literal (Str (97 ∷ []) false) ∷ [])) ≡ true
passes_5 = refl

passes_6 : passes (around (Literal (Str (39 ∷ []) false) ∷ [])) ≡ false
passes_6 = refl

passes_7 : passes (around (FormattedBegin ∷ (in_spec (FormattedText (123 ∷ []) ∷ []) ++ (FormattedEnd ∷ [])))) ≡ false
passes_7 = refl

-- parts of f-strings stand in one
passes_8 : passes (FormattedText [] ∷ []) ≡ false
passes_8 = refl
