-- The pieces that an expression is written in: the types and texts of its tokens, and how close they keep to their neighbours.
use Rattle.std.specs.Prelude.{ℕ, ◌==◌, Bool, true, false, ◌||◌, if◌then◌else◌, List, [], ◌∷◌, ◌++◌, map, codes}
use Rattle.std.specs.List.{flat_map}
use Rattle.std.specs.Str.{all_scalars}
use Rattle.pynumber.specs.Decimals.{decimal_text}
use Rattle.pynumber.specs.FloatTexts.{float_source, imaginary_source}
use Rattle.pyfstring.specs.declared.parts.Conversion.{Conversion}
use Rattle.pyfstring.specs.declared.parts.Conversion.TheVariants as conversions
use Rattle.pyfstring.specs.Texts.{begins_with}
use Rattle.pysource.specs.Reprs.{repr_chars, repr_bytes, escaped, hex_escape, is_unprintable}
use Rattle.pylex_lexeme.specs.Characters.{colon, double_quote, left_curly_bracket, right_curly_bracket, single_quote, space}
use Rattle.pylex_lexeme.specs.Operators.{exact_text}
use Rattle.pylex_listing.specs.declared.kind.Kind.{Kind}
use Rattle.pylex_listing.specs.declared.kind.Kind.TheVariants as kinds
use Rattle.pytree_node.specs.Values.{Value, Int, Float, Imaginary, Str, Bytes}
use Rattle.pytree_node.specs.Trees.{Expr}
use Rattle.pytoken.specs.Keywords.{spelling_of}
use Rattle.pytoken.specs.Terminals.{Terminal, Op, Word, Ident, Number, Literal}
use Rattle.pygrammar.specs.declared.levels.Level.{Level}
use Rattle.pyunparse_text.specs.Spacing.{Piece, spaced}
use Rattle.pyunparse_text.specs.Written.{Maker, Element, Text, Field, Spec, End, written}

-- how a number is written: a whole one in decimal, a float as the shortest decimal that reads back as it, an imaginary one with a `j`
-- after it (2.4.4 to 2.4.7)
abbrev pub number_text : Value → List ℕ
number_text (Int n) = decimal_text n
number_text (Float x) = float_source x
number_text (Imaginary x) = imaginary_source x
number_text _ = []

-- ---- Literals. In a field of an f-string they are in double quotes, and their characters stand for themselves.

-- what stands in front of the quote of a text literal
abbrev pub prefix : Bool → List ℕ
prefix true = codes "u"
prefix false = []

-- how the value of one STRING is written: by its repr, a text of the kind u with `u` before it (2.4.1)
abbrev pub literal_text : Value → List ℕ
literal_text (Str points u) = prefix u ++ repr_chars points
literal_text (Bytes bytes) = repr_bytes bytes
literal_text _ = []

-- a character in a field; only a code point that is no character can't stand for itself
abbrev pub field_character : ℕ → List ℕ
field_character c = if all_scalars (c ∷ []) then c ∷ [] else escaped is_unprintable double_quote c

abbrev pub in_double_quotes : List ℕ → List ℕ
in_double_quotes t = double_quote ∷ (t ++ (double_quote ∷ []))

abbrev pub field_literal_text : Value → List ℕ
field_literal_text (Str points u) = prefix u ++ in_double_quotes (flat_map field_character points)
field_literal_text (Bytes bytes) = codes "b" ++ in_double_quotes bytes
field_literal_text _ = []

-- by whether it stands in a field
abbrev pub literal_text_in : Bool → Value → List ℕ
literal_text_in false v = literal_text v
literal_text_in true v = field_literal_text v

-- ---- Tokens.

-- the type of the token that a terminal is written as; no layout is written so, and none of what an f-string is to the grammar
abbrev pub kind_of : Terminal → Kind
kind_of (Op x) = kinds.Op
kind_of (Word k) = kinds.Name
kind_of (Ident x) = kinds.Name
kind_of (Number v) = kinds.Number
kind_of (Literal v) = kinds.String
kind_of _ = kinds.Newline

-- and its text, by whether it stands in a field
abbrev pub text_of : Terminal → Bool → List ℕ
text_of (Op x) is_in_field = exact_text x
text_of (Word k) is_in_field = spelling_of k
text_of (Ident x) is_in_field = x.spelling
text_of (Number v) is_in_field = number_text v
text_of (Literal v) is_in_field = literal_text_in is_in_field v
text_of _ is_in_field = []

-- a token, by whether it stands in a field of an f-string
abbrev pub Sited : Type 0
Sited = Bool → Piece

abbrev pub sited : Terminal → Bool → Bool → Sited
sited t before following is_in_field = record { kind = kind_of t; text = text_of t is_in_field; before = before; following = following }

-- tokens in a field, and elsewhere
abbrev pub in_field : List Sited → List Piece
in_field ps = map (λ p. p true) ps

abbrev pub outside : List Sited → List Piece
outside ps = map (λ p. p false) ps

-- ---- F-strings: by whether they stand in a field themselves.

abbrev pub is_brace : ℕ → Bool
is_brace c = c == left_curly_bracket || c == right_curly_bracket

-- a brace of a text: two in its place, or in a format spec an escape
abbrev pub brace_text : Bool → ℕ → List ℕ
brace_text false c = c ∷ (c ∷ [])
brace_text true c = hex_escape c

-- a character that is none
abbrev pub plain_text : Bool → ℕ → List ℕ
plain_text false c = escaped is_unprintable single_quote c
plain_text true c = field_character c

-- a character of a text, by whether that is one of a format spec too
abbrev pub character_text : Bool → Bool → ℕ → List ℕ
character_text is_in_field in_spec c = if is_brace c then brace_text in_spec c else plain_text is_in_field c

abbrev pub conversion_text : Conversion → List ℕ
conversion_text conversions.None = []
conversion_text conversions.Str = codes "!s"
conversion_text conversions.Repr = codes "!r"
conversion_text conversions.Ascii = codes "!a"

-- a blank parts the brace of a field from one that its expression begins with
abbrev pub field_text : List Piece → List ℕ
field_text [] = left_curly_bracket ∷ []
field_text (p ∷ ps) = left_curly_bracket ∷ ((if begins_with left_curly_bracket p.text then space ∷ [] else []) ++ spaced (p ∷ ps))

abbrev pub element_text : Bool → Element Sited → List ℕ
element_text is_in_field (Text in_spec t) = flat_map (character_text is_in_field in_spec) t
element_text is_in_field (Field c ps) = field_text (in_field ps) ++ conversion_text c
element_text is_in_field Spec = colon ∷ []
element_text is_in_field End = right_curly_bracket ∷ []

abbrev pub quote : Bool → ℕ
quote false = single_quote
quote true = double_quote

-- up to the quote that it ends with
abbrev pub open_text : Bool → List (Element Sited) → List ℕ
open_text is_in_field es = codes "f" ++ (quote is_in_field ∷ flat_map (element_text is_in_field) es)

abbrev pub formatted_text : Bool → List (Element Sited) → List ℕ
formatted_text is_in_field es = open_text is_in_field es ++ (quote is_in_field ∷ [])

-- an f-string is one token
abbrev pub sited_string : List (Element Sited) → Sited
sited_string es is_in_field = record { kind = kinds.String; text = formatted_text is_in_field es; before = false; following = false }

abbrev pub piece : Maker Sited
piece = record { token = sited; formatted = λ es. sited_string es ∷ [] }

-- the pieces of an expression
abbrev pub pieces : Level → Expr → List Sited
pieces l e = written piece l e
