-- What the grammar reads of a token, and the fault that a token may be by itself.
use Rattle.std.specs.Prelude.{◌≡◌, ℕ, Bool, true, false, List, [], ◌∷◌, ◌++◌, Option, Some, None, if◌then◌else◌}
use Rattle.std.specs.List.{flat_map}
use Rattle.std.specs.Str.{encode_utf8_all}
use Rattle.unicode_normalization.specs.Forms.{nfkc}
use Rattle.pylex_lexeme.specs.declared.kinds.Exact.{Exact}
use Rattle.pylex_lexeme.specs.Numbers.{is_number}
use Rattle.pylex_lexeme.specs.Strings.{is_string}
use Rattle.pylex_lexeme.specs.Operators.{exact_of, is_operator}
use Rattle.pylex_lexeme.specs.Lexemes.{is_name}
use Rattle.pylex_listing.specs.declared.kind.Kind.{Kind}
use Rattle.pylex_listing.specs.declared.kind.Kind.TheVariants as kinds
use Rattle.pyfstring.specs.declared.parts.Conversion.{Conversion}
use Rattle.pyfstring_tokens.specs.FieldTokens.{field_tokens}
use Rattle.pytree_node.specs.Values.{Value, Int}
use Rattle.pytree_node.specs.declared.profiles.Extent.{Extent}
use Rattle.pytree_node.specs.declared.profiles.Extent.TheVariants.{Plain, Whole}
use Rattle.pytoken.specs.declared.keywords.Keyword.{Keyword}
use Rattle.pytoken.specs.declared.faults.TokenError.{TokenError}
use Rattle.pytoken.specs.declared.faults.TokenError.TheVariants.{FString}
use Rattle.pytoken.specs.Keywords.{keyword_of}
use Rattle.pytoken.specs.NumberValues.{number_value, number_fault}
use Rattle.pytoken.specs.StringValues.{string_value, string_fault, nul_fault}
use Rattle.pytoken.specs.NameValues.{name_fault}
use Rattle.pytoken.specs.FormattedStrings.{Element, Text, Field, Spec, End, text_points, is_fstring, is_bulky, elements_of, elements_fault}
use Rattle.pytoken.specs.FormattedStrings.{is_faulty_by}

-- a name as it stands in a source: its characters, and its form NFKC, which is the name that it stands for
pub record Spelled : Type 0 where
  pub spelling : List ℕ
  pub form : List ℕ

pub data Terminal : Type 0 where
  Op : Exact → Terminal
  Word : Keyword → Terminal
  Ident : Spelled → Terminal  -- a NAME that is no keyword
  Number : Value → Terminal  -- the value of a NUMBER: Int, Float or Imaginary
  Literal : Value → Terminal  -- the value of one STRING that is no f-string: Str with its kind, or Bytes
  -- an f-string is several terminals, as in the grammar of Python 3.12: its ends; texts; fields, each with the terminals of its expression
  -- in
  -- round brackets, and perhaps with the texts and fields of its format spec
  FormattedBegin : Terminal
  FormattedEnd : Terminal
  FormattedText : List ℕ → Terminal  -- a text in it, or what `=` keeps of a field
  FieldBegin : Conversion → Terminal
  SpecBegin : Terminal
  FieldEnd : Terminal
  Layout : Terminal  -- NEWLINE, INDENT, DEDENT, ENDMARKER

-- what a token of this type and text is that is a single terminal, as all are but f-strings
unfoldable pub terminal_of : Kind → List ℕ → Terminal
terminal_of k t = elim k [
  | kinds.Name ↦ elim (keyword_of t) [ Some w ↦ Word w | None ↦ Ident (record { spelling = t; form = nfkc t }) ]
  | kinds.Number ↦ Number (number_value (encode_utf8_all t))
  | kinds.String ↦ Literal (string_value t)
  | kinds.Op ↦ elim (exact_of t) [ Some e ↦ Op e | None ↦ Layout ]
  | _ ↦ Layout
]

-- a whole number
abbrev pub whole : ℕ → Terminal
whole n = Number (Int n)

-- a name that is spelled in its form
abbrev pub in_form : List ℕ → Terminal
in_form x = Ident (record { spelling = x; form = x })

-- why an entry of this type and text is no single terminal in an extent of the language, an f-string being none; a number is ASCII, so its
-- characters are
-- its bytes
unfoldable pub single_fault : Extent → Kind → List ℕ → Option TokenError
single_fault extent k t = elim k [
  | kinds.Name ↦ name_fault t
  | kinds.Number ↦ number_fault extent (encode_utf8_all t)
  | kinds.String ↦ string_fault t
  | kinds.Comment ↦ nul_fault t
  | _ ↦ None
]

-- ---- F-strings. Fields stand two deep at most: in a field, f-strings stand without quotes in their bodies, and so without STRINGs in
-- their fields.

-- an element, where the expression of a field is these terminals
abbrev pub element_terminals : (List ℕ → List Terminal) → Element → List Terminal
element_terminals expression (Text p) = FormattedText (text_points p) ∷ []
element_terminals expression (Field c t) = FieldBegin c ∷ expression t
element_terminals expression Spec = SpecBegin ∷ []
element_terminals expression End = FieldEnd ∷ []

abbrev pub elements_terminals : (List ℕ → List Terminal) → Option (List Element) → List Terminal
elements_terminals expression None = []
elements_terminals expression (Some es) = FormattedBegin ∷ (flat_map (element_terminals expression) es ++ FormattedEnd ∷ [])

-- what a token is, and its fault in the whole language, where the expressions of an f-string are these, and a test says which of them are
-- faulty
unfoldable pub terminals_by : Bool → (List ℕ → List Terminal) → Kind → List ℕ → List Terminal
terminals_by is_nested expression k t = if is_fstring k t then elements_terminals expression (elements_of is_nested t)
    else terminal_of k t ∷ []

unfoldable pub fault_by : Bool → (List ℕ → Bool) → Kind → List ℕ → Option TokenError
fault_by is_nested is_faulty k t = if is_fstring k t then elements_fault is_faulty t (elements_of is_nested t) else single_fault Whole k t

-- an expression of an f-string that stands in a field itself
unfoldable pub nested_expression : List ℕ → List Terminal
nested_expression t = flat_map (λ x. terminal_of x.kind x.text ∷ []) (field_tokens t)

abbrev pub is_nested_faulty : List ℕ → Bool
is_nested_faulty = is_faulty_by (single_fault Whole)

-- a token of an expression of an f-string that doesn't; a STRING there has no quote and no line feed in its body
abbrev pub field_fault : Kind → List ℕ → Option TokenError
field_fault k t = if is_bulky k t then Some FString else fault_by true is_nested_faulty k t

unfoldable pub expression : List ℕ → List Terminal
expression t = flat_map (λ x. terminals_by true nested_expression x.kind x.text) (field_tokens t)

abbrev pub is_faulty : List ℕ → Bool
is_faulty = is_faulty_by field_fault

-- what a token of this type and text is; one with a fault of its own may be anything
abbrev pub terminals_of : Kind → List ℕ → List Terminal
terminals_of = terminals_by false expression

-- the fault of an entry of this type and text in an extent of the language
unfoldable pub fault_of : Extent → Kind → List ℕ → Option TokenError
fault_of Plain k t = single_fault Plain k t
fault_of Whole k t = fault_by false is_faulty k t

-- the text of a NAME, NUMBER, STRING or OP is of the class of lexemes with that name
abbrev pub is_of : Kind → List ℕ → Bool
is_of k t = elim k [
  | kinds.Name ↦ is_name t
  | kinds.Number ↦ is_number t
  | kinds.String ↦ is_string t
  | kinds.Op ↦ is_operator t
  | _ ↦ true
]

-- A token that is what its type says, and has no fault in the whole language: what laws about lists of tokens speak of. Without that `1 2`
-- could be a name.
pub record IsSound (k : Kind) (t : List ℕ) : Type 0 where
  pub of_kind : is_of k t ≡ true
  pub faultless : fault_of Whole k t ≡ None

-- a token of this type and text is this one terminal, and has no fault by itself
pub record Gives (k : Kind) (t : List ℕ) (x : Terminal) : Type 0 where
  pub single : is_fstring k t ≡ false
  pub terminal : terminal_of k t ≡ x
  pub sound : IsSound k t
