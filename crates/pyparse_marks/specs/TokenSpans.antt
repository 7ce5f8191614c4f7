-- Where the terminals of a token stand, one span for each.
--
-- A token but an f-string is one terminal. Of an f-string the terminals of its fields' expressions have their own bytes; its begin and end,
-- its texts, and the begins and ends of its fields and their specs have those of the whole token, as in Python 3.11 all these nodes have.
-- An expression is read in round brackets: the first stands for the field's brace, the second for the byte after the expression.
use Rattle.std.specs.Prelude.{ℕ, ◌+◌, ◌-◌, Bool, true, false, ◌==◌, List, [], ◌∷◌, ◌++◌, drop, slice_index_or, Option, Some, None}
use Rattle.std.specs.Prelude.{if◌then◌else◌}
use Rattle.std.specs.Str.{encode_utf8_all}
use Rattle.pylex_lexeme.specs.Chars.{bytes_in}
use Rattle.pylex_lexeme.specs.Lexemes.{Lexeme, cut}
use Rattle.pylex_listing.specs.declared.kind.Kind.{Kind}
use Rattle.pylex_listing.specs.EntryKinds.{kind_of}
use Rattle.pyfstring.specs.Characters.{exclamation_mark}
use Rattle.pyfstring.specs.Parts.{Part, text, field, SpecPart, BodyPart}
use Rattle.pyfstring.specs.Cutting.{cut_of}
use Rattle.pyfstring_tokens.specs.FieldTokens.{is_gap}
use Rattle.pytoken.specs.StringValues.{with_line_feeds, is_raw, after_opening, body_of}
use Rattle.pytoken.specs.FormattedStrings.{is_fstring}
use Rattle.pyparse_marks.specs.Spans.{Span, span}

-- ---- Going over the source.

-- where one stands who goes over the terminals of a token: the byte, and the spans of the terminals so far
pub record Walk : Type 0 where
  pub at : ℕ
  pub spans : List Span

-- with one terminal more, of this span
abbrev pub put : Span → Walk → Walk
put s w = record { at = w.at; spans = w.spans ++ s ∷ [] }

-- so many bytes further on
abbrev pub further : ℕ → Walk → Walk
further n w = record { at = w.at + n; spans = w.spans }

-- at this byte
abbrev pub moved : ℕ → Walk → Walk
moved n w = record { at = n; spans = w.spans }

-- past a terminal that the next bytes are, so many
abbrev pub over : ℕ → Walk → Walk
over n w = record { at = w.at + n; spans = w.spans ++ span w.at (w.at + n) ∷ [] }

-- past the items of a list, one after another
abbrev pub past_each : {X : Type 0} → (X → Walk → Walk) → List X → Walk → Walk
past_each step [] w = w
past_each step (x ∷ xs) w = past_each step xs (step x w)

-- past a token that is one terminal
abbrev pub past_single : Kind → List ℕ → Walk → Walk
past_single k t w = over (bytes_in t) w

-- ---- The expression of a field. `token` goes past a token of it.

-- blanks, line ends and joins are no tokens
abbrev pub past_lexeme : (Kind → List ℕ → Walk → Walk) → Lexeme → Walk → Walk
past_lexeme token x w = if is_gap x.«class» then further (bytes_in x.text) w else token (kind_of x.«class» true) x.text w

-- from the field's brace on
unfoldable pub past_expression : (Kind → List ℕ → Walk → Walk) → List ℕ → Walk → Walk
past_expression token t w = over 1 (past_each (past_lexeme token) (cut t) (over 1 w))

-- ---- The parts of an f-string. `expression` goes past the expression of a field.

-- what an f-string is: its bytes, the byte at which it begins, and its span
pub record Around : Type 0 where
  pub bytes : List ℕ
  pub start : ℕ
  pub whole : Span

abbrev pub past_text : Around → List ℕ → Walk → Walk
past_text a t w = further (bytes_in t) (put a.whole w)

-- what `=` keeps of a field is a text in front of it, and stands where the field does
abbrev pub with_kept : Around → Option (List ℕ) → Walk → Walk
with_kept a None w = w
with_kept a (Some k) w = put a.whole w

-- the bytes of a field between its "{" and its "!", ":" or "}"
abbrev pub source_len : List ℕ → Option (List ℕ) → ℕ
source_len t None = bytes_in t
source_len t (Some k) = bytes_in k

-- "!" stands here
abbrev pub is_conversion : Around → Walk → Bool
is_conversion a w = slice_index_or a.bytes (w.at - a.start) 0 == exclamation_mark

-- ["!" conversion]
abbrev pub past_conversion : Around → Walk → Walk
past_conversion a w = if is_conversion a w then further 2 w else w

-- "{" f_expression ["="] ["!" conversion]
abbrev pub past_front : (List ℕ → Walk → Walk) → Around → Option (List ℕ) → List ℕ → Walk → Walk
past_front expression a kept t w =
    past_conversion a (moved (w.at + 1 + source_len t kept) (expression t (put a.whole (with_kept a kept w))))

-- [":" format_spec]
abbrev pub past_spec : {S : Type 0} → (S → Walk → Walk) → Around → Option S → Walk → Walk
past_spec spec a None w = w
past_spec spec a (Some s) w = spec s (further 1 (put a.whole w))

-- replacement_field ::= "{" f_expression ["="] ["!" conversion] [":" format_spec] "}"
abbrev pub past_part : {S : Type 0} → (List ℕ → Walk → Walk) → (S → Walk → Walk) → Around → Part S → Walk → Walk
past_part expression spec a (text t) w = past_text a t w
past_part expression spec a (field f) w = further 1 (put a.whole (past_spec spec a f.spec (past_front expression a f.kept f.text w)))

-- format_spec ::= (literal_char | replacement_field)*
abbrev pub past_spec_parts : (List ℕ → Walk → Walk) → Around → List SpecPart → Walk → Walk
past_spec_parts expression a ps w = past_each (past_part expression (past_text a) a) ps w

-- f_string ::= (literal_char | "{{" | "}}" | replacement_field)*
abbrev pub past_body_parts : (List ℕ → Walk → Walk) → Around → List BodyPart → Walk → Walk
past_body_parts expression a ps w = past_each (past_part expression (past_spec_parts expression a) a) ps w

-- ---- Tokens.

-- the bytes of a literal's prefix and its first quotes
abbrev pub opening_len : List ℕ → ℕ
opening_len t = bytes_in t - bytes_in (after_opening t)

-- an f-string that begins here
abbrev pub around : List ℕ → Walk → Around
around t w = record { bytes = encode_utf8_all t; start = w.at; whole = span w.at (w.at + bytes_in t) }

-- one that is malformed is no terminal
abbrev pub past_cut : (List ℕ → Walk → Walk) → Around → ℕ → Option (List BodyPart) → Walk → Walk
past_cut expression a opening None w = w
past_cut expression a opening (Some ps) w = put a.whole (past_body_parts expression a ps (further opening (put a.whole w)))

-- its cut, by whether it stands in a field itself
abbrev pub parts_of : Bool → List ℕ → Option (List BodyPart)
parts_of is_nested t = cut_of (record { is_raw = is_raw (with_line_feeds t); is_nested = is_nested }) (body_of t)

unfoldable pub past_formatted : Bool → (Kind → List ℕ → Walk → Walk) → List ℕ → Walk → Walk
past_formatted is_nested token t w =
    moved (w.at + bytes_in t) (past_cut (past_expression token) (around t w) (opening_len t) (parts_of is_nested t) w)

-- a token of this type and text, where `token` goes past those of the fields of an f-string
abbrev pub past_token_by : Bool → (Kind → List ℕ → Walk → Walk) → Kind → List ℕ → Walk → Walk
past_token_by is_nested token k t w = if is_fstring k t then past_formatted is_nested token t w else past_single k t w

-- In a field an f-string has no STRING in its own fields, so each token there is one terminal.
abbrev pub past_nested : Kind → List ℕ → Walk → Walk
past_nested = past_token_by true past_single

abbrev pub past_token : Kind → List ℕ → Walk → Walk
past_token = past_token_by false past_nested

-- the spans of the terminals of a token that begins at a byte
unfoldable pub token_spans : ℕ → Kind → List ℕ → List Span
token_spans at k t = (past_token k t (record { at = at; spans = [] })).spans
