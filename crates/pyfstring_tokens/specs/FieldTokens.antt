-- The tokens of the expression in a replacement field: those of its text in parentheses.
--
-- Reference 2.4.3: "Expressions in formatted string literals are treated like regular Python expressions surrounded by parentheses".
use Rattle.std.specs.Prelude.{ℕ, ◌+◌, ◌-◌, Bool, true, false, ◌&&◌, ◌||◌, ◌==◌, List, [], ◌∷◌, ◌++◌, drop, slice_range, if◌then◌else◌}
use Rattle.std.specs.Prelude.{codes, Option, Some, None, is_some}
use Rattle.std.specs.List.{list_any}
use Rattle.std.specs.Str.{chars, encode_utf8_all}
use Rattle.pylex_lexeme.specs.declared.kinds.Exact.{Exact}
use Rattle.pylex_lexeme.specs.declared.kinds.Exact.TheVariants.{LPar, RPar}
use Rattle.pylex_lexeme.specs.declared.lexeme.Class.{Class}
use Rattle.pylex_lexeme.specs.declared.lexeme.Class.TheVariants.{Comment, Blanks, LineEnd, Join}
use Rattle.pylex_lexeme.specs.Characters.{left_parenthesis, right_parenthesis}
use Rattle.pylex_lexeme.specs.Lexemes.{Lexeme, cut}
use Rattle.pylex_listing.specs.declared.kind.Kind.{Kind}
use Rattle.pylex_listing.specs.declared.kind.Kind.TheVariants as kinds
use Rattle.pylex_listing.specs.declared.entries.Entry.{Entry}
use Rattle.pylex_listing.specs.Lines.{opens, closes, count_if}
use Rattle.pylex_listing.specs.Listing.{Source, listing}
use Rattle.pylex_listing.specs.Steps.{entries_of, fault_of}

-- a text in parentheses
abbrev pub parenthesized : List ℕ → List ℕ
parenthesized text = left_parenthesis ∷ (text ++ right_parenthesis ∷ [])

-- and as a source
abbrev pub field_source : List ℕ → Source
field_source text = record { encoding = codes "utf-8"; text = parenthesized text; fault = None }

-- a token: its type, the operator that it is, and its text
pub record FieldToken : Type 0 where
  pub kind : Kind
  pub exact : Option Exact
  pub text : List ℕ

-- the types of what an expression has
abbrev pub is_token_kind : Kind → Bool
is_token_kind k = elim k [
  | kinds.Name ↦ true
  | kinds.Number ↦ true
  | kinds.String ↦ true
  | kinds.Op ↦ true
  | _ ↦ false
]

-- the token of an entry: its text stands between its offsets
abbrev pub token_of : List ℕ → Entry → FieldToken
token_of text e = record { kind = e.kind; exact = e.exact; text = chars (slice_range (encode_utf8_all text) e.«from» e.to) }

-- the tokens among some entries; ENCODING, NL, NEWLINE, COMMENT and ENDMARKER are none
abbrev pub tokens_among : List ℕ → List Entry → List FieldToken
tokens_among text [] = []
tokens_among text (e ∷ es) = if is_token_kind e.kind then token_of text e ∷ tokens_among text es else tokens_among text es

-- the tokens of a field's text, the parentheses around it included
unfoldable pub field_tokens : List ℕ → List FieldToken
field_tokens text = tokens_among (parenthesized text) (entries_of (listing (field_source text)))

-- those after the first parenthesis and n more
abbrev pub tokens_ahead : List ℕ → ℕ → List FieldToken
tokens_ahead text n = drop (n + 1) (field_tokens text)

-- a text in parentheses doesn't come to the end of its listing
unfoldable pub has_fault : List ℕ → Bool
has_fault text = is_some (fault_of (listing (field_source text)))

abbrev pub opening : FieldToken
opening = record { kind = kinds.Op; exact = Some LPar; text = left_parenthesis ∷ [] }

abbrev pub closing : FieldToken
closing = record { kind = kinds.Op; exact = Some RPar; text = right_parenthesis ∷ [] }

-- among lexemes before which so many brackets are open, one closes a bracket where none is open
abbrev pub closes_none : ℕ → List Lexeme → Bool
closes_none depth [] = false
closes_none depth (x ∷ xs) = (closes x && (depth == 0)) || closes_none (depth + count_if (opens x) - count_if (closes x)) xs

-- a closing bracket stands in a text where none of the text's own is open, and so closes what is around it
unfoldable pub closes_outer : List ℕ → Bool
closes_outer text = closes_none 0 (cut text)

-- what may stand between tokens
abbrev pub is_gap : Class → Bool
is_gap k = elim k [ Blanks ↦ true | LineEnd ↦ true | Join ↦ true | _ ↦ false ]

abbrev pub is_comment_class : Class → Bool
is_comment_class k = elim k [ Comment ↦ true | _ ↦ false ]

abbrev pub is_of_comment : Lexeme → Bool
is_of_comment x = is_comment_class x.«class»

-- a comment stands in a text
unfoldable pub has_comment : List ℕ → Bool
has_comment text = list_any is_of_comment (cut text)
