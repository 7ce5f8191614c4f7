-- What a terminal of the code is to the grammar, and what is reported of a token that is none.
use Rattle.std.specs.Prelude.{◌≡◌, ℕ, List, Option, Some, None}
use Rattle.std.specs.Str.{chars}
use Rattle.unicode_normalization.specs.Forms.{nfkc}
use Rattle.pytoken.specs.declared.faults.TokenError.{TokenError}
use Rattle.pytoken.specs.Keywords.{keyword_of}
use Rattle.pytoken.specs.NumberValues.{number_value}
use Rattle.pytoken.specs.StringValues.{string_value}
use Rattle.pytoken.specs.FormattedStrings.{TextPart, text_points}
use Rattle.pytoken.specs.Terminals
use Rattle.pytoken.specs.declared.values.literal_text.LiteralText.{LiteralText}
use Rattle.pytoken.specs.declared.values.number_text.NumberText.{NumberText}
use Rattle.pytoken.specs.declared.values.text_pieces.TextPiece.{TextPiece}
use Rattle.pytoken.specs.declared.values.terminals.Terminal.{Terminal}
use Rattle.pytoken.specs.declared.values.terminals.Terminal.TheVariants.{Op, Word, Ident, Whole, Number, Literal, FormattedBegin}
use Rattle.pytoken.specs.declared.values.terminals.Terminal.TheVariants.{FormattedEnd, FormattedText, FieldBegin, SpecBegin, FieldEnd}
use Rattle.pytoken.specs.declared.values.terminals.Terminal.TheVariants.{Layout}
use Rattle.pytoken.specs.declared.values.terminals.TerminalFault.{TerminalFault}
use Rattle.pytoken.specs.declared.values.terminals.TerminalFault.TheVariants.{Token, Memory}

-- the characters of a literal
abbrev pub literal_characters : LiteralText → List ℕ
literal_characters l = chars l.text.now

-- the bytes of a number
abbrev pub number_bytes : NumberText → List ℕ
number_bytes n = n.text.now

-- a text of an f-string
abbrev pub text_part : TextPiece → TextPart
text_part p = record { is_raw = p.is_raw; has_pairs = p.has_pairs; source = chars p.text.now }

-- what a terminal is: a name is its spelling and its form NFKC, a literal its value, a text of an f-string its points
abbrev pub terminal : Terminal → Terminals.Terminal
terminal (Op exact) = Terminals.Op exact
terminal (Word word) = Terminals.Word word
terminal (Ident text) = Terminals.Ident (record { spelling = chars text.now; form = nfkc (chars text.now) })
terminal (Whole value) = Terminals.whole value
terminal (Number n) = Terminals.Number (number_value (number_bytes n))
terminal (Literal l) = Terminals.Literal (string_value (literal_characters l))
terminal FormattedBegin = Terminals.FormattedBegin
terminal FormattedEnd = Terminals.FormattedEnd
terminal (FormattedText p) = Terminals.FormattedText (text_points (text_part p))
terminal (FieldBegin conversion) = Terminals.FieldBegin conversion
terminal SpecBegin = Terminals.SpecBegin
terminal FieldEnd = Terminals.FieldEnd
terminal Layout = Terminals.Layout

-- what the texts of a NAME and a STRING are, and a NUMBER by its bytes
abbrev pub named : List ℕ → Terminals.Terminal
named t = elim (keyword_of t) [ Some w ↦ Terminals.Word w | None ↦ Terminals.Ident (record { spelling = t; form = nfkc t }) ]

abbrev pub numbered : List ℕ → Terminals.Terminal
numbered bytes = Terminals.Number (number_value bytes)

abbrev pub quoted : List ℕ → Terminals.Terminal
quoted t = Terminals.Literal (string_value t)

-- a fault is the one of the token, or memory was wanting, as it may be at any point
abbrev pub Tells : Option TokenError → TerminalFault → Type 0
Tells fault (Token e) = fault ≡ Some e
Tells fault Memory = Unit {0}
