-- The line of an entry, as `python -m tokenize` prints it (library reference, `tokenize`, command-line usage).
use Rattle.std.specs.Prelude.{ℕ, ◌-◌, Bool, List, ◌++◌, codes, length, replicate, if◌then◌else◌, decimal, Some, None}
use Rattle.std.specs.Str.{chars}
use Rattle.std.specs.Prelude.{slice_range}
use Rattle.pysource.specs.Parts.{Parts}
use Rattle.pysource.specs.Reprs.{repr_text}
use Rattle.pysource.specs.declared.places.Place.{Place}
use Rattle.pylex_listing.specs.declared.entries.Entry.{Entry}
use Rattle.pylex_listing.specs.declared.kind.Kind.{Kind}
use Rattle.pylex_listing.specs.declared.kind.Kind.TheVariants.{Encoding, Name, Number, String, Op, Comment, Nl, Newline, Indent, Dedent}
use Rattle.pylex_listing.specs.declared.kind.Kind.TheVariants.{EndMarker}
use Rattle.pylex_lexeme.specs.Operators.{exact_name}
use Rattle.pylex_lexeme.specs.Characters.{space}

-- the name of a type of tokens
abbrev pub kind_name : Kind → List ℕ
kind_name Encoding = codes "ENCODING"
kind_name Name = codes "NAME"
kind_name Number = codes "NUMBER"
kind_name String = codes "STRING"
kind_name Op = codes "OP"
kind_name Comment = codes "COMMENT"
kind_name Nl = codes "NL"
kind_name Newline = codes "NEWLINE"
kind_name Indent = codes "INDENT"
kind_name Dedent = codes "DEDENT"
kind_name EndMarker = codes "ENDMARKER"

-- the name shown for an entry: its type's, or where exact names are asked for, an operator's own
abbrev pub shown_name : Bool → Entry → List ℕ
shown_name exact e = if exact then elim e.exact [ Some x ↦ exact_name x | None ↦ kind_name e.kind ] else kind_name e.kind

-- filled with blanks up to a width in characters; nothing is cut off
abbrev pub filled : ℕ → List ℕ → List ℕ
filled width t = t ++ replicate (width - length (chars t)) space

-- `ROW,COLUMN`
abbrev pub shown_place : Place → List ℕ
shown_place p = decimal p.row ++ codes "," ++ decimal p.column

-- `ROW,COLUMN-ROW,COLUMN:`
abbrev pub shown_range : Entry → List ℕ
shown_range e = shown_place e.start ++ codes "-" ++ shown_place e.end ++ codes ":"

-- the line of an entry with this text (its bytes)
abbrev pub listing_line : Bool → Entry → List ℕ → List ℕ
listing_line exact e text = filled 20 (shown_range e) ++ filled 15 (shown_name exact e) ++ filled 15 (repr_text (chars text)) ++ codes "\n"

-- the text of an entry of a source: the encoding's name, or what stands between its offsets
abbrev pub text_of : Parts → Entry → List ℕ
text_of p e = elim e.kind [ Encoding ↦ p.encoding.name | _ ↦ slice_range p.text e.«from» e.to ]
