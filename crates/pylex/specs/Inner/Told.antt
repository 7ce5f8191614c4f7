-- What the class of a lexeme says of the places in its text.
use Rattle.std.specs.Prelude.{◌≡◌, ℕ, ◌+◌, Bool, true, false, List, length}
use Rattle.std.specs.Str.{chars}
use Rattle.pysource.specs.declared.places.Place.{Place}
use Rattle.pylex_lexeme.specs.declared.lexeme.Class.{Class}
use Rattle.pylex_lexeme.specs.declared.lexeme.Class.TheVariants.{Name, Number, String, Operator, Comment, Blanks, LineEnd, Join}
use Rattle.pylex_listing.specs.declared.leading_char.LeadingChar.{LeadingChar}
use Rattle.pylex_listing.specs.declared.leading_char.LeadingChar.TheVariants.{Nothing}
use Rattle.pylex.specs.declared.entries.Emitted.TheVariants as gives
use Rattle.pylex_listing.specs.declared.entries.Entry.{Entry}
use Rattle.pylex_listing.specs.declared.kind.Kind.{Kind}
use Rattle.pylex_listing.specs.declared.kind.Kind.TheVariants as kinds
use Rattle.pylex.specs.declared.line_state.LineState.{LineState}
use Rattle.pylex_listing.specs.Machine.{place_past, lead_after, begun_by, after, entry_by}
use Rattle.pylex.specs.LineState.{with_levels, given}

-- each byte is a character of one line
abbrev pub GoesOn : List ℕ → Type 0
GoesOn bs = (p : Place) → place_past p (chars bs) ≡ record { row = p.row; column = p.column + length bs }

-- a line ends with it
abbrev pub EndsRow : List ℕ → Type 0
EndsRow bs = (p : Place) → place_past p (chars bs) ≡ record { row = p.row + 1; column = 0 }

-- what is known without a look at the text
abbrev pub Tells : Class → List ℕ → Type 0
Tells Name bs = Unit {0}
Tells Number bs = Unit {0}
Tells String bs = Unit {0}
Tells Comment bs = Unit {0}
Tells (Operator o) bs = GoesOn bs × ((f : LeadingChar) → lead_after f (chars bs) ≡ begun_by f)
Tells Blanks bs = GoesOn bs × ((f : LeadingChar) → lead_after f (chars bs) ≡ f)
Tells LineEnd bs = EndsRow bs × ((f : LeadingChar) → lead_after f (chars bs) ≡ Nothing) × (length (chars bs) ≡ length bs)
Tells Join bs = EndsRow bs × ((f : LeadingChar) → lead_after f (chars bs) ≡ Nothing)

-- a lexeme that is given as it stands, operators aside
abbrev pub is_text : Class → Bool
is_text k = elim k [ Name ↦ true | Number ↦ true | String ↦ true | Comment ↦ true | _ ↦ false ]

-- and the type of its entry
abbrev pub text_kind : Class → Kind
text_kind k = elim k [ Name ↦ kinds.Name | Number ↦ kinds.Number | String ↦ kinds.String | _ ↦ kinds.Comment ]

-- one state is another after a lexeme, whatever levels are open
abbrev pub Passed : LineState → Class → List ℕ → LineState → Type 0
Passed p k t q = (levels : List ℕ) → with_levels q levels ≡ after (with_levels p levels) (record { «class» = k; text = t })

-- and the lexeme gives an entry
abbrev pub GivesEntry : LineState → Class → List ℕ → Entry → Type 0
GivesEntry p k t e = (levels : List ℕ) → entry_by (with_levels p levels) (record { «class» = k; text = t }) ≡ given (gives.Entry e)
