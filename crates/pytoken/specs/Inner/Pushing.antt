-- What the code appends of an f-string, and what it tells of one with a fault.
use Rattle.std.specs.Prelude.{◌≡◌, Bool, true, false, List, map, ◌++◌, Option, Some, None, if◌then◌else◌}
use Rattle.std.specs.Option.{option_or}
use Rattle.std.specs.Str.{chars}
use Rattle.pyfstring.specs.declared.parts.CutError.{CutError}
use Rattle.pyfstring.specs.declared.parts.CutError.TheVariants as cut
use Rattle.pytoken.specs.declared.faults.TokenError.{TokenError}
use Rattle.pytoken.specs.declared.faults.TokenError.TheVariants as errors
use Rattle.pytoken.specs.declared.values.elements.Element.{Element}
use Rattle.pytoken.specs.declared.values.elements.Element.TheVariants.{Text, Field, Spec, End}
use Rattle.pytoken.specs.declared.values.terminals.TerminalFault.{TerminalFault}
use Rattle.pytoken.specs.declared.values.terminals.TerminalFault.TheVariants.{Token, Memory}
use Rattle.pytoken.specs.FormattedStrings as elements
use Rattle.pytoken.specs.TerminalOf.{text_part}

-- after some values stand further ones, which are these
abbrev pub Grows : {A B : Type 0} → (A → B) → List A → List A → List B → Type 0
Grows f old new more = map f new ≡ map f old ++ more

abbrev pub element_of : Element → elements.Element
element_of (Text piece) = elements.Text (text_part piece)
element_of (Field conversion text) = elements.Field conversion (chars text.now)
element_of Spec = elements.Spec
element_of End = elements.End

-- holds where a cut failed for another reason than memory
abbrev pub IfMalformed : CutError → Type 0 → Type 0
IfMalformed cut.Malformed P = P
IfMalformed cut.Memory P = Unit {0}

-- what the fault of a token in a field is told as
abbrev pub fault_around : TerminalFault → TerminalFault
fault_around (Token e) = Token errors.FString
fault_around Memory = Memory

-- it is told that the f-string around is malformed, for this reason, or that memory was wanting
abbrev pub TellsMalformed : Bool → TerminalFault → Type 0
TellsMalformed reason (Token e) = (e ≡ errors.FString) × (reason ≡ true)
TellsMalformed reason Memory = Unit {0}

abbrev pub is_named_fault : Option TokenError → Bool
is_named_fault o = elim o [ Some e ↦ elim e [ errors.NamedEscape ↦ true | _ ↦ false ] | None ↦ false ]

-- the first fault of the escapes in two texts, by those of each
abbrev pub first_escape_fault : Option TokenError → Option TokenError → Option TokenError
first_escape_fault fault other = if is_named_fault fault then fault else option_or other fault
