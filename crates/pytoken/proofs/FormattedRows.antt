-- Worked f-strings, by computation: what they are, and their faults.
--
-- Carries: no contract; its rows are computed as it is checked. On: Computing.
use Rattle.std.proofs.Common.{◌≡◌, ℕ, List, [], ◌∷◌, refl, Option, Some, None}
use Rattle.std.specs.Prelude.{codes}
use Rattle.pylex_lexeme.specs.declared.kinds.Exact.TheVariants.{LPar, RPar}
use Rattle.pylex_listing.specs.declared.kind.Kind.TheVariants as kinds
use Rattle.pyfstring.specs.declared.parts.Conversion.TheVariants.{None as Unconverted, Str, Repr}
use Rattle.pytree_node.specs.declared.profiles.Extent.TheVariants.{Plain, Whole}
use Rattle.pytoken.specs.declared.faults.TokenError.{TokenError}
use Rattle.pytoken.specs.declared.faults.TokenError.TheVariants as errors
use Rattle.pytoken.specs.Terminals.{Op, in_form, FormattedBegin, FormattedEnd, FormattedText, FieldBegin, SpecBegin, FieldEnd}
use Rattle.pytoken.specs.Terminals.{terminals_of, fault_of}
use Rattle.pytoken.proofs.Computing.{formatted}

-- f''
empty : terminals_of kinds.String (codes "f''") ≡ FormattedBegin ∷ FormattedText [] ∷ FormattedEnd ∷ []
unfolding formatted
empty = refl

-- f'a{{b'
doubled : terminals_of kinds.String (codes "f'a{{b'") ≡ FormattedBegin ∷ FormattedText (codes "a{b") ∷ FormattedEnd ∷ []
unfolding formatted
doubled = refl

-- f'{x!s}'
converted : terminals_of kinds.String (codes "f'{x!s}'")
    ≡ FormattedBegin ∷ FormattedText [] ∷ FieldBegin Str ∷ Op LPar ∷ in_form (codes "x") ∷ Op RPar ∷ FieldEnd ∷
    FormattedText [] ∷ FormattedEnd ∷ []
unfolding formatted
converted = refl

-- f'{x=}'
kept : terminals_of kinds.String (codes "f'{x=}'")
    ≡ FormattedBegin ∷ FormattedText [] ∷ FormattedText (codes "x=") ∷ FieldBegin Repr ∷ Op LPar ∷ in_form (codes "x") ∷ Op RPar ∷
    FieldEnd ∷ FormattedText [] ∷
    FormattedEnd ∷ []
unfolding formatted
kept = refl

-- f'{x:>}'
specified : terminals_of kinds.String (codes "f'{x:>}'")
    ≡ FormattedBegin ∷ FormattedText [] ∷ FieldBegin Unconverted ∷ Op LPar ∷ in_form (codes "x") ∷ Op RPar ∷ SpecBegin ∷ FormattedText
    (codes ">") ∷ FieldEnd ∷
    FormattedText [] ∷ FormattedEnd ∷ []
unfolding formatted
specified = refl

-- f'{f"{x}"}': an f-string in a field
nested : terminals_of kinds.String (codes "f'{f\"{x}\"}'")
    ≡ FormattedBegin ∷ FormattedText [] ∷ FieldBegin Unconverted ∷ Op LPar ∷ FormattedBegin ∷ FormattedText [] ∷
    FieldBegin Unconverted ∷ Op LPar ∷
    in_form (codes "x") ∷ Op RPar ∷ FieldEnd ∷ FormattedText [] ∷ FormattedEnd ∷ Op RPar ∷ FieldEnd ∷ FormattedText [] ∷ FormattedEnd ∷ []
unfolding formatted
nested = refl

-- faults

abbrev Fault : List ℕ → Option TokenError → Type 0
Fault t fault = fault_of Whole kinds.String t ≡ fault

faultless : Fault (codes "f'a{x!s}'") None
unfolding formatted
faultless = refl

-- any is one in the plain language
in_plain : fault_of Plain kinds.String (codes "f''") ≡ Some errors.FString
unfolding formatted
in_plain = refl

-- f'}'
single_brace : Fault (codes "f'}'") (Some errors.FString)
unfolding formatted
single_brace = refl

-- f'{$}': no token
no_token : Fault (codes "f'{$}'") (Some errors.FString)
unfolding formatted
no_token = refl

-- f'{f"{x=}"}': `=` in an f-string that stands in a field
kept_in_a_field : Fault (codes "f'{f\"{x=}\"}'") (Some errors.FString)
unfolding formatted
kept_in_a_field = refl

-- f'''{"it's"}''': a quote in a string in a field
bulky : Fault (codes "f'''{\"it's\"}'''") (Some errors.FString)
unfolding formatted
bulky = refl

-- f'\N{DIGIT ONE}'
named_escape : Fault (codes "f'\\N{DIGIT ONE}'") (Some errors.NamedEscape)
unfolding formatted
named_escape = refl

-- f'\x4{x}'
short_escape : Fault (codes "f'\\x4{x}'") (Some errors.BadEscape)
unfolding formatted
short_escape = refl
