-- The boundaries and the parts of f-strings, as the grammar sees them.
use Rattle.std.specs.Prelude.{ℕ, List, Option, Some, None}
use Rattle.pyfstring.specs.declared.parts.Conversion.{Conversion}
use Rattle.pytoken.specs.FormattedStrings.{text_points}
use Rattle.pytoken.specs.TerminalOf.{text_part}
use Rattle.pytoken.specs.Terminals as tokens
use Rattle.pygrammar.specs.Looks.{is_formatted_begin, is_formatted_end, is_spec_begin, is_field_end}
use Rattle.pyparse_nodes.specs.declared.boundaries.Boundary.{Boundary}
use Rattle.pyparse_nodes.specs.declared.boundaries.Boundary.TheVariants as boundary
use Rattle.pyparse_nodes.specs.declared.boundaries.FormattedPart.{FormattedPart}
use Rattle.pyparse_nodes.specs.declared.boundaries.FormattedPart.TheVariants as part

-- the terminal of a boundary, and the test for it
abbrev pub boundary_terminal : Boundary → tokens.Terminal
boundary_terminal boundary.FormattedBegin = tokens.FormattedBegin
boundary_terminal boundary.FormattedEnd = tokens.FormattedEnd
boundary_terminal boundary.SpecBegin = tokens.SpecBegin
boundary_terminal boundary.FieldEnd = tokens.FieldEnd

abbrev pub boundary_of : Boundary → tokens.Terminal → Option ℕ
boundary_of boundary.FormattedBegin t = is_formatted_begin t
boundary_of boundary.FormattedEnd t = is_formatted_end t
boundary_of boundary.SpecBegin t = is_spec_begin t
boundary_of boundary.FieldEnd t = is_field_end t

-- the points of a part that is a text, and the conversion of one that is a field
abbrev pub points_of : Option FormattedPart → Option (List ℕ)
points_of (Some (part.Text p)) = Some (text_points (text_part p))
points_of _ = None

abbrev pub conversion_of : Option FormattedPart → Option Conversion
conversion_of (Some (part.Field c)) = Some c
conversion_of _ = None
