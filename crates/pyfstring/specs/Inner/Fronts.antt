-- What the front of a field stands for, and the field that it is made.
use Rattle.std.specs.Prelude.{◌≡◌, Option, is_some, option_map}
use Rattle.std.specs.Str.{chars}
use Rattle.pyfstring.specs.declared.fields.Front.{Front}
use Rattle.pyfstring.specs.declared.parts.Field.{Field}
use Rattle.pyfstring.specs.Parts.{text_of}
use Rattle.pyfstring.specs.Pieces.{conversion_of}
use Rattle.pyfstring.specs.Cutting.{FrontParts}

abbrev pub front_of : Front → FrontParts
front_of f = record { text = chars f.text.now; kept = option_map text_of f.kept; given = f.given }

-- the field has this front and this spec
pub record IsWith {S : Type 0} (f : Front) (s : Option S) (made : Field S) : Type 0 where
  pub text : made.text ≡ f.text
  pub kept : made.kept ≡ f.kept
  pub conversion : made.conversion ≡ conversion_of f.given (is_some f.kept) (is_some s)
  pub spec : made.spec ≡ s
