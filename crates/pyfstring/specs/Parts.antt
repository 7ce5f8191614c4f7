-- What a body is cut into, its texts as characters.
use Rattle.std.specs.Prelude.{ℕ, List, map, Option, option_map}
use Rattle.std.specs.Borrow.{Bor}
use Rattle.std.specs.Str.{chars}
use Rattle.std.specs.declared.alloc.Global.{Global}
use Rattle.std.specs.declared.vec.Vec.{Vec}
use Rattle.pyfstring.specs.declared.parts.Conversion.{Conversion}
use Rattle.pyfstring.specs.declared.parts.Field.{Field}
use Rattle.pyfstring.specs.declared.parts.Piece.{Piece}
use Rattle.pyfstring.specs.declared.parts.Piece.TheVariants.{Text, Field as FieldPiece}

-- a field, with what stands for its spec
pub record FieldParts (S : Type 0) : Type 0 where
  pub text : List ℕ
  pub kept : Option (List ℕ)
  pub conversion : Conversion
  pub spec : Option S

pub data Part (S : Type 0) : Type 0 where
  text : List ℕ → Part S
  field : FieldParts S → Part S

-- of a spec, and of a body
abbrev pub SpecPart : Type 0
SpecPart = Part (List ℕ)

abbrev pub BodyPart : Type 0
BodyPart = Part (List SpecPart)

-- what the program's values stand for
abbrev pub text_of : Bor (List ℕ) → List ℕ
text_of t = chars t.now

abbrev pub field_of : {S T : Type 0} → (S → T) → Field S → FieldParts T
field_of spec_of f = record {
  text = chars f.text.now;
  kept = option_map text_of f.kept;
  conversion = f.conversion;
  spec =
      option_map spec_of f.spec;
}

abbrev pub part_of : {S T : Type 0} → (S → T) → Piece S → Part T
part_of spec_of (Text t) = text (chars t.now)
part_of spec_of (FieldPiece f) = field (field_of spec_of f)

abbrev pub spec_parts : Vec (Piece (Bor (List ℕ))) Global → List SpecPart
spec_parts pieces = map (part_of text_of) pieces.items

abbrev pub body_parts : Vec (Piece (Vec (Piece (Bor (List ℕ))) Global)) Global → List BodyPart
body_parts pieces = map (part_of spec_parts) pieces.items
