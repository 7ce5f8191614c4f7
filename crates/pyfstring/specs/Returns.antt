-- Bodies with CRs, each of which stands before an LF, so that the line end of both counts as an LF.
use Rattle.std.specs.Prelude.{◌≡◌, ℕ, true, false, ◌==◌, List, [], ◌∷◌, map, option_map}
use Rattle.pyfstring.specs.Characters.{line_feed, carriage_return}
use Rattle.pyfstring.specs.Parts.{FieldParts, Part, text, field, SpecPart, BodyPart}

-- a CR stands before an LF alone
pub data IsLined : List ℕ → Type 0 where
  nothing : IsLined []
  character : {c : ℕ} {cs : List ℕ} → (c == carriage_return) ≡ false → IsLined cs → IsLined (c ∷ cs)
  line_end : {cs : List ℕ} → IsLined cs → IsLined (carriage_return ∷ line_feed ∷ cs)

-- a text without its CRs
abbrev pub without_returns : List ℕ → List ℕ
without_returns [] = []
without_returns (c ∷ cs) = elim (c == carriage_return) [ true ↦ without_returns cs | false ↦ c ∷ without_returns cs ]

abbrev pub plain_field : {S : Type 0} → (S → S) → FieldParts S → FieldParts S
plain_field plain f = record {
  text = without_returns f.text;
  kept = option_map without_returns f.kept;
  conversion = f.conversion;
  spec =
      option_map plain f.spec;
}

abbrev pub plain_part : {S : Type 0} → (S → S) → Part S → Part S
plain_part plain (text t) = text (without_returns t)
plain_part plain (field f) = field (plain_field plain f)

abbrev pub plain_spec : List SpecPart → List SpecPart
plain_spec parts = map (plain_part without_returns) parts

abbrev pub plain_parts : List BodyPart → List BodyPart
plain_parts parts = map (plain_part plain_spec) parts
