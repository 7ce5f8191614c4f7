-- What a dump under places appends to a text, and which places it leaves: `o` and `ps` become `o1` and `ps1`.
use Rattle.std.specs.Prelude.{◌≡◌, ℕ, Bool, List, ◌++◌}
use Rattle.pytree_dump_text.specs.declared.lines.Told.{Told}
use Rattle.pytree_dump_text.specs.declared.styles.Style.{Style}
use Rattle.pytree_dump_text.specs.Layout.{text}
use Rattle.pytree_dump_text.specs.Shows.{Fields, Shown}
use Rattle.pytree_dump_text.specs.Slots.{coming, node_text}
use Rattle.pytree_marked.specs.MarkedNodes.{Attributes, closed, fields_with, with_places}

-- the text of the fields that are still to come, and of the members of their node, which is marked or isn't
abbrev pub coming_with : Bool → Style → List ℕ → List Attributes → Told → Fields → List ℕ
coming_with is_marked s indentation ps told rest = coming s indentation told (closed is_marked (fields_with ps rest)).shown

-- what is shown of something
abbrev pub Appends : Style → List ℕ → List ℕ → List ℕ → List Attributes → List Attributes → Shown → Type 0
Appends s indentation o o1 ps ps1 x = (o1 ≡ o ++ text s indentation (with_places ps x).shown) × (ps1 ≡ (with_places ps x).left)

-- a node that is marked or isn't, of what begins it, its class and the bracket, and of its fields
abbrev pub AppendsNode : Bool → Style → List ℕ → List ℕ → List ℕ → List Attributes → List Attributes → List ℕ → Fields → Type 0
AppendsNode is_marked s indentation o o1 ps ps1 start fs =
    (o1 ≡ o ++ node_text s indentation start (closed is_marked (fields_with ps fs)).shown) ×
    (ps1 ≡ (closed is_marked (fields_with ps fs)).left)

-- A field, which stands before the fields that are still to come, or fields: how these are told after it.
pub record AppendsField (s : Style) (indentation o o1 : List ℕ) (ps ps1 : List Attributes) (told next : Told) (add : Fields
    → Fields) : Type 0 where
  pub text : (is_marked : Bool) (rest : Fields) → o1 ++ coming_with is_marked s indentation ps1 next rest ≡ o ++ coming_with is_marked s
      indentation ps told (add rest)
  pub left : (rest : Fields) → (fields_with ps1 rest).left ≡ (fields_with ps (add rest)).left
