-- Headers that were read and recorded, with the places before their bodies and those after them.
use Rattle.std.specs.Prelude.{◌≡◌, ℕ, ◌+◌, List, [], ◌++◌, ◌∷◌, Bool, Option, Some, Result, IfOk, map}
use Rattle.pylex_lexeme.specs.declared.kinds.Exact.TheVariants.{Colon}
use Rattle.pytree_node.specs.declared.profiles.Profile.{Profile}
use Rattle.pytree_node.specs.Trees.{Expr, Identifier}
use Rattle.pytree_node.specs.TreeOf.{type_param_of}
use Rattle.pytoken.specs.declared.keywords.Keyword.{Keyword}
use Rattle.pytoken.specs.declared.keywords.Keyword.TheVariants.{Class, Def}
use Rattle.pytoken.specs.Terminals as tokens
use Rattle.pytoken.specs.Terminals.{Ident, Op, Spelled, Word}
use Rattle.pytoken.specs.declared.values.terminals.Terminal.{Terminal}
use Rattle.pygrammar.specs.declared.levels.Level.TheVariants.{Expression}
use Rattle.pygrammar.specs.FormOf.{header_of}
use Rattle.pygrammar.specs.Forms as F
use Rattle.pygrammar.specs.Lines.{except_header}
use Rattle.pyparse_nodes.specs.declared.stop.Stop.{Stop}
use Rattle.pyparse_nodes.specs.Views.{Stands, seen}
use Rattle.pyplaces.specs.FormPlaces.{form_places}
use Rattle.pyplaces.specs.Placed.{Placed}
use Rattle.pyplaces.specs.PlacedForms.{Bare, PlacedHeader, PlacedTypeParams}
use Rattle.pyplaces.specs.Recording.{Kept, Records, afters}
use Rattle.pyplaces.specs.Stretches.{Stretch}
use Rattle.pyparse_statement.specs.declared.headers.found.ReadHeader.{ReadHeader}
use Rattle.pyparse_statement.specs.declared.statements.found.ReadTypeParams.{ReadTypeParams}

-- `count` is how many places a recorder has.
module _ {S : Type 0} (after : S → Stretch → S) (count : S → ℕ) where
  -- directly in front of a colon
  pub record HeaderPlaced (profile : Profile) (ts : List Terminal) (at : ℕ) (old new : S) (r : ReadHeader) : Type 0 where
    pub before : List Stretch
    pub following : List Stretch
    pub header : (z : List tokens.Terminal) → seen ts r.next ≡ Op Colon ∷ z
        → PlacedHeader profile (seen ts at) at (header_of r.header) (seen ts r.next) r.next (form_places before following [])
    pub before_is : r.before ≡ count (afters after old before)
    pub records : Records after old (before ++ following) new

  -- after the keyword that a header begins with
  abbrev pub WordHeader : Keyword → List Terminal → (at : ℕ) → (old new : S) → Result ReadHeader Stop → Type 0
  WordHeader word ts at old new z = (profile : Profile) (from : ℕ) → at ≡ from + 1 → Stands (Word word) ts from
      → IfOk z (HeaderPlaced profile ts from old new)

  -- after a keyword that `async` may stand in front of
  abbrev pub AsyncHeader : Bool → Keyword → List Terminal → (at : ℕ) → (old new : S) → Result ReadHeader Stop → Type 0
  AsyncHeader is_async word ts at old new z = (profile : Profile) (from middle : ℕ)
      → Bare (λ us. F.Async us is_async) (seen ts from) from (seen ts middle) middle → at ≡ middle + 1 → Stands (Word word) ts middle
      → IfOk z (HeaderPlaced profile ts from old new)

  -- the class of an `except`
  pub record ExceptPlaced (star : Bool) (ts : List Terminal) (at : ℕ) (old new : S) (r : ReadHeader) : Type 0 where
    pub places : List Stretch
    pub class : Expr
    pub name : Option Identifier
    pub next : ℕ
    pub header : header_of r.header ≡ except_header star (Some class) name
    pub part : Placed Expression (seen ts at) at class (seen ts next) next places
    pub alias : Bare (λ us. F.As us name) (seen ts next) next (seen ts r.next) r.next
    pub before_is : r.before ≡ count (afters after old places)
    pub records : Records after old places new

-- The rest of a `def` or a `class`, after its NAME and the parameters of types, whose places are set aside after `aside` others.
module _ {S : Type 0} (after beside : S → Stretch → S) (count aside_count : S → ℕ) where
  abbrev pub FunctionPlaced : Bool → List Terminal → Identifier → ReadTypeParams → (aside : ℕ) → (old new : S)
      → Result ReadHeader Stop → Type 0
  FunctionPlaced is_async ts name types aside old new z = (profile : Profile) (from middle : ℕ) (x : Spelled)
      (ps : List Stretch) (start : S)
      → Bare (λ us. F.Async us is_async) (seen ts from) from (seen ts middle) middle
      → seen ts middle ≡ Word Def ∷ (Ident x ∷ seen ts (middle + 1 + 1)) → x.form ≡ name
      → PlacedTypeParams profile (seen ts (middle + 1 + 1)) (middle + 1 + 1) (map type_param_of types.params.items) (seen ts types.next)
      types.next ps → Kept after beside start [] ps old → aside ≡ aside_count start
      → IfOk z (HeaderPlaced after count profile ts from start new)

  abbrev pub ClassPlaced : List Terminal → Identifier → ReadTypeParams → (aside : ℕ) → (old new : S) → Result ReadHeader Stop → Type 0
  ClassPlaced ts name types aside old new z = (profile : Profile) (from : ℕ) (x : Spelled) (ps : List Stretch) (start : S)
      → seen ts from ≡ Word Class ∷ (Ident x ∷ seen ts (from + 1 + 1)) → x.form ≡ name
      → PlacedTypeParams profile (seen ts (from + 1 + 1)) (from + 1 + 1) (map type_param_of types.params.items) (seen ts types.next)
      types.next ps → Kept after beside start [] ps old → aside ≡ aside_count start
      → IfOk z (HeaderPlaced after count profile ts from start new)
