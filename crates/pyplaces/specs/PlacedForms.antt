-- What a reader of lines that records says: what it found at the front of some terminals, and the places that it recorded.
use Rattle.std.specs.Prelude.{◌≡◌, ℕ, Bool, Option, List, [], ◌∷◌}
use Rattle.pytree_node.specs.declared.profiles.Profile.{Profile}
use Rattle.pygrammar.specs.declared.levels.Level.{Level}
use Rattle.pytree_node.specs.Trees.{Expr, Keywords, Stmt, Alias, Item, TypeParam}
use Rattle.pytoken.specs.Terminals.{Terminal}
use Rattle.pygrammar.specs.Forms as F
use Rattle.pygrammar.specs.Lines.{Form, Header}
use Rattle.pyplaces.specs.Stretches.{Stretch}
use Rattle.pyplaces.specs.FormPlaces as places
use Rattle.pyplaces.specs.FormPlaces.{FormPlaces}
use Rattle.pyplaces.specs.Placed.{ReadAs}

-- ---- Parts.

-- a part without places
abbrev pub Bare : (List Terminal → Type 0) → List Terminal → ℕ → List Terminal → ℕ → Type 0
Bare X i at r following = ReadAs X (λ ts n d. tt {0}) i at r following (tt {0})

abbrev pub PlacedOptional : Level → List Terminal → ℕ → Option Expr → List Terminal → ℕ → List Stretch → Type 0
PlacedOptional l i at e r following ps = ReadAs (λ ts. F.Perhaps l ts e) (λ ts. places.perhaps_places) i at r following ps

abbrev pub PlacedAfter : Terminal → Level → List Terminal → ℕ → Option Expr → List Terminal → ℕ → List Stretch → Type 0
PlacedAfter t l i at e r following ps = ReadAs (λ ts. F.Following t l ts e) (λ ts. places.after_places) i at r following ps

-- X,.. and X,.. [,] with the places of an X
module _ (A : Type 0) (X : List Terminal → A → Type 0) (one : (ts : List Terminal) (a : A) → ℕ → X ts a → List Stretch) where
  abbrev pub PlacedOne : List Terminal → ℕ → A → List Terminal → ℕ → List Stretch → Type 0
  PlacedOne i at a r following ps = ReadAs (λ ts. X ts a) (λ ts. one ts a) i at r following ps

  abbrev pub PlacedCommas : List Terminal → ℕ → List A → List Terminal → ℕ → List Stretch → Type 0
  PlacedCommas i at xs r following ps = ReadAs (λ ts. F.Commas A X ts xs) (λ ts. places.commas_places A X one) i at r following ps

  abbrev pub PlacedEnded : List Terminal → ℕ → List A → List Terminal → ℕ → List Stretch → Type 0
  PlacedEnded i at xs r following ps = ReadAs (λ ts. F.Commas? A X ts xs) (λ ts. places.ended_places A X one) i at r following ps

  -- after a comma that may end the list
  pub data Commaed : List Terminal → ℕ → List A → List Terminal → ℕ → List Stretch → Type 0 where
    no_more : {r : List Terminal} {at : ℕ} → Commaed r at [] r at []
    more : {i r : List Terminal} {at following : ℕ} {x : A} {xs : List A} {ps : List Stretch} → PlacedEnded i at (x ∷ xs) r following ps
        → Commaed i at (x ∷ xs) r following ps

abbrev pub PlacedTypeParam : List Terminal → ℕ → TypeParam → List Terminal → ℕ → List Stretch → Type 0
PlacedTypeParam i at p r following ps = ReadAs (λ ts. F.TypeParamOf ts p) (λ ts. places.type_param_places) i at r following ps

abbrev pub PlacedTypeParams : Profile → List Terminal → ℕ → List TypeParam → List Terminal → ℕ → List Stretch → Type 0
PlacedTypeParams profile i at xs r following ps = ReadAs (λ ts. F.TypeParams profile ts xs) (λ ts. places.type_params_places) i at r following ps

abbrev pub PlacedDottedAlias : List Terminal → ℕ → Alias → List Terminal → ℕ → List Stretch → Type 0
PlacedDottedAlias i at a r following ps = ReadAs (λ ts. F.DottedAlias ts a) (λ ts. places.dotted_alias_places) i at r following ps

abbrev pub PlacedNameAlias : List Terminal → ℕ → Alias → List Terminal → ℕ → List Stretch → Type 0
PlacedNameAlias i at a r following ps = ReadAs (λ ts. F.NameAlias ts a) (λ ts. places.name_alias_places) i at r following ps

abbrev pub PlacedNames : List Terminal → ℕ → List Alias → List Terminal → ℕ → List Stretch → Type 0
PlacedNames i at xs r following ps = ReadAs (λ ts. F.Names ts xs) (λ ts. places.names_places) i at r following ps

abbrev pub PlacedTargets : List Terminal → ℕ → List Expr → List Terminal → ℕ → List Stretch → Type 0
PlacedTargets i at es r following ps = ReadAs (λ ts. F.Targets ts es) (λ ts. places.targets_places) i at r following ps

-- ---- Statements: the places of the fields, and all.

abbrev pub PlacedFields : Profile → List Terminal → ℕ → Stmt → List Terminal → ℕ → List Stretch → Type 0
PlacedFields profile i at y r following ps = ReadAs (λ ts. F.Simple profile ts y) (λ ts. places.field_places) i at r following ps

abbrev pub PlacedSimple : Profile → List Terminal → ℕ → Stmt → List Terminal → ℕ → List Stretch → Type 0
PlacedSimple profile i at y r following ps = ReadAs (λ ts. F.Simple profile ts y) (λ ts. places.simple_places) i at r following ps

abbrev pub PlacedSimples : Profile → List Terminal → ℕ → List Stmt → List Terminal → ℕ → List Stretch → Type 0
PlacedSimples profile i at ys r following ps = ReadAs (λ ts. F.Simples profile ts ys) (λ ts. places.simples_places) i at r following ps

-- after a semicolon that may end the line
pub data Semicolons (profile : Profile) : List Terminal → ℕ → List Stmt → List Terminal → ℕ → List Stretch → Type 0 where
  line_ends : {r : List Terminal} {at : ℕ} → Semicolons profile r at [] r at []
  simples : {i r : List Terminal} {at following : ℕ} {y : Stmt} {ys : List Stmt} {ps : List Stretch}
      → PlacedSimples profile i at (y ∷ ys) r following ps → Semicolons profile i at (y ∷ ys) r following ps

-- ---- Headers and lines.

abbrev pub PlacedItem : List Terminal → ℕ → Item → List Terminal → ℕ → List Stretch → Type 0
PlacedItem i at x r following ps = ReadAs (λ ts. F.ItemOf ts x) (λ ts. places.item_places) i at r following ps

abbrev pub PlacedItems : List Terminal → ℕ → List Item → List Terminal → ℕ → List Stretch → Type 0
PlacedItems i at xs r following ps = ReadAs (λ ts. F.Items ts xs) (λ ts. places.items_places) i at r following ps

abbrev pub PlacedBases : List Terminal → ℕ → List Expr → Keywords → List Terminal → ℕ → List Stretch → Type 0
PlacedBases i at es ks r following ps = ReadAs (λ ts. F.Bases ts es ks) (λ ts. places.bases_places) i at r following ps

abbrev pub PlacedHeader : Profile → List Terminal → ℕ → Header → List Terminal → ℕ → FormPlaces → Type 0
PlacedHeader profile i at h r following f = ReadAs (λ ts. F.HeaderOf profile ts h) (λ ts. places.header_places) i at r following f

abbrev pub PlacedCase : List Terminal → ℕ → Header → List Terminal → ℕ → FormPlaces → Type 0
PlacedCase i at h r following f = ReadAs (λ ts. F.CaseOf ts h) (λ ts. places.case_places) i at r following f

-- a whole line
pub record PlacedLine (profile : Profile) (i : List Terminal) (y : Form) (f : FormPlaces) : Type 0 where
  pub derived : F.FormOf profile i y
  pub places_are : places.line_places derived ≡ f

pub record PlacedForm (profile : Profile) (inside : Bool) (i : List Terminal) (y : Form) (f : FormPlaces) : Type 0 where
  pub derived : F.FormAt profile inside i y
  pub places_are : places.places_at derived ≡ f
