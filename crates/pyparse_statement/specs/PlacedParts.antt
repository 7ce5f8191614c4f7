-- Parts of statements and headers that were read and recorded, with their places.
use Rattle.std.specs.Prelude.{◌≡◌, ℕ, List, [], ◌∷◌, ◌++◌, Bool, true, false, map}
use Rattle.pylex_lexeme.specs.declared.kinds.Exact.TheVariants.{Colon}
use Rattle.pytree_node.specs.declared.profiles.Profile.{Profile}
use Rattle.pytree_node.specs.Trees.{Alias, Expr, Item, TypeParam}
use Rattle.pytree_node.specs.TreeOf.{alias_of, boxed_of, item_of, tree_of, type_param_of}
use Rattle.pytoken.specs.Terminals as tokens
use Rattle.pytoken.specs.Terminals.{Op}
use Rattle.pytoken.specs.declared.values.terminals.Terminal.{Terminal}
use Rattle.pygrammar.specs.declared.levels.Level.{Level}
use Rattle.pygrammar.specs.Forms as F
use Rattle.pygrammar.specs.Grammar.{DelTarget}
use Rattle.pyparse_nodes.specs.declared.found.Items.{Items}
use Rattle.pyparse_nodes.specs.declared.found.Optional.{Optional}
use Rattle.pyparse_nodes.specs.declared.found.Read.{Read}
use Rattle.pyparse_nodes.specs.Views.{seen}
use Rattle.pyplaces.specs.ExpressionPlaces.{del_target_places}
use Rattle.pyplaces.specs.FormPlaces.{dotted_alias_places, item_places, name_alias_places, type_param_places}
use Rattle.pyplaces.specs.Placed.{PlacedDelTarget, PlacedItemTarget}
use Rattle.pyplaces.specs.PlacedForms.{PlacedAfter, PlacedCommas, PlacedEnded, PlacedItem, PlacedItems, PlacedNames, PlacedOptional}
use Rattle.pyplaces.specs.PlacedForms.{PlacedTypeParam, PlacedTypeParams}
use Rattle.pyplaces.specs.Recording.{Records}
use Rattle.pyplaces.specs.Stretches.{Stretch, stretch}
use Rattle.pyparse_statement.specs.declared.headers.found.ReadItem.{ReadItem}
use Rattle.pyparse_statement.specs.declared.headers.found.ReadItems.{ReadItems}
use Rattle.pyparse_statement.specs.declared.statements.found.ReadAliases.{ReadAliases}
use Rattle.pyparse_statement.specs.declared.statements.found.ReadTypeParam.{ReadTypeParam}
use Rattle.pyparse_statement.specs.declared.statements.found.ReadTypeParams.{ReadTypeParams}

-- names and items with commas between them: in brackets one may stand at their end
abbrev pub AliasList : Bool → List tokens.Terminal → ℕ → List Alias → List tokens.Terminal → ℕ → List Stretch → Type 0
AliasList true i at xs r n ps = PlacedEnded Alias F.NameAlias (λ us a. name_alias_places) i at xs r n ps
AliasList false i at xs r n ps = PlacedCommas Alias F.NameAlias (λ us a. name_alias_places) i at xs r n ps

abbrev pub ItemList : Bool → List tokens.Terminal → ℕ → List Item → List tokens.Terminal → ℕ → List Stretch → Type 0
ItemList true i at xs r n ps = PlacedEnded Item F.ItemOf (λ us x. item_places) i at xs r n ps
ItemList false i at xs r n ps = PlacedCommas Item F.ItemOf (λ us x. item_places) i at xs r n ps

module _ {S : Type 0} (after : S → Stretch → S) where
  -- ---- Expressions that may be left out.

  pub record OptionalPlaced (l : Level) (ts : List Terminal) (at : ℕ) (old new : S) (r : Optional) : Type 0 where
    pub places : List Stretch
    pub part : PlacedOptional l (seen ts at) at (boxed_of r.expr) (seen ts r.next) r.next places
    pub records : Records after old places new

  pub record AfterPlaced (t : tokens.Terminal) (l : Level) (ts : List Terminal) (at : ℕ) (old new : S) (r : Optional) : Type 0 where
    pub places : List Stretch
    pub part : PlacedAfter t l (seen ts at) at (boxed_of r.expr) (seen ts r.next) r.next places
    pub records : Records after old places new

  -- ---- Targets.

  pub record DeletedPlaced (ts : List Terminal) (at : ℕ) (old new : S) (r : Read) : Type 0 where
    pub places : List Stretch
    pub part : PlacedDelTarget (seen ts at) at (tree_of r.expr.value) (seen ts r.next) r.next places
    pub records : Records after old places new

  pub record AllDeletedPlaced (ts : List Terminal) (at : ℕ) (old new : S) (r : Items) : Type 0 where
    pub places : List Stretch
    pub part : PlacedEnded Expr DelTarget (λ us e. del_target_places) (seen ts at) at (map tree_of r.exprs.items) (seen ts r.next) r.next
        places
    pub records : Records after old places new

  pub record TargetPlaced (ts : List Terminal) (at : ℕ) (old new : S) (r : Read) : Type 0 where
    pub places : List Stretch
    pub part : PlacedItemTarget (seen ts at) at (tree_of r.expr.value) (seen ts r.next) r.next places
    pub records : Records after old places new

  -- ---- Parameters of types. The own place of one is recorded after it.

  pub record TypeParamPlaced (ts : List Terminal) (at : ℕ) (old new : S) (r : ReadTypeParam) : Type 0 where
    pub places : List Stretch
    pub part : PlacedTypeParam (seen ts at) at (type_param_of r.param) (seen ts r.next) r.next (places ++ (stretch at r.next ∷ []))
    pub records : Records after old places new

  pub record ParamsPlaced (ts : List Terminal) (at : ℕ) (old new : S) (r : ReadTypeParams) : Type 0 where
    pub places : List Stretch
    pub part : PlacedEnded TypeParam F.TypeParamOf (λ us p. type_param_places) (seen ts at) at (map type_param_of r.params.items)
        (seen ts r.next) r.next places
    pub records : Records after old places new

  pub record TypeParamsPlaced (profile : Profile) (ts : List Terminal) (at : ℕ) (old new : S) (r : ReadTypeParams) : Type 0 where
    pub places : List Stretch
    pub part : PlacedTypeParams profile (seen ts at) at (map type_param_of r.params.items) (seen ts r.next) r.next places
    pub records : Records after old places new

  -- ---- Names of imports.

  pub record DottedPlaced (ts : List Terminal) (at : ℕ) (old new : S) (r : ReadAliases) : Type 0 where
    pub places : List Stretch
    pub part : PlacedCommas Alias F.DottedAlias (λ us a. dotted_alias_places) (seen ts at) at (map alias_of r.aliases.items)
        (seen ts r.next) r.next places
    pub records : Records after old places new

  pub record AliasesPlaced (bracketed : Bool) (ts : List Terminal) (at : ℕ) (old new : S) (r : ReadAliases) : Type 0 where
    pub places : List Stretch
    pub part : AliasList bracketed (seen ts at) at (map alias_of r.aliases.items) (seen ts r.next) r.next places
    pub records : Records after old places new

  pub record NamesPlaced (ts : List Terminal) (at : ℕ) (old new : S) (r : ReadAliases) : Type 0 where
    pub places : List Stretch
    pub part : PlacedNames (seen ts at) at (map alias_of r.aliases.items) (seen ts r.next) r.next places
    pub records : Records after old places new

  -- ---- Items of a `with`.

  pub record ItemPlaced (ts : List Terminal) (at : ℕ) (old new : S) (r : ReadItem) : Type 0 where
    pub places : List Stretch
    pub part : PlacedItem (seen ts at) at (item_of r.item) (seen ts r.next) r.next places
    pub records : Records after old places new

  pub record ItemListPlaced (bracketed : Bool) (ts : List Terminal) (at : ℕ) (old new : S) (r : ReadItems) : Type 0 where
    pub places : List Stretch
    pub part : ItemList bracketed (seen ts at) at (map item_of r.items.items) (seen ts r.next) r.next places
    pub records : Records after old places new

  -- directly in front of a colon
  pub record ItemsPlaced (ts : List Terminal) (at : ℕ) (old new : S) (r : ReadItems) : Type 0 where
    pub places : List Stretch
    pub part : (z : List tokens.Terminal) → seen ts r.next ≡ Op Colon ∷ z
        → PlacedItems (seen ts at) at (map item_of r.items.items) (seen ts r.next) r.next places
    pub records : Records after old places new
