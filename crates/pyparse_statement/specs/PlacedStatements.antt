-- Statements that were read and recorded, with the places of their fields. The own place of a statement is recorded after it.
use Rattle.std.specs.Prelude.{◌≡◌, ℕ, ◌+◌, List, [], ◌∷◌, ◌++◌, Bool, true, Option, Result, IfOk, map}
use Rattle.pylex_lexeme.specs.declared.kinds.Exact.TheVariants.{Colon, Equal}
use Rattle.pytree_node.specs.declared.profiles.Profile.{Profile}
use Rattle.pytree_node.specs.Profiles.{has_types}
use Rattle.pytree_node.specs.Trees.{Alias, AnnAssign, Expr, Identifier, ImportFrom, Stmt}
use Rattle.pytree_node.specs.TreeOf.{stmt_of, tree_of}
use Rattle.pytoken.specs.declared.keywords.Keyword.{Keyword}
use Rattle.pytoken.specs.Terminals as tokens
use Rattle.pytoken.specs.Terminals.{Ident, Op, Spelled, Word}
use Rattle.pytoken.specs.declared.values.terminals.Terminal.{Terminal}
use Rattle.pygrammar.specs.declared.levels.Level.TheVariants.{Expression, Value}
use Rattle.pygrammar.specs.Forms.{type_word}
use Rattle.pygrammar.specs.LineReader as line
use Rattle.pygrammar.specs.Reader.{Reads}
use Rattle.pyparse_nodes.specs.Answers.{PartAt}
use Rattle.pyparse_nodes.specs.declared.found.Items.{Items}
use Rattle.pyparse_nodes.specs.declared.found.Read.{Read}
use Rattle.pyparse_nodes.specs.declared.stop.Stop.{Stop}
use Rattle.pyparse_nodes.specs.Views.{IsNotNamed, Stands, seen}
use Rattle.pyplaces.specs.Placed.{Placed}
use Rattle.pyplaces.specs.PlacedForms.{PlacedAfter, PlacedFields, PlacedNames, PlacedSimples, PlacedTargets}
use Rattle.pyplaces.specs.Recording.{Records}
use Rattle.pyplaces.specs.Stretches.{Stretch, stretch}
use Rattle.pyparse_statement.specs.declared.statements.found.ReadStatement.{ReadStatement}
use Rattle.pyparse_statement.specs.declared.statements.found.ReadStatements.{ReadStatements}

-- targets in front of a value, with their `=`, or none
pub data Targeted : List tokens.Terminal → ℕ → List Expr → List tokens.Terminal → ℕ → List Stretch → Type 0 where
  untargeted : {i : List tokens.Terminal} {at : ℕ} → Targeted i at [] i at []
  targeted : {i r : List tokens.Terminal} {at following : ℕ} {e : Expr} {es : List Expr} {ps : List Stretch}
      → PlacedTargets i at (e ∷ es) r following ps → Targeted i at (e ∷ es) r following ps

module _ {S : Type 0} (after : S → Stretch → S) where
  pub record FieldsPlaced (profile : Profile) (ts : List Terminal) (at : ℕ) (old new : S) (r : ReadStatement) : Type 0 where
    pub places : List Stretch
    pub fields : PlacedFields profile (seen ts at) at (stmt_of r.statement) (seen ts r.next) r.next places
    pub records : Records after old places new

  -- after places that are recorded already
  pub record FieldsAfter (profile : Profile) (ts : List Terminal) (at : ℕ) (ps : List Stretch) (old new : S)
      (r : ReadStatement) : Type 0 where
    pub places : List Stretch
    pub fields : PlacedFields profile (seen ts at) at (stmt_of r.statement) (seen ts r.next) r.next (ps ++ places)
    pub records : Records after old places new

  -- after the keyword that a statement begins with
  abbrev pub WordPlaced : Keyword → List Terminal → (at : ℕ) → (old new : S) → Result ReadStatement Stop → Type 0
  WordPlaced word ts at old new z = (profile : Profile) (from : ℕ) → at ≡ from + 1 → Stands (Word word) ts from
      → IfOk z (FieldsPlaced profile ts from old new)

  -- after `type` and the NAME, which is recorded
  abbrev pub AliasPlaced : Profile → List Terminal → Identifier → (at : ℕ) → (old new : S) → Result ReadStatement Stop → Type 0
  AliasPlaced profile ts name at old new z = (from : ℕ) (form : Identifier) (x : Spelled) → at ≡ from + 1 + 1 → has_types profile ≡ true
      → seen ts from ≡ type_word form ∷ (Ident x ∷ seen ts at) → x.form ≡ name
      → IfOk z (FieldsAfter profile ts from (stretch (from + 1) (from + 1 + 1) ∷ []) old new)

  -- after the `import` of a `from`
  pub record ImportPlaced (source : Option Identifier) (level : ℕ) (ts : List Terminal) (at : ℕ) (old new : S)
      (r : ReadStatement) : Type 0 where
    pub places : List Stretch
    pub names : List Alias
    pub statement : stmt_of r.statement ≡ ImportFrom source names level
    pub part : PlacedNames (seen ts at) at names (seen ts r.next) r.next places
    pub records : Records after old places new

  -- after the colon of an annotation
  pub record AnnotationPlaced (target : Expr) (simple : Bool) (ts : List Terminal) (at : ℕ) (old new : S)
      (r : ReadStatement) : Type 0 where
    pub places : List Stretch
    pub more : List Stretch
    pub annotation : Expr
    pub value : Option Expr
    pub next : ℕ
    pub statement : stmt_of r.statement ≡ AnnAssign target annotation value simple
    pub first : Placed Expression (seen ts at) at annotation (seen ts next) next places
    pub second : PlacedAfter (Op Equal) Value (seen ts next) next value (seen ts r.next) r.next more
    pub records : Records after old (places ++ more) new

  -- after a value; the NAME that it may be has no colon after it
  abbrev pub ValuePlaced : List Terminal → Read → (old new : S) → Result ReadStatement Stop → Type 0
  ValuePlaced ts value old new z = (profile : Profile) (at : ℕ) (ps : List Stretch) → IsNotNamed Colon ts at
      → Placed Value (seen ts at) at (tree_of value.expr.value) (seen ts value.next) value.next ps
      → IfOk z (FieldsAfter profile ts at ps old new)

  -- after a value, and targets in front of it
  abbrev pub TargetsPlaced : List Terminal → Items → Read → (old new : S) → Result ReadStatement Stop → Type 0
  TargetsPlaced ts targets value old new z = (profile : Profile) (at middle : ℕ) (ps qs : List Stretch) → IsNotNamed Colon ts at
      → Targeted (seen ts at) at (map tree_of targets.exprs.items) (seen ts middle) middle ps
      → Placed Value (seen ts middle) middle (tree_of value.expr.value) (seen ts value.next) value.next qs
      → IfOk z (FieldsAfter profile ts at (ps ++ qs) old new)

  pub record SimplesPlaced (profile : Profile) (ts : List Terminal) (at : ℕ) (old new : S) (r : ReadStatements) : Type 0 where
    pub places : List Stretch
    pub simples : PlacedSimples profile (seen ts at) at (map stmt_of r.statements.items) (seen ts r.next) r.next places
    pub records : Records after old places new

  -- one statement more was read after some, and it is recorded
  pub record StatementTaken (profile : Profile) (self : Reads) (ts : List Terminal) (at : ℕ) (old new : S) (was now : List Stmt)
      (next : ℕ) : Type 0 where
    pub one : ReadStatement
    pub between : S
    pub part : PartAt ts (at + 1) (line.statement profile self (seen ts at)) (stmt_of one.statement) one.next
    pub grown : now ≡ was ++ (stmt_of one.statement ∷ [])
    pub next_is : next ≡ one.next
    pub fields : FieldsPlaced profile ts at old between one
    pub node : new ≡ after between (stretch at one.next)
