-- What the program's answers say of the reader's.
use Rattle.std.specs.Prelude.{◌≡◌, ℕ, ◌≤◌, ◌<◌, Option, Some, None, Bool, true, false, List, length, Result, MatchResult}
use Rattle.pytree_node.specs.Trees.{Expr}
use Rattle.pytree_node.specs.TreeOf.{tree_of}
use Rattle.pytree_height.specs.Heights as Heights
use Rattle.pygrammar.specs.Reader.{Answer, Found, NoForm, TooDeep}
use Rattle.pytoken.specs.declared.values.terminals.Terminal.{Terminal}
use Rattle.pyparse_nodes.specs.declared.stop.Stop.{Stop}
use Rattle.pyparse_nodes.specs.declared.stop.Stop.TheVariants as stop
use Rattle.pyparse_nodes.specs.declared.found.Read.{Read}
use Rattle.pyparse_nodes.specs.Views.{seen}

-- why there is no answer
abbrev pub Failed : {A : Type 0} → Stop → Answer A → Type 0
Failed stop.NoForm x = x ≡ NoForm
Failed stop.TooDeep x = x ≡ TooDeep
Failed stop.Memory x = Unit {0}

-- an expression, and the place after it
pub record Made (room : ℕ) (e : Expr) (next : ℕ) (r : Read) : Type 0 where
  pub tree : tree_of r.expr.value ≡ e
  pub next_is : r.next ≡ next
  pub low : r.height ≤ room

-- no node was made: it is too high for the room, or there was no memory
abbrev pub Unmade : ℕ → Stop → Expr → Type 0
Unmade room stop.NoForm e = ⊥
Unmade room stop.TooDeep e = room < Heights.height e
Unmade room stop.Memory e = Unit {0}

-- a node was made, or it is too high
abbrev pub Makes : (room : ℕ) → Expr → (next : ℕ) → Result Read Stop → Type 0
Makes room e next z = MatchResult z (λ r. Made room e next r) (λ s. Unmade room s e)

-- an expression found at a place of a list
pub record FoundAt (ts : List Terminal) (room least : ℕ) (x : Answer Expr) (r : Read) : Type 0 where
  pub ahead : least ≤ r.next
  pub within : r.next ≤ length ts
  pub low : r.height ≤ room
  pub is : x ≡ Found (tree_of r.expr.value) (seen ts r.next)

-- an expression is the reader's answer, and no higher than the room; or there is none, for the reader's reason
abbrev pub Answered : List Terminal → (room least : ℕ) → Answer Expr → Result Read Stop → Type 0
Answered ts room least x z = MatchResult z (λ r. FoundAt ts room least x r) (λ s. Failed s x)

-- another part found at a place, of this value
pub record PartAt {A : Type 0} (ts : List Terminal) (least : ℕ) (x : Answer A) (value : A) (next : ℕ) : Type 0 where
  pub ahead : least ≤ next
  pub within : next ≤ length ts
  pub is : x ≡ Found value (seen ts next)

-- a part is the reader's answer, or there is none, for the reader's reason
abbrev pub PartAnswered : {A R : Type 0} → List Terminal → (least : ℕ) → Answer A → (R → A) → (R → ℕ) → Result R Stop → Type 0
PartAnswered ts least x value next z = MatchResult z (λ r. PartAt ts least x (value r) (next r)) (λ s. Failed s x)

-- a change in place: the new value, or none
abbrev pub IsChanged : {A : Type 0} → Bool → Option A → A → Type 0
IsChanged true x new = x ≡ Some new
IsChanged false x new = x ≡ None

-- the same expression with the contexts of a target
pub record Turned (change : Expr → Option Expr) (e r : Read) : Type 0 where
  pub is : change (tree_of e.expr.value) ≡ Some (tree_of r.expr.value)
  pub height : r.height ≡ e.height
  pub next : r.next ≡ e.next

-- or it is no such target
pub record Unturned (change : Expr → Option Expr) (e : Read) (s : Stop) : Type 0 where
  pub is : change (tree_of e.expr.value) ≡ None
  pub why : s ≡ stop.NoForm

abbrev pub Turns : (Expr → Option Expr) → Read → Result Read Stop → Type 0
Turns change e z = MatchResult z (λ r. Turned change e r) (λ s. Unturned change e s)
