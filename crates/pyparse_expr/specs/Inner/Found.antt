-- Parts of an expression that were found.
use Rattle.std.specs.Prelude.{◌≡◌, ℕ, ◌≤◌, List, length, map}
use Rattle.pytree_node.specs.Trees.{Expr, OptionalExpr, Comprehension, optional}
use Rattle.pytree_node.specs.TreeOf.{tree_of, boxed_of, comprehension_of}
use Rattle.pygrammar.specs.Entries.{Entry, Single}
use Rattle.pygrammar.specs.Reader.{Answer, Found}
use Rattle.pyparse_nodes.specs.declared.found.ForClause.{ForClause}
use Rattle.pyparse_nodes.specs.declared.found.ForClauses.{ForClauses}
use Rattle.pyparse_nodes.specs.declared.found.Items.{Items}
use Rattle.pyparse_nodes.specs.declared.found.Optional.{Optional}
use Rattle.pytoken.specs.declared.values.terminals.Terminal.{Terminal}
use Rattle.pyparse_nodes.specs.Views.{seen}

-- what was read of a list of expressions
abbrev pub entries_of : Items → List Entry
entries_of items = map (λ t. Single t) (map tree_of items.exprs.items)

pub record ListedAt (ts : List Terminal) (room least : ℕ) (x : Answer (List Entry)) (r : Items) : Type 0 where
  pub ahead : least ≤ r.next
  pub within : r.next ≤ length ts
  pub low : r.height ≤ room
  pub is : x ≡ Found (entries_of r) (seen ts r.next)

pub record OptionalAt (ts : List Terminal) (room least : ℕ) (x : Answer OptionalExpr) (r : Optional) : Type 0 where
  pub ahead : least ≤ r.next
  pub within : r.next ≤ length ts
  pub low : r.height ≤ room
  pub is : x ≡ Found (optional (boxed_of r.expr)) (seen ts r.next)

pub record ClausesAt (ts : List Terminal) (least : ℕ) (x : Answer (List Comprehension)) (r : ForClauses) : Type 0 where
  pub ahead : least ≤ r.next
  pub within : r.next ≤ length ts
  pub is : x ≡ Found (map comprehension_of r.generators.items) (seen ts r.next)

pub record TestsAt (ts : List Terminal) (least : ℕ) (x : Answer (List Expr)) (r : Items) : Type 0 where
  pub ahead : least ≤ r.next
  pub within : r.next ≤ length ts
  pub is : x ≡ Found (map tree_of r.exprs.items) (seen ts r.next)

pub record ClauseAt (ts : List Terminal) (least : ℕ) (x : Answer Comprehension) (r : ForClause) : Type 0 where
  pub ahead : least ≤ r.next
  pub within : r.next ≤ length ts
  pub is : x ≡ Found (comprehension_of r.generator) (seen ts r.next)
