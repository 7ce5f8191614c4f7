-- Clauses of comprehensions: how one begins, and what is made of its parts.
use Rattle.std.specs.Prelude.{◌≡◌, ℕ, ◌+◌, ◌≤◌, Bool, true, false, Some, None, List, length, map}
use Rattle.pytoken.specs.declared.keywords.Keyword.TheVariants as Key
use Rattle.pytree_node.specs.TreeOf.{tree_of, comprehension_of}
use Rattle.pytoken.specs.Terminals.{Word}
use Rattle.pytoken.specs.declared.values.terminals.Terminal.{Terminal}
use Rattle.pygrammar.specs.Looks.{is_word}
use Rattle.pygrammar.specs.Reader.{generator_of}
use Rattle.pygrammar.specs.Targets.{stored}
use Rattle.pyparse_nodes.specs.declared.found.ForClause.{ForClause}
use Rattle.pyparse_nodes.specs.declared.found.Items.{Items}
use Rattle.pyparse_nodes.specs.declared.found.Read.{Read}
use Rattle.pyparse_nodes.specs.declared.stop.Stop.{Stop}
use Rattle.pyparse_nodes.specs.declared.stop.Stop.TheVariants as stop
use Rattle.pyparse_nodes.specs.Views.{Stands, seen, first_is}
use Rattle.pyparse_expr.specs.declared.comprehensions.ClauseStart.{ClauseStart}

-- the words from a place up to another, in front of a target
abbrev pub StartWords : List Terminal → (n : ℕ) → (is_async : Bool) → (at : ℕ) → Type 0
StartWords ts n false at = Stands (Word Key.For) ts n × (at ≡ n + 1)
StartWords ts n true at = Stands (Word Key.Async) ts n × Stands (Word Key.For) ts (n + 1) × (at ≡ n + 2)

-- a clause begins at a place
pub record StartsAt (ts : List Terminal) (n : ℕ) (s : ClauseStart) : Type 0 where
  pub ahead : n + 1 ≤ s.at
  pub within : s.at ≤ length ts
  pub words : StartWords ts n s.is_async s.at

-- none does
pub record NoStart (ts : List Terminal) (n : ℕ) : Type 0 where
  pub no_for : None ≡ first_is (is_word Key.For) (seen ts n)
  pub no_async : None ≡ first_is (is_word Key.Async) (seen ts n)

-- an `async` with no `for` after it
pub record IsCutStart (ts : List Terminal) (n : ℕ) (s : Stop) : Type 0 where
  pub why : s ≡ stop.NoForm
  pub begun : Stands (Word Key.Async) ts n
  pub no_for : None ≡ first_is (is_word Key.For) (seen ts (n + 1))

-- a clause was made of these parts
pub record MadeClause (t i : Read) (cs : Items) (b : Bool) (c : ForClause) : Type 0 where
  pub next : c.next ≡ cs.next
  pub is : Some (comprehension_of c.generator) ≡ generator_of (stored (tree_of t.expr.value)) (tree_of i.expr.value)
      (map tree_of cs.exprs.items) b

-- or none, since the first isn't of target shape
pub record NoClause (t i : Read) (cs : Items) (b : Bool) (s : Stop) : Type 0 where
  pub why : s ≡ stop.NoForm
  pub is : None ≡ generator_of (stored (tree_of t.expr.value)) (tree_of i.expr.value) (map tree_of cs.exprs.items) b
