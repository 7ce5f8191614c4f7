-- Chains of `and` and `or`, and of comparisons, as the program reads them.
use Rattle.std.specs.Prelude.{◌≡◌, ℕ, ◌+◌, ◌<◌, ◌≤◌, List, length, map}
use Rattle.pytree_node.specs.declared.operators.BoolOperator.{BoolOperator}
use Rattle.pytree_node.specs.declared.operators.Comparison.{Comparison}
use Rattle.pytree_node.specs.Trees.{Expr}
use Rattle.pytree_node.specs.TreeOf.{tree_of}
use Rattle.pytoken.specs.Terminals as tokens
use Rattle.pytoken.specs.declared.values.terminals.Terminal.{Terminal}
use Rattle.pygrammar.specs.Reader.{Answer, Found, Reads, chain_loop, on_comparison}
use Rattle.pyparse_expr.specs.declared.chains.Compared.{Compared}
use Rattle.pyparse_reads.specs.declared.depth.Depth.{Depth}
use Rattle.pyparse_nodes.specs.declared.found.Items.{Items}
use Rattle.pyparse_nodes.specs.declared.stop.Stop.{Stop}
use Rattle.pyparse_nodes.specs.Answers.{Failed}
use Rattle.pyparse_expr.specs.Inner.Readings.{inner_reads}
use Rattle.pyparse_nodes.specs.Views.{seen}

-- what stands after `and` and `or`, and after some that were read
abbrev pub links_of : Depth → BoolOperator → List Expr → List tokens.Terminal → Answer (List Expr)
links_of d o acc r = chain_loop (inner_reads d) o (length r) acc r

pub record LinkedAt (ts : List Terminal) (least : ℕ) (x : Answer (List Expr)) (r : Items) : Type 0 where
  pub ahead : least ≤ r.next
  pub within : r.next ≤ length ts
  pub is : x ≡ Found (map tree_of r.exprs.items) (seen ts r.next)

-- a comparison stands at a place; a `not` without its `in`; or none of them
pub record ComparedAt (ts : List Terminal) (at : ℕ) (c : Compared) : Type 0 where
  pub ahead : at + 1 ≤ c.next
  pub within : c.next ≤ length ts
  pub is : (self : Reads) (hit : Comparison → List tokens.Terminal → Answer Expr) (other : Answer Expr)
      → on_comparison self (seen ts at) hit other ≡ hit c.op (seen ts c.next)

pub record MisComparedAt (ts : List Terminal) (at : ℕ) (s : Stop) : Type 0 where
  pub within : at < length ts
  pub is : (self : Reads) (hit : Comparison → List tokens.Terminal → Answer Expr) (other : Answer Expr)
      → Failed s (on_comparison self (seen ts at) hit other)

pub record NotComparedAt (ts : List Terminal) (at : ℕ) : Type 0 where
  pub is : (self : Reads) (hit : Comparison → List tokens.Terminal → Answer Expr) (other : Answer Expr)
      → on_comparison self (seen ts at) hit other ≡ other
