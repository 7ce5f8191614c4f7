-- The places of attributes and subscripts.
--
-- Carries: attribute_step, index_step. On: Made, Looks; Primaries of pyplaces.
use Rattle.std.proofs.Common.{◌≡◌, subst, ℕ, ◌+◌, List, [], ◌∷◌, ◌++◌, Some, Result}
use Rattle.std.specs.Prelude.{IfOk}
use Rattle.pylex_lexeme.specs.declared.kinds.Exact.TheVariants.{Dot, LSqb, RSqb}
use Rattle.pytree_node.specs.declared.operators.Context.TheVariants.{Load}
use Rattle.pytree_node.specs.Trees
use Rattle.pytree_node.specs.TreeOf.{tree_of}
use Rattle.pytoken.specs.Terminals.{Op}
use Rattle.pytoken.specs.declared.values.terminals.Terminal as given
use Rattle.pygrammar.specs.declared.levels.Level.TheVariants.{Primary, Slices}
use Rattle.pygrammar.specs.Looks.{name_in}
use Rattle.pyparse_nodes.specs.declared.found.Read.{Read}
use Rattle.pyparse_nodes.specs.declared.stop.Stop.{Stop}
use Rattle.pyparse_nodes.specs.Answers.{Makes}
use Rattle.pyparse_nodes.specs.Views.{Stands, seen, first_is}
use Rattle.pyplaces.specs.Stretches.{Stretch, stretch}
use Rattle.pyplaces.specs.Placed.{Placed}
use Rattle.pyplaces.specs.Recording.{Records}
use Rattle.pyplaces.proofs.Answers.{records_node, records_more}
use Rattle.pyplaces.proofs.Expressions.Primaries.{placed_attribute, placed_subscript}
use Rattle.pyparse_expr.proofs.Recorders.Made.{WholeAfter, whole_after}
use Rattle.pyparse_reads.proofs.Callers.Looks.{name_first}

module _ {S : Type 0} (after : S → Stretch → S) (u v : S) (ts : List given.Terminal) (at room : ℕ) (e : Read) (ps : List Stretch) where
  pub attribute_placed : (f : List ℕ) (z : Result Read Stop) → Stands (Op Dot) ts e.next → Some f ≡ first_is name_in (seen ts (e.next + 1))
      → Makes room (Trees.Attribute (tree_of e.expr.value) f Load) (e.next + 1 + 1) z → v ≡ after u (stretch at (e.next + 1 + 1))
      → Placed Primary (seen ts at) at (tree_of e.expr.value) (seen ts e.next) e.next ps
      → IfOk z (WholeAfter after ts Primary (seen ts at) at ps u v)
  attribute_placed f z s n m h p =
      let w = name_first f ts (e.next + 1) n in
      let q = subst (λ x. Placed Primary (seen ts at) at (Trees.Attribute (tree_of e.expr.value) x Load) (seen ts (e.next + 1 + 1))
      (e.next + 1 + 1) (ps ++ (stretch at (e.next + 1 + 1) ∷ []))) w.2 (placed_attribute p s.is w.1) in
      whole_after after u v ts ps Primary (seen ts at) at room (Trees.Attribute (tree_of e.expr.value) f Load)
      (e.next + 1 + 1) z m q (records_node h)

  pub subscript_placed : {w : S} {qs : List Stretch} (s : Read) (z : Result Read Stop) → Stands (Op LSqb) ts e.next
      → Placed Slices (seen ts (e.next + 1)) (e.next + 1) (tree_of s.expr.value) (seen ts s.next) s.next qs → Records after u qs w
      → Stands (Op RSqb) ts s.next
      → Makes room (Trees.Subscript (tree_of e.expr.value) (tree_of s.expr.value) Load) (s.next + 1) z
      → v ≡ after w (stretch at (s.next + 1))
      → Placed Primary (seen ts at) at (tree_of e.expr.value) (seen ts e.next) e.next ps
      → IfOk z (WholeAfter after ts Primary (seen ts at) at ps u v)
  subscript_placed s z o q k c m h p =
      whole_after after u v ts ps Primary (seen ts at) at room (Trees.Subscript (tree_of e.expr.value) (tree_of s.expr.value) Load)
      (s.next + 1) z m
      (placed_subscript p o.is q c.is) (records_more k (records_node h))
