-- The places of a whole list.
--
-- Carries: read_whole, read_at. On: Made.
use Rattle.std.proofs.Common.{◌≡◌, sym, subst, arith, ℕ, List, [], length, map, Result, Ok, Err}
use Rattle.std.proofs.lemmas.List.{length-map, drop_all}
use Rattle.std.specs.Prelude.{IfOk}
use Rattle.pytree_node.specs.Trees.{Expr}
use Rattle.pytree_node.specs.TreeOf.{tree_of}
use Rattle.pytoken.specs.Terminals.{Terminal}
use Rattle.pytoken.specs.declared.values.terminals.Terminal as given
use Rattle.pytoken.specs.TerminalOf.{terminal}
use Rattle.pygrammar.specs.declared.levels.Level.{Level}
use Rattle.pygrammar.specs.declared.levels.Level.TheVariants as level
use Rattle.pyparse_nodes.specs.declared.found.Read.{Read}
use Rattle.pyparse_nodes.specs.declared.stop.Stop.{Stop}
use Rattle.pyparse_nodes.specs.Views.{seen}
use Rattle.pyplaces.specs.Stretches.{Stretch}
use Rattle.pyplaces.specs.Placed.{Placed}
use Rattle.pyplaces.specs.Recording.{Records}
use Rattle.pyplaces.specs.Rests.{PlacedPart}
use Rattle.pyplaces.proofs.Expressions.Readings.{placed_part}
use Rattle.pyparse_expr.proofs.Recorders.Made.{Whole}

-- up to the end of the list
pub whole_placed : (ts : List given.Terminal) (l : Level) (e : Expr) (n : ℕ) (ps : List Stretch) → n ≡ length ts
    → Placed l (seen ts 0) 0 e (seen ts n) n ps → Placed l (map terminal ts) 0 e [] (length ts) ps
whole_placed ts l e n ps q p =
    let none : seen ts n ≡ [] = drop_all n (map terminal ts) (omega (arith, q, length-map ts terminal)) in
    subst (λ k. Placed l (map terminal ts) 0 e [] k ps) q (subst (λ r. Placed l (map terminal ts) 0 e r n ps) none p)

module _ {S : Type 0} (after : S → Stretch → S) (u v : S) (ts : List given.Terminal) where
  pub whole_part : (at : ℕ) (z : Result Read Stop)
      → IfOk z (λ r. (ps : List Stretch) × PlacedPart (seen ts at) at (tree_of r.expr.value) (seen ts r.next) r.next
      ps × Records after u ps v)
      → IfOk z (Whole after ts level.Part (seen ts at) at u v)
  whole_part at (Ok r) h = (h.0, placed_part h.1, h.2)
  whole_part at (Err s) h = tt

  -- at a level that is this one
  pub whole_at : (l m : Level) (at : ℕ) (z : Result Read Stop) → l ≡ m → IfOk z (Whole after ts m (seen ts at) at u v)
      → IfOk z (Whole after ts l (seen ts at) at u v)
  whole_at l m at z q h = subst (λ k. IfOk z (Whole after ts k (seen ts at) at u v)) (sym q) h
