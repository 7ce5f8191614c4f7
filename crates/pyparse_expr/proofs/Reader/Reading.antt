-- The reader within a height at a depth, and what the answers of parts say of the whole's.
--
-- Carries: the readers. On: Answers, Readings.
pub use Rattle.pyparse_reads.proofs.Callers.Looks.{seen_next, seen_length, failed_then, low_node, first_miss, first_hit}
use Rattle.std.proofs.Common.{◌≡◌, refl, sym, ap, ◌∙◌, arith, ℕ, zero, suc, ◌+◌, ◌-◌, ◌≤◌, ◌<◌, List, [], ◌∷◌, length, map, drop}
use Rattle.std.proofs.Common.{length-drop, drop-drop, Option, Some, None, cond, Result, Ok, Err}
use Rattle.std.proofs.lemmas.List.{length-map}
use Rattle.std.proofs.lemmas.Bool.{le-leb, lt-leb}
use Rattle.pytree_node.specs.Trees.{Expr}
use Rattle.pytree_node.specs.TreeOf.{tree_of}
use Rattle.pytoken.specs.Terminals.{Terminal}
use Rattle.pytoken.specs.declared.values.terminals.Terminal as given
use Rattle.pytree_height.specs.Heights.{height}
use Rattle.pygrammar.specs.declared.levels.Level.{Level}
use Rattle.pygrammar.specs.Reader.{Answer, Found, TooDeep, and_then, on_first, on_some}
use Rattle.pygrammar.specs.Capped.{cap, capped, capped_step}
use Rattle.pygrammar.proofs.Callers.Steps.{unroll_capped}
use Rattle.pyparse_reads.specs.declared.depth.Depth.{Depth}
use Rattle.pyparse_nodes.specs.declared.found.Read.{Read}
use Rattle.pyparse_nodes.specs.declared.stop.Stop.{Stop}
use Rattle.pyparse_nodes.specs.declared.stop.Stop.TheVariants as stop
use Rattle.pyparse_nodes.specs.Answers.{Failed, Answered, Makes}
use Rattle.pyparse_reads.specs.Readings.{IsOpen, reads}
use Rattle.pyparse_expr.specs.Inner.Readings.{level_at}
use Rattle.pyparse_nodes.specs.Views.{seen, first_is}

-- one level
pub opened : (g d : ℕ) (l : Level) (i : List Terminal) → 0 < g → 0 < d
    → capped g d l i ≡ cap d (capped_step d (capped g d) (capped (g - 1) d) (capped (g - 1) (d - 1)) l i)
opened zero d l i h w = absurd (omega arith)
opened (suc g) zero l i h w = absurd (omega arith)
opened (suc g) (suc d) l i h w = go (suc g - 1) (suc d - 1) (omega arith) (omega arith)
  where
    go : (a b : ℕ) → a ≡ g → b ≡ d
        → capped (suc g) (suc d) l i ≡ cap (suc d) (capped_step (suc d) (capped (suc g) (suc d)) (capped a (suc d)) (capped a b) l i)
    go a b p q = rw (p, q) (unroll_capped g d l i)

pub by_level : (ts : List given.Terminal) (least : ℕ) (d : Depth) (l : Level) (i : List Terminal) (z : Result Read Stop) → IsOpen d
    → Answered ts d.room least (level_at d l i) z → Answered ts d.room least (reads d l i) z
by_level ts least d l i z o h = rw (opened d.steps d.room l i o.steps o.room) h

-- what is no higher than the room, and what is
pub cap_low : (d : ℕ) (e : Expr) (r : List Terminal) → height e ≤ d → cap d (Found e r) ≡ Found e r
cap_low d e r h = ap (λ b. cond b (Found e r) TooDeep) (le-leb (height e) d h)

pub cap_high : (d : ℕ) (e : Expr) (r : List Terminal) → d < height e → cap d (Found e r) ≡ TooDeep
cap_high d e r h = ap (λ b. cond b (Found e r) TooDeep) (lt-leb (height e) d h)

pub failed_cap : (s : Stop) (d : ℕ) (x : Answer Expr) → Failed s x → Failed s (cap d x)
failed_cap stop.NoForm d x h = ap (λ z. cap d z) h
failed_cap stop.TooDeep d x h = ap (λ z. cap d z) h
failed_cap stop.Memory d x h = tt

-- an answer within the room is the same where the room is looked at again
pub again : (ts : List given.Terminal) (room least : ℕ) (x : Answer Expr) (z : Result Read Stop) → Answered ts room least x z
    → Answered ts room least (cap room x) z
again ts room least x (Ok r) h = record {
  ahead = h.ahead;
  within = h.within;
  low = h.low;
  is = ap (λ y. cap room y) h.is ∙ cap_low room (tree_of r.expr.value) (seen ts r.next) (omega (arith, h.low, r.is_height));
}
again ts room least x (Err s) h = failed_cap s room x h

-- an answer of the same, from an earlier place on
pub earlier : (ts : List given.Terminal) (room most least next : ℕ) (x : Answer Expr) (z : Result Read Stop) → most ≤ room → least ≤ next
    → Answered ts most next x z → Answered ts room least x z
earlier ts room most least next x (Ok r) m le h = record {
  ahead = omega (arith, le, h.ahead);
  within = h.within;
  low =
      omega (arith, m, h.low);
  is = h.is;
}
earlier ts room most least next x (Err s) m le h = h

-- an answer that is a node, where the node was made
pub node : (ts : List given.Terminal) (room least : ℕ) (e : Expr) (n : ℕ) (z : Result Read Stop) → least ≤ n → n ≤ length ts
    → Makes room e n z → Answered ts room least (cap room (Found e (seen ts n))) z
node ts room least e n (Ok r) le w h = record {
  ahead = omega (arith, le, h.next_is);
  within = omega (arith, w, h.next_is);
  low = h.low;
  is = cap_low room e (seen ts n) (omega (arith, h.low, r.is_height, ap height h.tree)) ∙ ap (λ t. Found t (seen ts n)) (sym h.tree)
      ∙ ap (λ m. Found (tree_of r.expr.value) (seen ts m)) (sym h.next_is);
}
node ts room least e n (Err stop.NoForm) le w h = absurd h
node ts room least e n (Err stop.TooDeep) le w h = cap_high room e (seen ts n) h
node ts room least e n (Err stop.Memory) le w h = tt
