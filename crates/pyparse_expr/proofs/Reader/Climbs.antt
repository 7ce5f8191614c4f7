-- Reading by climbing: the loop over operators.
--
-- Carries: climb. On: Reading.
use Rattle.std.proofs.Common.{◌≡◌, refl, sym, ap, ◌∙◌, arith, ℕ, zero, suc, ◌+◌, ◌≤◌, ◌<◌, List, length, Some, None, true, Result, Ok, Err}
use Rattle.pytree_node.specs.Trees.{Expr}
use Rattle.pytree_node.specs.TreeOf.{tree_of}
use Rattle.pytoken.specs.Terminals.{Terminal}
use Rattle.pytoken.specs.declared.values.terminals.Terminal as given
use Rattle.pygrammar.specs.declared.levels.Level.{Level}
use Rattle.pygrammar.specs.declared.levels.Level.TheVariants as level
use Rattle.pygrammar.specs.Operators.{rank}
use Rattle.pygrammar.specs.Precedence.{Infix, Prefix, infix_from, prefix_from}
use Rattle.pygrammar.specs.Reader.{Answer, Found, and_then, operation, prefixed, Reads}
use Rattle.pygrammar.specs.Capped.{cap, capped_step, capped_climb, capped_loop}
use Rattle.pyparse_reads.specs.declared.depth.Depth.{Depth}
use Rattle.pyparse_nodes.specs.declared.found.Read.{Read}
use Rattle.pyparse_nodes.specs.declared.stop.Stop.{Stop}
use Rattle.pyparse_nodes.specs.Answers.{Failed, Answered, FoundAt}
use Rattle.pyparse_reads.specs.Readings.{IsOpen, reads}
use Rattle.pyparse_expr.specs.Inner.Readings.{inner_reads, same_reads, fronts}
use Rattle.pyparse_nodes.specs.Operators.{climbing}
use Rattle.pyparse_nodes.specs.Views.{seen, first_is}
use Rattle.pyparse_expr.proofs.Reader.Reading.{seen_next, seen_length, first_hit, first_miss, failed_then, again, earlier, by_level}

-- the levels of operators are read by their ranks
pub climb_step : (d : ℕ) (next same inner : Reads) (l : Level) (i : List Terminal) → climbing l ≡ true
    → capped_step d next same inner l i ≡ capped_climb d next same inner (rank l) i
climb_step d next same inner level.Or i h = refl
climb_step d next same inner level.And i h = refl
climb_step d next same inner level.Not i h = refl
climb_step d next same inner level.Compare i h = refl
climb_step d next same inner level.BitOr i h = refl
climb_step d next same inner level.BitXor i h = refl
climb_step d next same inner level.BitAnd i h = refl
climb_step d next same inner level.Shift i h = refl
climb_step d next same inner level.Sum i h = refl
climb_step d next same inner level.Term i h = refl
climb_step d next same inner level.Factor i h = refl
climb_step d next same inner level.Power i h = refl
climb_step d next same inner level.Await i h = refl
climb_step d next same inner level.Value i h = absurd (cc)
climb_step d next same inner _ i h = absurd (cc)

-- how far the loop over operators has come: an expression is read, and the
-- reader's loop goes on with it
pub record Climbs (ts : List given.Terminal) (d : Depth) (k : ℕ) (x : Answer Expr) (left : Read) : Type 0 where
  pub within : left.next ≤ length ts
  pub low : left.height ≤ d.room
  pub most : ℕ
  pub enough : length (seen ts left.next) ≤ most
  pub is : x ≡ capped_loop d.room (inner_reads d) k most (tree_of left.expr.value) (seen ts left.next)

pub climb_start : (ts : List given.Terminal) (d : Depth) (k at : ℕ) (r : Read) → FoundAt ts d.room (at + 1) (fronts d k (seen ts at)) r
    → Climbs ts d k (capped_climb d.room (reads d) (same_reads d) (inner_reads d) k (seen ts at)) r
climb_start ts d k at r h = record {
  within = h.within;
  low = h.low;
  most = length (seen ts r.next);
  enough = omega arith;
  is = ap (λ y. and_then y (λ e rest. capped_loop d.room (inner_reads d) k (length rest) e rest)) h.is;
}

pub climb_front_error : (d : Depth) (k : ℕ) (i : List Terminal) (s : Stop) → Failed s (fronts d k i)
    → Failed s (capped_climb d.room (reads d) (same_reads d) (inner_reads d) k i)
climb_front_error d k i s h = failed_then s (fronts d k i) (λ e rest. capped_loop d.room (inner_reads d) k (length rest) e rest) h

module _ (room : ℕ) (self : Reads) (k : ℕ) (ts : List given.Terminal) where
  loop_end : (m n : ℕ) (e : Expr) → None ≡ first_is (infix_from k) (seen ts n)
      → capped_loop room self k m e (seen ts n) ≡ Found e (seen ts n)
  loop_end zero n e h = refl
  loop_end (suc m) n e h = first_miss (infix_from k) (seen ts n) _ _ h

  loop_one : (m n : ℕ) (e : Expr) (o : Infix) → Some o ≡ first_is (infix_from k) (seen ts n)
      → capped_loop room self k (suc m) e (seen ts n) ≡ and_then (cap room (operation self e o (seen ts n) (seen ts (n + 1))))
      (λ f r2. capped_loop room self k m f r2)
  loop_one m n e o h = first_hit (infix_from k) (seen ts n) o (λ p r1. and_then (cap room (operation self e p (seen ts n) r1))
      (λ f r2. capped_loop room self k m f r2)) (Found e (seen ts n)) h
      ∙ ap (λ z. and_then (cap room (operation self e o (seen ts n) z)) (λ f r2. capped_loop room self k m f r2)) (seen_next ts n)

  loop_error : (m n : ℕ) (e : Expr) (o : Infix) (s : Stop) → length (seen ts n) ≤ m → n < length ts
      → Some o ≡ first_is (infix_from k) (seen ts n) → Failed s (cap room (operation self e o (seen ts n) (seen ts (n + 1))))
      → Failed s (capped_loop room self k m e (seen ts n))
  loop_error zero n e o s le w h f = absurd (omega (arith, le, w, seen_length ts n))
  loop_error (suc m) n e o s le w h f = rw (loop_one m n e o h) (failed_then s _ (λ g r2. capped_loop room self k m g r2) f)

pub climb_error : (ts : List given.Terminal) (d : Depth) (k : ℕ) (x : Answer Expr) (left : Read) (o : Infix) (s : Stop)
    → Climbs ts d k x left → left.next < length ts → Some o ≡ first_is (infix_from k) (seen ts left.next)
    → Failed s (cap d.room (operation (inner_reads d) (tree_of left.expr.value) o (seen ts left.next) (seen ts (left.next + 1))))
    → Failed s x
climb_error ts d k x left o s c w h f =
    rw (c.is) (loop_error d.room (inner_reads d) k ts c.most left.next (tree_of left.expr.value) o s c.enough w h f)

pub climb_more : (ts : List given.Terminal) (d : Depth) (k : ℕ) (x : Answer Expr) (left : Read) (o : Infix) (r : Read)
    → Climbs ts d k x left → left.next < length ts → Some o ≡ first_is (infix_from k) (seen ts left.next)
    → FoundAt ts d.room (left.next + 1)
    (cap d.room (operation (inner_reads d) (tree_of left.expr.value) o (seen ts left.next) (seen ts (left.next + 1)))) r → Climbs ts d k x r
climb_more ts d k x left o r c w h f = go c.most c.enough c.is
  where
    go : (m : ℕ) → length (seen ts left.next) ≤ m → x ≡ capped_loop d.room (inner_reads d) k m (tree_of left.expr.value) (seen ts left.next)
        → Climbs ts d k x r
    go zero le q = absurd (omega (arith, le, w, seen_length ts left.next))
    go (suc m) le q = record {
      within = f.within;
      low = f.low;
      most = m;
      enough = omega (arith, le, seen_length ts left.next, seen_length ts r.next, f.ahead);
      is = q ∙ loop_one d.room (inner_reads d) k ts m left.next (tree_of left.expr.value) o h
          ∙ ap (λ z. and_then z (λ g r2. capped_loop d.room (inner_reads d) k m g r2)) f.is;
    }

pub climb_end : (ts : List given.Terminal) (d : Depth) (k : ℕ) (x : Answer Expr) (left : Read) (least : ℕ) → Climbs ts d k x left
    → None ≡ first_is (infix_from k) (seen ts left.next) → least ≤ left.next → FoundAt ts d.room least x left
climb_end ts d k x left least c h le = record {
  ahead = le;
  within = c.within;
  low = c.low;
  is = c.is ∙ loop_end d.room (inner_reads d) k ts c.most left.next (tree_of left.expr.value) h;
}

-- a level of operators, by its loop
pub climbed : (ts : List given.Terminal) (least : ℕ) (d : Depth) (l : Level) (k : ℕ) (i : List Terminal) (z : Result Read Stop) → IsOpen d
    → climbing l ≡ true → k ≡ rank l → Answered ts d.room least (capped_climb d.room (reads d) (same_reads d) (inner_reads d) k i) z
    → Answered ts d.room least (reads d l i) z
climbed ts least d l k i z o c q h =
    let step = climb_step d.room (reads d) (same_reads d) (inner_reads d) l i c
    ∙ ap (λ n. capped_climb d.room (reads d) (same_reads d) (inner_reads d) n i) (sym q) in
    by_level ts least d l i z o (rw step (again ts d.room least _ z h))

pub climb_found : (ts : List given.Terminal) (least : ℕ) (d : Depth) (l : Level) (k : ℕ) (i : List Terminal) (left : Read) → IsOpen d
    → climbing l ≡ true → k ≡ rank l → Climbs ts d k (capped_climb d.room (reads d) (same_reads d) (inner_reads d) k i) left
    → None ≡ first_is (infix_from k) (seen ts left.next) → least ≤ left.next → FoundAt ts d.room least (reads d l i) left
climb_found ts least d l k i left o c q h n le = climbed ts least d l k i (Ok left) o c q (climb_end ts d k _ left least h n le)

pub climb_failed : (ts : List given.Terminal) (d : Depth) (l : Level) (k : ℕ) (i : List Terminal) (s : Stop) → IsOpen d → climbing l ≡ true
    → k ≡ rank l → Failed s (capped_climb d.room (reads d) (same_reads d) (inner_reads d) k i) → Failed s (reads d l i)
climb_failed ts d l k i s o c q h = climbed ts 0 d l k i (Err s) o c q h

-- an operator stands in front
pub front_hit : (ts : List given.Terminal) (d : Depth) (k at : ℕ) (o : Prefix) (z : Result Read Stop)
    → Some o ≡ first_is (prefix_from k) (seen ts at) → Answered ts d.room (at + 1 + 1) (prefixed (inner_reads d) o (seen ts (at + 1))) z
    → Answered ts d.room (at + 1) (fronts d k (seen ts at)) z
front_hit ts d k at o z h a =
    let step = first_hit (prefix_from k) (seen ts at) o (λ p r. prefixed (inner_reads d) p r) (reads d level.Primary (seen ts at)) h
    ∙ ap (λ r. prefixed (inner_reads d) o r) (seen_next ts at) in
    rw step (earlier ts d.room d.room (at + 1) (at + 1 + 1) _ z (omega arith) (omega arith) a)
