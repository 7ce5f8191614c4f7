-- The places of operations, and how far climbing has come.
--
-- Carries: climb, climb_first, prefixed, signed, operation, binary. On: Made, Looks; Climbing and Turns of pyplaces.
use Rattle.std.proofs.Common.{◌≡◌, refl, sym, subst, arith, ℕ, ◌+◌, ◌≤◌, List, [], ◌∷◌, ◌++◌, Some, None, true, Result, Ok}
use Rattle.std.proofs.Common.{Err}
use Rattle.std.specs.Prelude.{IfOk}
use Rattle.pytree_node.specs.declared.operators.Operator.{Operator}
use Rattle.pytree_node.specs.declared.operators.Operator.TheVariants as Bin
use Rattle.pytree_node.specs.declared.operators.UnaryOperator.{UnaryOperator}
use Rattle.pytree_node.specs.Trees
use Rattle.pytree_node.specs.Trees.{Expr}
use Rattle.pytree_node.specs.TreeOf.{tree_of}
use Rattle.pytoken.specs.Terminals.{Terminal}
use Rattle.pytoken.specs.declared.values.terminals.Terminal as given
use Rattle.pygrammar.specs.declared.levels.Level.{Level}
use Rattle.pygrammar.specs.declared.levels.Level.TheVariants as level
use Rattle.pygrammar.specs.Operators.{below, rank}
use Rattle.pygrammar.specs.Precedence as precedence
use Rattle.pygrammar.specs.Precedence.{infix_from, prefix_from, infix_rank, prefix_rank}
use Rattle.pyparse_nodes.specs.declared.found.Read.{Read}
use Rattle.pyparse_nodes.specs.declared.stop.Stop.{Stop}
use Rattle.pyparse_nodes.specs.Answers.{Makes}
use Rattle.pyparse_nodes.specs.Operators.{climbing}
use Rattle.pyparse_nodes.specs.Views.{seen, first_is}
use Rattle.pyparse_expr.specs.Inner.PlacedOperations.{BinaryPlaced}
use Rattle.pyplaces.specs.Stretches.{Stretch, stretch}
use Rattle.pyplaces.specs.Placed.{Placed}
use Rattle.pyplaces.specs.Recording.{Records}
use Rattle.pyplaces.specs.Standing.{Ended, Standing}
use Rattle.pyplaces.proofs.Answers.{read_as, standing_as, records_node, records_made, records_more}
use Rattle.pyplaces.proofs.Expressions.Climbing.{standing_primary, standing_awaits, standing_signed, standing_binary, standing_power}
use Rattle.pyplaces.proofs.Expressions.Climbing.{standing_end}
use Rattle.pyplaces.proofs.Expressions.Turns.{ended, infix_hit, prefix_hit}
use Rattle.pyparse_expr.proofs.Recorders.Made.{Whole, Stood, StoodAfter, at_next, stood_made}
use Rattle.pyparse_reads.proofs.Callers.Looks.{none_first, some_first}

-- ---- The loop over operators.

climbs : (l : Level) → climbing l ≡ true → (10 ≤ rank l) × (rank l ≤ 22)
climbs level.Or h = (omega arith, omega arith)
climbs level.And h = (omega arith, omega arith)
climbs level.Not h = (omega arith, omega arith)
climbs level.Compare h = (omega arith, omega arith)
climbs level.BitOr h = (omega arith, omega arith)
climbs level.BitXor h = (omega arith, omega arith)
climbs level.BitAnd h = (omega arith, omega arith)
climbs level.Shift h = (omega arith, omega arith)
climbs level.Sum h = (omega arith, omega arith)
climbs level.Term h = (omega arith, omega arith)
climbs level.Factor h = (omega arith, omega arith)
climbs level.Power h = (omega arith, omega arith)
climbs level.Await h = (omega arith, omega arith)
climbs _ h = absurd (cc)

pub climbs_low : (k : ℕ) (l : Level) → k ≡ rank l → climbing l ≡ true → k ≤ 22
climbs_low k l q c = omega (arith, q, (climbs l c).1)

pub climb_placed : {i r : List Terminal} {at n : ℕ} {e : Expr} {ps : List Stretch} (k : ℕ) (l : Level) → k ≡ rank l → climbing l ≡ true
    → Standing k i at e r n ps → Placed l i at e r n ps
climb_placed {i} {r} {at} {n} {e} {ps} k l q c s = let h = climbs l c in
    standing_end h.0 h.1 (subst (λ z. Standing z i at e r n ps) q s)

pub climb_ended : (r : List Terminal) (k : ℕ) (l : Level) → k ≡ rank l → climbing l ≡ true → None ≡ first_is (infix_from k) r
    → Ended (rank l) r
climb_ended r k l q c h = let w = climbs l c in
    subst (λ z. Ended z r) q (ended k r (omega (arith, q, w.0)) (none_first (infix_from k) h))

-- the rank of the operator that stands there
pub infix_least : (k : ℕ) (o : precedence.Infix) (ts : List given.Terminal) (n : ℕ) → Some o ≡ first_is (infix_from k) (seen ts n)
    → k ≤ infix_rank o
infix_least k o ts n h = let w = some_first (infix_from k) o ts n h in (infix_hit k w.0 o w.2).1

-- a prefix operator stands there
pub prefix_first : (k : ℕ) (o : precedence.Prefix) (ts : List given.Terminal) (n : ℕ) → Some o ≡ first_is (prefix_from k) (seen ts n)
    → (t : Terminal) × (seen ts n ≡ t ∷ seen ts (n + 1)) × (precedence.before t ≡ Some o) × (k ≤ prefix_rank o)
prefix_first k o ts n h =
    let w = some_first (prefix_from k) o ts n h in
    let p = prefix_hit k w.0 o w.2 in
    (w.0, w.1, p.0, p.1)

-- ---- What stands in front, and operations.

module _ {S : Type 0} (after : S → Stretch → S) (u v : S) (ts : List given.Terminal) where
  pub primary_stood : (k at : ℕ) (z : Result Read Stop) → k ≤ 22 → IfOk z (Whole after ts level.Primary (seen ts at) at u v)
      → IfOk z (Stood after ts k (seen ts at) at u v)
  primary_stood k at (Ok r) b h = (h.0, standing_primary h.1 b, h.2)
  primary_stood k at (Err s) b h = tt

  pub awaits_placed : {w : S} {ps : List Stretch} (k begin at room : ℕ) (t : Terminal) (e : Read) (z : Result Read Stop)
      → at ≡ begin + 1 → precedence.before t ≡ Some precedence.Awaits → k ≤ 22
      → Placed level.Primary (seen ts at) at (tree_of e.expr.value) (seen ts e.next) e.next ps → Records after u ps w
      → v ≡ after w (stretch begin e.next) → Makes room (Trees.Await (tree_of e.expr.value)) e.next z
      → IfOk z (Stood after ts k (t ∷ seen ts at) begin u v)
  awaits_placed k begin at room t e z q b le p r h m =
      stood_made after u v ts k (t ∷ seen ts at) begin room (Trees.Await (tree_of e.expr.value)) e.next z m
      (standing_awaits b refl (at_next q p) le) (records_more r (records_node h))

  pub signed_placed : {w : S} {ps : List Stretch} (k begin at room : ℕ) (t : Terminal) (l : Level) (o : UnaryOperator) (e : Read)
      (z : Result Read Stop) → at ≡ begin + 1 → precedence.before t ≡ Some (precedence.Signed l o) → k ≤ rank l
      → Placed l (seen ts at) at (tree_of e.expr.value) (seen ts e.next) e.next ps → Ended (rank l) (seen ts e.next) → Records after u ps w
      → v ≡ after w (stretch begin e.next) → Makes room (Trees.UnaryOp o (tree_of e.expr.value)) e.next z
      → IfOk z (Stood after ts k (t ∷ seen ts at) begin u v)
  signed_placed k begin at room t l o e z q b le p f r h m =
      stood_made after u v ts k (t ∷ seen ts at) begin room (Trees.UnaryOp o (tree_of e.expr.value)) e.next z m
      (standing_signed b refl (at_next q p) f le) (records_more r (records_node h))

  pub binary_made : {w : S} {ps : List Stretch} (l : Level) (left right : Read) (o : Operator) (at room : ℕ) (z : Result Read Stop)
      → Placed l (seen ts (left.next + 1)) (left.next + 1) (tree_of right.expr.value) (seen ts right.next) right.next ps
      → Ended (rank l) (seen ts right.next) → Records after u ps w → v ≡ after w (stretch at right.next)
      → Makes room (Trees.BinOp (tree_of left.expr.value) o (tree_of right.expr.value)) right.next z
      → IfOk z (λ r. BinaryPlaced after ts l left o at r u v)
  binary_made {ps = ps} l left right o at room (Ok r) p f k h m = record {
    right = tree_of right.expr.value;
    places = ps;
    tree = m.tree;
    placed = read_as (seen ts) m.next_is p;
    ended = subst (λ n. Ended (rank l) (seen ts n)) (sym m.next_is) f;
    records = records_more k (records_made h (sym m.next_is));
  }
  binary_made l left right o at room (Err s) p f k h m = tt

  -- of a level, and the power
  pub binary_stood : (k at : ℕ) (left : Read) (l m : Level) (o : Operator) (ps : List Stretch) (z : Result Read Stop) → m ≡ below l
      → Some (precedence.Left l o) ≡ first_is precedence.following (seen ts left.next) → k ≤ rank l
      → Standing k (seen ts at) at (tree_of left.expr.value) (seen ts left.next) left.next ps
      → IfOk z (λ r. BinaryPlaced after ts m left o at r u v) → IfOk z (StoodAfter after ts k (seen ts at) at ps u v)
  binary_stood k at left l m o ps (Ok r) q s b p h =
      let w = some_first precedence.following (precedence.Left l o) ts left.next s in
      let y = subst (λ j. Placed j (seen ts (left.next + 1)) (left.next + 1) h.right (seen ts r.next) r.next h.places) q h.placed in
      let f = subst (λ j. Ended (rank j) (seen ts r.next)) q h.ended in
      (h.places ++ (stretch at r.next ∷ []), standing_as (seen ts) h.tree refl (standing_binary p w.1 w.2 b y f), h.records)
  binary_stood k at left l m o ps (Err e) q s b p h = tt

  pub power_stood : (k at : ℕ) (left : Read) (ps : List Stretch) (z : Result Read Stop)
      → Some precedence.Raise ≡ first_is precedence.following (seen ts left.next) → k ≤ 21
      → Standing k (seen ts at) at (tree_of left.expr.value) (seen ts left.next) left.next ps
      → IfOk z (λ r. BinaryPlaced after ts level.Factor left Bin.Pow at r u v) → IfOk z (StoodAfter after ts k (seen ts at) at ps u v)
  power_stood k at left ps (Ok r) s b p h =
      let w = some_first precedence.following precedence.Raise ts left.next s in
      (h.places ++ (stretch at r.next ∷ []), standing_as (seen ts) h.tree refl (standing_power p w.1 w.2 b h.placed h.ended), h.records)
  power_stood k at left ps (Err e) s b p h = tt
