-- Attributes, calls and subscripts: the loop over what stands after an atom.
--
-- Carries: read_primary. On: Reading.
use Rattle.std.proofs.Common.{◌≡◌, refl, ap, ◌∙◌, arith, ℕ, zero, suc, ◌+◌, ◌≤◌, ◌<◌, List, [], ◌∷◌, length, Option, Some, None, Result, Ok}
use Rattle.std.proofs.Common.{Err}
use Rattle.pylex_lexeme.specs.declared.kinds.Exact.TheVariants.{Dot, LPar, LSqb, RSqb}
use Rattle.pytree_node.specs.declared.operators.Context.TheVariants.{Load}
use Rattle.pytree_node.specs.Trees
use Rattle.pytree_node.specs.Trees.{Expr}
use Rattle.pytree_node.specs.TreeOf.{tree_of}
use Rattle.pytoken.specs.Terminals.{Terminal, Op}
use Rattle.pytoken.specs.declared.values.terminals.Terminal as given
use Rattle.pygrammar.specs.Looks.{is_op, name_in}
use Rattle.pygrammar.specs.declared.levels.Level.TheVariants as level
use Rattle.pygrammar.specs.Reader.{Answer, Found, NoForm, TooDeep, and_then, on_first, on_some, call_step, Reads}
use Rattle.pygrammar.specs.Capped.{cap, capped_primary}
use Rattle.pyparse_reads.specs.declared.depth.Depth.{Depth}
use Rattle.pyparse_nodes.specs.declared.found.Read.{Read}
use Rattle.pyparse_nodes.specs.declared.stop.Stop.{Stop}
use Rattle.pyparse_nodes.specs.Answers.{Failed, Answered, FoundAt, Makes}
use Rattle.pyparse_reads.specs.Readings.{IsOpen, reads}
use Rattle.pyparse_expr.specs.Inner.Readings.{inner_reads}
use Rattle.pyparse_nodes.specs.Views.{Stands, seen, first_is}
use Rattle.pyparse_expr.proofs.Reader.Reading.{seen_next, seen_length, first_hit, first_miss, failed_then, failed_cap, again, node}
use Rattle.pyparse_expr.proofs.Reader.Reading.{by_level}

abbrev pub primary_step : Reads → Reads → ℕ → List Terminal → Answer Expr
primary_step next inner room i = and_then (next level.Atom i) (λ e r. capped_primary room inner (length r) e r)

-- what may stand after: an attribute, from after its dot; a subscript, from after its bracket
abbrev pub attribute_at : ℕ → Expr → List Terminal → Answer Expr
attribute_at room e r = cap room (on_first name_in r (λ x r2. Found (Trees.Attribute e x Load) r2) NoForm)

abbrev pub index_at : ℕ → Reads → Expr → List Terminal → Answer Expr
index_at room self e r =
    cap room (and_then (self level.Slices r) (λ s r2. on_first (is_op RSqb) r2 (λ _ r3. Found (Trees.Subscript e s Load) r3) NoForm))

attribute_is : (room : ℕ) (e : Expr) (r : List Terminal) (k : Expr → List Terminal → Answer Expr)
    → on_first name_in r (λ x r2. and_then (cap room (Found (Trees.Attribute e x Load) r2)) k) NoForm ≡ and_then (attribute_at room e r) k
attribute_is room e [] k = refl
attribute_is room e (t ∷ r) k = go (name_in t)
  where
    go : (o : Option (List ℕ)) → on_some o (λ x. and_then (cap room (Found (Trees.Attribute e x Load) r)) k) NoForm ≡ and_then
        (cap room (on_some o (λ x. Found (Trees.Attribute e x Load) r) NoForm)) k
    go None = refl
    go (Some x) = refl

closing : (room : ℕ) (e : Expr) (r : List Terminal) (k : Expr → List Terminal → Answer Expr)
    → on_first (is_op RSqb) r (λ _ r3. and_then (cap room (Found e r3)) k) NoForm ≡ and_then
    (cap room (on_first (is_op RSqb) r (λ _ r3. Found e r3) NoForm)) k
closing room e [] k = refl
closing room e (t ∷ r) k = go (is_op RSqb t)
  where
    go : (o : Option ℕ) → on_some o (λ _. and_then (cap room (Found e r)) k) NoForm ≡ and_then
        (cap room (on_some o (λ _. Found e r) NoForm)) k
    go None = refl
    go (Some x) = refl

index_is : (room : ℕ) (self : Reads) (e : Expr) (r : List Terminal) (k : Expr → List Terminal → Answer Expr)
    → and_then (self level.Slices r) (λ s r2. on_first (is_op RSqb) r2 (λ _ r3. and_then (cap room (Found (Trees.Subscript e s Load) r3)) k)
    NoForm) ≡ and_then (index_at room self e r) k
index_is room self e r k = go (self level.Slices r)
  where
    go : (x : Answer Expr)
        → and_then x (λ s r2. on_first (is_op RSqb) r2 (λ _ r3. and_then (cap room (Found (Trees.Subscript e s Load) r3)) k) NoForm) ≡
        and_then (cap room (and_then x (λ s r2. on_first (is_op RSqb) r2 (λ _ r3. Found (Trees.Subscript e s Load) r3) NoForm))) k
    go NoForm = refl
    go TooDeep = refl
    go (Found s r2) = closing room (Trees.Subscript e s Load) r2 k

-- how far the loop has come
pub record Trails (ts : List given.Terminal) (d : Depth) (x : Answer Expr) (e : Read) : Type 0 where
  pub within : e.next ≤ length ts
  pub low : e.height ≤ d.room
  pub most : ℕ
  pub enough : length (seen ts e.next) ≤ most
  pub is : x ≡ capped_primary d.room (inner_reads d) most (tree_of e.expr.value) (seen ts e.next)

pub trail_start : (ts : List given.Terminal) (d : Depth) (i : List Terminal) (least : ℕ) (r : Read)
    → FoundAt ts d.room least (reads d level.Atom i) r → Trails ts d (primary_step (reads d) (inner_reads d) d.room i) r
trail_start ts d i least r h = record {
  within = h.within;
  low = h.low;
  most = length (seen ts r.next);
  enough = omega arith;
  is = ap (λ y. and_then y (λ e rest. capped_primary d.room (inner_reads d) (length rest) e rest)) h.is;
}

-- one more thing after, that is read by y
abbrev Turn : List given.Terminal → Depth → ℕ → Expr → List Terminal → Answer Expr → Type 0
Turn ts d m e r y = capped_primary d.room (inner_reads d) (suc m) e r ≡ and_then y (λ f r2. capped_primary d.room (inner_reads d) m f r2)

turn_error : (ts : List given.Terminal) (d : Depth) (x : Answer Expr) (e : Read) (y : Answer Expr) (s : Stop) → Trails ts d x e
    → e.next < length ts → ((m : ℕ) → Turn ts d m (tree_of e.expr.value) (seen ts e.next) y) → Failed s y → Failed s x
turn_error ts d x e y s c w t f = go c.most c.enough c.is
  where
    go : (m : ℕ) → length (seen ts e.next) ≤ m → x ≡ capped_primary d.room (inner_reads d) m (tree_of e.expr.value) (seen ts e.next)
        → Failed s x
    go zero le q = absurd (omega (arith, le, w, seen_length ts e.next))
    go (suc m) le q = rw (q ∙ t m) (failed_then s y (λ f r2. capped_primary d.room (inner_reads d) m f r2) f)

turn_more : (ts : List given.Terminal) (d : Depth) (x : Answer Expr) (e : Read) (y : Answer Expr) (r : Read) → Trails ts d x e
    → e.next < length ts → ((m : ℕ) → Turn ts d m (tree_of e.expr.value) (seen ts e.next) y)
    → FoundAt ts d.room (e.next + 1) y r → Trails ts d x r
turn_more ts d x e y r c w t f = go c.most c.enough c.is
  where
    go : (m : ℕ) → length (seen ts e.next) ≤ m → x ≡ capped_primary d.room (inner_reads d) m (tree_of e.expr.value) (seen ts e.next)
        → Trails ts d x r
    go zero le q = absurd (omega (arith, le, w, seen_length ts e.next))
    go (suc m) le q = record {
      within = f.within;
      low = f.low;
      most = m;
      enough = omega (arith, le, seen_length ts e.next, seen_length ts r.next, f.ahead);
      is = q ∙ t m ∙ ap (λ z. and_then z (λ g r2. capped_primary d.room (inner_reads d) m g r2)) f.is;
    }

dot_turn : (ts : List given.Terminal) (d : Depth) (e : Read) → Stands (Op Dot) ts e.next → (m : ℕ)
    → Turn ts d m (tree_of e.expr.value) (seen ts e.next) (attribute_at d.room (tree_of e.expr.value) (seen ts (e.next + 1)))
dot_turn ts d e h m =
    rw h.is (attribute_is d.room (tree_of e.expr.value) (seen ts (e.next + 1)) (λ f r2. capped_primary d.room (inner_reads d) m f r2))

call_turn : (ts : List given.Terminal) (d : Depth) (e : Read) → Stands (Op LPar) ts e.next → (m : ℕ)
    → Turn ts d m (tree_of e.expr.value) (seen ts e.next)
    (cap d.room (call_step (inner_reads d) (tree_of e.expr.value) (seen ts (e.next + 1))))
call_turn ts d e h m = rw h.is refl

index_turn : (ts : List given.Terminal) (d : Depth) (e : Read) → Stands (Op LSqb) ts e.next → (m : ℕ)
    → Turn ts d m (tree_of e.expr.value) (seen ts e.next) (index_at d.room (inner_reads d) (tree_of e.expr.value) (seen ts (e.next + 1)))
index_turn ts d e h m =
    rw h.is (index_is d.room (inner_reads d) (tree_of e.expr.value) (seen ts (e.next + 1))
    (λ f r2. capped_primary d.room (inner_reads d) m f r2))

pub dot_error : (ts : List given.Terminal) (d : Depth) (x : Answer Expr) (e : Read) (s : Stop) → Trails ts d x e → Stands (Op Dot) ts e.next
    → Failed s (attribute_at d.room (tree_of e.expr.value) (seen ts (e.next + 1))) → Failed s x
dot_error ts d x e s c h f = turn_error ts d x e _ s c h.within (dot_turn ts d e h) f

pub dot_more : (ts : List given.Terminal) (d : Depth) (x : Answer Expr) (e r : Read) → Trails ts d x e → Stands (Op Dot) ts e.next
    → FoundAt ts d.room (e.next + 1) (attribute_at d.room (tree_of e.expr.value) (seen ts (e.next + 1))) r → Trails ts d x r
dot_more ts d x e r c h f = turn_more ts d x e _ r c h.within (dot_turn ts d e h) f

pub call_error : (ts : List given.Terminal) (d : Depth) (x : Answer Expr) (e : Read) (s : Stop) → Trails ts d x e
    → Stands (Op LPar) ts e.next → Failed s (cap d.room (call_step (inner_reads d) (tree_of e.expr.value) (seen ts (e.next + 1))))
    → Failed s x
call_error ts d x e s c h f = turn_error ts d x e _ s c h.within (call_turn ts d e h) f

pub call_more : (ts : List given.Terminal) (d : Depth) (x : Answer Expr) (e r : Read) → Trails ts d x e → Stands (Op LPar) ts e.next
    → FoundAt ts d.room (e.next + 1) (cap d.room (call_step (inner_reads d) (tree_of e.expr.value) (seen ts (e.next + 1)))) r
    → Trails ts d x r
call_more ts d x e r c h f = turn_more ts d x e _ r c h.within (call_turn ts d e h) f

pub index_error : (ts : List given.Terminal) (d : Depth) (x : Answer Expr) (e : Read) (s : Stop) → Trails ts d x e
    → Stands (Op LSqb) ts e.next → Failed s (index_at d.room (inner_reads d) (tree_of e.expr.value) (seen ts (e.next + 1))) → Failed s x
index_error ts d x e s c h f = turn_error ts d x e _ s c h.within (index_turn ts d e h) f

pub index_more : (ts : List given.Terminal) (d : Depth) (x : Answer Expr) (e r : Read) → Trails ts d x e → Stands (Op LSqb) ts e.next
    → FoundAt ts d.room (e.next + 1) (index_at d.room (inner_reads d) (tree_of e.expr.value) (seen ts (e.next + 1))) r → Trails ts d x r
index_more ts d x e r c h f = turn_more ts d x e _ r c h.within (index_turn ts d e h) f

trail_stops : (room : ℕ) (self : Reads) (m : ℕ) (e : Expr) (r : List Terminal) → None ≡ first_is (is_op Dot) r
    → None ≡ first_is (is_op LPar) r → None ≡ first_is (is_op LSqb) r → capped_primary room self m e r ≡ Found e r
trail_stops room self zero e r a b c = refl
trail_stops room self (suc m) e r a b c = first_miss (is_op Dot) r _ _ a ∙ first_miss (is_op LPar) r _ _ b ∙ first_miss (is_op LSqb) r _ _ c

pub trail_end : (ts : List given.Terminal) (d : Depth) (x : Answer Expr) (e : Read) (least : ℕ) → Trails ts d x e
    → None ≡ first_is (is_op Dot) (seen ts e.next) → None ≡ first_is (is_op LPar) (seen ts e.next)
    → None ≡ first_is (is_op LSqb) (seen ts e.next) → least ≤ e.next → FoundAt ts d.room least x e
trail_end ts d x e least c p q r le = record {
  ahead = le;
  within = c.within;
  low = c.low;
  is = c.is ∙ trail_stops d.room (inner_reads d) c.most (tree_of e.expr.value) (seen ts e.next) p q r;
}

-- the level, by its loop
pub primary_failed : (ts : List given.Terminal) (d : Depth) (i : List Terminal) (s : Stop) → IsOpen d
    → Failed s (primary_step (reads d) (inner_reads d) d.room i) → Failed s (reads d level.Primary i)
primary_failed ts d i s o h = by_level ts 0 d level.Primary i (Err s) o (failed_cap s d.room _ h)

pub primary_found : (ts : List given.Terminal) (least : ℕ) (d : Depth) (i : List Terminal) (e : Read) → IsOpen d
    → FoundAt ts d.room least (primary_step (reads d) (inner_reads d) d.room i) e → FoundAt ts d.room least (reads d level.Primary i) e
primary_found ts least d i e o h = by_level ts least d level.Primary i (Ok e) o (again ts d.room least _ (Ok e) h)

pub attribute_made : (ts : List given.Terminal) (room n : ℕ) (e : Expr) (x : List ℕ) (z : Result Read Stop)
    → Some x ≡ first_is name_in (seen ts n) → n < length ts → Makes room (Trees.Attribute e x Load) (n + 1) z
    → Answered ts room n (attribute_at room e (seen ts n)) z
attribute_made ts room n e x z h w m =
    let step = first_hit name_in (seen ts n) x (λ y r2. Found (Trees.Attribute e y Load) r2) NoForm h
    ∙ ap (λ r. Found (Trees.Attribute e x Load) r) (seen_next ts n) in
    rw step (node ts room n (Trees.Attribute e x Load) (n + 1) z (omega arith) (omega arith) m)
