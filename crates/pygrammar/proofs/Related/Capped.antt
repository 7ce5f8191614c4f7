-- Two readings within a height, and one beside the plain one: what checks keep, the capped reader keeps.
--
-- Carries: r_capped_descend, r_checked_descend, for KeepsCapped, Caps. On: Related/Expressions.
use Rattle.std.proofs.Common.{ℕ, zero, suc, ◌≤◌, ◌<◌, arith, List, length}
use Rattle.pylex_lexeme.specs.declared.kinds.Exact.TheVariants.{LPar, RSqb, LSqb, Dot}
use Rattle.pytree_node.specs.declared.operators.Context.TheVariants.{Load}
use Rattle.pygrammar.specs.declared.levels.Level.TheVariants.{Primary, Atom, Slices}
use Rattle.pytree_node.specs.Trees
use Rattle.pytree_node.specs.Trees.{Expr}
use Rattle.pytoken.specs.Terminals.{Terminal}
use Rattle.pytree_height.specs.Heights.{height}
use Rattle.pygrammar.specs.Lengths.{weight}
use Rattle.pygrammar.specs.Looks.{is_op, name_in}
use Rattle.pygrammar.specs.Reader.{Answer, Found, Reads, atom, call_step, primary_loop, operation, climb_loop, climb, descend, level_step}
use Rattle.pygrammar.specs.Reader.{and_then}
use Rattle.pygrammar.specs.Capped.{cap, capped_atom, capped_primary, capped_loop, capped_climb, capped_step, capped_descend}
use Rattle.pygrammar.specs.Precedence.{infix_from, prefix_from}
use Rattle.pygrammar.proofs.Depths.Weights.{heavy_op, heavy_name, heavy_infix, heavy_prefix}
use Rattle.pygrammar.proofs.Related.Rules.{Relation, Kept, To, Own, found, none, held, first}
use Rattle.pygrammar.proofs.Related.Expressions.{r_one, r_call, r_operation, r_prefixed}
use Rattle.pygrammar.proofs.Related.Levels.{r_atom, r_room_step, room_step, plain_step, beside_atom}

-- ---- Within two heights.
module _ {R : Relation} (K : Kept R) (d e : ℕ)
    (checks : (t n : ℕ) (x y : Answer Expr) → R Expr height t n x y → R Expr height t n (cap d x) (cap e y)) (inner other : Reads)
    (b : ℕ) (all : To R b inner other) where
  r_capped_primary : (t n m : ℕ) (f : Expr) (r : List Terminal) → t ≤ height f → weight r < n → weight r ≤ b
      → R Expr height t n (capped_primary d inner m f r) (capped_primary e other m f r)
  r_capped_primary t n zero f r g h w = found K g h
  r_capped_primary t n (suc m) f r g h w =
      first K (is_op Dot) (heavy_op Dot) r
      (λ _ r1 q. first K name_in heavy_name r1
      (λ x r2 p. held K (checks t (weight r) (Found (Trees.Attribute f x Load) r2) (Found (Trees.Attribute f x Load) r2)
      (found K (omega (arith, g)) (omega (arith, q, p))))
      (λ v a r3 k z. r_capped_primary v n m a r3 k (omega (arith, h, z)) (omega (arith, w, z)))) (none K))
      (first K (is_op LPar) (heavy_op LPar) r
      (λ _ r1 q. held K (checks t (weight r) (call_step inner f r1) (call_step other f r1)
      (r_call K inner other b all t (weight r) f r1 g (omega (arith, q)) (omega (arith, w, q))))
      (λ v a r3 k z. r_capped_primary v n m a r3 k (omega (arith, h, z)) (omega (arith, w, z))))
      (first K (is_op LSqb) (heavy_op LSqb) r
      (λ _ r1 q. r_one K inner other b all Slices r1 (omega (arith, w, q))
      (λ v s r2 k p. first K (is_op RSqb) (heavy_op RSqb) r2
      (λ _ r3 z. held K (checks v (weight r) (Found (Trees.Subscript f s Load) r3) (Found (Trees.Subscript f s Load) r3)
      (found K (omega (arith, g, k)) (omega (arith, q, p, z))))
      (λ u a r4 y c. r_capped_primary u n m a r4 y (omega (arith, h, c)) (omega (arith, w, c)))) (none K))) (found K g h)))

  r_capped_loop : (t n k m : ℕ) (f : Expr) (r : List Terminal) → t ≤ height f → weight r < n → weight r ≤ b
      → R Expr height t n (capped_loop d inner k m f r) (capped_loop e other k m f r)
  r_capped_loop t n k zero f r g h w = found K g h
  r_capped_loop t n k (suc m) f r g h w =
      first K (infix_from k) (heavy_infix k) r
      (λ o r1 q. held K (checks t (suc (weight r)) (operation inner f o r r1) (operation other f o r r1)
      (r_operation K inner other b all t (suc (weight r)) f o r r1 g q (omega arith) w))
      (λ v a r3 y z. r_capped_loop v n k m a r3 y (omega (arith, h, z)) (omega (arith, w, z)))) (found K g h)

  module _ (same alike : Reads) (equal : Own R b same alike) where
    r_capped_step : (next after : Reads) → Own R (suc b) next after → Own R (suc b) (capped_step d next same inner)
        (capped_step e after alike other)
    r_capped_step next after low l j v =
        r_room_step K d next after same inner other b low all (capped_climb e after alike other)
        (λ i. and_then (after Atom i) (λ f r. capped_primary e other (length r) f r)) (capped_atom alike other)
        (λ k x y i w. held K (first K (prefix_from k) (heavy_prefix k) i
        (λ p r q. r_prefixed K inner other b all (weight i) p r (omega (arith, q)) (omega (arith, w, q)))
        (low Primary i (omega (arith, w))))
        (λ v f r g p. r_capped_loop v (weight i) k (length r) f r g p (omega (arith, w, p))))
        (λ i w. held K (low Atom i (omega (arith, w)))
        (λ v f r g p. r_capped_primary v (weight i) (length r) f r g p (omega (arith, w, p))))
        (r_atom K same alike inner other b equal all) (capped_step e after alike other) (room_step e after alike other) l j
        (omega (arith, v))

    pub r_capped_descend : (k : ℕ) → Own R (suc b) (capped_descend d same inner k) (capped_descend e alike other k)
    r_capped_descend zero l i w = none K
    r_capped_descend (suc k) l i w =
        checks 0 (weight i) (capped_step d (capped_descend d same inner k) same inner l i)
        (capped_step e (capped_descend e alike other k) alike other l i)
        (r_capped_step (capped_descend d same inner k) (capped_descend e alike other k) (r_capped_descend k) l i w)

-- ---- Beside the plain reader.
module _ {R : Relation} (K : Kept R) (d : ℕ) (checks : (t n : ℕ) (x y : Answer Expr) → R Expr height t n x y
    → R Expr height t n (cap d x) y)
    (inner other : Reads) (b : ℕ) (all : To R b inner other) where
  r_checked_primary : (t n m : ℕ) (f : Expr) (r : List Terminal) → t ≤ height f → weight r < n → weight r ≤ b
      → R Expr height t n (capped_primary d inner m f r) (primary_loop other m f r)
  r_checked_primary t n zero f r g h w = found K g h
  r_checked_primary t n (suc m) f r g h w =
      first K (is_op Dot) (heavy_op Dot) r
      (λ _ r1 q. first K name_in heavy_name r1
      (λ x r2 p. held K {y = Found (Trees.Attribute f x Load) r2} {k = λ a r3. capped_primary d inner m a r3}
      {j = λ a r3. primary_loop other m a r3}
      (checks t (weight r) (Found (Trees.Attribute f x Load) r2) (Found (Trees.Attribute f x Load) r2)
      (found K (omega (arith, g)) (omega (arith, q, p))))
      (λ v a r3 k z. r_checked_primary v n m a r3 k (omega (arith, h, z)) (omega (arith, w, z)))) (none K))
      (first K (is_op LPar) (heavy_op LPar) r
      (λ _ r1 q. held K (checks t (weight r) (call_step inner f r1) (call_step other f r1)
      (r_call K inner other b all t (weight r) f r1 g (omega (arith, q)) (omega (arith, w, q))))
      (λ v a r3 k z. r_checked_primary v n m a r3 k (omega (arith, h, z)) (omega (arith, w, z))))
      (first K (is_op LSqb) (heavy_op LSqb) r
      (λ _ r1 q. r_one K inner other b all Slices r1 (omega (arith, w, q))
      (λ v s r2 k p. first K (is_op RSqb) (heavy_op RSqb) r2
      (λ _ r3 z. held K {y = Found (Trees.Subscript f s Load) r3} {k = λ a r4. capped_primary d inner m a r4}
      {j = λ a r4. primary_loop other m a r4}
      (checks v (weight r) (Found (Trees.Subscript f s Load) r3) (Found (Trees.Subscript f s Load) r3)
      (found K (omega (arith, g, k)) (omega (arith, q, p, z))))
      (λ u a r4 y c. r_checked_primary u n m a r4 y (omega (arith, h, c)) (omega (arith, w, c)))) (none K))) (found K g h)))

  r_checked_loop : (t n k m : ℕ) (f : Expr) (r : List Terminal) → t ≤ height f → weight r < n → weight r ≤ b
      → R Expr height t n (capped_loop d inner k m f r) (climb_loop other k m f r)
  r_checked_loop t n k zero f r g h w = found K g h
  r_checked_loop t n k (suc m) f r g h w =
      first K (infix_from k) (heavy_infix k) r
      (λ o r1 q. held K (checks t (suc (weight r)) (operation inner f o r r1) (operation other f o r r1)
      (r_operation K inner other b all t (suc (weight r)) f o r r1 g q (omega arith) w))
      (λ v a r3 y z. r_checked_loop v n k m a r3 y (omega (arith, h, z)) (omega (arith, w, z)))) (found K g h)

  module _ (same : Reads) (equal : Own R b same other) where
    pub r_checked_step : (next after : Reads) → Own R (suc b) next after → Own R (suc b) (capped_step d next same inner)
        (level_step after other)
    r_checked_step next after low l j v =
        r_room_step K d next after same inner other b low all (climb after other)
        (λ i. and_then (after Atom i) (λ f r. primary_loop other (length r) f r)) (atom other)
        (λ k x y i w. held K (first K (prefix_from k) (heavy_prefix k) i
        (λ p r q. r_prefixed K inner other b all (weight i) p r (omega (arith, q)) (omega (arith, w, q)))
        (low Primary i (omega (arith, w))))
        (λ v f r g p. r_checked_loop v (weight i) k (length r) f r g p (omega (arith, w, p))))
        (λ i w. held K (low Atom i (omega (arith, w)))
        (λ v f r g p. r_checked_primary v (weight i) (length r) f r g p (omega (arith, w, p))))
        (beside_atom K same inner other b equal all) (level_step after other) (plain_step after other) l j
        (omega (arith, v))

    pub r_checked_descend : (k : ℕ) → Own R (suc b) (capped_descend d same inner k) (descend other k)
    r_checked_descend zero l i w = none K
    r_checked_descend (suc k) l i w =
        checks 0 (weight i) (capped_step d (capped_descend d same inner k) same inner l i) (level_step (descend other k) other l i)
        (r_checked_step (capped_descend d same inner k) (descend other k) (r_checked_descend k) l i w)
