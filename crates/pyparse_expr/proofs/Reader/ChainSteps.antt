-- The loops over `and` and `or`, and over comparisons.
--
-- Carries: chain, compare. On: Reading, Signs.
use Rattle.std.proofs.Common.{◌≡◌, refl, sym, ap, subst, ◌∙◌, arith, ℕ, zero, suc, ◌+◌, ◌-◌, ◌≤◌, List, [], ◌∷◌, ◌++◌, length, map, Option}
use Rattle.std.proofs.Common.{Some, None, Result}
use Rattle.pytree_node.specs.declared.operators.BoolOperator.{BoolOperator}
use Rattle.pytree_node.specs.declared.operators.Comparison.{Comparison}
use Rattle.pytree_node.specs.Trees
use Rattle.pytree_node.specs.Trees.{Expr, exprs}
use Rattle.pytree_node.specs.TreeOf.{tree_of}
use Rattle.pytoken.specs.Terminals.{Terminal, Word}
use Rattle.pytoken.specs.declared.values.terminals.Terminal as given
use Rattle.pygrammar.specs.declared.levels.Level.TheVariants as level
use Rattle.pygrammar.specs.Looks.{is_word}
use Rattle.pygrammar.specs.Operators.{below, chain_level, chain_word}
use Rattle.pygrammar.specs.Precedence as precedence
use Rattle.pygrammar.specs.Reader.{Answer, Found, NoForm, TooDeep, and_then, on_some, chain_loop, compare_loop, operation}
use Rattle.pygrammar.specs.Capped.{cap}
use Rattle.pygrammar.proofs.Callers.Terminals.{word_is}
use Rattle.pyparse_expr.specs.declared.chains.Compared.{Compared}
use Rattle.pyparse_reads.specs.declared.depth.Depth.{Depth}
use Rattle.pyparse_nodes.specs.declared.found.Read.{Read}
use Rattle.pyparse_nodes.specs.declared.found.Items.{Items}
use Rattle.pyparse_nodes.specs.declared.stop.Stop.{Stop}
use Rattle.pyparse_nodes.specs.Answers.{Failed, Answered, FoundAt, Makes}
use Rattle.pyparse_expr.specs.Inner.Chains.{LinkedAt, links_of, ComparedAt, MisComparedAt, NotComparedAt}
use Rattle.pyparse_expr.specs.Inner.Readings.{inner_reads}
use Rattle.pyparse_nodes.specs.Views.{Stands, seen, first_is}
use Rattle.pyparse_expr.proofs.Places.Signs.{compares}
use Rattle.pyparse_expr.proofs.Reader.Reading.{first_miss, failed_then, failed_cap, node, seen_length}

-- a place that is not the first one is after it
further : (n k : ℕ) → (k ≡ n → ⊥) → n ≤ k → n + 1 ≤ k
further n k f le = go (k - n) refl
  where
    go : (j : ℕ) → j ≡ k - n → n + 1 ≤ k
    go zero q = absurd (f (omega (arith, q, le)))
    go (suc j) q = omega (arith, q, le)

module _ (ts : List given.Terminal) (d : Depth) (o : BoolOperator) where
  -- how far the loop over `and` or `or` has come
  pub record Links (x : Answer (List Expr)) (items : Items) : Type 0 where
    pub within : items.next ≤ length ts
    pub most : ℕ
    pub enough : length (seen ts items.next) ≤ most
    pub is : x ≡ chain_loop (inner_reads d) o most (map tree_of items.exprs.items) (seen ts items.next)

  pub links_start : (items : Items) → items.next ≤ length ts
      → Links (links_of d o (map tree_of items.exprs.items) (seen ts items.next)) items
  links_start items w = record {
    within = w;
    most = length (seen ts items.next);
    enough = omega arith;
    is = refl;
  }

  abbrev turned : ℕ → List Expr → Answer Expr → Answer (List Expr)
  turned m acc x = and_then x (λ b r. chain_loop (inner_reads d) o m (acc ++ (b ∷ [])) r)

  turn : (m n : ℕ) (acc : List Expr) → Stands (Word (chain_word o)) ts n → chain_loop (inner_reads d) o (suc m) acc (seen ts n) ≡ turned m
      acc (inner_reads d (below (chain_level o)) (seen ts (n + 1)))
  turn m n acc s = rw s.is
      (ap (λ p. on_some p (λ _. turned m acc (inner_reads d (below (chain_level o)) (seen ts (n + 1))))
      (Found acc (Word (chain_word o) ∷ seen ts (n + 1)))) (word_is (chain_word o)))

  pub links_error : (x : Answer (List Expr)) (items : Items) (e : Stop) → Links x items → Stands (Word (chain_word o)) ts items.next
      → Failed e (inner_reads d (below (chain_level o)) (seen ts (items.next + 1))) → Failed e x
  links_error x items e c s f = go c.most c.enough c.is
    where
      go : (m : ℕ) → length (seen ts items.next) ≤ m → x ≡ chain_loop (inner_reads d) o m (map tree_of items.exprs.items)
          (seen ts items.next) → Failed e x
      go zero le q = absurd (omega (arith, le, s.within, seen_length ts items.next))
      go (suc m) le q = rw (q ∙ turn m items.next (map tree_of items.exprs.items) s) (failed_then e _ _ f)

  pub links_more : (x : Answer (List Expr)) (items r : Items) (e : Read) (room : ℕ) → Links x items
      → Stands (Word (chain_word o)) ts items.next
      → FoundAt ts room (items.next + 1 + 1) (inner_reads d (below (chain_level o)) (seen ts (items.next + 1))) e
      → map tree_of r.exprs.items ≡ map tree_of items.exprs.items ++ (tree_of e.expr.value ∷ []) → r.next ≡ e.next → Links x r
  links_more x items r e room c s f p k = go c.most c.enough c.is
    where
      go : (m : ℕ) → length (seen ts items.next) ≤ m → x ≡ chain_loop (inner_reads d) o m (map tree_of items.exprs.items)
          (seen ts items.next) → Links x r
      go zero le q = absurd (omega (arith, le, s.within, seen_length ts items.next))
      go (suc m) le q = record {
        within = omega (arith, k, f.within);
        most = m;
        enough = omega (arith, le, k, f.ahead, seen_length ts items.next, seen_length ts r.next);
        is = q ∙ turn m items.next (map tree_of items.exprs.items) s ∙ ap (λ z. turned m (map tree_of items.exprs.items) z) f.is
            ∙ ap (λ es. chain_loop (inner_reads d) o m es (seen ts e.next)) (sym p)
            ∙ ap (λ n. chain_loop (inner_reads d) o m (map tree_of r.exprs.items) (seen ts n)) (sym k);
      }

  stops : (m n : ℕ) (acc : List Expr) → None ≡ first_is (is_word (chain_word o)) (seen ts n)
      → chain_loop (inner_reads d) o m acc (seen ts n) ≡ Found acc (seen ts n)
  stops zero n acc h = refl
  stops (suc m) n acc h = first_miss (is_word (chain_word o)) (seen ts n) _ _ h

  here : (n : ℕ) → Stands (Word (chain_word o)) ts n → None ≡ first_is (is_word (chain_word o)) (seen ts n) → ⊥
  here n s h = differ (h ∙ ap (λ r. first_is (is_word (chain_word o)) r) s.is ∙ word_is (chain_word o))
    where
      differ : ◌≡◌ {A = Option ℕ} None (Some 0) → ⊥
      differ q = absurd (cc)

  pub links_end : (x : Answer (List Expr)) (items : Items) (n : ℕ) → Links x items
      → None ≡ first_is (is_word (chain_word o)) (seen ts items.next) → Stands (Word (chain_word o)) ts n → n ≤ items.next
      → LinkedAt ts (n + 1) x items
  links_end x items n c h s le = record {
    ahead = further n items.next (λ q. here n s (h ∙ ap (λ k. first_is (is_word (chain_word o)) (seen ts k)) q)) le;
    within = c.within;
    is = c.is ∙ stops c.most items.next (map tree_of items.exprs.items) h;
  }

  -- a first side in front
  front : (m : ℕ) (b : Expr) (acc : List Expr) (r : List Terminal) → chain_loop (inner_reads d) o m (b ∷ acc) r ≡ and_then
      (chain_loop (inner_reads d) o m acc r) (λ es s. Found (b ∷ es) s)
  front zero b acc r = refl
  front (suc m) b acc [] = refl
  front (suc m) b acc (t ∷ r) = go (λ e s. front m b (acc ++ (e ∷ [])) s) (is_word (chain_word o) t)
    where
      one : ((e : Expr) (s : List Terminal) → chain_loop (inner_reads d) o m (b ∷ (acc ++ (e ∷ []))) s ≡ and_then
          (chain_loop (inner_reads d) o m (acc ++ (e ∷ [])) s) (λ es u. Found (b ∷ es) u)) → (x : Answer Expr)
          → turned m (b ∷ acc) x ≡ and_then (turned m acc x) (λ es s. Found (b ∷ es) s)
      one rec NoForm = refl
      one rec TooDeep = refl
      one rec (Found e s) = rec e s

      go : ((e : Expr) (s : List Terminal) → chain_loop (inner_reads d) o m (b ∷ (acc ++ (e ∷ []))) s ≡ and_then
          (chain_loop (inner_reads d) o m (acc ++ (e ∷ [])) s) (λ es u. Found (b ∷ es) u)) → (p : Option ℕ)
          → on_some p (λ _. turned m (b ∷ acc) (inner_reads d (below (chain_level o)) r)) (Found (b ∷ acc) (t ∷ r)) ≡ and_then
          (on_some p (λ _. turned m acc (inner_reads d (below (chain_level o)) r)) (Found acc (t ∷ r))) (λ es s. Found (b ∷ es) s)
      go rec None = refl
      go rec (Some x) = one rec (inner_reads d (below (chain_level o)) r)

  -- what is made of the sides, by those with the first in front
  chain_is : (b : Expr) (r s : List Terminal) (first : List Expr) → first ≡ b ∷ [] → operation (inner_reads d) b (precedence.Joins o) r s ≡
      and_then (links_of d o first r) (λ es t. Found (Trees.BoolOp o (exprs es)) t)
  chain_is b r s first q = sym (rw q (ap (λ z. and_then z (λ es t. Found (Trees.BoolOp o (exprs es)) t)) (front (length r) b [] r)
      ∙ go (links_of d o [] r)))
    where
      go : (x : Answer (List Expr)) → and_then (and_then x (λ es t. Found (b ∷ es) t)) (λ es t. Found (Trees.BoolOp o (exprs es)) t) ≡
          and_then x (λ es t. Found (Trees.BoolOp o (exprs (b ∷ es))) t)
      go NoForm = refl
      go TooDeep = refl
      go (Found es t) = refl

  pub chain_failed : (b : Read) (first : Items) (e : Stop) → map tree_of first.exprs.items ≡ tree_of b.expr.value ∷ [] → first.next ≡ b.next
      → Failed e (links_of d o (map tree_of first.exprs.items) (seen ts first.next))
      → Failed e (cap d.room (operation (inner_reads d) (tree_of b.expr.value) (precedence.Joins o) (seen ts b.next)
      (seen ts (b.next + 1))))
  chain_failed b first e q n f = rw (
    chain_is (tree_of b.expr.value) (seen ts b.next) (seen ts (b.next + 1)) (map tree_of first.exprs.items)
        q,
    ← n,
  ) (failed_cap e d.room _ (failed_then e _ (λ es t. Found (Trees.BoolOp o (exprs es)) t) f))

  pub chain_made : (b : Read) (first items : Items) (z : Result Read Stop) → map tree_of first.exprs.items ≡ tree_of b.expr.value ∷ []
      → first.next ≡ b.next → LinkedAt ts (first.next + 1) (links_of d o (map tree_of first.exprs.items) (seen ts first.next)) items
      → Makes d.room (Trees.BoolOp o (exprs (map tree_of items.exprs.items))) items.next z
      → Answered ts d.room (b.next + 1)
      (cap d.room (operation (inner_reads d) (tree_of b.expr.value) (precedence.Joins o) (seen ts b.next) (seen ts (b.next + 1)))) z
  chain_made b first items z q n f m =
      let e : operation (inner_reads d) (tree_of b.expr.value) (precedence.Joins o) (seen ts b.next) (seen ts (b.next + 1)) ≡ Found
      (Trees.BoolOp o (exprs (map tree_of items.exprs.items))) (seen ts items.next) =
      chain_is (tree_of b.expr.value) (seen ts b.next) (seen ts (b.next + 1)) (map tree_of first.exprs.items) q
      ∙ ap (λ k. and_then (links_of d o (map tree_of first.exprs.items) (seen ts k)) (λ es t. Found (Trees.BoolOp o (exprs es)) t))
      (sym n) ∙ ap (λ y. and_then y (λ es t. Found (Trees.BoolOp o (exprs es)) t)) f.is in
      rw e (node ts d.room (b.next + 1) (Trees.BoolOp o (exprs (map tree_of items.exprs.items))) items.next z
      (omega (arith, n, f.ahead)) f.within m)

module _ (ts : List given.Terminal) (d : Depth) (e : Expr) where
  abbrev whole : List Comparison → List Expr → List Terminal → Answer Expr
  whole os es r = Found (Trees.Compare e os (exprs es)) r

  abbrev sided : ℕ → List Comparison → List Expr → List Terminal → Answer Expr
  sided m os es r = compare_loop (inner_reads d) m os es r whole

  abbrev side : ℕ → List Comparison → List Expr → Comparison → Answer Expr → Answer Expr
  side m os es o x = and_then x (λ b r. sided m (os ++ (o ∷ [])) (es ++ (b ∷ [])) r)

  -- how far the loop over comparisons has come
  pub record Sides (x : Answer Expr) (ops : List Comparison) (items : Items) : Type 0 where
    pub within : items.next ≤ length ts
    pub most : ℕ
    pub enough : length (seen ts items.next) ≤ most
    pub is : x ≡ compare_loop (inner_reads d) most ops (map tree_of items.exprs.items) (seen ts items.next)
        (λ os es r. Found (Trees.Compare e os (exprs es)) r)

  pub sides_start : (r : List Terminal) (ops : List Comparison) (items : Items) → items.next ≤ length ts → ops ≡ []
      → map tree_of items.exprs.items ≡ [] → Sides (operation (inner_reads d) e precedence.Compares (seen ts items.next) r) ops items
  sides_start r ops items w p q = record {
    within = w;
    most = length (seen ts items.next);
    enough = omega arith;
    is = ap (λ os. sided (length (seen ts items.next)) os [] (seen ts items.next)) (sym p)
        ∙ ap (λ es. sided (length (seen ts items.next)) ops es (seen ts items.next)) (sym q);
  }

  pub sides_wrong : (x : Answer Expr) (ops : List Comparison) (items : Items) (s : Stop) → Sides x ops items
      → MisComparedAt ts items.next s → Failed s x
  sides_wrong x ops items s c f = go c.most c.enough c.is
    where
      go : (m : ℕ) → length (seen ts items.next) ≤ m → x ≡ sided m ops (map tree_of items.exprs.items) (seen ts items.next) → Failed s x
      go zero le q = absurd (omega (arith, le, f.within, seen_length ts items.next))
      go (suc m) le q = rw q (f.is (inner_reads d) (λ o r. side m ops (map tree_of items.exprs.items) o (inner_reads d level.BitOr r))
          (whole ops (map tree_of items.exprs.items) (seen ts items.next)))

  pub sides_error : (x : Answer Expr) (ops : List Comparison) (items : Items) (sign : Compared) (s : Stop) → Sides x ops items
      → ComparedAt ts items.next sign → Failed s (inner_reads d level.BitOr (seen ts sign.next)) → Failed s x
  sides_error x ops items sign s c h f = go c.most c.enough c.is
    where
      go : (m : ℕ) → length (seen ts items.next) ≤ m → x ≡ sided m ops (map tree_of items.exprs.items) (seen ts items.next) → Failed s x
      go zero le q = absurd (omega (arith, le, h.ahead, h.within, seen_length ts items.next))
      go (suc m) le q = rw (q ∙ h.is (inner_reads d) (λ o r. side m ops (map tree_of items.exprs.items) o (inner_reads d level.BitOr r))
          (whole ops (map tree_of items.exprs.items) (seen ts items.next))) (failed_then s (inner_reads d level.BitOr (seen ts sign.next))
          (λ b r. sided m (ops ++ (sign.op ∷ [])) (map tree_of items.exprs.items ++ (b ∷ [])) r) f)

  pub sides_more : (x : Answer Expr) (ops more : List Comparison) (items r : Items) (sign : Compared) (b : Read) (room : ℕ)
      → Sides x ops items → ComparedAt ts items.next sign → FoundAt ts room (sign.next + 1) (inner_reads d level.BitOr (seen ts sign.next))
      b → more ≡ ops ++ (sign.op ∷ []) → map tree_of r.exprs.items ≡ map tree_of items.exprs.items ++ (tree_of b.expr.value ∷ [])
      → r.next ≡ b.next → Sides x more r
  sides_more x ops more items r sign b room c h f o p k = go c.most c.enough c.is
    where
      go : (m : ℕ) → length (seen ts items.next) ≤ m → x ≡ sided m ops (map tree_of items.exprs.items) (seen ts items.next) → Sides x more r
      go zero le q = absurd (omega (arith, le, h.ahead, h.within, seen_length ts items.next))
      go (suc m) le q = record {
        within = omega (arith, k, f.within);
        most = m;
        enough = omega (arith, le, k, h.ahead, f.ahead, seen_length ts items.next, seen_length ts r.next);
        is = q ∙ h.is (inner_reads d) (λ p2 r2. side m ops (map tree_of items.exprs.items) p2 (inner_reads d level.BitOr r2))
            (whole ops (map tree_of items.exprs.items) (seen ts items.next))
            ∙ ap (λ z. side m ops (map tree_of items.exprs.items) sign.op z) f.is
            ∙ ap (λ os. sided m os (map tree_of items.exprs.items ++ (tree_of b.expr.value ∷ [])) (seen ts b.next)) (sym o)
            ∙ ap (λ es. sided m more es (seen ts b.next)) (sym p) ∙ ap (λ n. sided m more (map tree_of r.exprs.items) (seen ts n)) (sym k);
      }

  ends : (m n : ℕ) (ops : List Comparison) (es : List Expr) → NotComparedAt ts n → sided m ops es (seen ts n) ≡ whole ops es (seen ts n)
  ends zero n ops es h = refl
  ends (suc m) n ops es h = h.is (inner_reads d) (λ o r. side m ops es o (inner_reads d level.BitOr r)) (whole ops es (seen ts n))

  pub compare_made : (n : ℕ) (x : Answer Expr) (ops : List Comparison) (items : Items) (z : Result Read Stop) → Sides x ops items
      → NotComparedAt ts items.next → n ≤ items.next → Some precedence.Compares ≡ first_is precedence.following (seen ts n)
      → Makes d.room (Trees.Compare e ops (exprs (map tree_of items.exprs.items))) items.next z
      → Answered ts d.room (n + 1) (cap d.room x) z
  compare_made n x ops items z c h le s m =
      let far = further n items.next (λ q. compares ts n s (subst (λ k. NotComparedAt ts k) q h)) le in
      rw (c.is ∙ ends c.most items.next ops (map tree_of items.exprs.items) h)
      (node ts d.room (n + 1) (Trees.Compare e ops (exprs (map tree_of items.exprs.items))) items.next z far c.within m)
