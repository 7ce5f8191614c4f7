-- The clauses of comprehensions.
--
-- Carries: read_target, target_tuple, ifs. On: ListSteps, Reading.
use Rattle.std.proofs.Common.{◌≡◌, refl, sym, ap, ◌∙◌, arith, ℕ, zero, suc, ◌+◌, ◌≤◌, List, [], ◌∷◌, ◌++◌, length, map, None, Result}
use Rattle.pylex_lexeme.specs.declared.kinds.Exact.TheVariants.{Comma}
use Rattle.pytoken.specs.declared.keywords.Keyword.TheVariants as Key
use Rattle.pytree_node.specs.declared.operators.Context.TheVariants.{Load}
use Rattle.pytree_node.specs.Trees
use Rattle.pytree_node.specs.Trees.{Expr, an_expr, exprs}
use Rattle.pytree_node.specs.TreeOf.{tree_of}
use Rattle.pytoken.specs.Terminals.{Op, Word}
use Rattle.pytoken.specs.declared.values.terminals.Terminal as given
use Rattle.pygrammar.specs.declared.levels.Level.TheVariants as level
use Rattle.pygrammar.specs.Entries.{Single, singles}
use Rattle.pygrammar.specs.Looks.{is_op, is_word}
use Rattle.pygrammar.specs.Reader.{Answer, Found, and_then, target_item, read_target, ifs_loop}
use Rattle.pyparse_reads.specs.declared.depth.Depth.{Depth}
use Rattle.pyparse_nodes.specs.declared.found.Read.{Read}
use Rattle.pyparse_nodes.specs.declared.found.Items.{Items}
use Rattle.pyparse_expr.specs.declared.listings.Item.TheVariants as item
use Rattle.pyparse_nodes.specs.declared.stop.Stop.{Stop}
use Rattle.pyparse_nodes.specs.Answers.{Failed, Answered, FoundAt, Makes}
use Rattle.pyparse_expr.specs.Inner.Found.{ListedAt, TestsAt}
use Rattle.pyparse_expr.specs.Inner.Lists.{items_of, more_at}
use Rattle.pyparse_expr.specs.Inner.Readings.{inner_reads}
use Rattle.pyparse_nodes.specs.Views.{Stands, seen, first_is}
use Rattle.pyparse_expr.proofs.Reader.Reading.{first_miss, failed_then, earlier, low_node, seen_length}
use Rattle.pyparse_expr.proofs.Lists.ListSteps.{fronted_failed, fronted_found}

-- a tuple of target items
abbrev pub tuple_at : List given.Terminal → Depth → Read → Answer Expr
tuple_at ts d b = and_then (items_of d item.Target [] (seen ts (b.next + 1)))
    (λ es r. Found (Trees.Tuple (an_expr (tree_of b.expr.value) (singles es)) Load) r)

module _ (ts : List given.Terminal) (d : Depth) (b : Read) (comma : Stands (Op Comma) ts b.next) where
  pub targets_failed : (e : Stop) → Failed e (more_at d item.Target (Single (tree_of b.expr.value) ∷ []) (seen ts b.next))
      → Failed e (tuple_at ts d b)
  targets_failed e f = fronted_failed ts d item.Target (tree_of b.expr.value) b.next (λ es s. Found (Trees.Tuple es Load) s) e comma f

  pub targets_made : (room : ℕ) (r : Items) (z : Result Read Stop) → room ≡ d.room + 1
      → ListedAt ts d.room b.next (more_at d item.Target (Single (tree_of b.expr.value) ∷ []) (seen ts b.next)) r
      → Makes room (Trees.Tuple (exprs (map tree_of r.exprs.items)) Load) r.next z → Answered ts (d.room + 1) b.next (tuple_at ts d b) z
  targets_made room r z q f m =
      rw (fronted_found ts d item.Target (tree_of b.expr.value) b.next d.room b.next (λ es s. Found (Trees.Tuple es Load) s) r comma f)
      (low_node ts (d.room + 1) b.next (Trees.Tuple (exprs (map tree_of r.exprs.items)) Load) r.next z f.ahead f.within
      (omega (arith, f.low, r.is_height)) (rw (← q) m))

-- a target
module _ (ts : List given.Terminal) (d : Depth) (at : ℕ) where
  pub target_error : (e : Stop) → Failed e (target_item (inner_reads d) (seen ts at)) → Failed e (read_target (inner_reads d) (seen ts at))
  target_error e f = failed_then e _ _ f

  pub target_more : (b : Read) (z : Result Read Stop) → FoundAt ts d.room (at + 1) (target_item (inner_reads d) (seen ts at)) b
      → Stands (Op Comma) ts b.next → Answered ts (d.room + 1) b.next (tuple_at ts d b) z
      → Answered ts (d.room + 1) (at + 1) (read_target (inner_reads d) (seen ts at)) z
  target_more b z f s h = rw (f.is, s.is) (earlier ts (d.room + 1) (d.room + 1) (at + 1) b.next (tuple_at ts d b) z (omega arith) f.ahead h)

  pub target_one : (b : Read) → FoundAt ts d.room (at + 1) (target_item (inner_reads d) (seen ts at)) b
      → None ≡ first_is (is_op Comma) (seen ts b.next) → FoundAt ts (d.room + 1) (at + 1) (read_target (inner_reads d) (seen ts at)) b
  target_one b f n = record {
    ahead = f.ahead;
    within = f.within;
    low = omega (arith, f.low);
    is = rw f.is (first_miss (is_op Comma) (seen ts b.next)
        (λ _ r2. and_then (items_of d item.Target [] r2) (λ es r3. Found (Trees.Tuple (an_expr (tree_of b.expr.value) (singles es)) Load)
        r3)) (Found (tree_of b.expr.value) (seen ts b.next)) n);
  }

-- how far the conditions were read
pub record Tests (ts : List given.Terminal) (d : Depth) (x : Answer (List Expr)) (items : Items) : Type 0 where
  pub within : items.next ≤ length ts
  pub most : ℕ
  pub enough : length (seen ts items.next) ≤ most
  pub is : x ≡ ifs_loop (inner_reads d) most (map tree_of items.exprs.items) (seen ts items.next)

pub tests_start : (ts : List given.Terminal) (d : Depth) (at : ℕ) (items : Items) → at ≤ length ts → map tree_of items.exprs.items ≡ []
    → items.next ≡ at → Tests ts d (ifs_loop (inner_reads d) (length (seen ts at)) [] (seen ts at)) items
tests_start ts d at items w e n = record {
  within = omega (arith, w, n);
  most = length (seen ts at);
  enough = omega (arith, ap (λ k. length (seen ts k)) n);
  is = ap (λ es. ifs_loop (inner_reads d) (length (seen ts at)) es (seen ts at)) (sym e)
      ∙ ap (λ k. ifs_loop (inner_reads d) (length (seen ts at)) (map tree_of items.exprs.items) (seen ts k)) (sym n);
}

module _ (ts : List given.Terminal) (d : Depth) (x : Answer (List Expr)) (items : Items) (c : Tests ts d x items) where
  pub tests_end : (least : ℕ) → None ≡ first_is (is_word Key.If) (seen ts items.next) → least ≤ items.next → TestsAt ts least x items
  tests_end least n le = record { ahead = le; within = c.within; is = c.is ∙ go c.most }
    where
      go : (m : ℕ) → ifs_loop (inner_reads d) m (map tree_of items.exprs.items) (seen ts items.next) ≡ Found
          (map tree_of items.exprs.items) (seen ts items.next)
      go zero = refl
      go (suc m) = first_miss (is_word Key.If) (seen ts items.next) _ _ n

  pub tests_error : (e : Stop) → Stands (Word Key.If) ts items.next
      → Failed e (inner_reads d level.Or (seen ts (items.next + 1))) → Failed e x
  tests_error e s f = go c.most c.enough c.is
    where
      go : (m : ℕ) → length (seen ts items.next) ≤ m → x ≡ ifs_loop (inner_reads d) m (map tree_of items.exprs.items) (seen ts items.next)
          → Failed e x
      go zero le q = absurd (omega (arith, le, s.within, seen_length ts items.next))
      go (suc m) le q = rw (q, s.is) (failed_then e _ (λ t r. ifs_loop (inner_reads d) m (map tree_of items.exprs.items ++ (t ∷ [])) r) f)

  pub tests_more : (room : ℕ) (r : Items) (t : Read) → Stands (Word Key.If) ts items.next
      → FoundAt ts room (items.next + 1 + 1) (inner_reads d level.Or (seen ts (items.next + 1))) t
      → map tree_of r.exprs.items ≡ map tree_of items.exprs.items ++ (tree_of t.expr.value ∷ []) → r.next ≡ t.next → Tests ts d x r
  tests_more room r t s f p k = go c.most c.enough c.is
    where
      turned : ℕ → List Expr → ℕ → Answer (List Expr)
      turned m es n = ifs_loop (inner_reads d) m es (seen ts n)

      go : (m : ℕ) → length (seen ts items.next) ≤ m → x ≡ ifs_loop (inner_reads d) m (map tree_of items.exprs.items) (seen ts items.next)
          → Tests ts d x r
      go zero le q = absurd (omega (arith, le, s.within, seen_length ts items.next))
      go (suc m) le q =
          let one : ifs_loop (inner_reads d) (suc m) (map tree_of items.exprs.items) (seen ts items.next) ≡ ifs_loop (inner_reads d) m
          (map tree_of items.exprs.items ++ (tree_of t.expr.value ∷ [])) (seen ts t.next) = rw (s.is, f.is) refl in
          record {
            within = omega (arith, k, f.within);
            most = m;
            enough = omega (arith, le, k, f.ahead, seen_length ts items.next, seen_length ts r.next);
            is = q ∙ one ∙ ap (λ es. ifs_loop (inner_reads d) m es (seen ts t.next)) (sym p)
                ∙ ap (λ n. ifs_loop (inner_reads d) m (map tree_of r.exprs.items) (seen ts n)) (sym k);
          }
