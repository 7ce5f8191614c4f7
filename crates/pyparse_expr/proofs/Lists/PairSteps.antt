-- The pairs of a dictionary, with commas between them.
--
-- Carries: put_pair, starts_pair, more_pairs. On: Reading, Pushes.
use Rattle.std.proofs.Common.{◌≡◌, refl, sym, ap, ◌∙◌, arith, ℕ, zero, suc, ◌+◌, ◌-◌, ◌≤◌, ◌<◌, max, List, [], ◌∷◌, ◌++◌, length, map}
use Rattle.std.proofs.Common.{length-append, Option, Some, None, true, false, cond, leb}
use Rattle.std.proofs.lemmas.List.{length-map}
use Rattle.pylex_lexeme.specs.declared.kinds.Exact.TheVariants.{Comma, DoubleStar}
use Rattle.pytree_node.specs.declared.expressions.Expr as given_expr
use Rattle.pytree_node.specs.Trees.{Expr, exprs, an_expr, optional, optionals, absent, present, an_optional}
use Rattle.pytree_node.specs.TreeOf.{tree_of, option_of}
use Rattle.pytoken.specs.Terminals.{Terminal, Op}
use Rattle.pytoken.specs.declared.values.terminals.Terminal as given
use Rattle.pytree_height.specs.Heights.{height, list_height, optional_height, optional_heights}
use Rattle.pygrammar.specs.Entries.{Entry, Pair, keys, values}
use Rattle.pygrammar.specs.Looks.{is_op}
use Rattle.pygrammar.specs.Precedence.{starts}
use Rattle.pygrammar.specs.Reader.{Answer, Found, and_then, on_first, on_some, listing_loop, read_pair}
use Rattle.pyparse_reads.specs.declared.depth.Depth.{Depth}
use Rattle.pyparse_nodes.specs.declared.found.Pair as pair
use Rattle.pyparse_nodes.specs.declared.found.Pairs.{Pairs}
use Rattle.pyparse_nodes.specs.declared.stop.Stop.{Stop}
use Rattle.pyparse_nodes.specs.Answers.{Failed}
use Rattle.pyparse_expr.specs.Inner.Pairs.{PairAt, PairsAt, entry, more_pairs_at, pair_of, pairs_of, zipped}
use Rattle.pyparse_expr.specs.Inner.Readings.{inner_reads}
use Rattle.pyparse_nodes.specs.Views.{Stands, seen, first_is, lead_of}
use Rattle.pyparse_nodes.proofs.Callers.Pushes.{pushed}
use Rattle.pyparse_expr.proofs.Reader.Reading.{first_miss, failed_then, seen_length}

-- equally many keys and values
pub zipped_more : (ks : List (Option Expr)) (vs : List Expr) (k : Option Expr) (v : Expr) → length ks ≡ length vs
    → zipped (ks ++ (k ∷ [])) (vs ++ (v ∷ [])) ≡ zipped ks vs ++ (entry k v ∷ [])
zipped_more [] [] k v h = refl
zipped_more [] (w ∷ vs) k v h = absurd (omega (arith, h))
zipped_more (j ∷ ks) [] k v h = absurd (omega (arith, h))
zipped_more (j ∷ ks) (w ∷ vs) k v h = ap (λ es. entry j w ∷ es) (zipped_more ks vs k v (omega (arith, h)))

pub zipped_keys : (ks : List (Option Expr)) (vs : List Expr) → length ks ≡ length vs → keys (zipped ks vs) ≡ optionals ks
zipped_keys [] vs h = refl
zipped_keys (k ∷ ks) [] h = absurd (omega (arith, h))
zipped_keys (None ∷ ks) (v ∷ vs) h = ap (λ os. an_optional absent os) (zipped_keys ks vs (omega (arith, h)))
zipped_keys (Some k ∷ ks) (v ∷ vs) h = ap (λ os. an_optional (present k) os) (zipped_keys ks vs (omega (arith, h)))

pub zipped_values : (ks : List (Option Expr)) (vs : List Expr) → length ks ≡ length vs → values (zipped ks vs) ≡ exprs vs
zipped_values [] [] h = refl
zipped_values [] (v ∷ vs) h = absurd (omega (arith, h))
zipped_values (k ∷ ks) [] h = absurd (omega (arith, h))
zipped_values (None ∷ ks) (v ∷ vs) h = ap (λ es. an_expr v es) (zipped_values ks vs (omega (arith, h)))
zipped_values (Some k ∷ ks) (v ∷ vs) h = ap (λ es. an_expr v es) (zipped_values ks vs (omega (arith, h)))

key_higher : (ks : List (Option Expr)) (k : Option Expr) → optional_heights (optionals (ks ++ (k ∷ []))) ≡ max
    (optional_heights (optionals ks)) (optional_height (optional k))
key_higher [] k = omega arith
key_higher (j ∷ ks) k = omega (arith, key_higher ks k)

value_higher : (vs : List Expr) (v : Expr) → list_height (vs ++ (v ∷ [])) ≡ max (list_height vs) (height v)
value_higher [] v = omega arith
value_higher (w ∷ vs) v = omega (arith, value_higher vs v)

same_length : (ks : List (Option given_expr.Expr)) (vs : List given_expr.Expr) → length ks ≡ length vs
    → length (map option_of ks) ≡ length (map tree_of vs)
same_length ks vs h = length-map ks _ ∙ h ∙ sym (length-map vs _)

-- one more key and value
module _ (ks ls : List (Option given_expr.Expr)) (vs ws : List given_expr.Expr) (k : Option Expr) (v : given_expr.Expr)
    (p : map option_of ls ≡ map option_of ks ++ (k ∷ [])) (q : ws ≡ vs ++ (v ∷ [])) (same : length ks ≡ length vs) where
  pub put_entries : zipped (map option_of ls) (map tree_of ws) ≡ zipped (map option_of ks) (map tree_of vs) ++ (entry k (tree_of v) ∷ [])
  put_entries = ap (λ l. zipped l (map tree_of ws)) p ∙ ap (λ l. zipped (map option_of ks ++ (k ∷ [])) l) (pushed vs ws v q)
      ∙ zipped_more (map option_of ks) (map tree_of vs) k (tree_of v) (same_length ks vs same)

  pub put_same : length ls ≡ length ws
  put_same = sym (length-map ls option_of) ∙ ap (λ l. length l) p ∙ length-append (map option_of ks) (k ∷ [])
      ∙ ap (λ n. n + 1) (length-map ks option_of ∙ same) ∙ sym (ap (λ l. length l) q ∙ length-append vs (v ∷ []))

  pub put_height : (h n m : ℕ) → m ≡ max h n → h ≡ max (optional_heights (optionals (map option_of ks))) (list_height (map tree_of vs))
      → n ≡ max (optional_height (optional k)) (height (tree_of v)) → m ≡ max (optional_heights (optionals (map option_of ls)))
      (list_height (map tree_of ws))
  put_height h n m e a b =
      let x : optional_heights (optionals (map option_of ls)) ≡ max (optional_heights (optionals (map option_of ks)))
      (optional_height (optional k)) = ap (λ l. optional_heights (optionals l)) p ∙ key_higher (map option_of ks) k in
      let y : list_height (map tree_of ws) ≡ max (list_height (map tree_of vs)) (height (tree_of v)) =
      ap (λ l. list_height l) (pushed vs ws v q) ∙ value_higher (map tree_of vs) (tree_of v) in
      omega (arith, e, a, b, x, y)

-- what a dictionary is made of
pub pairs_keys : (p : Pairs) → keys (pairs_of p) ≡ optionals (map option_of p.keys.items)
pairs_keys p = zipped_keys (map option_of p.keys.items) (map tree_of p.values.items) (same_length p.keys.items p.values.items p.same)

pub pairs_values : (p : Pairs) → values (pairs_of p) ≡ exprs (map tree_of p.values.items)
pairs_values p = zipped_values (map option_of p.keys.items) (map tree_of p.values.items) (same_length p.keys.items p.values.items p.same)

-- the terminals that begin a pair
pub stars_start : (ts : List given.Terminal) (at : ℕ) → Stands (Op DoubleStar) ts at → starts Pair (seen ts at) ≡ true
stars_start ts at s = rw s.is refl

pub lead_starts : (r : List Terminal) → None ≡ first_is (is_op DoubleStar) r → starts Pair r ≡ leb 9 (lead_of r)
lead_starts [] h = refl
lead_starts (t ∷ r) h = go t h
  where
    go : (t : Terminal) → None ≡ is_op DoubleStar t → starts Pair (t ∷ r) ≡ leb 9 (lead_of (t ∷ r))
    go (Op DoubleStar) h = absurd (cc)
    go (Op _) h = refl
    go _ h = refl

pub some_pair : (ts : List given.Terminal) (at : ℕ) → true ≡ starts Pair (seen ts at) → 0 < length (seen ts at)
some_pair ts at h = go (seen ts at) h
  where
    go : (r : List Terminal) → true ≡ starts Pair r → 0 < length r
    go [] h = absurd (cc)
    go (t ∷ r) h = omega arith

-- the loop
abbrev pair_loop : Depth → ℕ → List Entry → List Terminal → Answer (List Entry)
pair_loop d m acc r = listing_loop (λ s. read_pair (inner_reads d) s) Pair m acc r

abbrev turned : List given.Terminal → Depth → ℕ → List Entry → ℕ → Answer (List Entry)
turned ts d m acc n = on_first (is_op Comma) (seen ts n) (λ _ r. pair_loop d m acc r) (Found acc (seen ts n))

-- how far it has come
pub record HasPairs (ts : List given.Terminal) (d : Depth) (x : Answer (List Entry)) (p : Pairs) : Type 0 where
  pub within : p.next ≤ length ts
  pub low : p.height ≤ d.room
  pub most : ℕ
  pub enough : length (seen ts p.next) ≤ most + 1
  pub is : x ≡ on_first (is_op Comma) (seen ts p.next) (λ _ r. pair_loop d most (pairs_of p) r) (Found (pairs_of p) (seen ts p.next))

pub pairs_start : (ts : List given.Terminal) (d : Depth) (p : Pairs) → p.next ≤ length ts → p.height ≤ d.room
    → HasPairs ts d (more_pairs_at d (pairs_of p) (seen ts p.next)) p
pairs_start ts d p w h = record {
  within = w;
  low = h;
  most = length (seen ts p.next) - 1;
  enough = omega arith;
  is = go (pairs_of p) (seen ts p.next);
}
  where
    go : (acc : List Entry) (r : List Terminal) → more_pairs_at d acc r ≡ on_first (is_op Comma) r
        (λ _ s. pair_loop d (length r - 1) acc s) (Found acc r)
    go acc [] = refl
    go acc (t ∷ r) = ap (λ n. on_some (is_op Comma t) (λ _. pair_loop d n acc r) (Found acc (t ∷ r))) (less r (t ∷ r) refl)
      where
        less : (r s : List Terminal) → s ≡ t ∷ r → length r ≡ length s - 1
        less r s q = omega (arith, ap (λ l. length l) q)

loop_turn : (d : Depth) (m : ℕ) (acc : List Entry) (r : List Terminal) → true ≡ starts Pair r
    → pair_loop d (suc m) acc r ≡ and_then (read_pair (inner_reads d) r)
    (λ e r1. on_first (is_op Comma) r1 (λ _ r2. pair_loop d m (acc ++ (e ∷ [])) r2) (Found (acc ++ (e ∷ [])) r1))
loop_turn d m acc r h =
    ap (λ b. cond b (and_then (read_pair (inner_reads d) r) (λ e r1. on_first (is_op Comma) r1 (λ _ r2. pair_loop d m (acc ++ (e ∷ [])) r2)
    (Found (acc ++ (e ∷ [])) r1))) (Found acc r)) (sym h)

loop_stops : (d : Depth) (m : ℕ) (acc : List Entry) (r : List Terminal) → false ≡ starts Pair r → pair_loop d m acc r ≡ Found acc r
loop_stops d zero acc r h = refl
loop_stops d (suc m) acc r h =
    ap (λ b. cond b (and_then (read_pair (inner_reads d) r) (λ e r1. on_first (is_op Comma) r1 (λ _ r2. pair_loop d m (acc ++ (e ∷ [])) r2)
    (Found (acc ++ (e ∷ [])) r1))) (Found acc r)) (sym h)

module _ (ts : List given.Terminal) (d : Depth) (x : Answer (List Entry)) (p : Pairs) (c : HasPairs ts d x p) where
  pub pairs_end : (least : ℕ) → None ≡ first_is (is_op Comma) (seen ts p.next) → least ≤ p.next → PairsAt ts d.room least x p
  pairs_end least n le = record {
    ahead = le;
    within = c.within;
    low = c.low;
    is = c.is ∙ first_miss (is_op Comma) (seen ts p.next) _ _ n;
  }

  -- a comma at the end
  pub pairs_stop : (r : Pairs) (least : ℕ) → Stands (Op Comma) ts p.next → false ≡ starts Pair (seen ts (p.next + 1))
      → pairs_of r ≡ pairs_of p → r.next ≡ p.next + 1 → r.height ≡ p.height → least ≤ p.next → PairsAt ts d.room least x r
  pairs_stop r least s n e q h le = record {
    ahead = omega (arith, q, le);
    within = omega (arith, q, s.within);
    low = omega (arith, h, c.low);
    is = c.is ∙ after ∙ ap (λ a. Found a (seen ts (p.next + 1))) (sym e) ∙ ap (λ k. Found (pairs_of r) (seen ts k)) (sym q);
  }
    where
      after : turned ts d c.most (pairs_of p) p.next ≡ Found (pairs_of p) (seen ts (p.next + 1))
      after = rw s.is (loop_stops d c.most (pairs_of p) (seen ts (p.next + 1)) n)

  pub pairs_error : (s : Stop) → Stands (Op Comma) ts p.next → true ≡ starts Pair (seen ts (p.next + 1))
      → Failed s (read_pair (inner_reads d) (seen ts (p.next + 1))) → Failed s x
  pairs_error s o b f = go c.most c.enough c.is
    where
      go : (m : ℕ) → length (seen ts p.next) ≤ m + 1 → x ≡ turned ts d m (pairs_of p) p.next → Failed s x
      go zero le q = absurd (omega (arith, le, some_pair ts (p.next + 1) b, seen_length ts p.next, seen_length ts (p.next + 1)))
      go (suc m) le q =
          let one : Failed s (pair_loop d (suc m) (pairs_of p) (seen ts (p.next + 1))) =
          rw (loop_turn d m (pairs_of p) (seen ts (p.next + 1)) b) (failed_then s _ _ f) in
          rw (q, o.is) one

  pub pairs_more : (r : Pairs) (e : pair.Pair) → Stands (Op Comma) ts p.next → true ≡ starts Pair (seen ts (p.next + 1))
      → PairAt ts d.room (p.next + 1 + 1) (read_pair (inner_reads d) (seen ts (p.next + 1))) e → pairs_of r ≡ pairs_of p ++ (pair_of e ∷ [])
      → r.next ≡ e.next → r.height ≡ max p.height e.height → HasPairs ts d x r
  pairs_more r e o b f g k h = go c.most c.enough c.is
    where
      go : (m : ℕ) → length (seen ts p.next) ≤ m + 1 → x ≡ turned ts d m (pairs_of p) p.next → HasPairs ts d x r
      go zero le q = absurd (omega (arith, le, some_pair ts (p.next + 1) b, seen_length ts p.next, seen_length ts (p.next + 1)))
      go (suc m) le q =
          let one : pair_loop d (suc m) (pairs_of p) (seen ts (p.next + 1)) ≡ turned ts d m (pairs_of p ++ (pair_of e ∷ [])) e.next =
          loop_turn d m (pairs_of p) (seen ts (p.next + 1)) b
          ∙ ap (λ z. and_then z (λ e2 r1. on_first (is_op Comma) r1 (λ _ r2. pair_loop d m (pairs_of p ++ (e2 ∷ [])) r2)
          (Found (pairs_of p ++ (e2 ∷ [])) r1))) f.is in
          let at : turned ts d (suc m) (pairs_of p) p.next ≡ turned ts d m (pairs_of p ++ (pair_of e ∷ [])) e.next = rw o.is one in
          record {
            within = omega (arith, k, f.within);
            low = omega (arith, h, c.low, f.low);
            most = m;
            enough = omega (arith, le, k, f.ahead, seen_length ts p.next, seen_length ts r.next);
            is = q ∙ at ∙ ap (λ a. turned ts d m a e.next) (sym g) ∙ ap (λ y. turned ts d m (pairs_of r) y) (sym k);
          }
