-- The loop over items with commas between them.
--
-- Carries: listing, tupled, group_tuple. On: Reading.
use Rattle.std.proofs.Common.{◌≡◌, refl, sym, ap, ◌∙◌, arith, ℕ, zero, suc, ◌+◌, ◌-◌, ◌≤◌, ◌<◌, List, [], ◌∷◌, ◌++◌, length, map, Option}
use Rattle.std.proofs.Common.{Some, None, Bool, true, false, cond, Result}
use Rattle.std.specs.Prelude.{max}
use Rattle.std.proofs.lemmas.Bool.{le-leb, lt-leb}
use Rattle.std.proofs.lemmas.List.{map-append}
use Rattle.pylex_lexeme.specs.declared.kinds.Exact.TheVariants.{Comma, RPar}
use Rattle.pytree_node.specs.declared.operators.Context.TheVariants.{Load}
use Rattle.pytree_node.specs.Trees
use Rattle.pytree_node.specs.Trees.{Expr, Exprs, exprs, an_expr}
use Rattle.pytree_node.specs.TreeOf.{tree_of}
use Rattle.pytoken.specs.Terminals.{Terminal, Op}
use Rattle.pytoken.specs.declared.values.terminals.Terminal as given
use Rattle.pygrammar.specs.Entries.{Entry, Single, singles}
use Rattle.pygrammar.specs.Looks.{is_op}
use Rattle.pygrammar.specs.Precedence.{starts}
use Rattle.pygrammar.specs.Reader.{Answer, Found, NoForm, TooDeep, and_then, on_first, on_some, closed, listing_loop}
use Rattle.pygrammar.specs.Capped.{cap}
use Rattle.pyparse_reads.specs.declared.depth.Depth.{Depth}
use Rattle.pyparse_nodes.specs.declared.found.Read.{Read}
use Rattle.pyparse_nodes.specs.declared.found.Items.{Items}
use Rattle.pyparse_expr.specs.declared.listings.Item.{Item}
use Rattle.pyparse_expr.specs.declared.listings.Item.TheVariants as item
use Rattle.pyparse_nodes.specs.declared.stop.Stop.{Stop}
use Rattle.pyparse_nodes.specs.Answers.{Failed, FoundAt, Answered, Makes}
use Rattle.pyparse_expr.specs.Inner.Found.{ListedAt, entries_of}
use Rattle.pyparse_expr.specs.Inner.Lists.{item_of, item_reads, items_of, least_of, more_at}
use Rattle.pyparse_nodes.specs.Views.{Stands, seen, first_is, lead_of}
use Rattle.pyparse_expr.proofs.Reader.Reading.{first_miss, failed_then, failed_cap, node, seen_length}

abbrev pub loop : Depth → Item → ℕ → List Entry → List Terminal → Answer (List Entry)
loop d i m acc r = listing_loop (λ s. and_then (item_reads d i s) (λ e t. Found (Single e) t)) (item_of i) m acc r

-- how far the loop has come
pub record Lists (ts : List given.Terminal) (d : Depth) (i : Item) (x : Answer (List Entry)) (items : Items) : Type 0 where
  pub within : items.next ≤ length ts
  pub low : items.height ≤ d.room
  pub most : ℕ
  pub enough : length (seen ts items.next) ≤ most + 1
  pub is : x ≡ on_first (is_op Comma) (seen ts items.next) (λ _ r. loop d i most (entries_of items) r)
      (Found (entries_of items) (seen ts items.next))

pub list_start : (ts : List given.Terminal) (d : Depth) (i : Item) (items : Items) → items.next ≤ length ts → items.height ≤ d.room
    → Lists ts d i (more_at d i (entries_of items) (seen ts items.next)) items
list_start ts d i items w h = record {
  within = w;
  low = h;
  most = length (seen ts items.next) - 1;
  enough = omega arith;
  is = go (entries_of items) (seen ts items.next);
}
  where
    go : (acc : List Entry) (r : List Terminal)
        → more_at d i acc r ≡ on_first (is_op Comma) r (λ _ s. loop d i (length r - 1) acc s) (Found acc r)
    go acc [] = refl
    go acc (t ∷ r) = ap (λ n. on_some (is_op Comma t) (λ _. loop d i n acc r) (Found acc (t ∷ r))) (less r (t ∷ r) refl)
      where
        less : (r s : List Terminal) → s ≡ t ∷ r → length r ≡ length s - 1
        less r s q = omega (arith, ap (λ l. length l) q)

pub list_end : (ts : List given.Terminal) (d : Depth) (i : Item) (x : Answer (List Entry)) (items : Items) (least : ℕ)
    → Lists ts d i x items → None ≡ first_is (is_op Comma) (seen ts items.next) → least ≤ items.next → ListedAt ts d.room least x items
list_end ts d i x items least c n le = record {
  ahead = le;
  within = c.within;
  low = c.low;
  is = c.is ∙ first_miss (is_op Comma) (seen ts items.next) _ _ n;
}

pub not_starts : (i : Item) (r : List Terminal) → lead_of r < least_of i → starts (item_of i) r ≡ false
not_starts item.StarItem [] h = refl
not_starts item.Elem [] h = refl
not_starts item.Part [] h = refl
not_starts item.Target [] h = refl
not_starts item.StarItem (t ∷ r) h = lt-leb 7 (lead_of (t ∷ r)) h
not_starts item.Elem (t ∷ r) h = lt-leb 7 (lead_of (t ∷ r)) h
not_starts item.Part (t ∷ r) h = lt-leb 5 (lead_of (t ∷ r)) h
not_starts item.Target (t ∷ r) h = lt-leb 7 (lead_of (t ∷ r)) h

pub do_starts : (i : Item) (r : List Terminal) → least_of i ≤ lead_of r → starts (item_of i) r ≡ true
do_starts item.StarItem [] h = absurd (omega (arith, h))
do_starts item.Elem [] h = absurd (omega (arith, h))
do_starts item.Part [] h = absurd (omega (arith, h))
do_starts item.Target [] h = absurd (omega (arith, h))
do_starts item.StarItem (t ∷ r) h = le-leb 7 (lead_of (t ∷ r)) h
do_starts item.Elem (t ∷ r) h = le-leb 7 (lead_of (t ∷ r)) h
do_starts item.Part (t ∷ r) h = le-leb 5 (lead_of (t ∷ r)) h
do_starts item.Target (t ∷ r) h = le-leb 7 (lead_of (t ∷ r)) h

some_lead : (i : Item) (r : List Terminal) → least_of i ≤ lead_of r → 0 < length r
some_lead item.StarItem [] h = absurd (omega (arith, h))
some_lead item.Elem [] h = absurd (omega (arith, h))
some_lead item.Part [] h = absurd (omega (arith, h))
some_lead item.Target [] h = absurd (omega (arith, h))
some_lead i (t ∷ r) h = omega arith

loop_stops : (d : Depth) (i : Item) (m : ℕ) (acc : List Entry) (r : List Terminal) → starts (item_of i) r ≡ false
    → loop d i m acc r ≡ Found acc r
loop_stops d i zero acc r h = refl
loop_stops d i (suc m) acc r h =
    ap (λ b. cond b (and_then (and_then (item_reads d i r) (λ e t. Found (Single e) t))
    (λ e r1. on_first (is_op Comma) r1 (λ _ r2. loop d i m (acc ++ (e ∷ [])) r2) (Found (acc ++ (e ∷ [])) r1))) (Found acc r)) h

loop_turn : (d : Depth) (i : Item) (m : ℕ) (acc : List Entry) (r : List Terminal) → starts (item_of i) r ≡ true
    → loop d i (suc m) acc r ≡ and_then (and_then (item_reads d i r) (λ e t. Found (Single e) t))
    (λ e r1. on_first (is_op Comma) r1 (λ _ r2. loop d i m (acc ++ (e ∷ [])) r2) (Found (acc ++ (e ∷ [])) r1))
loop_turn d i m acc r h =
    ap (λ b. cond b (and_then (and_then (item_reads d i r) (λ e t. Found (Single e) t))
    (λ e r1. on_first (is_op Comma) r1 (λ _ r2. loop d i m (acc ++ (e ∷ [])) r2) (Found (acc ++ (e ∷ [])) r1))) (Found acc r)) h

-- a comma at the end
pub list_stop : (ts : List given.Terminal) (d : Depth) (i : Item) (x : Answer (List Entry)) (items r : Items) (least : ℕ)
    → Lists ts d i x items → Stands (Op Comma) ts items.next → lead_of (seen ts (items.next + 1)) < least_of i
    → entries_of r ≡ entries_of items → r.next ≡ items.next + 1 → r.height ≡ items.height → least ≤ items.next
    → ListedAt ts d.room least x r
list_stop ts d i x items r least c s n p q h le = record {
  ahead = omega (arith, q, le);
  within = omega (arith, q, s.within);
  low = omega (arith, h, c.low);
  is = c.is ∙ after ∙ ap (λ a. Found a (seen ts (items.next + 1))) (sym p) ∙ ap (λ k. Found (entries_of r) (seen ts k)) (sym q);
}
  where
    after : on_first (is_op Comma) (seen ts items.next) (λ _ r. loop d i c.most (entries_of items) r)
        (Found (entries_of items) (seen ts items.next)) ≡ Found (entries_of items) (seen ts (items.next + 1))
    after = rw s.is (loop_stops d i c.most (entries_of items) (seen ts (items.next + 1)) (not_starts i (seen ts (items.next + 1)) n))

pub list_error : (ts : List given.Terminal) (d : Depth) (i : Item) (x : Answer (List Entry)) (items : Items) (e : Stop)
    → Lists ts d i x items → Stands (Op Comma) ts items.next → least_of i ≤ lead_of (seen ts (items.next + 1))
    → Failed e (item_reads d i (seen ts (items.next + 1))) → Failed e x
list_error ts d i x items e c s n f = go c.most c.enough c.is
  where
    go : (m : ℕ) → length (seen ts items.next) ≤ m + 1 → x ≡ on_first (is_op Comma) (seen ts items.next)
        (λ _ r. loop d i m (entries_of items) r) (Found (entries_of items) (seen ts items.next)) → Failed e x
    go zero le q = absurd (omega (
      arith,
      le,
      some_lead i (seen ts (items.next + 1)) n,
      seen_length ts items.next,
      seen_length ts (items.next + 1),
    ))
    go (suc m) le q =
        let one : Failed e (loop d i (suc m) (entries_of items) (seen ts (items.next + 1))) =
        rw (loop_turn d i m (entries_of items) (seen ts (items.next + 1)) (do_starts i (seen ts (items.next + 1)) n))
        (failed_then e _ _ (failed_then e _ (λ e2 t. Found (Single e2) t) f)) in
        rw (q, s.is) one

abbrev turned : List given.Terminal → Depth → Item → ℕ → List Entry → ℕ → Answer (List Entry)
turned ts d i m acc n = on_first (is_op Comma) (seen ts n) (λ _ r2. loop d i m acc r2) (Found acc (seen ts n))

pub list_more : (ts : List given.Terminal) (d : Depth) (i : Item) (x : Answer (List Entry)) (items r : Items) (e : Read)
    → Lists ts d i x items → Stands (Op Comma) ts items.next → least_of i ≤ lead_of (seen ts (items.next + 1))
    → FoundAt ts d.room (items.next + 1 + 1) (item_reads d i (seen ts (items.next + 1))) e
    → map tree_of r.exprs.items ≡ map tree_of items.exprs.items ++ (tree_of e.expr.value ∷ []) → r.next ≡ e.next
    → r.height ≡ max items.height e.height → Lists ts d i x r
list_more ts d i x items r e c s n f p k h = go c.most c.enough c.is
  where
    grown : entries_of items ++ (Single (tree_of e.expr.value) ∷ []) ≡ entries_of r
    grown = sym (ap (λ l. map (λ t. Single t) l) p ∙ map-append (λ t. Single t) (map tree_of items.exprs.items) (tree_of e.expr.value ∷ []))

    go : (m : ℕ) → length (seen ts items.next) ≤ m + 1 → x ≡ on_first (is_op Comma) (seen ts items.next)
        (λ _ r. loop d i m (entries_of items) r) (Found (entries_of items) (seen ts items.next)) → Lists ts d i x r
    go zero le q = absurd (omega (
      arith,
      le,
      some_lead i (seen ts (items.next + 1)) n,
      seen_length ts items.next,
      seen_length ts (items.next + 1),
    ))
    go (suc m) le q =
        let one : loop d i (suc m) (entries_of items) (seen ts (items.next + 1)) ≡ turned ts d i m
        (entries_of items ++ (Single (tree_of e.expr.value) ∷ [])) e.next =
        loop_turn d i m (entries_of items) (seen ts (items.next + 1)) (do_starts i (seen ts (items.next + 1)) n)
        ∙ ap (λ z. and_then (and_then z (λ e2 t. Found (Single e2) t))
        (λ e2 r1. on_first (is_op Comma) r1 (λ _ r2. loop d i m (entries_of items ++ (e2 ∷ [])) r2)
        (Found (entries_of items ++ (e2 ∷ [])) r1))) f.is in
        let at : on_first (is_op Comma) (seen ts items.next) (λ _ r. loop d i (suc m) (entries_of items) r)
        (Found (entries_of items) (seen ts items.next)) ≡ turned ts d i m
        (entries_of items ++ (Single (tree_of e.expr.value) ∷ [])) e.next = rw s.is one in
        record {
          within = omega (arith, k, f.within);
          low = omega (arith, h, c.low, f.low);
          most = m;
          enough = omega (arith, le, k, f.ahead, seen_length ts items.next, seen_length ts r.next);
          is = q ∙ at ∙ ap (λ a. turned ts d i m a e.next) grown ∙ ap (λ y. turned ts d i m (entries_of r) y) (sym k);
        }

-- a first item in front
list_front : (d : Depth) (i : Item) (m : ℕ) (b : Entry) (acc : List Entry) (r : List Terminal)
    → loop d i m (b ∷ acc) r ≡ and_then (loop d i m acc r) (λ es s. Found (b ∷ es) s)
list_front d i zero b acc r = refl
list_front d i (suc m) b acc r = by (λ e r2. list_front d i m b (acc ++ (e ∷ [])) r2) (starts (item_of i) r)
  where
    commas : ((e : Entry) (r2 : List Terminal) → loop d i m (b ∷ (acc ++ (e ∷ []))) r2 ≡ and_then (loop d i m (acc ++ (e ∷ [])) r2)
        (λ es s. Found (b ∷ es) s)) → (e : Entry) (r1 : List Terminal)
        → on_first (is_op Comma) r1 (λ _ r2. loop d i m (b ∷ (acc ++ (e ∷ []))) r2) (Found (b ∷ (acc ++ (e ∷ []))) r1) ≡ and_then
        (on_first (is_op Comma) r1 (λ _ r2. loop d i m (acc ++ (e ∷ [])) r2) (Found (acc ++ (e ∷ [])) r1)) (λ es s. Found (b ∷ es) s)
    commas rec e [] = refl
    commas rec e (t ∷ r1) = on (is_op Comma t)
      where
        on : (o : Option ℕ) → on_some o (λ _. loop d i m (b ∷ (acc ++ (e ∷ []))) r1) (Found (b ∷ (acc ++ (e ∷ []))) (t ∷ r1)) ≡ and_then
            (on_some o (λ _. loop d i m (acc ++ (e ∷ [])) r1) (Found (acc ++ (e ∷ [])) (t ∷ r1))) (λ es s. Found (b ∷ es) s)
        on None = refl
        on (Some x) = rec e r1

    read : ((e : Entry) (r2 : List Terminal) → loop d i m (b ∷ (acc ++ (e ∷ []))) r2 ≡ and_then (loop d i m (acc ++ (e ∷ [])) r2)
        (λ es s. Found (b ∷ es) s)) → (x : Answer Expr) → and_then (and_then x (λ e t. Found (Single e) t))
        (λ e r1. on_first (is_op Comma) r1 (λ _ r2. loop d i m (b ∷ (acc ++ (e ∷ []))) r2) (Found (b ∷ (acc ++ (e ∷ []))) r1)) ≡ and_then
        (and_then (and_then x (λ e t. Found (Single e) t)) (λ e r1. on_first (is_op Comma) r1 (λ _ r2. loop d i m (acc ++ (e ∷ [])) r2)
        (Found (acc ++ (e ∷ [])) r1))) (λ es s. Found (b ∷ es) s)
    read rec NoForm = refl
    read rec TooDeep = refl
    read rec (Found e t) = commas rec (Single e) t

    by : ((e : Entry) (r2 : List Terminal) → loop d i m (b ∷ (acc ++ (e ∷ []))) r2 ≡ and_then (loop d i m (acc ++ (e ∷ [])) r2)
        (λ es s. Found (b ∷ es) s)) → (v : Bool)
        → cond v (and_then (and_then (item_reads d i r) (λ e t. Found (Single e) t))
        (λ e r1. on_first (is_op Comma) r1 (λ _ r2. loop d i m (b ∷ (acc ++ (e ∷ []))) r2) (Found (b ∷ (acc ++ (e ∷ []))) r1)))
        (Found (b ∷ acc) r) ≡ and_then
        (cond v (and_then (and_then (item_reads d i r) (λ e t. Found (Single e) t))
        (λ e r1. on_first (is_op Comma) r1 (λ _ r2. loop d i m (acc ++ (e ∷ [])) r2) (Found (acc ++ (e ∷ [])) r1))) (Found acc r))
        (λ es s. Found (b ∷ es) s)
    by rec true = read rec (item_reads d i r)
    by rec false = refl

pub singles_all : (es : List Expr) → singles (map (λ t. Single t) es) ≡ exprs es
singles_all [] = refl
singles_all (e ∷ es) = ap (λ r. an_expr e r) (singles_all es)

-- what is made of a list after a comma, by the list with the first item in front
pub fronted : (ts : List given.Terminal) (d : Depth) (i : Item) (b : Expr) (n : ℕ) (k : Exprs → List Terminal → Answer Expr)
    → Stands (Op Comma) ts n → and_then (items_of d i [] (seen ts (n + 1))) (λ es r. k (an_expr b (singles es)) r) ≡ and_then
    (more_at d i (Single b ∷ []) (seen ts n)) (λ es r. k (singles es) r)
fronted ts d i b n k s =
    sym (rw s.is (ap (λ z. and_then z (λ es r. k (singles es) r)) (list_front d i (length (seen ts (n + 1))) (Single b) []
    (seen ts (n + 1))) ∙ go (items_of d i [] (seen ts (n + 1)))))
  where
    go : (x : Answer (List Entry)) → and_then (and_then x (λ es r. Found (Single b ∷ es) r)) (λ es r. k (singles es) r) ≡ and_then x
        (λ es r. k (an_expr b (singles es)) r)
    go NoForm = refl
    go TooDeep = refl
    go (Found es r) = refl

pub fronted_failed : (ts : List given.Terminal) (d : Depth) (i : Item) (b : Expr) (n : ℕ) (k : Exprs → List Terminal → Answer Expr)
    (e : Stop) → Stands (Op Comma) ts n → Failed e (more_at d i (Single b ∷ []) (seen ts n))
    → Failed e (and_then (items_of d i [] (seen ts (n + 1))) (λ es r. k (an_expr b (singles es)) r))
fronted_failed ts d i b n k e s f = rw (fronted ts d i b n k s) (failed_then e _ (λ es r. k (singles es) r) f)

pub fronted_found : (ts : List given.Terminal) (d : Depth) (i : Item) (b : Expr) (n room least : ℕ) (k : Exprs → List Terminal
    → Answer Expr) (r : Items) → Stands (Op Comma) ts n → ListedAt ts room least (more_at d i (Single b ∷ []) (seen ts n)) r
    → and_then (items_of d i [] (seen ts (n + 1))) (λ es r. k (an_expr b (singles es)) r) ≡ k
    (exprs (map tree_of r.exprs.items)) (seen ts r.next)
fronted_found ts d i b n room least k r s f = fronted ts d i b n k s ∙ ap (λ z. and_then z (λ es t. k (singles es) t)) f.is
    ∙ ap (λ es. k es (seen ts r.next)) (singles_all (map tree_of r.exprs.items))

module _ (ts : List given.Terminal) (d : Depth) (i : Item) (b : Read) (comma : Stands (Op Comma) ts b.next) where
  pub tuple_failed : (e : Stop) → Failed e (more_at d i (Single (tree_of b.expr.value) ∷ []) (seen ts b.next))
      → Failed e (cap d.room (and_then (items_of d i [] (seen ts (b.next + 1)))
      (λ es s. Found (Trees.Tuple (an_expr (tree_of b.expr.value) (singles es)) Load) s)))
  tuple_failed e f = failed_cap e d.room _ (fronted_failed ts d i (tree_of b.expr.value) b.next
      (λ es s. Found (Trees.Tuple es Load) s) e comma f)

  pub tuple_made : (r : Items) (z : Result Read Stop)
      → ListedAt ts d.room b.next (more_at d i (Single (tree_of b.expr.value) ∷ []) (seen ts b.next)) r
      → Makes d.room (Trees.Tuple (exprs (map tree_of r.exprs.items)) Load) r.next z
      → Answered ts d.room b.next
      (cap d.room (and_then (items_of d i [] (seen ts (b.next + 1)))
      (λ es s. Found (Trees.Tuple (an_expr (tree_of b.expr.value) (singles es)) Load) s))) z
  tuple_made r z f m = rw (fronted_found ts d i (tree_of b.expr.value) b.next d.room b.next (λ es s. Found (Trees.Tuple es Load) s) r comma
      f) (node ts d.room b.next (Trees.Tuple (exprs (map tree_of r.exprs.items)) Load) r.next z f.ahead f.within m)

  pub group_failed : (e : Stop) → Failed e (more_at d i (Single (tree_of b.expr.value) ∷ []) (seen ts b.next))
      → Failed e (cap d.room (and_then (items_of d i [] (seen ts (b.next + 1)))
      (λ es s. closed RPar s (Trees.Tuple (an_expr (tree_of b.expr.value) (singles es)) Load))))
  group_failed e f = failed_cap e d.room _ (fronted_failed ts d i (tree_of b.expr.value) b.next
      (λ es s. closed RPar s (Trees.Tuple es Load)) e comma f)

  group_is : (r : Items) → ListedAt ts d.room b.next (more_at d i (Single (tree_of b.expr.value) ∷ []) (seen ts b.next)) r
      → and_then (items_of d i [] (seen ts (b.next + 1)))
      (λ es s. closed RPar s (Trees.Tuple (an_expr (tree_of b.expr.value) (singles es)) Load)) ≡ closed RPar (seen ts r.next)
      (Trees.Tuple (exprs (map tree_of r.exprs.items)) Load)
  group_is r f = fronted_found ts d i (tree_of b.expr.value) b.next d.room b.next (λ es s. closed RPar s (Trees.Tuple es Load)) r comma f

  pub group_open : (r : Items) → ListedAt ts d.room b.next (more_at d i (Single (tree_of b.expr.value) ∷ []) (seen ts b.next)) r
      → None ≡ first_is (is_op RPar) (seen ts r.next)
      → cap d.room (and_then (items_of d i [] (seen ts (b.next + 1)))
      (λ es s. closed RPar s (Trees.Tuple (an_expr (tree_of b.expr.value) (singles es)) Load))) ≡ NoForm
  group_open r f n = ap (λ y. cap d.room y) (group_is r f ∙ first_miss (is_op RPar) (seen ts r.next) _ NoForm n)

  pub group_made : (r : Items) (z : Result Read Stop)
      → ListedAt ts d.room b.next (more_at d i (Single (tree_of b.expr.value) ∷ []) (seen ts b.next)) r → Stands (Op RPar) ts r.next
      → Makes d.room (Trees.Tuple (exprs (map tree_of r.exprs.items)) Load) (r.next + 1) z
      → Answered ts d.room b.next
      (cap d.room (and_then (items_of d i [] (seen ts (b.next + 1)))
      (λ es s. closed RPar s (Trees.Tuple (an_expr (tree_of b.expr.value) (singles es)) Load)))) z
  group_made r z f s m =
      let e = group_is r f in
      rw (e, s.is) (node ts d.room b.next (Trees.Tuple (exprs (map tree_of r.exprs.items)) Load) (r.next + 1) z (omega (arith, f.ahead))
      (omega (arith, s.within)) m)
