-- The arguments of a call, one after the other.
--
-- Carries: call_step, more_arguments. On: Reading, ArgumentOrder.
use Rattle.std.proofs.Common.{◌≡◌, refl, sym, ap, subst, ◌∙◌, arith, ℕ, zero, suc, ◌+◌, ◌-◌, ◌≤◌, ◌<◌, max, List, [], ◌∷◌, ◌++◌, length}
use Rattle.std.proofs.Common.{map, Option, Some, None, Bool, true, false, cond, Result}
use Rattle.std.proofs.lemmas.Bool.{le-leb, lt-leb}
use Rattle.std.specs.Borrow.{Bor}
use Rattle.std.specs.Str.{chars}
use Rattle.unicode_normalization.specs.Forms.{nfkc}
use Rattle.pylex_lexeme.specs.declared.kinds.Exact.TheVariants.{Comma, RPar, Star, DoubleStar, Equal}
use Rattle.pytree_node.specs.declared.expressions.Expr as given_expr
use Rattle.pytree_node.specs.declared.expressions.Keyword as given_keyword
use Rattle.pytree_node.specs.Trees
use Rattle.pytree_node.specs.Trees.{Expr, Keyword}
use Rattle.pytree_node.specs.TreeOf.{tree_of, keyword_of}
use Rattle.pytoken.specs.Terminals.{Terminal, Op}
use Rattle.pytoken.specs.declared.values.terminals.Terminal as given
use Rattle.pytree_height.specs.Heights.{height, list_height, keyword_heights}
use Rattle.pygrammar.specs.Entries.{Entry, Argument}
use Rattle.pygrammar.specs.Looks.{is_op}
use Rattle.pygrammar.specs.Precedence.{starts, starts_comp}
use Rattle.pygrammar.specs.Reader.{Answer, Found, NoForm, TooDeep, and_then, on_first, on_some, made, listing_loop, others_of}
use Rattle.pygrammar.specs.Reader.{read_argument, called_with, call_step, generator_call}
use Rattle.pygrammar.specs.Capped.{cap}
use Rattle.pyparse_nodes.specs.declared.actual.Actual.{Actual}
use Rattle.pyparse_nodes.specs.declared.actual.ArgumentForm.{ArgumentForm}
use Rattle.pyparse_nodes.specs.declared.actual.ArgumentForm.TheVariants as kind
use Rattle.pyparse_reads.specs.declared.depth.Depth.{Depth}
use Rattle.pyparse_nodes.specs.declared.found.Read.{Read}
use Rattle.pyparse_nodes.specs.declared.stop.Stop.{Stop}
use Rattle.pyparse_nodes.specs.Answers.{Failed, Answered, FoundAt}
use Rattle.pyparse_expr.specs.Inner.Arguments.{State, start, step, steps, state_of, level_of, place_of, entry_of, IsKindAt, AddedAt}
use Rattle.pyparse_expr.specs.Inner.Arguments.{ActualAt, arguments_of, finished, called_from}
use Rattle.pyparse_expr.specs.Inner.Readings.{inner_reads}
use Rattle.pyparse_nodes.specs.Views.{Stands, IsNamed, IsNotNamed, seen, first_is, lead_of}
use Rattle.pyparse_expr.proofs.Calls.ArgumentOrder.{called_steps}
use Rattle.pyparse_expr.proofs.Reader.LevelSteps.{name_miss}
use Rattle.pyparse_nodes.proofs.Callers.Pushes.{pushed_height}
use Rattle.pyparse_expr.proofs.Reader.Reading.{first_miss, failed_then, earlier, seen_length}

-- lists that grow by one
pub args_height : (xs ys : List given_expr.Expr) (e : given_expr.Expr) (h k w : ℕ) → ys ≡ xs ++ (e ∷ [])
    → h ≡ max (list_height (map tree_of xs)) w → k ≡ height (tree_of e) → max h k ≡ max (list_height (map tree_of ys)) w
args_height xs ys e h k w q a b = omega (arith, a, b, pushed_height xs ys e (list_height (map tree_of xs)) k q refl b)

higher : (ks : List Keyword) (k : Keyword) → keyword_heights (Trees.keywords (ks ++ (k ∷ []))) ≡ max
    (keyword_heights (Trees.keywords ks)) (height k.value)
higher [] k = omega arith
higher (x ∷ ks) k = omega (arith, higher ks k)

pub keywords_height : (ks ls : List given_keyword.Keyword) (t : Keyword) (h n w : ℕ) → map keyword_of ls ≡ map keyword_of ks ++ (t ∷ [])
    → h ≡ max w (keyword_heights (Trees.keywords (map keyword_of ks))) → n ≡ height t.value
    → max h n ≡ max w (keyword_heights (Trees.keywords (map keyword_of ls)))
keywords_height ks ls t h n w q a b = omega (arith, a, b, ap (λ l. keyword_heights (Trees.keywords l)) q, higher (map keyword_of ks) t)

-- where an argument begins
pub begins_high : (r : List Terminal) → 7 ≤ lead_of r → starts Argument r ≡ true
begins_high [] h = absurd (omega (arith, h))
begins_high (Op DoubleStar ∷ r) h = refl
begins_high (t ∷ r) h = le-leb 7 (lead_of (t ∷ r)) h

pub begins_double : (ts : List given.Terminal) (at : ℕ) → Stands (Op DoubleStar) ts at → starts Argument (seen ts at) ≡ true
begins_double ts at s = rw s.is refl

pub begins_not : (r : List Terminal) → lead_of r < 7 → None ≡ first_is (is_op DoubleStar) r → starts Argument r ≡ false
begins_not [] h n = refl
begins_not (Op DoubleStar ∷ r) h n = absurd (cc)
begins_not (t ∷ r) h n = lt-leb 7 (lead_of (t ∷ r)) h

-- its kind
module _ (ts : List given.Terminal) (at : ℕ) where
  pub spread_kind : Stands (Op Star) ts at → IsKindAt kind.Spread ts at
  spread_kind s = record { within = omega (arith, s.within); begins = s; is = λ self. rw s.is refl }

  pub doubled_kind : Stands (Op DoubleStar) ts at → IsKindAt kind.Doubled ts at
  doubled_kind s = record { within = omega (arith, s.within); begins = s; is = λ self. rw s.is refl }

  pub single_kind : at ≤ length ts → None ≡ first_is (is_op Star) (seen ts at) → None ≡ first_is (is_op DoubleStar) (seen ts at)
      → IsNotNamed Equal ts at → IsKindAt kind.Single ts at
  single_kind w a b n = record {
    within = w;
    begins = tt;
    is = λ self. first_miss (is_op Star) (seen ts at) _ _ a ∙ first_miss (is_op DoubleStar) (seen ts at) _ _ b
        ∙ name_miss Equal ts at _ _ n;
  }

  pub keyed_kind : (x : Bor (List ℕ)) → IsNamed Equal (nfkc (chars x.now)) ts at → IsKindAt (kind.Keyed x) ts at
  keyed_kind x s = record { within = omega (arith, s.within); begins = s; is = λ self. rw (s.is, s.form) refl }

-- what was read of an argument of a kind
kind_found : (ts : List given.Terminal) (d : Depth) (k : ArgumentForm) (at room least : ℕ) (e : Read) → IsKindAt k ts at
    → FoundAt ts room least (inner_reads d (level_of k) (seen ts (place_of k at))) e → read_argument (inner_reads d) (seen ts at) ≡ Found
    (entry_of k (tree_of e.expr.value)) (seen ts e.next)
kind_found ts d k at room least e h f = h.is (inner_reads d) ∙ ap (λ z. and_then z (λ e2 r. Found (entry_of k e2) r)) f.is

-- the loop
abbrev pub loop : Depth → ℕ → List Entry → List Terminal → Answer (List Entry)
loop d m acc r = listing_loop (read_argument (inner_reads d)) Argument m acc r

abbrev turned : Depth → ℕ → List Entry → Answer Entry → Answer (List Entry)
turned d m acc x = and_then x (λ e r1. on_first (is_op Comma) r1 (λ _ r2. loop d m (acc ++ (e ∷ [])) r2) (Found (acc ++ (e ∷ [])) r1))

loop_stops : (d : Depth) (m : ℕ) (acc : List Entry) (r : List Terminal) → starts Argument r ≡ false → loop d m acc r ≡ Found acc r
loop_stops d zero acc r h = refl
loop_stops d (suc m) acc r h = ap (λ b. cond b (turned d m acc (read_argument (inner_reads d) r)) (Found acc r)) h

loop_turn : (d : Depth) (m : ℕ) (acc : List Entry) (r : List Terminal) → starts Argument r ≡ true
    → loop d (suc m) acc r ≡ turned d m acc (read_argument (inner_reads d) r)
loop_turn d m acc r h = ap (λ b. cond b (turned d m acc (read_argument (inner_reads d) r)) (Found acc r)) h

some_start : (r : List Terminal) → starts Argument r ≡ true → 0 < length r
some_start [] h = absurd (cc)
some_start (t ∷ r) h = omega arith

pub steps_snoc : (s : State) (es : List Entry) (e : Entry) → steps s (es ++ (e ∷ [])) ≡ step (steps s es) e
steps_snoc s [] e = refl
steps_snoc s (x ∷ es) e = steps_snoc (step s x) es e

-- how far the loop has come
pub record Reaches (ts : List given.Terminal) (d : Depth) (s : State) (x : Answer (List Entry)) (a : Actual) : Type 0 where
  pub within : a.next ≤ length ts
  pub low : a.height ≤ d.room
  pub most : ℕ
  pub enough : length (seen ts a.next) ≤ most
  pub entries : List Entry
  pub is : x ≡ loop d most entries (seen ts a.next)
  pub gives : state_of a ≡ steps s entries

pub reaches_start : (ts : List given.Terminal) (d : Depth) (a : Actual) → a.next ≤ length ts → a.height ≤ d.room
    → Reaches ts d (state_of a) (arguments_of d [] (seen ts a.next)) a
reaches_start ts d a w l = record {
  within = w;
  low = l;
  most = length (seen ts a.next);
  enough = omega arith;
  entries = [];
  is = refl;
  gives = refl;
}

module _ (ts : List given.Terminal) (d : Depth) where
  pub more_end : (s : State) (x : Answer (List Entry)) (a : Actual) (least : ℕ) → Reaches ts d s x a
      → false ≡ starts Argument (seen ts a.next) → least ≤ a.next → ActualAt ts d.room least s x a
  more_end s x a least c n le = record {
    ahead = le;
    within = c.within;
    low = c.low;
    entries = c.entries;
    is = c.is ∙ loop_stops d c.most c.entries (seen ts a.next) (sym n);
    gives = c.gives;
  }

  pub more_error : (s : State) (x : Answer (List Entry)) (a : Actual) (e : Stop) → Reaches ts d s x a
      → true ≡ starts Argument (seen ts a.next) → Failed e (read_argument (inner_reads d) (seen ts a.next)) → Failed e x
  more_error s x a e c n f = go c.most c.enough c.is
    where
      go : (m : ℕ) → length (seen ts a.next) ≤ m → x ≡ loop d m c.entries (seen ts a.next) → Failed e x
      go zero le q = absurd (omega (arith, le, some_start (seen ts a.next) (sym n)))
      go (suc m) le q = rw (q ∙ loop_turn d m c.entries (seen ts a.next) (sym n)) (failed_then e _ _ f)

  abbrev after : ℕ → List Entry → ℕ → Answer (List Entry)
  after m acc n = on_first (is_op Comma) (seen ts n) (λ _ r2. loop d m acc r2) (Found acc (seen ts n))

  one : (x : Answer (List Entry)) (a r : Actual) (m : ℕ) (acc : List Entry) (e : Entry) → x ≡ loop d (suc m) acc (seen ts a.next)
      → true ≡ starts Argument (seen ts a.next) → read_argument (inner_reads d) (seen ts a.next) ≡ Found e (seen ts r.next)
      → x ≡ after m (acc ++ (e ∷ [])) r.next
  one x a r m acc e q n f = q ∙ loop_turn d m acc (seen ts a.next) (sym n) ∙ ap (λ z. turned d m acc z) f

  grown : (s : State) (a r : Actual) (acc : List Entry) (e : Entry) → state_of a ≡ steps s acc → state_of r ≡ step (state_of a) e
      → state_of r ≡ steps s (acc ++ (e ∷ []))
  grown s a r acc e p q = q ∙ ap (λ z. step z e) p ∙ sym (steps_snoc s acc e)

  pub more_last : (s : State) (x : Answer (List Entry)) (a r : Actual) (least : ℕ) → Reaches ts d s x a
      → true ≡ starts Argument (seen ts a.next)
      → AddedAt ts d.room (a.next + 1) (state_of a) (read_argument (inner_reads d) (seen ts a.next)) r
      → None ≡ first_is (is_op Comma) (seen ts r.next) → least ≤ a.next → ActualAt ts d.room least s x r
  more_last s x a r least c n f k le = record {
    ahead = omega (arith, le, f.ahead);
    within = f.within;
    low = f.low;
    entries = c.entries ++ (f.entry ∷ []);
    is = go c.most c.enough c.is;
    gives = grown s a r c.entries f.entry c.gives f.gives;
  }
    where
      go : (m : ℕ) → length (seen ts a.next) ≤ m → x ≡ loop d m c.entries (seen ts a.next)
          → x ≡ Found (c.entries ++ (f.entry ∷ [])) (seen ts r.next)
      go zero lt q = absurd (omega (arith, lt, some_start (seen ts a.next) (sym n)))
      go (suc m) lt q = one x a r m c.entries f.entry q n f.is ∙ first_miss (is_op Comma) (seen ts r.next) _ _ k

  pub more_turn : (s : State) (x : Answer (List Entry)) (a g r : Actual) → Reaches ts d s x a → true ≡ starts Argument (seen ts a.next)
      → AddedAt ts d.room (a.next + 1) (state_of a) (read_argument (inner_reads d) (seen ts a.next)) g → Stands (Op Comma) ts g.next
      → state_of r ≡ state_of g → r.next ≡ g.next + 1 → r.height ≡ g.height → Reaches ts d s x r
  more_turn s x a g r c n f k p q h = go c.most c.enough c.is
    where
      go : (m : ℕ) → length (seen ts a.next) ≤ m → x ≡ loop d m c.entries (seen ts a.next) → Reaches ts d s x r
      go zero lt e = absurd (omega (arith, lt, some_start (seen ts a.next) (sym n)))
      go (suc m) lt e =
          let i : after m (c.entries ++ (f.entry ∷ [])) g.next ≡ loop d m (c.entries ++ (f.entry ∷ [])) (seen ts (g.next + 1)) =
          rw k.is refl in
          record {
            within = omega (arith, q, k.within);
            low = omega (arith, h, f.low);
            most = m;
            enough = omega (arith, lt, q, f.ahead, k.within, seen_length ts a.next, seen_length ts r.next);
            entries = c.entries ++ (f.entry ∷ []);
            is = one x a g m c.entries f.entry e n f.is ∙ i ∙ ap (λ y. loop d m (c.entries ++ (f.entry ∷ [])) (seen ts y)) (sym q);
            gives = p ∙ grown s a g c.entries f.entry c.gives f.gives;
          }

-- a first argument in front
loop_front : (d : Depth) (m : ℕ) (b : Entry) (acc : List Entry) (r : List Terminal) → loop d m (b ∷ acc) r ≡ and_then (loop d m acc r)
    (λ es s. Found (b ∷ es) s)
loop_front d zero b acc r = refl
loop_front d (suc m) b acc r = by (λ e r2. loop_front d m b (acc ++ (e ∷ [])) r2) (starts Argument r)
  where
    commas : ((e : Entry) (r2 : List Terminal) → loop d m (b ∷ (acc ++ (e ∷ []))) r2 ≡ and_then (loop d m (acc ++ (e ∷ [])) r2)
        (λ es s. Found (b ∷ es) s)) → (e : Entry) (r1 : List Terminal)
        → on_first (is_op Comma) r1 (λ _ r2. loop d m (b ∷ (acc ++ (e ∷ []))) r2) (Found (b ∷ (acc ++ (e ∷ []))) r1) ≡ and_then
        (on_first (is_op Comma) r1 (λ _ r2. loop d m (acc ++ (e ∷ [])) r2) (Found (acc ++ (e ∷ [])) r1)) (λ es s. Found (b ∷ es) s)
    commas rec e [] = refl
    commas rec e (t ∷ r1) = on (is_op Comma t)
      where
        on : (o : Option ℕ) → on_some o (λ _. loop d m (b ∷ (acc ++ (e ∷ []))) r1) (Found (b ∷ (acc ++ (e ∷ []))) (t ∷ r1)) ≡ and_then
            (on_some o (λ _. loop d m (acc ++ (e ∷ [])) r1) (Found (acc ++ (e ∷ [])) (t ∷ r1))) (λ es s. Found (b ∷ es) s)
        on None = refl
        on (Some x) = rec e r1

    read : ((e : Entry) (r2 : List Terminal) → loop d m (b ∷ (acc ++ (e ∷ []))) r2 ≡ and_then (loop d m (acc ++ (e ∷ [])) r2)
        (λ es s. Found (b ∷ es) s)) → (x : Answer Entry) → turned d m (b ∷ acc) x ≡ and_then (turned d m acc x) (λ es s. Found (b ∷ es) s)
    read rec NoForm = refl
    read rec TooDeep = refl
    read rec (Found e t) = commas rec e t

    by : ((e : Entry) (r2 : List Terminal) → loop d m (b ∷ (acc ++ (e ∷ []))) r2 ≡ and_then (loop d m (acc ++ (e ∷ [])) r2)
        (λ es s. Found (b ∷ es) s)) → (v : Bool) → cond v (turned d m (b ∷ acc) (read_argument (inner_reads d) r)) (Found (b ∷ acc) r) ≡
        and_then (cond v (turned d m acc (read_argument (inner_reads d) r)) (Found acc r)) (λ es s. Found (b ∷ es) s)
    by rec true = read rec (read_argument (inner_reads d) r)
    by rec false = refl

-- the call, by what was read so far
finish_is : (d : Depth) (f : Expr) (es : List Entry) (r : List Terminal)
    → called_with (inner_reads d) f es r ≡ finished f (steps start es) r
finish_is d f es r = ap (λ o. on_first (is_op RPar) r (λ _ r1. made o r1) NoForm) (called_steps f es)

abbrev following : Depth → Expr → Entry → List Terminal → Answer Expr
following d f a r = and_then (others_of (inner_reads d) Argument a r) (λ es r2. called_with (inner_reads d) f es r2)

after_is : (d : Depth) (f : Expr) (a : Entry) (r : List Terminal) → following d f a r ≡ called_from d f (step start a) r
after_is d f a [] = refl
after_is d f a (t ∷ r) = go (is_op Comma t)
  where
    one : (x : Answer (List Entry)) → and_then (and_then x (λ es s. Found (a ∷ es) s)) (λ es r2. called_with (inner_reads d) f es r2) ≡
        and_then x (λ es r1. finished f (steps (step start a) es) r1)
    one NoForm = refl
    one TooDeep = refl
    one (Found es s) = finish_is d f (a ∷ es) s

    go : (o : Option ℕ) → and_then (on_some o (λ _. loop d (length r) (a ∷ []) r) (Found (a ∷ []) (t ∷ r)))
        (λ es r2. called_with (inner_reads d) f es r2) ≡ and_then (on_some o (λ _. loop d (length r) [] r) (Found [] (t ∷ r)))
        (λ es r1. finished f (steps (step start a) es) r1)
    go None = finish_is d f (a ∷ []) (t ∷ r)
    go (Some x) = ap (λ z. and_then z (λ es r2. called_with (inner_reads d) f es r2)) (loop_front d (length r) a [] r)
        ∙ one (loop d (length r) [] r)

-- from the bracket on
module _ (ts : List given.Terminal) (d : Depth) (f : Expr) (at : ℕ) where
  abbrev first : Entry → List Terminal → Answer Expr
  first a r1 = cond (starts_comp r1) (generator_call (inner_reads d) f a r1) (following d f a r1)

  some_is : true ≡ starts Argument (seen ts at) → call_step (inner_reads d) f (seen ts at) ≡ and_then
      (read_argument (inner_reads d) (seen ts at)) (λ a r1. first a r1)
  some_is n = ap (λ b. cond b (and_then (read_argument (inner_reads d) (seen ts at)) (λ a r1. first a r1))
      (called_with (inner_reads d) f [] (seen ts at))) (sym n)

  abbrev IsRead : ArgumentForm → Read → Type 0
  IsRead k e = FoundAt ts (d.room - 1) (at + 1) (inner_reads d (level_of k) (seen ts (place_of k at))) e

  first_is_read : (k : ArgumentForm) (e : Read) → true ≡ starts Argument (seen ts at) → IsKindAt k ts at → IsRead k e
      → call_step (inner_reads d) f (seen ts at) ≡ first (entry_of k (tree_of e.expr.value)) (seen ts e.next)
  first_is_read k e n h r = some_is n ∙ ap (λ y. and_then y (λ a r1. first a r1)) (kind_found ts d k at (d.room - 1) (at + 1) e h r)

  pub call_after : (k : ArgumentForm) (e : Read) (a : Actual) (b : Actual) (z : Result Read Stop) → true ≡ starts Argument (seen ts at)
      → IsKindAt k ts at → IsRead k e → false ≡ starts_comp (seen ts e.next) → state_of a ≡ start
      → state_of b ≡ step (state_of a) (entry_of k (tree_of e.expr.value)) → b.next ≡ e.next
      → Answered ts d.room b.next (cap d.room (called_from d f (state_of b) (seen ts b.next))) z
      → Answered ts d.room at (cap d.room (call_step (inner_reads d) f (seen ts at))) z
  call_after k e a b z n h r c p g q w =
      let i = first_is_read k e n h r
      ∙ ap (λ v. cond v (generator_call (inner_reads d) f (entry_of k (tree_of e.expr.value)) (seen ts e.next))
      (following d f (entry_of k (tree_of e.expr.value)) (seen ts e.next))) (sym c)
      ∙ after_is d f (entry_of k (tree_of e.expr.value)) (seen ts e.next) in
      let u = subst (λ (y : State). Answered ts d.room b.next (cap d.room (called_from d f y (seen ts b.next))) z) (g
      ∙ ap (λ y. step y (entry_of k (tree_of e.expr.value))) p) w in
      let v = subst (λ (y : ℕ). Answered ts d.room y
      (cap d.room (called_from d f (step start (entry_of k (tree_of e.expr.value))) (seen ts y))) z) q u in
      rw i (earlier ts d.room d.room at e.next _ z (omega arith) (omega (arith, r.ahead)) v)
