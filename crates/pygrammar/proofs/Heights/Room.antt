-- Room above what the terminals count is enough: then the capped reader never
-- says that it went too deep.
--
-- Carries: good_capped, slack_most, limited_enough, for Contract, Limit. On: Enough, Says,
-- Soundness/Sound, Caps and 3 more.
use Rattle.std.proofs.Common.{◌≡◌, inl, inr, refl, sym, ap, subst, ◌∙◌, ℕ, zero, suc, ◌≤◌, ◌<◌, arith, List, [], ◌∷◌, ◌++◌, length, Option}
use Rattle.std.proofs.Common.{Some, None, cond, append_assoc}
use Rattle.std.proofs.lemmas.Bool.{le-leb}
use Rattle.pylex_lexeme.specs.declared.kinds.Exact.{Exact}
use Rattle.pylex_lexeme.specs.declared.kinds.Exact.TheVariants.{LPar, LSqb, RSqb, Dot}
use Rattle.pytree_node.specs.declared.operators.Context.TheVariants.{Load}
use Rattle.pygrammar.specs.Lengths.{weight}
use Rattle.pygrammar.proofs.Depths.Weights.{weight_append, weight_most, counted, heavy_infix, heavy_prefix}
use Rattle.pygrammar.specs.declared.levels.Level.{Level}
use Rattle.pygrammar.specs.declared.levels.Level.TheVariants.{Primary, Atom}
use Rattle.pygrammar.specs.declared.levels.Level.TheVariants.{Slices}
use Rattle.pytree_node.specs.Trees
use Rattle.pytree_node.specs.Trees.{Expr, Identifier}
use Rattle.pytoken.specs.Terminals.{Spelled, Terminal, Op, Ident}
use Rattle.pygrammar.specs.Looks.{is_op, name_in}
use Rattle.pygrammar.specs.Reader.{Answer, Found, TooDeep, and_then, on_some, on_first, Reads, call_step, operation, prefixed, levels_from}
use Rattle.pygrammar.specs.Reader.{descend, read}
use Rattle.pygrammar.specs.Precedence.{Infix, infix_from, prefix_from, infix_rank, following}
use Rattle.pygrammar.specs.Grammar as G
use Rattle.pytree_height.specs.Heights.{height}
use Rattle.pygrammar.specs.Capped.{cap, capped_atom, capped_primary, capped_loop, capped_climb, capped_step, capped_descend}
use Rattle.pygrammar.specs.Capped.{capped, limited}
use Rattle.pygrammar.proofs.Completeness.LookLemmas.{op_or_not, some_none}
use Rattle.pygrammar.proofs.Soundness.Says.{Says, found, no_form, deep, Reads_as, SoundAt, name_is}
use Rattle.pygrammar.proofs.Soundness.SoundClimb.{Stands, operation_sound, infix_hit, climb_front}
use Rattle.pygrammar.proofs.Soundness.Sound.{PrimaryAt, call_sound, sound_step, sound_descend, sound_read}
use Rattle.pygrammar.proofs.Heights.Over.{Caps, CapsAt}
use Rattle.pygrammar.proofs.Heights.Caps.{c_step, c_descend, caps_read}
use Rattle.pygrammar.proofs.Depths.Keeps.{Lighter, light_read, light_descend}
use Rattle.pygrammar.proofs.Heights.Bound.{tall}
use Rattle.pygrammar.specs.Lengths.{slack}
use Rattle.pygrammar.proofs.Related.Expressions.{r_call, r_operation, r_prefixed}
use Rattle.pygrammar.proofs.Related.Levels.{r_atom, r_room_step, room_step}
use Rattle.pygrammar.proofs.Depths.Enough.{Good, GoodTo, good_kept, good_first}

-- heights
pub slack_most : (l : Level) → slack l ≤ 1
slack_most Slices = omega arith
slack_most _ = omega arith

reads_low : (l : Level) (i : List Terminal) (e : Expr) (r : List Terminal) → Reads_as l i e r → height e ≤ suc (weight i)
reads_low l i e r p = omega (arith, tall p.2, slack_most l, ap weight p.1, weight_append p.0 r)

at_low : (k : ℕ) (i : List Terminal) (e : Expr) (r : List Terminal) → Stands k i e r → height e ≤ suc (weight i)
at_low k i e r p = omega (arith, tall p.3, slack_most p.0, ap weight p.2, weight_append p.1 r)

primary_low : (i : List Terminal) (e : Expr) (r : List Terminal) → PrimaryAt i e r → height e ≤ weight i
primary_low i e r p = omega (arith, tall p.2, ap weight p.1, weight_append p.0 r)

-- the capped reader is sound too
caps_sound : (d : ℕ) (l : Level) (i : List Terminal) (x y : Answer Expr) → Caps height d x y → Says (Reads_as l i) y → Says (Reads_as l i) x
caps_sound d l i x y (inl q) s = subst (Says (Reads_as l i)) (sym q) s
caps_sound d l i x y (inr q) s = subst (Says (Reads_as l i)) (sym q.0) deep

-- checks that pass
good_cap : {P : Expr → List Terminal → Type 0} (d m : ℕ) (x : Answer Expr) → Good m x → Says P x
    → ((a : Expr) (r : List Terminal) → P a r → height a ≤ d) → Good m (cap d x)
good_cap d m x g (found {a = a} {r = r} p) low = subst (λ b. Good m (cond b (Found a r) TooDeep)) (sym (le-leb (height a) d (low a r p))) g
good_cap d m x g no_form low = tt
good_cap d m x g deep low = g

good_says : {A B : Type 0} {P : A → List Terminal → Type 0} (m n : ℕ) (x : Answer A) (k : A → List Terminal → Answer B) → Good m x
    → Says P x → ((a : A) (r : List Terminal) → P a r → weight r < m → Good n (k a r)) → Good n (and_then x k)
good_says m n x k g (found {a = a} {r = r} p) h = h a r p g
good_says m n x k g no_form h = tt
good_says m n x k g deep h = g

good_checked : {P : Expr → List Terminal → Type 0} (d m n : ℕ) (x : Answer Expr) (k : Expr → List Terminal → Answer Expr) → Good m x
    → Says P x → ((a : Expr) (r : List Terminal) → P a r → height a ≤ d) → ((a : Expr) (r : List Terminal) → P a r → weight r < m
    → Good n (k a r)) → Good n (and_then (cap d x) k)
good_checked d m n x k g (found {a = a} {r = r} p) low h = subst (λ b. Good n (and_then (cond b (Found a r) TooDeep) k))
    (sym (le-leb (height a) d (low a r p))) (h a r p g)
good_checked d m n x k g no_form low h = tt
good_checked d m n x k g deep low h = g

-- a test on the first terminal, with what it says
good_test : {A B : Type 0} (n : ℕ) (f : Terminal → Option A) (i : List Terminal) (k : A → List Terminal → Answer B) (x : Answer B)
    → ((t : Terminal) (a : A) (s : List Terminal) → f t ≡ Some a → i ≡ t ∷ s → Good n (k a s)) → Good n x → Good n (on_first f i k x)
good_test n f [] k x h g = g
good_test {A} {B} n f (t ∷ s) k x h g = go (f t) refl
  where
    go : (o : Option A) → f t ≡ o → Good {A = B} n (on_some o (λ a. k a s) x)
    go (Some a) e = h t a s e refl
    go None e = g

good_op : {B : Type 0} (n : ℕ) (y : Exact) (i : List Terminal) (k : ℕ → List Terminal → Answer B) (x : Answer B)
    → ((a : ℕ) (s : List Terminal) → i ≡ Op y ∷ s → Good n (k a s)) → Good n x → Good n (on_first (is_op y) i k x)
good_op {B} n y i k x h g =
    good_test n (is_op y) i k x (λ t a s f q. elim (op_or_not y t) as (λ _. Good n (k a s)) [
      | inl e ↦ h a s (q ∙ ap (λ z. z ∷ s) e)
      | inr w ↦ absurd (some_none a (sym f ∙ w))
    ]) g

good_name : {B : Type 0} (n : ℕ) (i : List Terminal) (k : Identifier → List Terminal → Answer B) (x : Answer B)
    → ((a : Spelled) (s : List Terminal) → i ≡ Ident a ∷ s → Good n (k a.form s)) → Good n x → Good n (on_first name_in i k x)
good_name n i k x h g = good_test n name_in i k x (λ t a s f q. let w = name_is t a f in
    subst (λ z. Good n (k z s)) w.2 (h w.0 s (q ∙ ap (λ z. z ∷ s) w.1))) g

-- b terminals, and room for more than b
module _ (b d : ℕ) (le : b ≤ d) (inner : Reads) (all : GoodTo b inner) (deeper : SoundAt inner) where
  g_capped_primary : (n m : ℕ) (i : List Terminal) (e : Expr) (r : List Terminal) → PrimaryAt i e r → weight i ≤ b → weight r < n
      → weight r ≤ b → Good n (capped_primary (suc d) inner m e r)
  g_capped_primary n zero i e r p li h w = h
  g_capped_primary n (suc m) i e r p li h w =
      good_op n Dot r _ _ (λ a s q. good_name n s _ _ (λ x u v. good_checked {P = PrimaryAt i} (suc d) (weight r) n
      (Found (Trees.Attribute e x.form Load) u) (λ f r3. capped_primary (suc d) inner m f r3) (omega (arith, ap weight q, ap weight v))
      (found (p.0 ++ (Op Dot ∷ (Ident x ∷ [])), rw (p.1, q, v) (simp append_assoc refl), G.attribute x p.2))
      (λ f r3 y. omega (arith, primary_low i f r3 y, li, le)) (λ f r3 y z. g_capped_primary n m i f r3 y li (omega (arith, h, z))
      (omega (arith, w, z)))) tt)
      (good_op n LPar r _ _ (λ a s q. good_checked {P = PrimaryAt i} (suc d) (weight r) n (call_step inner e s)
      (λ f r3. capped_primary (suc d) inner m f r3) (r_call good_kept inner inner b all 0 (weight r) e s (omega arith)
      (omega (arith, ap weight q))
      (omega (arith, ap weight q, w))) (call_sound inner deeper i p.0 e s (p.1 ∙ ap (λ z. p.0 ++ z) q) p.2)
      (λ f r3 y. omega (arith, primary_low i f r3 y, li, le))
      (λ f r3 y z. g_capped_primary n m i f r3 y li (omega (arith, h, z)) (omega (arith, w, z))))
      (good_op n LSqb r _ _ (λ a s q. good_says {P = Reads_as Slices s} (weight s) n (inner Slices s) _
      (all Slices s (omega (arith, ap weight q, w))) (deeper Slices s)
      (λ x r2 y z. good_op n RSqb r2 _ _ (λ c u v. good_checked {P = PrimaryAt i} (suc d) (weight r) n
      (Found (Trees.Subscript e x Load) u) (λ f r3. capped_primary (suc d) inner m f r3) (omega (arith, ap weight q, ap weight v, z))
      (found (p.0 ++ (Op LSqb ∷ (y.0 ++ (Op RSqb ∷ []))), rw (p.1, q, y.1, v) (simp append_assoc refl), G.subscript p.2 y.2))
      (λ f r3 y. omega (arith, primary_low i f r3 y, li, le)) (λ f r3 y z. g_capped_primary n m i f r3 y li (omega (arith, h, z))
      (omega (arith, w, z)))) tt)) h))

  loop_step : (n k m : ℕ) (i : List Terminal) (e : Expr) (t : Terminal) (s : List Terminal) → 10 ≤ k → Stands k i e (t ∷ s) → weight i ≤ b
      → weight (t ∷ s) < n → weight (t ∷ s) ≤ b → ((f : Expr) (r2 : List Terminal) → weight r2 ≤ weight (t ∷ s) → Stands k i f r2
      → Good n (capped_loop (suc d) inner k m f r2)) → (x : Option Infix) → infix_from k t ≡ x
      → Good n (on_some x (λ o. and_then (cap (suc d) (operation inner e o (t ∷ s) s)) (λ f r2. capped_loop (suc d) inner k m f r2))
      (Found e (t ∷ s)))
  loop_step n k m i e t s a p li h w rec None q = h
  loop_step n k m i e t s a p li h w rec (Some o) q =
      let v = infix_hit k (following t) o q in
      let c : weight (t ∷ s) ≡ suc (weight s) = counted t s (heavy_infix k t o q) in
      good_checked {P = λ f r2. Stands k i f r2 × (length r2 ≤ length s)} (suc d) (suc (suc (weight s))) n (operation inner e o (t ∷ s) s)
      (λ f r2. capped_loop (suc d) inner k m f r2)
      (r_operation good_kept inner inner b all 0 (suc (suc (weight s))) e o (t ∷ s) s (omega arith) (omega (arith, c)) (omega (arith, c)) w)
      (operation_sound inner deeper k p.0 i p.1 e o t s p.2 p.3 p.5 a v.1 (omega (arith, p.6, ap (λ o. on_some o infix_rank 0) v.0)) v.0)
      (λ f r2 y. omega (arith, at_low k i f r2 y.0, li, le)) (λ f r2 y z. rec f r2 (omega (arith, z, c)) y.0)

  g_capped_loop : (n k m : ℕ) (i : List Terminal) (e : Expr) (r : List Terminal) → 10 ≤ k → Stands k i e r → weight i ≤ b → weight r < n
      → weight r ≤ b → Good n (capped_loop (suc d) inner k m e r)
  g_capped_loop n k zero i e r a p li h w = h
  g_capped_loop n k (suc m) i e [] a p li h w = h
  g_capped_loop n k (suc m) i e (t ∷ s) a p li h w =
      loop_step n k m i e t s a p li h w (λ f r2 y v. g_capped_loop n k m i f r2 a v li (omega (arith, h, y)) (omega (arith, w, y)))
      (infix_from k t) refl

module _ (b d : ℕ) (le : b ≤ d) (next same inner : Reads) (low : GoodTo (suc b) next) (equal : GoodTo b same) (deep_ones : GoodTo b inner)
    (front : SoundAt next) (deeper : SoundAt inner) where
  g_capped_climb : (k : ℕ) → 10 ≤ k → k ≤ 22 → (i : List Terminal) → weight i ≤ b
      → Good (weight i) (capped_climb (suc d) next same inner k i)
  g_capped_climb k x y i w = good_says {P = Stands k i} (weight i) (weight i) (on_first (prefix_from k) i (λ p r. prefixed inner p r)
      (next Primary i)) (λ e r. capped_loop (suc d) inner k (length r) e r) (good_first (weight i) (prefix_from k) (heavy_prefix k) i _ _
      (λ p r q. r_prefixed good_kept inner inner b deep_ones (weight i) p r (omega arith) (omega arith)) (low Primary i (omega arith)))
      (climb_front next inner front deeper k i x y) (λ e r p z. g_capped_loop b d le inner deep_ones deeper (weight i) k (length r) i e
      r x p w z (omega arith))

  g_capped_step : (l : Level) (i : List Terminal) → weight i ≤ b → Good (weight i) (capped_step (suc d) next same inner l i)
  g_capped_step l i w =
      r_room_step good_kept (suc d) next next same inner inner b low deep_ones (capped_climb (suc d) next same inner)
      (λ i. and_then (next Atom i) (λ e r. capped_primary (suc d) inner (length r) e r)) (capped_atom same inner) g_capped_climb
      (λ i w. good_says {P = Reads_as Atom i} (weight i) (weight i) (next Atom i)
      (λ e r. capped_primary (suc d) inner (length r) e r) (low Atom i (omega (arith, w))) (front Atom i)
      (λ e r p z. g_capped_primary b d le inner deep_ones deeper (weight i) (length r) i e r (p.0, p.1, G.next p.2) w z
      (omega (arith, w, z)))) (r_atom good_kept same same inner inner b equal deep_ones) (capped_step (suc d) next same inner)
      (room_step (suc d) next same inner) l i w

module _ (b d : ℕ) (le : b ≤ d) (same inner other : Reads) (equal : CapsAt (suc d) same other) (caps : CapsAt d inner other)
    (calm : Lighter other) (sound_other : SoundAt other) (good_same : GoodTo b same) (good_inner : GoodTo b inner) where
  g_capped_descend : (k : ℕ) → GoodTo (suc b) (capped_descend (suc d) same inner k)
  g_capped_descend zero l i w = tt
  g_capped_descend (suc k) l i w =
      let n = capped_descend (suc d) same inner k in
      let c = c_descend d same inner other equal caps calm k in
      let s = sound_descend other sound_other k in
      good_cap {P = Reads_as l i} (suc d) (weight i) (capped_step (suc d) (capped_descend (suc d) same inner k) same inner l i)
      (g_capped_step b d le (capped_descend (suc d) same inner k) same inner (g_capped_descend k) good_same good_inner
      (λ l i. caps_sound (suc d) l i _ _ (c l i) (s l i))
      (λ l i. caps_sound d l i _ _ (caps l i) (sound_other l i)) l i (omega (arith, w)))
      (caps_sound (suc d) l i _ _ (c_step d same inner other equal caps calm (capped_descend (suc d) same inner k) (descend other k) c
      (light_descend other calm k) l i) (sound_step (descend other k) other s sound_other l i))
      (λ e r p. omega (arith, reads_low l i e r p, w, le))

pub good_capped : (g d b : ℕ) → b ≤ g → b ≤ d → GoodTo b (capped g d)
good_capped zero d b x y l i w = absurd (omega (arith, x, w))
good_capped (suc g) zero b x y l i w = absurd (omega (arith, y, w))
good_capped (suc g) (suc d) zero x y l i w = absurd (omega (arith, w))
good_capped (suc g) (suc d) (suc b) x y l i w = g_capped_descend b d (omega (arith, y)) (capped g (suc d)) (capped g d) (read g)
    (caps_read g (suc d)) (caps_read g d) (light_read g) (sound_read g) (good_capped g (suc d) b (omega (arith, x)) (omega (arith, y)))
    (good_capped g d b (omega (arith, x)) (omega (arith, y))) (levels_from l) l i w

pub sound_capped : (g d : ℕ) → SoundAt (capped g d)
sound_capped g d l i = caps_sound d l i _ _ (caps_read g d l i) (sound_read g l i)

-- the law
pub limited_enough : (d : ℕ) (l : Level) (ts : List Terminal) → limited d l ts ≡ TooDeep → d ≤ weight ts
limited_enough d l ts h =
    least d (weight ts) (λ w. subst (Good (weight ts)) h (good_capped (suc (length ts)) d (suc (weight ts))
    (omega (arith, weight_most ts)) w l ts (omega arith)))
  where
    least : (d n : ℕ) → (n < d → ⊥) → d ≤ n
    least d n f = omega (arith, f)
