-- The capped reader beside the plain one: it answers the same, or says that it went too deep, and
-- then what the plain one finds is too high.
--
-- Carries: caps_read, c_step, c_descend, caps_kept and what lines need, for CapsBrackets, CapsLines, Room, Limits.
-- On: Over, Related.
use Rattle.std.proofs.Common.{◌≡◌, inl, inr, refl, sym, ap, subst, ◌∙◌, ℕ, zero, suc, ◌≤◌, ◌<◌, arith, List, [], ◌∷◌, ◌++◌}
use Rattle.pylex_lexeme.specs.declared.kinds.Exact.{Exact}
use Rattle.pylex_lexeme.specs.declared.kinds.Exact.TheVariants.{Comma, Star}
use Rattle.pytree_node.specs.Trees.{Expr, Comprehension}
use Rattle.pytoken.specs.Terminals.{Terminal}
use Rattle.pygrammar.specs.Lengths.{weight}
use Rattle.pygrammar.specs.Looks.{is_op}
use Rattle.pygrammar.specs.Entries.{Item, Entry}
use Rattle.pygrammar.specs.Reader.{Answer, Found, NoForm, TooDeep, and_then, Reads, listing_loop}
use Rattle.pygrammar.specs.Reader.{comps_closed, unstarred, primary_loop, climb_loop, if_else_step, level_step, levels_from, descend, read}
use Rattle.pygrammar.specs.Precedence.{starts}
use Rattle.pytree_height.specs.Heights.{height}
use Rattle.pygrammar.specs.Capped.{cap, capped_step, capped_descend, capped}
use Rattle.pygrammar.proofs.Depths.Keeps.{Light, Lighter, light_read}
use Rattle.pygrammar.proofs.Related.Sizes.{under, list_size, list_last, height_some}
use Rattle.pygrammar.proofs.Related.Rules.{Relation, Kept, To, Own}
use Rattle.pygrammar.proofs.Related.Expressions.{r_primary, r_climb_loop, r_if_else}
use Rattle.pygrammar.proofs.Related.Capped.{r_checked_step, r_checked_descend}
use Rattle.pygrammar.proofs.Heights.Over.{Caps, CapsAt, Over, caps_cap, none, over, over_closed, over_cond}
use Rattle.pygrammar.proofs.Heights.Over.{over_first}
use Rattle.pygrammar.proofs.Heights.Over.{over_then, sunk}

-- ---- One part after another.
light_with : {A B : Type 0} (m n : ℕ) (y : Answer A) (j : A → List Terminal → Answer B) → Light m y
    → ((a : A) (r : List Terminal) → weight r < m → Light n (j a r)) → Light n (and_then y j)
light_with m n (Found a r) j w h = h a r w
light_with m n NoForm j w h = tt
light_with m n TooDeep j w h = tt

over_with : {A B : Type 0} (s : A → ℕ) (u : B → ℕ) (m v n : ℕ) (y : Answer A) (j : A → List Terminal → Answer B) → Light m y → Over s v y
    → ((a : A) (r : List Terminal) → v ≤ s a → weight r < m → Over u n (j a r)) → Over u n (and_then y j)
over_with s u m v n y j w (over {a = a} {r = r} p) h = h a r p w
over_with s u m v n y j w none h = none
over_with s u m v n y j w sunk h = sunk

caps_with : {A B : Type 0} (s : A → ℕ) (u : B → ℕ) (m d : ℕ) (x y : Answer A) (k j : A → List Terminal → Answer B) → Light m y
    → Caps s d x y → ((a : A) (r : List Terminal) → weight r < m → Caps u d (k a r) (j a r))
    → ((a : A) (r : List Terminal) → suc d ≤ s a → weight r < m → Over u (suc d) (j a r)) → Caps u d (and_then x k) (and_then y j)
caps_with s u m d x y k j w (inr (e, v)) h o = inr (ap (λ z. and_then z k) e, over_with s u m (suc d) (suc d) y j w v o)
caps_with s u m d (Found a r) y k j w (inl e) h o = elim (h a r (subst (λ z. Light m z) (sym e) w)) [
  | inl p ↦ inl (p ∙ ap (λ z. and_then z j) e)
  | inr p ↦ inr (p.0, subst (λ z. Over u (suc d) (and_then z j)) e p.1)
]
caps_with s u m d NoForm y k j w (inl e) h o = inl (ap (λ z. and_then z j) e)
caps_with s u m d TooDeep y k j w (inl e) h o = inl (ap (λ z. and_then z j) e)

pub over_least : {A : Type 0} (s : A → ℕ) (y : Answer A) → Over s 0 y
over_least s (Found a r) = over (omega arith)
over_least s NoForm = none
over_least s TooDeep = sunk

-- ---- Within room d beside the plain one.
abbrev pub CapsOf : ℕ → Relation
CapsOf d A s t n x y = Light n y × Over s t y × (t ≡ 0 → Caps s d x y)

pub caps_kept : (d : ℕ) → Kept (CapsOf d)
caps_kept d = record {
  finds = λ A s t n a r f w. (w, over f, λ q. inl refl);
  refuses = λ A s t n. (tt, none, λ q. inl refl);
  goes = λ A B s u t m n x y k j g f. (
    light_with m n y j g.0 (λ a r w. (f 0 a r (omega arith) w).0),
    over_with s u m t t y j g.0 g.1 (λ a r p w. (f t a r p w).1),
    λ q. caps_with s u m d x y k j g.0 (g.2 q) (λ a r w. (f 0 a r (omega arith) w).2 refl) (λ a r p w. (f (suc d) a r p w).1),
  );
  joins = λ A B s u t m n x y k j g f. (
    light_with m n y j g.0 (λ a r w. (f 0 a r (omega arith) w).0),
    over_with s u m 0 t y j g.0 g.1 (λ a r p w. (f t a r (omega arith) w).1),
    λ q. caps_with s u m d x y k j g.0 (g.2 refl) (λ a r w. (f 0 a r (omega arith) w).2 refl)
        (λ a r p w. (f (suc d) a r (omega (arith, p)) w).1),
  );
}

caps_check : (d t n : ℕ) (x y : Answer Expr) → CapsOf d Expr height t n x y → CapsOf d Expr height t n (cap d x) y
caps_check d t n x y g = (g.0, g.1, λ q. caps_cap d x y (g.2 q))

-- one level further in
pub over_up : {A : Type 0} (s : A → ℕ) (n : ℕ) (y : Answer A) → Over s n y → Over (under s) (suc n) y
over_up s n y (over p) = over (omega (arith, p))
over_up s n y none = none
over_up s n y sunk = sunk

pub over_down : {A : Type 0} (s : A → ℕ) (n : ℕ) (y : Answer A) → Over (under s) (suc n) y → Over s n y
over_down s n y (over p) = over (omega (arith, p))
over_down s n y none = none
over_down s n y sunk = sunk

pub raised : {A : Type 0} (s : A → ℕ) (d : ℕ) (x y : Answer A) → Caps s d x y → Caps (under s) (suc d) x y
raised s d x y (inl e) = inl e
raised s d x y (inr (e, o)) = inr (e, over_up s (suc d) y o)

pub lowered : {A : Type 0} (s : A → ℕ) (d : ℕ) (x y : Answer A) → Caps (under s) (suc d) x y → Caps s d x y
lowered s d x y (inl e) = inl e
lowered s d x y (inr (e, o)) = inr (e, over_down s (suc d) y o)

module _ (d : ℕ) (self other : Reads) (all : CapsAt d self other) (calm : Lighter other) where
  pub caps_in : (b : ℕ) → To (CapsOf (suc d)) b self other
  caps_in b l i w = (calm l i, over_least (under height) (other l i), λ q. raised height d (self l i) (other l i) (all l i))

  caps_own : (b : ℕ) → Own (CapsOf d) b self other
  caps_own b l i w = (calm l i, over_least height (other l i), λ q. all l i)

-- ---- The levels.
module _ (d : ℕ) (same inner other : Reads) (equal : CapsAt (suc d) same other) (all : CapsAt d inner other) (calm : Lighter other) where
  pub c_step : (next after : Reads) → CapsAt (suc d) next after → Lighter after
      → CapsAt (suc d) (capped_step (suc d) next same inner) (level_step after other)
  c_step next after n c l i =
      (r_checked_step (caps_kept (suc d)) (suc d) (caps_check (suc d)) inner other (weight i)
      (caps_in d inner other all calm (weight i)) same
      (caps_own (suc d) same other equal calm (weight i)) next after (caps_own (suc d) next after n c (suc (weight i))) l i (omega arith)).2
      refl

  pub c_descend : (k : ℕ) → CapsAt (suc d) (capped_descend (suc d) same inner k) (descend other k)
  c_descend k l i =
      (r_checked_descend (caps_kept (suc d)) (suc d) (caps_check (suc d)) inner other (weight i) (caps_in d inner other all calm (weight i))
      same (caps_own (suc d) same other equal calm (weight i)) k l i (omega arith)).2 refl

over_any : (x : Answer Expr) → Over height 1 x
over_any (Found e r) = over (height_some e)
over_any NoForm = none
over_any TooDeep = sunk

-- with any room: the plain reader's answer, or that it went too deep, and then what the plain one
-- finds is higher than that
pub caps_read : (g d : ℕ) → CapsAt d (capped g d) (read g)
caps_read zero d l i = inl refl
caps_read (suc g) zero l i = inr (refl, over_any (read (suc g) l i))
caps_read (suc g) (suc d) l i = c_descend d (capped g (suc d)) (capped g d) (read g) (caps_read g (suc d)) (caps_read g d) (light_read g)
    (levels_from l) l i

-- ---- What one reader finds holds what was in hand.
abbrev pub OverOf : Relation
OverOf A s t n x y = Light n y × Over s t y

pub over_kept : Kept OverOf
over_kept = record {
  finds = λ A s t n a r f w. (w, over f);
  refuses = λ A s t n. (tt, none);
  goes = λ A B s u t m n x y k j g f. (
    light_with m n y j g.0 (λ a r w. (f 0 a r (omega arith) w).0),
    over_with s u m t t y j g.0 g.1 (λ a r p w. (f t a r p w).1),
  );
  joins = λ A B s u t m n x y k j g f. (
    light_with m n y j g.0 (λ a r w. (f 0 a r (omega arith) w).0),
    over_with s u m 0 t y j g.0 g.1 (λ a r p w. (f t a r (omega arith) w).1),
  );
}

pub over_all : (self : Reads) → Lighter self → (b : ℕ) → To OverOf b self self
over_all self calm b l i w = (calm l i, over_least (under height) (self l i))

module _ (self : Reads) (calm : Lighter self) (n : ℕ) where
  pub over_primary : (m : ℕ) (e : Expr) (r : List Terminal) → n ≤ height e → Over height n (primary_loop self m e r)
  over_primary m e r h = (r_primary over_kept self self (weight r) (over_all self calm (weight r)) n (suc (weight r)) m e r h (omega arith)
      (omega arith)).1

  pub over_loop : (k m : ℕ) (e : Expr) (r : List Terminal) → n ≤ height e → Over height n (climb_loop self k m e r)
  over_loop k m e r h =
      (r_climb_loop over_kept self self (weight r) (over_all self calm (weight r)) n (suc (weight r)) k m e r h (omega arith)
      (omega arith)).1

  pub over_if_else : (e : Expr) (r : List Terminal) → n ≤ height e → Over height n (if_else_step self e r)
  over_if_else e r h =
      (r_if_else over_kept self self (weight r) (over_all self calm (weight r)) n (suc (weight r)) e r h (omega arith) (omega arith)).1

pub over_listing : (n : ℕ) (one : List Terminal → Answer Entry) (i : Item) (m : ℕ) (acc : List Entry) (r : List Terminal)
    → n ≤ list_size i acc → Over (list_size i) n (listing_loop one i m acc r)
over_listing n one i zero acc r h = over h
over_listing n one i (suc m) acc r h =
    over_cond (list_size i) n (starts i r) _ _
    (over_then (list_size i) n (one r) _ (λ e r1. over_first (list_size i) n (is_op Comma) r1 _ _
    (λ _ r2. over_listing n one i m (acc ++ (e ∷ [])) r2 (omega (arith, list_last i acc e))) (over (omega (arith, list_last i acc e)))))
    (over h)

pub over_comps_closed : (self : Reads) (n : ℕ) (s : Exact) (r : List Terminal) (make : List Comprehension → Expr)
    → ((gs : List Comprehension) → n ≤ height (make gs)) → Over height n (comps_closed self s r make)
over_comps_closed self n s r make h = over_then height n _ _ (λ gs r1. over_closed height n s r1 (make gs) (h gs))

pub over_unstarred : {A : Type 0} (n : ℕ) (s : A → ℕ) (r : List Terminal) (x : Answer A) → Over s n x → Over s n (unstarred r x)
over_unstarred n s r x h = over_first s n (is_op Star) r _ _ (λ _ _. none) h
