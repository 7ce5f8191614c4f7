-- On: `limited`. The reader with room d finds exactly the trees that are at most d high, and says
-- that it went too deep only where each tree is higher.
--
-- Carries: capped_deep, capped_found, capped_low, capped_no_form and 1 more, for Callers/Steps.
use Rattle.std.proofs.Common.{◌≡◌, inl, inr, ◌↔◌, sym, subst, ◌∙◌, refl, ℕ, zero, suc, ◌≤◌, ◌<◌, arith, List, [], ◌∷◌, ◌++◌, length, Bool}
use Rattle.std.proofs.Common.{true, false, cond, leb}
use Rattle.std.proofs.lemmas.Bool.{leb-true}
use Rattle.pygrammar.specs.declared.levels.Level.{Level}
use Rattle.pytree_node.specs.Trees.{Expr}
use Rattle.pytoken.specs.Terminals.{Terminal}
use Rattle.pygrammar.specs.Grammar.{Derives}
use Rattle.pytree_height.specs.Heights.{height}
use Rattle.pygrammar.specs.Reader.{Answer, Found, NoForm, TooDeep, Reads, levels_from, read, reads}
use Rattle.pygrammar.specs.Capped.{cap, capped_descend, capped_step, capped, limited}
use Rattle.pygrammar.proofs.Answers.{found_one, rest_found, deep_found, deep_none}
use Rattle.pygrammar.proofs.Completeness.Climb.{Stops}
use Rattle.pygrammar.proofs.Depths.Whole.{not_deep, final, reads_all, reads_front, no_tree}
use Rattle.pygrammar.proofs.Soundness.Sound.{sound}
use Rattle.pygrammar.proofs.Heights.Over.{Over, over}
use Rattle.pygrammar.proofs.Heights.Caps.{caps_read}

-- an answer is not higher than the room
cap_low : (d : ℕ) (x : Answer Expr) (e : Expr) (r : List Terminal) → cap d x ≡ Found e r → height e ≤ d
cap_low d NoForm e r h = absurd (cc)
cap_low d TooDeep e r h = absurd (cc)
cap_low d (Found a s) e r h = go (leb (height a) d) refl h
  where
    go : (b : Bool) → leb (height a) d ≡ b → cond b (Found a s) TooDeep ≡ Found e r → height e ≤ d
    go true q h = subst (λ z. height z ≤ d) (found_one a e s r h) (leb-true (height a) d q)
    go false q h = absurd (cc)

descend_low : (d : ℕ) (same inner : Reads) (k : ℕ) (l : Level) (i : List Terminal) (e : Expr) (r : List Terminal)
    → capped_descend d same inner k l i ≡ Found e r → height e ≤ d
descend_low d same inner zero l i e r h = absurd (cc)
descend_low d same inner (suc k) l i e r h = cap_low d (capped_step d (capped_descend d same inner k) same inner l i) e r h

pub capped_low : (g d : ℕ) (l : Level) (i : List Terminal) (e : Expr) (r : List Terminal) → capped g d l i ≡ Found e r → height e ≤ d
capped_low zero d l i e r h = absurd (cc)
capped_low (suc g) zero l i e r h = absurd (cc)
capped_low (suc g) (suc d) l i e r h = descend_low (suc d) (capped g (suc d)) (capped g d) (levels_from l) l i e r h

-- beside the plain reader
over_found : (n : ℕ) (e : Expr) (r : List Terminal) → Over height n (Found e r) → n ≤ height e
over_found n e r (over p) = p

pub capped_found : (g d : ℕ) (l : Level) (i : List Terminal) (e : Expr) (r : List Terminal) → capped g d l i ≡ Found e r
    → read g l i ≡ Found e r
capped_found g d l i e r h = elim (caps_read g d l i) [ inl q ↦ sym q ∙ h | inr q ↦ absurd (deep_found e r (sym q.0 ∙ h)) ]

pub capped_no_form : (g d : ℕ) (l : Level) (i : List Terminal) → capped g d l i ≡ NoForm → read g l i ≡ NoForm
capped_no_form g d l i h = elim (caps_read g d l i) [ inl q ↦ sym q ∙ h | inr q ↦ absurd (deep_none (sym q.0 ∙ h)) ]

pub capped_deep : (g d : ℕ) (l : Level) (i : List Terminal) (e : Expr) (r : List Terminal) → capped g d l i ≡ TooDeep
    → read g l i ≡ Found e r → d < height e
capped_deep g d l i e r h k = elim (caps_read g d l i) [
  | inl q ↦ absurd (deep_found e r (sym h ∙ (q ∙ k)))
  | inr q ↦ over_found (suc d) e r (subst (λ z. Over height (suc d) z) k q.1)
]

-- more than there are terminals, the first number changes nothing
pub enough : (g : ℕ) (l : Level) (ts : List Terminal) → length ts < g → read g l ts ≡ reads l ts
enough g l ts w = elim (final g l ts) [ inl q ↦ absurd (not_deep l ts g w q) | inr q ↦ q ]

-- a tree with a height of at most d is found, with what may follow it
pub found_low : (g d : ℕ) (l : Level) (i : List Terminal) (e : Expr) (r : List Terminal) → length i < g → reads l i ≡ Found e r
    → height e ≤ d → capped g d l i ≡ Found e r
found_low g d l i e r w h low = elim (caps_read g d l i) [
  | inl q ↦ q ∙ (enough g l i w ∙ h)
  | inr q ↦ absurd (omega (arith, low, over_found (suc d) e r (subst (λ z. Over height (suc d) z) (enough g l i w ∙ h) q.1)))
]

pub capped_front : {l : Level} {ts : List Terminal} {e : Expr} (g d : ℕ) (rest : List Terminal) → Derives l ts e → height e ≤ d
    → Stops l rest → length (ts ++ rest) < g → capped g d l (ts ++ rest) ≡ Found e rest
capped_front {l} {ts} {e} g d rest p low s w = found_low g d l (ts ++ rest) e rest w (reads_front p rest s) low

-- the law: Ok
pub limited_exactly : (d : ℕ) (l : Level) (ts : List Terminal) (e : Expr)
    → (Derives l ts e × (height e ≤ d)) ↔ (limited d l ts ≡ Found e [])
limited_exactly d l ts e = (
  λ p. found_low (suc (length ts)) d l ts e [] (omega arith) (reads_all p.0) p.1,
  λ h. (sound (suc (length ts)) l ts e (capped_found (suc (length ts)) d l ts e [] h), capped_low (suc (length ts)) d l ts e [] h),
)

-- no form
pub limited_no_form : (d : ℕ) (l : Level) (ts : List Terminal) → limited d l ts ≡ NoForm → (e : Expr) → Derives l ts e → ⊥
limited_no_form d l ts h e p = no_tree (suc (length ts)) l ts e (capped_no_form (suc (length ts)) d l ts h) p

-- no form: something follows
pub limited_rest : (d : ℕ) (l : Level) (ts : List Terminal) (f : Expr) (t : Terminal) (r : List Terminal) → limited d l ts ≡ Found f (t ∷ r)
    → (e : Expr) → Derives l ts e → ⊥
limited_rest d l ts f t r h e p = absurd (rest_found f e t r (sym (capped_found (suc (length ts)) d l ts f (t ∷ r) h) ∙ reads_all p))

-- too deep
pub limited_deep : (d : ℕ) (l : Level) (ts : List Terminal) → limited d l ts ≡ TooDeep → (e : Expr) → Derives l ts e → d < height e
limited_deep d l ts h e p = capped_deep (suc (length ts)) d l ts e [] h (reads_all p)
