-- Steps of a reader, and what may follow.
--
-- Carries: thus, front, when, peek and 17 more, for Simple, Values, Headers, Types and 3 more. On:
-- LookLemmas, Climb, LevelLemmas, Lists and 3 more.
use Rattle.std.proofs.Common.{◌≡◌, refl, ap, ◌∙◌, ℕ, zero, suc, ◌≤◌, ◌<◌, arith, List, [], ◌∷◌, ◌++◌, length, Option, Some, None, Bool}
use Rattle.std.proofs.Common.{true, false, cond, append_assoc, length-append}
use Rattle.pylex_lexeme.specs.declared.kinds.Exact.TheVariants as Sign
use Rattle.pytoken.specs.declared.keywords.Keyword.TheVariants as Key
use Rattle.pygrammar.specs.declared.levels.Level.{Level}
use Rattle.pygrammar.specs.declared.levels.Level.TheVariants.{Value, Stars, StarItem, Or, Primary}
use Rattle.pytree_node.specs.Trees.{Expr, Identifier}
use Rattle.pytoken.specs.Terminals.{Terminal, Op}
use Rattle.pygrammar.specs.Looks.{is_op, is_word}
use Rattle.pygrammar.specs.Entries.{Of}
use Rattle.pygrammar.specs.Grammar as G
use Rattle.pygrammar.specs.Reader.{Answer, Found, and_then, on_some, on_first, read}
use Rattle.pygrammar.specs.Precedence.{first, starts}
use Rattle.pygrammar.proofs.Completeness.LookLemmas.{grip, grip_of, lead_of, pass_word}
use Rattle.pygrammar.proofs.Completeness.Climb.{Stops, unroll}
use Rattle.pygrammar.proofs.Completeness.LevelLemmas.{led, stars_step}
use Rattle.pygrammar.proofs.Completeness.Lists.{piece_starts}
use Rattle.pygrammar.proofs.Completeness.Comps.{starts_low}
use Rattle.pygrammar.proofs.Soundness.Says.{lower}
use Rattle.pygrammar.proofs.Depths.Whole.{reads_front}
use Rattle.pygrammar.specs.Forms as F
use Rattle.pygrammar.specs.LineReader.{same_as, commas, commas_of, read_as, plain, if_any, after}

pub thus : {A B : Type 0} {a : A} {r : List Terminal} {y : Answer B} (x : Answer A) (k : A → List Terminal → Answer B) → x ≡ Found a r
    → k a r ≡ y → and_then x k ≡ y
thus x k h g = ap (λ z. and_then z k) h ∙ g

pub when : {A : Type 0} {z : A} (b : Bool) (x y : A) → b ≡ true → x ≡ z → cond b x y ≡ z
when b x y h g = ap (λ c. cond c x y) h ∙ g

pub unless : {A : Type 0} {z : A} (b : Bool) (x y : A) → b ≡ false → y ≡ z → cond b x y ≡ z
unless b x y h g = ap (λ c. cond c x y) h ∙ g

-- what a test says of the first terminal
abbrev pub peek : {A : Type 0} → (Terminal → Option A) → List Terminal → Option A
peek f [] = None
peek f (t ∷ r) = f t

pub missed : {A B : Type 0} (f : Terminal → Option A) (r : List Terminal) (hit : A → List Terminal → B) (other : B) → peek f r ≡ None
    → on_first f r hit other ≡ other
missed f [] hit other h = refl
missed f (t ∷ r) hit other h = ap (λ o. on_some o (λ a. hit a r) other) h

-- what follows a simple statement
pub data Ends : List Terminal → Type 0 where
  at_end : Ends []
  at_semi : {r : List Terminal} → Ends (Op Sign.Semi ∷ r)

pub ends_grip : {r : List Terminal} → Ends r → grip_of r ≤ 0
ends_grip at_end = omega arith
ends_grip at_semi = omega arith

pub ends_lead : {r : List Terminal} → Ends r → lead_of r ≤ 0
ends_lead at_end = omega arith
ends_lead at_semi = omega arith

pub ends_miss : {A : Type 0} {r : List Terminal} (f : Terminal → Option A) → f (Op Sign.Semi) ≡ None → Ends r → peek f r ≡ None
ends_miss f h at_end = refl
ends_miss f h at_semi = h

-- expressions
pub started : {l : Level} {ts : List Terminal} {e : Expr} → G.Derives l ts e → (r : List Terminal) → starts (Of l) (ts ++ r) ≡ true
started {l} p r = piece_starts {i = Of l} (G.single p) r

pub front : {l : Level} {ts : List Terminal} {e : Expr} → G.Derives l ts e → (r : List Terminal) → Stops l r → plain l (ts ++ r) ≡ Found e r
front p r s = reads_front p r s

pub item_of : {ts : List Terminal} {e : Expr} → G.Derives Primary ts e → G.Derives StarItem ts e
item_of {ts} {e} p = G.next (G.next (lower Or Primary ts e (omega arith) (omega arith) (omega arith) p))

-- a Value in front of a colon too
pub value_front : {ts : List Terminal} {e : Expr} → G.Derives StarItem ts e → (r : List Terminal) → grip_of r ≤ 8 → (grip_of r ≡ 3 → ⊥)
    → plain Value (ts ++ r) ≡ Found e r
value_front {ts} {e} p r w g =
    let i = ts ++ r in
    let d : ℕ = length (ts ++ r) in
    unroll d Value i ∙ (pass_word Key.Yield ts r _ _ (omega (arith, led p))
    ∙ (unroll d Stars i ∙ stars_step (read (suc d)) (read d) i r e (reads_front p r w) g))

pub if_any_goes : {l : Level} {ts : List Terminal} {e : Option Expr} → F.Perhaps l ts e → (r : List Terminal) → Stops l r
    → lead_of r < first l → if_any plain l (ts ++ r) ≡ Found e r
if_any_goes (F.left_out {l = l}) r s w = unless _ _ _ (starts_low l r w) refl
if_any_goes (F.given {ts = ts} p) r s w = when _ _ _ (started p r) (thus _ _ (front p r s) refl)

pub after_goes : {t : Terminal} {l : Level} {us : List Terminal} {v : Option Expr} → F.Following t l us v → same_as t t ≡ Some 0
    → (r : List Terminal) → Stops l r → peek (same_as t) r ≡ None → after plain t l (us ++ r) ≡ Found v r
after_goes (F.none_after {t = t}) h r s m = missed (same_as t) r _ _ m
after_goes (F.following {t = t} {l = l} {ts = ts} p) h r s m =
    ap (λ o. on_some o (λ _. and_then (plain l (ts ++ r)) (λ e r1. Found (Some e) r1)) (Found None (t ∷ (ts ++ r)))) h
    ∙ thus _ _ (front p r s) refl

pub after_grip : {t : Terminal} {l : Level} {us : List Terminal} {v : Option Expr} → F.Following t l us v → (r : List Terminal) → grip t ≤ 8
    → grip_of r ≤ 8 → grip_of (us ++ r) ≤ 8
after_grip F.none_after r a b = b
after_grip (F.following p) r a b = a

pub as_goes : {us : List Terminal} {x : Option Identifier} → F.As us x → (r : List Terminal) → peek (is_word Key.As) r ≡ None
    → read_as (us ++ r) ≡ Found x r
as_goes F.no_as r h = missed (is_word Key.As) r _ _ h
as_goes F.as_name r h = refl

-- lists with commas: what follows the last one
pub data Tail (more : List Terminal → Bool) : List Terminal → List Terminal → Type 0 where
  bare : {r : List Terminal} → peek (is_op Sign.Comma) r ≡ None → Tail more r r
  ended : {r : List Terminal} → more r ≡ false → Tail more (Op Sign.Comma ∷ r) r

module _ (A : Type 0) (X : List Terminal → A → Type 0) (one : List Terminal → Answer A) (more : List Terminal → Bool) (good : List Terminal
    → Type 0) (goes : (ts : List Terminal) (a : A) → X ts a → (r : List Terminal) → good r → one (ts ++ r) ≡ Found a r)
    (begins : (ts : List Terminal) (a : A) → X ts a → (r : List Terminal) → more (ts ++ r) ≡ true) (separable : (r : List Terminal)
    → good (Op Sign.Comma ∷ r)) where
  pub commas_begin : {ts : List Terminal} {as_ : List A} → F.Commas A X ts as_ → (r : List Terminal) → more (ts ++ r) ≡ true
  commas_begin (F.alone {ts = ts} {a = a} x) r = begins ts a x r
  commas_begin (F.comma {ts = ts} {us = us} {a = a} x c) r = ap more (append_assoc ts (Op Sign.Comma ∷ us) r)
      ∙ begins ts a x (Op Sign.Comma ∷ (us ++ r))

  commas_last : (a : A) (m : ℕ) {z r : List Terminal} → Tail more z r
      → on_first (is_op Sign.Comma) z (λ _ r1. cond (more r1) (and_then (commas one more m r1) (λ as_ r2. Found (a ∷ as_) r2))
      (Found (a ∷ []) r1)) (Found (a ∷ []) z) ≡ Found (a ∷ []) r
  commas_last a m {z} (bare h) = missed (is_op Sign.Comma) z _ _ h
  commas_last a m (ended h) = unless _ _ _ h refl

  commas_loop : (n : ℕ) {ts : List Terminal} {as_ : List A} → F.Commas A X ts as_ → (z r : List Terminal) → Tail more z r → good z
      → length (ts ++ z) < n → commas one more n (ts ++ z) ≡ Found as_ r
  commas_loop zero c z r t g h = absurd (omega (arith, h))
  commas_loop (suc m) (F.alone {ts = ts} {a = a} x) z r t g h = thus _ _ (goes ts a x z g) (commas_last a m t)
  commas_loop (suc m) (F.comma {ts = ts} {us = us} {a = a} x c) z r t g h =
      let l : length (us ++ z) < m = omega (
        arith,
        h,
        length-append (ts ++ (Op Sign.Comma ∷ us)) z,
        length-append ts (Op Sign.Comma ∷ us),
        length-append us z,
      ) in
      ap (commas one more (suc m)) (append_assoc ts (Op Sign.Comma ∷ us) z)
      ∙ thus _ _ (goes ts a x (Op Sign.Comma ∷ (us ++ z)) (separable (us ++ z)))
      (when _ _ _ (commas_begin c z) (thus _ _ (commas_loop m c z r t g l) refl))

  pub commas_goes : {ts : List Terminal} {as_ : List A} → F.Commas A X ts as_ → (r : List Terminal) → peek (is_op Sign.Comma) r ≡ None
      → good r → commas_of one more (ts ++ r) ≡ Found as_ r
  commas_goes {ts} c r h g = commas_loop (suc (length (ts ++ r))) c r r (bare h) g (omega arith)

  pub commas?_goes : {ts : List Terminal} {as_ : List A} → F.Commas? A X ts as_ → (r : List Terminal) → peek (is_op Sign.Comma) r ≡ None
      → more r ≡ false → good r → commas_of one more (ts ++ r) ≡ Found as_ r
  commas?_goes (F.ends_bare c) r h k g = commas_goes c r h g
  commas?_goes (F.ends_comma {ts = ts} c) r h k g = ap (commas_of one more) (append_assoc ts (Op Sign.Comma ∷ []) r)
      ∙ commas_loop (suc (length (ts ++ (Op Sign.Comma ∷ r)))) c (Op Sign.Comma ∷ r) r (ended k) (separable r) (omega arith)
