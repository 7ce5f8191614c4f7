-- Carries: `limit_meets`, `limit_is_exact`: what each answer of the reader within a height says,
-- and that each tree that is low is found.
use Rattle.std.proofs.Common.{◌≡◌, ◌↔◌, sym, ap, subst, ◌∙◌, refl, ℕ, suc, ◌≤◌, ◌<◌, arith, List, [], ◌∷◌, length, length-append, Bool}
use Rattle.std.proofs.Common.{true, false, cond, leb}
use Rattle.std.proofs.lemmas.Bool.{leb-true, leb-false, le-leb}
use Rattle.pygrammar.specs.Lengths.{weight}
use Rattle.pygrammar.proofs.Answers.{found_one}
use Rattle.pygrammar.proofs.Depths.Weights.{weight_append, weight_most}
use Rattle.pygrammar.specs.declared.levels.Level.{Level}
use Rattle.pygrammar.specs.declared.levels.Level.TheVariants.{Value}
use Rattle.pytree_node.specs.Trees.{Expr}
use Rattle.pytoken.specs.Terminals.{Terminal}
use Rattle.pygrammar.specs.Grammar.{Derives}
use Rattle.pytree_height.specs.Heights.{height}
use Rattle.pygrammar.specs.Reader.{Answer, Found, NoForm, TooDeep, read}
use Rattle.pygrammar.specs.Capped.{cap, capped_step, capped, limited, limit}
use Rattle.pygrammar.specs.Meets.{High, Meets}
use Rattle.pygrammar.proofs.Depths.Whole.{sound_front, reads_all}
use Rattle.pygrammar.proofs.Heights.Limits.{capped_found, limited_exactly, limited_no_form, limited_rest, limited_deep}
use Rattle.pygrammar.proofs.Heights.Bound.{tall}
use Rattle.pygrammar.proofs.Heights.Room.{slack_most, limited_enough}

-- the equation of the capped reader: one level
pub unroll_capped : (g d : ℕ) (l : Level) (i : List Terminal)
    → capped (suc g) (suc d) l i ≡ cap (suc d) (capped_step (suc d) (capped (suc g) (suc d)) (capped g (suc d)) (capped g d) l i)
unroll_capped g d Value i = refl
unroll_capped g d _ i = refl

-- what is left over, and what is too high
too_high : (d : ℕ) (l : Level) (ts : List Terminal) (e : Expr) (r : List Terminal) → limited (suc d) l ts ≡ Found e r
    → d < height e → High d l ts
too_high d l ts e [] h w =
    let p = (limited_exactly (suc d) l ts e).1 h in
    (λ f q. subst (λ z. d < height z) (found_one e f [] [] (sym h' ∙ reads_all q)) w, λ no. absurd (no e p.0))
  where
    h' : read (suc (length ts)) l ts ≡ Found e []
    h' = capped_found (suc (length ts)) (suc d) l ts e [] h
too_high d l ts e (t ∷ r) h w =
    let p = sound_front (suc (length ts)) l ts (t ∷ r) e (capped_found (suc (length ts)) (suc d) l ts e (t ∷ r) h) in (
      λ f q. absurd (limited_rest (suc d) l ts e t r h f q),
      λ no. (
        omega (arith, w, tall p.2, slack_most l, weight_most p.0, ap length p.1, length-append p.0 (t ∷ r)),
        omega (arith, w, tall p.2, ap weight p.1, weight_append p.0 (t ∷ r)),
      ),
    )

fits : (d : ℕ) (l : Level) (ts : List Terminal) (e : Expr) (r : List Terminal) → limited (suc d) l ts ≡ Found e r → height e ≤ d
    → Meets d l ts (Found e r)
fits d l ts e [] h w = (((limited_exactly (suc d) l ts e).1 h).0, w)
fits d l ts e (t ∷ r) h w = limited_rest (suc d) l ts e t r h

-- the law: what each answer says
pub meets : (d : ℕ) (l : Level) (ts : List Terminal) → Meets d l ts (limit d l ts)
meets d l ts = go (limited (suc d) l ts) refl
  where
    go : (x : Answer Expr) → limited (suc d) l ts ≡ x → Meets d l ts (cap d x)
    go NoForm q = limited_no_form (suc d) l ts q
    go TooDeep q = (
      λ e p. omega (arith, limited_deep (suc d) l ts q e p),
      λ no. (omega (arith, limited_enough (suc d) l ts q, weight_most ts), omega (arith, limited_enough (suc d) l ts q)),
    )
    go (Found e r) q = check (leb (height e) d) refl
      where
        check : (b : Bool) → leb (height e) d ≡ b → Meets d l ts (cond b (Found e r) TooDeep)
        check true v = fits d l ts e r q (leb-true (height e) d v)
        check false v = too_high d l ts e r q (leb-false (height e) d v)

-- and each tree that is at most d high is found
pub found_all : (d : ℕ) (l : Level) (ts : List Terminal) (e : Expr) → Derives l ts e → height e ≤ d → limit d l ts ≡ Found e []
found_all d l ts e p w = ap (cap d) ((limited_exactly (suc d) l ts e).0 (p, omega (arith, w)))
    ∙ ap (λ b. cond b (Found e []) TooDeep) (le-leb (height e) d w)

pub limit_exactly : (d : ℕ) (l : Level) (ts : List Terminal) (e : Expr) → (Derives l ts e × (height e ≤ d)) ↔ (limit d l ts ≡ Found e [])
limit_exactly d l ts e = (λ p. found_all d l ts e p.0 p.1, λ h. subst (Meets d l ts) h (meets d l ts))
