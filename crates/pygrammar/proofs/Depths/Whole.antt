-- Carries: `reader_is_exact`, `expressions_are_decided`. The plain reader without a depth answers
-- exactly what the grammar gives.
use Rattle.std.proofs.Common.{◌≡◌, ◌⊎◌, inl, inr, ◌↔◌, sym, ap, subst, ◌∙◌, ℕ, zero, suc, ◌+◌, ◌≤◌, ◌<◌, arith, List, [], ◌++◌, length}
use Rattle.std.proofs.Common.{Some}
use Rattle.pygrammar.specs.Lengths.{weight}
use Rattle.pygrammar.proofs.Answers.{none_found, deep_none}
use Rattle.pygrammar.proofs.Depths.Weights.{weight_most}
use Rattle.pygrammar.specs.declared.levels.Level.{Level}
use Rattle.pytree_node.specs.Trees.{Expr}
use Rattle.pygrammar.specs.Targets.{stored}
use Rattle.pytoken.specs.Terminals.{Terminal}
use Rattle.pygrammar.specs.declared.levels.Level.TheVariants.{Stars}
use Rattle.pygrammar.specs.Grammar.{Derives}
use Rattle.pygrammar.specs.Reader.{Found, NoForm, TooDeep, read, reads, read_target}
use Rattle.pygrammar.proofs.Completeness.Complete.{complete, goes}
use Rattle.pygrammar.proofs.Completeness.Climb.{Stops, answers}
use Rattle.pygrammar.proofs.Completeness.LookLemmas.{grip_of, lead_of}
use Rattle.pygrammar.proofs.Depths.Keeps.{keeps_read}
use Rattle.pygrammar.proofs.Depths.Enough.{Good, good_read}
use Rattle.pygrammar.proofs.Soundness.Sound.{sound, sound_read}
use Rattle.pygrammar.proofs.Soundness.Says.{Says, says_found, Reads_as}

pub not_deep : (l : Level) (ts : List Terminal) (d : ℕ) → length ts < d → read d l ts ≡ TooDeep → ⊥
not_deep l ts d w h = subst (Good (weight ts)) h (good_read d l ts (omega (arith, w, weight_most ts)))

-- more depth changes no answer
pub stays : (k d : ℕ) (l : Level) (ts : List Terminal) → length ts < d → read (k + d) l ts ≡ read d l ts
stays zero d l ts w = ap (λ n. read n l ts) (plus_zero d)
  where
    plus_zero : (d : ℕ) → zero + d ≡ d
    plus_zero d = omega arith
stays (suc k) d l ts w = ap (λ n. read n l ts) (plus_suc k d)
    ∙ (elim (keeps_read (k + d) l ts) [ inl q ↦ absurd (not_deep l ts (k + d) (omega (arith, w)) q) | inr q ↦ sym q ] ∙ stays k d l ts w)
  where
    plus_suc : (k d : ℕ) → suc k + d ≡ suc (k + d)
    plus_suc k d = omega arith

pub reads_all : {l : Level} {ts : List Terminal} {e : Expr} → Derives l ts e → reads l ts ≡ Found e []
reads_all {l} {ts} {e} p =
    let c = complete p in
    sym (stays c.0 (suc (length ts)) l ts (omega arith))
    ∙ (ap (λ n. read n l ts) (one c.0 (length ts)) ∙ c.1 (c.0 + length ts) (omega arith))
  where
    one : (k n : ℕ) → k + suc n ≡ suc (k + n)
    one k n = omega arith

-- the law
pub exactly : (l : Level) (ts : List Terminal) (e : Expr) → Derives l ts e ↔ (reads l ts ≡ Found e [])
exactly l ts e = (λ p. reads_all p, λ h. sound (suc (length ts)) l ts e h)

-- for the forms of a line: an expression at the front, where what follows may stop it
pub reads_front : {l : Level} {ts : List Terminal} {e : Expr} → Derives l ts e → (rest : List Terminal) → Stops l rest
    → reads l (ts ++ rest) ≡ Found e rest
reads_front {l} {ts} {e} p rest s =
    let g = goes p in
    let n : ℕ = length (ts ++ rest) in
    sym (stays g.0 (suc n) l (ts ++ rest) (omega arith))
    ∙ (ap (λ k. read k l (ts ++ rest)) (one g.0 n) ∙ answers l ts e (g.0 + n) rest (g.1 (g.0 + n) (omega arith)) s)
  where
    one : (k n : ℕ) → k + suc n ≡ suc (k + n)
    one k n = omega arith

pub sound_front : (d : ℕ) (l : Level) (i r : List Terminal) (e : Expr) → read d l i ≡ Found e r
    → (ts : List Terminal) × (i ≡ ts ++ r) × Derives l ts e
sound_front d l i r e h =
    let p : Reads_as l i e r = says_found e r (subst (Says (Reads_as l i)) h (sound_read d l i)) in
    (p.0, p.1, p.2)

-- a target in front of `in`
pub target_front : {ts : List Terminal} {e : Expr} (s : Expr) → Derives Stars ts e → stored e ≡ Some s → (rest : List Terminal)
    → grip_of rest ≤ 22 → (grip_of rest ≡ 3 → ⊥) → lead_of rest ≤ 6
    → (n : ℕ) × ((d : ℕ) → n ≤ d → read_target (read (suc d)) (ts ++ rest) ≡ Found e rest)
target_front s p q rest a b c = let g = goes p in (g.0, λ d h. g.2 d h s q rest a b c)

-- at any depth the reader says that it went too deep, or what the plain reader says
pub lifts : (k d : ℕ) (l : Level) (ts : List Terminal) → (read d l ts ≡ TooDeep) ⊎ (read d l ts ≡ read (k + d) l ts)
lifts zero d l ts = inr (ap (λ n. read n l ts) (plus_zero d))
  where
    plus_zero : (d : ℕ) → d ≡ zero + d
    plus_zero d = omega arith
lifts (suc k) d l ts = elim (lifts k d l ts) [
  | inl q ↦ inl q
  | inr q ↦ elim (keeps_read (k + d) l ts) [ inl p ↦ inl (q ∙ p) | inr p ↦ inr (q ∙ (p ∙ ap (λ n. read n l ts) (plus_suc k d))) ]
]
  where
    plus_suc : (k d : ℕ) → suc (k + d) ≡ suc k + d
    plus_suc k d = omega arith

pub final : (d : ℕ) (l : Level) (ts : List Terminal) → (read d l ts ≡ TooDeep) ⊎ (read d l ts ≡ reads l ts)
final d l ts = elim (lifts (suc (length ts)) d l ts) [
  | inl q ↦ inl q
  | inr q ↦ inr (q ∙ (ap (λ n. read n l ts) (swap (suc (length ts)) d) ∙ stays d (suc (length ts)) l ts (omega arith)))
]
  where
    swap : (a b : ℕ) → a + b ≡ b + a
    swap a b = omega arith

-- so a refusal at any depth is one
pub no_tree : (d : ℕ) (l : Level) (ts : List Terminal) (e : Expr) → read d l ts ≡ NoForm → Derives l ts e → ⊥
no_tree d l ts e h p = elim (final d l ts) [
  | inl q ↦ deep_none (sym q ∙ h)
  | inr q ↦ none_found e [] (sym h ∙ (q ∙ reads_all p))
]

-- the plain reader always comes to an answer
pub answered : (l : Level) (ts : List Terminal) → reads l ts ≡ TooDeep → ⊥
answered l ts h = not_deep l ts (suc (length ts)) (omega arith) h
