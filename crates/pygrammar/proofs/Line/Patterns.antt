-- What lines need of the reader of patterns: beside the plain one, what any number of steps and any
-- room answer.
--
-- Carries: plain_pattern_goes, final_pattern, pattern_light, pattern_good, pattern_over, for Law, Answered, Depth
-- and 2 more. On: Pattern/Sound, Complete, Keeps, Long, Bound.
use Rattle.std.proofs.Common.{◌≡◌, inl, inr, refl, sym, ap, ◌∙◌, ℕ, suc, ◌≤◌, ◌<◌, arith, List, ◌++◌, length, length-append}
use Rattle.std.specs.Prelude.{max}
use Rattle.pygrammar.specs.Lengths.{weight}
use Rattle.pygrammar.proofs.Answers.{deep_found}
use Rattle.pygrammar.proofs.Depths.Weights.{weight_append, weight_most}
use Rattle.pygrammar.specs.declared.pattern_levels.PatternLevel.{PatternLevel}
use Rattle.pytree_node.specs.Trees.{Pattern}
use Rattle.pytoken.specs.Terminals.{Terminal}
use Rattle.pytree_height.specs.Heights.{pattern_height}
use Rattle.pygrammar.specs.Reader.{Answer, Found, NoForm, TooDeep}
use Rattle.pygrammar.specs.PatternGrammar.{DerivesPattern}
use Rattle.pygrammar.specs.PatternReader.{capped_pattern}
use Rattle.pygrammar.specs.LineReader.{plain_pattern}
use Rattle.pygrammar.proofs.Depths.Enough.{Good}
use Rattle.pygrammar.proofs.Depths.Keeps.{Keeps, Light}
use Rattle.pygrammar.proofs.Pattern.Bound.{bounded}
use Rattle.pygrammar.proofs.Pattern.Sound.{sound}
use Rattle.pygrammar.proofs.Pattern.Ends.{EndsPattern}
use Rattle.pygrammar.proofs.Pattern.Complete.{complete}
use Rattle.pygrammar.proofs.Pattern.Keeps.{keeps}
use Rattle.pygrammar.proofs.Pattern.Long.{long}

-- a pattern at the front
pub plain_pattern_goes : {l : PatternLevel} {ts : List Terminal} {p : Pattern} → DerivesPattern l ts p → (r : List Terminal)
    → EndsPattern l r → plain_pattern l (ts ++ r) ≡ Found p r
plain_pattern_goes {l} {ts} {p} q r e =
    let n : ℕ = length (ts ++ r) in
    complete q (suc n) (suc (suc n)) r (omega (arith, length-append ts r))
    (omega (arith, bounded l ts p q, weight_most ts, length-append ts r)) e

-- what is found is derived, and no terminal is lost
shorter : (g d : ℕ) (l : PatternLevel) (i r : List Terminal) (p : Pattern) → capped_pattern g d l i ≡ Found p r → weight r ≤ weight i
shorter g d l i r p h = let s = sound g d l i r p h in omega (arith, ap weight s.1, weight_append s.0 r)

pub pattern_light : (g d : ℕ) (l : PatternLevel) (i : List Terminal) → Light (suc (weight i)) (capped_pattern g d l i)
pattern_light g d l i = go (capped_pattern g d l i) refl
  where
    go : (x : Answer Pattern) → capped_pattern g d l i ≡ x → Light (suc (weight i)) x
    go (Found p r) q = omega (arith, shorter g d l i r p q)
    go NoForm q = tt
    go TooDeep q = tt

-- the plain reader never goes too deep
plain_answers : (l : PatternLevel) (i : List Terminal) → plain_pattern l i ≡ TooDeep → ⊥
plain_answers l i h =
    absurd (omega (arith, long (suc (length i)) (suc (suc (length i))) l i (omega (arith, weight_most i)) h, weight_most i))

-- any other goes too deep, or answers the same
pub final_pattern : (g d : ℕ) (l : PatternLevel) (i : List Terminal) → Keeps (capped_pattern g d l i) (plain_pattern l i)
final_pattern g d l i =
    let n : ℕ = length i in
    let most : ℕ = max g (suc n) in
    let room : ℕ = max d (suc (suc n)) in
    elim (keeps (suc n) most (suc (suc n)) room (omega arith) (omega arith) l i) [
      | inl q ↦ absurd (plain_answers l i q)
      | inr q ↦ elim (keeps g most d room (omega arith) (omega arith) l i) [ inl p ↦ inl p | inr p ↦ inr (p ∙ sym q) ]
    ]

-- it doesn't go too deep where there is room for as many levels as the terminals count
pub pattern_good : (g d n : ℕ) (l : PatternLevel) (i : List Terminal) → weight i < g → weight i < d → weight i < n
    → Good n (capped_pattern g d l i)
pattern_good g d n l i a b w = go (capped_pattern g d l i) refl
  where
    go : (x : Answer Pattern) → capped_pattern g d l i ≡ x → Good n x
    go (Found p r) q = omega (arith, w, shorter g d l i r p q)
    go NoForm q = tt
    go TooDeep q = absurd (omega (arith, b, long g d l i a q))

-- where it does, what the plain reader finds in front of a terminal that ends it is higher than the room
pub pattern_over : (g d : ℕ) (l : PatternLevel) (i r : List Terminal) (p : Pattern) → length i < g → capped_pattern g d l i ≡ TooDeep
    → plain_pattern l i ≡ Found p r → EndsPattern l r → d < pattern_height p
pattern_over g d l i r p a h k e =
    let s = sound (suc (length i)) (suc (suc (length i))) l i r p k in
    least d (pattern_height p)
    (λ w. deep_found p r (sym h ∙ (ap (capped_pattern g d l) s.1
    ∙ complete s.2 g d r (omega (arith, a, ap length s.1, length-append s.0 r)) w e)))
  where
    least : (d n : ℕ) → (n ≤ d → ⊥) → d < n
    least d n f = omega (arith, f)
