-- The laws of patterns: at a level a list is one pattern or none, and within a height the reader
-- finds it exactly where it is no higher.
--
-- Carries: unique, decided, limited, meets, for Callers/PatternLaw. On: Sound, Bound, Complete,
-- Keeps, Long.
use Rattle.std.proofs.Common.{◌≡◌, ◌⊎◌, inl, inr, refl, sym, ap, subst, ◌∙◌, ℕ, suc, ◌≤◌, ◌<◌, arith, List, [], ◌∷◌, length, append-nil}
use Rattle.std.proofs.Common.{length-append, Bool, true, false, cond, leb}
use Rattle.std.proofs.lemmas.Bool.{leb-true, leb-false, le-leb}
use Rattle.std.specs.Prelude.{max}
use Rattle.pygrammar.specs.Lengths.{weight}
use Rattle.pygrammar.proofs.Depths.Weights.{weight_append, weight_most}
use Rattle.pygrammar.specs.declared.pattern_levels.PatternLevel.{PatternLevel}
use Rattle.pytree_node.specs.Trees.{Pattern}
use Rattle.pytoken.specs.Terminals.{Terminal}
use Rattle.pytree_height.specs.Heights.{pattern_height}
use Rattle.pygrammar.specs.Reader.{Answer, Found, NoForm, TooDeep}
use Rattle.pygrammar.specs.PatternGrammar.{DerivesPattern}
use Rattle.pygrammar.specs.PatternReader.{cap_pattern, limited_pattern}
use Rattle.pygrammar.specs.PatternMeets.{Patternless, HighPattern, PatternMeets}
use Rattle.pygrammar.specs.PatternLaws.{PatternsAreUnique, PatternsAreDecided, PatternLimitIsExact, PatternLimitMeets}
use Rattle.pygrammar.proofs.Pattern.Sound.{sound}
use Rattle.pygrammar.proofs.Pattern.Bound.{bounded}
use Rattle.pygrammar.proofs.Pattern.Keeps.{keeps}
use Rattle.pygrammar.proofs.Pattern.Long.{long}
use Rattle.pygrammar.proofs.Pattern.Complete.{complete_limited}

-- ---- What the answers say.

found_one : {p q : Pattern} {r s : List Terminal} → ◌≡◌ {A = Answer Pattern} (Found p r) (Found q s) → p ≡ q
found_one h = cc

found_rest : {p q : Pattern} {r s : List Terminal} → ◌≡◌ {A = Answer Pattern} (Found p r) (Found q s) → r ≡ s
found_rest h = cc

not_none : {p : Pattern} {r : List Terminal} → ◌≡◌ {A = Answer Pattern} NoForm (Found p r) → ⊥
not_none h = absurd (cc)

not_deep : {p : Pattern} {r : List Terminal} → ◌≡◌ {A = Answer Pattern} TooDeep (Found p r) → ⊥
not_deep h = absurd (cc)

none_not_deep : ◌≡◌ {A = Answer Pattern} NoForm TooDeep → ⊥
none_not_deep h = absurd (cc)

some_left : {t : Terminal} {r : List Terminal} → t ∷ r ≡ [] → ⊥
some_left h = absurd (cc)

-- in any room an answer that isn't TooDeep is the pattern of the list, if it has one
answer_is : (d : ℕ) (l : PatternLevel) (ts : List Terminal) (p : Pattern) → DerivesPattern l ts p
    → (limited_pattern d l ts ≡ TooDeep) ⊎ (limited_pattern d l ts ≡ Found p [])
answer_is d l ts p h = elim (keeps (suc (length ts)) (suc (length ts)) d (max d (pattern_height p)) (omega arith) (omega arith) l ts)
    [ inl q ↦ inl q | inr q ↦ inr (q ∙ complete_limited h (max d (pattern_height p)) (omega arith)) ]

-- so it is none where there is no form
no_pattern_at : (d : ℕ) (l : PatternLevel) (ts : List Terminal) → limited_pattern d l ts ≡ NoForm → Patternless l ts
no_pattern_at d l ts h p k = elim (answer_is d l ts p k) [ inl q ↦ none_not_deep (sym h ∙ q) | inr q ↦ not_none (sym h ∙ q) ]

-- or where something is left
no_whole : (d : ℕ) (l : PatternLevel) (ts : List Terminal) (p : Pattern) (t : Terminal) (r : List Terminal)
    → limited_pattern d l ts ≡ Found p (t ∷ r) → Patternless l ts
no_whole d l ts p t r h q k = elim (answer_is d l ts q k) [ inl e ↦ not_deep (sym e ∙ h) | inr e ↦ some_left (found_rest (sym h ∙ e)) ]

-- and else the one that was found
whole_is : (d : ℕ) (l : PatternLevel) (ts : List Terminal) (p : Pattern) → limited_pattern d l ts ≡ Found p []
    → DerivesPattern l ts p × (pattern_height p ≤ d)
whole_is d l ts p h =
    let s = sound (suc (length ts)) d l ts [] p h in
    (subst (λ i. DerivesPattern l i p) (sym (s.1 ∙ append-nil s.0)) s.2, s.3)

-- ---- The laws.

pub unique : PatternsAreUnique
unique l ts p q a b = found_one (sym (complete_limited a (max (pattern_height p) (pattern_height q)) (omega arith))
    ∙ complete_limited b (max (pattern_height p) (pattern_height q)) (omega arith))

pub decided : PatternsAreDecided
decided l ts = go (limited_pattern (suc (length ts)) l ts) refl
  where
    go : (x : Answer Pattern) → limited_pattern (suc (length ts)) l ts ≡ x → ((p : Pattern) × DerivesPattern l ts p) ⊎ Patternless l ts
    go (Found p []) h = inl (p, (whole_is (suc (length ts)) l ts p h).0)
    go (Found p (t ∷ r)) h = inr (no_whole (suc (length ts)) l ts p t r h)
    go NoForm h = inr (no_pattern_at (suc (length ts)) l ts h)
    go TooDeep h = absurd (omega (arith, long (suc (length ts)) (suc (length ts)) l ts (omega (arith, weight_most ts)) h, weight_most ts))

-- what is read with one level more of room, where it is too high
too_high : (d : ℕ) (l : PatternLevel) (ts : List Terminal) (p : Pattern) (r : List Terminal) → limited_pattern (suc d) l ts ≡ Found p r
    → d < pattern_height p → HighPattern d l ts
too_high d l ts p [] h w =
    let s = (whole_is (suc d) l ts p h).0 in
    (λ q k. subst (λ z. d < pattern_height z) (unique l ts p q s k) w, λ no. absurd (no p s))
too_high d l ts p (t ∷ r) h w =
    let s = sound (suc (length ts)) (suc d) l ts (t ∷ r) p h in (
      λ q k. absurd (no_whole (suc d) l ts p t r h q k),
      λ no. (
        omega (arith, w, bounded l s.0 p s.2, weight_most s.0, ap length s.1, length-append s.0 (t ∷ r)),
        omega (arith, w, bounded l s.0 p s.2, ap weight s.1, weight_append s.0 (t ∷ r)),
      ),
    )

pub meets : PatternLimitMeets
meets d l ts = go (limited_pattern (suc d) l ts) refl
  where
    low : (p : Pattern) (r : List Terminal) → limited_pattern (suc d) l ts ≡ Found p r → pattern_height p ≤ d
        → PatternMeets d l ts (Found p r)
    low p [] h w = ((whole_is (suc d) l ts p h).0, w)
    low p (t ∷ r) h w = no_whole (suc d) l ts p t r h

    check : (p : Pattern) (r : List Terminal) → limited_pattern (suc d) l ts ≡ Found p r → (b : Bool) → leb (pattern_height p) d ≡ b
        → PatternMeets d l ts (cond b (Found p r) TooDeep)
    check p r h true e = low p r h (leb-true (pattern_height p) d e)
    check p r h false e = too_high d l ts p r h (leb-false (pattern_height p) d e)

    high : limited_pattern (suc d) l ts ≡ TooDeep → (p : Pattern) → DerivesPattern l ts p → d < pattern_height p
    high h p k = least λ w. not_deep (sym h ∙ complete_limited k (suc d) (omega (arith, w)))
      where
        least : (pattern_height p ≤ d → ⊥) → d < pattern_height p
        least f = omega (arith, f)

    go : (x : Answer Pattern) → limited_pattern (suc d) l ts ≡ x → PatternMeets d l ts (cap_pattern d x)
    go (Found p r) h = check p r h (leb (pattern_height p) d) refl
    go NoForm h = no_pattern_at (suc d) l ts h
    go TooDeep h = (
      high h,
      λ _. let n = long (suc (length ts)) (suc d) l ts (omega (arith, weight_most ts)) h in
          (omega (arith, n, weight_most ts), omega (arith, n)),
    )

pub limited : PatternLimitIsExact
limited d l ts p = (
  λ h. ap (cap_pattern d) (complete_limited h.0 (suc d) (omega (arith, h.1)))
      ∙ ap (λ b. cond b (Found p []) TooDeep) (le-leb (pattern_height p) d h.1),
  λ h. subst (PatternMeets d l ts) h (meets d l ts),
)
