-- What the answer for a whole list says of the grammar of patterns.
--
-- Carries: read_whole_pattern. On: the laws of pygrammar, LevelSteps.
use Rattle.std.proofs.Common.{◌≡◌, ap, subst, ◌∙◌, arith, ℕ, suc, ◌+◌, ◌≤◌, ◌<◌, List, [], ◌∷◌, length, map}
use Rattle.std.proofs.lemmas.List.{length-map}
use Rattle.pytree_node.specs.Trees.{Pattern}
use Rattle.pytoken.specs.Terminals.{Terminal}
use Rattle.pytoken.specs.declared.values.terminals.Terminal as given
use Rattle.pytoken.specs.TerminalOf.{terminal}
use Rattle.pytree_height.specs.Heights.{pattern_height}
use Rattle.pygrammar.specs.declared.pattern_levels.PatternLevel.{PatternLevel}
use Rattle.pygrammar.specs.PatternMeets.{Patternless, HighPattern, PatternMeets}
use Rattle.pygrammar.specs.PatternReader.{cap_pattern, capped_pattern, limit_pattern}
use Rattle.pygrammar.specs.Reader.{Answer, Found, NoForm, TooDeep}
use Rattle.pygrammar.proofs.Callers.PatternLaw.{patterns_are_lawful}
use Rattle.pyparse_nodes.specs.declared.stop.Stop.{Stop}
use Rattle.pyparse_nodes.specs.declared.stop.Stop.TheVariants as stop
use Rattle.pyparse_nodes.specs.Answers.{Failed}
use Rattle.pyparse_nodes.specs.Views.{seen}
use Rattle.pyparse_reads.proofs.Callers.Looks.{seen_length}
use Rattle.pyparse_pattern.specs.Patterns.{IsPattern, RefusedPattern}
use Rattle.pyparse_pattern.proofs.LevelSteps.{cap_low, cap_high}

-- the reader up to a height, at the depth that the program begins with
limit_is : (ts : List given.Terminal) (l : PatternLevel) (s r : ℕ) → s ≡ length ts + 1 → r ≡ 501
    → limit_pattern 500 l (map terminal ts) ≡ cap_pattern 500 (capped_pattern s r l (seen ts 0))
limit_is ts l s r p q =
    rw (p, q) (ap (λ n. cap_pattern 500 (capped_pattern n 501 l (map terminal ts)))
    (go (length (map terminal ts)) (length-map ts terminal)))
  where
    go : (n : ℕ) → n ≡ length ts → suc n ≡ length ts + 1
    go n e = omega (arith, e)

whole : (ts : List given.Terminal) (l : PatternLevel) (s r : ℕ) (x : Answer Pattern) → s ≡ length ts + 1 → r ≡ 501
    → capped_pattern s r l (seen ts 0) ≡ x → PatternMeets 500 l (map terminal ts) (cap_pattern 500 x)
whole ts l s r x p q h = subst (λ y. PatternMeets 500 l (map terminal ts) y) (limit_is ts l s r p q ∙ ap (λ y. cap_pattern 500 y) h)
    (patterns_are_lawful.meets 500 l (map terminal ts))

pub whole_failed : (ts : List given.Terminal) (l : PatternLevel) (s r : ℕ) (e : Stop) → s ≡ length ts + 1 → r ≡ 501
    → Failed e (capped_pattern s r l (seen ts 0)) → RefusedPattern e l (map terminal ts)
whole_failed ts l s r stop.NoForm p q h = whole ts l s r NoForm p q h
whole_failed ts l s r stop.TooDeep p q h = whole ts l s r TooDeep p q h
whole_failed ts l s r stop.Memory p q h = tt

pub whole_high : (ts : List given.Terminal) (l : PatternLevel) (s r : ℕ) (p : Pattern) (i : List Terminal) → s ≡ length ts + 1 → r ≡ 501
    → capped_pattern s r l (seen ts 0) ≡ Found p i → 500 < pattern_height p → HighPattern 500 l (map terminal ts)
whole_high ts l s r p i a b h w = subst (λ y. PatternMeets 500 l (map terminal ts) y) (cap_high 500 p i w)
    (whole ts l s r (Found p i) a b h)

more : (i : List Terminal) (p : Pattern) (l : PatternLevel) (ts : List Terminal) → 0 < length i
    → PatternMeets 500 l ts (Found p i) → Patternless l ts
more [] p l ts w m = absurd (omega (arith, w))
more (t ∷ i) p l ts w m = m

none : (i : List Terminal) (p : Pattern) (l : PatternLevel) (ts : List Terminal) → length i ≡ 0
    → PatternMeets 500 l ts (Found p i) → IsPattern l ts p
none [] p l ts w m = record { derives = m.0; low = m.1 }
none (t ∷ i) p l ts w m = absurd (omega (arith, w))

low : (ts : List given.Terminal) (l : PatternLevel) (s r : ℕ) (p : Pattern) (n : ℕ) → s ≡ length ts + 1 → r ≡ 501
    → capped_pattern s r l (seen ts 0) ≡ Found p (seen ts n) → pattern_height p ≤ 500
    → PatternMeets 500 l (map terminal ts) (Found p (seen ts n))
low ts l s r p n a b h w = subst (λ y. PatternMeets 500 l (map terminal ts) y) (cap_low 500 p (seen ts n) w)
    (whole ts l s r (Found p (seen ts n)) a b h)

pub whole_more : (ts : List given.Terminal) (l : PatternLevel) (s r : ℕ) (p : Pattern) (n : ℕ) → s ≡ length ts + 1 → r ≡ 501
    → capped_pattern s r l (seen ts 0) ≡ Found p (seen ts n) → pattern_height p ≤ 500 → n < length ts → Patternless l (map terminal ts)
whole_more ts l s r p n a b h w k = more (seen ts n) p l (map terminal ts) (omega (arith, seen_length ts n, k)) (low ts l s r p n a b h w)

pub whole_found : (ts : List given.Terminal) (l : PatternLevel) (s r : ℕ) (p : Pattern) (n : ℕ) → s ≡ length ts + 1 → r ≡ 501
    → capped_pattern s r l (seen ts 0) ≡ Found p (seen ts n) → pattern_height p ≤ 500 → n ≡ length ts → IsPattern l (map terminal ts) p
whole_found ts l s r p n a b h w k = none (seen ts n) p l (map terminal ts) (omega (arith, seen_length ts n, k)) (low ts l s r p n a b h w)
