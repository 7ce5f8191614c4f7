-- What patterns show, and what they weigh.
--
-- Carries: the cycle of patterns.
use Rattle.std.proofs.Common.{◌≡◌, List, [], ◌∷◌, map, ap, refl}
use Rattle.pytree_node.specs.declared.patterns.Pattern as given_pattern
use Rattle.pytree_node.specs.Trees.{patterns}
use Rattle.pytree_node.specs.TreeOf.{pattern_of}
use Rattle.pytree_dump_text.specs.Shows.{a_shown, shown_pattern, shown_patterns, showns}

pub patterns_row : (ps : List given_pattern.Pattern) → shown_patterns (patterns (map pattern_of ps)) ≡ showns
    (map (λ p. shown_pattern (pattern_of p)) ps)
patterns_row [] = refl
patterns_row (p ∷ ps) = ap (λ z. a_shown (shown_pattern (pattern_of p)) z) (patterns_row ps)
