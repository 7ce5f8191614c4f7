-- From `Expression` on inwards all levels are in one chain, and from `AsPattern` on all levels of
-- patterns.
--
-- Carries: reaches, pattern_reaches.
use Rattle.std.proofs.Common.{◌≡◌, ◌≤◌, ℕ, suc, ◌||◌, ◌==◌, false, refl, arith, leb, ◌<◌}
use Rattle.pygrammar.specs.declared.levels.Level.{Level}
use Rattle.pygrammar.specs.declared.levels.Level.TheVariants.{Value, Stars, StarItem, Named, Elem, Slices, Part, Slice, Subject}
use Rattle.pygrammar.specs.Operators.{below, rank}
use Rattle.pygrammar.specs.declared.pattern_levels.PatternLevel.{PatternLevel}
use Rattle.pygrammar.specs.declared.pattern_levels.PatternLevel.TheVariants.{Patterns, StarPattern, AsPattern, OrPattern, ClosedPattern}
use Rattle.pygrammar.specs.PatternOperators.{pattern_rank}
use Rattle.pyunparse_text.specs.Levels.{leads, reaches}
use Rattle.pyunparse_text.specs.WrittenPatterns.{pattern_leads, pattern_reaches}

-- from `Expression` on inwards all levels are in one chain
pub by_rank : (l k : Level) → 9 ≤ rank k → leb (rank l) (rank k) ≡ reaches l k
unfolding reaches leads
by_rank Value Value h = absurd (omega arith)
by_rank l Value h = absurd (omega arith)
by_rank l Stars h = absurd (omega arith)
by_rank l StarItem h = absurd (omega arith)
by_rank l Named h = absurd (omega arith)
by_rank l Elem h = absurd (omega arith)
by_rank l Slices h = absurd (omega arith)
by_rank l Part h = absurd (omega arith)
by_rank l Slice h = absurd (omega arith)
by_rank l Subject h = absurd (omega arith)
by_rank _ _ h = refl

-- one level on
pub leads_on : (n m : ℕ) (l k : Level) → n ≡ suc m → leads n l k ≡ ((rank l == rank k) || leads m (below l) k)
unfolding leads
leads_on n m l k e = rw e refl

pub leads_none : (n : ℕ) (l k : Level) → n ≡ 0 → leads n l k ≡ false
unfolding leads
leads_none n l k e = rw e refl

pub all_levels : (l k : Level) → leads 19 l k ≡ reaches l k
unfolding reaches
all_levels l k = refl

-- ---- Patterns.

-- from `AsPattern` on inwards all levels are in one chain
pub inner_pattern : (l k : PatternLevel) → 3 ≤ pattern_rank k → leb (pattern_rank l) (pattern_rank k) ≡ pattern_reaches l k
unfolding pattern_reaches pattern_leads
inner_pattern Patterns Patterns h = absurd (omega arith)
inner_pattern l Patterns h = absurd (omega arith)
inner_pattern l StarPattern h = absurd (omega arith)
inner_pattern _ _ h = refl

-- the two outer ones are reached from themselves alone
pub outer_pattern : (l k : PatternLevel) → pattern_rank k < 3 → (pattern_rank l == pattern_rank k) ≡ pattern_reaches l k
unfolding pattern_reaches pattern_leads
outer_pattern Patterns Patterns h = refl
outer_pattern l AsPattern h = absurd (omega arith)
outer_pattern l OrPattern h = absurd (omega arith)
outer_pattern l ClosedPattern h = absurd (omega arith)
outer_pattern _ _ h = refl
