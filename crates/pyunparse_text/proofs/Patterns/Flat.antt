-- At every level no more brackets are open at once than the pattern is high.
--
-- Carries: pattern_brackets, for Callers. On: the same of expressions.
use Rattle.std.proofs.Common.{refl, ap, ℕ, ◌+◌, ◌≤◌, arith, List, [], ◌∷◌, Option, Some, None, Bool, true, false, append-nil}
use Rattle.std.specs.Prelude.{max, if◌then◌else◌}
use Rattle.pylex_lexeme.specs.declared.kinds.Exact.TheVariants.{Comma, VBar}
use Rattle.pygrammar.specs.declared.levels.Level.TheVariants.{Sum, Primary}
use Rattle.pygrammar.specs.declared.pattern_levels.PatternLevel.{PatternLevel}
use Rattle.pygrammar.specs.declared.pattern_levels.PatternLevel.TheVariants as Level
use Rattle.pytree_node.specs.Trees
use Rattle.pytree_node.specs.Trees.{Expr, Identifier, Pattern, Patterns, no_pattern, a_pattern, absent_pattern, present_pattern}
use Rattle.pytoken.specs.Terminals.{Terminal, Op}
use Rattle.pytree_height.specs.Heights.{height, list_height, pattern_height, pattern_heights}
use Rattle.pyunparse_text.specs.Written.{bracketed}
use Rattle.pyunparse_text.specs.WrittenPatterns.{pattern_reaches, fit_pattern, sequence_of, rest_name, written_pattern, each_pattern}
use Rattle.pyunparse_text.specs.WrittenPatterns.{key_patterns}
use Rattle.pyunparse_text.specs.WrittenPatterns.{named_patterns}
use Rattle.pyunparse_text.specs.Terminals.{terminal}
use Rattle.pyunparse_text.specs.Brackets.{brackets}
use Rattle.pyunparse_text.proofs.Fewest.Flat.{Flat, flat_none, both, plain, open_round, open_square, open_curly, close_round, close_square}
use Rattle.pyunparse_text.proofs.Fewest.Flat.{close_curly, pair, up, neutral, AllFlat, none, one, all_up, separated_flat, with_comma_flat}
use Rattle.pyunparse_text.proofs.Fewest.Flat.{all_append}
use Rattle.pyunparse_text.proofs.Fewest.Flat.{constant_neutral, flat}

fit_flat : {n : ℕ} {ts : List Terminal} (l k : PatternLevel) → Flat n ts → Flat (n + 1) (fit_pattern terminal l k ts)
unfolding fit_pattern
fit_flat {n} {ts} l k f = by (pattern_reaches l k)
  where
    by : (b : Bool) → Flat (n + 1) (if b then ts else bracketed terminal ts)
    by true = up f (omega arith)
    by false = pair open_round close_round f

sequence_flat : {n : ℕ} {tss : List (List Terminal)} (l : PatternLevel) → AllFlat n tss → Flat (n + 1) (sequence_of terminal l tss)
sequence_flat Level.Patterns none = pair open_square close_square (flat_none _)
sequence_flat Level.Patterns (one f r) = up (with_comma_flat (one f r)) (omega arith)
sequence_flat Level.StarPattern r = pair open_square close_square (separated_flat (Op Comma) neutral r)
sequence_flat Level.AsPattern r = pair open_square close_square (separated_flat (Op Comma) neutral r)
sequence_flat Level.OrPattern r = pair open_square close_square (separated_flat (Op Comma) neutral r)
sequence_flat Level.ClosedPattern r = pair open_square close_square (separated_flat (Op Comma) neutral r)

rest_flat : (n : ℕ) (rest : Option Identifier) → AllFlat n (rest_name terminal rest)
rest_flat n None = none
rest_flat n (Some x) = one (plain (λ d. refl) (plain (λ d. refl) (flat_none n))) none

mutual
  unfolding written_pattern each_pattern key_patterns named_patterns

  pub flat_pattern : (l : PatternLevel) (p : Pattern) → Flat (pattern_height p) (written_pattern terminal l p)
  flat_pattern l (Trees.MatchValue value) = up (flat Sum refl value) (omega arith)
  flat_pattern l (Trees.MatchSingleton value) = plain (constant_neutral value) (flat_none 1)
  flat_pattern l (Trees.MatchSequence inner) = sequence_flat l (flat_patterns Level.StarPattern inner)
  flat_pattern l (Trees.MatchMapping keys inner rest) =
      pair open_curly close_curly
      (separated_flat (Op Comma) neutral (all_append (flat_keys (max (list_height keys) (pattern_heights inner)) keys inner (omega arith)
      (omega arith)) (rest_flat _ rest)))
  flat_pattern l (Trees.MatchClass cls inner names named) =
      both (up (flat Primary refl cls) (omega arith))
      (pair {n = max (height cls) (max (pattern_heights inner) (pattern_heights named))} open_round close_round
      (separated_flat (Op Comma) neutral (all_append (all_up (flat_patterns Level.AsPattern inner) (omega arith))
      (all_up (flat_named names named) (omega arith)))))
  flat_pattern l (Trees.MatchStar name) = plain (λ d. refl) (plain (λ d. refl) (flat_none 1))
  flat_pattern l (Trees.MatchAs absent_pattern name) = plain (λ d. refl) (flat_none 1)
  flat_pattern l (Trees.MatchAs (present_pattern p) name) =
      fit_flat l Level.AsPattern
      (both (flat_pattern Level.OrPattern p) (plain (λ d. refl) (plain (λ d. refl) (flat_none (pattern_height p)))))
  flat_pattern l (Trees.MatchOr inner) =
      fit_flat l Level.OrPattern (separated_flat (Op VBar) (λ d. refl) (flat_patterns Level.ClosedPattern inner))

  flat_patterns : (l : PatternLevel) (ps : Patterns) → AllFlat (pattern_heights ps) (each_pattern terminal l ps)
  flat_patterns l no_pattern = none
  flat_patterns l (a_pattern p ps) = one (up (flat_pattern l p) (omega arith)) (all_up (flat_patterns l ps) (omega arith))

  flat_keys : (n : ℕ) (ks : List Expr) (ps : Patterns) → list_height ks ≤ n → pattern_heights ps ≤ n
      → AllFlat n (key_patterns terminal ks ps)
  flat_keys n [] ps h i = none
  flat_keys n (k ∷ ks) no_pattern h i = none
  flat_keys n (k ∷ ks) (a_pattern p ps) h i =
      one (both (up (flat Sum refl k) (omega (arith, h))) (plain (λ d. refl) (up (flat_pattern Level.AsPattern p) (omega (arith, i)))))
      (flat_keys n ks ps (omega (arith, h)) (omega (arith, i)))

  flat_named : (xs : List Identifier) (ps : Patterns) → AllFlat (pattern_heights ps) (named_patterns terminal xs ps)
  flat_named [] ps = none
  flat_named (x ∷ xs) no_pattern = none
  flat_named (x ∷ xs) (a_pattern p ps) =
      one (plain (λ d. refl) (plain (λ d. refl) (up (flat_pattern Level.AsPattern p) (omega arith))))
      (all_up (flat_named xs ps) (omega arith))

pub pattern_brackets : (l : PatternLevel) (p : Pattern) → brackets (written_pattern terminal l p) ≤ pattern_height p
pattern_brackets l p = omega (arith, (flat_pattern l p).at 0 [], ap brackets (append-nil (written_pattern terminal l p)))
