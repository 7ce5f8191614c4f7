-- How many tokens a pattern is written in.
--
-- Carries: same_pattern, for Callers. On: the same of expressions.
use Rattle.std.proofs.Common.{refl, List, [], ◌∷◌, Option, Some, None, Bool, true, false}
use Rattle.std.specs.Prelude.{if◌then◌else◌}
use Rattle.pylex_lexeme.specs.declared.kinds.Exact.TheVariants.{LPar, RPar, LSqb, RSqb, LBrace, RBrace, VBar}
use Rattle.pygrammar.specs.declared.levels.Level.TheVariants.{Sum, Primary}
use Rattle.pygrammar.specs.declared.pattern_levels.PatternLevel.{PatternLevel}
use Rattle.pygrammar.specs.declared.pattern_levels.PatternLevel.TheVariants as Level
use Rattle.pytree_node.specs.Trees
use Rattle.pytree_node.specs.Trees.{Expr, Identifier, Pattern, Patterns, no_pattern, a_pattern, absent_pattern, present_pattern}
use Rattle.pytoken.specs.Terminals.{Terminal, Op}
use Rattle.pyunparse_text.specs.Written.{bracketed}
use Rattle.pyunparse_text.specs.WrittenPatterns.{pattern_reaches, fit_pattern, sequence_of, rest_name, written_pattern, each_pattern}
use Rattle.pyunparse_text.specs.WrittenPatterns.{key_patterns}
use Rattle.pyunparse_text.specs.WrittenPatterns.{named_patterns}
use Rattle.pyunparse_text.specs.Terminals.{terminal}
use Rattle.pyunparse_text.proofs.Fewest.Counted.{one}
use Rattle.pyunparse_text.proofs.Fewest.Sizes.{Same, AllSame, none, more, same_none, token, both, last, in_brackets, separated_same}
use Rattle.pyunparse_text.proofs.Fewest.Sizes.{listed_same}
use Rattle.pyunparse_text.proofs.Fewest.Sizes.{with_comma_same, append_same, constant_plain, same}

fit_same : {ms : List (Unit {0})} {ts : List Terminal} (l k : PatternLevel) → Same ms ts
    → Same (fit_pattern one l k ms) (fit_pattern terminal l k ts)
unfolding fit_pattern
fit_same {ms} {ts} l k c = by (pattern_reaches l k)
  where
    by : (b : Bool) → Same (if b then ms else bracketed one ms) (if b then ts else bracketed terminal ts)
    by true = c
    by false = in_brackets LPar RPar c

sequence_same : {mss : List (List (Unit {0}))} {tss : List (List Terminal)} (l : PatternLevel) → AllSame mss tss
    → Same (sequence_of one l mss) (sequence_of terminal l tss)
sequence_same Level.Patterns none = in_brackets LSqb RSqb same_none
sequence_same Level.Patterns (more c r) = with_comma_same (more c r)
sequence_same Level.StarPattern r = in_brackets LSqb RSqb (listed_same r)
sequence_same Level.AsPattern r = in_brackets LSqb RSqb (listed_same r)
sequence_same Level.OrPattern r = in_brackets LSqb RSqb (listed_same r)
sequence_same Level.ClosedPattern r = in_brackets LSqb RSqb (listed_same r)

rest_same : (rest : Option Identifier) → AllSame (rest_name one rest) (rest_name terminal rest)
rest_same None = none
rest_same (Some x) = more (token refl (last refl)) none

mutual
  unfolding written_pattern each_pattern key_patterns named_patterns

  pub same_pattern : (l : PatternLevel) (p : Pattern) → Same (written_pattern one l p) (written_pattern terminal l p)
  same_pattern l (Trees.MatchValue value) = same Sum value
  same_pattern l (Trees.MatchSingleton value) = last (constant_plain value)
  same_pattern l (Trees.MatchSequence inner) = sequence_same l (same_patterns Level.StarPattern inner)
  same_pattern l (Trees.MatchMapping keys inner rest) =
      in_brackets LBrace RBrace (listed_same (append_same (same_keys keys inner) (rest_same rest)))
  same_pattern l (Trees.MatchClass cls inner names named) =
      both (same Primary cls)
      (in_brackets LPar RPar (listed_same (append_same (same_patterns Level.AsPattern inner) (same_named names named))))
  same_pattern l (Trees.MatchStar name) = token refl (last refl)
  same_pattern l (Trees.MatchAs absent_pattern name) = last refl
  same_pattern l (Trees.MatchAs (present_pattern p) name) =
      fit_same l Level.AsPattern (both (same_pattern Level.OrPattern p) (token refl (last refl)))
  same_pattern l (Trees.MatchOr inner) =
      fit_same l Level.OrPattern (separated_same (Op VBar) refl (same_patterns Level.ClosedPattern inner))

  same_patterns : (l : PatternLevel) (ps : Patterns) → AllSame (each_pattern one l ps) (each_pattern terminal l ps)
  same_patterns l no_pattern = none
  same_patterns l (a_pattern p ps) = more (same_pattern l p) (same_patterns l ps)

  same_keys : (ks : List Expr) (ps : Patterns) → AllSame (key_patterns one ks ps) (key_patterns terminal ks ps)
  same_keys [] ps = none
  same_keys (k ∷ ks) no_pattern = none
  same_keys (k ∷ ks) (a_pattern p ps) = more (both (same Sum k) (token refl (same_pattern Level.AsPattern p))) (same_keys ks ps)

  same_named : (xs : List Identifier) (ps : Patterns) → AllSame (named_patterns one xs ps) (named_patterns terminal xs ps)
  same_named [] ps = none
  same_named (x ∷ xs) no_pattern = none
  same_named (x ∷ xs) (a_pattern p ps) = more (token refl (token refl (same_pattern Level.AsPattern p))) (same_named xs ps)
