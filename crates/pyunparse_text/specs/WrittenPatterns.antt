-- The tokens that a pattern is written in at a level of the grammar, in as few brackets as its place allows (reference 8.6.4).
use Rattle.std.specs.Prelude.{ℕ, zero, suc, ◌==◌, Bool, false, ◌||◌, if◌then◌else◌, List, [], ◌∷◌, ◌++◌, Option, Some, None}
use Rattle.pylex_lexeme.specs.Characters.{low_line}
use Rattle.pylex_lexeme.specs.declared.kinds.Exact.TheVariants.{LPar, RPar, LSqb, RSqb, LBrace, RBrace, Colon, Star, Equal, DoubleStar}
use Rattle.pylex_lexeme.specs.declared.kinds.Exact.TheVariants.{VBar}
use Rattle.pytoken.specs.declared.keywords.Keyword.TheVariants as Key
use Rattle.pytree_node.specs.Trees
use Rattle.pytree_node.specs.Trees.{Identifier, Expr, Pattern, Patterns, no_pattern, a_pattern, absent_pattern, present_pattern}
use Rattle.pytoken.specs.Terminals.{Op, in_form}
use Rattle.pygrammar.specs.declared.levels.Level.TheVariants.{Sum, Primary}
use Rattle.pygrammar.specs.declared.pattern_levels.PatternLevel.{PatternLevel}
use Rattle.pygrammar.specs.declared.pattern_levels.PatternLevel.TheVariants as Level
use Rattle.pygrammar.specs.PatternOperators.{below_pattern, pattern_rank}
use Rattle.pyunparse_text.specs.Written.{Maker, free, word, leading, trailing, tight, enclosed, bracketed, listed, with_comma, separated}
use Rattle.pyunparse_text.specs.Written.{constant_terminal, written}

-- so many levels at most, each named by the last alternative of the one before, lead from the first to the second
unfoldable pub pattern_leads : ℕ → PatternLevel → PatternLevel → Bool
pattern_leads zero l k = false
pattern_leads (suc n) l k = (pattern_rank l == pattern_rank k) || pattern_leads n (below_pattern l) k

-- a form of the second level may stand at the first as it is; the longest way, from `Patterns` to `ClosedPattern`, has 4 levels
unfoldable pub pattern_reaches : PatternLevel → PatternLevel → Bool
pattern_reaches l k = pattern_leads 4 l k

-- a name that is captured, or the wildcard
abbrev pub target_name : Option Identifier → Identifier
target_name None = low_line ∷ []
target_name (Some x) = x

module _ {A : Type 0} (make : Maker A) where
  abbrev pub target : Option Identifier → A
  target x = free make (in_form (target_name x))

  -- at a level, a form of a level
  unfoldable pub fit_pattern : PatternLevel → PatternLevel → List A → List A
  fit_pattern l k ts = if pattern_reaches l k then ts else bracketed make ts

  -- A sequence that isn't empty is written without brackets at Patterns. One pattern alone is followed by a comma there.
  abbrev pub sequence_of : PatternLevel → List (List A) → List A
  sequence_of Level.Patterns (ts ∷ tss) = with_comma make (ts ∷ tss)
  sequence_of _ tss = enclosed make (leading make LSqb) RSqb (listed make tss)

  -- `**` NAME
  abbrev pub rest_name : Option Identifier → List (List A)
  rest_name None = []
  rest_name (Some x) = (leading make DoubleStar ∷ (free make (in_form x) ∷ [])) ∷ []

  unfoldable mutual
    pub written_pattern : PatternLevel → Pattern → List A
    written_pattern l (Trees.MatchValue value) = written make Sum value
    written_pattern l (Trees.MatchSingleton value) = free make (constant_terminal value) ∷ []
    written_pattern l (Trees.MatchSequence inner) = sequence_of l (each_pattern Level.StarPattern inner)
    written_pattern l (Trees.MatchMapping keys inner rest) =
        enclosed make (leading make LBrace) RBrace (listed make (key_patterns keys inner ++ rest_name rest))
    written_pattern l (Trees.MatchClass cls inner names named) =
        written make Primary cls
        ++ enclosed make (tight make LPar) RPar (listed make (each_pattern Level.AsPattern inner ++ named_patterns names named))
    written_pattern l (Trees.MatchStar name) = leading make Star ∷ (target name ∷ [])
    written_pattern l (Trees.MatchAs absent_pattern name) = target name ∷ []
    written_pattern l (Trees.MatchAs (present_pattern p) name) =
        fit_pattern l Level.AsPattern (written_pattern Level.OrPattern p ++ (word make Key.As ∷ (target name ∷ [])))
    written_pattern l (Trees.MatchOr inner) =
        fit_pattern l Level.OrPattern (separated (free make (Op VBar)) (each_pattern Level.ClosedPattern inner))

    pub each_pattern : PatternLevel → Patterns → List (List A)
    each_pattern l no_pattern = []
    each_pattern l (a_pattern p ps) = written_pattern l p ∷ each_pattern l ps

    pub key_patterns : List Expr → Patterns → List (List A)
    key_patterns (k ∷ ks) (a_pattern p ps) =
        (written make Sum k ++ (trailing make Colon ∷ written_pattern Level.AsPattern p)) ∷ key_patterns ks ps
    key_patterns _ _ = []

    pub named_patterns : List Identifier → Patterns → List (List A)
    named_patterns (x ∷ xs) (a_pattern p ps) =
        (free make (in_form x) ∷ (tight make Equal ∷ written_pattern Level.AsPattern p)) ∷ named_patterns xs ps
    named_patterns _ _ = []
