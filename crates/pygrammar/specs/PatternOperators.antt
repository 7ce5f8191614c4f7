-- The levels of the pattern grammar, in one order, and what its names, numbers and constants are (language reference, 8.6.4).
use Rattle.std.specs.Prelude.{ℕ, ◌==◌, Bool, true, false, if◌then◌else◌, [], ◌∷◌, Option, Some, None}
use Rattle.pylex_lexeme.specs.Characters.{low_line}
use Rattle.pytoken.specs.declared.keywords.Keyword.TheVariants as Key
use Rattle.pytree_node.specs.Trees.{Identifier}
use Rattle.pytree_node.specs.Values
use Rattle.pytoken.specs.Terminals.{Terminal, Word}
use Rattle.pygrammar.specs.declared.pattern_levels.PatternLevel.{PatternLevel}
use Rattle.pygrammar.specs.declared.pattern_levels.PatternLevel.TheVariants.{Patterns, StarPattern, AsPattern, OrPattern, ClosedPattern}

-- the level that the last alternative of a line names; ClosedPattern names none, so it is its own, which derives nothing more
abbrev pub below_pattern : PatternLevel → PatternLevel
below_pattern Patterns = AsPattern
below_pattern StarPattern = AsPattern
below_pattern AsPattern = OrPattern
below_pattern OrPattern = ClosedPattern
below_pattern ClosedPattern = ClosedPattern

abbrev pub pattern_rank : PatternLevel → ℕ
pattern_rank Patterns = 1
pattern_rank StarPattern = 2
pattern_rank AsPattern = 3
pattern_rank OrPattern = 4
pattern_rank ClosedPattern = 5

-- the wildcard: the name `_`
abbrev pub is_wildcard : Identifier → Bool
is_wildcard (c ∷ []) = c == low_line
is_wildcard _ = false

-- the name that a NAME captures; the wildcard captures none
abbrev pub captured : Identifier → Option Identifier
captured x = if is_wildcard x then None else Some x

-- an imaginary number
abbrev pub is_imaginary : Values.Value → Bool
is_imaginary (Values.Imaginary x) = true
is_imaginary _ = false

-- None, True and False
abbrev pub singleton_word : Terminal → Option Values.Value
singleton_word (Word Key.None) = Some Values.None
singleton_word (Word Key.True) = Some (Values.Bool true)
singleton_word (Word Key.False) = Some (Values.Bool false)
singleton_word _ = None
