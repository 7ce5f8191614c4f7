-- The patterns of a mapping and of a class, one by one; sequences without brackets.
use Rattle.std.specs.Prelude.{Bool, true, false, List, ◌∷◌, ◌++◌}
use Rattle.pylex_lexeme.specs.declared.kinds.Exact.TheVariants.{Colon, Equal}
use Rattle.pytree_node.specs.Trees.{Identifier, Expr, Pattern, Patterns, a_pattern}
use Rattle.pygrammar.specs.declared.levels.Level.TheVariants.{Sum}
use Rattle.pygrammar.specs.declared.pattern_levels.PatternLevel.{PatternLevel}
use Rattle.pygrammar.specs.declared.pattern_levels.PatternLevel.TheVariants as Level
use Rattle.pytoken.specs.Terminals.{in_form}
use Rattle.pyunparse_text.specs.Pieces.{Sited, piece, pieces}
use Rattle.pyunparse_text.specs.Written.{free, tight, trailing}
use Rattle.pyunparse_text.specs.WrittenPatterns.{written_pattern}

-- a key and its pattern, and a pattern by name
abbrev pub key_pattern : Expr → Pattern → List Sited
key_pattern k p = pieces Sum k ++ (trailing piece Colon ∷ written_pattern piece Level.AsPattern p)

abbrev pub named_pattern : Identifier → Pattern → List Sited
named_pattern x p = free piece (in_form x) ∷ (tight piece Equal ∷ written_pattern piece Level.AsPattern p)

-- a sequence of these needs no brackets at a level
abbrev pub is_bare : PatternLevel → Patterns → Bool
is_bare Level.Patterns (a_pattern p ps) = true
is_bare _ _ = false
