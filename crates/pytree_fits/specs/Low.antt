-- Which trees are low enough that an f-string in them has tokens. A field of an f-string opens 599 brackets at most, so a tree that fits
-- and is
-- much higher may have none.
use Rattle.std.specs.Prelude.{◌≡◌, ◌≤◌, true}
use Rattle.std.specs.List.{list_any}
use Rattle.pytree_node.specs.Trees.{Expr, Pattern, Module}
use Rattle.pytree_height.specs.Heights.{height, pattern_height, expression_height}
use Rattle.pygrammar.specs.declared.levels.Level.{Level}
use Rattle.pygrammar.specs.declared.pattern_levels.PatternLevel.{PatternLevel}
use Rattle.pygrammar.specs.FormattedStrings.{has_formatted}
use Rattle.pyunparse_text.specs.Terminals.{terminal, terminals}
use Rattle.pyunparse_text.specs.WrittenPatterns.{written_pattern}
use Rattle.pyunparse_text.specs.Modules.{terminal_lines}

-- if there is an f-string in what an expression is written in at a level, the expression is no higher than 500; without one each is low
abbrev pub IsLow : Level → Expr → Type 0
IsLow l e = has_formatted (terminals l e) ≡ true → height e ≤ 500

-- so a pattern
abbrev pub IsLowPattern : PatternLevel → Pattern → Type 0
IsLowPattern l p = has_formatted (written_pattern terminal l p) ≡ true → pattern_height p ≤ 500

-- so the expressions of a module, if there is an f-string in one of its lines
abbrev pub IsLowModule : Module → Type 0
IsLowModule m = list_any (λ w. has_formatted w.tokens) (terminal_lines m) ≡ true → expression_height m ≤ 500
