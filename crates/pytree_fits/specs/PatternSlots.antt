-- Which patterns the grammar gives at a level to some list of terminals, with no regard to heights (reference 8.6.4). Brackets lead from
-- every
-- level to ClosedPattern, so a level asks only whether a MatchStar may stand there. Each function takes the tests.
use Rattle.std.specs.Prelude.{ℕ, ◌+◌, eqb, leb, Bool, true, false, ◌&&◌, ◌||◌, not, List, [], ◌∷◌, length, Option, Some, None}
use Rattle.std.specs.List.{list_all}
use Rattle.pylex_lexeme.specs.Characters.{low_line}
use Rattle.pytree_node.specs.declared.operators.Operator.{Operator}
use Rattle.pytree_node.specs.declared.operators.Operator.TheVariants as Bin
use Rattle.pytree_node.specs.declared.operators.UnaryOperator.{UnaryOperator}
use Rattle.pytree_node.specs.declared.operators.UnaryOperator.TheVariants as Un
use Rattle.pytree_node.specs.declared.operators.Context.TheVariants.{Load}
use Rattle.pytree_node.specs.Values as values
use Rattle.pytree_node.specs.Values.{Value}
use Rattle.pytree_node.specs.Trees
use Rattle.pytree_node.specs.Trees.{Identifier, Expr, Pattern, Patterns, no_pattern, a_pattern, absent_pattern, present_pattern}
use Rattle.pygrammar.specs.declared.pattern_levels.PatternLevel.{PatternLevel}
use Rattle.pygrammar.specs.declared.pattern_levels.PatternLevel.TheVariants.{StarPattern, AsPattern}
use Rattle.pygrammar.specs.PatternOperators.{is_imaginary, is_wildcard}
use Rattle.pytree_fits.specs.Tests.{Tests}
use Rattle.pytree_fits.specs.Literals.{is_value}
use Rattle.pytree_fits.specs.Given.{is_number, is_literal}
use Rattle.pytree_fits.specs.Slots.{is_context, joined_fits}

-- ---- Names.

-- the name of the wildcard
abbrev pub wildcard : Identifier
wildcard = low_line ∷ []

-- a name that a pattern captures
abbrev pub target_fits : Tests → Identifier → Bool
target_fits n x = n.name x && not (is_wildcard x)

-- a name that a pattern captures, or the wildcard
abbrev pub perhaps_target_fits : Tests → Option Identifier → Bool
perhaps_target_fits n None = n.name wildcard
perhaps_target_fits n (Some x) = target_fits n x

abbrev pub begins_with_wildcard : List Identifier → Bool
begins_with_wildcard [] = false
begins_with_wildcard (x ∷ xs) = is_wildcard x

-- ---- Values.

abbrev pub is_sum : Operator → Bool
is_sum Bin.Add = true
is_sum Bin.Sub = true
is_sum _ = false

abbrev pub is_minus : UnaryOperator → Bool
is_minus Un.USub = true
is_minus _ = false

-- what a NUMBER gives
abbrev pub number_fits : Tests → Expr → Bool
number_fits n (Trees.Constant v) = is_number v && is_value n v
number_fits n _ = false

abbrev pub imaginary_fits : Tests → Expr → Bool
imaginary_fits n (Trees.Constant v) = is_imaginary v && is_value n v
imaginary_fits n _ = false

-- a number that isn't imaginary, with or without a minus before it
abbrev pub real_fits : Tests → Expr → Bool
real_fits n (Trees.Constant v) = is_number v && not (is_imaginary v) && is_value n v
real_fits n (Trees.UnaryOp op (Trees.Constant v)) = is_minus op && is_number v && not (is_imaginary v) && is_value n v
real_fits n _ = false

abbrev pub literal_fits : Tests → Expr → Bool
literal_fits n (Trees.Constant v) = (is_number v || is_literal v) && is_value n v
literal_fits n (Trees.UnaryOp op e) = is_minus op && number_fits n e
literal_fits n (Trees.BinOp left op right) = is_sum op && real_fits n left && imaginary_fits n right
literal_fits n (Trees.JoinedStr values) = joined_fits n values
literal_fits n _ = false

-- names with points between them
abbrev pub dotted_fits : Tests → Expr → Bool
dotted_fits n (Trees.Name id ctx) = is_context Load ctx && n.name id
dotted_fits n (Trees.Attribute value attr ctx) = is_context Load ctx && n.name attr && dotted_fits n value
dotted_fits n _ = false

abbrev pub is_attribute : Expr → Bool
is_attribute (Trees.Attribute value attr ctx) = true
is_attribute _ = false

-- whether the first of them is the wildcard
abbrev pub starts_wild : Expr → Bool
starts_wild (Trees.Name id ctx) = is_wildcard id
starts_wild (Trees.Attribute value attr ctx) = starts_wild value
starts_wild _ = false

abbrev pub class_fits : Tests → Expr → Bool
class_fits n e = dotted_fits n e && not (starts_wild e)

abbrev pub value_fits : Tests → Expr → Bool
value_fits n e = literal_fits n e || (is_attribute e && class_fits n e)

abbrev pub is_singleton : Value → Bool
is_singleton values.None = true
is_singleton (values.Bool b) = true
is_singleton _ = false

abbrev pub singleton_fits : Expr → Bool
singleton_fits (Trees.Constant v) = is_singleton v
singleton_fits _ = false

abbrev pub key_fits : Tests → Expr → Bool
key_fits n e = literal_fits n e || singleton_fits e || (is_attribute e && dotted_fits n e)

-- ---- Patterns.

abbrev pub takes_star_pattern : PatternLevel → Bool
takes_star_pattern StarPattern = true
takes_star_pattern _ = false

abbrev pub count_patterns : Patterns → ℕ
count_patterns no_pattern = 0
count_patterns (a_pattern p ps) = count_patterns ps + 1

abbrev mutual
  pub pattern_fits_at : Tests → PatternLevel → Pattern → Bool
  pattern_fits_at n l (Trees.MatchValue value) = value_fits n value
  pattern_fits_at n l (Trees.MatchSingleton value) = is_singleton value
  pattern_fits_at n l (Trees.MatchSequence inner) = each_pattern_fits n StarPattern inner
  pattern_fits_at n l (Trees.MatchMapping keys inner None) = eqb (length keys) (count_patterns inner) && list_all (key_fits n) keys &&
      each_pattern_fits n AsPattern inner
  pattern_fits_at n l (Trees.MatchMapping keys inner (Some rest)) =
      eqb (length keys) (count_patterns inner) && list_all (key_fits n) keys && each_pattern_fits n AsPattern inner && target_fits n rest
  pattern_fits_at n l (Trees.MatchClass cls inner names named) =
      class_fits n cls && each_pattern_fits n AsPattern inner && eqb (length names) (count_patterns named) && list_all n.name names
      && each_pattern_fits n AsPattern named && (eqb (count_patterns inner) 0 || not (begins_with_wildcard names))
  pattern_fits_at n l (Trees.MatchStar name) = takes_star_pattern l && perhaps_target_fits n name
  pattern_fits_at n l (Trees.MatchAs absent_pattern name) = perhaps_target_fits n name
  pattern_fits_at n l (Trees.MatchAs (present_pattern p) None) = false
  pattern_fits_at n l (Trees.MatchAs (present_pattern p) (Some name)) = target_fits n name && pattern_fits_at n AsPattern p
  pattern_fits_at n l (Trees.MatchOr inner) = leb 2 (count_patterns inner) && each_pattern_fits n AsPattern inner

  pub each_pattern_fits : Tests → PatternLevel → Patterns → Bool
  each_pattern_fits n l no_pattern = true
  each_pattern_fits n l (a_pattern p ps) = pattern_fits_at n l p && each_pattern_fits n l ps
