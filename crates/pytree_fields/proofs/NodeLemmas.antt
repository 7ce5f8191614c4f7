-- What is a node is no list.
--
-- Carries: Held::row.
use Rattle.std.proofs.Common.{Some}
use Rattle.pytree_node.specs.Trees
use Rattle.pytree_fields.specs.Things.{NotRow, arg_thing, arguments_thing, expr_thing, pattern_thing}

pub expr_no_row : (e : Trees.Expr) → NotRow (Some (expr_thing e))
expr_no_row (Trees.BoolOp op values) = tt
expr_no_row (Trees.NamedExpr target value) = tt
expr_no_row (Trees.BinOp left op right) = tt
expr_no_row (Trees.UnaryOp op operand) = tt
expr_no_row (Trees.Lambda args body) = tt
expr_no_row (Trees.IfExp test body orelse) = tt
expr_no_row (Trees.Dict keys values) = tt
expr_no_row (Trees.Set elts) = tt
expr_no_row (Trees.ListComp elt generators) = tt
expr_no_row (Trees.SetComp elt generators) = tt
expr_no_row (Trees.DictComp key value generators) = tt
expr_no_row (Trees.GeneratorExp elt generators) = tt
expr_no_row (Trees.Await value) = tt
expr_no_row (Trees.Yield value) = tt
expr_no_row (Trees.YieldFrom value) = tt
expr_no_row (Trees.Compare left ops comparators) = tt
expr_no_row (Trees.Call func args keywords) = tt
expr_no_row (Trees.FormattedValue value conversion format_spec) = tt
expr_no_row (Trees.JoinedStr values) = tt
expr_no_row (Trees.Constant value) = tt
expr_no_row (Trees.Attribute value attr ctx) = tt
expr_no_row (Trees.Subscript value slice ctx) = tt
expr_no_row (Trees.Starred value ctx) = tt
expr_no_row (Trees.Name id ctx) = tt
expr_no_row (Trees.ListOf elts ctx) = tt
expr_no_row (Trees.Tuple elts ctx) = tt
expr_no_row (Trees.Slice lower upper step) = tt

pub pattern_no_row : (p : Trees.Pattern) → NotRow (Some (pattern_thing p))
pattern_no_row (Trees.MatchValue value) = tt
pattern_no_row (Trees.MatchSingleton value) = tt
pattern_no_row (Trees.MatchSequence patterns) = tt
pattern_no_row (Trees.MatchMapping keys patterns rest) = tt
pattern_no_row (Trees.MatchClass cls patterns kwd_attrs kwd_patterns) = tt
pattern_no_row (Trees.MatchStar name) = tt
pattern_no_row (Trees.MatchAs pattern name) = tt
pattern_no_row (Trees.MatchOr patterns) = tt

pub arg_no_row : (a : Trees.Arg) → NotRow (Some (arg_thing a))
arg_no_row (Trees.arg name annotation) = tt

pub arguments_no_row : (a : Trees.Arguments) → NotRow (Some (arguments_thing a))
arguments_no_row (Trees.arguments posonlyargs args vararg kwonlyargs kw_defaults kwarg defaults) = tt

pub ruleset no_rows = (expr_no_row, pattern_no_row, arg_no_row, arguments_no_row)
