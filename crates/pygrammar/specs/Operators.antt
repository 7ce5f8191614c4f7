-- The levels of the grammar, in one order, and the operators of each (language reference, 6.5 to 6.12 and 10).
use Rattle.std.specs.Prelude.{ℕ, Option, Some, None}
use Rattle.pylex_lexeme.specs.declared.kinds.Exact.TheVariants.{Plus, Minus, Star, Slash, VBar, Amper, Less, Greater, Percent, EqEqual}
use Rattle.pylex_lexeme.specs.declared.kinds.Exact.TheVariants.{NotEqual, LessEqual, GreaterEqual, Tilde, Circumflex, LeftShift, RightShift}
use Rattle.pylex_lexeme.specs.declared.kinds.Exact.TheVariants.{DoubleSlash, At}
use Rattle.pytoken.specs.declared.keywords.Keyword.{Keyword}
use Rattle.pytoken.specs.declared.keywords.Keyword.TheVariants as Key
use Rattle.pytree_node.specs.declared.operators.Operator.{Operator}
use Rattle.pytree_node.specs.declared.operators.Operator.TheVariants as Bin
use Rattle.pytree_node.specs.declared.operators.UnaryOperator.{UnaryOperator}
use Rattle.pytree_node.specs.declared.operators.UnaryOperator.TheVariants as Un
use Rattle.pytree_node.specs.declared.operators.BoolOperator.{BoolOperator}
use Rattle.pytree_node.specs.declared.operators.BoolOperator.TheVariants as Join
use Rattle.pytree_node.specs.declared.operators.Comparison.{Comparison}
use Rattle.pytree_node.specs.declared.operators.Comparison.TheVariants as Is
use Rattle.pygrammar.specs.declared.levels.Level.{Level}
use Rattle.pygrammar.specs.declared.levels.Level.TheVariants.{Value, Stars, StarItem, Named, Expression, Or, And, Not, Compare, BitOr}
use Rattle.pygrammar.specs.declared.levels.Level.TheVariants.{BitXor, BitAnd, Shift, Sum, Term, Factor, Power, Await, Primary, Atom, Elem}
use Rattle.pygrammar.specs.declared.levels.Level.TheVariants.{Slices, Part, Slice, Subject}
use Rattle.pytoken.specs.Terminals.{Terminal, Op, Word}

-- the level that the last alternative of a line names; Atom names none, so it is its own, which derives nothing more
abbrev pub below : Level → Level
below Value = Stars
below Stars = StarItem
below StarItem = Expression
below Named = Expression
below Expression = Or
below Or = And
below And = Not
below Not = Compare
below Compare = BitOr
below BitOr = BitXor
below BitXor = BitAnd
below BitAnd = Shift
below Shift = Sum
below Sum = Term
below Term = Factor
below Factor = Power
below Power = Await
below Await = Primary
below Primary = Atom
below Atom = Atom
below Elem = Named
below Slices = Slice
below Part = Slice
below Slice = Named
below Subject = Named

-- the levels in one order: a level of a higher rank is further in
abbrev pub rank : Level → ℕ
rank Subject = 0
rank Value = 1
rank Slices = 2
rank Stars = 3
rank Part = 4
rank Slice = 5
rank StarItem = 6
rank Elem = 7
rank Named = 8
rank Expression = 9
rank Or = 10
rank And = 11
rank Not = 12
rank Compare = 13
rank BitOr = 14
rank BitXor = 15
rank BitAnd = 16
rank Shift = 17
rank Sum = 18
rank Term = 19
rank Factor = 20
rank Power = 21
rank Await = 22
rank Primary = 23
rank Atom = 24

-- the operators of a level, whose left side is of that level too and whose right side of the next
abbrev pub left_operator : Level → Terminal → Option Operator
left_operator BitOr (Op VBar) = Some Bin.BitOr
left_operator BitXor (Op Circumflex) = Some Bin.BitXor
left_operator BitAnd (Op Amper) = Some Bin.BitAnd
left_operator Shift (Op LeftShift) = Some Bin.LShift
left_operator Shift (Op RightShift) = Some Bin.RShift
left_operator Sum (Op Plus) = Some Bin.Add
left_operator Sum (Op Minus) = Some Bin.Sub
left_operator Term (Op Star) = Some Bin.Mult
left_operator Term (Op Slash) = Some Bin.Div
left_operator Term (Op DoubleSlash) = Some Bin.FloorDiv
left_operator Term (Op Percent) = Some Bin.Mod
left_operator Term (Op At) = Some Bin.MatMult
left_operator _ _ = None

-- the operators that stand in front of an expression of their own level
abbrev pub prefix_operator : Level → Terminal → Option UnaryOperator
prefix_operator Not (Word Key.Not) = Some Un.Not
prefix_operator Factor (Op Plus) = Some Un.UAdd
prefix_operator Factor (Op Minus) = Some Un.USub
prefix_operator Factor (Op Tilde) = Some Un.Invert
prefix_operator _ _ = None

-- the levels of `or` and `and`, and their words
abbrev pub chain_level : BoolOperator → Level
chain_level Join.Or = Or
chain_level Join.And = And

abbrev pub chain_word : BoolOperator → Keyword
chain_word Join.Or = Key.Or
chain_word Join.And = Key.And

-- the comparisons of one token
abbrev pub comparison : Terminal → Option Comparison
comparison (Op EqEqual) = Some Is.Eq
comparison (Op NotEqual) = Some Is.NotEq
comparison (Op Less) = Some Is.Lt
comparison (Op LessEqual) = Some Is.LtE
comparison (Op Greater) = Some Is.Gt
comparison (Op GreaterEqual) = Some Is.GtE
comparison (Word Key.In) = Some Is.Within
comparison _ = None
