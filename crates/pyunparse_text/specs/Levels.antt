-- What may stand at a level without brackets, and the operators by their own levels and signs (reference 6.5 to 6.17, and 10).
use Rattle.std.specs.Prelude.{ℕ, zero, suc, ◌==◌, Bool, false, ◌||◌, List, [], ◌∷◌}
use Rattle.pylex_lexeme.specs.declared.kinds.Exact.TheVariants.{Plus, Minus, Star, Slash, VBar, Amper, Less, Greater, Percent, EqEqual}
use Rattle.pylex_lexeme.specs.declared.kinds.Exact.TheVariants.{NotEqual}
use Rattle.pylex_lexeme.specs.declared.kinds.Exact.TheVariants.{LessEqual, GreaterEqual, Tilde, Circumflex, LeftShift, RightShift}
use Rattle.pylex_lexeme.specs.declared.kinds.Exact.TheVariants.{DoubleStar}
use Rattle.pylex_lexeme.specs.declared.kinds.Exact.TheVariants.{DoubleSlash, At}
use Rattle.pytoken.specs.declared.keywords.Keyword.TheVariants as Key
use Rattle.pytree_node.specs.declared.operators.Operator.{Operator}
use Rattle.pytree_node.specs.declared.operators.Operator.TheVariants as Bin
use Rattle.pytree_node.specs.declared.operators.UnaryOperator.{UnaryOperator}
use Rattle.pytree_node.specs.declared.operators.UnaryOperator.TheVariants as Un
use Rattle.pytree_node.specs.declared.operators.Comparison.{Comparison}
use Rattle.pytree_node.specs.declared.operators.Comparison.TheVariants as Is
use Rattle.pygrammar.specs.declared.levels.Level.{Level}
use Rattle.pygrammar.specs.declared.levels.Level.TheVariants.{Not, BitOr, BitXor, BitAnd, Shift, Sum, Term, Factor, Power, Await}
use Rattle.pytoken.specs.Terminals.{Terminal, Op, Word}
use Rattle.pygrammar.specs.Operators.{below, rank}

-- ---- Which forms need no brackets.

-- so many levels at most, each named by the last alternative of the one before, lead from the first to the second
unfoldable pub leads : ℕ → Level → Level → Bool
leads zero l k = false
leads (suc n) l k = (rank l == rank k) || leads n (below l) k

-- a form of the second level may stand at the first as it is; the longest way, from `Value` to `Atom`, has 19 levels
unfoldable pub reaches : Level → Level → Bool
reaches l k = leads 19 l k

-- ---- Operators: the level of what they make, the levels of their sides, their signs.

abbrev pub operator_level : Operator → Level
operator_level Bin.BitOr = BitOr
operator_level Bin.BitXor = BitXor
operator_level Bin.BitAnd = BitAnd
operator_level Bin.LShift = Shift
operator_level Bin.RShift = Shift
operator_level Bin.Add = Sum
operator_level Bin.Sub = Sum
operator_level Bin.Mult = Term
operator_level Bin.MatMult = Term
operator_level Bin.Div = Term
operator_level Bin.Mod = Term
operator_level Bin.FloorDiv = Term
operator_level Bin.Pow = Power

-- all but `**` take another of their own to their left
abbrev pub left_level : Operator → Level
left_level Bin.Pow = Await
left_level o = operator_level o

abbrev pub right_level : Operator → Level
right_level Bin.Pow = Factor
right_level o = below (operator_level o)

abbrev pub operator_sign : Operator → Terminal
operator_sign Bin.BitOr = Op VBar
operator_sign Bin.BitXor = Op Circumflex
operator_sign Bin.BitAnd = Op Amper
operator_sign Bin.LShift = Op LeftShift
operator_sign Bin.RShift = Op RightShift
operator_sign Bin.Add = Op Plus
operator_sign Bin.Sub = Op Minus
operator_sign Bin.Mult = Op Star
operator_sign Bin.MatMult = Op At
operator_sign Bin.Div = Op Slash
operator_sign Bin.Mod = Op Percent
operator_sign Bin.FloorDiv = Op DoubleSlash
operator_sign Bin.Pow = Op DoubleStar

abbrev pub unary_level : UnaryOperator → Level
unary_level Un.Not = Not
unary_level _ = Factor

abbrev pub unary_sign : UnaryOperator → Terminal
unary_sign Un.Not = Word Key.Not
unary_sign Un.UAdd = Op Plus
unary_sign Un.USub = Op Minus
unary_sign Un.Invert = Op Tilde

abbrev pub comparison_signs : Comparison → List Terminal
comparison_signs Is.Eq = Op EqEqual ∷ []
comparison_signs Is.NotEq = Op NotEqual ∷ []
comparison_signs Is.Lt = Op Less ∷ []
comparison_signs Is.LtE = Op LessEqual ∷ []
comparison_signs Is.Gt = Op Greater ∷ []
comparison_signs Is.GtE = Op GreaterEqual ∷ []
comparison_signs Is.Is = Word Key.Is ∷ []
comparison_signs Is.IsNot = Word Key.Is ∷ (Word Key.Not ∷ [])
comparison_signs Is.Within = Word Key.In ∷ []
comparison_signs Is.NotIn = Word Key.Not ∷ (Word Key.In ∷ [])
