-- What a terminal can begin, and all operators in two tables: after an expression and before one.
use Rattle.std.specs.Prelude.{ℕ, List, [], ◌∷◌, Option, Some, None, Bool, true, false, cond, leb}
use Rattle.pylex_lexeme.specs.declared.kinds.Exact.TheVariants.{LPar, LSqb, LBrace, Colon, Plus, Minus, Star, Slash, VBar, Amper, Less}
use Rattle.pylex_lexeme.specs.declared.kinds.Exact.TheVariants.{Greater, Percent, EqEqual, NotEqual, LessEqual, GreaterEqual, Tilde}
use Rattle.pylex_lexeme.specs.declared.kinds.Exact.TheVariants.{Circumflex, LeftShift, RightShift, DoubleStar, DoubleSlash, At, Ellipsis}
use Rattle.pytoken.specs.declared.keywords.Keyword.TheVariants as Key
use Rattle.pytree_node.specs.declared.operators.Operator.{Operator}
use Rattle.pytree_node.specs.declared.operators.Operator.TheVariants as Bin
use Rattle.pytree_node.specs.declared.operators.UnaryOperator.{UnaryOperator}
use Rattle.pytree_node.specs.declared.operators.UnaryOperator.TheVariants as Un
use Rattle.pytree_node.specs.declared.operators.BoolOperator.{BoolOperator}
use Rattle.pytree_node.specs.declared.operators.BoolOperator.TheVariants as Join
use Rattle.pygrammar.specs.declared.levels.Level.{Level}
use Rattle.pygrammar.specs.declared.levels.Level.TheVariants.{Stars, StarItem, Named, Not, BitOr, BitXor, BitAnd, Shift, Sum, Term, Factor}
use Rattle.pygrammar.specs.declared.levels.Level.TheVariants.{Elem, Slices, Part, Slice, Subject}
use Rattle.pytoken.specs.Terminals.{Terminal, Op, Word, Ident, Number, Literal, FormattedBegin}
use Rattle.pygrammar.specs.Operators.{chain_level, rank}
use Rattle.pygrammar.specs.Entries.{Item, Of, Pair, Argument, Parameter}

-- the highest rank of a level that begins with a terminal
abbrev pub lead : Terminal → ℕ
lead (Word Key.Yield) = 1
lead (Op Colon) = 5
lead (Op Star) = 7
lead (Word Key.Lambda) = 9
lead (Word Key.Not) = 12
lead (Op Plus) = 20
lead (Op Minus) = 20
lead (Op Tilde) = 20
lead (Word Key.Await) = 22
lead (Op LPar) = 24
lead (Op LSqb) = 24
lead (Op LBrace) = 24
lead (Op Ellipsis) = 24
lead (Word Key.None) = 24
lead (Word Key.True) = 24
lead (Word Key.False) = 24
lead (Ident x) = 24
lead (Number v) = 24
lead (Literal v) = 24
lead FormattedBegin = 24
lead _ = 0

-- the least lead of a first terminal of a level
abbrev pub first : Level → ℕ
first Slices = 5
first Part = 5
first Slice = 5
first Stars = 7
first StarItem = 7
first Elem = 7
first Subject = 7
first Named = 9
first l = rank l

-- the terminals that begin an item
abbrev pub begins : Item → Terminal → Bool
begins (Of l) t = leb (first l) (lead t)
begins Pair (Op DoubleStar) = true
begins Pair t = leb 9 (lead t)
begins Argument (Op DoubleStar) = true
begins Argument t = leb 7 (lead t)
begins (Parameter b) (Ident x) = true
begins (Parameter b) (Op Star) = true
begins (Parameter b) (Op DoubleStar) = true
begins (Parameter b) (Op Slash) = true
begins (Parameter b) t = false

abbrev pub starts : Item → List Terminal → Bool
starts i [] = false
starts i (t ∷ r) = begins i t

abbrev pub begins_comp : Terminal → Bool
begins_comp (Word Key.For) = true
begins_comp (Word Key.Async) = true
begins_comp _ = false

abbrev pub starts_comp : List Terminal → Bool
starts_comp [] = false
starts_comp (t ∷ r) = begins_comp t

-- what an operator after an expression makes: its rank, and how it goes on
pub data Infix : Type 0 where
  Left : Level → Operator → Infix  -- of this level, its right side of the next
  Raise : Infix  -- `**`
  Joins : BoolOperator → Infix
  Compares : Infix

abbrev pub infix_rank : Infix → ℕ
infix_rank (Left l o) = rank l
infix_rank Raise = 21
infix_rank (Joins o) = rank (chain_level o)
infix_rank Compares = 13

abbrev pub following : Terminal → Option Infix
following (Word Key.Or) = Some (Joins Join.Or)
following (Word Key.And) = Some (Joins Join.And)
following (Op EqEqual) = Some Compares
following (Op NotEqual) = Some Compares
following (Op Less) = Some Compares
following (Op LessEqual) = Some Compares
following (Op Greater) = Some Compares
following (Op GreaterEqual) = Some Compares
following (Word Key.In) = Some Compares
following (Word Key.Not) = Some Compares
following (Word Key.Is) = Some Compares
following (Op VBar) = Some (Left BitOr Bin.BitOr)
following (Op Circumflex) = Some (Left BitXor Bin.BitXor)
following (Op Amper) = Some (Left BitAnd Bin.BitAnd)
following (Op LeftShift) = Some (Left Shift Bin.LShift)
following (Op RightShift) = Some (Left Shift Bin.RShift)
following (Op Plus) = Some (Left Sum Bin.Add)
following (Op Minus) = Some (Left Sum Bin.Sub)
following (Op Star) = Some (Left Term Bin.Mult)
following (Op Slash) = Some (Left Term Bin.Div)
following (Op DoubleSlash) = Some (Left Term Bin.FloorDiv)
following (Op Percent) = Some (Left Term Bin.Mod)
following (Op At) = Some (Left Term Bin.MatMult)
following (Op DoubleStar) = Some Raise
following _ = None

-- what an operator in front of an expression makes
pub data Prefix : Type 0 where
  Signed : Level → UnaryOperator → Prefix
  Awaits : Prefix

abbrev pub prefix_rank : Prefix → ℕ
prefix_rank (Signed l o) = rank l
prefix_rank Awaits = 22

abbrev pub before : Terminal → Option Prefix
before (Word Key.Not) = Some (Signed Not Un.Not)
before (Op Plus) = Some (Signed Factor Un.UAdd)
before (Op Minus) = Some (Signed Factor Un.USub)
before (Op Tilde) = Some (Signed Factor Un.Invert)
before (Word Key.Await) = Some Awaits
before _ = None

-- those of a rank of at least k
abbrev pub at_least : {A : Type 0} → (A → ℕ) → ℕ → Option A → Option A
at_least f k None = None
at_least f k (Some a) = cond (leb k (f a)) (Some a) None

abbrev pub infix_from : ℕ → Terminal → Option Infix
infix_from k t = at_least infix_rank k (following t)

abbrev pub prefix_from : ℕ → Terminal → Option Prefix
prefix_from k t = at_least prefix_rank k (before t)
