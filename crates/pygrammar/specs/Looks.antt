-- What one terminal is: a certain sign, a certain keyword, a name, a literal, or a part of an f-string.
use Rattle.std.specs.Prelude.{ℕ, List, Option, Some, None, cond, ◌==◌}
use Rattle.pylex_lexeme.specs.declared.kinds.Exact.{Exact}
use Rattle.pylex_lexeme.specs.declared.kinds.Exact.TheVariants.{LPar, RPar, LSqb, RSqb, LBrace, RBrace, Colon, Comma, Semi, Plus, Minus}
use Rattle.pylex_lexeme.specs.declared.kinds.Exact.TheVariants.{Star, Slash, VBar, Amper, Less, Greater, Equal, Dot, Percent, EqEqual}
use Rattle.pylex_lexeme.specs.declared.kinds.Exact.TheVariants.{NotEqual, LessEqual, GreaterEqual, Tilde, Circumflex, LeftShift, RightShift}
use Rattle.pylex_lexeme.specs.declared.kinds.Exact.TheVariants.{DoubleStar, PlusEqual, MinEqual, StarEqual, SlashEqual, PercentEqual}
use Rattle.pylex_lexeme.specs.declared.kinds.Exact.TheVariants.{AmperEqual, VBarEqual, CircumflexEqual, LeftShiftEqual, RightShiftEqual}
use Rattle.pylex_lexeme.specs.declared.kinds.Exact.TheVariants.{DoubleStarEqual, DoubleSlash, DoubleSlashEqual, At, AtEqual, RArrow}
use Rattle.pylex_lexeme.specs.declared.kinds.Exact.TheVariants.{Ellipsis, ColonEqual}
use Rattle.pytoken.specs.declared.keywords.Keyword.{Keyword}
use Rattle.pytoken.specs.declared.keywords.Keyword.TheVariants as Key
use Rattle.pyfstring.specs.declared.parts.Conversion.{Conversion}
use Rattle.pytree_node.specs.Values.{Value}
use Rattle.pytoken.specs.Terminals.{Terminal, Op, Word, Ident, Literal, FormattedBegin, FormattedEnd, FormattedText, FieldBegin, SpecBegin}
use Rattle.pytoken.specs.Terminals.{FieldEnd}

abbrev pub exact_number : Exact → ℕ
exact_number LPar = 0
exact_number RPar = 1
exact_number LSqb = 2
exact_number RSqb = 3
exact_number LBrace = 4
exact_number RBrace = 5
exact_number Colon = 6
exact_number Comma = 7
exact_number Semi = 8
exact_number Plus = 9
exact_number Minus = 10
exact_number Star = 11
exact_number Slash = 12
exact_number VBar = 13
exact_number Amper = 14
exact_number Less = 15
exact_number Greater = 16
exact_number Equal = 17
exact_number Dot = 18
exact_number Percent = 19
exact_number EqEqual = 20
exact_number NotEqual = 21
exact_number LessEqual = 22
exact_number GreaterEqual = 23
exact_number Tilde = 24
exact_number Circumflex = 25
exact_number LeftShift = 26
exact_number RightShift = 27
exact_number DoubleStar = 28
exact_number PlusEqual = 29
exact_number MinEqual = 30
exact_number StarEqual = 31
exact_number SlashEqual = 32
exact_number PercentEqual = 33
exact_number AmperEqual = 34
exact_number VBarEqual = 35
exact_number CircumflexEqual = 36
exact_number LeftShiftEqual = 37
exact_number RightShiftEqual = 38
exact_number DoubleStarEqual = 39
exact_number DoubleSlash = 40
exact_number DoubleSlashEqual = 41
exact_number At = 42
exact_number AtEqual = 43
exact_number RArrow = 44
exact_number Ellipsis = 45
exact_number ColonEqual = 46

abbrev pub keyword_number : Keyword → ℕ
keyword_number Key.False = 0
keyword_number Key.None = 1
keyword_number Key.True = 2
keyword_number Key.And = 3
keyword_number Key.As = 4
keyword_number Key.Assert = 5
keyword_number Key.Async = 6
keyword_number Key.Await = 7
keyword_number Key.Break = 8
keyword_number Key.Class = 9
keyword_number Key.Continue = 10
keyword_number Key.Def = 11
keyword_number Key.Del = 12
keyword_number Key.Elif = 13
keyword_number Key.Else = 14
keyword_number Key.Except = 15
keyword_number Key.Finally = 16
keyword_number Key.For = 17
keyword_number Key.From = 18
keyword_number Key.Global = 19
keyword_number Key.If = 20
keyword_number Key.Import = 21
keyword_number Key.In = 22
keyword_number Key.Is = 23
keyword_number Key.Lambda = 24
keyword_number Key.Nonlocal = 25
keyword_number Key.Not = 26
keyword_number Key.Or = 27
keyword_number Key.Pass = 28
keyword_number Key.Raise = 29
keyword_number Key.Return = 30
keyword_number Key.Try = 31
keyword_number Key.While = 32
keyword_number Key.With = 33
keyword_number Key.Yield = 34

abbrev pub is_op : Exact → Terminal → Option ℕ
is_op x (Op y) = cond (exact_number y == exact_number x) (Some 0) None
is_op x _ = None

abbrev pub is_word : Keyword → Terminal → Option ℕ
is_word x (Word y) = cond (keyword_number y == keyword_number x) (Some 0) None
is_word x _ = None

abbrev pub name_in : Terminal → Option (List ℕ)
name_in (Ident x) = Some x.form
name_in _ = None

abbrev pub literal_in : Terminal → Option Value
literal_in (Literal v) = Some v
literal_in _ = None

abbrev pub text_in : Terminal → Option (List ℕ)
text_in (FormattedText t) = Some t
text_in _ = None

abbrev pub conversion_in : Terminal → Option Conversion
conversion_in (FieldBegin c) = Some c
conversion_in _ = None

abbrev pub is_formatted_begin : Terminal → Option ℕ
is_formatted_begin FormattedBegin = Some 0
is_formatted_begin _ = None

abbrev pub is_formatted_end : Terminal → Option ℕ
is_formatted_end FormattedEnd = Some 0
is_formatted_end _ = None

abbrev pub is_spec_begin : Terminal → Option ℕ
is_spec_begin SpecBegin = Some 0
is_spec_begin _ = None

abbrev pub is_field_end : Terminal → Option ℕ
is_field_end FieldEnd = Some 0
is_field_end _ = None
