-- The 47 operators and delimiters, with their names (reference 2.5 and 2.6, `token`).
use Rattle.std.specs.Prelude.{ℕ, Bool, true, false, List, [], ◌∷◌, codes, Option, is_some, option_map}
use Rattle.std.specs.List.{find}
use Rattle.std.specs.Str.{bytes_eq}
use Rattle.pylex_lexeme.specs.declared.kinds.Exact.{Exact}
use Rattle.pylex_lexeme.specs.declared.kinds.Exact.TheVariants.{LPar, RPar, LSqb, RSqb, LBrace, RBrace, Colon, Comma, Semi, Plus, Minus}
use Rattle.pylex_lexeme.specs.declared.kinds.Exact.TheVariants.{Star, Slash, VBar, Amper, Less, Greater, Equal, Dot, Percent, EqEqual}
use Rattle.pylex_lexeme.specs.declared.kinds.Exact.TheVariants.{NotEqual, LessEqual, GreaterEqual, Tilde, Circumflex, LeftShift, RightShift}
use Rattle.pylex_lexeme.specs.declared.kinds.Exact.TheVariants.{DoubleStar, PlusEqual, MinEqual, StarEqual, SlashEqual, PercentEqual}
use Rattle.pylex_lexeme.specs.declared.kinds.Exact.TheVariants.{AmperEqual, VBarEqual, CircumflexEqual, LeftShiftEqual, RightShiftEqual}
use Rattle.pylex_lexeme.specs.declared.kinds.Exact.TheVariants.{DoubleStarEqual, DoubleSlash, DoubleSlashEqual, At, AtEqual, RArrow}
use Rattle.pylex_lexeme.specs.declared.kinds.Exact.TheVariants.{Ellipsis, ColonEqual}

pub record Operator : Type 0 where
  pub spelling : List ℕ
  pub exact : Exact

abbrev op : List ℕ → Exact → Operator
op t e = record { spelling = t; exact = e }

unfoldable pub operators : List Operator
operators =
    op (codes "(") LPar ∷ op (codes ")") RPar ∷ op (codes "[") LSqb ∷ op (codes "]") RSqb ∷
    op (codes "{") LBrace ∷ op (codes "}") RBrace ∷ op (codes ":") Colon ∷ op (codes ",") Comma ∷
    op (codes ";") Semi ∷ op (codes "+") Plus ∷ op (codes "-") Minus ∷ op (codes "*") Star ∷
    op (codes "/") Slash ∷ op (codes "|") VBar ∷ op (codes "&") Amper ∷ op (codes "<") Less ∷
    op (codes ">") Greater ∷ op (codes "=") Equal ∷ op (codes ".") Dot ∷ op (codes "%") Percent ∷
    op (codes "==") EqEqual ∷ op (codes "!=") NotEqual ∷ op (codes "<=") LessEqual ∷ op (codes ">=") GreaterEqual ∷
    op (codes "~") Tilde ∷ op (codes "^") Circumflex ∷ op (codes "<<") LeftShift ∷ op (codes ">>") RightShift ∷
    op (codes "**") DoubleStar ∷ op (codes "+=") PlusEqual ∷ op (codes "-=") MinEqual ∷ op (codes "*=") StarEqual ∷
    op (codes "/=") SlashEqual ∷ op (codes "%=") PercentEqual ∷ op (codes "&=") AmperEqual ∷ op (codes "|=") VBarEqual ∷
    op (codes "^=") CircumflexEqual ∷ op (codes "<<=") LeftShiftEqual ∷ op (codes ">>=") RightShiftEqual ∷ op
    (codes "**=") DoubleStarEqual ∷
    op (codes "//") DoubleSlash ∷ op (codes "//=") DoubleSlashEqual ∷ op (codes "@") At ∷ op (codes "@=") AtEqual ∷
    op (codes "->") RArrow ∷ op (codes "...") Ellipsis ∷ op (codes ":=") ColonEqual ∷
    []

-- the name of an operator
unfoldable pub exact_of : List ℕ → Option Exact
exact_of t = option_map (λ o. o.exact) (find (λ o. bytes_eq t o.spelling) operators)

unfoldable pub is_operator : List ℕ → Bool
is_operator t = is_some (exact_of t)

-- how an operator or delimiter is written; `exact_of` gives it again
abbrev pub exact_text : Exact → List ℕ
exact_text LPar = codes "("
exact_text RPar = codes ")"
exact_text LSqb = codes "["
exact_text RSqb = codes "]"
exact_text LBrace = codes "{"
exact_text RBrace = codes "}"
exact_text Colon = codes ":"
exact_text Comma = codes ","
exact_text Semi = codes ";"
exact_text Plus = codes "+"
exact_text Minus = codes "-"
exact_text Star = codes "*"
exact_text Slash = codes "/"
exact_text VBar = codes "|"
exact_text Amper = codes "&"
exact_text Less = codes "<"
exact_text Greater = codes ">"
exact_text Equal = codes "="
exact_text Dot = codes "."
exact_text Percent = codes "%"
exact_text EqEqual = codes "=="
exact_text NotEqual = codes "!="
exact_text LessEqual = codes "<="
exact_text GreaterEqual = codes ">="
exact_text Tilde = codes "~"
exact_text Circumflex = codes "^"
exact_text LeftShift = codes "<<"
exact_text RightShift = codes ">>"
exact_text DoubleStar = codes "**"
exact_text PlusEqual = codes "+="
exact_text MinEqual = codes "-="
exact_text StarEqual = codes "*="
exact_text SlashEqual = codes "/="
exact_text PercentEqual = codes "%="
exact_text AmperEqual = codes "&="
exact_text VBarEqual = codes "|="
exact_text CircumflexEqual = codes "^="
exact_text LeftShiftEqual = codes "<<="
exact_text RightShiftEqual = codes ">>="
exact_text DoubleStarEqual = codes "**="
exact_text DoubleSlash = codes "//"
exact_text DoubleSlashEqual = codes "//="
exact_text At = codes "@"
exact_text AtEqual = codes "@="
exact_text RArrow = codes "->"
exact_text Ellipsis = codes "..."
exact_text ColonEqual = codes ":="

-- the brackets: parentheses, square brackets and braces (reference 2.6)
abbrev pub is_opener : Exact → Bool
is_opener e = elim e [ LPar ↦ true | LSqb ↦ true | LBrace ↦ true | _ ↦ false ]

abbrev pub is_closer : Exact → Bool
is_closer e = elim e [ RPar ↦ true | RSqb ↦ true | RBrace ↦ true | _ ↦ false ]

-- the exact name that the module `token` gives an operator
abbrev pub exact_name : Exact → List ℕ
exact_name LPar = codes "LPAR"
exact_name RPar = codes "RPAR"
exact_name LSqb = codes "LSQB"
exact_name RSqb = codes "RSQB"
exact_name LBrace = codes "LBRACE"
exact_name RBrace = codes "RBRACE"
exact_name Colon = codes "COLON"
exact_name Comma = codes "COMMA"
exact_name Semi = codes "SEMI"
exact_name Plus = codes "PLUS"
exact_name Minus = codes "MINUS"
exact_name Star = codes "STAR"
exact_name Slash = codes "SLASH"
exact_name VBar = codes "VBAR"
exact_name Amper = codes "AMPER"
exact_name Less = codes "LESS"
exact_name Greater = codes "GREATER"
exact_name Equal = codes "EQUAL"
exact_name Dot = codes "DOT"
exact_name Percent = codes "PERCENT"
exact_name EqEqual = codes "EQEQUAL"
exact_name NotEqual = codes "NOTEQUAL"
exact_name LessEqual = codes "LESSEQUAL"
exact_name GreaterEqual = codes "GREATEREQUAL"
exact_name Tilde = codes "TILDE"
exact_name Circumflex = codes "CIRCUMFLEX"
exact_name LeftShift = codes "LEFTSHIFT"
exact_name RightShift = codes "RIGHTSHIFT"
exact_name DoubleStar = codes "DOUBLESTAR"
exact_name PlusEqual = codes "PLUSEQUAL"
exact_name MinEqual = codes "MINEQUAL"
exact_name StarEqual = codes "STAREQUAL"
exact_name SlashEqual = codes "SLASHEQUAL"
exact_name PercentEqual = codes "PERCENTEQUAL"
exact_name AmperEqual = codes "AMPEREQUAL"
exact_name VBarEqual = codes "VBAREQUAL"
exact_name CircumflexEqual = codes "CIRCUMFLEXEQUAL"
exact_name LeftShiftEqual = codes "LEFTSHIFTEQUAL"
exact_name RightShiftEqual = codes "RIGHTSHIFTEQUAL"
exact_name DoubleStarEqual = codes "DOUBLESTAREQUAL"
exact_name DoubleSlash = codes "DOUBLESLASH"
exact_name DoubleSlashEqual = codes "DOUBLESLASHEQUAL"
exact_name At = codes "AT"
exact_name AtEqual = codes "ATEQUAL"
exact_name RArrow = codes "RARROW"
exact_name Ellipsis = codes "ELLIPSIS"
exact_name ColonEqual = codes "COLONEQUAL"
