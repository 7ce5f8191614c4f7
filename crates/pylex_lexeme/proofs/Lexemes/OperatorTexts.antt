-- Carries: what callers cite. The text of an operator is that of no
-- other, and all its characters are of Unicode.
use Rattle.std.proofs.Common.{◌≡◌, Some, true, refl}
use Rattle.std.specs.Str.{all_scalars}
use Rattle.pylex_lexeme.specs.declared.kinds.Exact.{Exact}
use Rattle.pylex_lexeme.specs.declared.kinds.Exact.TheVariants.{LPar, RPar, LSqb, RSqb, LBrace, RBrace, Colon, Comma, Semi, Plus, Minus}
use Rattle.pylex_lexeme.specs.declared.kinds.Exact.TheVariants.{Star, Slash, VBar, Amper, Less, Greater, Equal, Dot, Percent, EqEqual}
use Rattle.pylex_lexeme.specs.declared.kinds.Exact.TheVariants.{NotEqual, LessEqual, GreaterEqual, Tilde, Circumflex, LeftShift, RightShift}
use Rattle.pylex_lexeme.specs.declared.kinds.Exact.TheVariants.{DoubleStar, PlusEqual, MinEqual, StarEqual, SlashEqual, PercentEqual}
use Rattle.pylex_lexeme.specs.declared.kinds.Exact.TheVariants.{AmperEqual, VBarEqual, CircumflexEqual, LeftShiftEqual, RightShiftEqual}
use Rattle.pylex_lexeme.specs.declared.kinds.Exact.TheVariants.{DoubleStarEqual, DoubleSlash, DoubleSlashEqual, At, AtEqual, RArrow}
use Rattle.pylex_lexeme.specs.declared.kinds.Exact.TheVariants.{Ellipsis, ColonEqual}
use Rattle.pylex_lexeme.specs.Operators.{exact_of, exact_text, operators}

-- the name that an operator's text gives is its own
pub exact_of_text : (x : Exact) → exact_of (exact_text x) ≡ Some x
unfolding exact_of operators
exact_of_text LPar = refl
exact_of_text RPar = refl
exact_of_text LSqb = refl
exact_of_text RSqb = refl
exact_of_text LBrace = refl
exact_of_text RBrace = refl
exact_of_text Colon = refl
exact_of_text Comma = refl
exact_of_text Semi = refl
exact_of_text Plus = refl
exact_of_text Minus = refl
exact_of_text Star = refl
exact_of_text Slash = refl
exact_of_text VBar = refl
exact_of_text Amper = refl
exact_of_text Less = refl
exact_of_text Greater = refl
exact_of_text Equal = refl
exact_of_text Dot = refl
exact_of_text Percent = refl
exact_of_text EqEqual = refl
exact_of_text NotEqual = refl
exact_of_text LessEqual = refl
exact_of_text GreaterEqual = refl
exact_of_text Tilde = refl
exact_of_text Circumflex = refl
exact_of_text LeftShift = refl
exact_of_text RightShift = refl
exact_of_text DoubleStar = refl
exact_of_text PlusEqual = refl
exact_of_text MinEqual = refl
exact_of_text StarEqual = refl
exact_of_text SlashEqual = refl
exact_of_text PercentEqual = refl
exact_of_text AmperEqual = refl
exact_of_text VBarEqual = refl
exact_of_text CircumflexEqual = refl
exact_of_text LeftShiftEqual = refl
exact_of_text RightShiftEqual = refl
exact_of_text DoubleStarEqual = refl
exact_of_text DoubleSlash = refl
exact_of_text DoubleSlashEqual = refl
exact_of_text At = refl
exact_of_text AtEqual = refl
exact_of_text RArrow = refl
exact_of_text Ellipsis = refl
exact_of_text ColonEqual = refl

pub exact_scalars : (x : Exact) → all_scalars (exact_text x) ≡ true
exact_scalars LPar = refl
exact_scalars RPar = refl
exact_scalars LSqb = refl
exact_scalars RSqb = refl
exact_scalars LBrace = refl
exact_scalars RBrace = refl
exact_scalars Colon = refl
exact_scalars Comma = refl
exact_scalars Semi = refl
exact_scalars Plus = refl
exact_scalars Minus = refl
exact_scalars Star = refl
exact_scalars Slash = refl
exact_scalars VBar = refl
exact_scalars Amper = refl
exact_scalars Less = refl
exact_scalars Greater = refl
exact_scalars Equal = refl
exact_scalars Dot = refl
exact_scalars Percent = refl
exact_scalars EqEqual = refl
exact_scalars NotEqual = refl
exact_scalars LessEqual = refl
exact_scalars GreaterEqual = refl
exact_scalars Tilde = refl
exact_scalars Circumflex = refl
exact_scalars LeftShift = refl
exact_scalars RightShift = refl
exact_scalars DoubleStar = refl
exact_scalars PlusEqual = refl
exact_scalars MinEqual = refl
exact_scalars StarEqual = refl
exact_scalars SlashEqual = refl
exact_scalars PercentEqual = refl
exact_scalars AmperEqual = refl
exact_scalars VBarEqual = refl
exact_scalars CircumflexEqual = refl
exact_scalars LeftShiftEqual = refl
exact_scalars RightShiftEqual = refl
exact_scalars DoubleStarEqual = refl
exact_scalars DoubleSlash = refl
exact_scalars DoubleSlashEqual = refl
exact_scalars At = refl
exact_scalars AtEqual = refl
exact_scalars RArrow = refl
exact_scalars Ellipsis = refl
exact_scalars ColonEqual = refl
