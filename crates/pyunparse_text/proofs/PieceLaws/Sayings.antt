-- Terminals of tokens: the names and constants of each can be written where it stands, by which f-strings are open there.
--
-- Carries: Sayable, for Derived, OfTokens. On: Sound.
use Rattle.std.proofs.Common.{[], ◌∷◌}
use Rattle.pytree_node.specs.declared.profiles.Extent.{Extent}
use Rattle.pytoken.specs.Terminals.{Terminal, Op, Ident, Number, Literal, FormattedBegin, FormattedText, FieldBegin}
use Rattle.pytoken.specs.Laws.{IsProper}
use Rattle.pygrammar.specs.OpenStrings.{Open}
use Rattle.pyunparse_text.proofs.PieceLaws.Places.{Depth, outside, in_field, in_two}
use Rattle.pyunparse_text.proofs.PieceLaws.Fair.{IsConstant}
use Rattle.pyunparse_text.proofs.PieceLaws.Sound.{HasStrings, HasFormatted, HasFields}

-- where so many f-strings are open
abbrev pub depth_of : Open → Depth
depth_of [] = outside
depth_of (n ∷ []) = in_field
depth_of _ = in_two

-- a terminal whose name or constant can be written there, in an extent of the language; f-strings stand two deep at most
abbrev pub Sayable : Extent → Open → Terminal → Type 0
Sayable extent o (Ident x) = IsProper x.form
Sayable extent o (Number v) = IsConstant (record { extent = extent; depth = depth_of o }) v
Sayable extent o (Literal v) = IsConstant (record { extent = extent; depth = depth_of o }) v
Sayable extent o FormattedBegin = HasStrings extent (depth_of o)
Sayable extent (n ∷ o) (FormattedText t) = HasFormatted (depth_of o) n t
Sayable extent (n ∷ o) (FieldBegin c) = HasFields n
Sayable extent (k ∷ (m ∷ (n ∷ o))) (Op x) = ⊥
Sayable extent o _ = Unit {0}
