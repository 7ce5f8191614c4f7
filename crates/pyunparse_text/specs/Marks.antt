-- The token that stands between each two members of a list, and operators and delimiters by their roles.
use Rattle.std.specs.Prelude.{Bool, true, false}
use Rattle.pylex_lexeme.specs.declared.kinds.Exact.{Exact}
use Rattle.pylex_lexeme.specs.declared.kinds.Exact.TheVariants.{Comma}
use Rattle.pytoken.specs.declared.keywords.Keyword.TheVariants as Key
use Rattle.pytoken.specs.Terminals.{Op}
use Rattle.pyunparse_text.specs.Written.{free, leading, tight, trailing, word}
use Rattle.pyunparse_text.specs.Pieces.{Sited, piece}
use Rattle.pyunparse_text.specs.declared.marks.Between.{Between}
use Rattle.pyunparse_text.specs.declared.marks.Between.TheVariants as between
use Rattle.pyunparse_text.specs.declared.marks.Role.{Role}
use Rattle.pyunparse_text.specs.declared.marks.Role.TheVariants as roles

abbrev pub mark : Between → Sited
mark between.Comma = trailing piece Comma
mark between.And = word piece Key.And
mark between.Or = word piece Key.Or

-- whether a token of this role keeps close to what comes before it, and to what comes after it
abbrev pub is_close_before : Role → Bool
is_close_before roles.Free = false
is_close_before roles.Leading = false
is_close_before roles.Trailing = true
is_close_before roles.Tight = true

abbrev pub is_close_after : Role → Bool
is_close_after roles.Free = false
is_close_after roles.Leading = true
is_close_after roles.Trailing = false
is_close_after roles.Tight = true

abbrev pub in_role : Role → Exact → Sited
in_role roles.Free x = free piece (Op x)
in_role roles.Leading x = leading piece x
in_role roles.Trailing x = trailing piece x
in_role roles.Tight x = tight piece x
