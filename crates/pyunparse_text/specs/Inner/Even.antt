-- Where an entry ends a line, the next one's blanks are as wide, whichever way tabs count.
use Rattle.std.specs.Prelude.{ℕ, Bool, true, List}
use Rattle.std.specs.List.{list_all}
use Rattle.pylex_listing.specs.declared.kind.Kind.{Kind}
use Rattle.pylex_listing.specs.declared.kind.Kind.TheVariants as kinds
use Rattle.pytoken.specs.Indentation.{margin_at}
use Rattle.pyunparse_text.specs.Tokens.{is_even}

-- by the entry's type and the offset of its end
abbrev pub ends_evenly : List ℕ → Kind → ℕ → Bool
ends_evenly text k o = elim k [
  | kinds.Newline ↦ list_all is_even (margin_at text o)
  | kinds.Nl ↦ list_all is_even (margin_at text o)
  | _ ↦ true
]
