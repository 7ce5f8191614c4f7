-- The logical lines of tokens without places, as `pytoken`'s `Tokens` has those of tokens with them.
use Rattle.std.specs.Prelude.{ℕ, ◌-◌, Bool, true, false, List, [], ◌∷◌, ◌++◌, count_by}
use Rattle.pylex_listing.specs.declared.kind.Kind.TheVariants as kinds
use Rattle.pyunparse_text.specs.Tokens.{PlainToken, PlainLine}

abbrev pub is_indent : PlainToken → Bool
is_indent t = elim t.kind [ kinds.Indent ↦ true | _ ↦ false ]

abbrev pub is_dedent : PlainToken → Bool
is_dedent t = elim t.kind [ kinds.Dedent ↦ true | _ ↦ false ]

-- the levels that are open after some tokens: INDENTs less DEDENTs
abbrev pub level_after : List PlainToken → ℕ
level_after before = count_by is_indent before - count_by is_dedent before

-- the lines from a place on: the tokens before it, those of its line so far, and those after it
abbrev pub lines_from : List PlainToken → List PlainToken → List PlainToken → List PlainLine
lines_from before line [] = []
lines_from before line (t ∷ ts) = elim t.kind [
  | kinds.Newline ↦ record { level = level_after before; tokens = line } ∷ lines_from (t ∷ before) [] ts
  | kinds.Indent ↦ lines_from (t ∷ before) line ts
  | kinds.Dedent ↦ lines_from (t ∷ before) line ts
  | kinds.EndMarker ↦ lines_from (t ∷ before) line ts
  | _ ↦ lines_from (t ∷ before) (line ++ t ∷ []) ts
]
