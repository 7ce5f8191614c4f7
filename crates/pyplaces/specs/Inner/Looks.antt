-- What a terminal is after an expression and in front of one, as numbers; what follows in a list of terminals.
use Rattle.std.specs.Prelude.{ℕ, ◌==◌, List, [], ◌∷◌, Bool, true, false, cond}
use Rattle.pylex_lexeme.specs.declared.kinds.Exact.TheVariants.{LPar, LSqb, Colon, Comma, Semi, Plus, Minus, VBar, Equal, Dot, ColonEqual}
use Rattle.pylex_lexeme.specs.declared.kinds.Exact.TheVariants.{PlusEqual, MinEqual, StarEqual, SlashEqual, PercentEqual, AmperEqual}
use Rattle.pylex_lexeme.specs.declared.kinds.Exact.TheVariants.{VBarEqual, CircumflexEqual, LeftShiftEqual, RightShiftEqual}
use Rattle.pylex_lexeme.specs.declared.kinds.Exact.TheVariants.{DoubleStarEqual, DoubleSlashEqual, AtEqual, RArrow}
use Rattle.pytoken.specs.declared.keywords.Keyword.TheVariants as Key
use Rattle.pytoken.specs.Terminals.{Terminal, Op, Word, Ident, Literal, FormattedBegin}
use Rattle.pygrammar.specs.Precedence.{following, infix_rank, lead}
use Rattle.pygrammar.specs.Reader.{on_some}

-- the rank of the level at which a terminal carries on what stands before it
abbrev grip_else : Terminal → ℕ
grip_else (Op Equal) = 1
grip_else (Op Comma) = 3
grip_else (Word Key.From) = 4
grip_else (Op Colon) = 5
grip_else (Op ColonEqual) = 8
grip_else (Word Key.If) = 9
grip_else (Op Dot) = 23
grip_else (Op LPar) = 23
grip_else (Op LSqb) = 23
grip_else (Literal v) = 25
grip_else FormattedBegin = 25
grip_else _ = 0

abbrev pub grip : Terminal → ℕ
grip t = on_some (following t) infix_rank (grip_else t)

abbrev pub grip_of : List Terminal → ℕ
grip_of [] = 0
grip_of (t ∷ ts) = grip t

abbrev pub lead_of : List Terminal → ℕ
lead_of [] = 0
lead_of (t ∷ ts) = lead t

-- the terminals after the first
abbrev pub after : List Terminal → List Terminal
after [] = []
after (t ∷ ts) = ts

-- the grip of what follows a NAME
abbrev pub name_grip : List Terminal → ℕ
name_grip (Ident x ∷ (t ∷ r)) = grip t
name_grip _ = 0

abbrev pub is_named : List Terminal → Bool
is_named (Ident x ∷ r) = true
is_named _ = false

-- a `:` and a `*`
abbrev pub has_starred : List Terminal → Bool
has_starred (Op Colon ∷ r) = lead_of r == 7
has_starred _ = false

-- the first of two readings, where the first terminal has this grip, or this lead
abbrev pub on_grip : {A : Type 0} → ℕ → List Terminal → A → A → A
on_grip n r hit miss = cond (grip_of r == n) hit miss

abbrev pub on_lead : {A : Type 0} → ℕ → List Terminal → A → A → A
on_lead n r hit miss = cond (lead_of r == n) hit miss

-- ---- Patterns and lines.

-- what a terminal is after a pattern or a part of a line: what may follow a pattern of a level has at most a certain number
abbrev pub mark : Terminal → ℕ
mark (Op Semi) = 1
mark (Op RArrow) = 2
mark (Word Key.Import) = 3
mark (Op Colon) = 4
mark (Op Equal) = 5
mark (Op Comma) = 6
mark (Word Key.As) = 7
mark (Op VBar) = 8
mark (Literal v) = 9
mark FormattedBegin = 9
mark (Op Plus) = 10
mark (Op Minus) = 10
mark (Op LPar) = 11
mark (Op Dot) = 12
mark (Op PlusEqual) = 13
mark (Op MinEqual) = 13
mark (Op StarEqual) = 13
mark (Op AtEqual) = 13
mark (Op SlashEqual) = 13
mark (Op PercentEqual) = 13
mark (Op AmperEqual) = 13
mark (Op VBarEqual) = 13
mark (Op CircumflexEqual) = 13
mark (Op LeftShiftEqual) = 13
mark (Op RightShiftEqual) = 13
mark (Op DoubleStarEqual) = 13
mark (Op DoubleSlashEqual) = 13
mark (Op LSqb) = 14
mark _ = 0

abbrev pub mark_of : List Terminal → ℕ
mark_of [] = 0
mark_of (t ∷ ts) = mark t

abbrev pub on_mark : {A : Type 0} → ℕ → List Terminal → A → A → A
on_mark n r hit miss = cond (mark_of r == n) hit miss

-- the mark of what follows a NAME
abbrev pub name_mark : List Terminal → ℕ
name_mark (Ident x ∷ (t ∷ r)) = mark t
name_mark _ = 0
