-- How long a list counts beside a height: its tokens, an f-string as two, with the tokens of its fields.
use Rattle.std.specs.Prelude.{ℕ, suc, Bool, true, false, cond, List, [], ◌∷◌}
use Rattle.pygrammar.specs.declared.levels.Level.{Level}
use Rattle.pygrammar.specs.declared.levels.Level.TheVariants.{Slices}
use Rattle.pytoken.specs.Terminals.{Terminal, FormattedText, FieldBegin, SpecBegin, FieldEnd}

-- of an f-string its ends count
abbrev pub counts : Terminal → Bool
counts (FormattedText t) = false
counts (FieldBegin c) = false
counts SpecBegin = false
counts FieldEnd = false
counts _ = true

abbrev pub weight : List Terminal → ℕ
weight [] = 0
weight (t ∷ ts) = cond (counts t) (suc (weight ts)) (weight ts)

-- `*a` alone in a subscript is a Tuple of a Starred of a Name: one node more than the terminals count
abbrev pub slack : Level → ℕ
slack Slices = 1
slack l = 0
