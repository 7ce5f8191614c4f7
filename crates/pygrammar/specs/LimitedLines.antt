-- The reader of a logical line within a height: each expression is read with one level more of room, and the form is checked last.
use Rattle.std.specs.Prelude.{ℕ, suc, List, length, Bool, cond, leb}
use Rattle.pytree_node.specs.declared.profiles.Profile.{Profile}
use Rattle.pytoken.specs.Terminals.{Terminal}
use Rattle.pygrammar.specs.Reader.{Answer, Found, NoForm, TooDeep}
use Rattle.pygrammar.specs.Capped.{capped}
use Rattle.pygrammar.specs.Lines.{Form}
use Rattle.pygrammar.specs.FormHeights.{form_height}
use Rattle.pygrammar.specs.LineReader.{line_at}
use Rattle.pygrammar.specs.PatternReader.{capped_pattern}

-- what is higher than d is refused
abbrev pub cap_form : ℕ → Answer Form → Answer Form
cap_form d (Found f r) = cond (leb (form_height f) d) (Found f r) TooDeep
cap_form d NoForm = NoForm
cap_form d TooDeep = TooDeep

-- up to height d
abbrev pub limit_line : Profile → Bool → ℕ → List Terminal → Answer Form
limit_line profile inside d ts =
    cap_form d (line_at profile (capped (suc (length ts)) (suc d)) (capped_pattern (suc (length ts)) (suc d)) inside ts)
