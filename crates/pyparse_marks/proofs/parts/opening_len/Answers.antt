use Rattle.std.proofs.Common.{ℕ, List, ◌-◌, ap₂, ap, ◌∙◌}
use Rattle.pylex_lexeme.specs.Chars.{bytes_in}
use Rattle.pyparse_marks.proofs.parts.opening_len.Goals as goal

pub returns : goal.returns
returns c =
    c.saturating_sub.ensures ∙ ap₂ (λ (a b : ℕ). a - b) c.len.ensures (c.len-2.ensures
    ∙ ap (λ (t : List ℕ). bytes_in t) c.after_opening.ensures)
