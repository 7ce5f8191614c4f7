use Rattle.std.proofs.Common.{ap, ◌∙◌}
use Rattle.std.specs.Str.{chars}
use Rattle.pytoken.specs.Escapes.{escape_fault}
use Rattle.pytoken.specs.TerminalOf.{text_part}
use Rattle.pytoken.proofs.values.PieceLemmas.{without_pairs, with_pairs}
use Rattle.pytoken.proofs.values.text_pieces.TextPiece.fault.Goals as goal

pub returns-then-not-self : goal.returns-then-not-self
returns-then-not-self c =
    c.escape_fault.ensures ∙ ap escape_fault (without_pairs (text_part c.args.self) c.new.result c.if-not-self.true c.new.ensures)

pub returns : goal.returns
returns c =
    c.escape_fault-2.ensures
    ∙ ap escape_fault (with_pairs (text_part c.args.self) (chars c.as_str.result.now) c.new-2.result c.if-not-self.false
    (ap chars c.as_str.ensures.value ∙ c.in_ok-text.ensures) c.new-2.ensures)
