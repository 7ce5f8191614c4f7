use Rattle.std.proofs.Common.{sym, ◌∙◌, ap, ◌&&◌, nat_lt}
use Rattle.pylex_lexeme.specs.Chars.{has}
use Rattle.pylex_lexeme.proofs.Fronts.NameBytes.{name_byte}
use Rattle.pylex_lexeme.proofs.scanner.CharSet.has_byte.Goals as goal

pub returns-in-NamePart : goal.returns-in-NamePart
returns-in-NamePart c =
    c.is_name_byte.ensures ∙ name_byte c.args.byte ∙ ap (λ s. nat_lt c.args.byte 128 && has s c.args.byte) (sym c.in-NamePart.is)
