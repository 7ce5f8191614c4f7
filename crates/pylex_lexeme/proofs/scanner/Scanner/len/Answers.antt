use Rattle.std.proofs.Common.{ap, ◌∙◌, length}
use Rattle.std.specs.Str.{encode_utf8_all}
use Rattle.pylex_lexeme.proofs.Fronts.Texts.{length-text}
use Rattle.pylex_lexeme.proofs.scanner.Scanner.len.Goals as goal

pub returns : goal.returns
returns c = length-text c.self.inside.rest.now c.self.invariant ∙ ap (λ cs. length (encode_utf8_all cs)) c.self.view_is
