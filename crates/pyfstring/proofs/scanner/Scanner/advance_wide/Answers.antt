use Rattle.std.proofs.Common.{ap, ◌∙◌, drop, subst, sym}
use Rattle.std.specs.Str.{IsUtf8, chars}
use Rattle.pyfstring.proofs.ScannerLemmas.{rest_wide}
use Rattle.pyfstring.proofs.scanner.Scanner.advance_wide.Goals as goal

pub returns : goal.returns
returns c =
    ap chars c.as_str-self-inside.ensures
    ∙ rest_wide c.chars-left.result c.next.new.self c.next.result
    (subst IsUtf8 (sym c.chars-left.ensures.rest) c.self.invariant) c.next.ensures.steps
    ∙ ap (λ bs. drop 1 (chars bs)) c.chars-left.ensures.rest
    ∙ ap (drop 1) c.self.view_is
