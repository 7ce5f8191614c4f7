use Rattle.std.proofs.Common.{ap, ◌∙◌, drop, subst, sym}
use Rattle.std.specs.Str.{IsUtf8, chars}
use Rattle.pylex_lexeme.proofs.Fronts.Texts.{bump_rest}
use Rattle.pylex_lexeme.proofs.scanner.Scanner.bump_wide.Goals as goal

pub returns-clause-rest : goal.returns-clause-rest
returns-clause-rest c =
    ap chars c.as_str-self-inside.ensures
    ∙ bump_rest c.chars-left.result c.next-first.new.self c.next-first.result
    (subst IsUtf8 (sym c.chars-left.ensures.rest) c.self.invariant) c.next-first.ensures.steps
    ∙ ap (λ bs. drop 1 (chars bs)) c.chars-left.ensures.rest
    ∙ ap (drop 1) c.self.view_is
