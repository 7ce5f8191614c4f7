use Rattle.std.proofs.Common.{◌≡◌, ◌<◌, sym, ◌∙◌, ap, Some, slice_get, arith}
use Rattle.std.proofs.lemmas.Bool.Decides.{nat_tests}
use Rattle.pylex_lexeme.proofs.Fronts.Runs.{first_ascii}
use Rattle.pylex_lexeme.proofs.scanner.Scanner.first_ascii.Goals as goal

pub returns-in-Some : goal.returns-in-Some
returns-in-Some c =
    let small : c.in-Some.byte.now < 128 = grind (arith, nat_tests, c.if-byte-lt128.true) in
    let here : slice_get c.self.inside.rest.now 0 ≡ Some c.in-Some.byte.now =
    sym (c.in-Some.ensures.value ∙ ap (λ bs. slice_get bs 0) c.as_bytes.ensures.value) in
    sym (ap (λ cs. slice_get cs 0) c.self.view_is) ∙ first_ascii c.self.inside.rest.now c.in-Some.byte.now c.self.invariant here small
