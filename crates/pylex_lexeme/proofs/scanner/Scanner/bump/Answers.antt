use Rattle.std.proofs.Common.{◌≡◌, ◌<◌, sym, ◌∙◌, ap, Some, slice_get, drop, arith}
use Rattle.std.specs.Str.{chars}
use Rattle.std.proofs.lemmas.Bool.Decides.{nat_tests}
use Rattle.pylex_lexeme.proofs.Fronts.Runs.{first_ascii, rest_ascii, cut_ascii}
use Rattle.pylex_lexeme.proofs.scanner.Scanner.bump.Goals as goal

pub range_from-self-inside-requires : goal.range_from-self-inside-requires
range_from-self-inside-requires c =
    let small : c.in-Some.byte.now < 128 = grind (arith, nat_tests, c.if-byte-lt128.true) in
    let here : slice_get c.self.inside.rest.now 0 ≡ Some c.in-Some.byte.now =
    sym (c.in-Some.ensures.value ∙ ap (λ bs. slice_get bs 0) c.as_bytes.ensures.value) in
    λ _. cut_ascii c.self.inside.rest.now c.in-Some.byte.now c.self.invariant here small

pub returns-in-Some-clause-first : goal.returns-in-Some-clause-first
returns-in-Some-clause-first c =
    let small : c.in-Some.byte.now < 128 = grind (arith, nat_tests, c.if-byte-lt128.true) in
    let here : slice_get c.self.inside.rest.now 0 ≡ Some c.in-Some.byte.now =
    sym (c.in-Some.ensures.value ∙ ap (λ bs. slice_get bs 0) c.as_bytes.ensures.value) in
    sym (first_ascii c.self.inside.rest.now c.in-Some.byte.now c.self.invariant here small) ∙ ap (λ cs. slice_get cs 0) c.self.view_is

pub returns-in-Some-clause-rest : goal.returns-in-Some-clause-rest
returns-in-Some-clause-rest c =
    let small : c.in-Some.byte.now < 128 = grind (arith, nat_tests, c.if-byte-lt128.true) in
    let here : slice_get c.self.inside.rest.now 0 ≡ Some c.in-Some.byte.now =
    sym (c.in-Some.ensures.value ∙ ap (λ bs. slice_get bs 0) c.as_bytes.ensures.value) in
    ap chars c.range_from-self-inside.ensures.value
    ∙ rest_ascii c.self.inside.rest.now c.in-Some.byte.now c.self.invariant here small
    ∙ ap (drop 1) c.self.view_is
