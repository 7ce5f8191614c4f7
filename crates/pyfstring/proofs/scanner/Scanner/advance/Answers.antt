use Rattle.std.proofs.Common.{◌≡◌, ◌<◌, sym, ◌∙◌, ap, Some, slice_get, drop, arith}
use Rattle.std.specs.Str.{chars}
use Rattle.std.proofs.lemmas.Bool.Decides.{nat_tests}
use Rattle.pyfstring.proofs.ScannerLemmas.{rest_ascii, cut_ascii}
use Rattle.pyfstring.proofs.scanner.Scanner.advance.Goals as goal

pub range_from-self-inside-requires : goal.range_from-self-inside-requires
range_from-self-inside-requires c =
    let small : c.in-Some.byte.now < 128 = grind (arith, nat_tests, c.if-byte-lt128.true) in
    let here : slice_get c.self.inside.rest.now 0 ≡ Some c.in-Some.byte.now =
    sym (c.in-Some.ensures.value ∙ ap (λ bs. slice_get bs 0) c.as_bytes.ensures.value) in
    λ _. cut_ascii c.self.inside.rest.now c.in-Some.byte.now c.self.invariant here small

pub returns-in-Some : goal.returns-in-Some
returns-in-Some c =
    let small : c.in-Some.byte.now < 128 = grind (arith, nat_tests, c.if-byte-lt128.true) in
    let here : slice_get c.self.inside.rest.now 0 ≡ Some c.in-Some.byte.now =
    sym (c.in-Some.ensures.value ∙ ap (λ bs. slice_get bs 0) c.as_bytes.ensures.value) in
    ap chars c.range_from-self-inside.ensures.value
    ∙ rest_ascii c.self.inside.rest.now c.in-Some.byte.now c.self.invariant here small
    ∙ ap (drop 1) c.self.view_is
