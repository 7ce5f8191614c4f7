use Rattle.std.proofs.Common.{◌≡◌, ◌∙◌, ap, sym, false, slice_get, arith}
use Rattle.std.proofs.lemmas.Bool.Decides.{nat_tests}
use Rattle.pylex_lexeme.proofs.Lexemes.Signs.{sign_takes, may_go_on}
use Rattle.pylex_lexeme.proofs.lexeme.sign.Goals as goal

pub returns : goal.returns
returns c =
    let off : may_go_on c.in-Some.next ≡ false = grind (arith, nat_tests) in
    rw c.bump.ensures.rest (sign_takes c.args.text.now c.args.which c.in-Some.next c.requires
    (ap (λ cs. slice_get cs 0) (sym c.bump.ensures.rest) ∙ c.in-Some.ensures) off)
