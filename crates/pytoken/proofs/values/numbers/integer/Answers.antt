use Rattle.std.proofs.Common.{◌≡◌, ℕ, subst}
use Rattle.std.specs.Prelude.{IfOk}
use Rattle.pytoken.proofs.values.NumberLemmas.{read_below, not_past, read_whole}
use Rattle.pytoken.proofs.values.numbers.integer.Goals as goal

pub returns-in-Some : goal.returns-in-Some
returns-in-Some c =
    subst (λ (n : ℕ). IfOk c.new.result (λ made. made ≡ n))
    (read_below c.args.text.now c.digits-digits.result.now c.radix_of-radix.result c.radix_of-radix.ensures.value c.digits-digits.ensures
    c.in-Some.value c.whole.result c.whole.ensures c.in-Some.is)
    c.new.ensures.value

pub unreachable-requires : goal.unreachable-requires
unreachable-requires c =
    not_past c.args.text.now c.digits-digits.result.now c.radix_of-radix.result c.radix_of-radix.ensures.value c.digits-digits.ensures
    c.in_ok-number.field-0 c.requires c.in_ok-number.ensures c.in-None.is

pub returns : goal.returns
returns c =
    subst (λ (n : ℕ). IfOk c.of_natural.result (λ made. made ≡ n))
    (read_whole c.args.text.now c.digits-digits.result.now c.radix_of-radix.result c.radix_of-radix.ensures.value c.digits-digits.ensures
    c.in-Some-2.number c.in_ok-number.field-0 c.in_ok-number.ensures c.in-Some-2.is)
    c.of_natural.ensures.value
