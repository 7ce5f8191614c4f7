use Rattle.std.proofs.Common.{sym, ◌∙◌}
use Rattle.pytoken.proofs.values.NumberLemmas.{read_past, read_all}
use Rattle.pytoken.proofs.values.numbers.whole.Goals as goal

pub returns-in_err-value : goal.returns-in_err-value
returns-in_err-value c =
    c.from_residual.ensures
    ∙ sym (read_past c.args.radix c.loop-byte.value c.loop-byte.byte-index c.args.digits.now c.requires c.loop-byte-test.true
    (sym c.one_more.ensures ∙ c.in_err-value.was) c.loop-byte.invariant.value)

pub returns : goal.returns
returns c =
    read_all c.args.radix c.loop-byte.value c.loop-byte.byte-index c.args.digits.now c.loop-byte.invariant.fits c.loop-byte-test.false
    c.loop-byte.invariant.value
