use Rattle.pytoken.proofs.values.NumberLemmas.{within, past_plain, past_whole}
use Rattle.pytoken.proofs.values.numbers.is_too_large.Goals as goal

pub returns-then-is_some : goal.returns-then-is_some
returns-then-is_some c =
    within c.args.extent c.args.text.now c.digits-digits.result.now c.radix_of-radix.result
    c.radix_of-radix.ensures.value c.digits-digits.ensures
    c.whole.result c.whole.ensures c.if-is_some.ensures

pub returns-in-Plain : goal.returns-in-Plain
returns-in-Plain c =
    past_plain c.args.extent c.args.text.now c.digits-digits.result.now c.radix_of-radix.result c.radix_of-radix.ensures.value
    c.digits-digits.ensures c.whole.result c.whole.ensures c.if-is_some.ensures c.in-Plain.is

pub returns-in_ok-read-in-Whole : goal.returns-in_ok-read-in-Whole
returns-in_ok-read-in-Whole c =
    past_whole c.args.extent c.args.text.now c.digits-digits.result.now c.radix_of-radix.result c.radix_of-radix.ensures.value
    c.digits-digits.ensures c.in_ok-read-in-Whole.field-0 c.is_none.result c.is_none.ensures c.in_ok-read-in-Whole.ensures c.in-Whole.is
