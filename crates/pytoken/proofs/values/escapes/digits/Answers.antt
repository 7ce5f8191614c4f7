use Rattle.std.proofs.Common.{sym, ◌∙◌, arith}
use Rattle.pytoken.proofs.values.DigitLemmas.{far_start, far_fits, far_on, far_end, no_digits, none_wanted}
use Rattle.pytoken.proofs.values.escapes.digits.Goals as goal

pub overflow_mul-value : goal.overflow_mul-value
overflow_mul-value c =
    let fits = far_fits c.args.radix c.args.most c.loop-count.count c.loop-count.value c.in-Some.digit c.loop-count.text c.args.text.now
    c.loop-count.invariant c.loop-count-test.true c.requires.most c.requires.high (sym c.digit.ensures ∙ c.in-Some.is) in
    omega (arith, fits.0)

pub overflow_add-value : goal.overflow_add-value
overflow_add-value c =
    let fits = far_fits c.args.radix c.args.most c.loop-count.count c.loop-count.value c.in-Some.digit c.loop-count.text c.args.text.now
    c.loop-count.invariant c.loop-count-test.true c.requires.most c.requires.high (sym c.digit.ensures ∙ c.in-Some.is) in
    omega (arith, fits.1)

pub loop-count-init : goal.loop-count-init
loop-count-init c = far_start c.args.radix c.args.most c.args.text.now

pub loop-count-preserved : goal.loop-count-preserved
loop-count-preserved c =
    far_on c.args.radix c.args.most c.loop-count.count c.loop-count.value c.in-Some.digit c.loop-count.text c.args.text.now c.bump.new.self
    c.loop-count.invariant c.loop-count-test.true c.requires.high (sym c.digit.ensures ∙ c.in-Some.is) c.bump.ensures.rest

pub returns-in_default : goal.returns-in_default
returns-in_default c =
    let far = c.loop-count.invariant in
    let end = far_end c.args.radix c.args.most c.loop-count.count c.loop-count.value c.loop-count.text c.args.text.now far
    (no_digits c.args.radix far.left c.loop-count.text (sym c.digit.ensures ∙ c.in_default.is)) in
    record { count = end.0; value = end.1; following = end.2 }

pub returns-after-loop-count : goal.returns-after-loop-count
returns-after-loop-count c =
    let far = c.loop-count.invariant in
    let end = far_end c.args.radix c.args.most c.loop-count.count c.loop-count.value c.loop-count.text c.args.text.now far
    (none_wanted c.args.radix c.args.most c.loop-count.count c.loop-count.value c.loop-count.text c.args.text.now far
    c.loop-count-test.false) in
    record { count = end.0; value = end.1; following = end.2 }
