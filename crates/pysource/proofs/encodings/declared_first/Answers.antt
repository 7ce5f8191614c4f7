use Rattle.std.proofs.Common.{◌≡◌, sym, ◌∙◌, ◌<◌, length, arith, ap, drop}
use Rattle.pysource.specs.Cookies.{declared_here}
use Rattle.pysource.proofs.LineReading.CookiesLemmas.{declared_first_more, declared_first_at, declared_first_none, not_empty, empty}
use Rattle.std.proofs.lemmas.List.{take_rest}
use Rattle.pysource.proofs.encodings.declared_first.Goals as goal

pub returns-then-not-is_empty : goal.returns-then-not-is_empty
returns-then-not-is_empty c =
    let here : c.declared_here-here.result.now ≡ declared_here (drop c.loop-at.at c.args.bytes.now) = c.declared_here-here.ensures
    ∙ ap declared_here (take_rest c.args.bytes.now c.loop-at.at) in
    let some : 0 < length (declared_here (drop c.loop-at.at c.args.bytes.now)) =
    rw (← here) (not_empty c.declared_here-here.result.now c.is_empty.result c.is_empty.ensures c.if-not-is_empty.true) in
    here ∙ sym (declared_first_at c.args.bytes.now c.loop-at.at c.loop-at-test.true some) ∙ c.loop-at.invariant

pub loop-at-preserved : goal.loop-at-preserved
loop-at-preserved c =
    let here : c.declared_here-here.result.now ≡ declared_here (drop c.loop-at.at c.args.bytes.now) = c.declared_here-here.ensures
    ∙ ap declared_here (take_rest c.args.bytes.now c.loop-at.at) in
    let none : length (declared_here (drop c.loop-at.at c.args.bytes.now)) ≡ 0 =
    rw (← here) (empty c.declared_here-here.result.now c.is_empty.result c.is_empty.ensures c.if-not-is_empty.false) in
    sym (declared_first_more c.args.bytes.now c.loop-at.at c.loop-at-test.true none) ∙ c.loop-at.invariant

pub returns : goal.returns
returns c = sym (declared_first_none c.args.bytes.now c.loop-at.at (omega arith)) ∙ c.loop-at.invariant
