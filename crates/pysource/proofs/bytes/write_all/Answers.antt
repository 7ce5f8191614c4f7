use Rattle.std.proofs.Common.{◌≡◌, drop, arith, length-drop}
use Rattle.std.proofs.lemmas.Result.{err_from_is_err_and}
use Rattle.pysource.proofs.TakenBytes.ByteLemmas.{TakesFront-at, Keeps-Appends, Appends-more, write_failures-some, slice_from}
use Rattle.pysource.specs.declared.bytes.WriteFailed.{WriteFailed}
use Rattle.pysource.proofs.bytes.write_all.Goals as goal

pub loop-at-preserved : goal.loop-at-preserved
loop-at-preserved g c =
    let e = rw (slice_from c.loop-at.at c.args.bytes.now) at c.in_ok-count.ensures in
    let some = write_failures-some WriteFailed c.in_ok-count.count (drop c.loop-at.at c.args.bytes.now) (λ h. absurd (omega (arith, h))) in
    record {
      within = omega (arith, e.bound, length-drop c.loop-at.at c.args.bytes.now);
      wrote = Appends-more _ _ _ c.loop-at.at c.in_ok-count.count _ c.loop-at.invariant.wrote e.bytes;
      counted = omega (arith, e.failed, some, c.loop-at.invariant.counted);
    }

pub returns-then-count-eq0-clause-front : goal.returns-then-count-eq0-clause-front
returns-then-count-eq0-clause-front g c =
    let none : c.in_ok-count.count ≡ 0 = omega arith in
    let e = rw none at c.in_ok-count.ensures in
    TakesFront-at _ _ _ c.loop-at.at _ c.loop-at.invariant.wrote e.bytes

pub returns-in_err-count-clause-front : goal.returns-in_err-count-clause-front
returns-in_err-count-clause-front g c =
    let p = err_from_is_err_and c.from_residual.result c.from_residual.ensures.1 in
    rw p.1 (TakesFront-at _ _ _ c.loop-at.at _ c.loop-at.invariant.wrote (Keeps-Appends _ _ c.in_err-count.ensures.bytes))
