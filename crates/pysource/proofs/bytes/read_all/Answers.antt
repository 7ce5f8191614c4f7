use Rattle.std.proofs.Common.{◌<◌, ◌++◌, length, take, arith, length-append}
use Rattle.pysource.proofs.TakenBytes.ByteLemmas.{Consumes-append}
use Rattle.pysource.specs.Limits.{source_limit}
use Rattle.pysource.proofs.bytes.read_all.Goals as goal

pub returns-then-n-len-clause-read : goal.returns-then-n-len-clause-read
returns-then-n-len-clause-read g c =
    let e = rw c.in-Ok.is at c.read.ensures in
    let more = take c.in-Ok.n c.read.new.buf in
    let long : source_limit < length (c.loop-all.all.items ++ more) = omega (
      arith,
      e.bound.1,
      length-append c.loop-all.all.items more,
      c.loop-all.all.ok.0,
      c.if-n-len.true,
    ) in
    λ read same. (c.loop-all.all.items ++ more, long, Consumes-append _ _ _ _ _ c.loop-all.invariant.gave e.bytes.0)

pub returns-then-n-len-clause-gave : goal.returns-then-n-len-clause-gave
returns-then-n-len-clause-gave g c =
    let e = rw c.in-Ok.is at c.read.ensures in
    (c.loop-all.all.items ++ take c.in-Ok.n c.read.new.buf, Consumes-append _ _ _ _ _ c.loop-all.invariant.gave e.bytes.0)

pub returns-then-is_err-clause-gave : goal.returns-then-is_err-clause-gave
returns-then-is_err-clause-gave g c =
    let e = rw c.in-Ok.is at c.read.ensures in
    (c.loop-all.all.items ++ take c.in-Ok.n c.read.new.buf, Consumes-append _ _ _ _ _ c.loop-all.invariant.gave e.bytes.0)
