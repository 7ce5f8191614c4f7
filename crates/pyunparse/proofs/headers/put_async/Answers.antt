use Rattle.std.proofs.Common.{refl}
use Rattle.pyunparse.proofs.headers.put_async.Goals as goal

pub returns-then-is_async : goal.returns-then-is_async
returns-then-is_async g c = rw c.if-is_async.true c.put_word.ensures

pub returns : goal.returns
returns g c = rw c.if-is_async.false refl
