use Rattle.std.proofs.Common.{refl}
use Rattle.pyunparse.proofs.headers.put_star.Goals as goal

pub returns-then-is_star : goal.returns-then-is_star
returns-then-is_star g c = rw c.if-is_star.true c.put_sign.ensures

pub returns : goal.returns
returns g c = rw c.if-is_star.false refl
