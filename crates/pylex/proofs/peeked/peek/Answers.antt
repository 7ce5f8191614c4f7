use Rattle.std.proofs.Common.{[], refl}
use Rattle.std.specs.Str.{chars}
use Rattle.pylex.proofs.Listers.Finding.{stays_there}
use Rattle.pylex.proofs.peeked.peek.Goals as goal

pub returns-then-tail-gt0-clause-finds : goal.returns-then-tail-gt0-clause-finds
returns-then-tail-gt0-clause-finds c = (
  stays_there c.args.levels.now c.args.start (chars c.args.text.now),
  c.requires.stop c.if-tail-gt0.true,
)

pub returns-then-tail-gt0-clause-following : goal.returns-then-tail-gt0-clause-following
returns-then-tail-gt0-clause-following c = ([], refl)
