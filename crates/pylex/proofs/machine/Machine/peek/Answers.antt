use Rattle.pylex.proofs.Listers.Moving.{ascending-take}
use Rattle.pylex.proofs.machine.Machine.peek.Goals as goal

pub peek-requires-clause-ascending : goal.peek-requires-clause-ascending
peek-requires-clause-ascending c =
    rw c.as_slice.ensures.value (ascending-take 0 c.args.self.now.nested c.args.self.now.levels.items c.requires.ascending)
