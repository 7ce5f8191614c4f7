use Rattle.std.proofs.Common.{take, refl, arith}
use Rattle.std.specs.Str.{chars}
use Rattle.pylex.proofs.Listers.Finding.{comes_on, stays_there}
use Rattle.pylex.proofs.Listers.Moving.{ascending-take}
use Rattle.pylex.proofs.machine.Machine.look_on.Goals as goal

pub settle-requires-clause-ascending : goal.settle-requires-clause-ascending
settle-requires-clause-ascending c =
    rw c.as_slice.ensures.value (ascending-take 0 c.args.self.now.nested c.args.self.now.levels.items c.requires.place.ascending)

pub returns-then-self-gt0 : goal.returns-then-self-gt0
returns-then-self-gt0 c =
    let p = c.args.self.now in
    record {
      rest = refl;
      comes = stays_there (take p.nested p.levels.items) p.now (chars c.args.text.now);
      stands = c.requires.stands;
      stays = λ _. (refl, refl);
    }

pub returns : goal.returns
returns c =
    let p = c.args.self.now in
    let ls = take p.nested p.levels.items in
    let settled = rw c.as_slice.ensures.value at c.settle.ensures.comes in
    record {
      rest = refl;
      comes = comes_on ls p.now (chars c.args.text.now) c.past_spaces-left.new.now (chars c.past_spaces-left.result.now) c.settle.new.now
          (chars c.past_spaces-left.result.now) (c.past_spaces-left.ensures.comes ls) settled;
      stands = c.settle.ensures.stands;
      stays = λ more. absurd (omega (arith, more));
    }
