use Rattle.std.proofs.Common.{[], refl}
use Rattle.pygrammar.specs.Refusals.{formed_end}
use Rattle.pyparse.proofs.placed.PlacedProgress.new.Goals as goal

pub returns : goal.returns
returns c profile s =
    let holds = c.new.ensures profile s in
    record {
      forms = [];
      known = holds.known;
      last_lines = holds.last_lines;
      zs = [];
      placed = λ read. (record { formed = formed_end; are = refl }, c.new-2.ensures);
    }
