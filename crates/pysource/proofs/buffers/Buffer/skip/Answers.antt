use Rattle.std.proofs.Common.{◌∙◌, ap, length, drop, ◌-◌, arith}
use Rattle.std.proofs.lemmas.List.{length-take}
use Rattle.pysource.proofs.TakenBytes.BufferLemmas.{skip_view}
use Rattle.pysource.proofs.buffers.Buffer.skip.Goals as goal

pub returns : goal.returns
returns c =
    let at = c.self.inside in
    let size = length-take (at.to - at.from) (drop at.from at.room.items) in
    skip_view at.room.items at.from at.to c.args.count (omega (arith, size, ap length c.self.view_is, c.requires))
    ∙ ap (drop c.args.count) c.self.view_is
