use Rattle.std.proofs.Common.{refl}
use Rattle.pyplaces.specs.LineStarts.{attributes_by}
use Rattle.pyplaces.proofs.LineStartLemmas.{is_done_by}
use Rattle.pyplaces.proofs.places.PlacesLeftPlaceSource.is_done.Goals as goal

pub returns : goal.returns
returns c =
    is_done_by c.args.self.now.places.now.spans (attributes_by c.args.self.now.places.now.starts) c.len.result
    c.args.self.now.next c.len.ensures
    _ refl
