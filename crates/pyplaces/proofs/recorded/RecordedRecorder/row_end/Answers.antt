use Rattle.std.proofs.Common.{ap}
use Rattle.pyplaces.specs.Recording.{recorded}
use Rattle.pyplaces.specs.Stretches.{stretch}
use Rattle.pyplaces.proofs.recorded.RecordedRecorder.row_end.Goals as goal

pub returns : goal.returns
returns c = λ first. record { is = λ w. ap (λ z. recorded w (stretch first z)) c.row_end.ensures }
