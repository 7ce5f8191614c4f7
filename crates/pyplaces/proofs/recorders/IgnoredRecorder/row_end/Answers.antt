use Rattle.std.proofs.Common.{refl}
use Rattle.pyplaces.proofs.recorders.IgnoredRecorder.row_end.Goals as goal

pub returns : goal.returns
returns c = λ first. record { is = λ w. refl }
