use Rattle.std.proofs.Common.{subst}
use Rattle.pytoken.specs.Inner.Readings.{AreLow}
use Rattle.pytoken.proofs.values.ClearLemmas.{clear_low}
use Rattle.pytoken.proofs.values.names.is_ascii.Goals as goal

pub returns : goal.returns
returns c = λ is. subst AreLow c.as_bytes.ensures.value (clear_low 255 255 c.as_bytes.result.now (c.are_clear.ensures is))
