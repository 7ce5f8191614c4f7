use Rattle.std.proofs.Common.{sym}
use Rattle.std.specs.Str.{chars}
use Rattle.pyparse_tokens.proofs.OperatorLemmas.{beside_faultless}
use Rattle.pyparse_tokens.proofs.gather.fault_beside.Goals as goal

pub returns-in_default : goal.returns-in_default
returns-in_default c =
    sym (beside_faultless c.args.extent (chars c.args.source.now.text) c.args.entry.now c.requires.beside c.in_default.not-Comment)
