use Rattle.pygrammar.specs.Refusals.{formed_end}
use Rattle.pyparse_block.proofs.Callers.ProgressLemmas.{none_deep}
use Rattle.pyparse_block.proofs.known.Known.new.Goals as goal

pub returns : goal.returns
returns c profile s = record { formed = formed_end; follows = c.new.ensures; read = c.new-2.ensures.read; low = none_deep }
