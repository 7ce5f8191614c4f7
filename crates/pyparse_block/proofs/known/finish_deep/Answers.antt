use Rattle.pyparse_block.proofs.Callers.FinishLemmas.{high_refused, deep_refused}
use Rattle.pyparse_block.proofs.known.finish_deep.Goals as goal

pub returns-in-Ok : goal.returns-in-Ok
returns-in-Ok c profile s k forms was closes = high_refused closes was c.in-Ok.ensures.ok

pub returns-in-Ok-block_error : goal.returns-in-Ok-block_error
returns-in-Ok-block_error c profile s k forms was closes = deep_refused closes c.in-Ok-block_error.error c.in-Err.stop was
    c.in-Ok-block_error.ensures c.in-Err.ensures.blamed
