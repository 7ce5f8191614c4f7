use Rattle.pytoken.proofs.values.ClearLemmas.{block_clear}
use Rattle.pytoken.proofs.values.clear_bytes.block_is_clear.Goals as goal

pub returns : goal.returns
returns g c none = block_clear c.args.bytes.now c.args.at g.row.N c.args.one c.args.other c.requires.room c.requires.few none
