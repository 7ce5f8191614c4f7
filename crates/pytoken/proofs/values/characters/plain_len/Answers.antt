use Rattle.pytoken.proofs.values.ClearLemmas.{clear_run}
use Rattle.pytoken.proofs.values.characters.plain_len.Goals as goal

pub returns-then-are_clear : goal.returns-then-are_clear
returns-then-are_clear c = clear_run c.args.raw c.args.bytes.now (c.are_clear.ensures c.if-are_clear.true)
