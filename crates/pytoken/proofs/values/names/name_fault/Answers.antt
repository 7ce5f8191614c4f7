use Rattle.std.proofs.Common.{sym}
use Rattle.pytoken.proofs.values.NameLemmas.{name_low}
use Rattle.pytoken.proofs.values.names.name_fault.Goals as goal

pub returns-then-is_ascii : goal.returns-then-is_ascii
returns-then-is_ascii c = sym (name_low c.args.text.now (c.is_ascii.ensures c.if-is_ascii.true))
