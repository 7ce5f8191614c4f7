use Rattle.std.proofs.Common.{sym}
use Rattle.pytoken.proofs.values.strings.has_three.Goals as goal

pub returns-then-begins_apart : goal.returns-then-begins_apart
returns-then-begins_apart c = sym (c.begins_apart.ensures c.if-begins_apart.true)
