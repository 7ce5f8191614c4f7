use Rattle.std.proofs.Common.{sym}
use Rattle.pyast_fault.proofs.RowLemmas.{last_line, lines_after}
use Rattle.pyast_fault.proofs.rows.first_line.Goals as goal

pub returns-in-Some : goal.returns-in-Some
returns-in-Some c = sym (lines_after c.args.bytes.now _ c.in-Some.at c.memchr.ensures c.in-Some.is).0

pub returns-in-None : goal.returns-in-None
returns-in-None c = sym (last_line c.args.bytes.now _ c.memchr.ensures c.in-None.is).0
